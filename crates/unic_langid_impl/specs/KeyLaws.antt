-- Keys of the likely tables that tie in their order are the same.
use Rattle.std.proofs.Common.{◌≡◌, ℕ, List, Option, Some, None, Ordering, refl, ap}
use Rattle.std.specs.FinMap.{nat_cmp-IsAntisymmetric, slice_cmp-IsAntisymmetric}
use Rattle.std.specs.Ordering.{ordering_then}
use Rattle.std.specs.declared.cmp.Ordering.TheVariants.{Less, Equal, Greater}
use Rattle.unic_langid_impl.specs.Identifier.{text_cmp}
use Rattle.unic_langid_impl.specs.Likely.{language_cmp, language_pair_cmp, pair_cmp}

pub texts_tie : (x y : List ℕ) → text_cmp x y ≡ Equal → x ≡ y
texts_tie = slice_cmp-IsAntisymmetric nat_cmp-IsAntisymmetric

pub options_tie : (p q : Option (List ℕ)) → language_cmp p q ≡ Equal → p ≡ q
options_tie None None e = refl
options_tie None (Some y) e = cc
options_tie (Some x) None e = cc
options_tie (Some x) (Some y) e = ap Some (texts_tie x y e)

first_ties : (r s : Ordering) → ordering_then r s ≡ Equal → r ≡ Equal
first_ties Less s e = e
first_ties Equal s e = refl
first_ties Greater s e = e

second_ties : (r s : Ordering) → ordering_then r s ≡ Equal → s ≡ Equal
second_ties Less s e = cc
second_ties Equal s e = e
second_ties Greater s e = cc

pub language_pairs_tie : (a b : Option (List ℕ) × List ℕ) → language_pair_cmp a b ≡ Equal → a ≡ b
language_pairs_tie a b e =
    let language = options_tie a.0 b.0 (first_ties _ (text_cmp a.1 b.1) e) in
    let other = texts_tie a.1 b.1 (second_ties (language_cmp a.0 b.0) _ e) in
    λ i. (language i, other i)

pub pairs_tie : (a b : List ℕ × List ℕ) → pair_cmp a b ≡ Equal → a ≡ b
pairs_tie a b e =
    let one = texts_tie a.0 b.0 (first_ties _ (text_cmp a.1 b.1) e) in
    let other = texts_tie a.1 b.1 (second_ties (text_cmp a.0 b.0) _ e) in λ i. (one i, other i)
