-- Keys of the tables that tie in their order are the same.
use Rattle.std.proofs.Common.{◌≡◌, ℕ, List, Option, Some, None, Ordering, refl, ap}
use Rattle.std.specs.FinMap.{IsAntisymmetric, nat_cmp-IsAntisymmetric, slice_cmp-IsAntisymmetric}
use Rattle.std.specs.Option.{option_cmp}
use Rattle.std.specs.Ordering.{ordering_then}
use Rattle.std.specs.declared.cmp.Ordering.TheVariants.{Less, Equal, Greater}
use Rattle.icu_locale_fallback.specs.Keys.{text_cmp, pair_cmp}
use Rattle.icu_locale_fallback.specs.Triple.{Triple, triple_cmp}

-- what ties in two steps ties in the first
first_ties : (r s : Ordering) → ordering_then r s ≡ Equal → r ≡ Equal
first_ties Less s e = e
first_ties Equal s e = refl
first_ties Greater s e = e

-- and in the second
second_ties : (r s : Ordering) → ordering_then r s ≡ Equal → s ≡ Equal
second_ties Less s e = cc
second_ties Equal s e = e
second_ties Greater s e = cc

-- texts that tie are equal
pub texts_tie : IsAntisymmetric text_cmp
texts_tie = slice_cmp-IsAntisymmetric nat_cmp-IsAntisymmetric

-- so are pairs
pub pairs_tie : IsAntisymmetric pair_cmp
pairs_tie a b e =
    let one = texts_tie a.0 b.0 (first_ties _ (text_cmp a.1 b.1) e) in
    let other = texts_tie a.1 b.1 (second_ties (text_cmp a.0 b.0) _ e) in
    λ i. (one i, other i)

-- and subtags, or none
options_tie : (p q : Option (List ℕ)) → option_cmp text_cmp p q ≡ Equal → p ≡ q
options_tie None None e = refl
options_tie None (Some y) e = cc
options_tie (Some x) None e = cc
options_tie (Some x) (Some y) e = ap Some (texts_tie x y e)

-- the same parts make the same triple
same_parts : (a b : Triple) → a.language ≡ b.language → a.script ≡ b.script → a.region ≡ b.region
    → a ≡ b
same_parts a b l s r i = record { language = l i; script = s i; region = r i }

-- and triples
pub triples_tie : IsAntisymmetric triple_cmp
triples_tie a b e =
    let rest = second_ties (text_cmp a.language b.language) _ e in
    same_parts a b
    (texts_tie a.language b.language (first_ties _ _ e))
    (options_tie a.script b.script (first_ties _ _ rest))
    (options_tie a.region b.region (second_ties (option_cmp text_cmp a.script b.script) _ rest))
