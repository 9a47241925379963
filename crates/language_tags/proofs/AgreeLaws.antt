-- Lists that agree in the places that both have, from the front.
use Rattle.std.proofs.Common.{◌≡◌, ℕ, Bool, true, false, not, List, [], ◌∷◌, Option, Some, None}
use Rattle.std.proofs.Common.{refl, sym, ap, ◌∙◌, subst}
use Rattle.std.specs.Str.{bytes_eq}
use Rattle.std.proofs.lemmas.Slice.Eq.{bytes_eq-Decides}
use Rattle.language_tags.specs.Equality.{Agree}
use Rattle.language_tags_grammar.specs.Pieces.{part_text}
use Rattle.language_tags_grammar.specs.Tag.{at_most_one}

pub agree_none : (xs ys : List (List ℕ)) → ys ≡ [] → Agree xs ys
agree_none [] ys e = tt
agree_none (x ∷ xs) ys e = subst (λ zs. Agree (x ∷ xs) zs) (sym e) tt

pub agree_end : (xs ys : List (List ℕ)) → xs ≡ [] → Agree xs ys
agree_end xs ys e = subst (λ zs. Agree zs ys) (sym e) tt

module _ (s o : List ℕ) (xs ys it others : List (List ℕ)) (a : it ≡ s ∷ xs)
    (b : others ≡ o ∷ ys) where
  at_front : Agree it others → Agree (s ∷ xs) (o ∷ ys)
  at_front h = subst (λ q. Agree (s ∷ xs) q) b (subst (λ q. Agree q others) a h)

  from_front : Agree (s ∷ xs) (o ∷ ys) → Agree it others
  from_front h = subst (λ q. Agree q others) (sym a) (subst (λ q. Agree (s ∷ xs) q) (sym b) h)

  pub agree_differs : true ≡ not (bytes_eq s o) → Agree it others → ⊥
  agree_differs other h =
      let same : bytes_eq s o ≡ true = (bytes_eq-Decides s o).1 (at_front h).0 in
      let clash : true ≡ false = other ∙ ap not same in cc

  pub agree_step : false ≡ not (bytes_eq s o)
      → (Agree xs ys → Agree it others) × (Agree it others → Agree xs ys)
  agree_step same = (
    λ h. from_front ((bytes_eq-Decides s o).0 (known (bytes_eq s o) same), h),
    λ h. (at_front h).1,
  )
    where
      known : (t : Bool) → false ≡ not t → t ≡ true
      known true e = refl
      known false e = cc

pub one_text : (o : Option (List ℕ)) → part_text (at_most_one o) ≡ o
one_text None = refl
one_text (Some x) = refl
