-- Comparing part by part.
use Rattle.std.proofs.Common.{◌≡◌, Option, Some, None, refl, ap, ◌∙◌}
use Rattle.std.specs.Ordering.{partial_ordering_then as then}
use Rattle.std.specs.declared.cmp.Ordering.{Ordering}
use Rattle.std.specs.declared.cmp.Ordering.TheVariants.{Less, Equal, Greater}

-- it does not matter which parts are compared first
then_assoc : (p q r : Option Ordering) → then (then p q) r ≡ then p (then q r)
then_assoc None q r = refl
then_assoc (Some Less) q r = refl
then_assoc (Some Equal) q r = refl
then_assoc (Some Greater) q r = refl

-- five parts, one after another
pub then_five : (r s t u v a b c d e : Option Ordering) → r ≡ a → s ≡ then r b → t ≡ then s c
    → u ≡ then t d → v ≡ then u e
    → v ≡ then a (then b (then c (then d e)))
then_five r s t u v a b c d e one two three four five =
    five ∙ ap (λ x. then x e)
    (four ∙ ap (λ x. then x d) (three ∙ ap (λ x. then x c) (two ∙ ap (λ x. then x b) one)))
    ∙ then_assoc (then (then a b) c) d e
    ∙ then_assoc (then a b) c (then d e)
    ∙ then_assoc a b (then c (then d e))
