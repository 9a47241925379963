use Rattle.std.proofs.Common.{◌++◌, ◌∷◌, [], List, ℕ, codes, refl, ap, ◌∙◌}
use Rattle.std.specs.Prelude.{replicate}
use Rattle.std.proofs.lemmas.List.{replicate_more}
use Rattle.localise_run.proofs.Ascii.{plain}
use Rattle.localise_run.proofs.generate.remake.Goals as goal

pub loop-item-preserved : goal.loop-item-preserved
loop-item-preserved c =
    c.in_ok-push.ensures.ok
    ∙ ap (λ (xs : List (List ℕ)). xs ++ c.in_ok-new.field-0 ∷ []) c.loop-item.invariant
    ∙ ap (λ (x : List ℕ). replicate c.loop-item._item (codes "x") ++ x ∷ [])
    (c.in_ok-new.ensures.ok ∙ plain (codes "x") refl)
    ∙ replicate_more c.loop-item._item (codes "x")
