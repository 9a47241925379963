use Rattle.std.proofs.Common.{arith, sym, ◌∙◌, length}
use Rattle.std.proofs.lemmas.Bool.{eqb-true, eqb-false}
use Rattle.icu_list.proofs.Reading.{is_empty-chars}
use Rattle.icu_list.proofs.provider.joiner.is_allowed.Goals as goal

pub returns-else-allowed : goal.returns-else-allowed
returns-else-allowed c =
    rw c.if-allowed.false
    (is_empty-chars c.args.text.now c.utf8.text c.is_empty.result
    (λ e. eqb-true (length c.args.text.now) 0 (sym c.is_empty.ensures ∙ e))
    (λ e. let some = eqb-false (length c.args.text.now) 0 (sym c.is_empty.ensures ∙ e) in
    omega (arith, some)))
