use Rattle.std.proofs.Common.{sym, ◌∙◌, refl}
use Rattle.gettext.proofs.Conditions.{ends-place}
use Rattle.gettext.proofs.parser.rows.has_id.Goals as goal

pub returns-then-not-is_empty : goal.returns-then-not-is_empty
returns-then-not-is_empty c =
    rw (
      sym c.is_empty.ensures
          ∙ c.if-not-is_empty.true,
      c.place_of.ensures.value,
      ends-place _,
    ) refl
