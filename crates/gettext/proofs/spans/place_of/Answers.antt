use Rattle.std.proofs.Common.{◌∙◌}
use Rattle.memchr.specs.Find.{is_byte}
use Rattle.gettext.proofs.Conditions.{first_place, place_inside}
use Rattle.gettext.proofs.spans.place_of.Goals as goal

pub returns-clause-value : goal.returns-clause-value
returns-clause-value c =
    c.unwrap_or.ensures
    ∙ first_place (is_byte c.args.byte) c.args.text.now c.memchr.result c.memchr.ensures

pub returns-clause-inside : goal.returns-clause-inside
returns-clause-inside c =
    place_inside (is_byte c.args.byte) c.args.text.now c.unwrap_or.result (returns-clause-value c)
