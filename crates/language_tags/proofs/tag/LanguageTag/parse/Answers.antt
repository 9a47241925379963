-- A text is a grandfathered one, or begins with `x-`, or is a langtag.
use Rattle.std.proofs.Common.{sym}
use Rattle.std.proofs.lemmas.Result.{IfOk-weaker, MatchResult-weaker}
use Rattle.language_tags_grammar.specs.Pieces.{lowercase}
use Rattle.language_tags_grammar.specs.TagFault.{behind_x, in_pieces}
use Rattle.language_tags_grammar.specs.TagOf.{langtag, private_use, whole}
use Rattle.language_tags_grammar.specs.Lemmas.FindLaws.{grandfathered-ascii}
use Rattle.language_tags.proofs.tag.LanguageTag.parse.Goals as goal

pub whole-requires : goal.whole-requires
whole-requires c = grandfathered-ascii c.args.input.now c.in-Some.tag.now (sym c.in-Some.ensures)

pub returns-in-Ok-clause-ok : goal.returns-in-Ok-clause-ok
returns-in-Ok-clause-ok c = whole c.in-Some.tag.now (sym c.in-Some.ensures) c.in-Ok.ensures

pub returns-in-Some-behind_x-clause-ok : goal.returns-in-Some-behind_x-clause-ok
returns-in-Some-behind_x-clause-ok c =
    IfOk-weaker c.private_tag.result _ _
    (λ tag h. private_use (sym c.in-None.ensures)
    (lowercase c.in-Some-behind_x.rest.now) c.in-Some-behind_x.ensures h.0 h.1)
    c.private_tag.ensures.ok

pub returns-in-Some-behind_x-clause-err : goal.returns-in-Some-behind_x-clause-err
returns-in-Some-behind_x-clause-err c =
    MatchResult-weaker c.private_tag.result c.private_tag.ensures.err (λ tag h. h)
    (λ fault h other. behind_x (sym c.in-None.ensures)
    (lowercase c.in-Some-behind_x.rest.now) c.in-Some-behind_x.ensures (h other))

pub returns-in-None-behind_x-clause-ok : goal.returns-in-None-behind_x-clause-ok
returns-in-None-behind_x-clause-ok c =
    IfOk-weaker c.langtag.result _ _
    (λ tag h. langtag (sym c.in-None.ensures) c.in-None-behind_x.ensures h.0 h.1 h.2)
    c.langtag.ensures.ok

pub returns-in-None-behind_x-clause-err : goal.returns-in-None-behind_x-clause-err
returns-in-None-behind_x-clause-err c =
    MatchResult-weaker c.langtag.result c.langtag.ensures.err (λ tag h. h)
    (λ fault h other. in_pieces (sym c.in-None.ensures) c.in-None-behind_x.ensures (h other))
