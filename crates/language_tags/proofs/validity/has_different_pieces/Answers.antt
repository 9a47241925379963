use Rattle.std.proofs.Common.{Some, None, ap, sym, ◌∙◌, rules}
use Rattle.std.specs.List.{list_any}
use Rattle.std.specs.Str.{bytes_eq}
use Rattle.language_tags_grammar.specs.Pieces.{pieces}
use Rattle.language_tags_grammar.specs.Lemmas.PieceLaws.{fewer, first_piece}
use Rattle.language_tags.proofs.ValidLaws.{different_hit, different_miss, different_one}
use Rattle.language_tags.proofs.validity.has_different_pieces.Goals as goal

pub returns-then-contains : goal.returns-then-contains
returns-then-contains c =
    sym
    (different_hit bytes_eq (pieces c.loop-first.rest.now)
    (pieces c.in-Some.others.now) c.in-Some.first.now
    (first_piece c.loop-first.rest.now
    (Some (c.in-Some.first, c.in-Some.others)) c.in-Some.ensures.cases)
    (ap (list_any (bytes_eq c.in-Some.first.now)) (sym c.new.ensures) ∙ sym c.contains.ensures
    ∙ c.if-contains.true))
    ∙ c.loop-first.invariant.1

pub loop-first-smaller : goal.loop-first-smaller
loop-first-smaller c =
    fewer (pieces c.loop-first.rest.now) c.in-Some.first.now (pieces c.in-Some.others.now)
    (first_piece c.loop-first.rest.now
    (Some (c.in-Some.first, c.in-Some.others)) c.in-Some.ensures.cases)

pub loop-first-preserved : goal.loop-first-preserved
loop-first-preserved c = (
  search rules,
  sym
      (different_miss bytes_eq (pieces c.loop-first.rest.now)
      (pieces c.in-Some.others.now) c.in-Some.first.now
      (first_piece c.loop-first.rest.now
      (Some (c.in-Some.first, c.in-Some.others)) c.in-Some.ensures.cases)
      (ap (list_any (bytes_eq c.in-Some.first.now)) (sym c.new.ensures) ∙ sym c.contains.ensures
      ∙ c.if-contains.false))
      ∙ c.loop-first.invariant.1,
)

pub returns : goal.returns
returns c =
    sym
    (different_one bytes_eq (pieces c.loop-first.rest.now) c.loop-first.rest.now
    (first_piece c.loop-first.rest.now None c.in_default.ensures.cases))
    ∙ c.loop-first.invariant.1
