use Rattle.std.proofs.Common.{Some, None, sym, ◌∙◌, rules}
use Rattle.std.specs.List.{slice_split}
use Rattle.language_tags.specs.Valid.{begins, is_space}
use Rattle.language_tags_grammar.specs.Lemmas.PieceLaws.{fewer}
use Rattle.language_tags.proofs.ValidLaws.{any_hit, any_last, any_miss, first_word}
use Rattle.language_tags.proofs.validity.begins_with_any.Goals as goal

pub returns-then-begins : goal.returns-then-begins
returns-then-begins c =
    sym
    (any_hit (begins c.args.text.now) (slice_split is_space c.loop-prefix.rest.now)
    (slice_split is_space c.in-Some.others.now) c.in-Some.prefix.now
    (first_word c.loop-prefix.rest.now
    (Some (c.in-Some.prefix, c.in-Some.others)) c.in-Some.ensures.cases)
    (sym c.begins.ensures ∙ c.if-begins.true))
    ∙ c.loop-prefix.invariant.1

pub loop-prefix-smaller : goal.loop-prefix-smaller
loop-prefix-smaller c =
    fewer (slice_split is_space c.loop-prefix.rest.now) c.in-Some.prefix.now
    (slice_split is_space c.in-Some.others.now)
    (first_word c.loop-prefix.rest.now
    (Some (c.in-Some.prefix, c.in-Some.others)) c.in-Some.ensures.cases)

pub loop-prefix-preserved : goal.loop-prefix-preserved
loop-prefix-preserved c = (
  search rules,
  sym
      (any_miss (begins c.args.text.now) (slice_split is_space c.loop-prefix.rest.now)
      (slice_split is_space c.in-Some.others.now) c.in-Some.prefix.now
      (first_word c.loop-prefix.rest.now
      (Some (c.in-Some.prefix, c.in-Some.others)) c.in-Some.ensures.cases)
      (sym c.begins.ensures ∙ c.if-begins.false))
      ∙ c.loop-prefix.invariant.1,
)

pub returns : goal.returns
returns c =
    any_last (begins c.args.text.now)
    (slice_split is_space c.loop-prefix.rest.now) c.loop-prefix.rest.now c.begins-2.result
    (first_word c.loop-prefix.rest.now None c.in_default.ensures.cases) c.begins-2.ensures
    ∙ c.loop-prefix.invariant.1
