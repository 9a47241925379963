use Rattle.std.proofs.Common.{◌∙◌, sym, rules}
use Rattle.std.proofs.lemmas.List.{take_rest, nil_from_length}
use Rattle.gettext.proofs.Words.{passes_space, passes_token, all_read}
use Rattle.gettext.proofs.plurals.tokens.tokens_of.Goals as goal

pub loop-first-preserved-then-is_space : goal.loop-first-preserved-then-is_space
loop-first-preserved-then-is_space c =
    passes_space c.args.text.now c.loop-first.tokens.items c.loop-first.rest.now c.in-Some.first.now
    c.in-Some.others.now (search (rules, c.in-Some.ensures.cases))
    (sym c.is_space.ensures ∙ c.if-is_space.true) c.loop-first.invariant

pub loop-first-preserved : goal.loop-first-preserved
loop-first-preserved c =
    let h = passes_token c.args.text.now c.loop-first.tokens.items c.loop-first.rest.now
    c.in-Some.first.now c.in-Some.others.now c.in-Some-token_at.token c.in-Some-token_at.len
    (search (rules, c.in-Some.ensures.cases)) (sym c.is_space.ensures ∙ c.if-is_space.false)
    (sym c.in-Some-token_at.ensures.value) c.loop-first.invariant in
    rw (c.in_ok-push.ensures.items, take_rest) h

pub returns-clause-ok : goal.returns-clause-ok
returns-clause-ok c =
    all_read _ _ _ (nil_from_length _ c.in_default.ensures.cases) c.loop-first.invariant
