use Rattle.std.proofs.Common.{ap, ◌∙◌, chars}
use Rattle.lazy_dfa.specs.Parsing.{behind}
use Rattle.lazy_dfa.proofs.Compiling.{opened, too_long, all_opened, passed_ok, passed_err}
use Rattle.lazy_dfa.proofs.condition.Condition.new.Goals as goal

pub returns-then-text-gt-MOST-clause-err : goal.returns-then-text-gt-MOST-clause-err
returns-then-text-gt-MOST-clause-err c =
    too_long (chars c.args.pattern.now) c.in-Some.text.now
    (opened (chars c.args.pattern.now) c.in-Some.text.now (c.in-Some.ensures
    ∙ ap (behind 94) c.copied-count.ensures.copied)) c.if-text-gt-MOST.true

pub returns-clause-ok : goal.returns-clause-ok
returns-clause-ok c =
    let all = all_opened (chars c.args.pattern.now) c.in-Some.text.now
    (opened (chars c.args.pattern.now) c.in-Some.text.now (c.in-Some.ensures
    ∙ ap (behind 94) c.copied-count.ensures.copied)) c.if-text-gt-MOST.false in
    passed_ok (chars c.args.pattern.now) c.in-Some.text.now all c.if-text-gt-MOST.false
    c.compiled.result c.compiled.ensures.ok

pub returns-clause-err : goal.returns-clause-err
returns-clause-err c =
    let all = all_opened (chars c.args.pattern.now) c.in-Some.text.now
    (opened (chars c.args.pattern.now) c.in-Some.text.now (c.in-Some.ensures
    ∙ ap (behind 94) c.copied-count.ensures.copied)) c.if-text-gt-MOST.false in
    passed_err (chars c.args.pattern.now) c.in-Some.text.now all c.if-text-gt-MOST.false
    c.compiled.result c.compiled.ensures.err
