use Rattle.std.proofs.Common.{Err, length, sym, ◌∙◌}
use Rattle.std.proofs.lemmas.Bool.{eqb-true, eqb-false}
use Rattle.lazy_dfa.proofs.Longest.{is_read, left_within}
use Rattle.lazy_dfa.proofs.Compiling.{compiled, unread_rest, unread_left}
use Rattle.lazy_dfa.proofs.condition.Condition.compiled.Goals as goal

pub overflow_sub-result : goal.overflow_sub-result
overflow_sub-result c =
    left_within c.args.text.now (Err c.in-Err-Left.left)
    (is_read c.args.text.now (Err c.in-Err-Left.left)
    (rw c.in-Err-Left.field-0-is at c.in-Err-Left.ensures))

pub returns-in-Err-Left-clause-err : goal.returns-in-Err-Left-clause-err
returns-in-Err-Left-clause-err c =
    unread_left c.args.text.now c.in-Err-Left.left
    (rw c.in-Err-Left.field-0-is at c.in-Err-Left.ensures)

pub returns-then-not-is_empty-clause-err : goal.returns-then-not-is_empty-clause-err
returns-then-not-is_empty-clause-err c =
    unread_rest c.args.text.now c.new-automaton.result c.alternatives.new.self c.in-Ok.parsed
    c.in-Ok.ensures
    (eqb-false (length c.in-Ok.parsed.rest.now) 0 (sym c.is_empty.ensures ∙ c.if-not-is_empty.true))

pub returns-clause-ok : goal.returns-clause-ok
returns-clause-ok c =
    compiled c.args.text.now c.new-automaton.result c.alternatives.new.self c.in-Ok.parsed
    c.new-automaton.ensures.sized c.in-Ok.ensures
    (eqb-true (length c.in-Ok.parsed.rest.now) 0 (sym c.is_empty.ensures ∙ c.if-not-is_empty.false))
