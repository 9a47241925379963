use Rattle.std.proofs.Common.{refl}
use Rattle.std.proofs.lemmas.Result.{err_from_is_err_and}
use Rattle.lazy_dfa.proofs.ReadingSteps.{alt_fails, alt_one, choice_fails, choice_reads, seq_fails}
use Rattle.lazy_dfa.proofs.ReadingSteps.{seq_nothing, sequence_fails, sequence_reads, end_reads}
use Rattle.lazy_dfa.proofs.ReadingSteps.{rep_reads, single_reads}
use Rattle.lazy_dfa.proofs.automaton.Automaton.+parser.Goals as goal

pub alternatives-returns-in_err-first : goal.alternatives-returns-in_err-first
alternatives-returns-in_err-first t c =
    let p = err_from_is_err_and c.from_residual.result c.from_residual.ensures.1 in
    rw (p.1, p.2) (alt_fails c.args.text.now c.args.self.now c.sequence.new.self
    c.in_err-first.field-0.0 c.in_err-first.ensures)

pub alternatives-returns-in_default : goal.alternatives-returns-in_default
alternatives-returns-in_default t c =
    alt_one c.args.text.now c.args.self.now c.sequence.new.self c.in_ok-first.first
    c.in_default.ensures c.in_ok-first.ensures

pub alternatives-returns-in_err-others : goal.alternatives-returns-in_err-others
alternatives-returns-in_err-others t c =
    let p = err_from_is_err_and c.from_residual-in_err-others.result
    c.from_residual-in_err-others.ensures.1 in
    rw (p.1, p.2) (choice_fails c.args.text.now c.args.self.now c.sequence.new.self
    c.in_ok-first.first c.in-Some.rest.now c.in-Some.ensures c.in_ok-first.ensures
    c.alternatives.new.self c.in_err-others.field-0.0 c.in_err-others.ensures)

pub alternatives-returns : goal.alternatives-returns
alternatives-returns t c =
    choice_reads c.args.text.now c.args.self.now c.sequence.new.self c.in_ok-first.first
    c.in-Some.rest.now c.in-Some.ensures c.in_ok-first.ensures c.alternatives.new.self
    c.in_ok-others.others c.or.result c.in_ok-others.ensures c.or.ensures

pub atom-returns : goal.atom-returns
atom-returns t c =
    single_reads c.args.text.now c.args.self.now c.add_range.new.self c.add_atom-part.new.self
    c.in-Some-single.negated (c.in-Some-single.first, c.in-Some-single.last)
    c.add_atom-part.result c.in-Some-single.rest
    c.in_default.ensures c.in_default-behind.ensures c.in-Some-single.ensures c.requires.fresh
    c.in_ok-add_range.ensures c.add_atom-part.ensures.part c.add_atom-part.ensures.added

pub repetition-returns-in-Some : goal.repetition-returns-in-Some
repetition-returns-in-Some t c =
    end_reads c.args.text.now c.args.self.now c.end-part.result c.in-Some.rest c.in-Some.ensures
    c.requires.fresh c.end-part.ensures

pub repetition-returns : goal.repetition-returns
repetition-returns t c =
    rep_reads c.args.text.now c.args.self.now c.atom.new.self c.repeated.new.self c.in-Some-2.atom
    c.repeated.result c.in_default.ensures (rw c.in-Some-2.is at c.in_ok-atom.ensures)
    c.repeated.ensures

pub sequence-returns-in_err-first : goal.sequence-returns-in_err-first
sequence-returns-in_err-first t c =
    let p = err_from_is_err_and c.from_residual.result c.from_residual.ensures.1 in
    rw (p.1, p.2) (seq_fails c.args.text.now c.args.self.now c.repetition.new.self
    c.in_err-first.field-0.0 c.in_err-first.ensures)

pub sequence-returns-in_default : goal.sequence-returns-in_default
sequence-returns-in_default t c =
    seq_nothing c.args.text.now c.args.self.now c.repetition.new.self c.nothing.result c.args.text
    refl c.requires.fresh c.nothing.ensures (rw c.in_default.is at c.in_ok-first.ensures)

pub sequence-returns-in_err-others : goal.sequence-returns-in_err-others
sequence-returns-in_err-others t c =
    let p = err_from_is_err_and c.from_residual-in_err-others.result
    c.from_residual-in_err-others.ensures.1 in
    rw (p.1, p.2) (sequence_fails c.args.text.now c.args.self.now c.repetition.new.self
    c.in-Some.first (rw c.in-Some.is at c.in_ok-first.ensures) c.sequence.new.self
    c.in_err-others.field-0.0 c.in_err-others.ensures)

pub sequence-returns : goal.sequence-returns
sequence-returns t c =
    sequence_reads c.args.text.now c.args.self.now c.repetition.new.self c.in-Some.first
    (rw c.in-Some.is at c.in_ok-first.ensures) c.sequence.new.self c.link.new.self
    c.in_ok-others.others c.then.result c.in_ok-others.ensures c.link.ensures c.then.ensures
