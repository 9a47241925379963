use Rattle.std.proofs.lemmas.List.Filters.{dedup_is}
use Rattle.std.specs.Prelude.{◌==◌}
use Rattle.lazy_dfa.proofs.States.{classes_from}
use Rattle.lazy_dfa.proofs.automaton.Automaton.classes.Goals as goal

pub returns : goal.returns
returns c =
    classes_from c.args.self.now.ranges.items c.deref.result.now c.in_ok-firsts.firsts.items
    c.sort_unstable.new.self.items c.dedup.new.self.items c.deref.ensures.value
    c.in_ok-firsts.ensures.least c.in_ok-firsts.ensures.edged c.sort_unstable.ensures.permutation
    c.sort_unstable.ensures.sorted
    (dedup_is (λ x y. x == y) c.sort_unstable.new.self.items c.dedup.new.self.items
    c.dedup.ensures.filtered)
