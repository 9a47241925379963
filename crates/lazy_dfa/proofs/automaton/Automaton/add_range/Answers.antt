use Rattle.std.proofs.Common.{refl, ap, ◌∙◌, ◌++◌, ◌∷◌, []}
use Rattle.lazy_dfa.proofs.automaton.Automaton.add_range.Goals as goal

pub returns : goal.returns
returns c = record {
  ranges = c.in_ok-push.ensures.items
      ∙ ap (λ n. c.args.self.now.ranges.items ++ record {
        first = c.args.first;
        last = c.args.last;
        atom = n;
      } ∷ []) c.only-atom.ensures.bits;
  negated = refl;
  sized = refl;
  follow = refl;
}
