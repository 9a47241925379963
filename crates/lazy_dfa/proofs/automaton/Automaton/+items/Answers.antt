use Rattle.std.proofs.Common.{[], ◌∷◌, arith}
use Rattle.lazy_dfa.proofs.ReadingSteps.{item_shorter, items_none, items_last, items_passed}
use Rattle.lazy_dfa.proofs.Repeating.{behind_shorter}
use Rattle.lazy_dfa.proofs.automaton.Automaton.+items.Goals as goal

pub returns-in_default : goal.returns-in_default
returns-in_default t c = λ k le. items_none c.args.text.now c.in_default.ensures k

pub items-requires : goal.items-requires
items-requires t c =
    let short = item_shorter c.args.text.now _ c.in-Some.ensures in (
      omega (arith, short, c.decreases),
      omega (arith, c.in_ok-add_range.ensures.sized, c.requires),
    )

pub returns-in-Some-behind : goal.returns-in-Some-behind
returns-in-Some-behind t c =
    let short = item_shorter c.args.text.now _ c.in-Some.ensures in
    let less =
    behind_shorter 93 c.in-Some.rest.now c.in-Some-behind.rest.now c.in-Some-behind.ensures in (
      (c.in-Some.first, c.in-Some.last) ∷ [],
      items_last c.args.text.now (c.in-Some.first, c.in-Some.last) c.in-Some.rest.now
          c.in-Some-behind.rest.now c.in-Some.ensures c.in-Some-behind.ensures,
      c.in_ok-add_range.ensures,
      omega arith,
    )

pub returns-in-None : goal.returns-in-None
returns-in-None t c =
    items_passed c.args.text.now c.in-Some.rest.now (c.in-Some.first, c.in-Some.last)
    c.args.self.now c.add_range.new.self c.items.new.self c.items.result
    c.in-Some.ensures c.in-None.ensures c.in_ok-add_range.ensures c.items.ensures
