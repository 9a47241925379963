use Rattle.std.proofs.Common.{◌&&◌, ℕ, Bool, slice_index, ap, sym, ◌∙◌}
use Rattle.std.proofs.lemmas.Bool.{and_left}
use Rattle.lazy_dfa.specs.Sets.{has}
use Rattle.lazy_dfa.proofs.Sets.{has-none, any_below-zero, any_below-grows, any_below-stays}
use Rattle.lazy_dfa.proofs.automaton.Automaton.behind.Goals as goal
use Rattle.lazy_dfa.proofs.automaton.Automaton.behind.Goals.{then-has, else-has}

pub loop-place-init : goal.loop-place-init
loop-place-init c =
    λ q. has-none q
    ∙ sym (any_below-zero (λ p. has c.args.positions p && has (slice_index c.args.self.now.follow p)
    q))

pub loop-place-preserved : goal.loop-place-preserved
loop-place-preserved c = λ q.
    let test : ℕ → Bool =
    λ p. has c.args.positions p && has (slice_index c.args.self.now.follow p) q in
    let place = c.loop-place.place in
    let follow = slice_index c.args.self.now.follow place in
    elim c.if-has.branch [
      | then-has w ↦
          any_below-grows place test (has c.loop-place.next q) (has c.if-has.next q) (has follow q)
          (c.loop-place.invariant q)
          (ap (λ set. has set q) w.next-is ∙ w.union-next.ensures q)
          (ap (λ b. b && has follow q) (sym c.has.ensures ∙ w.if-has.true))
      | else-has w ↦
          any_below-stays place test (has c.loop-place.next q) (has c.if-has.next q)
          (c.loop-place.invariant q)
          (ap (λ set. has set q) w.next-is)
          (and_left (has c.args.positions place) (has follow q) (sym c.has.ensures
          ∙ w.if-has.false))
    ]
