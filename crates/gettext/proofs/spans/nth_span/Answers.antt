use Rattle.std.proofs.Common.{◌≡◌, ◌+◌, ◌-◌, arith}
use Rattle.std.proofs.lemmas.List.{take_rest, length-drop}
use Rattle.gettext.proofs.Pieces.{next_piece, no_more, this_piece}
use Rattle.gettext.proofs.spans.nth_span.Goals as goal

pub returns-then-start-len : goal.returns-then-start-len
returns-then-start-len c =
    let text = c.args.text.now in
    let place = rw take_rest at c.place_of-len.ensures.value in
    no_more text c.loop.counter c.loop.start c.place_of-len.result c.loop.invariant place
    c.args.number c.loop-test.true
    (omega (arith, c.if-start-len.true, length-drop c.loop.start text))

pub loop-preserved : goal.loop-preserved
loop-preserved c =
    let text = c.args.text.now in
    let place = rw take_rest at c.place_of-len.ensures.value in
    let inside = rw take_rest at c.place_of-len.ensures.inside in
    next_piece text c.loop.counter c.loop.start c.place_of-len.result c.loop.invariant place
    (omega (arith, c.if-start-len.false, inside, length-drop c.loop.start text))

pub returns : goal.returns
returns c =
    let text = c.args.text.now in
    let place = rw take_rest at c.place_of.ensures.value in
    let inside = rw take_rest at c.place_of.ensures.inside in
    let number : c.args.number ≡ c.loop.counter =
    omega (arith, c.loop-test.false, c.loop.auto.counter-end) in
    let k : c.loop.start + c.place_of.result - c.loop.start ≡ c.place_of.result = omega arith in (
      omega arith,
      omega (arith, inside, length-drop c.loop.start text, c.loop.invariant.inside),
      rw (k, number)
          (this_piece text c.loop.counter c.loop.start c.place_of.result c.loop.invariant place),
    )
