use Rattle.std.proofs.Common.{◌+◌, ◌<◌, ◌^◌, ap, sym, ◌∙◌, subst, arith, zero-add, length, List, ℕ}
use Rattle.language_tags_grammar.specs.Kept.{grouped}
use Rattle.language_tags_grammar.specs.Pieces.{dashed}
use Rattle.language_tags.proofs.ExtensionLaws.{front-end, front-nothing, front-step, left-step}
use Rattle.language_tags.proofs.extensions.content_length.Goals as goal

pub loop-piece-init : goal.loop-piece-init
loop-piece-init c =
    let e = c.into_iter-piece-iterator.ensures.into_iter_gives in record {
      answer = zero-add _ ∙ ap (λ ps. length (dashed (grouped ps).front)) e;
      left =
          subst (λ (ps : List (List ℕ)). 0 + length (dashed ps) < 2 ^ 64) (sym e)
          (omega (arith, c.requires));
    }

pub loop-piece-preserved : goal.loop-piece-preserved
loop-piece-preserved c = record {
  answer =
      front-step c.loop-piece.length _ c.loop-piece.piece-iterator c.next.new.self
      c.in-Some.piece.now c.in-Some.ensures.steps
      c.loop-piece.invariant.answer c.if-piece-eq1.false;
  left =
      left-step c.loop-piece.length
      (2 ^ 64) c.loop-piece.piece-iterator c.next.new.self c.in-Some.piece.now
      c.in-Some.ensures.steps
      c.loop-piece.invariant.left;
}

pub returns-then-piece-eq1 : goal.returns-then-piece-eq1
returns-then-piece-eq1 c =
    front-end c.loop-piece.length _ c.loop-piece.piece-iterator c.next.new.self c.in-Some.piece.now
    c.in-Some.ensures.steps
    c.loop-piece.invariant.answer c.if-piece-eq1.true

pub returns-in-None : goal.returns-in-None
returns-in-None c =
    front-nothing c.loop-piece.length _ c.loop-piece.piece-iterator c.in-None.ensures.steps.0
    c.loop-piece.invariant.answer
