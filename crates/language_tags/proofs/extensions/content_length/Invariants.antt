use Rattle.std.proofs.Common.{◌≡◌, ◌+◌, ◌<◌, ◌^◌, length}
use Rattle.language_tags_grammar.specs.Kept.{grouped}
use Rattle.language_tags_grammar.specs.Pieces.{dashed}
use Rattle.language_tags.proofs.extensions.content_length.Given as goal

-- what is left before the first singleton, and in all
abbrev pub invariant-loop-piece : goal.invariant-loop-piece
invariant-loop-piece l = record {
  answer : l.length + length (dashed (grouped l.piece-iterator).front)
      ≡ length (dashed (grouped l.fn.pieces).front);
  left : l.length + length (dashed l.piece-iterator) < 2 ^ 64;
}
