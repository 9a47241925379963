use Rattle.std.proofs.Common.{◌≡◌, ◌+◌, map, length}
use Rattle.language_tags_grammar.specs.Pieces.{dashed, lowercase, pieces}
use Rattle.language_tags_grammar.specs.Scan.{scanned, scanned_from}
use Rattle.language_tags_grammar.proofs.scan.scan.Given as goal

-- what is left to scan gives the answer, and has as many bytes
abbrev pub invariant-loop-piece : goal.invariant-loop-piece
invariant-loop-piece l = record {
  answer : scanned_from l.stage l.at l.ends (map lowercase l.piece-iterator)
      ≡ scanned (pieces (lowercase l.text));
  left : l.at + length (dashed l.piece-iterator) ≡ length l.text + 1;
}
