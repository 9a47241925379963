use Rattle.std.proofs.Common.{◌≡◌, length}
use Rattle.std.specs.Str.{bytes_eq}
use denote.Text.{Utf8}
use denote.Shadow.{shadow}
use Rattle.language_tags_grammar.specs.Pieces.{pieces}
use Rattle.language_tags.specs.Valid.{are_different}
use Rattle.language_tags.proofs.validity.has_different_pieces.Given as goal

-- the pieces that are left are different exactly where all are
abbrev pub invariant-loop-first : goal.invariant-loop-first
invariant-loop-first l =
    shadow (Utf8 l.rest)
    × (are_different bytes_eq (pieces l.rest) ≡ are_different bytes_eq (pieces l.fn.text))

abbrev pub decreases-loop-first : goal.decreases-loop-first
decreases-loop-first l = length (pieces l.rest)
