use Rattle.std.proofs.Common.{◌≡◌, ◌++◌, take}
use Rattle.language_tags_grammar.specs.Pieces.{lowercase}
use Rattle.language_tags_grammar.proofs.case.push_lowercase.Given as goal

abbrev pub invariant-loop-byte : goal.invariant-loop-byte
invariant-loop-byte l = l.cased.items ≡ l.fn.cased.items ++ lowercase (take l.byte-index l.text)
