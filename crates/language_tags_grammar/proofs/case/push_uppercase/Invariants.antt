use Rattle.std.proofs.Common.{◌≡◌, ◌++◌, take}
use Rattle.language_tags_grammar.specs.Pieces.{uppercase}
use Rattle.language_tags_grammar.proofs.case.push_uppercase.Given as goal

abbrev pub invariant-loop-byte : goal.invariant-loop-byte
invariant-loop-byte l = l.cased.items ≡ l.fn.cased.items ++ uppercase (take l.byte-index l.text)
