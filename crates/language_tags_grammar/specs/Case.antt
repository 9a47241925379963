-- The case of a langtag's text (RFC 5646, section 2.1.1), by where its parts end.
use Rattle.std.specs.Prelude.{ℕ, ◌+◌, List, ◌++◌, min, take, drop}
use Rattle.language_tags_grammar.specs.Kept.{between}
use Rattle.language_tags_grammar.specs.Pieces.{lowercase, uppercase}
use Rattle.language_tags_grammar.specs.declared.ends.Ends.{Ends}

-- behind the script's dash and first letter
abbrev pub capital : Ends → ℕ
capital ends = min ends.script (ends.extlang + 2)

abbrev pub in_case : Ends → List ℕ → List ℕ
in_case ends text =
    lowercase (take ends.extlang text) ++ uppercase (between ends.extlang (capital ends) text)
    ++ lowercase (between (capital ends) ends.script text)
    ++ uppercase (between ends.script ends.region text)
    ++ lowercase (drop ends.region text)
