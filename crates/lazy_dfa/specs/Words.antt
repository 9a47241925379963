-- The errors in words.
use Rattle.std.specs.Prelude.{ℕ, List, codes}
use Rattle.lazy_dfa.specs.declared.error.ConditionError.{ConditionError}
use Rattle.lazy_dfa.specs.declared.error.ConditionError.TheVariants.{NotAnchored, TooLong, Syntax}
use Rattle.lazy_dfa.specs.declared.error.ConditionError.TheVariants.{NoMemory}

-- the words of an error
abbrev pub words_of : ConditionError → List ℕ
words_of NotAnchored = codes "Only anchored regexes (starting with ^) are supported"
words_of TooLong = codes "condition too long"
words_of (Syntax place) = codes "condition syntax"
words_of NoMemory = codes "out of memory"
