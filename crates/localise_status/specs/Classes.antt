-- The classes of statuses, and the exit status of each.
use Rattle.std.specs.Prelude.{ℕ}
use Rattle.localise_status.specs.declared.status.Status.{Status}
use Rattle.localise_status.specs.declared.status.Status.TheVariants.{Done, BadWords, NotJson, Shape}
use Rattle.localise_status.specs.declared.status.Status.TheVariants.{Table, Bundle, DuplicateLocale}
use Rattle.localise_status.specs.declared.status.Status.TheVariants.{Root, Request, ReadFault}
use Rattle.localise_status.specs.declared.status.Status.TheVariants.{WriteFault, NoMemory, TooLong}

-- What a status is about: the words are no command; the source failed; the input has this answer,
-- before any line or behind some; the output failed; or memory ran out.
pub data Class : Type 0 where
  Words : Class
  Reading : Class
  Refused : Class
  Answered : Class
  Writing : Class
  Memory : Class

-- the class of a status
abbrev pub class_of : Status → Class
class_of Done = Answered
class_of BadWords = Words
class_of NotJson = Refused
class_of (Shape place) = Refused
class_of (Table cause) = Refused
class_of (Bundle i cause) = Refused
class_of (DuplicateLocale i) = Refused
class_of (Root fault) = Refused
class_of (Request i cause) = Answered
class_of ReadFault = Reading
class_of WriteFault = Writing
class_of NoMemory = Memory
class_of TooLong = Refused

-- the exit status
abbrev pub code_of : Status → ℕ
code_of Done = 0
code_of BadWords = 2
code_of NotJson = 3
code_of (Shape place) = 4
code_of (Table cause) = 5
code_of (Bundle i cause) = 6
code_of (DuplicateLocale i) = 6
code_of (Root fault) = 6
code_of (Request i cause) = 7
code_of ReadFault = 8
code_of WriteFault = 9
code_of NoMemory = 10
code_of TooLong = 11

-- a source, an output or memory that failed
abbrev pub FailsIn : Class → Type 0
FailsIn Words = ⊥
FailsIn Reading = Unit {0}
FailsIn Refused = ⊥
FailsIn Answered = ⊥
FailsIn Writing = Unit {0}
FailsIn Memory = Unit {0}

-- a status that tells of such a failure
abbrev pub IsFailure : Status → Type 0
IsFailure status = FailsIn (class_of status)

-- an answer that comes once the source was read to its end: all but too long, and those of words,
-- reading and memory
abbrev pub ComesAtEnd : Status → Type 0
ComesAtEnd Done = Unit {0}
ComesAtEnd BadWords = ⊥
ComesAtEnd NotJson = Unit {0}
ComesAtEnd (Shape place) = Unit {0}
ComesAtEnd (Table cause) = Unit {0}
ComesAtEnd (Bundle i cause) = Unit {0}
ComesAtEnd (DuplicateLocale i) = Unit {0}
ComesAtEnd (Root fault) = Unit {0}
ComesAtEnd (Request i cause) = Unit {0}
ComesAtEnd ReadFault = ⊥
ComesAtEnd WriteFault = Unit {0}
ComesAtEnd NoMemory = ⊥
ComesAtEnd TooLong = ⊥
