-- Laws of the definitions, each as a statement.
use Rattle.std.specs.Prelude.{◌≡◌, ℕ, List, Some}
use Rattle.unic_langid_impl.specs.Identifier.{Identifier, IsIdentifier, print}
use Rattle.unic_langid_impl.specs.Likely.{IsLeast, Tables, Triple, minimal}
use Rattle.unic_langid_impl.specs.Reading.{id_of}

-- bytes are at most one identifier
abbrev pub IdDetermines : Type 0
IdDetermines = (bytes : List ℕ) (i j : Identifier) → id_of bytes i → id_of bytes j → i ≡ j

-- each subtag of an identifier that is read has its shape, and its variants ascend
abbrev pub IdHasShape : Type 0
IdHasShape = (bytes : List ℕ) (i : Identifier) → id_of bytes i → IsIdentifier i

-- an identifier that is read, printed, is read as the same one
abbrev pub PrintedIsRead : Type 0
PrintedIsRead = (bytes : List ℕ) (i : Identifier) → id_of bytes i → id_of (print i) i

-- the minimal form has the maximal form that it was sought for, and nothing of that form's language
-- with fewer subtags has it
abbrev pub MinimalIsLeast : Type 0
MinimalIsLeast = (F : Tables) (t least : Triple) → minimal F t ≡ Some least → IsLeast F t least
