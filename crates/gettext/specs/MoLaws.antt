-- The key of a row by the parts of its head.
use Rattle.std.specs.Prelude.{◌≡◌, ℕ, Bool, false, List, ◌∷◌, ◌++◌, Some, ◌==◌}
use Rattle.std.specs.List.{list_any}
use Rattle.gettext.specs.declared.encoding.Encoding.{Encoding}
use Rattle.gettext.specs.Encoding.{IsText}
use Rattle.gettext.specs.Messages.{key_of}

-- the byte that a context ends at
abbrev pub is_separator : ℕ → Bool
is_separator byte = byte == 4

-- The head holds no byte 4 and is the id; or the context stands before its first byte 4 and the id
-- behind it, and the key is the context, U+0004 and the id, each decoded by itself.
pub data IsKeyOf : Encoding → List ℕ → List ℕ → Type 0 where
  alone : {e : Encoding} {head id : List ℕ} → list_any is_separator head ≡ false → IsText e head id
      → IsKeyOf e head id
  joined : {e : Encoding} {head key : List ℕ} (front back context id : List ℕ)
      → list_any is_separator front ≡ false → head ≡ front ++ 4 ∷ back → IsText e front context
      → IsText e back id → key ≡ key_of (Some context) id → IsKeyOf e head key
