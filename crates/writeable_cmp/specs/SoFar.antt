-- The text so far of the sink that looks for it at the front of other bytes.
use Rattle.std.specs.Prelude.{◌≡◌, ℕ, ◌≤◌, List, true, chars, string_bytes, take, length}
use Rattle.std.specs.Str.{is_utf8}
use Rattle.writeable_cmp.specs.Sharing.{BeginsWith}
use Rattle.writeable_cmp.specs.declared.borrow.SoFar.{SoFar}
use Rattle.writeable_cmp.specs.declared.borrow.SoFar.TheVariants.{Shared, Copied}

-- the front of the other bytes, or what was copied
abbrev pub text_so_far : List ℕ → SoFar → List ℕ
text_so_far reference (Shared count) = chars (take count reference)
text_so_far reference (Copied text) = chars (string_bytes text)

-- a front that is shared is a text; the other bytes don't begin with what was copied
abbrev pub IsSoFar : List ℕ → SoFar → Type 0
IsSoFar reference (Shared count) =
    (count ≤ length reference) × (is_utf8 (take count reference) ≡ true)
IsSoFar reference (Copied text) = BeginsWith reference (string_bytes text) → ⊥
