-- Bytes as a document writes them.
use Rattle.std.specs.Prelude.{ℕ, List, Option, option_and_then}
use Rattle.std.specs.Result.{result_ok}
use Rattle.hex.specs.Hex.{decode_of}
use Rattle.serde_json.specs.Data.{Data}
use Rattle.serde_json.specs.Find.{as_str}

-- the bytes of a text of hexadecimal digits, two a byte
abbrev pub bytes_of : Data → Option (List ℕ)
bytes_of d = option_and_then (λ digits. result_ok (decode_of digits)) (as_str d)
