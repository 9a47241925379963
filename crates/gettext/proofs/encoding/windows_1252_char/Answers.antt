use Rattle.std.proofs.Common.{◌∙◌, arith}
use Rattle.gettext.proofs.Encodings.{windows_1252-high, windows_1252-low, windows_1252-above}
use Rattle.gettext.proofs.encoding.windows_1252_char.Goals as goal

pub returns-in-128-to-159 : goal.returns-in-128-to-159
returns-in-128-to-159 c = windows_1252-high _ _ (omega arith) (omega arith) c.from.ensures

pub returns-in_default : goal.returns-in_default
returns-in_default c =
    elim c.in_default.branch [
      | goal.in_default-via-then-byte-lt128 w ↦ c.from-in_default.ensures
          ∙ windows_1252-low c.args.byte (omega arith)
      | goal.in_default-via-else-byte-lt128+else-byte-lt160 w ↦ c.from-in_default.ensures
          ∙ windows_1252-above c.args.byte (omega arith)
    ]
