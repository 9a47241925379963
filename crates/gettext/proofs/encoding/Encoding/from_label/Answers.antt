use Rattle.std.proofs.Common.{refl}
use Rattle.gettext.specs.Encoding.{encoding_of}
use Rattle.gettext.proofs.Encodings.{trimmed-is}
use Rattle.gettext.proofs.encoding.Encoding.from_label.Goals as goal

pub returns-then-is_among : goal.returns-then-is_among
unfolding encoding_of
returns-then-is_among c =
    let name = trimmed-is _ _ c.trim_ascii-name.ensures.value in
    rw (← name, ← c.is_among.ensures, c.if-is_among.true) refl

pub returns-then-is_among-2 : goal.returns-then-is_among-2
unfolding encoding_of
returns-then-is_among-2 c =
    let name = trimmed-is _ _ c.trim_ascii-name.ensures.value in
    rw (
      ← name,
      ← c.is_among.ensures,
      c.if-is_among.false,
      ← c.is_among-else-is_among.ensures,
      c.if-is_among-2.true,
    ) refl

pub returns-else-is_among-2 : goal.returns-else-is_among-2
unfolding encoding_of
returns-else-is_among-2 c =
    let name = trimmed-is _ _ c.trim_ascii-name.ensures.value in
    rw (
      ← name,
      ← c.is_among.ensures,
      c.if-is_among.false,
      ← c.is_among-else-is_among.ensures,
      c.if-is_among-2.false,
    ) refl
