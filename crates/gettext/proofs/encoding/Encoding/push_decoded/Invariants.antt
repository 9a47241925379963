use Rattle.std.proofs.Common.{◌≡◌, ◌++◌, take}
use Rattle.gettext.specs.declared.encoding.Encoding.TheVariants.{Latin1, Windows1252}
use Rattle.gettext.specs.Encoding.{utf8_in}
use Rattle.gettext.proofs.encoding.Encoding.push_decoded.Given as goal

abbrev pub invariant-loop-byte : goal.invariant-loop-byte
invariant-loop-byte l =
    l.texts.items ≡ l.fn.texts.items ++ utf8_in Latin1 (take l.byte-index l.bytes)

abbrev pub invariant-loop-byte-2 : goal.invariant-loop-byte-2
invariant-loop-byte-2 l =
    l.texts.items ≡ l.fn.texts.items ++ utf8_in Windows1252 (take l.byte-index l.bytes)
