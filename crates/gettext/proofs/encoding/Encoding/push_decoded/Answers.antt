use Rattle.std.proofs.Common.{◌++◌, ◌∙◌, ap, encode_utf8, arith}
use Rattle.gettext.specs.declared.encoding.Encoding.TheVariants.{Latin1, Windows1252}
use Rattle.gettext.specs.Encoding.{windows_1252, utf8_in}
use Rattle.gettext.proofs.Encodings.{spelled-more, Latin1-spells, Windows1252-spells}
use Rattle.gettext.proofs.encoding.Encoding.push_decoded.Goals as goal

pub loop-byte-preserved : goal.loop-byte-preserved
loop-byte-preserved c =
    let pushed = c.in_ok-push_char-in-Latin1.ensures
    ∙ ap (λ char. c.loop-byte.texts.items ++ encode_utf8 char) c.from.ensures in
    spelled-more encode_utf8 (utf8_in Latin1) Latin1-spells _ _ _ _ _ (omega arith)
    c.loop-byte.invariant pushed

pub loop-byte-2-preserved : goal.loop-byte-2-preserved
loop-byte-2-preserved c =
    let pushed = c.in_ok-push_char-in-Windows1252.ensures
    ∙ ap (λ char. c.loop-byte-2.texts.items ++ encode_utf8 char) c.windows_1252_char.ensures in
    spelled-more (λ byte. encode_utf8 (windows_1252 byte)) (utf8_in Windows1252) Windows1252-spells
    _ _ _ _ _ (omega arith) c.loop-byte-2.invariant pushed
