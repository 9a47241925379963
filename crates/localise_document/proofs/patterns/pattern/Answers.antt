-- The characters of an ASCII text are its bytes.
use Rattle.std.proofs.Common.{◌≡◌, codes, refl, rules}
use Rattle.std.proofs.lemmas.Str.{chars-IsAscii}
use Rattle.std.specs.Str.{chars}
use Rattle.localise_document.proofs.Ascii.{is_ascii_text}
use Rattle.localise_document.proofs.patterns.pattern.Goals as goal

pub returns : goal.returns
returns c =
    let plain : chars (codes "{0}, {1}") ≡ codes "{0}, {1}" =
    chars-IsAscii (codes "{0}, {1}") (is_ascii_text (codes "{0}, {1}") refl) in
    search (rules, plain)
