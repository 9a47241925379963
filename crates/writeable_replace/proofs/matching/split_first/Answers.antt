-- The first character of a text.
use Rattle.std.specs.Prelude.{IsUtf8}
use Rattle.std.proofs.Common.{◌≡◌, ℕ, List, ◌++◌, ◌∷◌, ◌<◌, chars, length, ap, sym, ◌∙◌, arith}
use Rattle.std.proofs.Common.{length-append}
use Rattle.std.proofs.lemmas.Str.{chars_past_char, length-encode, len_utf8_bounds}
use Rattle.writeable_replace.proofs.matching.split_first.Goals as goal
use lib.Utf8.{encode}

behind : (text rest : List ℕ) (c : ℕ) → IsUtf8 text → IsUtf8 rest → text ≡ encode c ++ rest
    → (chars text ≡ c ∷ chars rest) × (length rest < length text) × IsUtf8 rest
behind text rest c utf8 rest_utf8 is =
    let bounds = len_utf8_bounds c in (
      chars_past_char text rest c utf8 is,
      omega (arith, ap length is, length-append (encode c) rest, length-encode c, bounds.0),
      rest_utf8,
    )

pub returns : goal.returns
returns c =
    let steps = c.in_ok-c.ensures.steps in
    behind c.args.text.now c.as_str.result.now c.in_ok-c.c c.utf8.text c.as_str.utf8
    (sym c.chars-all.ensures.rest ∙ steps.0
    ∙ ap (λ s. encode c.in_ok-c.c ++ s) (sym c.as_str.ensures))
