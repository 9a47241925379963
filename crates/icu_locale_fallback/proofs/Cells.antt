-- The subtags of a cell. A cell is seen as its characters and read as its bytes; those of a
-- subtag are the same.
use Rattle.std.proofs.Common.{◌≡◌, ℕ, List, Option, Some, None, Result, Ok, Err, IsUtf8}
use Rattle.std.proofs.Common.{MatchOption, sym, ap, ◌∙◌, subst}
use Rattle.std.specs.Option.{SomeIff}
use Rattle.std.specs.Result.{OkIff, result_ok}
use Rattle.std.specs.Str.{chars, IsAscii}
use Rattle.std.proofs.lemmas.Str.{chars-IsAscii, encodes-chars}
use Rattle.std.proofs.lemmas.Str.Ascii.{encodes-IsAscii}
use lib.Utf8.{encodes}
use Rattle.icu_locale_core.specs.Locale.{Locale, IsLocale, IsPrinted, print}
use Rattle.icu_locale_core.specs.ReadingLaws.{print-determines}
use Rattle.icu_locale_core.specs.ShapeLaws.{print-IsAscii}
use Rattle.icu_locale_fallback.specs.Cells.{locale_of, IsLocaleOf, IsLocaleOfNone, PrintsAs}
use Rattle.icu_locale_fallback.specs.Cells.{PrintsNone}
use Rattle.icu_locale_fallback.specs.Triple.{Triple}

-- the bytes of a text that is seen as ASCII characters
pub bytes_of : (text cell : List ℕ) → IsUtf8 text → chars text ≡ cell → IsAscii cell → text ≡ cell
bytes_of text cell utf8 is ascii =
    sym (encodes-chars text utf8) ∙ ap encodes is ∙ encodes-IsAscii cell ascii

-- the characters of a text that is read as ASCII bytes
pub characters_of : (text cell : List ℕ) → chars text ≡ cell → IsAscii text → text ≡ cell
characters_of text cell is ascii = sym (chars-IsAscii text ascii) ∙ is

-- a subtag that is read from a cell is that of its characters
module _ (Shape : List ℕ → Type 0)
    (is_ascii : (text : List ℕ) → Shape text → IsAscii text) {E : Type 0} where
  pub subtag_of_cell : (read : Result (List ℕ) E) (text cell : List ℕ) → IsUtf8 text
      → chars text ≡ cell → OkIff read (Shape text) text
      → SomeIff (result_ok read) (Shape cell) cell
  subtag_of_cell (Ok subtag) text cell utf8 is (shape, same) =
      let e = characters_of text cell is (is_ascii text shape) in
      (subst Shape e shape, same ∙ e)
  subtag_of_cell (Err error) text cell utf8 is refused =
      λ shape. refused (subst Shape (sym (bytes_of text cell utf8 is (is_ascii cell shape))) shape)

module _ (text cell : List ℕ) (utf8 : IsUtf8 text) (is : chars text ≡ cell) where
  -- a cell that a triple prints as has the bytes of its text
  cell_text : (t : Triple) → PrintsAs cell t → print (locale_of t) ≡ text
  cell_text t h =
      let ascii : IsAscii cell = subst IsAscii h.printed (print-IsAscii (locale_of t) h.shape) in
      h.printed ∙ sym (bytes_of text cell utf8 is ascii)

  -- what a locale that is read says of the cell's triple
  pub triple_of_cell : (o : Option Triple) (l : Locale) → IsLocale l → print l ≡ text
      → MatchOption o (IsLocaleOfNone l) (IsLocaleOf l)
      → MatchOption o (PrintsNone cell) (PrintsAs cell)
  triple_of_cell (Some t) l shape printed same =
      let shape_is : IsLocale (locale_of t) = subst IsLocale (sym same) shape in
      let text_is : print (locale_of t) ≡ text = ap print same ∙ printed in
      let ascii : IsAscii text = subst IsAscii text_is (print-IsAscii (locale_of t) shape_is) in
      record { shape = shape_is; printed = text_is ∙ characters_of text cell is ascii }
  triple_of_cell None l shape printed other =
      λ t h. other t (print-determines (locale_of t) l h.shape shape (cell_text t h ∙ sym printed))

  -- a cell that prints no locale prints no triple
  pub none_of_cell : ¬ (IsPrinted text) → PrintsNone cell
  none_of_cell refused t h = refused (locale_of t, h.shape, cell_text t h)
