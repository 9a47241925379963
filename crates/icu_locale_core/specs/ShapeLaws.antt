-- What the shapes of subtags say of a text's bytes.
use Rattle.std.proofs.Common.{◌≡◌, ℕ, Bool, true, List, [], ◌∷◌, length, ⊎_elim, arith, None}
use Rattle.std.proofs.Common.{Option, Some, ◌<◌, lit<}
use Rattle.std.specs.Prelude.{◌==◌, ◌&&◌, IfSome, codes}
use Rattle.std.specs.Char.{is_ascii_digit, is_ascii_lowercase, is_ascii_uppercase}
use Rattle.std.specs.List.{All, list_all}
use Rattle.std.proofs.lemmas.Bool.{or_cases}
use Rattle.std.proofs.lemmas.Bool.Decides.{nat_tests}
use Rattle.std.proofs.lemmas.List.Elements.{All-nil, All-cons, All-weaker}
use Rattle.std.proofs.lemmas.Str.{IsAscii-append}
use Rattle.std.proofs.lemmas.Str.Ascii.{IsAscii-cons, IsAscii-from_all, IsAscii-nil}
use Rattle.std.specs.Str.{IsAscii}
use Rattle.tinystr.specs.ShapesLaws.{lowercase-bytes, small-bytes, tiny_region, tiny_script}
use Rattle.tinystr.specs.ShapesLaws.{tiny_variant, tiny-IsAscii}
use Rattle.tinystr.specs.Text.{IsTinyText}
use Rattle.icu_locale_core.specs.Locale.{IsLocale, Locale, marked, print}
use Rattle.icu_locale_core.specs.Shapes.{is_small, IsLanguage, IsScript, IsRegion, IsVariant}
use Rattle.icu_locale_core.specs.Shapes.{IsSubtag}

-- ---- a subtag is a text that a `TinyStr` holds

-- a language
pub tiny_language : (text : List ℕ) → IsLanguage text → IsTinyText 3 text
tiny_language text h =
    let all : list_all is_ascii_lowercase text ≡ true = grind (arith, nat_tests) in
    record { fits = grind (arith, nat_tests); bytes = lowercase-bytes text all }

-- a subtag
pub tiny_subtag : (text : List ℕ) → IsSubtag text → IsTinyText 8 text
tiny_subtag text h =
    let all : list_all is_small text ≡ true = grind (arith, nat_tests) in
    record { fits = grind (arith, nat_tests); bytes = small-bytes text all }

-- ---- a printed text is ASCII

-- a language
pub language-IsAscii : (text : List ℕ) → IsLanguage text → IsAscii text
language-IsAscii text h = tiny-IsAscii 3 text (tiny_language text h)

-- a script
pub script-IsAscii : (text : List ℕ) → IsScript text → IsAscii text
script-IsAscii text h = tiny-IsAscii 4 text (tiny_script text h)

-- a region
pub region-IsAscii : (text : List ℕ) → IsRegion text → IsAscii text
region-IsAscii text h = tiny-IsAscii 3 text (tiny_region text h)

-- a variant
pub variant-IsAscii : (text : List ℕ) → IsVariant text → IsAscii text
variant-IsAscii text h = tiny-IsAscii 8 text (tiny_variant text h)

-- a subtag
pub subtag-IsAscii : (text : List ℕ) → IsSubtag text → IsAscii text
subtag-IsAscii text h = tiny-IsAscii 8 text (tiny_subtag text h)

-- a mark, and a subtag where there is one
marked-IsAscii : (mark : List ℕ) (o : Option (List ℕ)) → IsAscii mark → IfSome o IsAscii
    → IsAscii (marked mark o)
marked-IsAscii mark None m h = IsAscii-nil
marked-IsAscii mark (Some s) m h = IsAscii-append mark s m h

-- a subtag, where there is one
some_ascii : (Shape : List ℕ → Type 0) → ((s : List ℕ) → Shape s → IsAscii s)
    → (o : Option (List ℕ))
    → IfSome o Shape → IfSome o IsAscii
some_ascii Shape ascii None h = tt
some_ascii Shape ascii (Some s) h = ascii s h

-- the marks
dash-IsAscii : IsAscii (codes "-")
dash-IsAscii = IsAscii-cons 45 [] (lit< tt) IsAscii-nil

-- the mark of a subdivision
extension-IsAscii : IsAscii (codes "-u-sd-")
extension-IsAscii =
    let u = codes "u-sd-" in
    let sd = codes "sd-" in
    let d = codes "d-" in
    IsAscii-cons 45 u (lit< tt) (IsAscii-cons 117 (45 ∷ sd) (lit< tt) (IsAscii-cons 45 sd (lit< tt)
    (IsAscii-cons 115 d (lit< tt) (IsAscii-cons 100 (codes "-") (lit< tt) dash-IsAscii))))

-- the printed text of a locale
pub print-IsAscii : (l : Locale) → IsLocale l → IsAscii (print l)
print-IsAscii l shape =
    IsAscii-append _ (marked (codes "-u-sd-") l.subdivision)
    (IsAscii-append _ (marked (codes "-") l.variant)
    (IsAscii-append _ (marked (codes "-") l.region)
    (IsAscii-append l.language (marked (codes "-") l.script)
    (language-IsAscii l.language shape.language)
    (marked-IsAscii (codes "-") l.script dash-IsAscii
    (some_ascii IsScript script-IsAscii l.script shape.script)))
    (marked-IsAscii (codes "-") l.region dash-IsAscii
    (some_ascii IsRegion region-IsAscii l.region shape.region)))
    (marked-IsAscii (codes "-") l.variant dash-IsAscii
    (some_ascii IsVariant variant-IsAscii l.variant shape.variant)))
    (marked-IsAscii (codes "-u-sd-") l.subdivision extension-IsAscii
    (some_ascii IsSubtag subtag-IsAscii l.subdivision shape.subdivision))
