-- A text that names a subtag in any case fits the type that holds it.
use Rattle.std.proofs.Common.{◌≡◌, true, ℕ, List, arith, refl}
use Rattle.std.specs.Char.{is_ascii_lowercase}
use Rattle.std.specs.List.{list_all}
use Rattle.std.specs.Str.{chars}
use Rattle.std.proofs.lemmas.Bool.Decides.{nat_tests}
use Rattle.std.proofs.lemmas.Str.{chars-IsAscii}
use Rattle.tinystr.specs.Shapes.{IsScript, IsRegion, IsVariant}
use Rattle.tinystr.specs.ShapesLaws.{lowercase-bytes, tiny_lowercase, tiny_region, tiny_script}
use Rattle.tinystr.specs.ShapesLaws.{tiny_titlecase, tiny_uppercase, tiny_variant, tiny-IsAscii}
use Rattle.tinystr.specs.Text.{IsTinyText, titlecase}
use Rattle.unic_langid_impl.specs.Subtags.{IsLanguage, lowercase, und, uppercase}

pub language_fits : (text : List ℕ) → IsLanguage text → IsTinyText 8 text
language_fits text h =
    let all : list_all is_ascii_lowercase text ≡ true = grind (arith, nat_tests) in
    record { fits = grind (arith, nat_tests); bytes = lowercase-bytes text all }

pub tiny_language : (text : List ℕ) → IsLanguage (lowercase text) → IsTinyText 8 text
tiny_language text h = tiny_lowercase 8 text (language_fits (lowercase text) h)

pub script_fits : (text : List ℕ) → IsScript (titlecase text) → IsTinyText 4 text
script_fits text h = tiny_titlecase 4 text (tiny_script (titlecase text) h)

pub region_fits : (text : List ℕ) → IsRegion (uppercase text) → IsTinyText 3 text
region_fits text h = tiny_uppercase 3 text (tiny_region (uppercase text) h)

pub variant_fits : (text : List ℕ) → IsVariant (lowercase text) → IsTinyText 8 text
variant_fits text h = tiny_lowercase 8 text (tiny_variant (lowercase text) h)

pub chars-und : chars und ≡ und
chars-und = chars-IsAscii und (tiny-IsAscii 8 und (language_fits und refl))
