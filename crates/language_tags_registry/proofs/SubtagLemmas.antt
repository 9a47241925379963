-- A subtag fits the type that holds it.
use Rattle.std.proofs.Common.{◌≡◌, true, ℕ, List, arith}
use Rattle.std.specs.Char.{is_ascii_lowercase}
use Rattle.std.specs.List.{list_all}
use Rattle.std.proofs.lemmas.Bool.Decides.{nat_tests}
use Rattle.tinystr.specs.Shapes.{IsRegion, IsScript}
use Rattle.tinystr.specs.ShapesLaws.{lowercase-bytes, tiny_region, tiny_script}
use Rattle.tinystr.specs.Text.{IsTinyText}
use Rattle.language_tags_registry.specs.Subtags.{IsLanguage}

pub language_fits : (text : List ℕ) → IsLanguage text → IsTinyText 3 text
language_fits text h =
    let all : list_all is_ascii_lowercase text ≡ true = grind (arith, nat_tests) in
    record { fits = grind (arith, nat_tests); bytes = lowercase-bytes text all }

pub script_fits : (text : List ℕ) → IsScript text → IsTinyText 4 text
script_fits = tiny_script

pub region_fits : (text : List ℕ) → IsRegion text → IsTinyText 3 text
region_fits = tiny_region
