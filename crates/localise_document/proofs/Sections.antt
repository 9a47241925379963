-- Sections of tables.
use Rattle.std.proofs.Common.{◌≡◌, ℕ, List, Some, Ok, Err, true, cond, ap}
use Rattle.serde_json.specs.Data.{Members, object}
use Rattle.localise_document.specs.Members.{has_only}
use Rattle.localise_document.specs.Shape.{place_of}
use Rattle.localise_document.specs.Tables.{section_of}
use Rattle.localise_document.specs.declared.place.Field.TheVariants.{Unknown}
use Rattle.localise_document.specs.declared.place.Section.{Section}

-- a section that is an object with no other members than these has them
pub section_of_object : (section : Section) (names : List (List ℕ)) (ms : Members)
    → has_only names ms ≡ true
    → section_of section names (Some (object ms)) ≡ Ok ms
section_of_object section names ms only =
    ap (λ b. cond b (Ok ms) (Err (place_of section Unknown))) only
