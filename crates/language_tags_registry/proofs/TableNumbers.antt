-- The tables by their numbers.
use Rattle.std.proofs.Common.{◌≡◌, ℕ, zero, suc, ◌+◌, ◌<◌, length, List, [], ◌∷◌, Some, get_or}
use Rattle.std.proofs.Common.{refl, sym, ap, ◌∙◌, arith}
use Rattle.std.specs.List.{slice_get}
use Rattle.language_tags_registry.specs.Kinds.{kind_of}
use Rattle.language_tags_registry.specs.Registry.{Entry, table_of, tables_at}
use Rattle.language_tags_registry.specs.declared.kind.RegistryTable.{RegistryTable}
use Rattle.language_tags_registry.specs.declared.kind.RegistryTable.TheVariants.{Languages}
use Rattle.language_tags_registry.specs.declared.kind.RegistryTable.TheVariants.{LanguagesPreferred}
use Rattle.language_tags_registry.specs.declared.kind.RegistryTable.TheVariants.{LanguagesSuppressScript}
use Rattle.language_tags_registry.specs.declared.kind.RegistryTable.TheVariants.{Extlangs}
use Rattle.language_tags_registry.specs.declared.kind.RegistryTable.TheVariants.{ExtlangsPreferred}
use Rattle.language_tags_registry.specs.declared.kind.RegistryTable.TheVariants.{Scripts}
use Rattle.language_tags_registry.specs.declared.kind.RegistryTable.TheVariants.{ScriptsPreferred}
use Rattle.language_tags_registry.specs.declared.kind.RegistryTable.TheVariants.{Regions}
use Rattle.language_tags_registry.specs.declared.kind.RegistryTable.TheVariants.{RegionsPreferred}
use Rattle.language_tags_registry.specs.declared.kind.RegistryTable.TheVariants.{Variants}
use Rattle.language_tags_registry.specs.declared.kind.RegistryTable.TheVariants.{VariantsPreferred}
use Rattle.language_tags_registry.specs.declared.kind.RegistryTable.TheVariants.{GrandfatheredsPreferred}
use Rattle.language_tags_registry.specs.declared.kind.RegistryTable.TheVariants.{RedundantsPreferred}

-- the table of a name is that at its number
pub table_of-tables_at : (ts : List (List Entry)) (table : RegistryTable)
    → table_of table (tables_at ts) ≡ get_or ts (kind_of table).number []
table_of-tables_at ts Languages = refl
table_of-tables_at ts LanguagesPreferred = refl
table_of-tables_at ts LanguagesSuppressScript = refl
table_of-tables_at ts Extlangs = refl
table_of-tables_at ts ExtlangsPreferred = refl
table_of-tables_at ts Scripts = refl
table_of-tables_at ts ScriptsPreferred = refl
table_of-tables_at ts Regions = refl
table_of-tables_at ts RegionsPreferred = refl
table_of-tables_at ts Variants = refl
table_of-tables_at ts VariantsPreferred = refl
table_of-tables_at ts GrandfatheredsPreferred = refl
table_of-tables_at ts RedundantsPreferred = refl

-- the numbers end at 12
pub number-lt : (table : RegistryTable) → (kind_of table).number < 13
number-lt Languages = omega arith
number-lt LanguagesPreferred = omega arith
number-lt LanguagesSuppressScript = omega arith
number-lt Extlangs = omega arith
number-lt ExtlangsPreferred = omega arith
number-lt Scripts = omega arith
number-lt ScriptsPreferred = omega arith
number-lt Regions = omega arith
number-lt RegionsPreferred = omega arith
number-lt Variants = omega arith
number-lt VariantsPreferred = omega arith
number-lt GrandfatheredsPreferred = omega arith
number-lt RedundantsPreferred = omega arith

-- the tables in order, each at its number
abbrev pub in_order : List RegistryTable
in_order =
    Languages ∷ LanguagesPreferred ∷ LanguagesSuppressScript ∷ Extlangs ∷ ExtlangsPreferred
    ∷ Scripts ∷ ScriptsPreferred ∷ Regions ∷ RegionsPreferred ∷ Variants ∷ VariantsPreferred
    ∷ GrandfatheredsPreferred ∷ RedundantsPreferred ∷ []

listed : (table : RegistryTable) → slice_get in_order (kind_of table).number ≡ Some table
listed Languages = refl
listed LanguagesPreferred = refl
listed LanguagesSuppressScript = refl
listed Extlangs = refl
listed ExtlangsPreferred = refl
listed Scripts = refl
listed ScriptsPreferred = refl
listed Regions = refl
listed RegionsPreferred = refl
listed Variants = refl
listed VariantsPreferred = refl
listed GrandfatheredsPreferred = refl
listed RedundantsPreferred = refl

-- tables of one number are one
pub same_number : (a b : RegistryTable) → (kind_of a).number ≡ (kind_of b).number → a ≡ b
same_number a b e =
    let both : Some a ≡ Some b = sym (listed a) ∙ ap (slice_get in_order) e ∙ listed b in cc

-- tables with the numbers from n on
abbrev AreNumbered : ℕ → List RegistryTable → Type 0
AreNumbered n [] = Unit {0}
AreNumbered n (table ∷ tables) = ((kind_of table).number ≡ n) × AreNumbered (suc n) tables

in_order-AreNumbered : AreNumbered 0 in_order
in_order-AreNumbered = (
  refl,
  (
    refl,
    (
      refl,
      (
        refl,
        (
          refl,
          (
            refl,
            (
              refl,
              (
                refl,
                (
                  refl,
                  (
                    refl,
                    (
                      refl,
                      (
                        refl,
                        (refl, tt),
                      ),
                    ),
                  ),
                ),
              ),
            ),
          ),
        ),
      ),
    ),
  ),
)

-- the number of the table at a place
number-at : (tables : List RegistryTable) (n k : ℕ) (d : RegistryTable) → AreNumbered n tables
    → k < length tables
    → (kind_of (get_or tables k d)).number ≡ n + k
number-at [] n k d h below = absurd (omega arith)
number-at (table ∷ tables) n zero d h below = omega (arith, h.0)
number-at (table ∷ tables) n (suc k) d h below =
    omega (arith, number-at tables (suc n) k d h.1 (omega arith))

pub number-in_order : (k : ℕ) (d : RegistryTable) → k < 13
    → (kind_of (get_or in_order k d)).number ≡ k
number-in_order k d below = omega (arith, number-at in_order 0 k d in_order-AreNumbered below)
