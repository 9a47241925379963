-- What calls say of an identifier's parts.
use Rattle.std.specs.Prelude.{◌≡◌, ◌⊎◌, ℕ, Bool, true, List, [], Option}
use Rattle.unic_langid_impl.specs.Identifier.{Identifier}
use Rattle.unic_langid_impl.specs.Reading.{IsAscendingOf}
use Rattle.unic_langid_impl.specs.Subtags.{Fits}

-- the identifier has these parts, and of these variants each once, in order
pub record HasParts (language script region : Option (List ℕ)) (variants : List (List ℕ))
    (i : Identifier) : Type 0 where
  pub language_is : i.language ≡ language
  pub script_is : i.script ≡ script
  pub region_is : i.region ≡ region
  pub variants_are : IsAscendingOf variants i.variants

-- equal, or missing on a side that is a range
abbrev pub FitVariants : List (List ℕ) → List (List ℕ) → Bool → Bool → Type 0
FitVariants one other one_ranges other_ranges =
    (one ≡ other) ⊎ (((one_ranges ≡ true) × (one ≡ [])) ⊎ ((other_ranges ≡ true) × (other ≡ [])))

-- each part is equal, or missing on a side that is a range
pub record Matches (one other : Identifier) (one_ranges other_ranges : Bool) : Type 0 where
  pub language : Fits one.language other.language one_ranges other_ranges
  pub script : Fits one.script other.script one_ranges other_ranges
  pub region : Fits one.region other.region one_ranges other_ranges
  pub variants : FitVariants one.variants other.variants one_ranges other_ranges
