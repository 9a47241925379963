-- The commands, and the words that they are.
use Rattle.std.specs.Prelude.{◌≡◌, ◌≤◌, ℕ, List, [], ◌∷◌, codes, length, map, String, string_bytes}
use Rattle.std.specs.Str.Parse.{IsNumeral, digits_value}
use Rattle.std.specs.declared.alloc.Global.{Global}
use Rattle.localise_run.specs.declared.command.Command.{Command}
use Rattle.localise_run.specs.declared.command.Command.TheVariants.{Render, Walk, Generate}

-- one to seven decimal digits, with a number from 1 to 1,000,000
pub record IsNumber (digits : List ℕ) (n : ℕ) : Type 0 where
  pub numeral : IsNumeral 10 digits
  pub few : length digits ≤ 7
  pub number : n ≡ digits_value 10 digits
  pub positive : 1 ≤ n
  pub most : n ≤ 1_000_000

-- the words of a command
abbrev pub AreWords : Command → List (List ℕ) → Type 0
AreWords Render words = words ≡ codes "render" ∷ []
AreWords Walk words = words ≡ codes "walk" ∷ []
AreWords (Generate n) words =
    (digits : List ℕ) × IsNumber digits n × (words ≡ codes "generate" ∷ digits ∷ [])

-- the words of the command line are a command
abbrev pub IsCommand : List (String Global) → Command → Type 0
IsCommand words command = AreWords command (map string_bytes words)

-- they are none
abbrev pub AreNoCommand : List (String Global) → Type 0
AreNoCommand words = (command : Command) → ¬ (IsCommand words command)
