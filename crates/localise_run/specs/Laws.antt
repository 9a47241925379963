-- Laws of runs, as statements.
use Rattle.std.specs.Prelude.{◌≡◌, ℕ, List}
use Rattle.localise_run.specs.Answers.{Says}
use Rattle.localise_run.specs.declared.command.Command.{Command}
use Rattle.localise_status.specs.declared.status.Status.{Status}

-- bytes have one answer to a command, and one text
abbrev pub OneAnswer : Type 0
OneAnswer =
    (command : Command) (bytes : List ℕ) (a b : Status) (s t : List ℕ) → Says command bytes a s
    → Says command bytes b t
    → (a ≡ b) × (s ≡ t)
