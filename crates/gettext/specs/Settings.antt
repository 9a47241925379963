-- What is kept of the metadata of a file. Private contracts cite it.
use Rattle.std.specs.Prelude.{◌≡◌, ℕ, Bool, true, false, List, Option, Some, None, Result}
use Rattle.std.specs.Prelude.{MatchResult, ◌⊎◌}
use Rattle.gettext.specs.declared.error.Error.{Error}
use Rattle.gettext.specs.declared.error.Error.TheVariants.{NoMemory}
use Rattle.gettext.specs.declared.parser.settings.Settings.{Settings}
use Rattle.gettext.specs.Options.{Options}
use Rattle.gettext.specs.Rule.{rule_shown}
use Rattle.gettext.specs.Metadata.{Field}
use Rattle.gettext.specs.Messages.{plurals_among}
use Rattle.gettext.specs.Mo.{named_encoding}
use Rattle.gettext.specs.Checks.{rule_of}

-- what bounds the numbers of forms, unless a function is forced
abbrev pub plurals_by : Bool → List Field → Option ℕ
plurals_by true fields = None
plurals_by false fields = plurals_among fields

-- what the fields of the metadata settle under these options
pub record IsSettings (o : Options) (fields : List Field) (s : Settings) : Type 0 where
  pub encoding : named_encoding o fields ≡ Some s.encoding
  pub rule : rule_of o fields ≡ Some (rule_shown s.rule)
  pub plurals : s.plurals ≡ plurals_by o.forced fields

-- Ok gives what is there, and an error, if not of memory, says that nothing is.
abbrev pub Answers : {X Y : Type 0} → (X → Y) → Result X Error → Option Y → Error → Type 0
Answers show result found fault = MatchResult result (λ x. found ≡ Some (show x))
    (λ e. (e ≡ NoMemory) ⊎ ((e ≡ fault) × (found ≡ None)))
