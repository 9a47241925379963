-- What is wrong with a file, as the reader finds it. Private contracts alone cite this file: it is
-- `mo_fault`, since `expression_of` finds the trees that `expr` has (the law `one_tree`).
use Rattle.std.specs.Prelude.{ℕ, Bool, true, false, List, [], Option, Some, None, is_some}
use Rattle.std.specs.Option.{option_map, unwrap_or}
use Rattle.std.specs.Str.{chars}
use Rattle.writeable_core.specs.FirstFailure.{Condition}
use Rattle.gettext.specs.declared.error.Error.{Error}
use Rattle.gettext.specs.Options.{Options}
use Rattle.gettext.specs.Metadata.{Field}
use Rattle.gettext.specs.Parsing.{expression_of}
use Rattle.gettext.specs.Messages.{Rule, Default, Expr, Function}
use Rattle.gettext.specs.Mo.{plural_of, fields_in_file}
use Rattle.gettext.specs.Faults.{metadata_conditions, all_rows_conditions, first_fault}

-- a forced function, else the expression that is read, else the default; none of an unreadable text
abbrev pub rule_by : Bool → Option (List ℕ) → Option Rule
rule_by true plural = Some Function
rule_by false None = Some Default
rule_by false (Some plural) = option_map Expr (expression_of (chars plural))

-- the rule that is read of these fields, where there is one
abbrev pub rule_of : Options → List Field → Option Rule
rule_of o fields = rule_by o.forced (plural_of fields)

-- whether a rule is read of the metadata
abbrev pub is_ruled : Options → Option (List Field) → Bool
is_ruled o fields = is_some (rule_of o (unwrap_or fields []))

-- the conditions of the metadata, told whether a rule is read
abbrev pub metadata_checks : Options → Option (List Field) → List (Condition Error)
metadata_checks o fields = metadata_conditions o fields (is_ruled o fields)

-- those of n rows
abbrev pub all_rows_checks : List ℕ → Options → ℕ → List (Condition Error)
all_rows_checks b o n = all_rows_conditions b o (is_ruled o (fields_in_file b o)) n

-- what is wrong with a file
abbrev pub found_fault : List ℕ → Options → Option Error
found_fault b o = first_fault b o (is_ruled o (fields_in_file b o))
