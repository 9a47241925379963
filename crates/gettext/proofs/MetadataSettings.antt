-- What the metadata of a file settle.
use Rattle.std.proofs.Common.{◌≡◌, Bool, true, false, cond, List, [], Option, Some, None, refl, sym}
use Rattle.std.proofs.Common.{◌∙◌}
use Rattle.std.specs.Option.{unwrap_or}
use Rattle.writeable_core.specs.FirstFailure.{first_failure}
use Rattle.gettext.specs.declared.error.Error.TheVariants.{MalformedMetadata, PluralParsing}
use Rattle.gettext.specs.declared.error.Error.TheVariants.{UnknownEncoding}
use Rattle.gettext.specs.declared.encoding.Encoding.{Encoding}
use Rattle.gettext.specs.declared.encoding.Encoding.TheVariants.{Utf8}
use Rattle.gettext.specs.declared.parser.settings.Settings.{Settings}
use Rattle.gettext.specs.Options.{Options}
use Rattle.gettext.specs.Rule.{rule_shown}
use Rattle.gettext.specs.Metadata.{Field, value_of}
use Rattle.gettext.specs.Messages.{Rule, Default, Function}
use Rattle.gettext.specs.Mo.{first_encoding, encoding_by, named_encoding}
use Rattle.gettext.specs.Faults.{metadata_conditions}
use Rattle.gettext.specs.Checks.{rule_by, rule_of, metadata_checks}
use Rattle.gettext.specs.Settings.{IsSettings, plurals_by}

-- ---- without metadata

-- without a charset the encoding is the forced one, else UTF-8
pub first_named : (forced : Option Encoding)
    → encoding_by forced None ≡ Some (unwrap_or forced Utf8)
first_named None = refl
first_named (Some e) = refl

-- without an expression the rule is a forced function, else the default
pub rule_without : (forced : Bool) → rule_by forced None ≡ Some (cond forced Function Default)
rule_without true = refl
rule_without false = refl

-- without fields nothing bounds the forms
plurals_without : (forced : Bool) → plurals_by forced [] ≡ None
unfolding value_of
plurals_without true = refl
plurals_without false = refl

-- so a file without metadata is settled
pub no_metadata : (o : Options) (s : Settings) → s.encoding ≡ first_encoding o
    → rule_shown s.rule ≡ cond o.forced Function Default → s.plurals ≡ None → IsSettings o [] s
unfolding value_of
no_metadata o s e r p = record {
  encoding = rw e (first_named o.encoding);
  rule = rw r (rule_without o.forced);
  plurals = p ∙ sym (plurals_without o.forced);
}

-- ---- the conditions of metadata

module _ (o : Options) (found : Option (List Field)) where
  module _ (fields : List Field) (is : found ≡ Some fields) where
    -- then there is none
    pub holds : (e : Encoding) (rule : Rule) → named_encoding o fields ≡ Some e
        → rule_of o fields ≡ Some rule → first_failure (metadata_checks o found) ≡ None
    unfolding metadata_conditions
    holds e rule n r = rw (is, n, r) refl
