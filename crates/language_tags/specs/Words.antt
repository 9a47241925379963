-- The errors in words.
use Rattle.std.specs.Prelude.{ℕ, List, codes}
use Rattle.language_tags_grammar.specs.Words as grammar
use Rattle.language_tags.specs.declared.error.TagJsonError.{TagJsonError}
use Rattle.language_tags.specs.declared.error.TagJsonError.TheVariants as json
use Rattle.language_tags.specs.declared.error.ValidationError.{ValidationError}
use Rattle.language_tags.specs.declared.error.ValidationError.TheVariants as rule

-- what `ValidationError::text` says
abbrev pub words_of : ValidationError → List ℕ
words_of rule.DuplicateVariant = codes "a variant subtag may not be repeated"
words_of rule.DuplicateExtension = codes "an extension's singleton may not be repeated"
words_of rule.MultipleExtendedLanguageSubtags = codes "only one extended language subtag is allowed"
words_of rule.PrimaryLanguageNotInRegistry = codes "the primary language is not in the registry"
words_of rule.ExtendedLanguageNotInRegistry = codes "the extended language is not in the registry"
words_of rule.ScriptNotInRegistry = codes "the script is not in the registry"
words_of rule.RegionNotInRegistry = codes "the region is not in the registry"
words_of rule.VariantNotInRegistry = codes "a variant is not in the registry"
words_of rule.WrongExtendedLanguagePrefix = codes "the extended language is not behind its prefix"
words_of rule.WrongVariantPrefix = codes "a variant is not behind one of its prefixes"
words_of rule.NoMemory = codes "no memory"

-- what `TagJsonError::text` says
abbrev pub words_of_json : TagJsonError → List ℕ
words_of_json json.NotText = codes "not a text"
words_of_json (json.Parse fault) = grammar.words_of fault
words_of_json json.NoMemory = codes "no memory"
