-- The errors in words.
use Rattle.std.specs.Prelude.{ℕ, List, codes}
use Rattle.gettext.specs.Errors as catalogs
use Rattle.icu_list.specs.Words as lists
use Rattle.localise.specs.declared.error.BundleCause.{BundleCause}
use Rattle.localise.specs.declared.error.BundleCause.TheVariants.{Tag, Mo, List as ListCause}
use Rattle.localise.specs.declared.error.RenderError.{RenderError}
use Rattle.localise.specs.declared.error.RenderError.TheVariants as refusals
use Rattle.wanted_locale.specs.Words as wanted

-- what `BundleCause::text` says: the words of the error that it carries
abbrev pub words_of_cause : BundleCause → List ℕ
words_of_cause (Tag cause) = wanted.words_of cause
words_of_cause (Mo error) = catalogs.words_of error
words_of_cause (ListCause error) = lists.words_of error

-- what `ChainLoops::text` says
abbrev pub words_of_loops : List ℕ
words_of_loops = codes "fallback loops"

-- what `RenderError::text` says: the words of the error that it carries, or its own
abbrev pub words_of_refusal : RenderError → List ℕ
words_of_refusal (refusals.Bundle i cause) = words_of_cause cause
words_of_refusal (refusals.DuplicateLocale i) = codes "locale of an earlier bundle"
words_of_refusal (refusals.Root error) = lists.words_of error
words_of_refusal (refusals.Tag cause) = wanted.words_of cause
words_of_refusal refusals.ChainLoops = words_of_loops
words_of_refusal refusals.Sink = codes "write fault"
words_of_refusal refusals.NoMemory = codes "out of memory"
