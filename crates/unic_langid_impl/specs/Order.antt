-- How identifiers compare: by language, script, region and variants, in this order; what is missing
-- comes first.
use Rattle.std.specs.Prelude.{ℕ, Bool, List, ◌++◌}
use Rattle.std.specs.Cmp.Lexicographic.{pointwise, slice_cmp}
use Rattle.std.specs.Hash as fed
use Rattle.std.specs.Option.{option_cmp, option_eq}
use Rattle.std.specs.Ordering.{eq_of_both, on, then_cmp}
use Rattle.std.specs.declared.cmp.Ordering.{Ordering}
pub use Rattle.writeable_core.specs.Texts.{same_text}
use Rattle.unic_langid_impl.specs.Identifier.{Identifier, text_cmp}

abbrev pub identifier_eq : Identifier → Identifier → Bool
identifier_eq =
    eq_of_both
    (eq_of_both
    (eq_of_both (on (λ i. i.language) (option_eq same_text))
    (on (λ i. i.script) (option_eq same_text)))
    (on (λ i. i.region) (option_eq same_text)))
    (on (λ i. i.variants) (pointwise same_text))

abbrev pub identifier_cmp : Identifier → Identifier → Ordering
identifier_cmp =
    then_cmp
    (then_cmp
    (then_cmp (on (λ i. i.language) (option_cmp text_cmp))
    (on (λ i. i.script) (option_cmp text_cmp)))
    (on (λ i. i.region) (option_cmp text_cmp)))
    (on (λ i. i.variants) (slice_cmp text_cmp))

-- what is fed to a hasher
abbrev pub identifier_writes : Identifier → fed.HashWrites
identifier_writes i =
    fed.option fed.str i.language
    ++ (fed.option fed.str i.script
    ++ (fed.option fed.str i.region ++ fed.slice fed.str i.variants))
