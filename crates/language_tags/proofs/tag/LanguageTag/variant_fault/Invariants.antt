use Rattle.std.proofs.Common.{◌≡◌}
use Rattle.std.specs.List.{flat_map}
use Rattle.writeable_core.specs.FirstFailure.{first_failure}
use Rattle.language_tags_grammar.specs.Tag.{variants_of, print}
use Rattle.language_tags.specs.Valid.{variant_rules}
use Rattle.language_tags.proofs.tag.LanguageTag.variant_fault.Given as goal

-- the first fault of those that are left is that of all
abbrev pub invariant-loop-variant : goal.invariant-loop-variant
invariant-loop-variant l =
    first_failure (flat_map (variant_rules l.registry (print l.self)) l.variant-iterator)
    ≡ first_failure (flat_map (variant_rules l.registry (print l.self)) (variants_of l.self))
