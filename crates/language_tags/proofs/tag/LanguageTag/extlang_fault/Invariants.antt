use Rattle.std.proofs.Common.{◌≡◌}
use Rattle.std.specs.List.{flat_map}
use Rattle.writeable_core.specs.FirstFailure.{first_failure}
use Rattle.language_tags_grammar.specs.Tag.{extlangs_of, print}
use Rattle.language_tags.specs.Valid.{extlang_rules}
use Rattle.language_tags.proofs.tag.LanguageTag.extlang_fault.Given as goal

-- the first fault of those that are left is that of all
abbrev pub invariant-loop-extlang : goal.invariant-loop-extlang
invariant-loop-extlang l =
    first_failure (flat_map (extlang_rules l.registry (print l.self)) l.extlang-iterator)
    ≡ first_failure (flat_map (extlang_rules l.registry (print l.self)) (extlangs_of l.self))
