use Rattle.std.proofs.Common.{◌≡◌, nat_eq}
use Rattle.language_tags.specs.Valid.{are_different}
use Rattle.language_tags.proofs.ValidLaws.{singles}
use Rattle.language_tags.proofs.validity.has_different_singletons.Given as goal

-- the singletons that are left are different exactly where all are
abbrev pub invariant-loop-singleton : goal.invariant-loop-singleton
invariant-loop-singleton l =
    (goal.iterator-loop-singleton).can_next l.rest × (goal.iterator-loop-singleton).is_finite l.rest
    × (are_different nat_eq (singles l.rest) ≡ are_different nat_eq (singles l.fn.extensions))
