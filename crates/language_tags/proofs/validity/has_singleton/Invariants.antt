use Rattle.std.proofs.Common.{◌≡◌, nat_eq}
use Rattle.std.specs.List.{list_any}
use Rattle.language_tags.proofs.ValidLaws.{singles}
use Rattle.language_tags.proofs.validity.has_singleton.Given as goal

-- what is left has the singleton exactly where all have
abbrev pub invariant-loop-other : goal.invariant-loop-other
invariant-loop-other l =
    list_any (nat_eq l.singleton) (singles l.other-iterator)
    ≡ list_any (nat_eq l.singleton) (singles l.fn.extensions)
