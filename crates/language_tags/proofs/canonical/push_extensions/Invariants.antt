use Rattle.std.proofs.Common.{◌≡◌, ◌++◌, map, drop, string_bytes}
use Rattle.language_tags.specs.CanonText.{dashed_items, pair_of}
use Rattle.language_tags.proofs.canonical.push_extensions.Given as goal

-- what is there and what is left to append give the whole
abbrev pub invariant-loop-singleton : goal.invariant-loop-singleton
invariant-loop-singleton l =
    string_bytes l.text ++ dashed_items (map pair_of (drop l.singleton-index l.extensions))
    ≡ string_bytes l.fn.text ++ dashed_items (map pair_of l.extensions)
