use Rattle.std.specs.FinMap as map
use Rattle.icu_locale_fallback.specs.Triple.{triple_cmp}
use Rattle.icu_locale_fallback.proofs.provider.Parents.new.Goals as goal

-- an empty map has no entry
pub invariant_of-result : goal.invariant_of-result
invariant_of-result c = rw c.new.ensures.empty (map.len-empty triple_cmp _)
