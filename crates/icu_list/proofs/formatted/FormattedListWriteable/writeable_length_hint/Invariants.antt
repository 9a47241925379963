use Rattle.std.proofs.Common.{◌≡◌, map, drop}
use Rattle.std.specs.List.{fold}
use Rattle.writeable_core.specs.Hint.{hint_sum}
use Rattle.icu_list.specs.ListHint.{items_hint}
use Rattle.icu_list.proofs.formatted.FormattedListWriteable.writeable_length_hint.Given as goal

abbrev pub invariant-loop-value : goal.invariant-loop-value
invariant-loop-value g l =
    fold hint_sum l.items (map g.W.Writeable.hint (drop l.value-index l.self.values.now))
    ≡ items_hint (map g.W.Writeable.hint l.self.values.now)
