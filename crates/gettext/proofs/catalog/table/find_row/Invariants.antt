use Rattle.std.proofs.Common.{◌-◌}
use Rattle.gettext.proofs.Keys.{IsBetween}
use Rattle.gettext.specs.Messages.{key_of}
use Rattle.std.specs.Option.{option_map}
use Rattle.gettext.proofs.catalog.table.find_row.Given as goal

abbrev pub invariant-loop-low : goal.invariant-loop-low
invariant-loop-low l =
    IsBetween l.buffer l.rows (key_of (option_map (λ s. s.now) l.context) l.id) l.low l.high

abbrev pub decreases-loop-low : goal.decreases-loop-low
decreases-loop-low l = l.high - l.low
