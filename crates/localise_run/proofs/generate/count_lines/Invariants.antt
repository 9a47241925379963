-- The lines so far are counted, and the locales of their requests are known.
use Rattle.std.proofs.Common.{◌*◌, ◌^◌, ◌≤◌, List, take}
use Rattle.localise.specs.Kept.{AreAlike}
use Rattle.localise.specs.Meaning.{Meaning}
use Rattle.localise.specs.Views.{meanings, root_of}
use Rattle.localise_run.proofs.Made.{AreKnown, AreRemade}
use Rattle.localise_run.proofs.Numbers.{CountsTo}
use Rattle.localise_run.specs.Generating.{AreVisited, made}
use Rattle.localise_run.proofs.generate.count_lines.Given as goal

abbrev pub invariant-loop-number : goal.invariant-loop-number
invariant-loop-number l = record {
  remade : AreRemade l.initial.requests l.requests;
  locales_known : AreKnown l.tables l.initial.requests l.locales.items l.number;
  lines_counted : (bundles : List Meaning) → AreAlike (meanings l.localiser) bundles
      → CountsTo l.tables bundles (root_of l.localiser)
      (made l.initial.requests 0 l.count) l.number l.lines;
  visits : (bundles : List Meaning) → AreAlike (meanings l.localiser) bundles
      → AreVisited l.tables bundles (root_of l.localiser)
      (take l.number (made l.initial.requests 0 l.count)) l.counted.visited;
  small : l.counted.visited ≤ l.number * 2 ^ 67;
}
