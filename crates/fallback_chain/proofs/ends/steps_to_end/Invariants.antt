-- The walk is where `steps` steps lead, and was not at the unknown locale before.
use Rattle.std.proofs.Common.{◌≡◌, ◌≢◌, ℕ, ◌-◌, ◌<◌, ◌≤◌}
use Rattle.icu_locale_core.specs.Locale.{unknown}
use Rattle.icu_locale_fallback.specs.Views.{walk_of}
use Rattle.icu_locale_fallback.specs.Walk.{at}
use Rattle.fallback_chain.specs.Along.{along}
use Rattle.fallback_chain.proofs.ends.steps_to_end.Given as goal

abbrev pub invariant-loop-walk : goal.invariant-loop-walk
invariant-loop-walk l = record {
  here : walk_of l.walk ≡ along l.fn.fallbacker l.fn.locale l.steps;
  within : l.steps ≤ l.most;
  before : (j : ℕ) → j < l.steps → at l.fn.fallbacker l.fn.locale j ≢ unknown;
}

abbrev pub decreases-loop-walk : goal.decreases-loop-walk
decreases-loop-walk l = l.most - l.steps
