use Rattle.std.proofs.Common.{◌≡◌}
use Rattle.icu_locale_fallback.specs.Views.{walk_of}
use Rattle.localise.specs.Chosen.{NoneBelow}
use Rattle.localise.specs.Read.{meanings_of}
use Rattle.localise.proofs.Along.{along}
use Rattle.localise.proofs.Outcomes.{KnownBelow}
use Rattle.localise.proofs.walk.walk_to_stop.Given as goal

-- the walk is where so many steps lead, and no locale before translates or is the unknown one
abbrev pub invariant-loop-steps : goal.invariant-loop-steps
invariant-loop-steps l = record {
  place : walk_of l.walk ≡ along l.fn.fallbacker l.fn.wanted l.steps;
  untranslated :
      NoneBelow l.fn.fallbacker
      (meanings_of l.fn.bundles.list.items) l.fn.wanted l.fn.request l.steps;
  known : KnownBelow l.fn.fallbacker
      (meanings_of l.fn.bundles.list.items) l.fn.wanted l.fn.request l.steps;
}
