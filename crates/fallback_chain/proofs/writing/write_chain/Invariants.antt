-- The walk is where the steps so far lead, and what was taken is the text of its locales so far.
use Rattle.std.proofs.Common.{◌≡◌}
use Rattle.icu_locale_fallback.specs.Views.{walk_of}
use Rattle.fallback_chain.specs.Along.{along}
use Rattle.fallback_chain.specs.Chain.{chain_text}
use Rattle.fallback_chain.proofs.writing.write_chain.Given as goal

abbrev pub invariant-loop-step : goal.invariant-loop-step
invariant-loop-step g l = record {
  here : walk_of l.walk ≡ along l.fn.fallbacker l.fn.locale l._step;
  taken : g.S.Sink.took l.fn.sink (chain_text l.fn.fallbacker l.fn.locale l._step) l.sink;
}
