use Rattle.std.proofs.Common.{List, ℕ, ap, ◌∙◌}
use Rattle.icu_list.specs.Conditions.{applies}
use Rattle.icu_list.proofs.ConditionLaws.{applied}
use Rattle.icu_list.proofs.provider.serde_dfa.SerdeDFA.matches_earliest_fwd_lazy.Goals as goal

pub returns : goal.returns
returns g c =
    applied c.self.inside.pattern
    (g.W.Writeable.text c.args.haystack.now) c.self.inside.condition c.matches.result
    c.self.invariant c.matches.ensures
    ∙ ap (λ (p : List ℕ). applies p (g.W.Writeable.text c.args.haystack.now)) c.self.view_is
