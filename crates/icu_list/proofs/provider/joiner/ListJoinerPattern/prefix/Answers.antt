use Rattle.std.proofs.Common.{◌≡◌, arith, ap, ◌∙◌, take, chars}
use Rattle.icu_list.specs.Pattern.{Pattern}
use Rattle.icu_list.proofs.Places.{place_in, prefix_is}
use Rattle.icu_list.proofs.provider.joiner.ListJoinerPattern.prefix.Goals as goal

pub range-requires-clause-end_boundary : goal.range-requires-clause-end_boundary
range-requires-clause-end_boundary c =
    place_in c.self.inside.string c.as_str.result.now c.self.inside.index_0 c.as_str.utf8
    c.as_str.ensures c.self.invariant.1

pub returns : goal.returns
returns c =
    let shown : c.range.result.now ≡ take c.self.inside.index_0 c.as_str.result.now = grind arith in
    ap chars shown
    ∙ prefix_is c.self.inside.string c.as_str.result.now c.self.inside.index_0 c.self.inside.index_1
    c.as_str.utf8 c.as_str.ensures
    ∙ ap (λ (p : Pattern). p.prefix) c.self.view_is
