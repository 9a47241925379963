use Rattle.std.proofs.Common.{ap, ◌∙◌, chars}
use Rattle.icu_list.specs.Pattern.{Pattern}
use Rattle.icu_list.proofs.Places.{place_in, between_is}
use Rattle.icu_list.proofs.provider.joiner.ListJoinerPattern.between.Goals as goal

pub range-requires-clause-start_boundary : goal.range-requires-clause-start_boundary
range-requires-clause-start_boundary c = λ some.
    place_in c.self.inside.string c.as_str.result.now c.self.inside.index_0 c.as_str.utf8
    c.as_str.ensures c.self.invariant.1

pub range-requires-clause-end_boundary : goal.range-requires-clause-end_boundary
range-requires-clause-end_boundary c =
    place_in c.self.inside.string c.as_str.result.now c.self.inside.index_1 c.as_str.utf8
    c.as_str.ensures c.self.invariant.2

pub returns : goal.returns
returns c =
    ap chars c.range.ensures.value
    ∙ between_is c.self.inside.string c.as_str.result.now c.self.inside.index_0
    c.self.inside.index_1 c.as_str.utf8 c.as_str.ensures
    ∙ ap (λ (p : Pattern). p.between) c.self.view_is
