use Rattle.std.proofs.Common.{ap, ◌∙◌, chars}
use Rattle.icu_list.specs.Pattern.{Pattern}
use Rattle.icu_list.proofs.Places.{place_in, suffix_is}
use Rattle.icu_list.proofs.provider.joiner.ListJoinerPattern.suffix.Goals as goal

pub range_from-requires : goal.range_from-requires
range_from-requires c = λ some.
    place_in c.self.inside.string c.as_str.result.now c.self.inside.index_1 c.as_str.utf8
    c.as_str.ensures c.self.invariant.2

pub returns : goal.returns
returns c =
    ap chars c.range_from.ensures.value
    ∙ suffix_is c.self.inside.string c.as_str.result.now c.self.inside.index_0 c.self.inside.index_1
    c.as_str.utf8 c.as_str.ensures
    ∙ ap (λ (p : Pattern). p.suffix) c.self.view_is
