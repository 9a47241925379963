use Rattle.std.proofs.Common.{ap, sym, ◌∙◌}
use Rattle.writeable_core.specs.Hint.{text_hint}
use Rattle.icu_list.specs.Pattern.{Pattern, texts}
use Rattle.icu_list.proofs.Places.{texts_are}
use Rattle.icu_list.proofs.provider.joiner.ListJoinerPattern.length_hint.Goals as goal

pub returns : goal.returns
returns c =
    c.of.ensures
    ∙ ap text_hint
    (sym
    (texts_are c.self.inside.string c.as_str.result.now c.self.inside.index_0
    c.self.inside.index_1 c.as_str.utf8 c.as_str.ensures c.self.invariant.0
    c.self.invariant.1 c.self.invariant.2))
    ∙ ap (λ (p : Pattern). text_hint (texts p)) c.self.view_is
