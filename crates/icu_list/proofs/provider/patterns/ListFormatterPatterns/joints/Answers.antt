use Rattle.std.proofs.Common.{◌≡◌, ap, ◌∙◌, chars, rules}
use Rattle.std.specs.Prelude.{unwrap_or}
use Rattle.icu_list.specs.Patterns.{Patterns, two_for}
use Rattle.icu_list.specs.Choices.{chosen}
use Rattle.icu_list.specs.Frames.{frame_two}
use Rattle.icu_list.proofs.Making.{two_chosen, frame_is}
use Rattle.icu_list.proofs.provider.patterns.ListFormatterPatterns.joints.Goals as goal

pub returns-then-is_pair : goal.returns-then-is_pair
returns-then-is_pair g c =
    let two : c.pattern_for-two.result.now
    ≡ chosen (unwrap_or c.self.inside.pair c.self.inside.end)
    (g.W.Writeable.text c.args.last.now) = search rules in
    let serves =
    two_chosen c.self.inside.start c.self.inside.middle c.self.inside.end c.self.inside.pair
    (g.W.Writeable.text c.args.last.now) c.self.invariant.1 c.self.invariant.2 in
    rw c.if-is_pair.true
    (frame_is (chars c.prefix.result.now) (chars c.between-between.result.now)
    (chars c.suffix.result.now) c.pattern_for-two.result.now c.prefix.ensures
    c.between-between.ensures c.suffix.ensures
    ∙ ap frame_two
    (two ∙ serves
    ∙ ap (λ (p : Patterns). two_for p (g.W.Writeable.text c.args.last.now)) c.self.view_is))
