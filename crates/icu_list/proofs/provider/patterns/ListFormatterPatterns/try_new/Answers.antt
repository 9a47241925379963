use Rattle.std.proofs.Common.{◌≡◌, List, ℕ, ap, sym, ◌∙◌, chars, rules, true, false}
use Rattle.std.specs.Option.{option_map}
use Rattle.std.specs.Str.{bytes_eq}
use Rattle.std.proofs.lemmas.Slice.Eq.{bytes_eq-Decides}
use Rattle.writeable_core.specs.Texts.{same_text}
use Rattle.writeable_core.specs.TextLaws.{bytes_eq-chars}
use Rattle.icu_list.specs.PatternTexts.{joiner}
use Rattle.icu_list.specs.PatternsView.{pair_of}
use Rattle.icu_list.proofs.Making.{made, shared, pair_none, pair_some}
use Rattle.icu_list.proofs.provider.patterns.ListFormatterPatterns.try_new.Goals as goal
use Rattle.icu_list.proofs.provider.patterns.ListFormatterPatterns.try_new.Goals.{then-eq}
use Rattle.icu_list.proofs.provider.patterns.ListFormatterPatterns.try_new.Goals.{else-eq+in_ok-two}

pub returns-clause-ok : goal.returns-clause-ok
returns-clause-ok c =
    let texts : bytes_eq c.args.pair.now c.args.end.now
    ≡ same_text (chars c.args.pair.now) (chars c.args.end.now) =
    bytes_eq-chars c.args.pair.now c.args.end.now c.utf8.pair c.utf8.end in
    elim c.if-eq.branch [
      | then-eq w ↦
          let eq : bytes_eq c.args.pair.now c.args.end.now ≡ true = search rules in
          let same : c.args.pair.now ≡ c.args.end.now =
          (bytes_eq-Decides c.args.pair.now c.args.end.now).0 eq in
          made (chars c.args.start.now) (chars c.args.middle.now) (chars c.args.end.now)
          (chars c.args.pair.now)
          c.in_ok-start.start c.in_ok-last.last c.in_ok-last.last c.in_ok-middle.middle
          c.from-2.result c.if-eq.pair
          c.in_ok-start.ensures.ok c.in_ok-middle.ensures.ok c.in_ok-last.ensures.ok
          (ap (λ (t : List ℕ). joiner true true (chars t)) same
          ∙ shared (chars c.args.end.now) c.in_ok-last.last c.in_ok-last.ensures.ok)
          c.from-2.ensures.0 c.from-2.ensures.1
          (ap (option_map pair_of) w.pair-is
          ∙ pair_none (same_text (chars c.args.pair.now) (chars c.args.end.now))
          c.in_ok-last.last (sym texts ∙ eq))
      | else-eq+in_ok-two w ↦
          let eq : bytes_eq c.args.pair.now c.args.end.now ≡ false = search rules in
          made (chars c.args.start.now) (chars c.args.middle.now) (chars c.args.end.now)
          (chars c.args.pair.now)
          c.in_ok-start.start c.in_ok-last.last w.in_ok-two.two c.in_ok-middle.middle
          c.from-2.result c.if-eq.pair
          c.in_ok-start.ensures.ok c.in_ok-middle.ensures.ok c.in_ok-last.ensures.ok
          w.in_ok-two.ensures.ok
          c.from-2.ensures.0 c.from-2.ensures.1
          (ap (option_map pair_of) w.pair-is
          ∙ pair_some (same_text (chars c.args.pair.now) (chars c.args.end.now)) w.in_ok-two.two
          w.from.result (sym texts ∙ eq) w.from.ensures.0 w.from.ensures.1)
    ]
