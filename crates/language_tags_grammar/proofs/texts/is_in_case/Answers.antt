-- The two pairs of sections and the last are in their case.
use Rattle.std.proofs.Common.{◌≡◌, true, false, sym, ◌∙◌, arith}
use Rattle.language_tags_grammar.specs.Case.{capital}
use Rattle.language_tags_grammar.proofs.TextLaws.{FirstPair, SecondPair, pairs_there, there_pairs}
use Rattle.language_tags_grammar.proofs.texts.is_in_case.Goals as goal
use Rattle.language_tags_grammar.proofs.texts.is_in_case.Goals.{then-is_cased, else-is_cased}

pub returns-then-is_cased-2 : goal.returns-then-is_cased-2
returns-then-is_cased-2 c =
    let ends = c.args.ends.now in
    let t = c.args.text.now in
    let cap : c.min-capital.result ≡ capital ends = omega arith in
    let both : FirstPair ends t c.requires.script c.requires.region c.min-capital.result cap
    × SecondPair ends t c.requires.script c.requires.region c.min-capital.result cap =
    elim c.if-is_cased.branch [
      | then-is_cased w ↦ (
        c.is_cased.ensures.0 w.if-is_cased.true,
        w.is_cased-then-is_cased.ensures.0 (sym w.value-is ∙ c.if-is_cased-2.true),
      )
      | else-is_cased w ↦ absurd
          (let clash : true ≡ false = sym c.if-is_cased-2.true ∙ w.value-is
          ∙ w.if-is_cased.false in cc)
    ] in (
      λ yes. pairs_there ends t c.requires.script c.requires.region c.min-capital.result cap both.0
          both.1 (c.is_in_lowercase.ensures.0 yes),
      λ is. c.is_in_lowercase.ensures.1
          (there_pairs ends t c.requires.script c.requires.region c.min-capital.result cap is).2,
    )

pub returns-else-is_cased-2 : goal.returns-else-is_cased-2
returns-else-is_cased-2 c =
    let ends = c.args.ends.now in
    let t = c.args.text.now in
    let cap : c.min-capital.result ≡ capital ends = omega arith in (
      λ yes. absurd (let clash : true ≡ false = sym yes ∙ c.if-is_cased-2.false in cc),
      λ is.
          let all =
          there_pairs ends t c.requires.script c.requires.region c.min-capital.result cap is in
          elim c.if-is_cased.branch [
            | then-is_cased w ↦ w.value-is ∙ w.is_cased-then-is_cased.ensures.1 all.1
            | else-is_cased w ↦ absurd
                (let clash : true ≡ false = sym (c.is_cased.ensures.1 all.0)
                ∙ w.if-is_cased.false in cc)
          ],
    )
