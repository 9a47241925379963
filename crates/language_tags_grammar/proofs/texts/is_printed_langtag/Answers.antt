use Rattle.std.proofs.Common.{sym, ◌∙◌, ap}
use Rattle.language_tags_grammar.specs.Case.{in_case}
use Rattle.language_tags_grammar.specs.Lemmas.ScannedText.{scanned-region, scanned-script}
use Rattle.language_tags_grammar.specs.Lemmas.ScannedText.{scanned-within}
use Rattle.language_tags_grammar.proofs.TextLaws.{no_print, fault_of_scan, print_of_scan}
use Rattle.language_tags_grammar.proofs.texts.is_printed_langtag.Goals as goal

pub is_in_case-requires : goal.is_in_case-requires
is_in_case-requires c = record {
  script = scanned-script c.args.text.now c.in-Ok.ends (sym c.in-Ok.ensures);
  region = scanned-region c.args.text.now c.in-Ok.ends (sym c.in-Ok.ensures);
  within =
      scanned-within c.args.text.now c.in-Ok.ends
      (sym c.in-Ok.ensures) c.as_bytes.result.now c.as_bytes.ensures.value;
}

pub returns-in-Ok : goal.returns-in-Ok
returns-in-Ok c =
    let same = ap (λ t. in_case c.in-Ok.ends t) c.as_bytes.ensures.value in
    let both =
    print_of_scan c.args.text.now c.in-Ok.ends c.requires.whole c.requires.private
    (sym c.in-Ok.ensures) in (
      λ yes. both.0 (sym same ∙ c.is_in_case.ensures.0 yes ∙ c.as_bytes.ensures.value),
      λ is. c.is_in_case.ensures.1 (same ∙ both.1 is ∙ sym c.as_bytes.ensures.value),
    )

pub returns-in-Err : goal.returns-in-Err
returns-in-Err c = (
  λ yes. cc,
  λ is. absurd (no_print c.args.text.now c.in-Err.field-0
      (fault_of_scan c.args.text.now c.in-Err.field-0 c.requires.whole c.requires.private
      (sym c.in-Err.ensures)) is),
)
