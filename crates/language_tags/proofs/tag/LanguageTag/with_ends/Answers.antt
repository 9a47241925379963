use Rattle.std.proofs.Common.{◌∙◌, ap, string_bytes}
use Rattle.language_tags_grammar.specs.Tag.{Plain}
use Rattle.language_tags_grammar.specs.Lemmas.ScannedText.{scanned-case, scanned-keeps}
use Rattle.language_tags_grammar.specs.Lemmas.ScannedText.{scanned-parts, scanned-region}
use Rattle.language_tags_grammar.specs.Lemmas.ScannedText.{scanned-script, scanned-utf8}
use Rattle.language_tags_grammar.specs.Lemmas.ScannedText.{scanned-within, was_scanned}
use Rattle.language_tags.proofs.tag.LanguageTag.with_ends.Goals as goal

pub in_case-requires : goal.in_case-requires
in_case-requires c = record {
  script = scanned-script c.args.text.now c.args.ends c.requires;
  region = scanned-region c.args.text.now c.args.ends c.requires;
  within =
      scanned-within c.args.text.now c.args.ends c.requires c.as_bytes.result.now
      c.as_bytes.ensures.value;
}

pub from_utf8_unchecked-requires : goal.from_utf8_unchecked-requires
from_utf8_unchecked-requires c =
    scanned-utf8 c.args.text.now c.args.ends c.requires c.in_ok-bytes.bytes.items
    (scanned-case c.args.text.now c.args.ends c.requires c.as_bytes.result.now
    c.in_ok-bytes.bytes.items c.as_bytes.ensures.value c.in_ok-bytes.ensures)

pub invariant_of-result : goal.invariant_of-result
invariant_of-result c =
    scanned-keeps c.args.text.now c.args.ends c.requires (string_bytes c.from_utf8_unchecked.result)
    (ap (λ v. v.items) c.from_utf8_unchecked.ensures.value
    ∙ scanned-case c.args.text.now c.args.ends c.requires c.as_bytes.result.now
    c.in_ok-bytes.bytes.items c.as_bytes.ensures.value c.in_ok-bytes.ensures)

pub returns : goal.returns
returns c =
    let s = was_scanned c.args.text.now c.args.ends c.requires in (
      s.parts,
      record { shapes = s.shapes; in_order = s.in_order },
      ap Plain
          (scanned-parts c.args.text.now c.args.ends c.requires
          (string_bytes c.from_utf8_unchecked.result)
          (ap (λ v. v.items) c.from_utf8_unchecked.ensures.value
          ∙ scanned-case c.args.text.now c.args.ends c.requires c.as_bytes.result.now
          c.in_ok-bytes.bytes.items c.as_bytes.ensures.value c.in_ok-bytes.ensures)),
    )
