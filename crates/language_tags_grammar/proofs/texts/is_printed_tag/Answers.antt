use Rattle.std.proofs.Common.{sym, ◌∙◌, ap, refl, true, false, ◌≡◌}
use Rattle.std.proofs.lemmas.Slice.Eq.{bytes_eq-Decides}
use Rattle.language_tags_grammar.specs.Pieces.{lowercase}
use Rattle.language_tags_grammar.specs.Tag.{Whole}
use Rattle.language_tags_grammar.specs.TagOf.{whole}
use Rattle.language_tags_grammar.proofs.TextLaws.{no_private_print, print_of, private_print}
use Rattle.language_tags_grammar.proofs.texts.is_printed_tag.Goals as goal

pub returns-in-Some : goal.returns-in-Some
returns-in-Some c =
    let t = c.args.text.now in
    let g = c.in-Some.tag.now in
    let both = print_of t (Whole g) (whole g (sym c.in-Some.ensures) refl) in (
      λ yes. both.0 (sym ((bytes_eq-Decides t g).0 (sym c.eq.ensures ∙ yes))),
      λ is. c.eq.ensures ∙ (bytes_eq-Decides t g).1 (sym (both.1 is)),
    )

pub returns-then-is_ok : goal.returns-then-is_ok
returns-then-is_ok c =
    let both =
    private_print c.args.text.now (lowercase c.in-Some-behind_x.rest.now) c.check.result
    (sym c.in_default.ensures)
    c.in-Some-behind_x.ensures c.check.ensures (sym c.is_ok.ensures.value ∙ c.if-is_ok.true) in
    let same = c.as_bytes.ensures.value in (
      λ yes. both.0 (sym (ap lowercase same) ∙ c.is_in_lowercase.ensures.0 yes ∙ same),
      λ is. c.is_in_lowercase.ensures.1 (ap lowercase same ∙ both.1 is ∙ sym same),
    )

pub returns-else-is_ok : goal.returns-else-is_ok
returns-else-is_ok c = (
  λ yes. let clash : true ≡ false = sym yes ∙ c.if-is_ok.false in cc,
  λ is.
      absurd
      (no_private_print c.args.text.now (lowercase c.in-Some-behind_x.rest.now) c.check.result
      (sym c.in_default.ensures)
      c.in-Some-behind_x.ensures c.check.ensures (sym c.is_ok.ensures.value ∙ c.if-is_ok.false) is),
)
