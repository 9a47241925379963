use Rattle.std.proofs.Common.{◌≡◌, true, false, ap, sym, ◌∙◌, string_bytes}
use Rattle.std.specs.List.{list_any}
use Rattle.std.specs.Str.{bytes_eq}
use Rattle.std.proofs.lemmas.Result.{on_ok_weaker}
use Rattle.language_tags_grammar.specs.Pieces.{pieces}
use Rattle.language_tags.proofs.WrittenLaws.{grows-pieces, grows-text, stays-pieces, stays-text}
use Rattle.language_tags.proofs.canonical.push_variant.Goals as goal

pub returns-then-contains : goal.returns-then-contains
returns-then-contains c =
    let old = string_bytes c.args.text.now in
    let there : list_any (bytes_eq c.args.variant.now) (pieces old) ≡ true =
    ap (λ t. list_any (bytes_eq c.args.variant.now) (pieces t)) (sym c.as_str.ensures.value)
    ∙ ap (list_any (bytes_eq c.args.variant.now)) (sym c.new.ensures) ∙ sym c.contains.ensures
    ∙ c.if-contains.true in record {
      text = stays-text old c.args.variant.now there;
      pieces = stays-pieces old c.args.variant.now there;
    }

pub returns : goal.returns
returns c =
    let old = string_bytes c.args.text.now in
    let there : list_any (bytes_eq c.args.variant.now) (pieces old) ≡ false =
    ap (λ t. list_any (bytes_eq c.args.variant.now) (pieces t)) (sym c.as_str.ensures.value)
    ∙ ap (list_any (bytes_eq c.args.variant.now)) (sym c.new.ensures) ∙ sym c.contains.ensures
    ∙ c.if-contains.false in record {
      text =
          on_ok_weaker c.push_part.result
          (λ h. grows-text old c.args.variant.now (string_bytes c.push_part.new.text) there h)
          c.push_part.ensures;
      pieces = on_ok_weaker c.push_part.result
          (λ h. grows-pieces old c.args.variant.now
          (string_bytes c.push_part.new.text) c.requires there h) c.push_part.ensures;
    }
