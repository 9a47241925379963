use Rattle.std.proofs.Common.{◌++◌, ap, sym, ◌∙◌, map, string_bytes}
use Rattle.std.specs.List.{list_all}
use Rattle.language_tags_grammar.specs.Pieces.{dashed, pieces}
use Rattle.language_tags_grammar.specs.Shapes.{is_variant}
use Rattle.language_tags.specs.Canon.{not_written, replaced}
use Rattle.language_tags.proofs.WrittenLaws.{all-done, head-variant, replaced-variant}
use Rattle.language_tags.proofs.WrittenLaws.{shaped-variants, tail-variants, text-done}
use Rattle.language_tags.proofs.WrittenLaws.{variant-shape, variant-text}
use Rattle.language_tags.proofs.tag.LanguageTag.push_variants.Goals as goal

pub loop-subtag-init : goal.loop-subtag-init
loop-subtag-init c =
    let e = c.into_iter-subtag-iterator.ensures.into_iter_gives
    ∙ c.variant_subtags-subtag-items.ensures in
    let W = pieces (string_bytes c.args.text.now) in
    let f = replaced c.args.registry.now.variants_preferred in record {
      text = ap (λ xs. string_bytes c.args.text.now ++ dashed (not_written W (map f xs))) e;
      shape = λ h. sym (ap (λ xs. list_all is_variant (not_written W (map f xs))) e) ∙ h;
      left = ap (list_all is_variant) e ∙ shaped-variants c.args.self.now c.requires;
    }

pub push_variant-requires : goal.push_variant-requires
push_variant-requires c =
    replaced-variant c.replaced-variant.result.now c.in-Some.subtag.now
    c.replaced-variant.ensures.shape
    (head-variant c.loop-subtag.subtag-iterator c.next.new.self c.in-Some.subtag.now
    c.in-Some.ensures.steps c.loop-subtag.invariant.left)

pub loop-subtag-preserved : goal.loop-subtag-preserved
loop-subtag-preserved c =
    let f = replaced c.args.registry.now.variants_preferred in
    let cur = string_bytes c.loop-subtag.text in
    let new = string_bytes c.push_variant.new.text in
    let v = c.replaced-variant.result.now in
    let shape = replaced-variant v c.in-Some.subtag.now c.replaced-variant.ensures.shape
    (head-variant c.loop-subtag.subtag-iterator c.next.new.self c.in-Some.subtag.now
    c.in-Some.ensures.steps c.loop-subtag.invariant.left) in record {
      text =
          variant-text f cur new c.in-Some.subtag.now v c.loop-subtag.subtag-iterator
          c.next.new.self c.in-Some.ensures.steps
          c.replaced-variant.ensures.value c.in_ok-push_variant.ensures.text
          c.in_ok-push_variant.ensures.pieces _ c.loop-subtag.invariant.text;
      shape =
          λ h. c.loop-subtag.invariant.shape
          (variant-shape f cur new c.in-Some.subtag.now v c.loop-subtag.subtag-iterator
          c.next.new.self
          c.in-Some.ensures.steps c.replaced-variant.ensures.value c.in_ok-push_variant.ensures.text
          c.in_ok-push_variant.ensures.pieces shape h);
      left =
          tail-variants c.loop-subtag.subtag-iterator c.next.new.self c.in-Some.subtag.now
          c.in-Some.ensures.steps c.loop-subtag.invariant.left;
    }

pub returns : goal.returns
returns c =
    let f = replaced c.args.registry.now.variants_preferred in record {
      text =
          text-done f (string_bytes c.loop-subtag.text) c.loop-subtag.subtag-iterator _
          c.in-None.ensures.steps.0 c.loop-subtag.invariant.text;
      shape =
          c.loop-subtag.invariant.shape
          (all-done f (string_bytes c.loop-subtag.text) c.loop-subtag.subtag-iterator
          c.in-None.ensures.steps.0);
    }
