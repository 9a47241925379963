use Rattle.std.proofs.Common.{◌++◌, map, string_bytes, ap, ◌∙◌, Bor, List, ℕ}
use Rattle.std.specs.List.{list_all}
use Rattle.std.proofs.lemmas.Result.{on_ok_weaker}
use Rattle.language_tags_grammar.specs.Shapes.{is_small}
use Rattle.language_tags_grammar.specs.Tag.{extensions_of}
use Rattle.language_tags.specs.CanonText.{dashed_items, pair_of}
use Rattle.language_tags.proofs.ItemLaws.{extension_at, items-order, items-permutation}
use Rattle.language_tags.proofs.ItemLaws.{items-shapes, items-small, items-text, shaped-extensions}
use Rattle.language_tags.proofs.tag.LanguageTag.push_extensions.Goals as goal

pub push_extensions-requires : goal.push_extensions-requires
push_extensions-requires c =
    let items = c.in_ok-extensions.extensions.items in
    ap (list_all (λ (i : ℕ × Bor (List ℕ)). is_small i.0)) c.as_slice.ensures.value
    ∙ items-small items
    (items-shapes (extensions_of c.args.self.now) (map pair_of items)
    (shaped-extensions c.args.self.now c.requires)
    c.in_ok-extensions.ensures.permutation)

pub returns : goal.returns
returns c =
    let items = map pair_of c.in_ok-extensions.extensions.items in
    let es = extensions_of c.args.self.now in
    let shapes = shaped-extensions c.args.self.now c.requires in
    let old = string_bytes c.args.text.now in
    on_ok_weaker c.push_extensions.result
    (λ h. (
      map extension_at items,
      items-permutation es items shapes c.in_ok-extensions.ensures.permutation,
      items-order items c.in_ok-extensions.ensures.order,
      items-shapes es items shapes c.in_ok-extensions.ensures.permutation,
      h ∙ ap (λ ps. old ++ dashed_items (map pair_of ps)) c.as_slice.ensures.value
          ∙ ap (λ t. old ++ t) (items-text items),
    ))
    c.push_extensions.ensures
