use Rattle.std.proofs.Common.{◌++◌, map, ap, sym, ◌∙◌, append-nil}
use Rattle.language_tags.specs.CanonText.{pair_of}
use Rattle.language_tags.specs.Extensions.{item_of}
use Rattle.language_tags.proofs.ItemLaws.{listed-step}
use Rattle.language_tags.proofs.tag.LanguageTag.listed_extensions.Goals as goal

pub loop-singleton-init : goal.loop-singleton-init
loop-singleton-init c =
    ap (λ xs. map pair_of xs ++ map item_of c.into_iter-singleton-iterator.result)
    c.new-extensions.ensures.items
    ∙ ap (map item_of)
    (c.into_iter-singleton-iterator.ensures.into_iter_gives
    ∙ c.extension_subtags-singleton-items.ensures)

pub loop-singleton-preserved : goal.loop-singleton-preserved
loop-singleton-preserved c =
    listed-step c.loop-singleton.extensions.items c.push.new.self.items
    (c.in-Some.singleton, c.in-Some.content)
    (map item_of c.loop-singleton.singleton-iterator)
    (map item_of c.next.new.self) _ c.in_ok-push.ensures.items
    c.in-Some.ensures.steps c.loop-singleton.invariant

pub returns : goal.returns
returns c =
    sym (append-nil (map pair_of c.loop-singleton.extensions.items))
    ∙ ap (λ xs. map pair_of c.loop-singleton.extensions.items ++ xs) (sym c.in-None.ensures.steps.0)
    ∙ c.loop-singleton.invariant
