use Rattle.std.proofs.Common.{◌≡◌, length, sym, ap, ◌∙◌, subst, Some, None, ◌∷◌, []}
use Rattle.std.proofs.lemmas.List.{length-map, map-append}
use Rattle.std.specs.BTreeMap.{Updates, get}
use Rattle.localise.specs.Places.{ArePlaces, locale_cmp}
use Rattle.localise.specs.Read.{meaning_of, meanings_of}
use Rattle.localise.specs.declared.error.RenderError.TheVariants.{DuplicateLocale}
use Rattle.localise.proofs.Placing.{place-among, place-apart, places-push}
use Rattle.localise.proofs.bundles.Bundles.with.Goals as goal

pub returns-in-Ok-Some-clause-err : goal.returns-in-Ok-Some-clause-err
returns-in-Ok-Some-clause-err c =
    let bs = meanings_of c.args.self.list.items in
    let l = c.args.bundle.locale in
    let there = sym c.in-Ok-Some.ensures.old ∙ c.in-Ok-Some.field-0-is in
    let place = sym (c.args.self.placed l)
    ∙ ap (get locale_cmp c.args.self.places) (sym c.of.ensures) ∙ there in
    λ _. (ap DuplicateLocale c.len-number.ensures, place-among 0 bs l c.in-Ok-Some.field-0-0 place)

pub invariant_of-result : goal.invariant_of-result
invariant_of-result c =
    let bs = meanings_of c.args.self.list.items in
    let l = c.args.bundle.locale in
    let none : get locale_cmp c.args.self.places l ≡ None =
    ap (get locale_cmp c.args.self.places) (sym c.of.ensures) ∙ sym c.in-Ok-None.ensures.old
    ∙ c.in-Ok-None.field-0-is in
    let put : Updates locale_cmp c.args.self.places c.insert.new.self l (Some (length bs)) =
    subst (λ n. Updates locale_cmp c.args.self.places c.insert.new.self l (Some n))
    (c.len-number.ensures ∙ sym (length-map c.args.self.list.items meaning_of))
    (subst
    (λ k. Updates locale_cmp c.args.self.places c.insert.new.self k (Some c.len-number.result))
    c.of.ensures c.in-Ok-None.ensures.updates) in
    let places =
    places-push bs
    (meaning_of c.args.bundle) c.args.self.places c.insert.new.self
    c.args.self.placed none put in
    let listed = ap meanings_of c.in-Ok.ensures.items
    ∙ map-append meaning_of c.args.self.list.items (c.args.bundle ∷ []) in
    record { placed = subst (λ ms. ArePlaces ms c.insert.new.self) (sym listed) places }

pub returns-in-Ok-clause-apart : goal.returns-in-Ok-clause-apart
returns-in-Ok-clause-apart c =
    let l = c.args.bundle.locale in
    let none : get locale_cmp c.args.self.places l ≡ None =
    ap (get locale_cmp c.args.self.places) (sym c.of.ensures) ∙ sym c.in-Ok-None.ensures.old
    ∙ c.in-Ok-None.field-0-is in
    place-apart 0 (meanings_of c.args.self.list.items) l (sym (c.args.self.placed l) ∙ none)
