use Rattle.std.proofs.Common.{◌≡◌, ◌-◌, sym, ap, ◌∙◌, subst, Some, arith}
use Rattle.std.proofs.lemmas.List.{length-map}
use Rattle.std.specs.List.{slice_get}
use Rattle.std.specs.BTreeMap.{get}
use Rattle.localise.specs.Places.{locale_cmp}
use Rattle.localise.specs.Read.{meaning_of, meanings_of}
use Rattle.localise.proofs.Placing.{place-within, translation-found, translation-missing}
use Rattle.localise.proofs.bundles.Bundles.translation.Goals as goal

pub returns-in_err-number : goal.returns-in_err-number
returns-in_err-number c =
    let l = c.args.locale.now in
    let bs = meanings_of c.args.self.now.list.items in
    let none = sym (c.args.self.now.placed l)
    ∙ ap (get locale_cmp c.args.self.now.places) (sym c.of.ensures)
    ∙ sym c.in_err-number.ensures.value in
    c.from_residual.ensures ∙ sym (translation-missing 0 bs c.args.request.now l none)

pub get-requires-2 : goal.get-requires-2
get-requires-2 c =
    let l = c.args.locale.now in
    let bs = meanings_of c.args.self.now.list.items in
    let place = sym (c.args.self.now.placed l)
    ∙ ap (get locale_cmp c.args.self.now.places) (sym c.of.ensures)
    ∙ sym c.in_ok-number.ensures.value in
    let low = (place-within 0 bs l c.in_ok-number.field-0.now place).1 in
    let same = length-map c.args.self.now.list.items meaning_of in
    omega arith

pub returns : goal.returns
returns c =
    let l = c.args.locale.now in
    let bs = meanings_of c.args.self.now.list.items in
    let place = sym (c.args.self.now.placed l)
    ∙ ap (get locale_cmp c.args.self.now.places) (sym c.of.ensures)
    ∙ sym c.in_ok-number.ensures.value in
    let n = c.in_ok-number.field-0.now in
    let same : n ≡ n - 0 = omega arith in
    let there =
    subst (λ k. slice_get bs k ≡ Some (meaning_of c.get-2.result.now)) same c.get-2.ensures in
    c.translation.ensures
    ∙ sym
    (translation-found 0 bs c.args.request.now l n (meaning_of c.get-2.result.now) place there)
