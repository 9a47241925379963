use Rattle.std.proofs.Common.{◌≡◌, ◌<◌, length, string_bytes, bytes_eq, false, sym, ◌∙◌, subst}
use Rattle.std.proofs.Common.{arith}
use Rattle.std.proofs.lemmas.List.{length-map}
use Rattle.std.specs.List.{list_any}
use Rattle.serde_json.proofs.Views.{Entry}
use Rattle.localise_document.specs.Members.{texts}
use Rattle.localise_document.proofs.MembersByName.{IsRead, none_read, one_read, one_refused}
use Rattle.localise_document.proofs.MembersByName.{all_read}
use Rattle.localise_document.proofs.members.members_by_name.Goals as goal

pub loop-key-init : goal.loop-key-init
loop-key-init g c =
    let names = texts c.args.names.now in
    let all = c.args.members.entries in
    let long : length c.default-slots.result ≡ length names =
    c.default-slots.ensures.long
    ∙ sym (length-map c.args.names.now (λ name. name.now) ∙ c.requires.count) in (
      subst (λ es. IsRead names all es c.default-slots.result)
          (sym c.into_iter-key-iterator.ensures.into_iter_gives.0)
          (none_read names all c.default-slots.result long
          (λ i d less. c.default-slots.ensures.at i d
          (subst (λ n. i < n) c.default-slots.ensures.long less))),
      omega arith,
    )

pub returns-in_err-place : goal.returns-in_err-place
returns-in_err-place g c =
    let names = texts c.args.names.now in
    let e : Entry = (c.in-Some.key, c.in-Some.value) in
    let key : c.as_str.result.now ≡ string_bytes e.0 = c.as_str.ensures.value in
    let none : list_any (bytes_eq (string_bytes e.0)) names ≡ false =
    subst (λ k. list_any (bytes_eq k) names ≡ false) key c.in_err-place.ensures.missing in
    let read =
    subst (λ es. IsRead names c.args.members.entries es c.loop-key.slots)
    c.in-Some.ensures.steps c.loop-key.invariant.0 in
    rw (c.from_residual.ensures)
    (one_refused names c.args.members.entries e c.next.new.self c.loop-key.slots none read)

pub loop-key-preserved : goal.loop-key-preserved
loop-key-preserved g c =
    let names = texts c.args.names.now in
    let e : Entry = (c.in-Some.key, c.in-Some.value) in
    let key : c.as_str.result.now ≡ string_bytes e.0 = c.as_str.ensures.value in
    let within : c.in_ok-place.place < length names =
    subst (λ n. c.in_ok-place.place < n)
    (sym (length-map c.args.names.now (λ name. name.now))) c.in_ok-place.ensures.found.0 in
    let read =
    subst (λ es. IsRead names c.args.members.entries es c.loop-key.slots)
    c.in-Some.ensures.steps c.loop-key.invariant.0 in (
      one_read names c.args.members.entries e c.next.new.self c.loop-key.slots c.in_ok-place.place
          c.into_iter-key-iterator.ensures.into_iter_gives.5 c.requires.distinct within
          (c.in_ok-place.ensures.found.1 ∙ key) read,
      omega (arith, c.in_ok-place.ensures.found.0),
    )

pub returns : goal.returns
returns g c =
    let names = texts c.args.names.now in
    all_read names c.args.members.entries c.loop-key.slots
    (subst (λ es. IsRead names c.args.members.entries es c.loop-key.slots)
    c.in-None.ensures.steps.0 c.loop-key.invariant.0)
