-- Where nothing is matched, no character up to the needle's first byte begins the needle.
use Rattle.std.specs.Prelude.{slice_index}
use Rattle.std.proofs.Common.{◌≡◌, ◌≤◌, length, get_or, sym, ap, ◌∙◌, arith}
use Rattle.std.proofs.lemmas.List.{nil_from_length}
use Rattle.std.proofs.lemmas.Bool.Decides.{nat_tests}
use Rattle.writeable_replace.specs.FreeLaws.{free_none, free_all, free_to}
use Rattle.writeable_replace.proofs.matching.free_len.Goals as goal

pub returns-then-matched-gt0 : goal.returns-then-matched-gt0
returns-then-matched-gt0 c =
    free_none c.args.needle.now c.args.text.now c.args.matched c.utf8.text c.requires

pub returns-then-is_empty : goal.returns-then-is_empty
returns-then-is_empty c =
    let none : length c.args.needle.now ≡ 0 = grind (arith, nat_tests) in
    free_all c.args.needle.now c.args.text.now c.args.matched (omega arith)
    (nil_from_length c.args.needle.now none)

pub returns : goal.returns
returns c =
    let some : 1 ≤ length c.args.needle.now = grind (arith, nat_tests) in
    let text = c.as_bytes.ensures.value in
    let needle = c.as_bytes-2.ensures.value in
    free_to c.args.needle.now c.args.text.now c.args.matched c.place_of.result c.utf8.needle
    c.utf8.text (omega arith) some
    (omega (arith, c.place_of.ensures.within, ap length text))
    (λ k less is. c.place_of.ensures.before k less
    (ap (λ s. slice_index s k) text ∙ is ∙ ap (λ s. get_or s 0 0) (sym needle)))
    (λ less. ap (λ s. slice_index s c.place_of.result) (sym text)
    ∙ c.place_of.ensures.found (omega (arith, ap length text)) ∙ ap (λ s. get_or s 0 0) needle)
