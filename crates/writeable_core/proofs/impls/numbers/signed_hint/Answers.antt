-- A number's text has as many bytes as digits, and one for its sign.
use Rattle.std.specs.Prelude.{pos, unsigned_abs, ◌<ℤ◌, ◌≤ℤ◌}
use Rattle.std.specs.Fmt.{decimal}
use Rattle.std.specs.Int.{w128}
use Rattle.std.proofs.Common.{◌+◌, ap, sym, ◌∙◌, arith, length}
use Rattle.std.proofs.lemmas.Int.{ints, to_z-of_z}
use Rattle.writeable_core.specs.Hint.{exact}
use Rattle.writeable_core.proofs.Digits.{byte_length-negative, byte_length-positive}
use Rattle.writeable_core.proofs.impls.numbers.signed_hint.Goals as goal

pub returns-then-number-lt0 : goal.returns-then-number-lt0
returns-then-number-lt0 c =
    let same = to_z-of_z w128 c.args.number c.ranges.number in
    let size = c.unsigned_abs.ensures.value ∙ ap unsigned_abs same in
    let negative : c.args.number <ℤ pos 0 = grind (arith, ints, to_z-of_z) in
    c.exact.ensures
    ∙ ap (λ k. exact (k + 1)) (c.digits-count.ensures.count ∙ ap (λ n. length (decimal n)) size)
    ∙ ap exact (sym (byte_length-negative c.args.number (omega arith) negative))

pub returns : goal.returns
returns c =
    let same = to_z-of_z w128 c.args.number c.ranges.number in
    let size = c.unsigned_abs.ensures.value ∙ ap unsigned_abs same in
    let positive : pos 0 ≤ℤ c.args.number = grind (arith, ints, to_z-of_z) in
    c.exact-2.ensures ∙ ap exact (c.digits-count.ensures.count ∙ ap (λ n. length (decimal n)) size)
    ∙ ap exact (sym (byte_length-positive c.args.number (omega arith) positive))
