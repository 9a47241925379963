-- A number from one power of ten on and below the next has one digit more than the power.
use Rattle.std.proofs.Common.{◌≡◌, ap, sym, ◌∙◌, arith, length}
use Rattle.std.specs.Fmt.{decimal}
use Rattle.std.proofs.lemmas.Fmt.{decimal_digit}
use Rattle.writeable_core.proofs.Digits.{length-decimal}
use Rattle.writeable_core.proofs.impls.numbers.digits.Goals as goal

pub returns-in-Some-clause-count : goal.returns-in-Some-clause-count
returns-in-Some-clause-count c =
    sym
    (length-decimal c.args.number c.in-Some.power
    (omega arith) c.in-Some.ensures.power_le c.in-Some.ensures.next_power_gt)

pub returns-in-None-clause-count : goal.returns-in-None-clause-count
returns-in-None-clause-count c =
    let none : c.args.number ≡ 0 = c.in-None.ensures.none in
    sym (ap (λ n. length (decimal n)) none ∙ ap length (decimal_digit 0 (omega arith)))
