use Rattle.std.proofs.Common.{◌≡◌, ◌+◌, ◌*◌, ◌-◌, get_or, take, ◌∙◌, ap, arith}
use Rattle.std.specs.Str.Parse.{digits_value}
use Rattle.std.proofs.lemmas.List.{take_all}
use Rattle.gettext.proofs.Words.{is_digit, too_large, too_large_before, goes_on}
use Rattle.gettext.proofs.plurals.tokens.number_of.Goals as goal

pub overflow_sub-digit : goal.overflow_sub-digit
overflow_sub-digit c = is_digit _ _ _ c.requires c.loop-digit-test.true c.loop-digit.invariant.0

pub returns-in_err-checked_mul : goal.returns-in_err-checked_mul
returns-in_err-checked_mul c =
    rw c.from_residual.ensures
    (too_large_before _ _ _ c.requires c.loop-digit-test.true c.loop-digit.invariant.0
    c.in_err-checked_mul.ensures)

pub returns-in_err-number : goal.returns-in_err-number
returns-in_err-number c =
    rw c.from_residual-in_err-number.ensures
    (too_large _ _ _ c.requires c.loop-digit-test.true c.loop-digit.invariant.0
    (λ h. c.in_err-number.ensures
    (omega (arith, h, c.in_ok-checked_mul.ensures.1, c.from.ensures))))

pub loop-digit-preserved : goal.loop-digit-preserved
loop-digit-preserved c =
    let next = goes_on _ _ _ c.requires c.loop-digit-test.true c.loop-digit.invariant.0 in
    let is : c.in_ok-number.number
    ≡ c.loop-digit.number * 10 + (get_or c.args.digits.now c.loop-digit.digit-index 0 - 48) =
    omega (arith, c.in_ok-number.ensures.1, c.in_ok-checked_mul.ensures.1, c.from.ensures) in
    (is ∙ next, omega (arith, c.in_ok-number.ensures.0, c.in_ok-number.ensures.1))

pub returns : goal.returns
returns c =
    let all : take c.loop-digit.digit-index c.args.digits.now ≡ c.args.digits.now =
    take_all _ _ c.loop-digit-test.false in
    let is : c.loop-digit.number ≡ digits_value 10 c.args.digits.now = c.loop-digit.invariant.0
    ∙ ap (digits_value 10) all in
    (rw (← is) c.loop-digit.invariant.1, is)
