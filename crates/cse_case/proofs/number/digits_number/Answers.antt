use Rattle.std.proofs.Common.{arith}
use Rattle.cse_case.proofs.NumberLaws.{digits_fit, one_more_fits}
use Rattle.cse_case.proofs.number.digits_number.Goals as goal

pub overflow_mul-number : goal.overflow_mul-number
overflow_mul-number c = omega (arith, one_more_fits c.digits.digit-index c.digits.number (omega (arith, c.requires.few, c.digits-test.true)) c.digits.invariant.low)

pub overflow_add-number : goal.overflow_add-number
overflow_add-number c =
    omega (arith, one_more_fits c.digits.digit-index c.digits.number (omega (arith, c.requires.few, c.digits-test.true)) c.digits.invariant.low, c.if-not-is_ascii_digit.ensures.bound)

pub returns-clause-low : goal.returns-clause-low
returns-clause-low c = digits_fit c.digits.digit-index c.digits.number (omega (arith, c.requires.few, c.digits-test.false)) c.digits.invariant.low
