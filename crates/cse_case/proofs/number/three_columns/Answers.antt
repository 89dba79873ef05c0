use Rattle.std.proofs.Common.{Some, ap, ◌∙◌, arith}
use Rattle.cse_case.proofs.NumberLaws.{three_digits}
use Rattle.cse_case.proofs.number.three_columns.Goals as goal

pub returns-clause-number : goal.returns-clause-number
returns-clause-number c =
    let ones = c.in-Some-digit-2.ensures.digit in
    let tens = c.in-Some-digit.ensures.digit in
    let hundreds = c.in-Some.ensures.digit in
    three_digits c.args.first c.args.second c.args.last hundreds.0 tens.0 ones.0 ∙ ap Some (omega (arith, ones.1, tens.1, hundreds.1))
