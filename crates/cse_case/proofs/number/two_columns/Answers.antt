use Rattle.std.proofs.Common.{◌∷◌, [], Some, ap, sym, ◌∙◌, arith}
use Rattle.cse_value.specs.Field.{digits_number}
use Rattle.cse_case.proofs.NumberLaws.{blank_before, one_digit, two_digits}
use Rattle.cse_case.proofs.number.two_columns.Goals as goal

pub returns-then-first-eq32-clause-number : goal.returns-then-first-eq32-clause-number
returns-then-first-eq32-clause-number c =
    let ones = c.in-Some.ensures.digit in
    ap digits_number (blank_before c.args.first (c.args.last ∷ []) c.if-first-eq32.true) ∙ one_digit c.args.last ones.0 ∙ ap Some (sym ones.1)

pub returns-clause-number : goal.returns-clause-number
returns-clause-number c =
    let ones = c.in-Some.ensures.digit in
    let tens = c.in-Some-digit.ensures.digit in
    two_digits c.args.first c.args.last tens.0 ones.0 ∙ ap Some (omega (arith, ones.1, tens.1))
