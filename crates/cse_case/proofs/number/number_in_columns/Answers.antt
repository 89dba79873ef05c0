use Rattle.std.proofs.Common.{◌^◌, ◌<◌, ap, sym, ◌∙◌, arith, w64}
use Rattle.std.proofs.lemmas.Int.{to_z_pos}
use Rattle.cse_case.specs.Bytes.{beside_lent}
use Rattle.cse_value.specs.declared.number.Num.TheVariants.{Whole}
use Rattle.cse_value.specs.Field.{digits_number}
use Rattle.cse_case.proofs.BytesLaws.{length-columns_by}
use Rattle.cse_case.proofs.NumberLaws.{blanks_low, digits_are_ascii, empty_is, field_of_ascii, field_of_blanks, no_code, the_code}
use Rattle.cse_case.proofs.number.number_in_columns.Goals as goal

pub returns-then-is_empty : goal.returns-then-is_empty
returns-then-is_empty c =
    let bytes = c.args.columns.bytes.now in
    let spelled = c.without_front-spelled.result.now in
    let none = sym c.is_empty.ensures ∙ c.if-is_empty.true in
    field_of_blanks bytes spelled c.args.code c.without_front-spelled.ensures.same none
    ∙ field_of_ascii bytes (beside_lent c.args.columns) c.args.code (blanks_low bytes (sym c.without_front-spelled.ensures.same ∙ empty_is spelled none))

pub returns-then-is_code : goal.returns-then-is_code
returns-then-is_code c =
    let bytes = c.args.columns.bytes.now in
    let spelled = c.without_front-spelled.result.now in
    let digits = ap digits_number (sym c.without_front-spelled.ensures.same) ∙ sym c.in-Some.ensures.number in
    the_code bytes spelled c.in-Some.number c.args.code c.without_front-spelled.ensures.same (sym c.in-Some.ensures.number) c.in-Some.ensures.low (sym c.is_code.ensures ∙ c.if-is_code.true)
    ∙ field_of_ascii bytes (beside_lent c.args.columns) c.args.code (digits_are_ascii bytes c.in-Some.number digits)

pub returns : goal.returns
returns c =
    let bytes = c.args.columns.bytes.now in
    let spelled = c.without_front-spelled.result.now in
    let digits = ap digits_number (sym c.without_front-spelled.ensures.same) ∙ sym c.in-Some.ensures.number in
    let small : c.in-Some.number < 2 ^ 63 = omega (arith, c.in-Some.ensures.low) in
    ap Whole (to_z_pos w64 c.in-Some.number small)
    ∙ no_code bytes spelled c.in-Some.number c.args.code c.without_front-spelled.ensures.same (sym c.in-Some.ensures.number) c.in-Some.ensures.low (sym c.is_code.ensures ∙ c.if-is_code.false)
    ∙ field_of_ascii bytes (beside_lent c.args.columns) c.args.code (digits_are_ascii bytes c.in-Some.number digits)

pub digits_number-requires-clause-few : goal.digits_number-requires-clause-few
digits_number-requires-clause-few c = omega (arith, c.requires, c.without_front-spelled.ensures.short, length-columns_by c.args.columns.bytes.now (beside_lent c.args.columns))
