use Rattle.std.proofs.Common.{rules, ◌≡◌, ◌<◌, length, pos, ◌≤ℤ◌, nat_abs, ap, ◌∙◌, w64, to_z, of_z, arith}
use Rattle.std.proofs.lemmas.Int.{ints}
use Rattle.cse_value.specs.declared.number.Num.TheVariants.{Whole}
use Rattle.cse_dict.specs.Dictionary.{row_in}
use Rattle.cse_dict.proofs.SmallLaws.{told_row}
use Rattle.cse_dict.proofs.small.row_of_whole.Goals as goal

pub returns-in-Some : goal.returns-in-Some
returns-in-Some c =
    let z = to_z w64 (of_z w64 c.args.number) in
    let number : z ≡ c.args.number = search rules in
    let from_0 : pos 0 ≤ℤ z = omega (arith, ints, c.if-number-ge0.true) in
    let spans = c.args.spans.now in
    let found = c.in-Some.ensures.lookup in
    let within : nat_abs z < length c.args.small.now = search rules in
    found.1 ∙ told_row c.args.small.now spans z c.in-Some.row.now c.requires.table from_0 within ∙ ap (λ n. row_in (Whole n) spans) number
