use Rattle.std.proofs.Common.{◌∙◌, ◌-◌, ◌++◌, length, refl, replicate, ap, arith, sym}
use Rattle.std.proofs.lemmas.Bool.{false≢true}
use Rattle.std.specs.Fmt.{decimal}
use Rattle.cse_case.proofs.FewLaws.{four_digits, one_column, one_has_room, three_digits, three_set, two_digits, two_set}
use Rattle.cse_case.proofs.few.put_few.Goals as goal

pub returns-else-number-ge10-clause-room : goal.returns-else-number-ge10-clause-room
returns-else-number-ge10-clause-room c _ = one_has_room c.args.columns.now c.args.number c.in-1.is c.if-number-ge10.false

pub returns-else-number-ge10-clause-columns : goal.returns-else-number-ge10-clause-columns
returns-else-number-ge10-clause-columns c _ = one_column c.args.columns.now c.args.filler c.args.number _ c.in-1.is c.if-number-ge10.false c.character.ensures

pub returns-else-number-ge100-clause-columns : goal.returns-else-number-ge100-clause-columns
returns-else-number-ge100-clause-columns c _ =
    let number = c.args.number in
    two_set c.args.columns.now _ _ c.in-2.is ∙ c.two_columns-first.ensures
    ∙ ap (λ n. replicate (n - length (decimal number)) c.args.filler ++ decimal number) (sym c.in-2.is)

pub returns-else-number-ge1000-clause-columns : goal.returns-else-number-ge1000-clause-columns
returns-else-number-ge1000-clause-columns c _ =
    let number = c.args.number in
    three_set c.args.columns.now _ _ _ c.in-3.is ∙ c.three_columns-first.ensures
    ∙ ap (λ n. replicate (n - length (decimal number)) c.args.filler ++ decimal number) (sym c.in-3.is)

pub returns-then-number-ge1000-clause-some : goal.returns-then-number-ge1000-clause-some
returns-then-number-ge1000-clause-some c some few room = absurd (omega (arith, room, c.in-3.is, four_digits c.args.number c.if-number-ge1000.true c.ranges.number.fits))

pub returns-then-number-ge100-clause-some : goal.returns-then-number-ge100-clause-some
returns-then-number-ge100-clause-some c some few room = absurd (omega (arith, room, c.in-2.is, three_digits c.args.number c.if-number-ge100.true c.ranges.number.fits))

pub returns-then-number-ge10-clause-some : goal.returns-then-number-ge10-clause-some
returns-then-number-ge10-clause-some c some few room = absurd (omega (arith, room, c.in-1.is, two_digits c.args.number c.if-number-ge10.true c.ranges.number.fits))

pub returns-then-number-ge1000-clause-low : goal.returns-then-number-ge1000-clause-low
returns-then-number-ge1000-clause-low c = λ e. absurd (false≢true e)

pub returns-then-number-ge1000-clause-room : goal.returns-then-number-ge1000-clause-room
returns-then-number-ge1000-clause-room c = λ e. absurd (false≢true e)

pub returns-then-number-ge1000-clause-columns : goal.returns-then-number-ge1000-clause-columns
returns-then-number-ge1000-clause-columns c = λ e. absurd (false≢true e)

pub returns-then-number-ge1000-clause-same : goal.returns-then-number-ge1000-clause-same
returns-then-number-ge1000-clause-same c = λ _. refl

pub returns-else-number-ge1000-clause-same : goal.returns-else-number-ge1000-clause-same
returns-else-number-ge1000-clause-same c = λ e. absurd (false≢true (sym e))

pub returns-else-number-ge1000-clause-some : goal.returns-else-number-ge1000-clause-some
returns-else-number-ge1000-clause-some c = λ _ _ _. refl

pub returns-then-number-ge100-clause-low : goal.returns-then-number-ge100-clause-low
returns-then-number-ge100-clause-low c = λ e. absurd (false≢true e)

pub returns-then-number-ge100-clause-room : goal.returns-then-number-ge100-clause-room
returns-then-number-ge100-clause-room c = λ e. absurd (false≢true e)

pub returns-then-number-ge100-clause-columns : goal.returns-then-number-ge100-clause-columns
returns-then-number-ge100-clause-columns c = λ e. absurd (false≢true e)

pub returns-then-number-ge100-clause-same : goal.returns-then-number-ge100-clause-same
returns-then-number-ge100-clause-same c = λ _. refl

pub returns-else-number-ge100-clause-same : goal.returns-else-number-ge100-clause-same
returns-else-number-ge100-clause-same c = λ e. absurd (false≢true (sym e))

pub returns-else-number-ge100-clause-some : goal.returns-else-number-ge100-clause-some
returns-else-number-ge100-clause-some c = λ _ _ _. refl

pub returns-then-number-ge10-clause-low : goal.returns-then-number-ge10-clause-low
returns-then-number-ge10-clause-low c = λ e. absurd (false≢true e)

pub returns-then-number-ge10-clause-room : goal.returns-then-number-ge10-clause-room
returns-then-number-ge10-clause-room c = λ e. absurd (false≢true e)

pub returns-then-number-ge10-clause-columns : goal.returns-then-number-ge10-clause-columns
returns-then-number-ge10-clause-columns c = λ e. absurd (false≢true e)

pub returns-then-number-ge10-clause-same : goal.returns-then-number-ge10-clause-same
returns-then-number-ge10-clause-same c = λ _. refl

pub returns-else-number-ge10-clause-same : goal.returns-else-number-ge10-clause-same
returns-else-number-ge10-clause-same c = λ e. absurd (false≢true (sym e))

pub returns-else-number-ge10-clause-some : goal.returns-else-number-ge10-clause-some
returns-else-number-ge10-clause-some c = λ _ _ _. refl

pub returns-in_default-clause-low : goal.returns-in_default-clause-low
returns-in_default-clause-low c = λ e. absurd (false≢true e)

pub returns-in_default-clause-room : goal.returns-in_default-clause-room
returns-in_default-clause-room c = λ e. absurd (false≢true e)

pub returns-in_default-clause-columns : goal.returns-in_default-clause-columns
returns-in_default-clause-columns c = λ e. absurd (false≢true e)

pub returns-in_default-clause-same : goal.returns-in_default-clause-same
returns-in_default-clause-same c = λ _. refl
