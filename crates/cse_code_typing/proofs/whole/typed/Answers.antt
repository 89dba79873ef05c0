use Rattle.cse_value.specs.Shape.{shape_lists}
use Rattle.cse_code_typing.proofs.TypedLaws.{or_never, handed_on}
use Rattle.cse_code_typing.proofs.whole.typed.Goals as goal

pub returns-in_err-check_routines-clause-never : goal.returns-in_err-check_routines-clause-never
returns-in_err-check_routines-clause-never g c =
    handed_on c.from_residual.result c.in_err-check_routines.field-0.0 _ c.from_residual.ensures.1
    (or_never (shape_lists c.args.shape.now) c.args.program.now c.in_err-check_routines.field-0.0 c.in_err-check_routines.ensures.refused)
