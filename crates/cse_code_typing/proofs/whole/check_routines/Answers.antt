use Rattle.std.proofs.Common.{◌+◌, ◌<◌, ◌^◌, ap, ◌∙◌, arith, rules, length, List}
use Rattle.cse_value.specs.Shape.{shape_lists}
use Rattle.cse_image_parts.specs.declared.instruction.Instr.{Instr}
use Rattle.cse_image_parts.specs.Image.{lists_of, routine_lists}
use Rattle.cse_code_typing.specs.Code.{part}
use Rattle.cse_code_typing.proofs.CodeLaws.{routine_at, lies_within, part_is, start_next, routines_are}
use Rattle.cse_code_typing.proofs.Few.{none_kept}
use Rattle.cse_code_typing.proofs.Fitting.{routine_small}
use Rattle.cse_code_typing.proofs.TypedLaws.{routine_typed, typed_more, refuses_here, handed_on}
use Rattle.cse_code_typing.proofs.whole.check_routines.Goals as goal

pub check_routine-requires-clause-within : goal.check_routine-requires-clause-within
check_routine-requires-clause-within g c =
    let there = routine_at c.args.program.now c.tables-tables.result.now c.deref-routine-items.result.now c.loop-routine.routine-index c.routine-item.result
    c.deref-routine-items.ensures.value c.tables-tables.ensures.lists c.loop-routine-test.true c.routine-item.is in
    let within = lies_within c.args.program.now c.loop-routine.routine-index c.loop-routine.start (routine_lists c.routine-item.result) c.tables-tables.ensures.fits.count there c.loop-routine.invariant.start_is in
    omega (arith, within, ap (λ (l : List Instr). length l) c.code-code.ensures)

pub check_routine-requires-clause-few : goal.check_routine-requires-clause-few
check_routine-requires-clause-few g c = λ r d at. none_kept r d at

pub check_routine-requires-clause-locals : goal.check_routine-requires-clause-locals
check_routine-requires-clause-locals g c =
    let there = routine_at c.args.program.now c.tables-tables.result.now c.deref-routine-items.result.now c.loop-routine.routine-index c.routine-item.result
    c.deref-routine-items.ensures.value c.tables-tables.ensures.lists c.loop-routine-test.true c.routine-item.is in
    (routine_small c.args.program.now c.loop-routine.routine-index (routine_lists c.routine-item.result) c.tables-tables.ensures.fits there).locals

pub check_routine-requires-clause-size : goal.check_routine-requires-clause-size
check_routine-requires-clause-size g c =
    let there = routine_at c.args.program.now c.tables-tables.result.now c.deref-routine-items.result.now c.loop-routine.routine-index c.routine-item.result
    c.deref-routine-items.ensures.value c.tables-tables.ensures.lists c.loop-routine-test.true c.routine-item.is in
    (routine_small c.args.program.now c.loop-routine.routine-index (routine_lists c.routine-item.result) c.tables-tables.ensures.fits there).size

pub returns-in_err-check_routine-clause-refused : goal.returns-in_err-check_routine-clause-refused
returns-in_err-check_routine-clause-refused g c =
    let there = routine_at c.args.program.now c.tables-tables.result.now c.deref-routine-items.result.now c.loop-routine.routine-index c.routine-item.result
    c.deref-routine-items.ensures.value c.tables-tables.ensures.lists c.loop-routine-test.true c.routine-item.is in
    let y = routine_lists c.routine-item.result in
    let code = ap (part c.loop-routine.start y.instructions) c.code-code.ensures ∙ part_is c.args.program.now c.loop-routine.routine-index c.loop-routine.start y there c.loop-routine.invariant.start_is in
    handed_on c.from_residual.result c.in_err-check_routine.field-0.0 _ c.from_residual.ensures.1
    (refuses_here (shape_lists c.args.shape.now) c.args.program.now c.loop-routine.routine-index c.loop-routine.number y (lists_of c.tables-tables.result.now) _ c.in_err-check_routine.field-0.0
    c.loop-routine.invariant.number_is c.tables-tables.ensures.lists code c.requires.shape there c.loop-routine.invariant.before c.in_err-check_routine.ensures.fails)

pub overflow_add-start : goal.overflow_add-start
overflow_add-start g c =
    let there = routine_at c.args.program.now c.tables-tables.result.now c.deref-routine-items.result.now c.loop-routine.routine-index c.routine-item.result
    c.deref-routine-items.ensures.value c.tables-tables.ensures.lists c.loop-routine-test.true c.routine-item.is in
    let within = lies_within c.args.program.now c.loop-routine.routine-index c.loop-routine.start (routine_lists c.routine-item.result) c.tables-tables.ensures.fits.count there c.loop-routine.invariant.start_is in
    let small : c.loop-routine.start + c.routine-item.result.instructions < 2 ^ 64 = omega (arith, within, ap (λ (l : List Instr). length l) c.code-code.ensures) in
    search rules

pub loop-routine-preserved : goal.loop-routine-preserved
loop-routine-preserved g c =
    let there = routine_at c.args.program.now c.tables-tables.result.now c.deref-routine-items.result.now c.loop-routine.routine-index c.routine-item.result
    c.deref-routine-items.ensures.value c.tables-tables.ensures.lists c.loop-routine-test.true c.routine-item.is in
    let y = routine_lists c.routine-item.result in
    let code = ap (part c.loop-routine.start y.instructions) c.code-code.ensures ∙ part_is c.args.program.now c.loop-routine.routine-index c.loop-routine.start y there c.loop-routine.invariant.start_is in
    record {
      start_is = start_next c.args.program.now c.loop-routine.routine-index c.loop-routine.start y there c.loop-routine.invariant.start_is;
      number_is = omega arith;
      before = typed_more (shape_lists c.args.shape.now) c.args.program.now c.loop-routine.routine-index y there c.loop-routine.invariant.before
          (routine_typed (shape_lists c.args.shape.now) c.args.program.now c.loop-routine.routine-index c.loop-routine.number y (lists_of c.tables-tables.result.now) _
          c.loop-routine.invariant.number_is c.tables-tables.ensures.lists code c.in_ok-check_routine.ensures.sound);
    }

pub returns-clause-typed : goal.returns-clause-typed
returns-clause-typed g c = λ r y lt. c.loop-routine.invariant.before r y
    (let all = routines_are c.args.program.now c.tables-tables.result.now c.deref-routine-items.result.now c.deref-routine-items.ensures.value c.tables-tables.ensures.lists in
    let past = c.loop-routine-test.false in omega arith)
