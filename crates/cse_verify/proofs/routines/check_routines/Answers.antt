use Rattle.std.proofs.Common.{◌≡◌, ◌+◌, ◌*◌, ◌<◌, ◌^◌, List, length, refl, sym, ap, ◌∙◌, subst, arith, rules}
use Rattle.cse_lemmas.proofs.Lists.{length_after_push}
use Rattle.cse_value.specs.Shape.{shape_lists}
use Rattle.cse_image_parts.specs.declared.instruction.Instr.{Instr}
use Rattle.cse_image_parts.specs.Image.{Lists, lists_of, routine_lists}
use Rattle.cse_code_typing.specs.Code.{part}
use Rattle.cse_code_typing.proofs.CodeLaws.{routine_at, lies_within, part_is, start_next, routines_are}
use Rattle.cse_code_typing.specs.declared.depth.Depth.{Depth as Cells}
use Rattle.cse_code_typing.specs.Depth.{IsAtMost, KeepFew, most_kept}
use Rattle.cse_code_typing.proofs.Few.{few_more}
use Rattle.cse_code_typing.proofs.Fitting.{routine_small}
use Rattle.cse_code_typing.proofs.TypedLaws.{routine_typed, handed_on}
use Rattle.cse_verify.proofs.MeasureLaws.{measured_start, measured_more, depths_more, bounds_length, frames_length, untyped_here, too_long_here, keeps_here, calls_here, bounds_small, skeleton_here, all_measured}
use Rattle.cse_verify.proofs.routines.check_routines.Goals as goal

pub routines-init : goal.routines-init
routines-init g c = record { start_is = refl; number_is = refl; measured = measured_start _ _ _ _ _ c.new-bounds.ensures.items c.new-frames.ensures.items c.new-cells.ensures.items }

pub check_routine-requires-clause-within : goal.check_routine-requires-clause-within
check_routine-requires-clause-within g c =
    let there = routine_at c.args.program.now c.tables-tables.result.now c.deref-routine-items.result.now c.routines.routine-index c.routine-item.result
    c.deref-routine-items.ensures.value c.tables-tables.ensures.lists c.routines-test.true c.routine-item.is in
    let within = lies_within c.args.program.now c.routines.routine-index c.routines.start (routine_lists c.routine-item.result) c.tables-tables.ensures.fits.count there c.routines.invariant.start_is in
    omega (arith, within, ap (λ (l : List Instr). length l) c.code-code.ensures)

pub check_routine-requires-clause-routines : goal.check_routine-requires-clause-routines
check_routine-requires-clause-routines g c =
    let n = c.routines.invariant.measured.cells_of in
    let is = c.routines.invariant.number_is in
    let seen = ap (λ (l : List Cells). length l) c.deref.ensures.value in
    omega arith

pub check_routine-requires-clause-few : goal.check_routine-requires-clause-few
check_routine-requires-clause-few g c = subst KeepFew (sym c.deref.ensures.value) c.routines.invariant.measured.cells_few

pub check_routine-requires-clause-locals : goal.check_routine-requires-clause-locals
check_routine-requires-clause-locals g c =
    let there = routine_at c.args.program.now c.tables-tables.result.now c.deref-routine-items.result.now c.routines.routine-index c.routine-item.result
    c.deref-routine-items.ensures.value c.tables-tables.ensures.lists c.routines-test.true c.routine-item.is in
    (routine_small c.args.program.now c.routines.routine-index (routine_lists c.routine-item.result) c.tables-tables.ensures.fits there).locals

pub check_routine-requires-clause-size : goal.check_routine-requires-clause-size
check_routine-requires-clause-size g c =
    let there = routine_at c.args.program.now c.tables-tables.result.now c.deref-routine-items.result.now c.routines.routine-index c.routine-item.result
    c.deref-routine-items.ensures.value c.tables-tables.ensures.lists c.routines-test.true c.routine-item.is in
    (routine_small c.args.program.now c.routines.routine-index (routine_lists c.routine-item.result) c.tables-tables.ensures.fits there).size

pub returns-in_err-kept-clause-first : goal.returns-in_err-kept-clause-first
returns-in_err-kept-clause-first g c =
    let there = routine_at c.args.program.now c.tables-tables.result.now c.deref-routine-items.result.now c.routines.routine-index c.routine-item.result
    c.deref-routine-items.ensures.value c.tables-tables.ensures.lists c.routines-test.true c.routine-item.is in
    let y = routine_lists c.routine-item.result in
    let code = ap (part c.routines.start y.instructions) c.code-code.ensures ∙ part_is c.args.program.now c.routines.routine-index c.routines.start y there c.routines.invariant.start_is in
    handed_on c.from_residual.result c.in_err-kept.field-0.0 _ c.from_residual.ensures.1
    (untyped_here (shape_lists c.args.shape.now) c.args.program.now c.routines.routine-index c.routines.number y (lists_of c.tables-tables.result.now) _ _ _ _ c.in_err-kept.field-0.0
    c.routines.invariant.number_is c.tables-tables.ensures.lists code c.requires.shape there c.routines.invariant.measured c.in_err-kept.ensures.fails)

pub new-skeleton-requires : goal.new-skeleton-requires
new-skeleton-requires g c =
    let there = routine_at c.args.program.now c.tables-tables.result.now c.deref-routine-items.result.now c.routines.routine-index c.routine-item.result
    c.deref-routine-items.ensures.value c.tables-tables.ensures.lists c.routines-test.true c.routine-item.is in
    let within = lies_within c.args.program.now c.routines.routine-index c.routines.start (routine_lists c.routine-item.result) c.tables-tables.ensures.fits.count there c.routines.invariant.start_is in
    omega (arith, within, ap (λ (l : List Instr). length l) c.code-code.ensures)

pub add_bound-requires-clause-keeps : goal.add_bound-requires-clause-keeps
add_bound-requires-clause-keeps g c =
    let there = routine_at c.args.program.now c.tables-tables.result.now c.deref-routine-items.result.now c.routines.routine-index c.routine-item.result
    c.deref-routine-items.ensures.value c.tables-tables.ensures.lists c.routines-test.true c.routine-item.is in
    let y = routine_lists c.routine-item.result in
    let code = ap (part c.routines.start y.instructions) c.code-code.ensures ∙ part_is c.args.program.now c.routines.routine-index c.routines.start y there c.routines.invariant.start_is in
    let typed = routine_typed (shape_lists c.args.shape.now) c.args.program.now c.routines.routine-index c.routines.number y (lists_of c.tables-tables.result.now) _
    c.routines.invariant.number_is c.tables-tables.ensures.lists code c.in_ok-kept.ensures.sound in
    let skel = skeleton_here c.args.program.now c.routines.routine-index _ _ _ c.new-skeleton.ensures code c.tables-tables.ensures.lists in
    keeps_here (shape_lists c.args.shape.now) c.args.program.now c.routines.routine-index y _ skel typed

pub add_bound-requires-clause-calls : goal.add_bound-requires-clause-calls
add_bound-requires-clause-calls g c =
    let there = routine_at c.args.program.now c.tables-tables.result.now c.deref-routine-items.result.now c.routines.routine-index c.routine-item.result
    c.deref-routine-items.ensures.value c.tables-tables.ensures.lists c.routines-test.true c.routine-item.is in
    let y = routine_lists c.routine-item.result in
    let code = ap (part c.routines.start y.instructions) c.code-code.ensures ∙ part_is c.args.program.now c.routines.routine-index c.routines.start y there c.routines.invariant.start_is in
    let typed = routine_typed (shape_lists c.args.shape.now) c.args.program.now c.routines.routine-index c.routines.number y (lists_of c.tables-tables.result.now) _
    c.routines.invariant.number_is c.tables-tables.ensures.lists code c.in_ok-kept.ensures.sound in
    let skel = skeleton_here c.args.program.now c.routines.routine-index _ _ _ c.new-skeleton.ensures code c.tables-tables.ensures.lists in
    calls_here (shape_lists c.args.shape.now) c.args.program.now c.routines.routine-index _ y _ skel (bounds_length _ _ _ _ _ _ c.routines.invariant.measured) typed

pub add_frames-requires-clause-keeps : goal.add_frames-requires-clause-keeps
add_frames-requires-clause-keeps g c =
    let there = routine_at c.args.program.now c.tables-tables.result.now c.deref-routine-items.result.now c.routines.routine-index c.routine-item.result
    c.deref-routine-items.ensures.value c.tables-tables.ensures.lists c.routines-test.true c.routine-item.is in
    let y = routine_lists c.routine-item.result in
    let code = ap (part c.routines.start y.instructions) c.code-code.ensures ∙ part_is c.args.program.now c.routines.routine-index c.routines.start y there c.routines.invariant.start_is in
    let typed = routine_typed (shape_lists c.args.shape.now) c.args.program.now c.routines.routine-index c.routines.number y (lists_of c.tables-tables.result.now) _
    c.routines.invariant.number_is c.tables-tables.ensures.lists code c.in_ok-kept.ensures.sound in
    let skel = skeleton_here c.args.program.now c.routines.routine-index _ _ _ c.new-skeleton.ensures code c.tables-tables.ensures.lists in
    keeps_here (shape_lists c.args.shape.now) c.args.program.now c.routines.routine-index y _ skel typed

pub add_frames-requires-clause-calls : goal.add_frames-requires-clause-calls
add_frames-requires-clause-calls g c =
    let there = routine_at c.args.program.now c.tables-tables.result.now c.deref-routine-items.result.now c.routines.routine-index c.routine-item.result
    c.deref-routine-items.ensures.value c.tables-tables.ensures.lists c.routines-test.true c.routine-item.is in
    let y = routine_lists c.routine-item.result in
    let code = ap (part c.routines.start y.instructions) c.code-code.ensures ∙ part_is c.args.program.now c.routines.routine-index c.routines.start y there c.routines.invariant.start_is in
    let typed = routine_typed (shape_lists c.args.shape.now) c.args.program.now c.routines.routine-index c.routines.number y (lists_of c.tables-tables.result.now) _
    c.routines.invariant.number_is c.tables-tables.ensures.lists code c.in_ok-kept.ensures.sound in
    let skel = skeleton_here c.args.program.now c.routines.routine-index _ _ _ c.new-skeleton.ensures code c.tables-tables.ensures.lists in
    calls_here (shape_lists c.args.shape.now) c.args.program.now c.routines.routine-index _ y _ skel (frames_length _ _ _ _ _ _ c.routines.invariant.measured) typed

pub add_bound-requires-clause-small : goal.add_bound-requires-clause-small
add_bound-requires-clause-small g c = bounds_small _ _ _ _ _ _ c.routines.invariant.measured

pub returns-in_err-add_bound-clause-first : goal.returns-in_err-add_bound-clause-first
returns-in_err-add_bound-clause-first g c =
    let there = routine_at c.args.program.now c.tables-tables.result.now c.deref-routine-items.result.now c.routines.routine-index c.routine-item.result
    c.deref-routine-items.ensures.value c.tables-tables.ensures.lists c.routines-test.true c.routine-item.is in
    let y = routine_lists c.routine-item.result in
    let code = ap (part c.routines.start y.instructions) c.code-code.ensures ∙ part_is c.args.program.now c.routines.routine-index c.routines.start y there c.routines.invariant.start_is in
    let typed = routine_typed (shape_lists c.args.shape.now) c.args.program.now c.routines.routine-index c.routines.number y (lists_of c.tables-tables.result.now) _
    c.routines.invariant.number_is c.tables-tables.ensures.lists code c.in_ok-kept.ensures.sound in
    let skel = skeleton_here c.args.program.now c.routines.routine-index _ _ _ c.new-skeleton.ensures code c.tables-tables.ensures.lists in
    handed_on c.from_residual-in_err-add_bound.result c.in_err-add_bound.field-0.0 _ c.from_residual-in_err-add_bound.ensures.1
    (too_long_here (shape_lists c.args.shape.now) c.args.program.now c.routines.routine-index c.routines.number y _ _ _ _ c.in_err-add_bound.field-0.0
    c.routines.invariant.number_is skel c.requires.shape there c.routines.invariant.measured typed c.in_err-add_bound.ensures.refused)

pub add_frames-requires-clause-few : goal.add_frames-requires-clause-few
add_frames-requires-clause-few g c = let n = frames_length _ _ _ _ _ _ c.routines.invariant.measured in let is = c.routines.invariant.number_is in omega arith

pub overflow_add-start : goal.overflow_add-start
overflow_add-start g c =
    let there = routine_at c.args.program.now c.tables-tables.result.now c.deref-routine-items.result.now c.routines.routine-index c.routine-item.result
    c.deref-routine-items.ensures.value c.tables-tables.ensures.lists c.routines-test.true c.routine-item.is in
    let within = lies_within c.args.program.now c.routines.routine-index c.routines.start (routine_lists c.routine-item.result) c.tables-tables.ensures.fits.count there c.routines.invariant.start_is in
    let small : c.routines.start + c.routine-item.result.instructions < 2 ^ 64 = omega (arith, within, ap (λ (l : List Instr). length l) c.code-code.ensures) in
    search rules

pub routines-preserved : goal.routines-preserved
routines-preserved g c =
    let there = routine_at c.args.program.now c.tables-tables.result.now c.deref-routine-items.result.now c.routines.routine-index c.routine-item.result
    c.deref-routine-items.ensures.value c.tables-tables.ensures.lists c.routines-test.true c.routine-item.is in
    let y = routine_lists c.routine-item.result in
    let code = ap (part c.routines.start y.instructions) c.code-code.ensures ∙ part_is c.args.program.now c.routines.routine-index c.routines.start y there c.routines.invariant.start_is in
    let typed = routine_typed (shape_lists c.args.shape.now) c.args.program.now c.routines.routine-index c.routines.number y (lists_of c.tables-tables.result.now) _
    c.routines.invariant.number_is c.tables-tables.ensures.lists code c.in_ok-kept.ensures.sound in
    let skel = skeleton_here c.args.program.now c.routines.routine-index _ _ _ c.new-skeleton.ensures code c.tables-tables.ensures.lists in
    record {
      start_is = start_next c.args.program.now c.routines.routine-index c.routines.start y there c.routines.invariant.start_is;
      number_is = omega arith;
      measured = measured_more (shape_lists c.args.shape.now) c.args.program.now c.routines.routine-index y _ _ _ _ _ _ _ there c.routines.invariant.measured typed skel
          c.in_ok-add_bound.ensures.added c.in_ok-add_bound.ensures.small c.in_ok-add_frames.ensures.added c.in_ok-add_frames.ensures.small
          (depths_more (shape_lists c.args.shape.now) c.args.program.now c.routines.routine-index y (lists_of c.tables-tables.result.now) _ _ _ _ _ there c.tables-tables.ensures.lists code c.deref.ensures.value
          c.routines.invariant.measured.cells_of c.routines.invariant.measured.cells_are c.in_ok-kept.ensures.depth c.in_ok-append.ensures)
          (length_after_push _ _ _ _ c.routines.invariant.measured.cells_of c.in_ok-append.ensures)
          (few_more _ _ _ c.routines.invariant.measured.cells_few (subst (λ (l : List Cells). IsAtMost (most_kept * (length l + 1)) c.in_ok-kept.kept) c.deref.ensures.value c.in_ok-kept.ensures.few) c.in_ok-append.ensures);
    }

pub returns-clause-measured : goal.returns-clause-measured
returns-clause-measured g c = all_measured _ _ _ _ _ _ c.routines.invariant.measured
    (let all = routines_are c.args.program.now c.tables-tables.result.now c.deref-routine-items.result.now c.deref-routine-items.ensures.value c.tables-tables.ensures.lists in
    let past = c.routines-test.false in let end = c.routines.auto.routine-index-end in omega arith)
