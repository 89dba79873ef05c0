use Rattle.std.proofs.Common.{◌∙◌, ap, arith, refl, length}
use Rattle.std.proofs.lemmas.Result.{err_from_is_err_and}
use Rattle.cse_image_parts.specs.Image.{Image}
use Rattle.cse_code_typing.proofs.CodeLaws.{routines_are}
use Rattle.cse_command_parts.proofs.VerdictLaws.{no_lines, line_more, line_front}
use Rattle.cse_command_parts.proofs.verdict.write_routines.Goals as goal

pub routines-init : goal.routines-init
routines-init g c = record {
  bytes = no_lines c.args.verified.now.image (g.W.Output.taken c.args.out.now);
  sound = refl;
  routine_is = refl;
}

pub returns-in_err-write_routine-clause-bytes : goal.returns-in_err-write_routine-clause-bytes
returns-in_err-write_routine-clause-bytes g c =
    let p = err_from_is_err_and c.from_residual.result c.from_residual.ensures.1 in
    let many = routines_are c.args.verified.now.image c.tables-tables.result.now c.deref-head-items.result.now c.deref-head-items.ensures.value
    (c.tables-tables.ensures.lists ∙ ap (λ (x : Image). x.lists) c.program.ensures.program) in
    rw (p.1) (line_front c.args.verified.now.image c.routines._head-index (length c.args.verified.now.image.lists.routines) c.routines.routine c.steps.result _ _ _
    c.routines.invariant.routine_is c.steps.ensures.value (omega (arith, many, c.routines-test.true)) c.routines.invariant.bytes c.in_err-write_routine.ensures.bytes)

pub routines-preserved : goal.routines-preserved
routines-preserved g c = record {
  bytes = line_more c.args.verified.now.image c.routines._head-index c.routines.routine c.steps.result _ _ _ c.routines.invariant.routine_is c.steps.ensures.value c.routines.invariant.bytes c.in_ok-write_routine.ensures.bytes;
  sound = cc (c.in_ok-write_routine.ensures.failed);
  routine_is = omega arith;
}
