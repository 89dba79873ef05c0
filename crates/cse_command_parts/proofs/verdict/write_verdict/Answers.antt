use Rattle.std.proofs.Common.{List, ℕ, length, subst}
use Rattle.std.proofs.lemmas.Result.{err_from_is_err_and}
use Rattle.cse_verify.specs.EventBound.{case_bound, run_bound}
use Rattle.cse_value.proofs.WriteLaws.{AppendsFront-more, WritesAll-after}
use Rattle.cse_value.specs.Writing.{WritesAll}
use Rattle.cse_command_parts.specs.Verdict.{routine_lines, last_lines}
use Rattle.cse_command_parts.proofs.VerdictLaws.{last_same}
use Rattle.cse_command_parts.proofs.verdict.write_verdict.Goals as goal

pub returns-in_err-write_routines-clause-bytes : goal.returns-in_err-write_routines-clause-bytes
returns-in_err-write_routines-clause-bytes g c =
    let p = err_from_is_err_and c.from_residual.result c.from_residual.ensures.1 in
    rw (p.1) (AppendsFront-more _ _ (routine_lines c.args.verified.now.image (length c.args.verified.now.image.lists.routines))
    (last_lines (case_bound c.args.verified.now.image) (run_bound c.args.verified.now.image) c.args.depth) c.in_err-write_routines.ensures.bytes)

pub returns-clause-bytes : goal.returns-clause-bytes
returns-clause-bytes g c =
    let last = last_same c.case_steps.result (case_bound c.args.verified.now.image) c.run_steps.result (run_bound c.args.verified.now.image) c.args.depth c.case_steps.ensures.value c.run_steps.ensures in
    WritesAll-after c.write_last.result _ _ _ (routine_lines c.args.verified.now.image (length c.args.verified.now.image.lists.routines))
    (last_lines (case_bound c.args.verified.now.image) (run_bound c.args.verified.now.image) c.args.depth)
    c.in_ok-write_routines.ensures.bytes (subst (λ (l : List ℕ). WritesAll c.write_last.result (g.W.Output.taken c.write_routines.new.out) (g.W.Output.taken c.write_last.new.out) l) last c.write_last.ensures.bytes)
