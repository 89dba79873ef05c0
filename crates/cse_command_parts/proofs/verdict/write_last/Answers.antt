use Rattle.std.proofs.lemmas.Result.{err_from_is_err_and}
use Rattle.cse_value.proofs.WriteLaws.{AppendsFront-more, WritesAll-after}
use Rattle.cse_command_parts.specs.Verdict.{sums, depth_line}
use Rattle.cse_command_parts.proofs.verdict.write_last.Goals as goal

pub returns-in_err-write_sums-clause-bytes : goal.returns-in_err-write_sums-clause-bytes
returns-in_err-write_sums-clause-bytes g c =
    let p = err_from_is_err_and c.from_residual.result c.from_residual.ensures.1 in
    rw (p.1) (AppendsFront-more _ _ (sums c.args.case c.args.run) (depth_line c.args.depth) c.in_err-write_sums.ensures.bytes)

pub returns-clause-bytes : goal.returns-clause-bytes
returns-clause-bytes g c =
    WritesAll-after c.write_depth.result _ _ _ (sums c.args.case c.args.run) (depth_line c.args.depth) c.in_ok-write_sums.ensures.bytes c.write_depth.ensures.bytes
