use Rattle.std.proofs.lemmas.Result.{err_from_is_err_and}
use Rattle.cse_value.proofs.WriteLaws.{AppendsFront-more, WritesAll-after}
use Rattle.cse_command_parts.specs.Printed.{steps_line, text_lines}
use Rattle.cse_command_parts.proofs.printing.print.Goals as goal

pub returns-in_err-write_texts-clause-bytes : goal.returns-in_err-write_texts-clause-bytes
returns-in_err-write_texts-clause-bytes g c =
    let p = err_from_is_err_and c.from_residual.result c.from_residual.ensures.1 in
    rw (p.1) (AppendsFront-more _ _ (text_lines c.args.listing.now.texts) (steps_line c.args.steps) c.in_err-write_texts.ensures.bytes)

pub returns-clause-bytes : goal.returns-clause-bytes
returns-clause-bytes g c =
    WritesAll-after c.write_steps.result _ _ _ (text_lines c.args.listing.now.texts) (steps_line c.args.steps) c.in_ok-write_texts.ensures.bytes c.write_steps.ensures.bytes
