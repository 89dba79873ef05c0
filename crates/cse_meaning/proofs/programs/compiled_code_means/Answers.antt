use Rattle.cse_meaning.proofs.ProgramWhole.{compiled_code_means as law}
use Rattle.cse_meaning.proofs.programs.compiled_code_means.Goals as goal

pub returns : goal.returns
returns g c = law c.args.verified.now c.program.ensures.may_run c.event_ends.ensures
