use Rattle.std.proofs.Common.{refl}
use Rattle.cse_command_parts.proofs.plan.run_paths.Goals as goal

pub returns-clause-rest : goal.returns-clause-rest
returns-clause-rest c = record {
  dict = c.in_ok-given.ensures;
  input = c.in_ok-given-2.ensures;
  out = c.in_ok-given-3.ensures;
  list = c.in_ok-given-4.ensures;
  freq = c.in_ok-given-5.ensures;
  decks = c.may.ensures;
  case_steps = rw c.may-case_steps.ensures c.in_ok-number_of.ensures;
  sync = c.is_given.ensures;
  quiet = c.is_given-2.ensures;
}

pub returns-clause-image : goal.returns-clause-image
returns-clause-image c = refl
