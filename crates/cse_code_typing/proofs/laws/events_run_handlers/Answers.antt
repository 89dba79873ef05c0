use Rattle.cse_code_typing.proofs.HandlerLaws.{handlers_run}
use Rattle.cse_code_typing.proofs.laws.events_run_handlers.Goals as goal

pub returns : goal.returns
returns c = handlers_run
