use Rattle.cse_meaning.proofs.SoundWhole.{sources_fit, sources_are_typed, sources_are_counted}
use Rattle.cse_meaning.proofs.sources.code_of_a_source_is_typed.Goals as goal

pub returns-clause-fits : goal.returns-clause-fits
returns-clause-fits c = sources_fit

pub returns-clause-typed : goal.returns-clause-typed
returns-clause-typed c = sources_are_typed

pub returns-clause-counted : goal.returns-clause-counted
returns-clause-counted c = sources_are_counted
