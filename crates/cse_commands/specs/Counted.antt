-- What a command tells that it counted.
use Rattle.std.specs.Prelude.{Result, Ok, Err}
use Rattle.cse_value.specs.declared.gathered.Gathered.{Gathered}
use Rattle.cse_batch_parts.specs.declared.totals.Totals.{Totals}
use Rattle.cse_command_parts.specs.declared.outcome.Stop.{Stop}

-- the totals of a whole run whose deck text was kept, or why there are none
abbrev pub counted : {X : Type 0} → Result X Stop → Result (Totals × Gathered) Stop → Result Totals Stop
counted (Err stop) told = Err stop
counted (Ok kept) (Err stop) = Err stop
counted (Ok kept) (Ok told) = Ok told.0
