use Rattle.std.proofs.Common.{append-nil}
use Rattle.cse_value.proofs.GatherLaws.{Puts-as, Puts-then}
use Rattle.cse_batch_parts.proofs.beside.put_beside.Goals as goal

pub returns-then-are_written-clause-puts : goal.returns-then-are_written-clause-puts
returns-then-are_written-clause-puts g c = Puts-as _ _ _ _ (append-nil _) (Puts-then _ _ _ _ _ c.put_to.ensures.puts c.flush.ensures.puts)
