-- The first ones of runs that have a line each have one.
use Rattle.std.specs.Prelude.{List, [], ◌∷◌, ◌++◌}
use Rattle.cse_case.specs.Line.{FileLine}
use Rattle.cse_batch_parts.proofs.BoundLaws.{AllSome}

pub some_front : (runs more : List (List FileLine)) → AllSome (runs ++ more) → AllSome runs
some_front [] more some = tt
some_front (run ∷ runs) more some = (some.0, some_front runs more some.1)
