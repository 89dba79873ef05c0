-- What is declared, one declaration after the other.
use Rattle.std.specs.Prelude.{List, [], ◌∷◌, ◌++◌}
use Rattle.cse_syntax_tree.specs.Tree as syntax
use Rattle.cse_logic_faults.specs.Faults.{Counts}
use Rattle.cse_types.specs.PartFaults.{parameters_in, dimensions_in}

abbrev pub count_behind : Counts → syntax.Declaration → Counts
count_behind c x = record { parameters = c.parameters ++ parameters_in (x ∷ []); dimensions = c.dimensions ++ dimensions_in (x ∷ []) }

abbrev pub counts_after : Counts → List syntax.Declaration → Counts
counts_after c ds = record { parameters = c.parameters ++ parameters_in ds; dimensions = c.dimensions ++ dimensions_in ds }
