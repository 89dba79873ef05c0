-- Where an instruction leads, with each stack by its number.
use Rattle.std.specs.Prelude.{List, [], ◌∷◌, map}
use Rattle.cse_code_typing.specs.declared.piles.PileEntry.{PileEntry}
use Rattle.cse_code_typing.specs.declared.piles.Expected.{Expected}
use Rattle.cse_code_typing.specs.declared.exits.Edge.{Edge as NumberedEdge}
use Rattle.cse_code_typing.specs.declared.exits.Exits.{Exits}
use Rattle.cse_code_typing.specs.declared.exits.Exits.TheVariants.{Nowhere, One, Two}
use Rattle.cse_code_typing.specs.Piles.{stack_of, expects}
use Rattle.cse_code_typing.specs.Rule.{Edge}
use Rattle.cse_code_typing.specs.Pass.{Known}

abbrev pub edge_of : List PileEntry → NumberedEdge → Edge
edge_of table e = (e.to, stack_of table e.stack)

abbrev pub edges_of : List PileEntry → Exits → List Edge
edges_of table Nowhere = []
edges_of table (One e) = edge_of table e ∷ []
edges_of table (Two e f) = edge_of table e ∷ edge_of table f ∷ []

-- what is expected at each place
abbrev pub known_of : List PileEntry → List Expected → Known
known_of table known = map (expects table) known
