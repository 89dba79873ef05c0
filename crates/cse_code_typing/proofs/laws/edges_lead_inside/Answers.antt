use Rattle.cse_code_typing.proofs.EdgeLaws.{edges_inside}
use Rattle.cse_code_typing.proofs.laws.edges_lead_inside.Goals as goal

pub returns : goal.returns
returns c = edges_inside
