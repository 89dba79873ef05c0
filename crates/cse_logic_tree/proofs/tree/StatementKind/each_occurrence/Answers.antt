use Rattle.cse_logic_tree.proofs.Rows.{for_is}
use Rattle.cse_logic_tree.proofs.tree.StatementKind.each_occurrence.Goals as goal

pub returns : goal.returns
returns c = for_is c.args.name c.args.variable c.args.record_name c.args.over c.args.body
