use Rattle.std.proofs.Common.{◌∙◌}
use Rattle.cse_logic_expressions.proofs.Actions.{values_count}
use Rattle.cse_logic_expressions.proofs.assign.count_of.Goals as goal

pub returns : goal.returns
returns c = values_count c.len.result c.args.values.now.items (c.len.ensures ∙ c.args.values.now.ok.0)
