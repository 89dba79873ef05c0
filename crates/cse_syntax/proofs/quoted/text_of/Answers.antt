use Rattle.std.proofs.Common.{arith}
use Rattle.cse_syntax.proofs.QuotedText.{quotes, first_cut, last_cut}
use Rattle.cse_syntax.proofs.quoted.text_of.Goals as goal

pub overflow_sub-end : goal.overflow_sub-end
overflow_sub-end c = let q = quotes c.args.text.now c.requires in omega (arith, q.0)

pub range-requires-clause-start_le_end : goal.range-requires-clause-start_le_end
range-requires-clause-start_le_end c = let q = quotes c.args.text.now c.requires in omega (arith, q.0)

pub range-requires-clause-start_boundary : goal.range-requires-clause-start_boundary
range-requires-clause-start_boundary c = λ pos. first_cut c.args.text.now c.utf8.text c.requires

pub range-requires-clause-end_boundary : goal.range-requires-clause-end_boundary
range-requires-clause-end_boundary c = last_cut c.args.text.now c.requires
