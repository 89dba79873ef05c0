use Rattle.cse_syntax.proofs.lexer.past_mark.Goals as goal
use Rattle.cse_syntax.proofs.Text.{mark_cut_at}

pub range_from-requires : goal.range_from-requires
range_from-requires c = λ pos. mark_cut_at c.args.text.now c.as_bytes-bytes.result.now c.as_bytes-bytes.ensures.value c.utf8.text c.if-begins.ensures c.if-begins-2.ensures c.if-begins-3.ensures
