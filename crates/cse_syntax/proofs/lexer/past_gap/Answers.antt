use Rattle.cse_syntax.proofs.Text.{ascii_cut_or_end}
use Rattle.cse_syntax.proofs.lexer.past_gap.Goals as goal

pub range_from-requires : goal.range_from-requires
range_from-requires c = λ pos.
    let e = c.as_bytes.ensures.value in
    ascii_cut_or_end c.args.text.now c.in_ok-n.n c.utf8.text pos (rw e at c.in_ok-n.ensures.within) (rw e at c.in_ok-n.ensures.cut)
