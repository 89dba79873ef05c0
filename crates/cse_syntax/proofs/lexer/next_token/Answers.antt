use Rattle.cse_syntax.proofs.Text.{ascii_cut}
use Rattle.cse_syntax.proofs.lexer.next_token.Goals as goal

pub split_at-requires : goal.split_at-requires
split_at-requires c =
    let e = c.as_bytes.ensures.value in
    ascii_cut c.args.rest.now c.in-Some.len c.utf8.rest c.in-Some.ensures.within.0 (rw e at c.in-Some.ensures.within.1) (rw e at c.in-Some.ensures.ascii)
