use Rattle.std.proofs.Common.{arith}
use Rattle.memchr.proofs.lemmas.LaneLemmas.{top_bitmask}
use Rattle.cse_case.proofs.SameLaws.{both, left_ascii, length-both, right_ascii}
use Rattle.cse_case.proofs.same.are_ascii.Goals as goal

pub returns-clause-left : goal.returns-clause-left
returns-clause-left c test =
    let a = c.args.a.now in
    let b = c.args.b.now in
    left_ascii 4 _ a b c.requires.left c.requires.right (top_bitmask (both 4 a b) 4 (length-both 4 a b c.requires.left c.requires.right) (omega arith)) test

pub returns-clause-right : goal.returns-clause-right
returns-clause-right c test =
    let a = c.args.a.now in
    let b = c.args.b.now in
    right_ascii 4 _ a b c.requires.left c.requires.right (top_bitmask (both 4 a b) 4 (length-both 4 a b c.requires.left c.requires.right) (omega arith)) test
