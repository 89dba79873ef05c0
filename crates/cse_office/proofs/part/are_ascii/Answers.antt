use Rattle.std.proofs.Common.{arith}
use Rattle.cse_case.proofs.SameLaws.{both, left_ascii, length-both}
use Rattle.cse_office.proofs.PartLaws.{beyond_mask}
use Rattle.cse_office.proofs.part.are_ascii.Goals as goal

pub returns : goal.returns
returns c test =
    let a = c.args.before.now in
    let b = c.args.after.now in
    left_ascii 16 _ a b c.requires.left c.requires.right (beyond_mask (both 16 a b) 16 (length-both 16 a b c.requires.left c.requires.right) (omega arith)) test
