use Rattle.std.proofs.Common.{arith}
use Rattle.cse_code_typing.proofs.Around.{opener_from, opener_inside}
use Rattle.cse_code_typing.proofs.brackets.is_opener.Goals as goal

pub returns : goal.returns
returns g c =
    let br = c.is_bracket.ensures.0 c.if-not-is_bracket.false in (
      (λ yes. opener_from _ _ _ _ c.requires.nested c.requires.openers (let n = c.len.ensures in let m = c.if-len-gt63.false in omega arith) br (c.ends_inside.ensures.0 yes)),
      (λ opener. c.ends_inside.ensures.1 (opener_inside _ _ _ _ c.requires.openers opener)),
    )
