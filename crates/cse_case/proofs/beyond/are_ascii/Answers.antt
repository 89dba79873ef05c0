use Rattle.std.proofs.Common.{take, arith, length-take-le}
use Rattle.memchr.proofs.lemmas.LaneLemmas.{top_bitmask}
use Rattle.cse_case.proofs.SameLaws.{all_ascii}
use Rattle.cse_case.proofs.beyond.are_ascii.Goals as goal

pub returns : goal.returns
returns c test =
    let text = c.args.text.now in
    let n = length-take-le 8 text (omega (arith, c.requires)) in
    all_ascii text 8 _ c.requires (top_bitmask (take 8 text) 8 n (omega arith)) test
