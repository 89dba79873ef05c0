use Rattle.std.proofs.Common.{eqb, w8, take, ◌∙◌, sym, arith, length-take-le}
use Rattle.std.proofs.lemmas.List.{take_all}
use Rattle.std.proofs.lemmas.Simd.{bitmask_splat, put_chunk_whole}
use Rattle.memchr.proofs.lemmas.LaneLemmas.{top_bitmask}
use Rattle.cse_case.proofs.AlikeLaws.{plain_masks}
use Rattle.cse_case.proofs.fill.put_eight.Goals as goal

pub returns-clause-columns : goal.returns-clause-columns
returns-clause-columns c =
    let text = c.args.text.now in
    let n = length-take-le 8 text (omega (arith, c.requires.text)) in
    put_chunk_whole c.args.columns.now (take 8 text) (c.requires.columns ∙ sym n) ∙ take_all 8 text (omega (arith, c.requires.text))

pub returns-clause-plain : goal.returns-clause-plain
returns-clause-plain c test =
    let text = c.args.text.now in
    let n = length-take-le 8 text (omega (arith, c.requires.text)) in
    plain_masks text 8 _ _ c.requires.text (bitmask_splat w8 eqb (take 8 text) 8 10 n (omega arith)) (top_bitmask (take 8 text) 8 n (omega arith)) test
