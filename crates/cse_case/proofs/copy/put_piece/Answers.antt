use Rattle.std.proofs.Common.{take, ◌∙◌, sym, arith, length-take-le}
use Rattle.std.proofs.lemmas.List.{take_all}
use Rattle.std.proofs.lemmas.Simd.{put_chunk_whole}
use Rattle.cse_case.proofs.copy.put_piece.Goals as goal

pub returns : goal.returns
returns g c =
    let text = c.args.text.now in
    let n = length-take-le g.row.N text (omega (arith, c.requires.text)) in
    put_chunk_whole c.args.bytes.now (take g.row.N text) (c.requires.bytes ∙ sym n) ∙ take_all g.row.N text (omega (arith, c.requires.text))
