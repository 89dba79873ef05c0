use Rattle.std.proofs.Common.{◌-◌, ◌∙◌, ap, drop, length, take, refl}
use Rattle.cse_case.specs.Run.{with_columns}
use Rattle.cse_case.proofs.CopyLaws.{two_ends}
use Rattle.cse_case.proofs.copy.put_ends.Goals as goal

pub returns : goal.returns
returns g c =
    let text = c.args.text.now in
    c.put_piece_at-2.ensures ∙ ap (with_columns 0 (take g.row.N (drop 0 text))) c.put_piece_at.ensures
    ∙ two_ends g.row.N (length text - g.row.N) text c.args.bytes.now refl c.requires.some c.requires.few c.requires.fits
