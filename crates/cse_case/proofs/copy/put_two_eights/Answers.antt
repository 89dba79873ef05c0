use Rattle.std.proofs.Common.{◌-◌, ◌∙◌, ap, arith, drop, length, take, refl}
use Rattle.cse_case.specs.Run.{with_columns}
use Rattle.cse_case.proofs.CopyLaws.{two_ends}
use Rattle.cse_case.proofs.copy.put_two_eights.Goals as goal

pub returns : goal.returns
returns c =
    let there = c.args.there.now in
    c.put_eight_at-2.ensures ∙ ap (with_columns 0 (take 8 (drop 0 there))) c.put_eight_at.ensures
    ∙ two_ends 8 (length there - 8) there c.args.beside.now refl c.requires.some (omega (arith, c.requires.few)) c.requires.fits
