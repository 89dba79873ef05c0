use Rattle.std.proofs.Common.{◌≡◌, drop, take, sym, subst, ◌∙◌}
use Rattle.std.specs.Str.{IsAscii}
use Rattle.cse_office.proofs.PartLaws.{same_piece}
use Rattle.cse_office.proofs.part.are_same_sixteen.Goals as goal

pub returns : goal.returns
returns c test p from to =
    let a = c.args.before.now in
    let b = c.args.after.now in
    let at = c.args.at in
    let same : take 16 (drop at a) ≡ take 16 (drop at b) = sym c.sixteen-here.ensures ∙ (c.are_same.ensures c.if-not-are_same.false ∙ c.sixteen-there.ensures) in
    same_piece a b at 16 c.requires.before c.requires.after same (subst IsAscii c.sixteen-here.ensures (c.are_ascii.ensures test)) p from to
