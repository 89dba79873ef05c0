use Rattle.std.proofs.Common.{refl, arith}
use Rattle.cse_case.proofs.NamedColumnLaws.{HaveSame-joined}
use Rattle.cse_case.proofs.layout.join.Goals as goal

pub returns : goal.returns
returns c =
    HaveSame-joined _ c.args.first c.args.second (omega (arith, c.if-first-eq0.false)) refl
    (omega (arith, c.in-Some-checked_add.ensures)) (omega (arith, c.in-Some.ensures, c.if-end-second.false))
