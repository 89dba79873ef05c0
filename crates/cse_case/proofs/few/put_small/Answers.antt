use Rattle.std.proofs.Common.{◌≡◌, ◌-◌, ◌++◌, length, replicate, subst, pos, w64, to_z, of_z, ap, sym, ◌∙◌, arith, le-leb}
use Rattle.std.specs.Fmt.{decimal}
use Rattle.std.specs.Str.{IsAscii}
use lib.IntN.{nat_abs}
use lib.Signed.{le_z}
use Rattle.std.proofs.lemmas.Int.{to_z-of_z, to_z_pos}
use Rattle.cse_value.proofs.DigitLaws.{number_put}
use Rattle.cse_case.proofs.FewLaws.{few_ascii}
use Rattle.cse_case.proofs.few.put_small.Goals as goal

pub returns-clause-columns : goal.returns-clause-columns
returns-clause-columns c put =
    let same : to_z w64 (of_z w64 c.args.number) ≡ c.args.number = to_z-of_z w64 c.args.number c.ranges.number in
    let is : c.cast_unsigned.result ≡ of_z w64 c.args.number = c.cast_unsigned.ensures ∙ ap (of_z w64) same in
    let few = c.put_few.ensures.low put in
    let natural : c.args.number ≡ pos (of_z w64 c.args.number) = sym same ∙ to_z_pos w64 (of_z w64 c.args.number) (omega (arith, few, is)) in
    c.put_few.ensures.columns put
    ∙ number_put _ _ c.args.number c.args.zero_fill c.filler_byte.result (ap (le_z (pos 0)) natural ∙ le-leb 0 (of_z w64 c.args.number) (omega arith)) (is ∙ sym (ap nat_abs natural)) c.filler_byte.ensures (c.put_few.ensures.room put)

pub returns-clause-ascii : goal.returns-clause-ascii
returns-clause-ascii c done =
    let n = c.cast_unsigned.result in
    let k = length c.args.columns.now - length (decimal n) in
    subst IsAscii (sym (c.put_few.ensures.columns done ∙ ap (λ f. replicate k f ++ decimal n) c.filler_byte.ensures)) (few_ascii k n c.args.zero_fill (c.put_few.ensures.low done))
