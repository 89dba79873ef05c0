use Rattle.std.proofs.Common.{◌≡◌, ◌+◌, ◌-◌, ◌∙◌, ap, arith, drop, length-drop, length-take-le, subst, take}
use Rattle.cse_case.specs.Alike.{IsPlain}
use Rattle.cse_case.proofs.CopyLaws.{put_there}
use Rattle.cse_case.proofs.fill.put_eight_at.Goals as goal

pub returns-clause-columns : goal.returns-clause-columns
returns-clause-columns c =
    let at = c.args.at in
    let rest = drop at c.args.text.now in
    let n : at + 8 - at ≡ 8 = omega arith in
    let len = length-take-le 8 rest (omega (arith, length-drop at c.args.text.now, c.requires.some)) in
    put_there at (at + 8) c.args.columns.now c.put_eight.new.columns (take 8 rest) (c.put_eight.ensures.columns ∙ ap (λ k. take k rest) n) (omega (arith, len))

pub returns-clause-plain : goal.returns-clause-plain
returns-clause-plain c done =
    let at = c.args.at in
    let n : at + 8 - at ≡ 8 = omega arith in
    subst (λ k. IsPlain (take k (drop at c.args.text.now))) n (c.put_eight.ensures.plain done)
