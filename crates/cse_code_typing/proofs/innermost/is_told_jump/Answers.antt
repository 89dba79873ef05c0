use Rattle.std.proofs.Common.{◌∙◌, ◌<◌, ℕ, List, Option, sym, ap, arith, length}
use Rattle.std.specs.Prelude.{slice_get}
use Rattle.cse_code_typing.proofs.Inside.{innermost_at}
use Rattle.cse_code_typing.proofs.innermost.is_told_jump.Goals as goal

pub returns : goal.returns
returns g c =
    let code = c.args.code.now in
    let lt : c.args.from < c.args.to = (let h = c.if-to-from.false in omega arith) in
    let within : c.args.to < length code = (let h = c.if-to-len.false in let n = c.len.ensures in omega arith) in
    let there = c.opener_in.ensures _ (ap (λ (l : List (Option ℕ)). slice_get l c.args.to) c.requires ∙ innermost_at code (length code) c.args.to within) in
    let here = c.opener_in-2.ensures _ (ap (λ (l : List (Option ℕ)). slice_get l c.args.from) c.requires ∙ innermost_at code (length code) c.args.from (omega arith)) in (
      (λ yes. (lt, within, sym there ∙ c.is_same.ensures.0 yes ∙ here)),
      (λ jump. c.is_same.ensures.1 (there ∙ jump.2 ∙ sym here)),
    )
