use Rattle.std.proofs.Common.{◌∙◌, arith}
use Rattle.cse_verify.proofs.FrameLaws.{one_more, one_less, no_change}
use Rattle.cse_verify.proofs.frames.pass.Goals as goal

pub overflow_sub-result : goal.overflow_sub-result
overflow_sub-result g c = let less = one_less _ c.requires.keeps _ _ c.requires.there _ c.in-End.is in let open_is = c.requires.opened in omega (arith, less.1)

pub returns-in-Open : goal.returns-in-Open
returns-in-Open g c =
    let more = one_more _ c.requires.keeps _ _ c.requires.there _ _ c.in-Open.is in
    let open_is = c.requires.opened in
    record { opened = omega (arith, more.0); few = omega (arith, more.1) }

pub returns-in-End : goal.returns-in-End
returns-in-End g c =
    let less = one_less _ c.requires.keeps _ _ c.requires.there _ c.in-End.is in
    let open_is = c.requires.opened in
    let few = c.requires.few in
    record { opened = omega (arith, less.0); few = omega arith }

pub returns-in_default : goal.returns-in_default
returns-in_default g c =
    record { opened = c.requires.opened ∙ no_change _ c.requires.keeps _ _ c.requires.there c.in_default.not-Open c.in_default.not-End; few = c.requires.few }
