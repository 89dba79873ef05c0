use Rattle.std.proofs.Common.{◌∷◌, ◌++◌, [], ap, ◌∙◌, arith}
use Rattle.cse_code_typing.proofs.Shares.{shared_push}
use Rattle.cse_code_typing.proofs.piles.Piles.add.Goals as goal

pub invariant_of-self-2 : goal.invariant_of-self-2
invariant_of-self-2 c =
    shared_push c.self.inside.entries.items _ c.args.self.now c.self.inside.depths.items _ c.self.inside.numbers _ c.args.entry c.args.depth _
    c.self.view_is c.self.invariant c.requires.below c.requires.new c.requires.depth
    (c.push_reserved-2.ensures.items ∙ ap (λ l. l ++ c.args.entry ∷ []) c.reserve-2.ensures.items)
    (c.push_reserved.ensures.items ∙ ap (λ l. l ++ c.args.depth ∷ []) c.reserve.ensures.items)
    (let v = c.push_reserved-2.new.self in let n = c.len-number.ensures in let m = c.push_reserved-2.ensures.len in omega arith)
    c.in_ok-put.ensures.put
