use Rattle.std.proofs.Common.{ap, sym, ◌∙◌, arith, length, List, reverse, subst, ◌≡◌}
use Rattle.std.proofs.lemmas.List.{length-reverse}
use Rattle.cse_code_typing.specs.declared.piles.PileEntry.{PileEntry}
use Rattle.cse_code_typing.specs.Piles.{stack_of}
use Rattle.cse_code_typing.specs.Depth.{count_of}
use Rattle.cse_code_typing.specs.Shared.{depths_of}
use Rattle.cse_code_typing.proofs.PileLaws.{zero_empty}
use Rattle.cse_code_typing.proofs.Few.{pile_few}
use Rattle.cse_code_typing.proofs.Shares.{depth_read, length-depths_of}
use Rattle.cse_code_typing.proofs.piles.Piles.depth.Goals as goal

pub returns-then-stack-eq0-clause-value : goal.returns-then-stack-eq0-clause-value
returns-then-stack-eq0-clause-value c = sym (ap count_of (ap (stack_of c.args.self.now) c.if-stack-eq0.true ∙ zero_empty c.args.self.now))

pub index-requires : goal.index-requires
index-requires c =
    let counted = subst (λ (t : List PileEntry). reverse c.self.inside.depths.items ≡ depths_of t) c.self.view_is c.self.invariant.counted in
    let size = sym (length-reverse c.self.inside.depths.items) ∙ ap length counted ∙ length-depths_of c.args.self.now in
    let some = c.if-stack-eq0.false in
    let le = c.requires in
    omega arith

pub returns-clause-value : goal.returns-clause-value
returns-clause-value c =
    let counted = subst (λ (t : List PileEntry). reverse c.self.inside.depths.items ≡ depths_of t) c.self.view_is c.self.invariant.counted in
    depth_read c.self.inside.depths.items c.args.self.now c.args.stack _ counted (let some = c.if-stack-eq0.false in omega arith) c.requires c.index.ensures

pub returns-clause-few : goal.returns-clause-few
returns-clause-few c =
    let counted = subst (λ (t : List PileEntry). reverse c.self.inside.depths.items ≡ depths_of t) c.self.view_is c.self.invariant.counted in
    pile_few c.args.self.now c.args.stack _ (depth_read c.self.inside.depths.items c.args.self.now c.args.stack _ counted (let some = c.if-stack-eq0.false in omega arith) c.requires c.index.ensures)
