use Rattle.std.proofs.Common.{List, reverse, subst}
use Rattle.cse_code_typing.specs.declared.piles.PileEntry.{PileEntry}
use Rattle.cse_code_typing.specs.Shared.{IsShared}
use Rattle.cse_code_typing.proofs.Shares.{numbers_tell}
use Rattle.cse_code_typing.proofs.piles.Piles.are_same.Goals as goal

pub returns : goal.returns
returns c =
    let so = subst (λ (t : List PileEntry). IsShared t (reverse c.self.inside.depths.items) c.self.inside.numbers) c.self.view_is c.self.invariant in
    numbers_tell c.args.self.now _ _ so c.args.a c.args.b c.requires.a c.requires.b
