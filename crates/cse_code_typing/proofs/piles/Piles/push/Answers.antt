use Rattle.std.proofs.Common.{length, List, reverse, subst, sym, ◌∙◌, ap, arith}
use Rattle.std.proofs.lemmas.List.{length-reverse}
use Rattle.cse_code_typing.specs.declared.piles.PileEntry.{PileEntry}
use Rattle.cse_code_typing.specs.Shared.{IsShared}
use Rattle.cse_code_typing.proofs.PileLaws.{push_stack, push_keeps}
use Rattle.cse_code_typing.proofs.Shares.{known_stack}
use Rattle.cse_code_typing.proofs.piles.Piles.push.Goals as goal

pub returns-in-Some-clause-stack : goal.returns-in-Some-clause-stack
returns-in-Some-clause-stack c =
    let so = subst (λ (t : List PileEntry). IsShared t (reverse c.self.inside.depths.items) c.self.inside.numbers) c.self.view_is c.self.invariant in
    (known_stack c.args.self.now _ _ so (record { kind = c.args.kind; below = c.args.below }) c.in-Some.number (sym c.find.ensures ∙ c.in-Some.is)).0

pub returns-in-Some-clause-within : goal.returns-in-Some-clause-within
returns-in-Some-clause-within c =
    let so = subst (λ (t : List PileEntry). IsShared t (reverse c.self.inside.depths.items) c.self.inside.numbers) c.self.view_is c.self.invariant in
    (known_stack c.args.self.now _ _ so (record { kind = c.args.kind; below = c.args.below }) c.in-Some.number (sym c.find.ensures ∙ c.in-Some.is)).1

pub returns-clause-stack : goal.returns-clause-stack
returns-clause-stack c =
    let size = sym (length-reverse c.self-2.inside.entries.items) ∙ ap length c.self-2.view_is in
    push_stack _ _ _ _ c.in_ok-add.ensures.added (omega (arith, c.len.ensures, size, ap length c.in_ok-add.ensures.added))

pub returns-clause-keeps : goal.returns-clause-keeps
returns-clause-keeps c = push_keeps _ _ _ c.in_ok-add.ensures.added
