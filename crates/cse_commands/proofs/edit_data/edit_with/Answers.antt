use Rattle.std.proofs.Common.{inl, inr, subst, sym, ℕ, List}
use Rattle.std.proofs.lemmas.Result.{IfErr-weaker}
use Rattle.cse_meaning.specs.Build.{IsBuilt}
use Rattle.cse_command_parts.proofs.HaltLaws.{check_fault}
use Rattle.cse_commands.proofs.edit_data.edit_with.Goals as goal

pub returns-in-Ok-clause-stops : goal.returns-in-Ok-clause-stops
returns-in-Ok-clause-stops g c =
    IfErr-weaker c.edit_within.result _ _
    (λ stop stops.
    inr (
      c.deref.result.now,
      (
        subst (λ (b : List ℕ). IsBuilt c.args.dictionary.now c.args.logic.now c.args.messages.now c.args.order.now b) (sym c.deref.ensures.value) c.in_ok-image.ensures.built,
        inr (c.in-Ok.verified, (record { same = c.in-Ok.ensures.dictionary; accepted = c.in-Ok.ensures.accepted }, stops)),
      ),
    ))
    c.edit_within.ensures.stops

pub returns-clause-stops : goal.returns-clause-stops
returns-clause-stops g c =
    inr (
      c.deref.result.now,
      (
        subst (λ (b : List ℕ). IsBuilt c.args.dictionary.now c.args.logic.now c.args.messages.now c.args.order.now b) (sym c.deref.ensures.value) c.in_ok-image.ensures.built,
        inl (check_fault c.args.dictionary.now c.deref.result.now c.in-Err.fault c.of_check.result c.in-Err.ensures.refused c.in-Err.ensures.only c.of_check.ensures),
      ),
    )
