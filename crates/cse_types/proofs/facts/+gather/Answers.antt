use Rattle.std.proofs.Common.{◌≡◌, ◌∙◌, ap, sym, ◌<◌, ◌≤◌, length, get_or, map, refl, subst, List, ◌++◌}
use Rattle.cse_logic_tree.specs.declared.tree.Number.{Number}
use Rattle.cse_logic_tree.specs.declared.tree.NumberKind.{NumberKind}
use Rattle.cse_logic_tree.specs.declared.tree.Operation.{Operation}
use Rattle.cse_logic_tree.specs.Typed as typed
use Rattle.cse_logic_tree.proofs.Rows.{cell_is, call_is, chain_is}
use Rattle.cse_logic_names.specs.Uses as spec
use Rattle.cse_types.specs.Gather.{gather}
use Rattle.cse_types.proofs.Gathering.{gather_both, gather_call, gather_turn, gather_end}
use Rattle.cse_types.proofs.facts.+gather.Goals as goal

pub number-returns-in-Cell : goal.number-returns-in-Cell
number-returns-in-Cell t c =
    let same = ap (λ (x : NumberKind). spec.uses (typed.number_kind x)) (sym c.deref.ensures ∙ c.in-Cell.is) ∙ ap spec.uses (cell_is c.in-Cell.field-0 c.in-Cell.field-1 c.in-Cell.subscripts) in
    rw same c.numbers.ensures

pub number-returns-in_ok-call-in-Call : goal.number-returns-in_ok-call-in-Call
number-returns-in_ok-call-in-Call t c =
    let fs = c.args.functions.now in
    let us = spec.uses_all (typed.numbers (map typed.number c.in-Call.arguments.items)) in
    let same = ap (λ (x : NumberKind). gather fs c.args.gathered.now (spec.uses (typed.number_kind x))) (sym c.deref.ensures ∙ c.in-Call.is)
    ∙ ap (λ (x : typed.Number). gather fs c.args.gathered.now (spec.uses x)) (call_is c.in-Call.field-0 c.in-Call.function c.in-Call.arguments)
    ∙ gather_call fs c.args.gathered.now c.in-Call.function us
    ∙ ap (λ z. gather fs z us) (sym c.in_ok-call-in-Call.ensures) in
    rw same c.numbers-in-Call.ensures

pub number-returns-in_ok-number-in-Chain : goal.number-returns-in_ok-number-in-Chain
number-returns-in_ok-number-in-Chain t c =
    let fs = c.args.functions.now in
    let us = spec.uses_operations (typed.operations (map typed.operation_tree c.in-Chain.others.items)) in
    let same = ap (λ (x : NumberKind). gather fs c.args.gathered.now (spec.uses (typed.number_kind x))) (sym c.deref.ensures ∙ c.in-Chain.is)
    ∙ ap (λ (x : typed.Number). gather fs c.args.gathered.now (spec.uses x)) (chain_is c.in-Chain.first c.in-Chain.others)
    ∙ gather_both fs c.args.gathered.now _ us
    ∙ ap (λ z. gather fs z us) (sym c.in_ok-number-in-Chain.ensures) in
    rw same c.operations.ensures

pub numbers-all-preserved : goal.numbers-all-preserved
numbers-all-preserved t c =
    let items = c.args.all.now.items in
    let x = c.x-item.result in
    let whole = c.deref-x-items.ensures.value in
    let lt : c.all.x-index < length items = subst (λ (xs : List Number). c.all.x-index < length xs) whole c.all-test.true in
    let is : x ≡ get_or items c.all.x-index x = subst (λ (xs : List Number). x ≡ get_or xs c.all.x-index x) whole c.x-item.is in
    gather_turn c.args.functions.now (λ (y : Number). spec.uses (typed.number y)) (λ (ys : List Number). spec.uses_all (typed.numbers (map typed.number ys))) (λ y ys. refl) items c.all.x-index x lt is _ _ _ c.all.invariant c.in_ok-number.ensures

pub numbers-returns : goal.numbers-returns
numbers-returns t c =
    let items = c.args.all.now.items in
    let le : length items ≤ c.all.x-index = subst (λ (xs : List Number). length xs ≤ c.all.x-index) c.deref-x-items.ensures.value c.all-test.false in
    gather_end c.args.functions.now (λ (ys : List Number). spec.uses_all (typed.numbers (map typed.number ys))) refl items c.all.x-index le _ _ c.all.invariant

pub operations-all-preserved : goal.operations-all-preserved
operations-all-preserved t c =
    let items = c.args.all.now.items in
    let x = c.x-item.result in
    let whole = c.deref-x-items.ensures.value in
    let lt : c.all.x-index < length items = subst (λ (xs : List Operation). c.all.x-index < length xs) whole c.all-test.true in
    let is : x ≡ get_or items c.all.x-index x = subst (λ (xs : List Operation). x ≡ get_or xs c.all.x-index x) whole c.x-item.is in
    gather_turn c.args.functions.now (λ (y : Operation). spec.uses (typed.number y.operand)) (λ (ys : List Operation). spec.uses_operations (typed.operations (map typed.operation_tree ys))) (λ y ys. refl) items c.all.x-index x lt is _ _ _ c.all.invariant c.in_ok-number.ensures

pub operations-returns : goal.operations-returns
operations-returns t c =
    let items = c.args.all.now.items in
    let le : length items ≤ c.all.x-index = subst (λ (xs : List Operation). length xs ≤ c.all.x-index) c.deref-x-items.ensures.value c.all-test.false in
    gather_end c.args.functions.now (λ (ys : List Operation). spec.uses_operations (typed.operations (map typed.operation_tree ys))) refl items c.all.x-index le _ _ c.all.invariant
