use Rattle.std.proofs.Common.{◌≡◌, ◌∙◌, ap, sym, ◌<◌, ◌≤◌, length, get_or, map, refl, subst, List, ◌++◌, append_assoc, Option}
use Rattle.std.specs.Global.{Vec}
use Rattle.cse_logic_tree.specs.declared.tree.Statement.{Statement}
use Rattle.cse_logic_tree.specs.declared.tree.StatementKind.{StatementKind}
use Rattle.cse_logic_tree.specs.declared.tree.Arm.{Arm}
use Rattle.cse_logic_tree.specs.Typed as typed
use Rattle.cse_logic_tree.proofs.Rows.{if_is, for_is, do_is}
use Rattle.cse_logic_names.specs.Uses as spec
use Rattle.cse_types.specs.Gather.{gather}
use Rattle.cse_types.proofs.Gathering.{gather_both, gather_turn, gather_end, gather_last, gather_if, gather_for, gather_do}
use Rattle.cse_types.proofs.facts.+statements.Goals as goal

pub block-all-preserved : goal.block-all-preserved
block-all-preserved t c =
    let items = c.args.all.now.items in
    let x = c.x-item.result in
    let whole = c.deref-x-items.ensures.value in
    let lt : c.all.x-index < length items = subst (λ (xs : List Statement). c.all.x-index < length xs) whole c.all-test.true in
    let is : x ≡ get_or items c.all.x-index x = subst (λ (xs : List Statement). x ≡ get_or xs c.all.x-index x) whole c.x-item.is in
    gather_turn c.args.functions.now (λ (y : Statement). spec.uses_of (typed.statement y)) (λ (ys : List Statement). spec.uses_block (typed.block ys)) (λ y ys. refl) items c.all.x-index x lt is _ _ _ c.all.invariant c.in_ok-statement.ensures

pub block-returns : goal.block-returns
block-returns t c =
    let items = c.args.all.now.items in
    let le : length items ≤ c.all.x-index = subst (λ (xs : List Statement). length xs ≤ c.all.x-index) c.deref-x-items.ensures.value c.all-test.false in
    gather_end c.args.functions.now (λ (ys : List Statement). spec.uses_block (typed.block ys)) refl items c.all.x-index le _ _ c.all.invariant

pub arms-all-preserved : goal.arms-all-preserved
arms-all-preserved t c =
    let items = c.args.all.now.items in
    let x = c.x-item.result in
    let whole = c.deref-x-items.ensures.value in
    let lt : c.all.x-index < length items = subst (λ (xs : List Arm). c.all.x-index < length xs) whole c.all-test.true in
    let is : x ≡ get_or items c.all.x-index x = subst (λ (xs : List Arm). x ≡ get_or xs c.all.x-index x) whole c.x-item.is in
    let uses_arm : Arm → List spec.Use = λ (y : Arm). spec.uses (typed.arm_tree y).0 ++ spec.uses_block (typed.arm_tree y).1 in
    gather_turn c.args.functions.now uses_arm (λ (ys : List Arm). spec.uses_arms (typed.arms (map typed.arm_tree ys) typed.no_arm))
    (λ y ys. sym (append_assoc (spec.uses (typed.arm_tree y).0) (spec.uses_block (typed.arm_tree y).1) (spec.uses_arms (typed.arms (map typed.arm_tree ys) typed.no_arm))))
    items c.all.x-index x lt is _ _ _ c.all.invariant
    (c.in_ok-arm.ensures ∙ sym (gather_both c.args.functions.now c.all.gathered (spec.uses (typed.arm_tree x).0) (spec.uses_block (typed.arm_tree x).1)))

pub arms-returns : goal.arms-returns
arms-returns t c =
    let items = c.args.all.now.items in
    let le : length items ≤ c.all.x-index = subst (λ (xs : List Arm). length xs ≤ c.all.x-index) c.deref-x-items.ensures.value c.all-test.false in
    gather_end c.args.functions.now (λ (ys : List Arm). spec.uses_arms (typed.arms (map typed.arm_tree ys) typed.no_arm)) refl items c.all.x-index le _ _ c.all.invariant

pub statement-returns-in-None : goal.statement-returns-in-None
statement-returns-in-None t c =
    let fs = c.args.functions.now in
    let g = c.args.gathered.now in
    let others = map typed.arm_tree c.in-If.others.items in
    let last = typed.otherwise_tree c.in-If.otherwise in
    let same = ap (λ (x : StatementKind). gather fs g (spec.uses_of (typed.statement_kind x))) (sym c.deref.ensures ∙ c.in-If.is)
    ∙ ap (λ (x : typed.Statement). gather fs g (spec.uses_of x)) (if_is c.in-If.first c.in-If.others c.in-If.otherwise)
    ∙ gather_if fs g (typed.arm_tree c.in-If.first).0 (typed.arm_tree c.in-If.first).1 others last in
    let none : last ≡ typed.no_arm = ap typed.otherwise_tree c.in-None.is in
    c.in_ok-arms-in-If.ensures
    ∙ ap (λ z. gather fs z (spec.uses_arms (typed.arms others typed.no_arm))) (c.in_ok-block-in-If.ensures ∙ ap (λ z. gather fs z (spec.uses_block (typed.arm_tree c.in-If.first).1)) c.in_ok-number-in-If.ensures)
    ∙ sym (gather_last fs _ last none)
    ∙ sym same

pub statement-returns-in-Some : goal.statement-returns-in-Some
statement-returns-in-Some t c =
    let fs = c.args.functions.now in
    let g = c.args.gathered.now in
    let others = map typed.arm_tree c.in-If.others.items in
    let last = typed.otherwise_tree c.in-If.otherwise in
    let body = typed.block c.in-Some.body.items in
    let is : last ≡ typed.else_of body = ap typed.otherwise_tree c.in-Some.is in
    let same = ap (λ (x : StatementKind). gather fs g (spec.uses_of (typed.statement_kind x))) (sym c.deref.ensures ∙ c.in-If.is)
    ∙ ap (λ (x : typed.Statement). gather fs g (spec.uses_of x)) (if_is c.in-If.first c.in-If.others c.in-If.otherwise)
    ∙ gather_if fs g (typed.arm_tree c.in-If.first).0 (typed.arm_tree c.in-If.first).1 others last
    ∙ ap (λ z. gather fs (gather fs z (spec.uses_arms (typed.arms others typed.no_arm))) (spec.uses_arms last)) (ap (λ z. gather fs z (spec.uses_block (typed.arm_tree c.in-If.first).1)) (sym c.in_ok-number-in-If.ensures) ∙ sym c.in_ok-block-in-If.ensures)
    ∙ ap (λ z. gather fs z (spec.uses_arms last)) (sym c.in_ok-arms-in-If.ensures)
    ∙ ap (λ z. gather fs c.arms.new.gathered (spec.uses_arms z)) is in
    rw same c.block-in-Some.ensures

pub statement-returns-in_ok-assigned-in-For : goal.statement-returns-in_ok-assigned-in-For
statement-returns-in_ok-assigned-in-For t c =
    let fs = c.args.functions.now in
    let g = c.args.gathered.now in
    let us = spec.assigns c.in-For.variable in
    let vs = spec.uses_block (typed.block c.in-For.body.items) in
    let same = ap (λ (x : StatementKind). gather fs g (spec.uses_of (typed.statement_kind x))) (sym c.deref.ensures ∙ c.in-For.is)
    ∙ ap (λ (x : typed.Statement). gather fs g (spec.uses_of x)) (for_is c.in-For.field-0 c.in-For.variable c.in-For.field-2 c.in-For.field-3 c.in-For.body)
    ∙ gather_for fs g us vs
    ∙ ap (λ z. gather fs (gather fs z us) vs) (sym c.case.ensures)
    ∙ ap (λ z. gather fs z vs) (sym c.in_ok-assigned-in-For.ensures) in
    rw same c.block-in-For.ensures

pub statement-returns-in_ok-head-in-Do : goal.statement-returns-in_ok-head-in-Do
statement-returns-in_ok-head-in-Do t c =
    let fs = c.args.functions.now in
    let g = c.args.gathered.now in
    let x = typed.counting c.in-Do.counting in
    let vs = spec.uses_block (typed.block c.in-Do.body.items) in
    let same = ap (λ (x : StatementKind). gather fs g (spec.uses_of (typed.statement_kind x))) (sym c.deref.ensures ∙ c.in-Do.is)
    ∙ ap (λ (x : typed.Statement). gather fs g (spec.uses_of x)) (do_is c.in-Do.counting c.in-Do.body)
    ∙ gather_do fs g (spec.assigns x.variable) (spec.uses_limit x.start) (spec.uses_limit x.stop) vs
    ∙ ap (λ z. gather fs z vs) (sym c.in_ok-head-in-Do.ensures) in
    rw same c.block-in-Do.ensures
