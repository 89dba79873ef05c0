use Rattle.std.proofs.Common.{◌≡◌, ◌∙◌, ap, sym, ◌<◌, ◌≤◌, length, get_or, map, refl, subst, List}
use Rattle.cse_logic_tree.specs.declared.tree.Statement.{Statement}
use Rattle.cse_logic_tree.specs.declared.tree.StatementKind.{StatementKind}
use Rattle.cse_logic_tree.specs.declared.tree.Arm.{Arm}
use Rattle.cse_logic_tree.specs.Typed as typed
use Rattle.cse_logic_tree.proofs.Rows.{if_is, for_is, do_is}
use Rattle.cse_edit.specs.Items as spec
use Rattle.cse_edit.specs.Marks.{marked}
use Rattle.cse_edit.proofs.Marking.{marked_none, marked_turn, marked_end, marked_if}
use Rattle.cse_edit.proofs.marks.+statements.Goals as goal

pub block-all-preserved : goal.block-all-preserved
block-all-preserved t c =
    let items = c.args.all.now.items in
    let x = c.x-item.result in
    let whole = c.deref-x-items.ensures.value in
    let lt : c.all.x-index < length items = subst (λ (xs : List Statement). c.all.x-index < length xs) whole c.all-test.true in
    let is : x ≡ get_or items c.all.x-index x = subst (λ (xs : List Statement). x ≡ get_or xs c.all.x-index x) whole c.x-item.is in
    marked_turn (λ (y : Statement). spec.written_by (typed.statement y)) (λ (ys : List Statement). spec.written_by_all (typed.block ys)) (λ y ys. refl) items c.all.x-index x lt is _ _ _ c.all.invariant c.statement.ensures

pub block-returns : goal.block-returns
block-returns t c =
    let items = c.args.all.now.items in
    let le : length items ≤ c.all.x-index = subst (λ (xs : List Statement). length xs ≤ c.all.x-index) c.deref-x-items.ensures.value c.all-test.false in
    marked_end (λ (ys : List Statement). spec.written_by_all (typed.block ys)) refl items c.all.x-index le _ _ c.all.invariant

pub arms-all-preserved : goal.arms-all-preserved
arms-all-preserved t c =
    let items = c.args.all.now.items in
    let x = c.x-item.result in
    let whole = c.deref-x-items.ensures.value in
    let lt : c.all.x-index < length items = subst (λ (xs : List Arm). c.all.x-index < length xs) whole c.all-test.true in
    let is : x ≡ get_or items c.all.x-index x = subst (λ (xs : List Arm). x ≡ get_or xs c.all.x-index x) whole c.x-item.is in
    marked_turn (λ (y : Arm). spec.written_by_all (typed.arm_tree y).1) (λ (ys : List Arm). spec.written_by_arms (typed.arms (map typed.arm_tree ys) typed.no_arm)) (λ y ys. refl)
    items c.all.x-index x lt is _ _ _ c.all.invariant c.block.ensures

pub arms-returns : goal.arms-returns
arms-returns t c =
    let items = c.args.all.now.items in
    let le : length items ≤ c.all.x-index = subst (λ (xs : List Arm). length xs ≤ c.all.x-index) c.deref-x-items.ensures.value c.all-test.false in
    marked_end (λ (ys : List Arm). spec.written_by_arms (typed.arms (map typed.arm_tree ys) typed.no_arm)) refl items c.all.x-index le _ _ c.all.invariant

pub statement-returns-in-None : goal.statement-returns-in-None
statement-returns-in-None t c =
    let marks = c.args.marks.now in
    let body = (typed.arm_tree c.in-If.first).1 in
    let others = map typed.arm_tree c.in-If.others.items in
    let last = typed.otherwise_tree c.in-If.otherwise in
    let none : last ≡ typed.no_arm = ap typed.otherwise_tree c.in-None.is in
    let same = ap (λ (x : StatementKind). marked marks (spec.written_by (typed.statement_kind x))) (sym c.deref.ensures ∙ c.in-If.is)
    ∙ ap (λ (x : typed.Statement). marked marks (spec.written_by x)) (if_is c.in-If.first c.in-If.others c.in-If.otherwise)
    ∙ marked_if marks body others last
    ∙ ap (λ (x : typed.Arms). marked (marked (marked marks (spec.written_by_all body)) (spec.written_by_arms (typed.arms others typed.no_arm))) (spec.written_by_arms x)) none
    ∙ marked_none (marked (marked marks (spec.written_by_all body)) (spec.written_by_arms (typed.arms others typed.no_arm))) in
    c.arms.ensures ∙ ap (λ z. marked z (spec.written_by_arms (typed.arms others typed.no_arm))) c.block.ensures ∙ sym same

pub statement-returns-in-Some : goal.statement-returns-in-Some
statement-returns-in-Some t c =
    let marks = c.args.marks.now in
    let body = (typed.arm_tree c.in-If.first).1 in
    let others = map typed.arm_tree c.in-If.others.items in
    let last = typed.otherwise_tree c.in-If.otherwise in
    let rest = typed.block c.in-Some.body.items in
    let some : last ≡ typed.else_of rest = ap typed.otherwise_tree c.in-Some.is in
    let same = ap (λ (x : StatementKind). marked marks (spec.written_by (typed.statement_kind x))) (sym c.deref.ensures ∙ c.in-If.is)
    ∙ ap (λ (x : typed.Statement). marked marks (spec.written_by x)) (if_is c.in-If.first c.in-If.others c.in-If.otherwise)
    ∙ marked_if marks body others last
    ∙ ap (λ (x : typed.Arms). marked (marked (marked marks (spec.written_by_all body)) (spec.written_by_arms (typed.arms others typed.no_arm))) (spec.written_by_arms x)) some in
    c.block-in-Some.ensures
    ∙ ap (λ z. marked z (spec.written_by_all rest)) (c.arms.ensures ∙ ap (λ z. marked z (spec.written_by_arms (typed.arms others typed.no_arm))) c.block.ensures)
    ∙ sym same

pub statement-returns-in-For : goal.statement-returns-in-For
statement-returns-in-For t c =
    c.block-in-For.ensures
    ∙ sym (ap (λ (x : StatementKind). marked c.args.marks.now (spec.written_by (typed.statement_kind x))) (sym c.deref.ensures ∙ c.in-For.is)
    ∙ ap (λ (x : typed.Statement). marked c.args.marks.now (spec.written_by x)) (for_is c.in-For.field-0 c.in-For.field-1 c.in-For.field-2 c.in-For.field-3 c.in-For.body))

pub statement-returns-in-Do : goal.statement-returns-in-Do
statement-returns-in-Do t c =
    c.block-in-Do.ensures
    ∙ sym (ap (λ (x : StatementKind). marked c.args.marks.now (spec.written_by (typed.statement_kind x))) (sym c.deref.ensures ∙ c.in-Do.is)
    ∙ ap (λ (x : typed.Statement). marked c.args.marks.now (spec.written_by x)) (do_is c.in-Do.field-0 c.in-Do.body))
