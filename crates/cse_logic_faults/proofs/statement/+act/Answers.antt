use Rattle.std.proofs.Common.{◌≡◌, ◌∙◌, ap, sym, ◌<◌, ◌≤◌, length, get_or, map, subst, List, [], ◌++◌}
use Rattle.std.proofs.lemmas.List.{append-nil}
use Rattle.cse_syntax_tree.specs.declared.tree.Statement.{Statement}
use Rattle.cse_syntax_tree.specs.declared.tree.StatementKind.{StatementKind}
use Rattle.cse_syntax_tree.specs.declared.tree.Arm.{Arm}
use Rattle.cse_syntax_tree.specs.Tree as syntax
use Rattle.cse_syntax_tree.specs.Tree.{written, stmt, stmt_kind, block, arms, arm_tree, no_arm, otherwise_tree}
use Rattle.cse_logic_faults.specs.FaultsOfStatements.{stmt_faults, stmts_faults, arms_faults, for_faults, for_scope, counting_faults, do_scope}
use Rattle.cse_logic_faults.specs.Operators.{arm_faults}
use Rattle.cse_logic_faults.proofs.Lists.{behind, turn, found_end}
use Rattle.cse_logic_faults.proofs.Blocks.{block_more, block_none, arms_more, arms_none, choice_found, else_found, for_found, do_found}
use Rattle.cse_logic_faults.proofs.statement.+act.Goals as goal

pub block-all-preserved : goal.block-all-preserved
block-all-preserved t c =
    let cs = c.args.counts.now in
    let s = c.args.scope.now in
    let items = c.args.all.now.items in
    let x = c.x-item.result in
    let whole = c.deref-x-items.ensures.value in
    let lt : c.all.x-index < length items = subst (λ (xs : List Statement). c.all.x-index < length xs) whole c.all-test.true in
    let is : x ≡ get_or items c.all.x-index x = subst (λ (xs : List Statement). x ≡ get_or xs c.all.x-index x) whole c.x-item.is in
    let own = c.in_ok-statement.ensures.found ∙ ap (λ k. c.all.found ++ stmt_faults cs k (stmt x)) c.all.invariant.same in
    record {
      found = turn (λ (y : Statement). stmt_faults cs s (stmt y)) (λ (ys : List Statement). stmts_faults cs s (block ys)) (block_more cs s) items c.all.x-index x lt is _ _ _ c.all.invariant.found own;
      same = c.in_ok-statement.ensures.same ∙ c.all.invariant.same;
    }

pub block-returns-clause-found : goal.block-returns-clause-found
block-returns-clause-found t c =
    let cs = c.args.counts.now in
    let s = c.args.scope.now in
    let items = c.args.all.now.items in
    let le : length items ≤ c.all.x-index = subst (λ (xs : List Statement). length xs ≤ c.all.x-index) c.deref-x-items.ensures.value c.all-test.false in
    found_end (λ (ys : List Statement). stmts_faults cs s (block ys)) (block_none cs s) items c.all.x-index le _ _ c.all.invariant.found

pub arms-all-preserved : goal.arms-all-preserved
arms-all-preserved t c =
    let cs = c.args.counts.now in
    let s = c.args.scope.now in
    let items = c.args.all.now.items in
    let x = c.x-item.result in
    let whole = c.deref-x-items.ensures.value in
    let lt : c.all.x-index < length items = subst (λ (xs : List Arm). c.all.x-index < length xs) whole c.all-test.true in
    let is : x ≡ get_or items c.all.x-index x = subst (λ (xs : List Arm). x ≡ get_or xs c.all.x-index x) whole c.x-item.is in
    let own = c.in_ok-arm.ensures.found ∙ ap (λ k. c.all.found ++ arm_faults cs k (arm_tree x)) c.all.invariant.same in
    record {
      found = turn (λ (y : Arm). arm_faults cs s (arm_tree y)) (λ (ys : List Arm). arms_faults cs s (arms (map arm_tree ys) no_arm)) (arms_more cs s) items c.all.x-index x lt is _ _ _ c.all.invariant.found own;
      same = c.in_ok-arm.ensures.same ∙ c.all.invariant.same;
    }

pub arms-returns-clause-found : goal.arms-returns-clause-found
arms-returns-clause-found t c =
    let cs = c.args.counts.now in
    let s = c.args.scope.now in
    let items = c.args.all.now.items in
    let le : length items ≤ c.all.x-index = subst (λ (xs : List Arm). length xs ≤ c.all.x-index) c.deref-x-items.ensures.value c.all-test.false in
    found_end (λ (ys : List Arm). arms_faults cs s (arms (map arm_tree ys) no_arm)) (arms_none cs s) items c.all.x-index le _ _ c.all.invariant.found

-- ---- statements that hold others

pub statement-returns-in-None-clause-found : goal.statement-returns-in-None-clause-found
statement-returns-in-None-clause-found t c =
    let cs = c.args.counts.now in
    let s = c.args.scope.now in
    let g = c.args.found.now in
    let first = c.in-If.first in
    let others = c.in-If.others in
    let last : arms_faults cs s (otherwise_tree c.in-If.otherwise) ≡ [] = ap (λ o. arms_faults cs s (otherwise_tree o)) c.in-None.is ∙ arms_none cs s in
    sym (append-nil c.arms.new.found)
    ∙ ap (λ z. c.arms.new.found ++ z) (sym last)
    ∙ choice_found cs s first others c.in-If.otherwise g c.arm.new.found c.arms.new.found c.arm.new.scope c.in_ok-arm-in-If.ensures.found c.in_ok-arm-in-If.ensures.same c.in_ok-arms-in-If.ensures.found
    ∙ ap (λ (x : StatementKind). g ++ stmt_faults cs s (stmt_kind x)) (sym (sym c.deref.ensures ∙ c.in-If.is))

pub statement-returns-in-Some-clause-found : goal.statement-returns-in-Some-clause-found
statement-returns-in-Some-clause-found t c =
    let cs = c.args.counts.now in
    let s = c.args.scope.now in
    let g = c.args.found.now in
    let first = c.in-If.first in
    let others = c.in-If.others in
    let body = block c.in-Some.body.items in
    let same = c.in_ok-arms-in-If.ensures.same ∙ c.in_ok-arm-in-If.ensures.same in
    let last : stmts_faults cs c.arms.new.scope body ≡ arms_faults cs s (otherwise_tree c.in-If.otherwise) =
    ap (λ z. stmts_faults cs z body) same ∙ sym (else_found cs s body) ∙ ap (λ o. arms_faults cs s (otherwise_tree o)) (sym c.in-Some.is) in
    let whole = choice_found cs s first others c.in-If.otherwise g c.arm.new.found c.arms.new.found c.arm.new.scope c.in_ok-arm-in-If.ensures.found c.in_ok-arm-in-If.ensures.same c.in_ok-arms-in-If.ensures.found
    ∙ ap (λ (x : StatementKind). g ++ stmt_faults cs s (stmt_kind x)) (sym (sym c.deref.ensures ∙ c.in-If.is)) in
    let all = ap (λ z. c.arms.new.found ++ z) last ∙ whole in
    rw (sym all) c.block.ensures.found

pub statement-returns-in_ok-for_head-in-For-clause-found : goal.statement-returns-in_ok-for_head-in-For-clause-found
statement-returns-in_ok-for_head-in-For-clause-found t c =
    let cs = c.args.counts.now in
    let s = c.args.scope.now in
    let g = c.args.found.now in
    let name = written c.in-For.name in
    let of = written c.in-For.record_name in
    let body = block c.in-For.body.items in
    let same = ap (λ (x : StatementKind). g ++ stmt_faults cs s (stmt_kind x)) (sym c.deref.ensures ∙ c.in-For.is)
    ∙ ap (λ l. g ++ l) (for_found cs s c.in-For.name c.in-For.record_name c.in-For.body)
    ∙ behind g (for_faults s name of) (stmts_faults cs (for_scope s name of) body)
    ∙ ap (λ z. z ++ stmts_faults cs (for_scope s name of) body) (sym c.in_ok-for_head-in-For.ensures)
    ∙ ap (λ z. c.for_head.new.found ++ stmts_faults cs z body) (sym c.for_turns-turns.ensures) in
    rw same c.body_of.ensures.found

pub statement-returns-in_ok-counting-in-Do-clause-found : goal.statement-returns-in_ok-counting-in-Do-clause-found
statement-returns-in_ok-counting-in-Do-clause-found t c =
    let cs = c.args.counts.now in
    let s = c.args.scope.now in
    let g = c.args.found.now in
    let head = syntax.counting c.in-Do.head in
    let name = written c.in-Do.head.variable in
    let body = block c.in-Do.body.items in
    let same = ap (λ (x : StatementKind). g ++ stmt_faults cs s (stmt_kind x)) (sym c.deref.ensures ∙ c.in-Do.is)
    ∙ ap (λ l. g ++ l) (do_found cs s c.in-Do.head c.in-Do.body)
    ∙ behind g (counting_faults s head) (stmts_faults cs (do_scope s name) body)
    ∙ ap (λ z. z ++ stmts_faults cs (do_scope s name) body) (sym c.in_ok-counting-in-Do.ensures)
    ∙ ap (λ z. c.counting.new.found ++ stmts_faults cs z body) (sym c.do_turns-turns.ensures) in
    rw same c.body_of-in-Do.ensures.found

pub body_of-returns-clause-same : goal.body_of-returns-clause-same
body_of-returns-clause-same t c = c.end.ensures c.args.scope.now c.args.turns (c.in_ok-block.ensures.same ∙ c.in_ok-begin.ensures)

pub body_of-returns-clause-found : goal.body_of-returns-clause-found
body_of-returns-clause-found t c =
    c.in_ok-block.ensures.found ∙ ap (λ z. c.args.found.now ++ stmts_faults c.args.counts.now z (block c.args.body.now.items)) c.in_ok-begin.ensures
