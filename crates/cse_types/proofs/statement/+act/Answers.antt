use Rattle.std.proofs.Common.{◌≡◌, ap, ◌∙◌, refl, sym, subst, map, ◌+◌, ◌<◌, ◌≤◌, length, get_or, List}
use Rattle.std.specs.Prelude.{◌++◌, option_map}
use Rattle.std.proofs.lemmas.List.{append-nil}
use Rattle.std.proofs.lemmas.Result.{IfOk-weaker}
use Rattle.cse_lemmas.proofs.Results.{OnOk_from}
use Rattle.cse_syntax_tree.specs.declared.tree.Statement as rusts
use Rattle.cse_syntax_tree.specs.declared.tree.Arm as rustarm
use Rattle.cse_syntax_tree.specs.Tree as syntax
use Rattle.cse_syntax_tree.specs.Tree.{written, stmt_kind, arm_tree as parsed_arm}
use Rattle.cse_syntax_tree.proofs.Rows.{if_is, for_is, do_is}
use Rattle.cse_logic_tree.specs.Typed.{statement, statements, arm_tree, counting, Do, else_of}
use Rattle.cse_logic_names.specs.WellTyped.{messages_in, messages_of}
use Rattle.cse_logic_expressions.specs.JudgeStatement.{judge_statement, judge_block, messages_each, for_of, opened}
use Rattle.cse_types.specs.Told.{told_of}
use Rattle.cse_logic_names.specs.Walk.{joined}
use Rattle.cse_types.proofs.Counted.{from_step, from_end, told_step, told_end, told_count}
use Rattle.cse_types.proofs.Blocks.{statement_at, messages_at, count_at, block_walked, block_gathered, arm_at, arm_messages, arm_count, arms_walked, arms_gathered, choice_value, choice_told, none_judged, else_judged, for_judged, do_judged, assign_judged, call_judged, jump_judged, impute_judged, put_judged, empty_judged, leaf_value}
use Rattle.cse_types.proofs.statement.+act.Goals as goal

-- ---- blocks

pub block-returns-then-is_sound-clause-value : goal.block-returns-then-is_sound-clause-value
block-returns-then-is_sound-clause-value t c =
    let s = c.args.scope.now in
    let items = c.args.statements.now.items in
    let le : length items ≤ c.all.x-index = subst (λ (xs : List rusts.Statement). length xs ≤ c.all.x-index) c.deref-x-items.ensures.value c.all-test.false in
    let e = from_end (statement_at s) count_at items c.all.x-index _ c.all.is_sound (map statement c.all.found.items) _ le c.all.invariant.value in
    sym (block_walked s (length c.args.told.now.items) items ∙ ap (option_map statements) (e.0 c.if-is_sound.true))

pub block-returns-then-is_sound-clause-told : goal.block-returns-then-is_sound-clause-told
block-returns-then-is_sound-clause-told t c =
    let items = c.args.statements.now.items in
    let le : length items ≤ c.all.x-index = subst (λ (xs : List rusts.Statement). length xs ≤ c.all.x-index) c.deref-x-items.ensures.value c.all-test.false in
    told_end messages_at items c.all.x-index _ _ le c.all.invariant.told ∙ ap (λ ms. map told_of c.args.told.now.items ++ ms) (sym (block_gathered items))

pub block-returns-clause-value : goal.block-returns-clause-value
block-returns-clause-value t c =
    let s = c.args.scope.now in
    let items = c.args.statements.now.items in
    let le : length items ≤ c.all.x-index = subst (λ (xs : List rusts.Statement). length xs ≤ c.all.x-index) c.deref-x-items.ensures.value c.all-test.false in
    let e = from_end (statement_at s) count_at items c.all.x-index _ c.all.is_sound (map statement c.all.found.items) _ le c.all.invariant.value in
    sym (block_walked s (length c.args.told.now.items) items ∙ ap (option_map statements) (e.1 c.if-is_sound.false))

pub block-returns-clause-told : goal.block-returns-clause-told
block-returns-clause-told t c =
    let items = c.args.statements.now.items in
    let le : length items ≤ c.all.x-index = subst (λ (xs : List rusts.Statement). length xs ≤ c.all.x-index) c.deref-x-items.ensures.value c.all-test.false in
    told_end messages_at items c.all.x-index _ _ le c.all.invariant.told ∙ ap (λ ms. map told_of c.args.told.now.items ++ ms) (sym (block_gathered items))

pub block-all-preserved : goal.block-all-preserved
block-all-preserved t c =
    let s = c.args.scope.now in
    let items = c.args.statements.now.items in
    let x = c.x-item.result in
    let whole = c.deref-x-items.ensures.value in
    let lt : c.all.x-index < length items = subst (λ (xs : List rusts.Statement). c.all.x-index < length xs) whole c.all-test.true in
    let is : x ≡ get_or items c.all.x-index x = subst (λ (xs : List rusts.Statement). x ≡ get_or xs c.all.x-index x) whole c.x-item.is in
    let at = ap (λ k. statement_at k (length c.all.told.items) x) c.all.invariant.same in
    record {
      value = from_step (statement_at s) count_at statement items c.all.x-index _ _ x c.all.is_sound _ c.in_ok-is_there.is_there c.all.found.items _ c.in_ok-next.next _ lt is c.all.invariant.value (c.in_ok-next.ensures.value ∙ at) (told_count told_of _ _ (messages_at x) c.in_ok-next.ensures.told) c.in_ok-is_there.ensures.found c.in_ok-is_there.ensures.there c.both_hold-is_sound.ensures;
      told = told_step messages_at items c.all.x-index x _ _ _ lt is c.all.invariant.told c.in_ok-next.ensures.told;
      same = c.in_ok-next.ensures.same ∙ c.all.invariant.same;
    }

-- ---- arms

pub arms-returns-then-is_sound-clause-value : goal.arms-returns-then-is_sound-clause-value
arms-returns-then-is_sound-clause-value t c =
    let s = c.args.scope.now in
    let items = c.args.others.now.items in
    let le : length items ≤ c.all.x-index = subst (λ (xs : List rustarm.Arm). length xs ≤ c.all.x-index) c.deref-x-items.ensures.value c.all-test.false in
    let e = from_end (arm_at s) arm_count items c.all.x-index _ c.all.is_sound (map arm_tree c.all.found.items) _ le c.all.invariant.value in
    sym (arms_walked s (length c.args.told.now.items) items ∙ e.0 c.if-is_sound.true)

pub arms-returns-then-is_sound-clause-told : goal.arms-returns-then-is_sound-clause-told
arms-returns-then-is_sound-clause-told t c =
    let items = c.args.others.now.items in
    let le : length items ≤ c.all.x-index = subst (λ (xs : List rustarm.Arm). length xs ≤ c.all.x-index) c.deref-x-items.ensures.value c.all-test.false in
    told_end arm_messages items c.all.x-index _ _ le c.all.invariant.told ∙ ap (λ ms. map told_of c.args.told.now.items ++ ms) (sym (arms_gathered items))

pub arms-returns-clause-value : goal.arms-returns-clause-value
arms-returns-clause-value t c =
    let s = c.args.scope.now in
    let items = c.args.others.now.items in
    let le : length items ≤ c.all.x-index = subst (λ (xs : List rustarm.Arm). length xs ≤ c.all.x-index) c.deref-x-items.ensures.value c.all-test.false in
    let e = from_end (arm_at s) arm_count items c.all.x-index _ c.all.is_sound (map arm_tree c.all.found.items) _ le c.all.invariant.value in
    sym (arms_walked s (length c.args.told.now.items) items ∙ e.1 c.if-is_sound.false)

pub arms-returns-clause-told : goal.arms-returns-clause-told
arms-returns-clause-told t c =
    let items = c.args.others.now.items in
    let le : length items ≤ c.all.x-index = subst (λ (xs : List rustarm.Arm). length xs ≤ c.all.x-index) c.deref-x-items.ensures.value c.all-test.false in
    told_end arm_messages items c.all.x-index _ _ le c.all.invariant.told ∙ ap (λ ms. map told_of c.args.told.now.items ++ ms) (sym (arms_gathered items))

pub arms-all-preserved : goal.arms-all-preserved
arms-all-preserved t c =
    let s = c.args.scope.now in
    let items = c.args.others.now.items in
    let x = c.x-item.result in
    let whole = c.deref-x-items.ensures.value in
    let lt : c.all.x-index < length items = subst (λ (xs : List rustarm.Arm). c.all.x-index < length xs) whole c.all-test.true in
    let is : x ≡ get_or items c.all.x-index x = subst (λ (xs : List rustarm.Arm). x ≡ get_or xs c.all.x-index x) whole c.x-item.is in
    let at = ap (λ k. arm_at k (length c.all.told.items) x) c.all.invariant.same in
    record {
      value = from_step (arm_at s) arm_count arm_tree items c.all.x-index _ _ x c.all.is_sound _ c.in_ok-is_there.is_there c.all.found.items _ c.in_ok-next.next _ lt is c.all.invariant.value (c.in_ok-next.ensures.value ∙ at) (told_count told_of _ _ (arm_messages x) c.in_ok-next.ensures.told) c.in_ok-is_there.ensures.found c.in_ok-is_there.ensures.there c.both_hold-is_sound.ensures;
      told = told_step arm_messages items c.all.x-index x _ _ _ lt is c.all.invariant.told c.in_ok-next.ensures.told;
      same = c.in_ok-next.ensures.same ∙ c.all.invariant.same;
    }

-- ---- statements that hold others

pub statement-returns-in_ok-inner-in-For-clause-value : goal.statement-returns-in_ok-inner-in-For-clause-value
statement-returns-in_ok-inner-in-For-clause-value t c =
    let s = c.args.scope.now in
    let v = written c.in-For.variable in
    let r = written c.in-For.record_name in
    let h = c.for_head-head.result in
    let same = ap stmt_kind (sym c.deref.ensures ∙ c.in-For.is) ∙ for_is c.in-For.variable c.in-For.record_name c.in-For.body in
    let rest = ap (joined (for_of v r) h) c.in_ok-inner-in-For.ensures.value
    ∙ for_judged s (length c.args.told.now.items) v r (syntax.block c.in-For.body.items) h c.for_loop.result c.for_head-head.ensures c.for_loop.ensures
    ∙ ap (judge_statement s (length c.args.told.now.items)) (sym same) in
    IfOk-weaker c.for_of.result _ _ (λ x p. p ∙ rest) c.for_of.ensures

pub statement-returns-in_ok-inner-in-For-clause-told : goal.statement-returns-in_ok-inner-in-For-clause-told
statement-returns-in_ok-inner-in-For-clause-told t c =
    let same = ap stmt_kind (sym c.deref.ensures ∙ c.in-For.is) ∙ for_is c.in-For.variable c.in-For.record_name c.in-For.body in
    OnOk_from c.for_of.result _ (c.in_ok-inner-in-For.ensures.told ∙ ap (λ y. map told_of c.args.told.now.items ++ messages_in y) (sym same))

pub statement-returns-in_ok-inner-in-Do-clause-value : goal.statement-returns-in_ok-inner-in-Do-clause-value
statement-returns-in_ok-inner-in-Do-clause-value t c =
    let s = c.args.scope.now in
    let n = length c.args.told.now.items in
    let h = option_map counting c.counting-head.result in
    let same = ap stmt_kind (sym c.deref.ensures ∙ c.in-Do.is) ∙ do_is c.in-Do.head c.in-Do.body in
    let rest = ap (joined Do h) c.in_ok-inner-in-Do.ensures.value
    ∙ do_judged s n (syntax.counting c.in-Do.head) (syntax.block c.in-Do.body.items) h c.do_loop.result c.counting-head.ensures c.do_loop.ensures
    ∙ ap (judge_statement s n) (sym same) in
    IfOk-weaker c.do_of.result _ _ (λ x p. p ∙ rest) c.do_of.ensures

pub statement-returns-in_ok-inner-in-Do-clause-told : goal.statement-returns-in_ok-inner-in-Do-clause-told
statement-returns-in_ok-inner-in-Do-clause-told t c =
    let same = ap stmt_kind (sym c.deref.ensures ∙ c.in-Do.is) ∙ do_is c.in-Do.head c.in-Do.body in
    OnOk_from c.do_of.result _ (c.in_ok-inner-in-Do.ensures.told ∙ ap (λ y. map told_of c.args.told.now.items ++ messages_in y) (sym same))

pub statement-returns-in-None-clause-value : goal.statement-returns-in-None-clause-value
statement-returns-in-None-clause-value t c =
    let s = c.args.scope.now in
    let n = length c.args.told.now.items in
    let first = c.in-If.first in
    let xs = map parsed_arm c.in-If.others.items in
    let same = ap stmt_kind (sym c.deref.ensures ∙ c.in-If.is) ∙ if_is first c.in-If.others c.in-If.otherwise ∙ ap (λ o. syntax.If (parsed_arm first).0 (parsed_arm first).1 (syntax.arms xs (syntax.otherwise_tree o))) c.in-None.is in
    let k = length c.arm.new.told.items in
    let counted = told_count told_of c.arm.new.told.items c.args.told.now.items (messages_of (parsed_arm first).1) c.in_ok-start-in-If.ensures.told in
    IfOk-weaker c.chosen.result _ _ (λ x p. choice_value s (parsed_arm first) xs syntax.no_arm n k (k + length (messages_each xs)) c.arm.new.scope _ _ _ _
    counted refl c.in_ok-start-in-If.ensures.same c.in_ok-start-in-If.ensures.value c.in_ok-middle-in-If.ensures.value
    (none_judged s (k + length (messages_each xs))) p ∙ ap (judge_statement s n) (sym same)) c.chosen.ensures

pub statement-returns-in-None-clause-told : goal.statement-returns-in-None-clause-told
statement-returns-in-None-clause-told t c =
    let first = c.in-If.first in
    let xs = map parsed_arm c.in-If.others.items in
    let same = ap stmt_kind (sym c.deref.ensures ∙ c.in-If.is) ∙ if_is first c.in-If.others c.in-If.otherwise ∙ ap (λ o. syntax.If (parsed_arm first).0 (parsed_arm first).1 (syntax.arms xs (syntax.otherwise_tree o))) c.in-None.is in
    OnOk_from c.chosen.result _ (choice_told c.args.scope.now (parsed_arm first) xs syntax.no_arm _ _ _ _ c.in_ok-start-in-If.ensures.told c.in_ok-middle-in-If.ensures.told (sym (append-nil (map told_of c.arms.new.told.items)))
    ∙ ap (λ y. map told_of c.args.told.now.items ++ messages_in y) (sym same))

pub statement-returns-in_ok-last-in-Some-clause-value : goal.statement-returns-in_ok-last-in-Some-clause-value
statement-returns-in_ok-last-in-Some-clause-value t c =
    let s = c.args.scope.now in
    let n = length c.args.told.now.items in
    let first = c.in-If.first in
    let xs = map parsed_arm c.in-If.others.items in
    let body = syntax.block c.in-Some.body.items in
    let same = ap stmt_kind (sym c.deref.ensures ∙ c.in-If.is) ∙ if_is first c.in-If.others c.in-If.otherwise ∙ ap (λ o. syntax.If (parsed_arm first).0 (parsed_arm first).1 (syntax.arms xs (syntax.otherwise_tree o))) c.in-Some.is in
    let k = length c.arm.new.told.items in
    let m = length c.arms.new.told.items in
    let where_at = c.in_ok-middle-in-If.ensures.same ∙ c.in_ok-start-in-If.ensures.same in
    let last = c.behind.ensures ∙ ap (option_map else_of) (c.in_ok-last-in-Some.ensures.value ∙ ap (λ z. judge_block z m body) where_at) ∙ else_judged s m body in
    let counted = told_count told_of c.arm.new.told.items c.args.told.now.items (messages_of (parsed_arm first).1) c.in_ok-start-in-If.ensures.told in
    let others = told_count told_of c.arms.new.told.items c.arm.new.told.items (messages_each xs) c.in_ok-middle-in-If.ensures.told in
    IfOk-weaker c.chosen-in-Some.result _ _ (λ x p. choice_value s (parsed_arm first) xs (syntax.else_of body) n k m c.arm.new.scope _ _ _ _
    counted others c.in_ok-start-in-If.ensures.same c.in_ok-start-in-If.ensures.value c.in_ok-middle-in-If.ensures.value
    last p ∙ ap (judge_statement s n) (sym same)) c.chosen-in-Some.ensures

pub statement-returns-in_ok-last-in-Some-clause-told : goal.statement-returns-in_ok-last-in-Some-clause-told
statement-returns-in_ok-last-in-Some-clause-told t c =
    let first = c.in-If.first in
    let xs = map parsed_arm c.in-If.others.items in
    let body = syntax.block c.in-Some.body.items in
    let same = ap stmt_kind (sym c.deref.ensures ∙ c.in-If.is) ∙ if_is first c.in-If.others c.in-If.otherwise ∙ ap (λ o. syntax.If (parsed_arm first).0 (parsed_arm first).1 (syntax.arms xs (syntax.otherwise_tree o))) c.in-Some.is in
    OnOk_from c.chosen-in-Some.result _ (choice_told c.args.scope.now (parsed_arm first) xs (syntax.else_of body) _ _ _ _ c.in_ok-start-in-If.ensures.told c.in_ok-middle-in-If.ensures.told c.in_ok-last-in-Some.ensures.told
    ∙ ap (λ y. map told_of c.args.told.now.items ++ messages_in y) (sym same))

-- ---- statements that hold no others

pub statement-returns-in-Empty-clause-told : goal.statement-returns-in-Empty-clause-told
statement-returns-in-Empty-clause-told t c = OnOk_from c.statement_found.result _ (sym (append-nil (map told_of c.args.told.now.items)) ∙ ap (λ y. map told_of c.args.told.now.items ++ messages_in (stmt_kind y)) (sym (sym c.deref.ensures ∙ c.in-Empty.is)))

pub statement-returns-in-Assign-clause-told : goal.statement-returns-in-Assign-clause-told
statement-returns-in-Assign-clause-told t c = OnOk_from c.assignment.result _ (sym (append-nil (map told_of c.args.told.now.items)) ∙ ap (λ y. map told_of c.args.told.now.items ++ messages_in (stmt_kind y)) (sym (sym c.deref.ensures ∙ c.in-Assign.is)))

pub statement-returns-in-Call-clause-told : goal.statement-returns-in-Call-clause-told
statement-returns-in-Call-clause-told t c = OnOk_from c.alone.result _ (sym (append-nil (map told_of c.args.told.now.items)) ∙ ap (λ y. map told_of c.args.told.now.items ++ messages_in (stmt_kind y)) (sym (sym c.deref.ensures ∙ c.in-Call.is)))

pub statement-returns-in-Jump-clause-told : goal.statement-returns-in-Jump-clause-told
statement-returns-in-Jump-clause-told t c = OnOk_from c.jump.result _ (sym (append-nil (map told_of c.args.told.now.items)) ∙ ap (λ y. map told_of c.args.told.now.items ++ messages_in (stmt_kind y)) (sym (sym c.deref.ensures ∙ c.in-Jump.is)))

pub statement-returns-in-Impute-clause-told : goal.statement-returns-in-Impute-clause-told
statement-returns-in-Impute-clause-told t c = OnOk_from c.imputation.result _ (sym (append-nil (map told_of c.args.told.now.items)) ∙ ap (λ y. map told_of c.args.told.now.items ++ messages_in (stmt_kind y)) (sym (sym c.deref.ensures ∙ c.in-Impute.is)))

pub statement-returns-in-PutDeck-clause-told : goal.statement-returns-in-PutDeck-clause-told
statement-returns-in-PutDeck-clause-told t c = OnOk_from c.deck_value.result _ (sym (append-nil (map told_of c.args.told.now.items)) ∙ ap (λ y. map told_of c.args.told.now.items ++ messages_in (stmt_kind y)) (sym (sym c.deref.ensures ∙ c.in-PutDeck.is)))

pub statement-returns-in-Empty-clause-value : goal.statement-returns-in-Empty-clause-value
statement-returns-in-Empty-clause-value t c =
    let s = c.args.scope.now in
    let n = length c.args.told.now.items in
    leaf_value s n c.statement_found.result _ _ _ (sym c.in-Empty.is ∙ c.deref.ensures) (empty_judged s n) c.statement_found.ensures

pub statement-returns-in-Empty-clause-same : goal.statement-returns-in-Empty-clause-same
statement-returns-in-Empty-clause-same t c = OnOk_from c.statement_found.result _ refl

pub statement-returns-in-Assign-clause-value : goal.statement-returns-in-Assign-clause-value
statement-returns-in-Assign-clause-value t c =
    let s = c.args.scope.now in
    let n = length c.args.told.now.items in
    leaf_value s n c.assignment.result _ _ _ (sym c.in-Assign.is ∙ c.deref.ensures) (assign_judged s n c.in-Assign.place c.in-Assign.value) c.assignment.ensures

pub statement-returns-in-Assign-clause-same : goal.statement-returns-in-Assign-clause-same
statement-returns-in-Assign-clause-same t c = OnOk_from c.assignment.result _ refl

pub statement-returns-in-Call-clause-value : goal.statement-returns-in-Call-clause-value
statement-returns-in-Call-clause-value t c =
    let s = c.args.scope.now in
    let n = length c.args.told.now.items in
    leaf_value s n c.alone.result _ _ _ (sym c.in-Call.is ∙ c.deref.ensures) (call_judged s n c.in-Call.name c.in-Call.arguments) c.alone.ensures

pub statement-returns-in-Call-clause-same : goal.statement-returns-in-Call-clause-same
statement-returns-in-Call-clause-same t c = OnOk_from c.alone.result _ refl

pub statement-returns-in-Jump-clause-value : goal.statement-returns-in-Jump-clause-value
statement-returns-in-Jump-clause-value t c =
    let s = c.args.scope.now in
    let n = length c.args.told.now.items in
    leaf_value s n c.jump.result _ _ _ (sym c.in-Jump.is ∙ c.deref.ensures) (jump_judged s n c.in-Jump.token c.in-Jump.leaving) c.jump.ensures

pub statement-returns-in-Jump-clause-same : goal.statement-returns-in-Jump-clause-same
statement-returns-in-Jump-clause-same t c = OnOk_from c.jump.result _ refl

pub statement-returns-in-Impute-clause-value : goal.statement-returns-in-Impute-clause-value
statement-returns-in-Impute-clause-value t c =
    let s = c.args.scope.now in
    let n = length c.args.told.now.items in
    leaf_value s n c.imputation.result _ _ _ (sym c.in-Impute.is ∙ c.deref.ensures) (impute_judged s n c.in-Impute.place c.in-Impute.value) c.imputation.ensures

pub statement-returns-in-Impute-clause-same : goal.statement-returns-in-Impute-clause-same
statement-returns-in-Impute-clause-same t c = OnOk_from c.imputation.result _ refl

pub statement-returns-in-PutDeck-clause-value : goal.statement-returns-in-PutDeck-clause-value
statement-returns-in-PutDeck-clause-value t c =
    let s = c.args.scope.now in
    let n = length c.args.told.now.items in
    leaf_value s n c.deck_value.result _ _ _ (sym c.in-PutDeck.is ∙ c.deref.ensures) (put_judged s n c.in-PutDeck.deck c.in-PutDeck.value) c.deck_value.ensures

pub statement-returns-in-PutDeck-clause-same : goal.statement-returns-in-PutDeck-clause-same
statement-returns-in-PutDeck-clause-same t c = OnOk_from c.deck_value.result _ refl

pub statement-returns-in-ErrMsg-clause-value : goal.statement-returns-in-ErrMsg-clause-value
statement-returns-in-ErrMsg-clause-value t c =
    leaf_value c.args.scope.now (length c.args.told.now.items) c.one_message.result _ _ _ (sym c.in-ErrMsg.is ∙ c.deref.ensures) refl c.one_message.ensures.value

pub statement-returns-in-ErrMsg-clause-told : goal.statement-returns-in-ErrMsg-clause-told
statement-returns-in-ErrMsg-clause-told t c =
    let same = sym c.in-ErrMsg.is ∙ c.deref.ensures in
    IfOk-weaker c.one_message.result _ _ (λ x p. p ∙ ap (λ y. map told_of c.args.told.now.items ++ messages_in (stmt_kind y)) same) c.one_message.ensures.told

pub statement-returns-in-ErrMsg-clause-same : goal.statement-returns-in-ErrMsg-clause-same
statement-returns-in-ErrMsg-clause-same t c = OnOk_from c.one_message.result _ refl

pub statement-returns-in_ok-inner-in-For-clause-same : goal.statement-returns-in_ok-inner-in-For-clause-same
statement-returns-in_ok-inner-in-For-clause-same t c = OnOk_from c.for_of.result _ c.in_ok-inner-in-For.ensures.same

pub statement-returns-in_ok-inner-in-Do-clause-same : goal.statement-returns-in_ok-inner-in-Do-clause-same
statement-returns-in_ok-inner-in-Do-clause-same t c = OnOk_from c.do_of.result _ c.in_ok-inner-in-Do.ensures.same

pub statement-returns-in-None-clause-same : goal.statement-returns-in-None-clause-same
statement-returns-in-None-clause-same t c = OnOk_from c.chosen.result _ (c.in_ok-middle-in-If.ensures.same ∙ c.in_ok-start-in-If.ensures.same)

pub statement-returns-in_ok-last-in-Some-clause-same : goal.statement-returns-in_ok-last-in-Some-clause-same
statement-returns-in_ok-last-in-Some-clause-same t c = OnOk_from c.chosen-in-Some.result _ (c.in_ok-last-in-Some.ensures.same ∙ c.in_ok-middle-in-If.ensures.same ∙ c.in_ok-start-in-If.ensures.same)

-- ---- an arm, and the body of a loop

pub body_of-returns-in_ok-inner-in-Some-clause-value : goal.body_of-returns-in_ok-inner-in-Some-clause-value
body_of-returns-in_ok-inner-in-Some-clause-value t c =
    let n = length c.args.told.now.items in
    let b = syntax.block c.args.body.now.items in
    c.in_ok-inner-in-Some.ensures.value ∙ ap (λ z. judge_block z n b) c.in_ok-begin-in-Some.ensures ∙ ap (λ o. judge_block (opened c.args.scope.now o) n b) (sym c.in-Some.is)

pub body_of-returns-in_ok-inner-in-Some-clause-same : goal.body_of-returns-in_ok-inner-in-Some-clause-same
body_of-returns-in_ok-inner-in-Some-clause-same t c = c.end.ensures c.args.scope.now c.in-Some.turns (c.in_ok-inner-in-Some.ensures.same ∙ c.in_ok-begin-in-Some.ensures)
