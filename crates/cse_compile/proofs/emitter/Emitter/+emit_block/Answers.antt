use Rattle.std.proofs.Common.{rules, ◌≡◌, ◌+◌, ◌++◌, drop, refl, ap, sym, ◌∙◌, arith, map}
use Rattle.std.proofs.lemmas.List.{append-nil}
use Rattle.cse_logic_tree.specs.declared.tree.StatementKind.{the_lemmas}
use Rattle.cse_logic_tree.specs.Typed.{statement, statement_kind, block, arm_tree, otherwise_tree, counting}
use Rattle.cse_logic_tree.proofs.Rows.{for_is, do_is}
use Rattle.cse_compile.specs.Setting.{setting}
use Rattle.cse_compile.specs.Statements.{statement_size, statement_code, block_size, block_code, arms_size, arms_code, head_size, arms_alone_code}
use Rattle.cse_compile.proofs.Arms.{told, choice_code, turn, arms_step_code}
use Rattle.cse_compile.proofs.emitter.Emitter.+emit_block.Goals as goal

pub statement-over-requires : goal.statement-over-requires
unfolding statement_size
statement-over-requires t c =
    let s = setting c.args.s.now in
    let e : statement_size s (statement c.args.x.now) ≡ block_size s (block c.in-For.body.items) + 5 =
    ap (λ x. statement_size s (statement_kind x)) (sym c.deref.ensures ∙ c.in-For.is) ∙ ap (statement_size s) (for_is c.in-For.field-0 c.in-For.into c.in-For.field-2 c.in-For.of c.in-For.body) in
    (search (rules, the_lemmas), omega (arith, e, c.requires.room))

pub statement-returns-in-For-clause-code : goal.statement-returns-in-For-clause-code
unfolding statement_code
statement-returns-in-For-clause-code t c =
    let same = ap statement_kind (sym c.deref.ensures ∙ c.in-For.is) ∙ for_is c.in-For.field-0 c.in-For.into c.in-For.field-2 c.in-For.of c.in-For.body in
    rw same c.over.ensures.code

pub statement-returns-in-For-clause-behind : goal.statement-returns-in-For-clause-behind
unfolding statement_size
statement-returns-in-For-clause-behind t c =
    let same = ap statement_kind (sym c.deref.ensures ∙ c.in-For.is) ∙ for_is c.in-For.field-0 c.in-For.into c.in-For.field-2 c.in-For.of c.in-For.body in
    rw same c.over.ensures.behind

pub statement-counted-requires : goal.statement-counted-requires
unfolding statement_size
statement-counted-requires t c =
    let s = setting c.args.s.now in
    let e : statement_size s (statement c.args.x.now) ≡ head_size s.records (counting c.in-Do.head) + (block_size s (block c.in-Do.body.items) + 6) =
    ap (λ x. statement_size s (statement_kind x)) (sym c.deref.ensures ∙ c.in-Do.is) ∙ ap (statement_size s) (do_is c.in-Do.head c.in-Do.body) in
    (search (rules, the_lemmas), omega (arith, e, c.requires.room))

pub statement-returns-in-Do-clause-code : goal.statement-returns-in-Do-clause-code
unfolding statement_code
statement-returns-in-Do-clause-code t c =
    let same = ap statement_kind (sym c.deref.ensures ∙ c.in-Do.is) ∙ do_is c.in-Do.head c.in-Do.body in
    rw same c.counted.ensures.code

pub statement-returns-in-Do-clause-behind : goal.statement-returns-in-Do-clause-behind
unfolding statement_size
statement-returns-in-Do-clause-behind t c =
    let same = ap statement_kind (sym c.deref.ensures ∙ c.in-Do.is) ∙ do_is c.in-Do.head c.in-Do.body in
    rw same c.counted.ensures.behind

pub statement-arm-requires : goal.statement-arm-requires
statement-arm-requires t c =
    let sizes = told (setting c.args.s.now) c.in-If.first c.in-If.others c.in-If.otherwise c.args.x.now c.args.place c.otherwise_size-behind.result c.arms_size-rest.result (sym c.deref.ensures ∙ c.in-If.is) c.requires.room c.otherwise_size-behind.ensures c.arms_size-rest.ensures in
    (search (rules, the_lemmas), omega (arith, sizes.parts, sizes.behind_all, c.requires.room))

pub statement-arms-requires : goal.statement-arms-requires
statement-arms-requires t c =
    let sizes = told (setting c.args.s.now) c.in-If.first c.in-If.others c.in-If.otherwise c.args.x.now c.args.place c.otherwise_size-behind.result c.arms_size-rest.result (sym c.deref.ensures ∙ c.in-If.is) c.requires.room c.otherwise_size-behind.ensures c.arms_size-rest.ensures in
    (search (rules, the_lemmas), omega (arith, sizes.parts, sizes.behind_all, c.requires.room, c.in_ok-second-in-If.ensures.behind))

pub statement-returns-in-None-clause-behind : goal.statement-returns-in-None-clause-behind
unfolding arms_size
statement-returns-in-None-clause-behind t c =
    let sizes = told (setting c.args.s.now) c.in-If.first c.in-If.others c.in-If.otherwise c.args.x.now c.args.place c.otherwise_size-behind.result c.arms_size-rest.result (sym c.deref.ensures ∙ c.in-If.is) c.requires.room c.otherwise_size-behind.ensures c.arms_size-rest.ensures in
    let none = ap (λ o. arms_size (setting c.args.s.now) (otherwise_tree o)) c.in-None.is in
    omega (arith, sizes.parts, sizes.behind_all, none, c.requires.room, c.in_ok-second-in-If.ensures.behind, c.in_ok-third-in-If.ensures.behind)

pub statement-returns-in-None-clause-code : goal.statement-returns-in-None-clause-code
unfolding arms_code
statement-returns-in-None-clause-code t c =
    let sizes = told (setting c.args.s.now) c.in-If.first c.in-If.others c.in-If.otherwise c.args.x.now c.args.place c.otherwise_size-behind.result c.arms_size-rest.result (sym c.deref.ensures ∙ c.in-If.is) c.requires.room c.otherwise_size-behind.ensures c.arms_size-rest.ensures in
    let end = c.args.place + c.statement_size.result in
    let third = c.in_ok-third-in-If.third in
    choice_code (setting c.args.s.now) c.args.around c.args.place c.in-If.first c.in-If.others c.in-If.otherwise c.args.x.now c.args.self.now c.arm.new.self c.arms.new.self c.arms.new.self end c.in_ok-second-in-If.second third c.arms_size-rest.result c.otherwise_size-behind.result
    sizes
    (omega (arith, c.statement_size.ensures, c.requires.room))
    c.in_ok-second-in-If.ensures.behind
    c.in_ok-third-in-If.ensures.behind
    c.in_ok-second-in-If.ensures.code
    c.in_ok-third-in-If.ensures.code
    (sym (append-nil c.arms.new.self) ∙ ap (λ o. c.arms.new.self ++ arms_code (setting c.args.s.now) c.args.around end third (otherwise_tree o)) (sym c.in-None.is))

pub statement-block-requires : goal.statement-block-requires
unfolding arms_size
statement-block-requires t c =
    let sizes = told (setting c.args.s.now) c.in-If.first c.in-If.others c.in-If.otherwise c.args.x.now c.args.place c.otherwise_size-behind.result c.arms_size-rest.result (sym c.deref.ensures ∙ c.in-If.is) c.requires.room c.otherwise_size-behind.ensures c.arms_size-rest.ensures in
    let some = ap (λ o. arms_size (setting c.args.s.now) (otherwise_tree o)) c.in-Some.is in
    (search (rules, the_lemmas), omega (arith, sizes.parts, sizes.behind_all, some, c.requires.room, c.in_ok-second-in-If.ensures.behind, c.in_ok-third-in-If.ensures.behind))

pub statement-returns-in-Some-clause-behind : goal.statement-returns-in-Some-clause-behind
unfolding arms_size
statement-returns-in-Some-clause-behind t c =
    let sizes = told (setting c.args.s.now) c.in-If.first c.in-If.others c.in-If.otherwise c.args.x.now c.args.place c.otherwise_size-behind.result c.arms_size-rest.result (sym c.deref.ensures ∙ c.in-If.is) c.requires.room c.otherwise_size-behind.ensures c.arms_size-rest.ensures in
    let some = ap (λ o. arms_size (setting c.args.s.now) (otherwise_tree o)) c.in-Some.is in
    let place : c.args.place + statement_size (setting c.args.s.now) (statement c.args.x.now) ≡ c.in_ok-third-in-If.third + block_size (setting c.args.s.now) (block c.in-Some.body.items) =
    omega (arith, sizes.parts, sizes.behind_all, some, c.requires.room, c.in_ok-second-in-If.ensures.behind, c.in_ok-third-in-If.ensures.behind) in
    rw place c.block.ensures.behind

pub statement-returns-in-Some-clause-code : goal.statement-returns-in-Some-clause-code
unfolding arms_code
statement-returns-in-Some-clause-code t c =
    let sizes = told (setting c.args.s.now) c.in-If.first c.in-If.others c.in-If.otherwise c.args.x.now c.args.place c.otherwise_size-behind.result c.arms_size-rest.result (sym c.deref.ensures ∙ c.in-If.is) c.requires.room c.otherwise_size-behind.ensures c.arms_size-rest.ensures in
    let s = setting c.args.s.now in
    let end = c.args.place + c.statement_size.result in
    let third = c.in_ok-third-in-If.third in
    let last = arms_code s c.args.around end third (otherwise_tree c.in-If.otherwise) in
    let whole : c.arms.new.self ++ last ≡ c.args.self.now ++ statement_code s c.args.around c.args.place (statement c.args.x.now) =
    choice_code s c.args.around c.args.place c.in-If.first c.in-If.others c.in-If.otherwise c.args.x.now c.args.self.now c.arm.new.self c.arms.new.self (c.arms.new.self ++ last) end c.in_ok-second-in-If.second third c.arms_size-rest.result c.otherwise_size-behind.result
    sizes
    (omega (arith, c.statement_size.ensures, c.requires.room))
    c.in_ok-second-in-If.ensures.behind
    c.in_ok-third-in-If.ensures.behind
    c.in_ok-second-in-If.ensures.code
    c.in_ok-third-in-If.ensures.code
    refl in
    let same : c.args.self.now ++ statement_code s c.args.around c.args.place (statement c.args.x.now) ≡ c.arms.new.self ++ block_code s c.args.around third (block c.in-Some.body.items) =
    sym whole ∙ ap (λ o. c.arms.new.self ++ arms_code s c.args.around end third (otherwise_tree o)) c.in-Some.is in
    rw same c.block.ensures.code

pub arms-arm-requires : goal.arms-arm-requires
arms-arm-requires t c =
    let step = turn (setting c.args.s.now) c.args.others.now.items c.deref-x-items.result.now c.all.x-index c.x-item.result c.all.left c.args.last c.rest_size.result c.deref-x-items.ensures.value c.all.invariant.left c.all-test.true c.x-item.is c.rest_size.ensures in
    (search (rules, the_lemmas), omega (arith, step.size, c.all.invariant.size, c.requires.room))

pub arms-all-preserved : goal.arms-all-preserved
arms-all-preserved t c =
    let s = setting c.args.s.now in
    let step = turn (setting c.args.s.now) c.args.others.now.items c.deref-x-items.result.now c.all.x-index c.x-item.result c.all.left c.args.last c.rest_size.result c.deref-x-items.ensures.value c.all.invariant.left c.all-test.true c.x-item.is c.rest_size.ensures in
    let others = map arm_tree (drop (c.all.x-index + 1) c.args.others.now.items) in
    record {
      left = omega (arith, step.left_is);
      size = omega (arith, step.size, c.all.invariant.size, c.in_ok-at.ensures.behind);
      code =
          arms_step_code s c.args.around c.args.end c.all.at c.in_ok-at.at (arm_tree c.x-item.result) others c.args.last c.rest_size.result c.all.self c.arm.new.self step.rest_is c.in_ok-at.ensures.behind c.in_ok-at.ensures.code
          ∙ ap (λ xs. c.all.self ++ arms_alone_code s c.args.around c.args.end c.all.at xs c.args.last) (sym step.split)
          ∙ c.all.invariant.code;
    }
