use Rattle.std.proofs.Common.{refl, ◌≡◌, ◌+◌, ap, sym, ◌∙◌, arith, map}
use Rattle.std.specs.Prelude.{min}
use Rattle.cse_logic_tree.specs.Typed.{no_arm, else_of, statement, statement_kind, block, arms, arm_tree, otherwise_tree, counting}
use Rattle.cse_logic_tree.proofs.Rows.{if_is, for_is, do_is}
use Rattle.cse_compile.specs.Setting.{setting}
use Rattle.cse_compile.specs.Expressions.{number_size}
use Rattle.cse_compile.specs.Statements.{statement_size, block_size, arms_size, guard_size, head_size}
use Rattle.cse_compile.proofs.Blocks.{choice_size}
use Rattle.cse_compile.proofs.block_sizes.+block_size.Goals as goal

pub statement_size-returns-in-None : goal.statement_size-returns-in-None
unfolding statement_size arms_size
statement_size-returns-in-None t c =
    let s = setting c.args.s.now in
    let a = number_size (arm_tree c.in-If.first).0 in
    let b = block_size s (arm_tree c.in-If.first).1 in
    let xs = map arm_tree c.in-If.others.items in
    let e : statement_size s (statement c.args.x.now) ≡ guard_size a b (arms_size s (arms xs no_arm)) =
    ap (λ x. statement_size s (statement_kind x)) (sym c.deref.ensures ∙ c.in-If.is)
    ∙ ap (statement_size s) (if_is c.in-If.first c.in-If.others c.in-If.otherwise)
    ∙ ap (λ o. guard_size a b (arms_size s (arms xs (otherwise_tree o)))) c.in-None.is in
    choice_size s (arm_tree c.in-If.first) xs no_arm c.number_size-in-None.result c.block_size.result c.arms_size.result 0 c.guard_size.result c.number_size-in-None.ensures c.block_size.ensures refl c.arms_size.ensures c.guard_size.ensures
    ∙ ap (λ n. min n 1000001) (sym e)

pub statement_size-returns-in-Some : goal.statement_size-returns-in-Some
unfolding statement_size arms_size
statement_size-returns-in-Some t c =
    let s = setting c.args.s.now in
    let a = number_size (arm_tree c.in-If.first).0 in
    let b = block_size s (arm_tree c.in-If.first).1 in
    let xs = map arm_tree c.in-If.others.items in
    let last = else_of (block c.in-Some.body.items) in
    let e : statement_size s (statement c.args.x.now) ≡ guard_size a b (arms_size s (arms xs last)) =
    ap (λ x. statement_size s (statement_kind x)) (sym c.deref.ensures ∙ c.in-If.is)
    ∙ ap (statement_size s) (if_is c.in-If.first c.in-If.others c.in-If.otherwise)
    ∙ ap (λ o. guard_size a b (arms_size s (arms xs (otherwise_tree o)))) c.in-Some.is in
    choice_size s (arm_tree c.in-If.first) xs last c.number_size-in-Some.result c.block_size-in-Some.result c.arms_size-in-Some.result c.block_size-in-Some-2.result c.guard_size-in-Some.result c.number_size-in-Some.ensures c.block_size-in-Some.ensures c.block_size-in-Some-2.ensures c.arms_size-in-Some.ensures c.guard_size-in-Some.ensures
    ∙ ap (λ n. min n 1000001) (sym e)

pub statement_size-returns-in-For : goal.statement_size-returns-in-For
unfolding statement_size
statement_size-returns-in-For t c =
    let s = setting c.args.s.now in
    let e : statement_size s (statement c.args.x.now) ≡ block_size s (block c.in-For.body.items) + 5 =
    ap (λ x. statement_size s (statement_kind x)) (sym c.deref.ensures ∙ c.in-For.is) ∙ ap (statement_size s) (for_is c.in-For.field-0 c.in-For.field-1 c.in-For.field-2 c.in-For.field-3 c.in-For.body) in
    omega (arith, e, c.block_size-in-For.ensures, c.plus-in-For.ensures)

pub statement_size-returns-in-Do : goal.statement_size-returns-in-Do
unfolding statement_size
statement_size-returns-in-Do t c =
    let s = setting c.args.s.now in
    let e : statement_size s (statement c.args.x.now) ≡ head_size s.records (counting c.in-Do.head) + (block_size s (block c.in-Do.body.items) + 6) =
    ap (λ x. statement_size s (statement_kind x)) (sym c.deref.ensures ∙ c.in-Do.is) ∙ ap (statement_size s) (do_is c.in-Do.head c.in-Do.body) in
    omega (arith, e, c.head_size.ensures, c.block_size-in-Do.ensures, c.plus-in-Do.ensures, c.plus-in-Do-2.ensures)
