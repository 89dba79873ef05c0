use Rattle.std.proofs.Common.{rules, ◌≡◌, ◌+◌, ◌++◌, ap, sym, ◌∙◌, arith, map}
use Rattle.cse_compile.specs.Setting.{setting}
use Rattle.cse_logic_tree.specs.declared.tree.NumberKind.{the_lemmas}
use Rattle.cse_logic_tree.specs.Typed.{number, number_kind, numbers, operations, operation_tree}
use Rattle.cse_logic_tree.proofs.Rows.{cell_is, call_is, chain_is}
use Rattle.cse_compile.specs.Expressions.{number_size, number_code, indexes_size, numbers_size, operations_size, behind}
use Rattle.cse_compile.proofs.Codes.{chain_code}
use Rattle.cse_compile.proofs.emitter.Emitter.+emit.Goals as goal

pub number-number_of_cell-requires : goal.number-number_of_cell-requires
unfolding number_size
number-number_of_cell-requires t c =
    let e : number_size (number c.args.x.now) ≡ indexes_size (numbers (map number c.in-Cell.subscripts.items)) + (behind (numbers (map number c.in-Cell.subscripts.items)) + 3) =
    ap (λ x. number_size (number_kind x)) (sym c.deref.ensures ∙ c.in-Cell.is) ∙ ap number_size (cell_is c.in-Cell.field-0 c.in-Cell.array c.in-Cell.subscripts) in
    (search (rules, the_lemmas), omega (arith, e, c.requires.room))

pub number-returns-in-Cell-clause-code : goal.number-returns-in-Cell-clause-code
unfolding number_code
number-returns-in-Cell-clause-code t c =
    let same = ap number_kind (sym c.deref.ensures ∙ c.in-Cell.is) ∙ cell_is c.in-Cell.field-0 c.in-Cell.array c.in-Cell.subscripts in
    rw same c.number_of_cell.ensures.code

pub number-returns-in-Cell-clause-behind : goal.number-returns-in-Cell-clause-behind
unfolding number_size
number-returns-in-Cell-clause-behind t c =
    let same = ap number_kind (sym c.deref.ensures ∙ c.in-Cell.is) ∙ cell_is c.in-Cell.field-0 c.in-Cell.array c.in-Cell.subscripts in
    rw same c.number_of_cell.ensures.behind

pub number-number_of_call-requires : goal.number-number_of_call-requires
unfolding number_size
number-number_of_call-requires t c =
    let e : number_size (number c.args.x.now) ≡ numbers_size (numbers (map number c.in-Call.arguments.items)) + 1 =
    ap (λ x. number_size (number_kind x)) (sym c.deref.ensures ∙ c.in-Call.is) ∙ ap number_size (call_is c.in-Call.field-0 c.in-Call.function c.in-Call.arguments) in
    (search (rules, the_lemmas), omega (arith, e, c.requires.room))

pub number-returns-in-Call-clause-code : goal.number-returns-in-Call-clause-code
unfolding number_code
number-returns-in-Call-clause-code t c =
    let same = ap number_kind (sym c.deref.ensures ∙ c.in-Call.is) ∙ call_is c.in-Call.field-0 c.in-Call.function c.in-Call.arguments in
    rw same c.number_of_call.ensures.code

pub number-returns-in-Call-clause-behind : goal.number-returns-in-Call-clause-behind
unfolding number_size
number-returns-in-Call-clause-behind t c =
    let same = ap number_kind (sym c.deref.ensures ∙ c.in-Call.is) ∙ call_is c.in-Call.field-0 c.in-Call.function c.in-Call.arguments in
    rw same c.number_of_call.ensures.behind

pub number-operations-requires : goal.number-operations-requires
unfolding number_size
number-operations-requires t c =
    let e : number_size (number c.args.x.now) ≡ number_size (number c.in-Chain.first) + operations_size (operations (map operation_tree c.in-Chain.others.items)) =
    ap (λ x. number_size (number_kind x)) (sym c.deref.ensures ∙ c.in-Chain.is) ∙ ap number_size (chain_is c.in-Chain.first c.in-Chain.others) in
    (search (rules, the_lemmas), omega (arith, e, c.requires.room, c.in_ok-at-in-Chain.ensures.behind))

pub number-returns-in_ok-last-in-Chain-clause-code : goal.number-returns-in_ok-last-in-Chain-clause-code
unfolding number_code
number-returns-in_ok-last-in-Chain-clause-code t c =
    let others = operations (map operation_tree c.in-Chain.others.items) in
    let same = ap number_kind (sym c.deref.ensures ∙ c.in-Chain.is) ∙ chain_is c.in-Chain.first c.in-Chain.others in
    chain_code (setting c.args.s.now) c.args.place (number c.in-Chain.first) others c.args.self.now c.number-in-Chain.new.self c.operations.new.self c.in_ok-at-in-Chain.at
    c.in_ok-at-in-Chain.ensures.code
    c.in_ok-at-in-Chain.ensures.behind
    c.in_ok-last-in-Chain.ensures.code
    ∙ ap (λ x. c.args.self.now ++ number_code (setting c.args.s.now) c.args.place x) (sym same)

pub number-returns-in_ok-last-in-Chain-clause-behind : goal.number-returns-in_ok-last-in-Chain-clause-behind
unfolding number_size
number-returns-in_ok-last-in-Chain-clause-behind t c =
    let e : number_size (number c.args.x.now) ≡ number_size (number c.in-Chain.first) + operations_size (operations (map operation_tree c.in-Chain.others.items)) =
    ap (λ x. number_size (number_kind x)) (sym c.deref.ensures ∙ c.in-Chain.is) ∙ ap number_size (chain_is c.in-Chain.first c.in-Chain.others) in
    omega (arith, e, c.in_ok-at-in-Chain.ensures.behind, c.in_ok-last-in-Chain.ensures.behind)
