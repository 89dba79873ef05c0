use Rattle.std.proofs.Common.{arith, ap, sym, refl, ◌∙◌, ◌<◌, ◌≤◌, length, map}
use Rattle.std.proofs.lemmas.List.{map_push}
use Rattle.cse_syntax_tree.specs.Word.{words}
use Rattle.cse_syntax_tree.specs.Tree.{expr, operation_tree, Compare}
use Rattle.cse_syntax.specs.Reading as spec
use Rattle.cse_syntax.specs.Reading.{marked, relation, related, sum}
use Rattle.cse_syntax.proofs.Loops.{made_gives, one_operation, list_ends, awaits_first, awaits_next, awaits_last}
use Rattle.cse_syntax.proofs.parser.Parser.+expression.Goals as goal

pub operations-operands-preserved : goal.operations-operands-preserved
operations-operands-preserved t c =
    let taken : length c.take_operator.new.self.rest.now < length c.operands.self.rest.now = c.in-Some.ensures.taken in
    let shorter : length c.operand.new.self.rest.now ≤ length c.take_operator.new.self.rest.now = c.operand.ensures.shorter in
    let step = one_operation (spec.operator_of c.args.level) (spec.operand_of c.args.room (spec.nested c.args.room) c.args.level) _ (map operation_tree c.operands.found.items) (map operation_tree c.push.new.self.items) (expr c.in_ok-operand.operand) c.in-Some.operator c.operands.self.rest.now c.take_operator.new.self.rest.now c.operand.new.self.rest.now (sym c.in-Some.ensures.found) c.in-Some.ensures.after c.in_ok-operand.ensures.value (ap (map operation_tree) c.in_ok-push.ensures.items ∙ map_push operation_tree c.operands.found.items _) taken shorter c.operands.invariant.1 in
    (omega (arith, taken, shorter), step)

pub operations-returns : goal.operations-returns
operations-returns t c = record {
  value = list_ends (λ ws. spec.is_some (spec.operator_at (spec.operator_of c.args.level) ws)) (spec.operation (spec.operator_of c.args.level) (spec.operand_of c.args.room (spec.nested c.args.room) c.args.level)) _ (map operation_tree c.operands.found.items) c.operands.self.rest.now c.take_operator.new.self.rest.now (ap spec.is_some (sym c.in_default.ensures.found)) c.in_default.ensures.kept c.operands.invariant.1;
  shorter = omega (arith, c.in_default.ensures.shorter);
}

pub listed-all-init : goal.listed-all-init
listed-all-init t c = (omega arith, awaits_first (spec.nested c.args.room) (words c.args.self.now.rest.now) _ (ap (map expr) c.new-found.ensures.items))

pub listed-all-preserved : goal.listed-all-preserved
listed-all-preserved t c = (omega arith, awaits_next (spec.nested c.args.room) _ (map expr c.all.found.items) (map expr c.push.new.self.items) (expr c.in_ok-next.next) c.all.self.rest.now c.nested.new.self.rest.now c.eat.new.self.rest.now c.in_ok-next.ensures.value c.in_ok-next.ensures.shorter (ap (map expr) c.in_ok-push.ensures.items ∙ map_push expr c.all.found.items c.in_ok-next.next) (sym c.if-not-eat.ensures.found) c.eat.ensures.after c.all.invariant.1)

pub listed-returns-then-not-eat : goal.listed-returns-then-not-eat
listed-returns-then-not-eat t c = record {
  value = awaits_last (spec.nested c.args.room) _ (map expr c.all.found.items) (map expr c.push.new.self.items) (expr c.in_ok-next.next) c.all.self.rest.now c.nested.new.self.rest.now c.eat.new.self.rest.now c.in_ok-next.ensures.value c.in_ok-next.ensures.shorter (ap (map expr) c.in_ok-push.ensures.items ∙ map_push expr c.all.found.items c.in_ok-next.next) (sym c.if-not-eat.ensures.found) c.eat.ensures.after c.all.invariant.1;
  shorter = omega (arith, c.eat.ensures.shorter);
}

-- What a function outside the cycle makes is handed on as it is.
pub chain-returns : goal.chain-returns
chain-returns t c =
    let operand = spec.operand_of c.args.room (spec.nested c.args.room) c.args.level in
    record {
      value = made_gives expr c.chained.result (spec.chained (expr c.in_ok-first.first) (map operation_tree c.in_ok-rest.rest.items)) (spec.chain (spec.operator_of c.args.level) operand (words c.args.self.now.rest.now)) (words c.operations.new.self.rest.now) c.chained.ensures (rw (c.in_ok-first.ensures.value, c.in_ok-rest.ensures.value) refl);
      shorter = omega (arith, c.in_ok-first.ensures.shorter, c.in_ok-rest.ensures.shorter);
    }

pub relation-returns : goal.relation-returns
unfolding relation related sum
relation-returns t c = record {
  value = made_gives expr c.compare.result (Compare c.in-Some.relation (expr c.in_ok-left.left) (expr c.in_ok-right.right)) (relation c.args.room (spec.nested c.args.room) (words c.args.self.now.rest.now)) (words c.chain-2.new.self.rest.now) c.compare.ensures (rw (c.in_ok-left.ensures.value, ← c.in-Some.ensures.found, ← c.in-Some.ensures.after, c.in_ok-right.ensures.value) refl);
  shorter = omega (arith, c.in_ok-left.ensures.shorter, c.in-Some.ensures.shorter, c.in_ok-right.ensures.shorter);
}

-- What begins with a mark: the definition is opened at each mark alone.
pub marked-returns-in-Int : goal.marked-returns-in-Int
unfolding marked
marked-returns-in-Int t c = rw c.in-Int.is c.apply.ensures

pub marked-returns-in-Special : goal.marked-returns-in-Special
unfolding marked
marked-returns-in-Special t c = rw c.in-Special.is c.apply-in-Special.ensures

pub marked-returns-in-GetDeck : goal.marked-returns-in-GetDeck
unfolding marked
marked-returns-in-GetDeck t c = rw c.in-GetDeck.is c.query.ensures

pub marked-returns-in-TotOcc : goal.marked-returns-in-TotOcc
unfolding marked
marked-returns-in-TotOcc t c = rw c.in-TotOcc.is c.query-in-TotOcc.ensures

pub marked-returns-in-MaxOcc : goal.marked-returns-in-MaxOcc
unfolding marked
marked-returns-in-MaxOcc t c = rw c.in-MaxOcc.is c.query-in-MaxOcc.ensures

pub marked-returns-in-CurOcc : goal.marked-returns-in-CurOcc
unfolding marked
marked-returns-in-CurOcc t c = rw c.in-CurOcc.is c.query-in-CurOcc.ensures

pub marked-returns-in-InValueSet : goal.marked-returns-in-InValueSet
unfolding marked
marked-returns-in-InValueSet t c = rw c.in-InValueSet.is c.member.ensures
