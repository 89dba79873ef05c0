use Rattle.std.proofs.Common.{◌≤◌, [], length, map, ℕ, ◌+◌, ◌*◌}
use Rattle.cse_syntax.specs.declared.parser.Level.{Level}
use Rattle.cse_syntax.specs.declared.parser.Level.TheVariants as level
use Rattle.cse_syntax_tree.specs.Word.{words}
use Rattle.cse_syntax_tree.specs.Tree.{expr, operation_tree}
use Rattle.cse_syntax.specs.Reading as spec
use Rattle.cse_syntax.proofs.Loops.{Within, Awaits}
use Rattle.cse_syntax.proofs.parser.Parser.+expression.Given as goal

-- The calls lead from a rule to a tighter one, and from there into parentheses, with less room.
abbrev rank : Level → ℕ
rank level.Or = 19
rank level.And = 16
rank level.Sum = 11
rank level.Product = 8

abbrev pub decreases-nested : goal.decreases-nested
decreases-nested l = 25 * l.room

abbrev pub decreases-listed : goal.decreases-listed
decreases-listed l = 25 * l.room + 2

abbrev pub decreases-arguments : goal.decreases-arguments
decreases-arguments l = 25 * l.room + 3

abbrev pub decreases-closed : goal.decreases-closed
decreases-closed l = 25 * l.room + 1

abbrev pub decreases-apply : goal.decreases-apply
decreases-apply l = 25 * l.room + 4

abbrev pub decreases-marked : goal.decreases-marked
decreases-marked l = 25 * l.room + 5

abbrev pub decreases-prim : goal.decreases-prim
decreases-prim l = 25 * l.room + 6

abbrev pub decreases-unary : goal.decreases-unary
decreases-unary l = 25 * l.room + 7

abbrev pub decreases-operand : goal.decreases-operand
decreases-operand l = 25 * l.room + rank l.level

abbrev pub decreases-operations : goal.decreases-operations
decreases-operations l = 25 * l.room + rank l.level + 1

abbrev pub decreases-chain : goal.decreases-chain
decreases-chain l = 25 * l.room + rank l.level + 2

abbrev pub decreases-relation : goal.decreases-relation
decreases-relation l = 25 * l.room + 14

abbrev pub decreases-negation : goal.decreases-negation
decreases-negation l = 25 * l.room + 15

abbrev pub invariant-listed-all : goal.invariant-listed-all
invariant-listed-all l =
    (length l.self.rest.now ≤ length l.fn.self.rest.now) × Awaits (spec.nested l.room) (map expr l.found.items) (words l.self.rest.now) (spec.listed (spec.nested l.room) (words l.fn.self.rest.now))

abbrev pub decreases-listed-all : goal.decreases-listed-all
decreases-listed-all l = length l.self.rest.now

abbrev pub invariant-operations-operands : goal.invariant-operations-operands
invariant-operations-operands l =
    (length l.self.rest.now ≤ length l.initial.self.rest.now) × Within (λ n. spec.operations_from (spec.operator_of l.level) (spec.operand_of l.room (spec.nested l.room) l.level) n (map operation_tree l.found.items)) (words l.self.rest.now)
    (spec.operations_from (spec.operator_of l.level) (spec.operand_of l.room (spec.nested l.room) l.level) (length (words l.fn.self.rest.now)) [] (words l.fn.self.rest.now))

abbrev pub decreases-operations-operands : goal.decreases-operations-operands
decreases-operations-operands l = length l.self.rest.now
