use Rattle.std.proofs.Common.{◌≤◌, length, map, ◌+◌, ◌*◌}
use Rattle.cse_syntax_tree.specs.Word.{words}
use Rattle.cse_syntax_tree.specs.Tree.{stmt, arm_tree}
use Rattle.cse_syntax.specs.ReadingStmt as rule
use Rattle.cse_syntax.proofs.Loops.{Within}
use Rattle.cse_syntax.proofs.parser.Parser.+statement.Given as goal

abbrev pub decreases-body : goal.decreases-body
decreases-body l = 10 * l.room

abbrev pub decreases-body_to : goal.decreases-body_to
decreases-body_to l = 10 * l.room + 1

abbrev pub decreases-guarded : goal.decreases-guarded
decreases-guarded l = 10 * l.room + 1

abbrev pub decreases-otherwise : goal.decreases-otherwise
decreases-otherwise l = 10 * l.room + 2

abbrev pub decreases-alternatives : goal.decreases-alternatives
decreases-alternatives l = 10 * l.room + 3

abbrev pub decreases-conditional : goal.decreases-conditional
decreases-conditional l = 10 * l.room + 4

abbrev pub decreases-marked_statement : goal.decreases-marked_statement
decreases-marked_statement l = 10 * l.room + 5

abbrev pub decreases-statement : goal.decreases-statement
decreases-statement l = 10 * l.room + 6

abbrev pub decreases-statements : goal.decreases-statements
decreases-statements l = 10 * l.room + 7

abbrev pub invariant-statements-all : goal.invariant-statements-all
invariant-statements-all l =
    (length l.self.rest.now ≤ length l.initial.self.rest.now) × Within (λ n. rule.statements_from l.room (rule.body_at l.room) n (map stmt l.found.items)) (words l.self.rest.now) (rule.statements_at l.room (words l.fn.self.rest.now))

abbrev pub decreases-statements-all : goal.decreases-statements-all
decreases-statements-all l = length l.self.rest.now

abbrev pub invariant-alternatives-all : goal.invariant-alternatives-all
invariant-alternatives-all l =
    (length l.self.rest.now ≤ length l.initial.self.rest.now) × Within (λ n. rule.elseifs_from l.room (rule.body_at l.room) n (map arm_tree l.others.items)) (words l.self.rest.now) (rule.elseifs l.room (rule.body_at l.room) (words l.fn.self.rest.now))

abbrev pub decreases-alternatives-all : goal.decreases-alternatives-all
decreases-alternatives-all l = length l.self.rest.now
