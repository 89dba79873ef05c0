use Rattle.std.proofs.Common.{◌≤◌, length, map}
use Rattle.cse_syntax_tree.specs.Word.{words}
use Rattle.cse_syntax_tree.specs.Tree as tree
use Rattle.cse_syntax.specs.ReadingSource as rule
use Rattle.cse_syntax.proofs.Loops.{Within}
use Rattle.cse_syntax.proofs.parser.Parser.declarations.Given as goal

abbrev pub invariant-all : goal.invariant-all
invariant-all l =
    (length l.self.rest.now ≤ length l.fn.self.rest.now) × Within (λ n. rule.declarations_from l.room n (map tree.declaration l.found.items)) (words l.self.rest.now) (rule.declarations l.room (words l.fn.self.rest.now))

abbrev pub decreases-all : goal.decreases-all
decreases-all l = length l.self.rest.now
