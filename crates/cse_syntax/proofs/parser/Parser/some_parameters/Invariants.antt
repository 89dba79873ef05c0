use Rattle.std.proofs.Common.{◌≤◌, length, map}
use Rattle.cse_syntax_tree.specs.Word.{words}
use Rattle.cse_syntax_tree.specs.Tree as tree
use Rattle.cse_syntax.specs.ReadingSource as rule
use Rattle.cse_syntax.specs.Reading as spec
use Rattle.cse_syntax.proofs.Loops.{Awaits}
use Rattle.cse_syntax.proofs.parser.Parser.some_parameters.Given as goal

abbrev pub invariant-all : goal.invariant-all
invariant-all l =
    (length l.self.rest.now ≤ length l.fn.self.rest.now) × Awaits rule.parameter (map tree.parameter l.found.items) (words l.self.rest.now) (spec.listed rule.parameter (words l.fn.self.rest.now))

abbrev pub decreases-all : goal.decreases-all
decreases-all l = length l.self.rest.now
