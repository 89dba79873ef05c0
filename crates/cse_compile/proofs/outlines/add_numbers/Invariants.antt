use Rattle.std.proofs.Common.{◌≡◌, ◌++◌, [], drop, map}
use Rattle.cse_compile.specs.Outline.{numbers}
use Rattle.cse_compile.proofs.outlines.add_numbers.Given as goal

abbrev pub decreases-all : goal.decreases-all
decreases-all l = l.left

abbrev pub invariant-all : goal.invariant-all
invariant-all l = l.locals.items ++ numbers l.left ≡ l.initial.locals.items ++ numbers l.count
