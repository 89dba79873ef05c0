use Rattle.std.proofs.Common.{◌≡◌, ◌++◌, [], drop, map}
use Rattle.std.specs.Prelude.{replicate}
use Rattle.cse_compile.proofs.globals.add_times.Given as goal

abbrev pub decreases-all : goal.decreases-all
decreases-all l = l.left

abbrev pub invariant-all : goal.invariant-all
invariant-all l = l.globals.items ++ replicate l.left l.global ≡ l.initial.globals.items ++ replicate l.count l.global
