use Rattle.std.proofs.Common.{◌≡◌, ◌++◌}
use Rattle.cse_compile.specs.Wide.{pops}
use Rattle.cse_compile.proofs.emitter.Emitter.pops.Given as goal

abbrev pub decreases-all : goal.decreases-all
decreases-all l = l.left

abbrev pub invariant-all : goal.invariant-all
invariant-all l = l.self ++ pops l.left ≡ l.initial.self ++ pops l.count
