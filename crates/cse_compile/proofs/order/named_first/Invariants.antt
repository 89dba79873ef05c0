use Rattle.std.proofs.Common.{◌≡◌, ◌++◌, [], drop, map}
use Rattle.cse_compile.proofs.order.named_first.Given as goal

abbrev pub invariant-all : goal.invariant-all
invariant-all l = l.order.items ++ drop l.number-index l.named ≡ l.named
