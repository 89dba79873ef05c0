use Rattle.std.proofs.Common.{take, drop}
use Rattle.cse_compile.specs.Wide.{all_wide}
use Rattle.cse_compile.specs.Pools.{PoolLists}
use Rattle.cse_compile.specs.Room.{AreParts, Hold}
use Rattle.cse_compile.specs.Stands.{AllStand}
use Rattle.cse_compile.proofs.Room.{Stay}
use Rattle.cse_compile.proofs.resolve.resolve.Given as goal

abbrev pub invariant-all : goal.invariant-all
invariant-all l = record {
  stand : AllStand l.pools l.resolved.items (all_wide (take l.written-index l.code));
  room : (p : PoolLists) → Hold p (all_wide l.code) → AreParts l.initial.pools p → Stay l.pools p l.code l.written-index;
}
