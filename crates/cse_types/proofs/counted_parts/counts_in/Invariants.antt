use Rattle.std.proofs.Common.{◌≡◌, map, drop}
use Rattle.cse_syntax_tree.specs.Tree as syntax
use Rattle.cse_types.specs.PartFaults.{counts_in}
use Rattle.cse_types.specs.CountsBehind.{counts_after}
use Rattle.cse_types.proofs.counted_parts.counts_in.Given as goal

abbrev pub invariant-all : goal.invariant-all
invariant-all l = counts_after l.counts (map syntax.declaration (drop l.x-index l.all.items)) ≡ counts_in (map syntax.declaration l.all.items)
