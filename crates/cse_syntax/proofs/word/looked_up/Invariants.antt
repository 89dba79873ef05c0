use Rattle.std.proofs.Common.{◌≡◌, length, map}
use Rattle.cse_syntax_tree.specs.Leaf.{looked_up}
use Rattle.cse_syntax.proofs.word.looked_up.Given as goal

abbrev pub invariant-loop-table : goal.invariant-loop-table
invariant-loop-table l = looked_up (map (λ k. (k.0.now, k.1)) l.table) l.text ≡ looked_up (map (λ k. (k.0.now, k.1)) l.initial.table) l.text

abbrev pub decreases-loop-table : goal.decreases-loop-table
decreases-loop-table l = length l.table
