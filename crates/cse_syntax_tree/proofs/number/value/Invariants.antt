use Rattle.std.proofs.Common.{◌≡◌, ◌≤◌, drop}
use Rattle.cse_syntax_tree.specs.Leaf.{number_from}
use Rattle.cse_syntax_tree.proofs.number.value.Given as goal

abbrev pub invariant-loop-byte : goal.invariant-loop-byte
invariant-loop-byte l = (l.value ≤ l.most) × (number_from l.value (drop l.byte-index l.digits) ≡ number_from 0 l.digits)
