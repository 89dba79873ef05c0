use Rattle.std.proofs.Common.{◌≡◌, ◌≤◌, drop}
use Rattle.cse_syntax.specs.Place.{start_from}
use Rattle.cse_syntax.proofs.place.line_start.Given as goal

abbrev pub invariant-loop-i : goal.invariant-loop-i
invariant-loop-i l = (start_from l.start l.i (drop l.i l.bytes) ≡ start_from 0 0 l.bytes) × (l.start ≤ l.i)
