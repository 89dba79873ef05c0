use Rattle.std.proofs.Common.{length, ◌+◌, ◌-◌}
use Rattle.cse_value.specs.Device.{Consumes, IsUnfailing}
use Rattle.cse_files.proofs.whole.read_all.Given as goal

-- the bytes so far
abbrev pub invariant-pieces : goal.invariant-pieces
invariant-pieces g l = record {
  bytes : Consumes (g.I.Input.given l.fn.input) (g.I.Input.given l.input) l.bytes.items;
  sound : IsUnfailing (g.I.Input.given l.fn.input) (g.I.Input.given l.input);
}

abbrev pub decreases-pieces : goal.decreases-pieces
decreases-pieces g l = l.most + 1 - length l.bytes.items
