use Rattle.std.proofs.Common.{◌≡◌, take}
use Rattle.cse_code_typing.specs.Depth.{IsAtMost, locals_depth}
use Rattle.cse_code_typing.proofs.place_depth.locals_depth.Given as goal

abbrev pub invariant-locals : goal.invariant-locals
invariant-locals l = record {
  value : l.total ≡ locals_depth (take l.i l.locals);
  few : IsAtMost l.i l.total;
}
