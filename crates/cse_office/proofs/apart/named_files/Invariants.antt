use Rattle.std.proofs.Common.{take}
use Rattle.cse_office.specs.Apart.{AreOf}
use Rattle.cse_office.proofs.apart.named_files.Given as goal

-- the files so far
abbrev pub invariant-loop-used : goal.invariant-loop-used
invariant-loop-used g l = record {
  are : AreOf (take l.used-index l.uses) l.files.items;
}
