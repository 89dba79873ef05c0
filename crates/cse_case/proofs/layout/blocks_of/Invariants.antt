use Rattle.std.proofs.Common.{take}
use Rattle.cse_case.specs.NamedColumns.{HaveSame}
use Rattle.cse_case.proofs.layout.blocks_of.Given as goal

abbrev pub invariant-spans : goal.invariant-spans
invariant-spans l = HaveSame l.blocks.items (take l.span-index l.spans)
