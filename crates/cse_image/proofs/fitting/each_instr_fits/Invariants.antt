use Rattle.std.proofs.Common.{take}
use Rattle.std.specs.List.{AllByRecursion}
use Rattle.cse_image_parts.specs.declared.version.Version.TheVariants as versions
use Rattle.cse_image.specs.Spelling.{InstrFits}
use Rattle.cse_image.proofs.fitting.each_instr_fits.Given as goal

abbrev pub invariant-loop-instr : goal.invariant-loop-instr
invariant-loop-instr l = AllByRecursion (InstrFits versions.Two) (take l.instr-index l.code)
