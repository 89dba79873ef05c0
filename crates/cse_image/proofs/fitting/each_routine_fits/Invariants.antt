use Rattle.std.proofs.Common.{◌≡◌, ◌≤◌, [], take, map}
use Rattle.cse_image_parts.specs.Reader.{AllAfter}
use Rattle.cse_image_parts.specs.declared.version.Version.TheVariants as versions
use Rattle.cse_image.specs.Spelling.{RoutineFits}
use Rattle.cse_image_parts.specs.Image.{routine_lists}
use Rattle.cse_image_parts.specs.Fields.{instructions_in}
use Rattle.cse_image.proofs.fitting.each_routine_fits.Given as goal

abbrev pub invariant-loop-routine : goal.invariant-loop-routine
invariant-loop-routine l = record { each : AllAfter (λ before. RoutineFits versions.Two (instructions_in before)) [] (map routine_lists (take l.routine-index l.routines)); sum : l.so_far ≡ instructions_in (map routine_lists (take l.routine-index l.routines)); small : l.so_far ≤ 1000000 }
