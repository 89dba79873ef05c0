use Rattle.std.proofs.Common.{◌≡◌, List, Ok}
use Rattle.cse_image_parts.specs.declared.instruction.Instr.{Instr}
use Rattle.cse_image_parts.specs.Reader.{each}
use Rattle.cse_image.specs.Reading.{instr_at}
use Rattle.cse_image.proofs.view.view_code.Given as goal

abbrev pub invariant-loop : goal.invariant-loop
invariant-loop l = (xs : List Instr) × (each (instr_at l.version) l.counter l.bytes ≡ Ok (xs, l.rest))
