use Rattle.std.proofs.Common.{◌≡◌, ◌-◌, [], length}
use Rattle.cse_image_parts.specs.Reader.{many}
use Rattle.cse_image.specs.Reading.{local_at}
use Rattle.cse_image.proofs.read_routines.locals_in.Given as goal

abbrev pub invariant-loop-index : goal.invariant-loop-index
invariant-loop-index l = record {
  reads : many (λ before. local_at l.parameters (length before)) l.locals.items (l.count - l.index) l.rest ≡ many (λ before. local_at l.parameters (length before)) [] l.count l.bytes;
  count : length l.locals.items ≡ l.index;
}
