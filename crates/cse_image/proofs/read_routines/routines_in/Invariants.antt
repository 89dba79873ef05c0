use Rattle.std.proofs.Common.{◌≡◌, ◌-◌, ◌≤◌, [], map}
use Rattle.cse_image_parts.specs.Reader.{many}
use Rattle.cse_image_parts.specs.Image.{routine_lists}
use Rattle.cse_image_parts.specs.Fields.{instructions_in}
use Rattle.cse_image.specs.Reading.{routine_at}
use Rattle.cse_image.proofs.read_routines.routines_in.Given as goal

abbrev pub invariant-loop : goal.invariant-loop
invariant-loop l = record {
  reads : many (λ before. routine_at l.version (instructions_in before)) (map routine_lists l.routines.items) (l.count - l.counter) l.rest ≡ many (λ before. routine_at l.version (instructions_in before)) [] l.count l.bytes;
  sum : l.so_far ≡ instructions_in (map routine_lists l.routines.items);
  small : l.so_far ≤ 1000000;
}
