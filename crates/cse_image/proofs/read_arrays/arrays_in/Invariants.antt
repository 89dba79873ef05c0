use Rattle.std.proofs.Common.{◌≡◌, ◌-◌, ◌≤◌, [], map}
use Rattle.cse_image_parts.specs.Reader.{many}
use Rattle.cse_image_parts.specs.Image.{array_lists}
use Rattle.cse_image_parts.specs.Fields.{cells_in}
use Rattle.cse_image.specs.Reading.{array_at}
use Rattle.cse_image.proofs.read_arrays.arrays_in.Given as goal

abbrev pub invariant-loop : goal.invariant-loop
invariant-loop l = record {
  reads : many array_at (map array_lists l.arrays.items) (l.count - l.counter) l.rest ≡ many array_at [] l.count l.bytes;
  sum : l.cells ≡ cells_in (map array_lists l.arrays.items);
  small : l.cells ≤ 1000000;
}
