use Rattle.std.proofs.Common.{◌≡◌, ◌-◌, ◌+◌, ◌<◌, ◌≤◌, [], length}
use Rattle.cse_image_parts.specs.Reader.{many}
use Rattle.cse_image_parts.specs.Fields.{product}
use Rattle.cse_image.specs.Reading.{dimension_at}
use Rattle.cse_image.proofs.read_arrays.dimensions_in.Given as goal

abbrev pub invariant-loop : goal.invariant-loop
invariant-loop l = record {
  reads : many (dimension_at l.cells l.rank) l.dimensions.items (l.rank - l.counter) l.rest ≡ many (dimension_at l.cells l.rank) [] l.rank l.bytes;
  count : length l.dimensions.items ≡ l.counter;
  room : 0 < l.rank → l.counter ≡ l.rank → l.cells + product l.dimensions.items ≤ 1000000;
}
