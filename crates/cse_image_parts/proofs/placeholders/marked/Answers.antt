use Rattle.std.proofs.Common.{arith}
use Rattle.std.proofs.lemmas.List.Sums.{prefix_len-le-length}
use Rattle.cse_lemmas.proofs.Lists.{list_all-prefix}
use Rattle.cse_image_parts.specs.Placeholders.{is_digit}
use Rattle.cse_image_parts.proofs.placeholders.marked.Goals as goal

pub slice_bounds-piece_of-count : goal.slice_bounds-piece_of-count
slice_bounds-piece_of-count c = omega (arith, prefix_len-le-length is_digit c.args.rest.now)

pub slice_bounds-piece_of-start : goal.slice_bounds-piece_of-start
slice_bounds-piece_of-start c = omega (arith, prefix_len-le-length is_digit c.args.rest.now)

pub piece_of-requires : goal.piece_of-requires
piece_of-requires c = rw c.count_digits-count.ensures (list_all-prefix is_digit c.args.rest.now)
