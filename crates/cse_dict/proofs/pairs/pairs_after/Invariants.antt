use Rattle.std.proofs.Common.{◌≡◌, length, fold}
use Rattle.cse_dict.specs.Pairs.{pieces_of, with_counted}
use Rattle.cse_dict.proofs.pairs.pairs_after.Given as goal

abbrev pub invariant-pieces : goal.invariant-pieces
invariant-pieces l = fold (with_counted l.data_type) l.count (pieces_of l.rest) ≡ fold (with_counted l.data_type) l.fn.count (pieces_of l.fn.value)

abbrev pub decreases-pieces : goal.decreases-pieces
decreases-pieces l = length l.rest
