use Rattle.std.proofs.Common.{◌≡◌, length, fold}
use Rattle.cse_dict.specs.Pairs.{pieces_of, with_piece}
use Rattle.cse_dict.proofs.rows.add_pieces.Given as goal

abbrev pub invariant-pieces : goal.invariant-pieces
invariant-pieces l = fold (with_piece l.data_type) l.rows (pieces_of l.rest) ≡ fold (with_piece l.data_type) l.fn.rows (pieces_of l.fn.value)

abbrev pub decreases-pieces : goal.decreases-pieces
decreases-pieces l = length l.rest
