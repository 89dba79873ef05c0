use Rattle.std.proofs.Common.{◌≡◌, length}
use Rattle.cse_image_parts.specs.Pieces.{pieces_left, kinds_left}
use Rattle.cse_image_parts.proofs.placeholders.KindsIterator.next.Given as goal

abbrev pub invariant-loop-piece : goal.invariant-loop-piece
invariant-loop-piece l = kinds_left l.self ≡ kinds_left l.initial.self

abbrev pub decreases-loop-piece : goal.decreases-loop-piece
decreases-loop-piece l = length (pieces_left l.self.pieces)
