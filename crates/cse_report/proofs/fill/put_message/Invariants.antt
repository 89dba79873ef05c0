use Rattle.std.proofs.Common.{◌≡◌, ◌++◌, length}
use Rattle.cse_image_parts.specs.Pieces.{pieces_left}
use Rattle.cse_image_parts.specs.Placeholders.{pieces_of}
use Rattle.cse_report.specs.MessageText.{text_of_pieces}
use Rattle.cse_report.specs.Filling.{ArePlaced}
use Rattle.cse_report.proofs.fill.put_message.Given as goal

-- what was put, and what is left, are the text
abbrev pub invariant-pieces : goal.invariant-pieces
invariant-pieces l = record {
  bytes : l.out.items ++ text_of_pieces (pieces_left l.pieces) l.rest ≡ l.fn.out.items ++ text_of_pieces (pieces_of l.fn.text) l.fn.args;
  utf8 : ArePlaced (pieces_left l.pieces) l.rest → ArePlaced (pieces_of l.fn.text) l.fn.args;
}

abbrev pub decreases-pieces : goal.decreases-pieces
decreases-pieces l = length (pieces_left l.pieces)
