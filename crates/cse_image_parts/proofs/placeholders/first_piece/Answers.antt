use Rattle.cse_image_parts.proofs.PieceLaws.{first_found, no_pieces}
use Rattle.cse_image_parts.proofs.placeholders.first_piece.Goals as goal

pub returns-in-None : goal.returns-in-None
returns-in-None c = no_pieces c.args.text.now c.in-None.ensures.cases

pub returns-in-Some : goal.returns-in-Some
returns-in-Some c = first_found c.args.text.now c.in-Some.first.now c.in-Some.rest.now c.piece_at-piece.result c.in-Some.ensures.cases.0 c.piece_at-piece.ensures
