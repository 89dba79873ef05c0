use Rattle.cse_image_parts.proofs.WrittenLaws.{written_read}
use Rattle.cse_image_parts.proofs.placeholders.written_piece_is_read.Goals as goal

pub returns : goal.returns
returns c = written_read c.args.piece c.args.rest.now
