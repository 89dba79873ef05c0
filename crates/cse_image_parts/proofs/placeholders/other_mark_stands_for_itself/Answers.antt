use Rattle.cse_image_parts.proofs.WrittenLaws.{stands_alone}
use Rattle.cse_image_parts.proofs.placeholders.other_mark_stands_for_itself.Goals as goal

pub returns : goal.returns
returns c = stands_alone c.args.rest.now
