use Rattle.cse_image_parts.proofs.Names.{name_is_text}
use Rattle.cse_image_parts.proofs.texts.ascii_text.Goals as goal

pub returns-in-Err-clause-there : goal.returns-in-Err-clause-there
returns-in-Err-clause-there c = absurd (c.in-Err.ensures.cases.0 (name_is_text c.args.bytes.now c.requires))
