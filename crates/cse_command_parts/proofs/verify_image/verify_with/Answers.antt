use Rattle.cse_command_parts.proofs.VettedLaws.{passed}
use Rattle.cse_command_parts.proofs.verify_image.verify_with.Goals as goal

pub returns-in-Ok-write_verdict-clause-passes : goal.returns-in-Ok-write_verdict-clause-passes
returns-in-Ok-write_verdict-clause-passes g c text read = (
  passed text c.args.image.now c.args.dictionary.now c.in-Ok.verified c.depth.result read
      c.in-Ok.ensures.dictionary c.in-Ok.ensures.accepted c.depth.ensures,
  c.in-Ok-write_verdict.ensures.bytes,
)

pub returns-clause-before : goal.returns-clause-before
returns-clause-before g c text read = (
  passed text c.args.image.now c.args.dictionary.now c.in-Ok.verified c.depth.result read
      c.in-Ok.ensures.dictionary c.in-Ok.ensures.accepted c.depth.ensures,
  c.in-Err-write_verdict.ensures.bytes,
)
