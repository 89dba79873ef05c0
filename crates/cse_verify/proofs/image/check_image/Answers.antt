use Rattle.cse_dict.specs.Dictionary.{shape_of}
use Rattle.cse_verify.proofs.CheckLaws.{reading_lacks_memory, verifying_lacks_memory}
use Rattle.cse_verify.proofs.image.check_image.Goals as goal

pub returns-in-Err-clause-only : goal.returns-in-Err-clause-only
returns-in-Err-clause-only c = λ x accepted. reading_lacks_memory c.in-Err.error x c.of_reading.result c.of_reading.ensures (c.in-Err.ensures.only x accepted.spells)

pub returns-in-Err-verify-clause-only : goal.returns-in-Err-verify-clause-only
returns-in-Err-verify-clause-only c = λ x accepted.
    verifying_lacks_memory (shape_of c.args.dictionary.now) c.in-Err-verify.refusal c.in-Ok.program x c.of_verifying.result c.of_verifying.ensures (c.in-Ok.ensures.only x accepted.spells)
    accepted.typed accepted.bounded c.in-Err-verify.ensures.never
