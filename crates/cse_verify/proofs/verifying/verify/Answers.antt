use Rattle.std.proofs.Common.{subst}
use Rattle.std.specs.Prelude.{◌⊎◌}
use Rattle.cse_value.specs.Shape.{ShapeLists}
use Rattle.cse_code_typing.specs.Typed.{IsOutOfMemory}
use Rattle.cse_verify.specs.FirstFault.{IsFirstFault}
use Rattle.cse_code_typing.proofs.TypedLaws.{handed_on}
use Rattle.cse_verify.proofs.VerifiedLaws.{or_never, kept_of}
use Rattle.cse_verify.proofs.verifying.verify.Goals as goal

pub returns-in_err-measured-clause-never : goal.returns-in_err-measured-clause-never
returns-in_err-measured-clause-never g c =
    handed_on c.from_residual.result c.in_err-measured.field-0.0 _ c.from_residual.ensures.1
    (or_never _ _ _ (subst (λ (s : ShapeLists). IsOutOfMemory c.in_err-measured.field-0.0 ⊎ IsFirstFault s c.args.program c.in_err-measured.field-0.0) c.shape-shape.ensures.shape c.in_err-measured.ensures.first))

pub with-requires : goal.with-requires
with-requires g c =
    kept_of _ _ _ _ _ _ _ _ _ _ c.shape-shape.ensures.shape c.in_ok-measured.ensures.measured c.in_ok-check_events.ensures.typed c.in-Some.ensures.value c.in-Some.ensures.small c.run_steps-of_run.ensures c.deref.ensures.value c.deref-2.ensures.value c.depth_of-depth.ensures
