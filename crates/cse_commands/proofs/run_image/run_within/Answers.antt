use Rattle.std.proofs.Common.{◌∙◌, ap, inl, inr, sym}
use Rattle.std.proofs.lemmas.Result.{IfErr-weaker, err_from_is_err_and}
use Rattle.cse_command_parts.specs.Allowed.{steps_allowed}
use Rattle.cse_commands.proofs.run_image.run_within.Goals as goal

pub returns-in_err-allow_steps-clause-stops : goal.returns-in_err-allow_steps-clause-stops
returns-in_err-allow_steps-clause-stops g c =
    let p = err_from_is_err_and c.from_residual.result c.from_residual.ensures.1 in
    rw (p.1, p.2)
    (inl (sym (c.in_err-allow_steps.ensures ∙ ap (λ n. steps_allowed c.args.paths.now.case_steps n) c.case_steps.ensures.value)))

pub returns-clause-stops : goal.returns-clause-stops
returns-clause-stops g c =
    IfErr-weaker c.run_verified.result _ _ (λ stop stops. inr stops) c.run_verified.ensures.stops
