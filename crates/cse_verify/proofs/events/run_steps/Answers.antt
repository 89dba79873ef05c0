use Rattle.std.proofs.Common.{◌∙◌, ap, arith}
use Rattle.cse_image_parts.specs.Image.{Lists}
use Rattle.cse_verify.proofs.EventLaws.{table_small, run_sum_is}
use Rattle.cse_verify.proofs.FitLaws.{run_small}
use Rattle.cse_verify.proofs.events.run_steps.Goals as goal

pub sum_of_run-requires-clause-small : goal.sum_of_run-requires-clause-small
sum_of_run-requires-clause-small g c = table_small _ _ _ c.requires.bounds c.requires.bounded

pub sum_of_run-requires-clause-fits : goal.sum_of_run-requires-clause-fits
sum_of_run-requires-clause-fits g c =
    let same = run_sum_is _ _ _ (c.deref.ensures.value ∙ ap (λ (l : Lists). l.events) c.tables.ensures.lists) c.requires.bounds in
    let small = run_small _ c.tables.ensures.fits c.requires.bounded c.requires.events in
    omega arith

pub returns : goal.returns
returns g c = c.sum_of_run.ensures ∙ run_sum_is _ _ _ (c.deref.ensures.value ∙ ap (λ (l : Lists). l.events) c.tables.ensures.lists) c.requires.bounds
