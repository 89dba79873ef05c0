use Rattle.std.proofs.Common.{Result, inl, inr, refl, subst}
use Rattle.std.proofs.lemmas.Result.{err_from_is_err_and}
use Rattle.cse_batch_parts.specs.declared.totals.Totals.{Totals}
use Rattle.cse_command_parts.specs.declared.outcome.Stop.{Stop}
use Rattle.cse_commands.specs.RunDoes.{PrintsTotals}
use Rattle.cse_commands.proofs.running.run_and_tell.Goals as goal

pub returns-in_err-ran : goal.returns-in_err-ran
returns-in_err-ran g c =
    let p = err_from_is_err_and c.from_residual.result c.from_residual.ensures.1 in
    rw (p.1, p.2) (inl (c.in_err-ran.ensures.stops, refl))

pub returns : goal.returns
returns g c =
    inr
    (record {
      ran = c.in_ok-ran.ran;
      paths = c.in_ok-ran.ensures.paths;
      runs = c.in_ok-ran.ensures.runs;
      prints =
          subst (λ (counted : Result Totals Stop). PrintsTotals counted c.tell_totals.result (g.W.Output.taken c.args.out.now) (g.W.Output.taken c.tell_totals.new.out))
          c.into_totals.ensures c.tell_totals.ensures;
    })
