use Rattle.cse_batch_parts.proofs.UntouchedRuns.{untouched_columns_stay as law}
use Rattle.cse_batch_parts.proofs.untouched.untouched_columns_stay.Goals as goal

pub returns : goal.returns
returns g c = law c.args.verified.now (record {
  events_end = c.event_ends.ensures;
  first_fits = c.first_states_fit.ensures;
  columns_stay = c.columns_stay.ensures;
  event_columns_stay = c.event_columns_stay.ensures;
  cases_end = c.case_ends.ensures;
  case_columns_stay = c.case_columns_stay.ensures;
})
