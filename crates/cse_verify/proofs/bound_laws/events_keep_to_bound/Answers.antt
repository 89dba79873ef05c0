use Rattle.cse_verify.proofs.CaseLaws.{case_within, listed_within}
use Rattle.cse_verify.proofs.bound_laws.events_keep_to_bound.Goals as goal

pub returns-clause-case : goal.returns-clause-case
returns-clause-case g c = case_within _ _ c.requires

pub returns-clause-listed : goal.returns-clause-listed
returns-clause-listed g c = listed_within _
