use Rattle.cse_verify.proofs.EventLaws.{table_small, case_sum_is, some_same, none_same}
use Rattle.cse_verify.proofs.events.case_steps.Goals as goal

pub sum_of_case-requires : goal.sum_of_case-requires
sum_of_case-requires g c = table_small _ _ _ c.requires.bounds c.requires.bounded

pub returns-clause-value : goal.returns-clause-value
returns-clause-value g c = some_same _ _ _ (case_sum_is _ _ _ c.tables.ensures.lists c.requires.bounds) c.sum_of_case.ensures.value

pub returns-clause-too_many : goal.returns-clause-too_many
returns-clause-too_many g c = none_same _ _ _ (case_sum_is _ _ _ c.tables.ensures.lists c.requires.bounds) c.sum_of_case.ensures.too_many
