use Rattle.std.proofs.Common.{◌≡◌, ◌++◌, drop}
use Rattle.cse_dict.specs.Context.{id_columns_from}
use Rattle.cse_dict.specs.declared.context.Owner.TheVariants.{Nobody}
use Rattle.cse_dict.proofs.context.add_all_id_columns.Given as goal

abbrev pub invariant-sections : goal.invariant-sections
invariant-sections l = l.ids.items ++ id_columns_from l.owner (drop l.section-index l.rest) ≡ l.fn.ids.items ++ id_columns_from Nobody l.rest
