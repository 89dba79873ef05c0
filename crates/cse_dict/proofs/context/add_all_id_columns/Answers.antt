use Rattle.std.proofs.Common.{◌++◌, refl}
use Rattle.cse_dict.specs.Context.{id_columns_at, id_columns_from, owner_after}
use Rattle.cse_dict.specs.declared.context.Owner.TheVariants.{Nobody}
use Rattle.cse_dict.proofs.Gathering.{no_value, none_more, one_more}
use Rattle.cse_dict.proofs.context.add_all_id_columns.Goals as goal

pub returns-in_err-add_id_columns : goal.returns-in_err-add_id_columns
returns-in_err-add_id_columns c = no_value _ c.from_residual.result c.from_residual.ensures.0

pub sections-preserved : goal.sections-preserved
sections-preserved c =
    one_more owner_after id_columns_at id_columns_from (λ _ _ _. refl) (c.args.ids.now.items ++ id_columns_from Nobody c.args.rest.now) c.sections.ids.items c.add_id_columns.new.ids.items
    c.sections.owner c.owner_after-owner.result c.args.rest.now c.sections.section-index c.section-item.result
    c.sections-test.true c.section-item.is c.sections.invariant c.in_ok-add_id_columns.ensures c.owner_after-owner.ensures

pub returns : goal.returns
returns c =
    none_more id_columns_from (c.args.ids.now.items ++ id_columns_from Nobody c.args.rest.now) c.sections.ids.items c.sections.owner c.args.rest.now c.sections.section-index
    c.sections-test.false refl c.sections.invariant
