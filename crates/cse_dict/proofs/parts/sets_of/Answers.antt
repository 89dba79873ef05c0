use Rattle.std.proofs.Common.{List, ◌++◌, ap₂, refl}
use Rattle.cse_dict.specs.declared.context.Context.{Context}
use Rattle.cse_dict.specs.Context.{context_after, no_context}
use Rattle.cse_dict.specs.Dictionary.{SetText, set_in, sets_from}
use Rattle.cse_dict.proofs.Gathering.{no_value, none_more, one_more}
use Rattle.cse_dict.proofs.parts.sets_of.Goals as goal

pub sections-init : goal.sections-init
sections-init c = ap₂ (λ (l : List SetText) (x : Context). l ++ sets_from x c.args.read.now) c.new-sets.ensures.items c.no_context-context.ensures

pub returns-in_err-add_set : goal.returns-in_err-add_set
returns-in_err-add_set c = no_value _ c.from_residual.result c.from_residual.ensures.0

pub sections-preserved : goal.sections-preserved
sections-preserved c =
    one_more context_after set_in sets_from (λ _ _ _. refl) (sets_from no_context c.args.read.now) c.sections.sets.items c.add_set.new.sets.items
    c.sections.context c.context_after-context.result c.args.read.now c.sections.section-index c.section-item.result
    c.sections-test.true c.section-item.is c.sections.invariant c.in_ok-add_set.ensures c.context_after-context.ensures

pub returns : goal.returns
returns c =
    none_more sets_from (sets_from no_context c.args.read.now) c.sections.sets.items c.sections.context c.args.read.now c.sections.section-index
    c.sections-test.false refl c.sections.invariant
