use Rattle.std.proofs.Common.{List, ◌++◌, ap₂, refl}
use Rattle.cse_dict.specs.declared.context.Context.{Context}
use Rattle.cse_dict.specs.Context.{context_after, no_context}
use Rattle.cse_dict.specs.Dictionary.{ItemText, item_in, items_from}
use Rattle.cse_dict.proofs.Gathering.{no_value, none_more, one_more}
use Rattle.cse_dict.proofs.parts.items_of.Goals as goal

pub sections-init : goal.sections-init
sections-init c = ap₂ (λ (l : List ItemText) (x : Context). l ++ items_from c.args.covered.now x c.args.read.now) c.new-items.ensures.items c.no_context-context.ensures

pub returns-in_err-add_item : goal.returns-in_err-add_item
returns-in_err-add_item c = no_value _ c.from_residual.result c.from_residual.ensures.0

pub sections-preserved : goal.sections-preserved
sections-preserved c =
    let covered = c.args.covered.now in
    one_more context_after (item_in covered) (items_from covered) (λ _ _ _. refl) (items_from covered no_context c.args.read.now) c.sections.items.items c.add_item.new.items.items
    c.sections.context c.context_after-context.result c.args.read.now c.sections.section-index c.section-item.result
    c.sections-test.true c.section-item.is c.sections.invariant c.in_ok-add_item.ensures c.context_after-context.ensures

pub returns : goal.returns
returns c =
    let covered = c.args.covered.now in
    none_more (items_from covered) (items_from covered no_context c.args.read.now) c.sections.items.items c.sections.context c.args.read.now c.sections.section-index
    c.sections-test.false refl c.sections.invariant
