use Rattle.std.proofs.Common.{◌≡◌, ◌⊎◌, sym, subst}
use Rattle.cse_syntax_tree.specs.Tree as syntax
use Rattle.cse_meaning.specs.declared.error.BuildFault.{BuildFault}
use Rattle.cse_meaning.specs.Fault.{out_of_memory}
use Rattle.cse_meaning.specs.Build.{IsLogicFault}
use Rattle.cse_meaning.proofs.Layers.{fault_of_text, image_of_text, source_text, text_told}
use Rattle.cse_meaning.proofs.building.of_text.Goals as goal

pub returns-in-Ok-clause-image : goal.returns-in-Ok-clause-image
returns-in-Ok-clause-image c =
    let source = syntax.tree c.in-Ok.source.tree in
    let h = c.in-Ok.ensures in
    let is = source_text c.args.text.now c.in-Ok.source.tokens.items source h.tokens h.numbered h.tree in
    image_of_text c.args.dictionary.now c.args.messages.now c.args.order.now c.args.text.now source c.of_source.result (λ v. v.items) is c.of_source.ensures.image

pub returns-in-Ok-clause-fault : goal.returns-in-Ok-clause-fault
returns-in-Ok-clause-fault c =
    let source = syntax.tree c.in-Ok.source.tree in
    let h = c.in-Ok.ensures in
    let is = source_text c.args.text.now c.in-Ok.source.tokens.items source h.tokens h.numbered h.tree in
    fault_of_text c.args.dictionary.now c.args.messages.now c.args.text.now source c.of_source.result is c.of_source.ensures.fault

pub returns-in-Err-clause-fault : goal.returns-in-Err-clause-fault
returns-in-Err-clause-fault c =
    let d = c.args.dictionary.now in
    let m = c.args.messages.now in
    let text = c.args.text.now in
    subst (λ (f : BuildFault). (f ≡ out_of_memory) ⊎ IsLogicFault d m text f) (sym c.from.ensures) (text_told d m text c.in-Err.error c.in-Err.ensures.cause c.in-Err.ensures.only)
