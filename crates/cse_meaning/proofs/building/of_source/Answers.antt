use Rattle.std.proofs.Common.{◌≡◌, ◌⊎◌, sym, subst}
use Rattle.cse_syntax_tree.specs.Tree as syntax
use Rattle.cse_types.specs.Answer.{checked}
use Rattle.cse_meaning.specs.declared.error.BuildFault.{BuildFault}
use Rattle.cse_meaning.specs.Fault.{out_of_memory}
use Rattle.cse_meaning.specs.Build.{IsSourceFault}
use Rattle.cse_meaning.proofs.Layers.{image_of_source, limit_of_source, rule_told}
use Rattle.cse_meaning.proofs.building.of_source.Goals as goal

pub returns-in-Ok-clause-image : goal.returns-in-Ok-clause-image
returns-in-Ok-clause-image c =
    let source = syntax.tree c.args.source.now.tree in
    let k = checked c.in-Ok.typed in
    let h = c.in-Ok.ensures in
    image_of_source c.args.dictionary.now c.args.messages.now c.args.order.now source k.dictionary k.order k.tree c.of_typed.result (λ v. v.items) h.made_for.0 h.made_for.2 h.sound c.of_typed.ensures.image

pub returns-in-Ok-clause-fault : goal.returns-in-Ok-clause-fault
returns-in-Ok-clause-fault c =
    let source = syntax.tree c.args.source.now.tree in
    let k = checked c.in-Ok.typed in
    let h = c.in-Ok.ensures in
    limit_of_source c.args.dictionary.now c.args.messages.now source k.dictionary k.tree c.of_typed.result h.made_for.0 h.sound c.of_typed.ensures.fault

pub returns-in-Err-clause-fault : goal.returns-in-Err-clause-fault
returns-in-Err-clause-fault c =
    let d = c.args.dictionary.now in
    let m = c.args.messages.now in
    let source = syntax.tree c.args.source.now.tree in
    subst (λ (f : BuildFault). (f ≡ out_of_memory) ⊎ IsSourceFault d m source f) (sym c.from.ensures) (rule_told d m source c.in-Err.error c.in-Err.ensures.cause c.in-Err.ensures.only)
