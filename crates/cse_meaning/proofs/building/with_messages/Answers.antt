use Rattle.std.proofs.Common.{◌≡◌, ◌⊎◌, sym, subst}
use Rattle.cse_meaning.specs.declared.error.BuildFault.{BuildFault}
use Rattle.cse_meaning.specs.Fault.{out_of_memory}
use Rattle.cse_meaning.specs.Build.{IsFaultBehind}
use Rattle.cse_meaning.proofs.Layers.{fault_of_order, image_of_order, order_told}
use Rattle.cse_meaning.proofs.building.with_messages.Goals as goal

pub returns-in-Ok-clause-image : goal.returns-in-Ok-clause-image
returns-in-Ok-clause-image c =
    image_of_order c.args.dictionary.now c.args.messages.now c.in-Ok.order c.args.logic.now c.args.order.now c.of_logic.result (λ v. v.items) c.in-Ok.ensures.reads c.of_logic.ensures.image

pub returns-in-Ok-clause-fault : goal.returns-in-Ok-clause-fault
returns-in-Ok-clause-fault c = fault_of_order c.args.dictionary.now c.args.messages.now c.in-Ok.order c.args.logic.now c.args.order.now c.of_logic.result c.in-Ok.ensures.reads c.of_logic.ensures.fault

pub returns-in-Err-clause-fault : goal.returns-in-Err-clause-fault
returns-in-Err-clause-fault c =
    let d = c.args.dictionary.now in
    let m = c.args.messages.now in
    subst (λ (f : BuildFault). (f ≡ out_of_memory) ⊎ IsFaultBehind d m c.args.logic.now c.args.order.now f) (sym c.from.ensures) (order_told d m c.args.logic.now c.args.order.now c.in-Err.error c.in-Err.ensures.reads)
