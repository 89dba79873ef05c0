use Rattle.std.proofs.Common.{sym, subst}
use Rattle.cse_meaning.specs.declared.error.BuildFault.{BuildFault}
use Rattle.cse_meaning.specs.Fault.{IsReason}
use Rattle.cse_meaning.specs.Build.{IsFault}
use Rattle.cse_meaning.proofs.Layers.{fault_of_messages, image_of_messages, messages_told}
use Rattle.cse_meaning.proofs.Meant.{all_mean_logic}
use Rattle.cse_meaning.proofs.Whole.{by_fault, sound_reasons}
use Rattle.cse_meaning.proofs.building.build.Goals as goal

pub returns-in-Ok-clause-image : goal.returns-in-Ok-clause-image
returns-in-Ok-clause-image c =
    image_of_messages c.args.dictionary.now c.in-Ok.messages c.args.logic.now c.args.messages.now c.args.order.now c.with_messages.result (λ v. v.items) c.in-Ok.ensures c.with_messages.ensures.image

pub returns-in-Ok-clause-means : goal.returns-in-Ok-clause-means
returns-in-Ok-clause-means c =
    let built = image_of_messages c.args.dictionary.now c.in-Ok.messages c.args.logic.now c.args.messages.now c.args.order.now c.with_messages.result (λ v. v.items) c.in-Ok.ensures c.with_messages.ensures.image in
    all_mean_logic c.args.dictionary.now c.args.logic.now c.args.messages.now c.args.order.now c.with_messages.result (λ v. v.items) c.shape.ensures.sound c.programs_mean.ensures c.none_begins_another.ensures built

pub returns-in-Ok-clause-fault : goal.returns-in-Ok-clause-fault
returns-in-Ok-clause-fault c =
    fault_of_messages c.args.dictionary.now c.in-Ok.messages c.args.logic.now c.args.messages.now c.args.order.now c.with_messages.result c.in-Ok.ensures c.with_messages.ensures.fault

pub returns-in-Ok-clause-sound : goal.returns-in-Ok-clause-sound
returns-in-Ok-clause-sound c = λ h.
    let d = c.args.dictionary.now in
    let fault = fault_of_messages d c.in-Ok.messages c.args.logic.now c.args.messages.now c.args.order.now c.with_messages.result c.in-Ok.ensures c.with_messages.ensures.fault in
    sound_reasons d c.args.logic.now c.args.messages.now c.args.order.now c.with_messages.result fault h

pub returns-in-Err-clause-fault : goal.returns-in-Err-clause-fault
returns-in-Err-clause-fault c =
    let d = c.args.dictionary.now in
    subst (λ (f : BuildFault). IsFault d c.args.logic.now c.args.messages.now c.args.order.now f) (sym c.from.ensures)
    (messages_told d c.args.logic.now c.args.messages.now c.args.order.now c.in-Err.error c.in-Err.ensures)

pub returns-in-Err-clause-sound : goal.returns-in-Err-clause-sound
returns-in-Err-clause-sound c = λ h.
    let d = c.args.dictionary.now in
    subst (λ (f : BuildFault). IsReason f) (sym c.from.ensures)
    (by_fault d c.args.logic.now c.args.messages.now c.args.order.now h _ (messages_told d c.args.logic.now c.args.messages.now c.args.order.now c.in-Err.error c.in-Err.ensures))
