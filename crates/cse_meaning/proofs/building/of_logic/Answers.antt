use Rattle.std.proofs.Common.{◌≡◌, ◌⊎◌, List, ℕ, inl, inr, refl, subst}
use Rattle.std.specs.Prelude.{IfErr}
use Rattle.std.proofs.lemmas.Str.{is_utf8-from_IsUtf8}
use Rattle.cse_lemmas.proofs.Texts.{is_utf8_false}
use Rattle.cse_meaning.specs.Fault.{out_of_memory}
use Rattle.cse_meaning.specs.Build.{IsLogicFault}
use Rattle.cse_meaning.proofs.Layers.{image_of_logic}
use Rattle.cse_meaning.proofs.building.of_logic.Goals as goal

pub returns-in-Ok-clause-image : goal.returns-in-Ok-clause-image
returns-in-Ok-clause-image c =
    let is = c.in-Ok.ensures.cases in
    image_of_logic c.args.dictionary.now c.args.messages.now c.args.order.now c.args.logic.now c.in-Ok.text.now c.of_text.result (λ v. v.items) is.0 (is_utf8-from_IsUtf8 c.args.logic.now is.1) c.of_text.ensures.image

pub returns-in-Ok-clause-fault : goal.returns-in-Ok-clause-fault
returns-in-Ok-clause-fault c =
    subst (λ (bs : List ℕ). IfErr c.of_text.result (λ e. (e ≡ out_of_memory) ⊎ IsLogicFault c.args.dictionary.now c.args.messages.now bs e)) c.in-Ok.ensures.cases.0 c.of_text.ensures.fault

pub returns-in-Err-clause-fault : goal.returns-in-Err-clause-fault
returns-in-Err-clause-fault c = inr (inl (inl (refl, is_utf8_false c.args.logic.now c.in-Err.ensures.cases.0)))
