use Rattle.std.proofs.Common.{Some, sym, ap, ◌∙◌}
use Rattle.std.specs.Option.{option_map}
use Rattle.cse_image_parts.specs.declared.entries.GlobalVariable.{GlobalVariable}
use Rattle.cse_code_typing.specs.Kinds.{global_kind}
use Rattle.cse_code_typing.proofs.ListedLaws.{got, lacks}
use Rattle.cse_code_typing.proofs.need.global_at.Goals as goal

pub returns-in-None : goal.returns-in-None
returns-in-None c = sym (ap (option_map (λ (g : GlobalVariable). global_kind g.kind)) (lacks c.deref.result.now _ _ c.deref.ensures.value c.in-None.ensures.lookup.0))

pub returns-in-Some : goal.returns-in-Some
returns-in-Some c =
    ap Some c.kind_of_global.ensures
    ∙ sym (ap (option_map (λ (g : GlobalVariable). global_kind g.kind)) (got c.deref.result.now _ _ _ c.deref.ensures.value c.in-Some.ensures.lookup.0 c.in-Some.ensures.lookup.1))
