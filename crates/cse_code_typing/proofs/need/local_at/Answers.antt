use Rattle.std.proofs.Common.{Some, sym, ap, ◌∙◌}
use Rattle.std.specs.Option.{option_map}
use Rattle.cse_code_typing.specs.Kinds.{local_kind}
use Rattle.cse_code_typing.proofs.ListedLaws.{got, lacks}
use Rattle.cse_code_typing.proofs.need.local_at.Goals as goal

pub returns-in-None : goal.returns-in-None
returns-in-None c = sym (ap (option_map local_kind) (lacks c.deref.result.now _ _ c.deref.ensures.value c.in-None.ensures.lookup.0))

pub returns-in-Some : goal.returns-in-Some
returns-in-Some c =
    ap Some c.kind_of_local.ensures
    ∙ sym (ap (option_map local_kind) (got c.deref.result.now _ _ _ c.deref.ensures.value c.in-Some.ensures.lookup.0 c.in-Some.ensures.lookup.1))
