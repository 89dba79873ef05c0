use Rattle.std.proofs.Common.{◌≡◌, ◌∙◌, List, Some, None, ap, sym, map, inr}
use Rattle.std.specs.Option.{option_map}
use Rattle.cse_syntax_tree.specs.Tree as syntax
use Rattle.cse_logic_faults.specs.Faults.{least_of}
use Rattle.cse_logic_faults.specs.Listed.{listed}
use Rattle.cse_logic_names.specs.declared.faults.Fault.{Fault}
use Rattle.cse_types.proofs.SourcesTold.{never_none}
use Rattle.cse_types.proofs.checked.told.Goals as goal

pub unreachable-requires : goal.unreachable-requires
unreachable-requires c =
    never_none c.args.dictionary.now c.args.messages.now (syntax.tree c.args.source.now.tree) c.requires
    (sym (c.least.ensures ∙ ap (λ (l : List Fault). least_of (map listed l)) c.deref.ensures.value ∙ ap least_of c.in-Ok.ensures) ∙ ap (option_map listed) c.in-None.is)

pub returns-in-Some-clause-fault : goal.returns-in-Some-clause-fault
returns-in-Some-clause-fault c =
    inr (
      listed c.in-Some.fault,
      sym (c.least.ensures ∙ ap (λ (l : List Fault). least_of (map listed l)) c.deref.ensures.value ∙ ap least_of c.in-Ok.ensures) ∙ ap (option_map listed) c.in-Some.is,
      record { number = c.located.ensures.number; line = c.located.ensures.line; column = c.located.ensures.column },
    )
