use Rattle.std.proofs.Common.{ap, ◌∙◌, ◌++◌, length, map, List}
use Rattle.cse_syntax_tree.specs.Tree as syntax
use Rattle.cse_syntax_tree.specs.declared.tree.Procedure.{Procedure}
use Rattle.cse_types.specs.JudgeTree.{procedures_judged}
use Rattle.cse_types.specs.Told.{told_of}
use Rattle.cse_logic_names.specs.WellTyped.{procedure_messages}
use Rattle.cse_types.proofs.PartLaws.{parts_value}
use Rattle.cse_types.proofs.parts.all_parts.Goals as goal

pub returns-clause-value : goal.returns-clause-value
returns-clause-value c =
    let e = c.in-Ok.ensures in
    let n = length c.globals.new.told.items in
    c.parts_of.ensures ∙ parts_value c.args.scope.now c.globals.new.scope (syntax.tree c.args.tree.now) c.globals.new.told.items e.behind e.told _ _ e.value
    (c.in-Ok-procedures.ensures.value ∙ ap (λ (ps : List Procedure). procedures_judged c.globals.new.scope n (map syntax.procedure ps)) c.procedures_in-all.ensures)

pub returns-clause-told : goal.returns-clause-told
returns-clause-told c =
    c.in-Ok-procedures.ensures.told
    ∙ ap (λ (ps : List Procedure). map told_of c.globals.new.told.items ++ procedure_messages (map syntax.procedure ps)) c.procedures_in-all.ensures
    ∙ ap (λ ms. ms ++ procedure_messages (map syntax.procedure c.args.tree.now.procedures.items)) c.in-Ok.ensures.told
