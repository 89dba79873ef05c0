use Rattle.std.proofs.Common.{ap, ◌∙◌, length}
use Rattle.cse_syntax_tree.specs.Tree as syntax
use Rattle.cse_logic_tree.specs.declared.tree.Owner.{Owner}
use Rattle.cse_logic_names.specs.Walk.{joined}
use Rattle.cse_logic_names.specs.Scope.{Scope, in_dictionary}
use Rattle.cse_logic_names.specs.WellTyped.{owner_meant, procedure_scope}
use Rattle.cse_types.specs.JudgeTree.{body_judged, owned, procedure_of}
use Rattle.cse_types.proofs.ProcedureLaws.{owned_is}
use Rattle.cse_types.proofs.procedure.procedure.Goals as goal

pub returns-in-Ok-clause-value : goal.returns-in-Ok-clause-value
returns-in-Ok-clause-value c =
    let s = c.args.scope.now in
    let n = length c.args.told.now.items in
    let x = syntax.procedure c.args.x.now in
    c.owned.ensures
    ∙ ap (joined (procedure_of x.name) c.in_ok-owner.owner) c.in-Ok.ensures.value
    ∙ ap (λ (w : Owner). joined (procedure_of x.name) c.in_ok-owner.owner (body_judged (procedure_scope s w) n x.body)) c.unwrap_or.ensures
    ∙ owned_is s n x c.in_ok-owner.owner
    ∙ ap (owned s n x) (c.in_ok-owner.ensures ∙ ap (λ (z : Scope). owner_meant z.dictionary (in_dictionary z.dictionary x.name.text)) c.scope.view_is)
