use Rattle.std.proofs.Common.{◌≡◌, ◌∙◌, ap, ◌<◌, ◌≤◌, ◌++◌, get_or, length, map, refl, List}
use Rattle.cse_lemmas.proofs.Lists.{drop_read}
use Rattle.cse_syntax_tree.specs.declared.tree.Procedure.{Procedure}
use Rattle.cse_syntax_tree.specs.Tree as syntax
use Rattle.cse_types.specs.PartFaults.{procedure_faults, procedures_faults}
use Rattle.cse_types.proofs.PartFoundLaws.{procedures_turn}
use Rattle.cse_types.proofs.owned.all_procedures.Goals as goal
use Rattle.cse_logic_faults.proofs.Lists.{found_end}

pub all-preserved : goal.all-preserved
all-preserved c =
    let items = c.args.all.now in
    let x = c.x-item.result in
    let lt : c.all.x-index < length items = c.all-test.true in
    let is : x ≡ get_or items c.all.x-index x = c.x-item.is in
    let e = c.in_ok-one.ensures in
    let own = e.found ∙ ap (λ z. c.all.found ++ procedure_faults c.args.counts.now z c.all.before (syntax.procedure x)) c.all.invariant.same in
    record {
      found = procedures_turn c.args.counts.now c.args.scope.now _ _ x (drop_read items c.all.x-index x lt is) _ _ _ _ _ c.all.invariant.found e.before own;
      same = e.same ∙ c.all.invariant.same;
    }

pub returns-clause-found : goal.returns-clause-found
returns-clause-found c =
    let items = c.args.all.now in
    let le : length items ≤ c.all.x-index = c.all-test.false in
    found_end (λ (xs : List Procedure). procedures_faults c.args.counts.now c.args.scope.now c.all.before (map syntax.procedure xs)) refl items c.all.x-index le _ _ c.all.invariant.found
