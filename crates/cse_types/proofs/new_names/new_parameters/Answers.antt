use Rattle.std.proofs.Common.{◌≤◌, length, map, refl, subst, List}
use Rattle.cse_syntax_tree.specs.declared.tree.Parameter.{Parameter}
use Rattle.cse_syntax_tree.specs.Tree as syntax
use Rattle.cse_types.specs.NameFaults.{new_names_faults, and_names, kept_names, spelled}
use Rattle.cse_types.proofs.FoundNames.{parameters_turn, added_turn, state_end}
use Rattle.cse_types.proofs.new_names.new_parameters.Goals as goal
use Rattle.cse_logic_faults.proofs.Lists.{found_end}

pub all-preserved : goal.all-preserved
all-preserved c =
    let e = c.in_ok-new_parameter.ensures in
    let items = c.args.all.now.items in
    let copied = c.deref-x-items.result.now in
    let same = c.deref-x-items.ensures.value in
    record {
      found = parameters_turn c.args.dictionary.now c.args.names.now copied items same c.all.x-index _ c.all-test.true c.all.own c.new_parameter.new.own c.all.found c.new_parameter.new.found _ c.all.invariant.found e.own e.found;
      parameters = added_turn copied items same c.all.x-index _ c.all-test.true c.all.parameters c.new_parameter.new.parameters _ c.all.invariant.parameters e.parameters;
    }

pub returns-clause-found : goal.returns-clause-found
returns-clause-found c =
    let items = c.args.all.now.items in
    let le : length items ≤ c.all.x-index = subst (λ (xs : List Parameter). length xs ≤ c.all.x-index) c.deref-x-items.ensures.value c.all-test.false in
    found_end (λ (xs : List Parameter). new_names_faults c.args.dictionary.now c.all.own c.args.names.now (spelled (map syntax.parameter xs))) refl items c.all.x-index le _ _ c.all.invariant.found

pub returns-clause-parameters : goal.returns-clause-parameters
returns-clause-parameters c =
    let items = c.args.all.now.items in
    let le : length items ≤ c.all.x-index = subst (λ (xs : List Parameter). length xs ≤ c.all.x-index) c.deref-x-items.ensures.value c.all-test.false in
    state_end (λ s (xs : List Parameter). and_names s (kept_names (spelled (map syntax.parameter xs)))) (λ s. refl) items c.all.x-index le _ _ c.all.invariant.parameters
