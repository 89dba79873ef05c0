use Rattle.std.proofs.Common.{◌≤◌, length, map, refl, subst, List}
use Rattle.cse_syntax_tree.specs.declared.tree.Lexeme.{Lexeme}
use Rattle.cse_syntax_tree.specs.Tree.{written}
use Rattle.cse_types.specs.NameFaults.{new_names_faults, and_names, kept_names}
use Rattle.cse_types.proofs.FoundNames.{names_turn, known_turn, state_end}
use Rattle.cse_types.proofs.new_names.new_names.Goals as goal
use Rattle.cse_logic_faults.proofs.Lists.{found_end}

pub all-preserved : goal.all-preserved
all-preserved c =
    let e = c.in_ok-new_name.ensures in
    let items = c.args.all.now.items in
    let copied = c.deref-x-items.result.now in
    let same = c.deref-x-items.ensures.value in
    record {
      found = names_turn c.args.dictionary.now c.args.others.now copied items same c.all.x-index _ c.all-test.true c.all.mine c.new_name.new.mine c.all.found c.new_name.new.found _ c.all.invariant.found e.mine e.found;
      mine = known_turn copied items same c.all.x-index _ c.all-test.true c.all.mine c.new_name.new.mine _ c.all.invariant.mine e.mine;
    }

pub returns-clause-found : goal.returns-clause-found
returns-clause-found c =
    let items = c.args.all.now.items in
    let le : length items ≤ c.all.x-index = subst (λ (xs : List Lexeme). length xs ≤ c.all.x-index) c.deref-x-items.ensures.value c.all-test.false in
    found_end (λ (xs : List Lexeme). new_names_faults c.args.dictionary.now c.all.mine c.args.others.now (map written xs)) refl items c.all.x-index le _ _ c.all.invariant.found

pub returns-clause-mine : goal.returns-clause-mine
returns-clause-mine c =
    let items = c.args.all.now.items in
    let le : length items ≤ c.all.x-index = subst (λ (xs : List Lexeme). length xs ≤ c.all.x-index) c.deref-x-items.ensures.value c.all-test.false in
    state_end (λ s (xs : List Lexeme). and_names s (kept_names (map written xs))) (λ s. refl) items c.all.x-index le _ _ c.all.invariant.mine
