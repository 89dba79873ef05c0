use Rattle.std.proofs.Common.{◌≡◌, ◌+◌, drop, ◌∙◌, sym, subst, ◌≤◌, length, List}
use Rattle.cse_syntax_tree.specs.declared.tree.Parameter.{Parameter}
use Rattle.cse_types.specs.Fresh.{all_after, no_names}
use Rattle.cse_types.specs.Names.{is_new}
use Rattle.cse_types.proofs.FreshLaws.{with_parameter, parameters_after, parameter_at, after_end}
use Rattle.cse_types.proofs.parameters.parameters.Goals as goal

pub returns : goal.returns
returns c =
    let test = is_new c.args.scope.now.dictionary c.args.scope.now.declared in
    let items = c.args.all.now.items in
    let le : length items ≤ c.all.x-index = subst (λ (xs : List Parameter). length xs ≤ c.all.x-index) c.deref-x-items.ensures.value c.all-test.false in
    after_end (with_parameter test) items c.all.x-index le c.all.fresh _ c.all.invariant ∙ parameters_after test no_names items

pub all-preserved : goal.all-preserved
all-preserved c =
    let test = is_new c.args.scope.now.dictionary c.args.scope.now.declared in
    let e = c.in_ok-parameter.ensures in
    let whole = c.deref-x-items.ensures.value in
    subst (λ (xs : List Parameter). all_after (with_parameter test) c.parameter.new.fresh (drop (c.all.x-index + 1) xs) ≡ all_after (with_parameter test) no_names c.args.all.now.items) whole
    (parameter_at test c.deref-x-items.result.now c.all.x-index _ c.all.fresh c.parameter.new.fresh _ c.all-test.true
    (subst (λ (xs : List Parameter). all_after (with_parameter test) c.all.fresh (drop c.all.x-index xs) ≡ all_after (with_parameter test) no_names c.args.all.now.items) (sym whole) c.all.invariant) e)
