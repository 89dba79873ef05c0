use Rattle.std.proofs.Common.{◌≡◌, ◌+◌, drop, ◌∙◌, sym, subst, ◌≤◌, length, List}
use Rattle.cse_syntax_tree.specs.declared.tree.Lexeme.{Lexeme}
use Rattle.cse_types.specs.Fresh.{all_after}
use Rattle.cse_types.proofs.FreshLaws.{after_at, after_end}
use Rattle.cse_types.proofs.TableLaws.{with_written, written_after}
use Rattle.cse_types.proofs.table.globals.Goals as goal

pub all-preserved : goal.all-preserved
all-preserved c =
    let step = with_written c.args.dictionary.now c.args.is_text in
    let e = c.in_ok-global.ensures in
    let whole = c.deref-x-items.ensures.value in
    subst (λ (xs : List Lexeme). all_after step c.global.new.table (drop (c.all.x-index + 1) xs) ≡ all_after step c.args.table.now c.args.names.now.items) whole
    (after_at step c.deref-x-items.result.now c.all.x-index _ c.all.table c.global.new.table _ c.all-test.true
    (subst (λ (xs : List Lexeme). all_after step c.all.table (drop c.all.x-index xs) ≡ all_after step c.args.table.now c.args.names.now.items) (sym whole) c.all.invariant) e)

pub returns : goal.returns
returns c =
    let step = with_written c.args.dictionary.now c.args.is_text in
    let items = c.args.names.now.items in
    let le : length items ≤ c.all.x-index = subst (λ (xs : List Lexeme). length xs ≤ c.all.x-index) c.deref-x-items.ensures.value c.all-test.false in
    after_end step items c.all.x-index le c.all.table _ c.all.invariant ∙ written_after c.args.dictionary.now c.args.is_text c.args.table.now items
