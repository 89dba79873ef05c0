-- How many values stand behind a name.
use Rattle.std.proofs.Common.{◌≡◌, ℕ, List, length, map, sym, ◌∙◌}
use Rattle.std.proofs.lemmas.List.{length-map}
use Rattle.cse_syntax_tree.specs.declared.tree.Expression.{Expression}
use Rattle.cse_syntax_tree.specs.Tree.{expr, exprs}
use Rattle.cse_logic_expressions.specs.Judge.{expr_count}
use Rattle.cse_logic_expressions.proofs.Expressions.{count_is}

pub values_count : (n : ℕ) (items : List Expression) → n ≡ length items → n ≡ expr_count (exprs (map expr items))
values_count n items e = e ∙ sym (count_is (map expr items) ∙ length-map items expr)
