-- The laws for whole sources: how long the code is, and how many entries it names, by the tokens of the source.
use Rattle.std.specs.Prelude.{◌≤◌, ℕ, ◌*◌, List, [], ◌++◌, length, map, Option, Some, None}
use Rattle.std.specs.List.{flat_map, AllByRecursion}
use Rattle.cse_logic_tree.specs.Typed.{Declaration, Tree}
use Rattle.cse_logic_tree.specs.Erase.{erase_tree}
use Rattle.cse_logic_tree.specs.Tokens.{tree_tokens}
use Rattle.cse_compile.specs.Wide.{Wide}
use Rattle.cse_compile.specs.Setting.{Setting}
use Rattle.cse_compile.specs.Routines.{routine_code}
use Rattle.cse_compile.specs.Outline.{Outline, functions_in, handlers_in}
use Rattle.cse_meaning.specs.Few.{BlockIsFew}
use Rattle.cse_meaning.specs.Entries.{Table, entries}

-- how many tokens a source is written in
abbrev pub tokens_of : Tree → ℕ
tokens_of t = tree_tokens (erase_tree t)

abbrev pub declarations_in : Option (List Declaration) → List Declaration
declarations_in None = []
declarations_in (Some ds) = ds

-- the functions, and then the procedures' parts
abbrev pub outlines : Tree → List Outline
outlines t = functions_in (declarations_in t.globals) ++ map (λ x. x.outline) (handlers_in t.procedures)

-- the code of routines, whatever each depends on besides its tree
abbrev pub all_code : (Outline → Setting) → List Outline → List Wide
all_code settings xs = flat_map (λ x. routine_code (settings x) x.body) xs

-- no hot deck has more than three dimensions
abbrev pub AreFew : List Outline → Type 0
AreFew xs = AllByRecursion (λ (x : Outline). BlockIsFew x.body) xs

-- at most 16 instructions for each token
abbrev pub AllCodeIsShort : Type 0
AllCodeIsShort = (settings : Outline → Setting) (t : Tree) → AreFew (outlines t) → length (all_code settings (outlines t)) ≤ 16 * tokens_of t

-- at most as many constants, as many limits and as many texts as tokens
abbrev pub AllEntriesAreFew : Type 0
AllEntriesAreFew = (k : Table) (settings : Outline → Setting) (t : Tree) → AreFew (outlines t) → entries k (all_code settings (outlines t)) ≤ tokens_of t
