-- What a statement puts into a case, a store and the reports.
use Rattle.std.specs.Prelude.{ℕ, List, slice_get, slice_set}
use Rattle.std.specs.Option.{option_map_or}
use Rattle.cse_value.specs.declared.number.Num.{Num}
use Rattle.cse_decks.specs.declared.global.GlobalValue.TheVariants as globals
use Rattle.cse_decks.specs.Store.{with_global, with_cell, rewritten}
use Rattle.cse_case.specs.Case as case
use Rattle.cse_logic_tree.specs.declared.tree.Variable.{Variable}
use Rattle.cse_logic_tree.specs.declared.tree.Variable.TheVariants as v
use Rattle.cse_logic_tree.specs.declared.tree.Field.{Field}
use Rattle.cse_steps.specs.State.{World, in_case, in_store, with_imputed}
use Rattle.cse_meaning.specs.Setting.{Context, Locals}
use Rattle.cse_meaning.specs.Reading.{place_in}

-- ---- variables

abbrev pub local_set : Variable → Num → Locals → Locals
local_set (v.Global g) x ls = ls
local_set (v.Parameter k) x ls = record ls { parameters = slice_set ls.parameters k x }
local_set v.Result x ls = record ls { result = x }

abbrev pub global_set : Variable → Num → World → World
global_set (v.Global g) x w = in_store w (with_global w.store g (globals.Number x))
global_set (v.Parameter k) x w = w
global_set v.Result x w = w

-- a text is cut or padded to the length of its variable
abbrev pub text_set : ℕ → List ℕ → World → World
text_set g t w = option_map_or (λ before. in_store w (with_global w.store g (rewritten t before))) (slice_get w.store.globals g) w

-- ---- items and cells

abbrev pub item_set : Field → ℕ → Num → World → World
item_set f o x w = option_map_or (λ t. in_case w (case.with_number t f.owner o f.item x)) w.case w

abbrev pub text_item_set : Field → ℕ → List ℕ → World → World
text_item_set f o x w = option_map_or (λ t. in_case w (case.with_text t f.owner o f.item x)) w.case w

-- assigned, and counted
abbrev pub imputed : Field → ℕ → Num → World → World
imputed f o x w = with_imputed (item_set f o x w) f.item x

abbrev pub cell_set : Context → ℕ → List ℕ → Num → World → World
cell_set c array indexes x w = in_store w (with_cell w.store array (place_in c array indexes) x)
