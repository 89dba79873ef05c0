-- Words for the clauses of what is emitted: the code of a part as a whole, and the place behind it.
use Rattle.std.specs.Prelude.{ℕ, ◌+◌, List, [], ◌∷◌, ◌++◌, map}
use Rattle.cse_image_parts.specs.declared.instruction.Op.{Op}
use Rattle.cse_image_parts.specs.declared.instruction.Op.TheVariants as ops
use Rattle.cse_logic_tree.specs.declared.tree.Field.{Field}
use Rattle.cse_logic_tree.specs.declared.tree.Number as rust
use Rattle.cse_logic_tree.specs.declared.tree.Pick.{Pick}
use Rattle.cse_logic_tree.specs.declared.tree.Variable.{Variable}
use Rattle.cse_logic_tree.specs.Typed.{Counting, Number, Numbers, Statements, Which, Words, number, numbers}
use Rattle.cse_compile.specs.Wide.{Wide, jump, jump_size, pops, undefined, with_c}
use Rattle.cse_compile.specs.Setting.{Setting}
use Rattle.cse_compile.specs.Expressions.{behind, deepest, guarded, indexes_code, indexes_size, number_code, number_size, picks_code, picks_size, words_code, words_size}
use Rattle.cse_compile.specs.Statements.{block_code, block_size, counted_code, drops_code, drops_size, head_size, loop_to, opener_at, over_code, turn_end_at, which_code, which_size}

-- the numbers of a list
abbrev pub all_numbers : List rust.Number → Numbers
all_numbers xs = numbers (map number xs)

-- what stands behind the indexes of a cell that is loaded: it is loaded, or what is left of the indexes is dropped
abbrev pub cell_tail : ℕ → ℕ → Numbers → List Wide
cell_tail array place subscripts = with_c ops.LoadCell array ∷ jump (place + (behind subscripts + 3)) ∷ (pops (behind subscripts) ++ undefined ∷ [])

-- a number, and an instruction that takes it, or another one where that finds nothing
abbrev pub guarded_code : Setting → ℕ → Number → Wide → Wide → ℕ → List Wide
guarded_code s place x taken none of = number_code s place x ++ guarded taken none of (place + number_size x)

-- the place behind the code of a cell that is loaded
abbrev pub cell_end : ℕ → Numbers → ℕ
cell_end place subscripts = place + (indexes_size subscripts + (behind subscripts + 3))

-- the code of a cell that is loaded
abbrev pub cell_code : Setting → ℕ → ℕ → Numbers → List Wide
cell_code s array place subscripts = indexes_code s array (place + indexes_size subscripts + 2) 0 place subscripts ++ (with_c ops.LoadCell array ∷ jump (place + indexes_size subscripts + (behind subscripts + 3)) ∷ (pops (behind subscripts) ++ undefined ∷ []))

-- a number that goes into an item of an occurrence, by this instruction
abbrev pub number_put_code : Setting → Field → Op → ℕ → Which → Number → List Wide
number_put_code s field op place at value = which_code s field.owner (place + (which_size at + (number_size value + 1))) place at ++ (number_code s (place + which_size at) value ++ with_c op field.item ∷ [])

-- a text that goes there
abbrev pub words_put_code : Setting → Field → ℕ → Which → Words → List Wide
words_put_code s field place at value = which_code s field.owner (place + (which_size at + (words_size value + 1))) place at ++ (words_code s (place + which_size at) value ++ with_c ops.StoreText field.item ∷ [])

-- the place behind the code of a number that goes into a cell
abbrev pub cell_kept_end : ℕ → Numbers → Number → ℕ
cell_kept_end place subscripts value = place + (indexes_size subscripts + (number_size value + (drops_size (behind subscripts) + 1)))

-- the code of a number that goes into a cell
abbrev pub cell_kept_code : Setting → ℕ → ℕ → Numbers → Number → List Wide
cell_kept_code s array place subscripts value = indexes_code s array (place + indexes_size subscripts + number_size value + 1 + jump_size (behind subscripts)) 0 place subscripts ++ (number_code s (place + indexes_size subscripts) value ++ (with_c ops.StoreCell array ∷ drops_code (place + indexes_size subscripts + number_size value + 1) (behind subscripts)))

-- the code of a number that goes into a hot deck
abbrev pub deck_kept_code : Setting → ℕ → ℕ → List Pick → Number → List Wide
deck_kept_code s array place picks value = picks_code (place + picks_size picks + number_size value + 1 + jump_size (deepest picks)) place picks ++ (number_code s (place + picks_size picks) value ++ (with_c ops.StoreCell array ∷ drops_code (place + picks_size picks + number_size value + 1) (deepest picks)))

-- the code of a loop over occurrences, with its body
abbrev pub for_code : Setting → ℕ → Variable → ℕ → Statements → List Wide
for_code s place variable of body = over_code s place variable of (block_size s body) (block_code s (loop_to (place + 4 + block_size s body) (place + 4 + block_size s body)) (place + 4) body)

-- the code of a counted loop, with its body
abbrev pub do_code : Setting → ℕ → Counting → Statements → List Wide
do_code s place head body = counted_code s place head (block_size s body) (block_code s (loop_to (turn_end_at s place head (block_size s body)) (turn_end_at s place head (block_size s body) + 4)) (opener_at s place head + 1) body)

-- the place behind it
abbrev pub do_end : Setting → ℕ → Counting → Statements → ℕ
do_end s place head body = place + (head_size s.records head + (block_size s body + 6))
