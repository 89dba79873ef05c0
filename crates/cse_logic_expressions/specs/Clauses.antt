-- Words for the clauses: what is judged of names, places and lists as they were read.
use Rattle.std.specs.Prelude.{ℕ, false, List, map, slice_get, Option}
use Rattle.std.specs.Global.{Vec}
use Rattle.std.specs.Option.{option_map}
use Rattle.cse_value.specs.declared.shape.ItemKind.{ItemKind}
use Rattle.cse_syntax_tree.specs.declared.tree.Expression as rustexpression
use Rattle.cse_syntax_tree.specs.declared.tree.Lexeme.{Lexeme}
use Rattle.cse_syntax_tree.specs.declared.tree.Place.{Place}
use Rattle.cse_syntax_tree.specs.Tree.{Spelling, expr, exprs, written}
use Rattle.cse_logic_tree.specs.declared.tree.Number as rustnumber
use Rattle.cse_logic_tree.specs.declared.tree.Field.{Field}
use Rattle.cse_logic_tree.specs.Typed.{Number, Words, Numbers, Which, Statement, Cell, Call, SetCell, PutDeck, number, numbers}
use Rattle.cse_logic_names.specs.declared.meaning.Meaning.{Meaning}
use Rattle.cse_logic_names.specs.Scope.{Scope, meant, kind_and_owner}
use Rattle.cse_logic_names.specs.Walk.{joined, only_if}
use Rattle.cse_logic_names.specs.WellTyped.{dimensions_of, may_call}
use Rattle.cse_logic_expressions.specs.Judge.{Judged, AsNumber, as_number, expr_count, is_count, item_at_judged, judge, judge_all, picks_of}
use Rattle.cse_logic_expressions.specs.JudgeStatement.{as_words, place_at}

-- what is judged of a name, by what it is written and what it means
abbrev pub by_name : {X : Type 0} → (Scope → Spelling → Option Meaning → X) → Scope → Lexeme → X
by_name judged s name = judged s (written name) (meant s (written name))

-- of a name with a list behind it, by how many there are and what they are as numbers
abbrev pub by_name_with : {X : Type 0} → (Scope → Spelling → Option Meaning → ℕ → Option Numbers → X) → Scope → Lexeme → List rustexpression.Expression → X
by_name_with judged s name xs = judged s (written name) (meant s (written name)) (expr_count (exprs (map expr xs))) (judge_all s (exprs (map expr xs)))

-- of a place, which is a name with its subscripts
abbrev pub by_place : {X : Type 0} → (Scope → Spelling → Option Meaning → ℕ → Option Numbers → X) → Scope → Place → X
by_place judged s place = by_name_with judged s place.name place.subscripts.items

-- all of a list as numbers, if each is one and sound
abbrev pub all_judged : Scope → List rustexpression.Expression → Option Numbers
all_judged s xs = judge_all s (exprs (map expr xs))

-- the numbers that were made, if all were
abbrev pub numbers_made : Option (Vec rustnumber.Number) → Option Numbers
numbers_made made = option_map (λ v. numbers (map number v.items)) made

-- how many values stand in a list
abbrev pub value_count : List rustexpression.Expression → ℕ
value_count xs = expr_count (exprs (map expr xs))

-- what is judged of an expression that stands outside of `int`: all of it, and the number that it is
abbrev pub judged_alone : Scope → rustexpression.Expression → Judged
judged_alone s x = judge s false (expr x)

abbrev pub number_alone : Scope → rustexpression.Expression → Option Number
number_alone s x = as_number (judged_alone s x)

abbrev pub text_alone : Scope → rustexpression.Expression → Option Words
text_alone s x = as_words (judged_alone s x)

-- how many subscripts stand behind a place, and what they are as numbers
abbrev pub place_count : Place → ℕ
place_count place = value_count place.subscripts.items

abbrev pub place_judged : Scope → Place → Option Numbers
place_judged s place = all_judged s place.subscripts.items

-- of a place of an item, by the item's kind and its record
abbrev pub by_item : {X : Type 0} → (Scope → Spelling → ℕ → ℕ → Option (ItemKind × ℕ) → Option Numbers → X) → Scope → Place → ℕ → X
by_item judged s place item = judged s (written place.name) (place_count place) item (kind_and_owner s.dictionary item) (place_judged s place)

-- the place of an item of this record, and a statement that puts a value into it
abbrev pub item_place : Scope → Place → ℕ → ℕ → Option (Field × Which)
item_place s place item owner = place_at s (place_count place) item owner (place_judged s place)

abbrev pub into_item : {X : Type 0} → (Spelling → Field × Which → X → Statement) → Scope → Place → ℕ → ℕ → Option X → Option Statement
into_item put s place item owner value = joined (put (written place.name)) (item_place s place item owner) value

-- a statement that puts a value into a cell of an array, and into the hot deck that it is
abbrev pub into_cell : Scope → Place → ℕ → Option Number → Option Statement
into_cell s place array value = joined (SetCell (written place.name) array) (place_judged s place) value

abbrev pub into_deck : Scope → Lexeme → ℕ → Option Number → Option Statement
into_deck s name array value = joined (PutDeck (written name) array) (picks_of s (slice_get s.arrays array)) value

-- what a cell of an array and a call of a function are, and an item with subscripts
abbrev pub cell_judged : Scope → Lexeme → ℕ → List rustexpression.Expression → Judged
cell_judged s name array xs = AsNumber (only_if (is_count (value_count xs) (dimensions_of s array)) (option_map (Cell (written name) array) (all_judged s xs)))

abbrev pub call_judged : Scope → Lexeme → ℕ → List rustexpression.Expression → Judged
call_judged s name function xs = AsNumber (only_if (may_call s (value_count xs) (slice_get s.functions function)) (option_map (Call (written name) function) (all_judged s xs)))

abbrev pub item_judged_at : Scope → Lexeme → ℕ → List rustexpression.Expression → Judged
item_judged_at s name item xs = item_at_judged s (written name) item (kind_and_owner s.dictionary item) (all_judged s xs)
