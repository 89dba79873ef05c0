-- What numbers and texts of logic mean: a value, and what the calls in them left of case, store and reports.
use Rattle.std.specs.Prelude.{ℕ, pos, not, is_some, List, [], ◌∷◌, Option, Some, None}
use Rattle.std.specs.Option.{option_map}
use Rattle.std.specs.Str.{chars}
use Rattle.cse_value.specs.declared.number.Num.{Num}
use Rattle.cse_value.specs.declared.number.Num.TheVariants.{Whole, Undef}
use Rattle.cse_value.specs.Number.{holds, is_condition, negative_of}
use Rattle.cse_value.specs.Texts.{holds_of_order, text_order}
use Rattle.cse_value.specs.Occurrences.{most_occurrences}
use Rattle.cse_dict.specs.Dictionary.{shape_of}
use Rattle.cse_syntax_tree.specs.Leaf.{text_of}
use Rattle.std.specs.Option.{option_map_or}
use Rattle.cse_logic_tree.specs.Typed.{Number, Words, Numbers, Operations, Constant, Special', Variable', Item, ItemAt, Cell, Call, Group, Int, IsSpecial, Deck, TotOcc, MaxOcc, CurOcc, InSet, Minus, Not, Compare, CompareTexts, Chain}
use Rattle.cse_logic_tree.specs.Typed.{Quoted, TextGlobal, TextItem, TextItemAt, TextGroup, no_number, number_and, no_operation, operation_and}
use Rattle.cse_steps.specs.State.{World}
use Rattle.cse_meaning.specs.Setting.{Context, Locals, Valued, Functions}
use Rattle.cse_meaning.specs.Reading.{special, is_special, one_if, rel, operated, number_of_one, many, found, number_at, words_at, number_here, words_here, variable, text, sizes_of, first_size, other_sizes, cell, row, deck_place}

-- the value changed, and what was left kept
abbrev pub altered : {X Y : Type 0} → (X → Y) → Valued X → Valued Y
altered f r = (f r.0, r.1)

-- one, and then the other, by what the first one left
abbrev pub joined : {X Y Z : Type 0} → (X → Y → Z) → Valued X → (World → Valued Y) → Valued Z
joined f r go = altered (f r.0) (go r.1)

abbrev pub and_then : {X Y : Type 0} → Valued X → (X → World → Valued Y) → Valued Y
and_then r go = go r.0 r.1

abbrev pub consed : Num → List Num → List Num
consed x xs = x ∷ xs

-- on with the other indexes, unless this one isn't there: then nothing more is evaluated
abbrev pub index_and : Option ℕ → World → (World → Valued (Option (List ℕ))) → Valued (Option (List ℕ))
index_and None w go = (None, w)
index_and (Some i) w go = altered (option_map (λ is. i ∷ is)) (go w)

abbrev pub total : World → ℕ → Num
total w of = option_map_or (λ t. Whole (pos (many w of))) w.case Undef

abbrev pub most : Context → ℕ → ℕ
most c of = most_occurrences (shape_of c.dictionary).records of

unfoldable mutual
  pub number_of : Functions → Context → Number → Locals → World → Valued Num
  number_of fn c (Constant digits value) ls w = (Whole value, w)
  number_of fn c (Special' token value) ls w = (special value, w)
  number_of fn c (Variable' name x) ls w = (variable w ls x, w)
  number_of fn c (Item name item) ls w = (number_here c w item, w)
  number_of fn c (ItemAt name field x) ls w = and_then (number_of fn c x ls w) (λ n w. (number_at w field (number_of_one (many w field.owner) n), w))
  number_of fn c (Cell name array xs) ls w = and_then (indexes_of fn c (sizes_of c array) xs ls w) (λ is w. (cell c w array is, w))
  number_of fn c (Call name function xs) ls w = and_then (numbers_of fn c xs ls w) (fn function)
  number_of fn c (Group x) ls w = number_of fn c x ls w
  number_of fn c (Int x) ls w = number_of fn c x ls w
  number_of fn c (IsSpecial x) ls w = altered (λ n. one_if (is_special n)) (number_of fn c x ls w)
  number_of fn c (Deck name array picks) ls w = (cell c w array (deck_place c w array picks), w)
  number_of fn c (TotOcc name of) ls w = (total w of, w)
  number_of fn c (MaxOcc name of) ls w = (Whole (pos (most c of)), w)
  number_of fn c (CurOcc name of x) ls w = (option_map_or (λ o. Whole (pos o)) (found c w of x) Undef, w)
  number_of fn c (InSet name item set_name set) ls w = (one_if (is_some (row c set (number_here c w item))), w)
  number_of fn c (Minus x) ls w = altered negative_of (number_of fn c x ls w)
  number_of fn c (Not x) ls w = altered (λ n. one_if (not (is_condition n))) (number_of fn c x ls w)
  number_of fn c (Compare relation x y) ls w = joined (λ a b. one_if (holds (rel relation) a b)) (number_of fn c x ls w) (number_of fn c y ls)
  number_of fn c (CompareTexts relation x y) ls w = joined (λ a b. one_if (holds_of_order (rel relation) (text_order a b))) (words_of fn c x ls w) (words_of fn c y ls)
  number_of fn c (Chain x xs) ls w = and_then (number_of fn c x ls w) (chained fn c xs ls)

  pub words_of : Functions → Context → Words → Locals → World → Valued (List ℕ)
  words_of fn c (Quoted x) ls w = (chars (text_of x.text), w)
  words_of fn c (TextGlobal name g) ls w = (text w g, w)
  words_of fn c (TextItem name item) ls w = (words_here c w item, w)
  words_of fn c (TextItemAt name field x) ls w = and_then (number_of fn c x ls w) (λ n w. (words_at w field (number_of_one (many w field.owner) n), w))
  words_of fn c (TextGroup x) ls w = words_of fn c x ls w

  -- one after the other
  pub numbers_of : Functions → Context → Numbers → Locals → World → Valued (List Num)
  numbers_of fn c no_number ls w = ([], w)
  numbers_of fn c (number_and x xs) ls w = joined consed (number_of fn c x ls w) (numbers_of fn c xs ls)

  -- as indexes of an array of these sizes
  pub indexes_of : Functions → Context → List ℕ → Numbers → Locals → World → Valued (Option (List ℕ))
  indexes_of fn c sizes no_number ls w = (Some [], w)
  indexes_of fn c sizes (number_and x xs) ls w =
      and_then (number_of fn c x ls w) (λ n w. index_and (number_of_one (first_size sizes) n) w (indexes_of fn c (other_sizes sizes) xs ls))

  -- the operations on a number, from left to right; both operands are evaluated
  pub chained : Functions → Context → Operations → Locals → Num → World → Valued Num
  chained fn c no_operation ls n w = (n, w)
  chained fn c (operation_and operator x xs) ls n w = and_then (number_of fn c x ls w) (λ m. chained fn c xs ls (operated operator n m))
