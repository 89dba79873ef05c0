-- The code of expressions, and the stacks beside it, are as long as their size.
use Rattle.std.proofs.Common.{◌≡◌, ℕ, ◌+◌, Bool, true, false, List, [], ◌∷◌, ◌++◌, length, refl, arith, length-append}
use Rattle.std.specs.Prelude.{if◌then◌else◌}
use Rattle.std.proofs.lemmas.List.{length-replicate}
use Rattle.cse_code_typing.specs.declared.kind.Kind.{Kind}
use Rattle.cse_code_typing.specs.declared.kind.Kind.TheVariants as k
use Rattle.cse_logic_tree.specs.declared.tree.Found.{Found}
use Rattle.cse_logic_tree.specs.declared.tree.Found.TheVariants as h
use Rattle.cse_logic_tree.specs.declared.tree.Present.{Present}
use Rattle.cse_logic_tree.specs.declared.tree.Present.TheVariants as p
use Rattle.cse_logic_tree.specs.declared.tree.Pick.{Pick}
use Rattle.cse_logic_tree.specs.Typed.{Number, Words, Numbers, Operations, Constant, Special', Variable', Item, ItemAt, Cell, Call, Group, Int, IsSpecial, Deck, TotOcc, MaxOcc, CurOcc, InSet, Minus, Not, Compare, CompareTexts, Chain}
use Rattle.cse_logic_tree.specs.Typed.{Quoted, TextGlobal, TextItem, TextItemAt, TextGroup, no_number, number_and, no_operation, operation_and}
use Rattle.cse_image_parts.specs.declared.instruction.Op.TheVariants as ops
use Rattle.cse_compile.specs.Wide.{Wide, pops, undefined, with_c, jump}
use Rattle.cse_compile.specs.Setting.{Setting}
use Rattle.cse_compile.specs.Expressions.{here_code, here_size, present_size, number_of_item, text_of_item, can_fail, deepest, row, picks_size, picks_code, deck_size, deck_code, count, behind, number_size, words_size, numbers_size, indexes_size, operations_size, number_code, words_code, numbers_code, indexes_code, operations_code}
use Rattle.cse_meaning.specs.Fit.{Spot}
use Rattle.cse_meaning.proofs.WideRule.{Stack}
use Rattle.cse_meaning.proofs.Stacks.{here_stacks, present_stacks, pick_index, picks_stacks, picks_after, picks_left, deck_stacks, indexes_after, cell_index, left_behind, indexes_left, number_stacks, words_stacks, numbers_stacks, indexes_stacks, operations_stacks}

pub two : {A : Type 0} (a b : List A) (m n : ℕ) → length a ≡ m → length b ≡ n → length (a ++ b) ≡ m + n
two a b m n e f = omega (arith, length-append a b, e, f)

-- with one more in front of the second
pub three : {A : Type 0} (a b : List A) (x : A) (m n : ℕ) → length a ≡ m → length b ≡ n → length (a ++ (x ∷ b)) ≡ m + (n + 1)
three a b x m n e f = omega (arith, length-append a (x ∷ b), e, f)

if_length : {A : Type 0} (b : Bool) (x y : List A) (m n : ℕ) → length x ≡ m → length y ≡ n → length (if b then x else y) ≡ (if b then m else n)
if_length true x y m n e f = e
if_length false x y m n e f = f

-- ---- of code

here_length : (taken none : Wide) (of q : ℕ) (found : Found) → length (here_code taken none of q found) ≡ here_size found
here_length taken none of q h.Loop = refl
here_length taken none of q h.Event = refl
here_length taken none of q h.First = refl

pub item_length : (q : ℕ) (x : Present) → length (number_of_item q x) ≡ present_size x
item_length q (p.Id item) = refl
item_length q (p.Here field found) = here_length _ _ _ q found

pub text_item_length : (q : ℕ) (x : Present) → length (text_of_item q x) ≡ present_size x
text_item_length q (p.Id item) = refl
text_item_length q (p.Here field found) = here_length _ _ _ q found

pub pops_length : (n : ℕ) → length (pops n) ≡ n
pops_length n = length-replicate n _

pub picks_length : (drops q : ℕ) (xs : List Pick) → length (picks_code drops q xs) ≡ picks_size xs
picks_length drops q [] = refl
picks_length drops q (x ∷ xs) =
    let e = three (number_of_item q x.item) (picks_code drops (q + present_size x.item + 1) xs) (row x (drops + deepest (x ∷ xs))) _ _ (item_length q x.item) (picks_length drops (q + present_size x.item + 1) xs) in
    omega (arith, e)

tail_length : (a b : Wide) (n : ℕ) → length (a ∷ b ∷ (pops n ++ undefined ∷ [])) ≡ n + 3
tail_length a b n = let e = two (pops n) (undefined ∷ []) n 1 (pops_length n) refl in omega (arith, e)

pub deck_length : (array q : ℕ) (xs : List Pick) → length (deck_code array q xs) ≡ deck_size xs
deck_length array q xs = if_length (can_fail xs) (with_c ops.LoadCell array ∷ jump (q + deepest xs + 3) ∷ (pops (deepest xs) ++ undefined ∷ [])) (with_c ops.LoadCell array ∷ []) (deepest xs + 3) 1 (tail_length (with_c ops.LoadCell array) (jump (q + deepest xs + 3)) (deepest xs)) refl

mutual
  unfolding number_size words_size numbers_size indexes_size operations_size number_code words_code numbers_code indexes_code operations_code

  pub number_length : (s : Setting) (q : ℕ) (x : Number) → length (number_code s q x) ≡ number_size x
  number_length s q (Constant digits value) = refl
  number_length s q (Special' token value) = refl
  number_length s q (Variable' name variable) = refl
  number_length s q (Item name item) = item_length q item
  number_length s q (ItemAt name field x) = two _ _ _ 4 (number_length s q x) refl
  number_length s q (Cell name array xs) = two _ _ _ _ (indexes_length s array (q + indexes_size xs + 2) 0 q xs) (tail_length (with_c ops.LoadCell array) (jump (q + indexes_size xs + (behind xs + 3))) (behind xs))
  number_length s q (Call name function xs) = two _ _ _ 1 (numbers_length s q xs) refl
  number_length s q (Group x) = number_length s q x
  number_length s q (Int x) = number_length s q x
  number_length s q (IsSpecial x) = two _ _ _ 1 (number_length s q x) refl
  number_length s q (Deck name array picks) = two _ _ _ _ (picks_length (q + picks_size picks + 2) q picks) (deck_length array (q + picks_size picks) picks)
  number_length s q (TotOcc name of) = refl
  number_length s q (MaxOcc name of) = refl
  number_length s q (CurOcc name of found) = here_length _ _ _ q found
  number_length s q (InSet name item set_name set) = two _ _ _ 1 (item_length q item) refl
  number_length s q (Minus x) = two _ _ _ 1 (number_length s q x) refl
  number_length s q (Not x) = two _ _ _ 1 (number_length s q x) refl
  number_length s q (Compare relation x y) = two _ _ _ _ (number_length s q x) (two _ _ _ 1 (number_length s (q + number_size x) y) refl)
  number_length s q (CompareTexts relation x y) = two _ _ _ _ (words_length s q x) (two _ _ _ 1 (words_length s (q + words_size x) y) refl)
  number_length s q (Chain x xs) = two _ _ _ _ (number_length s q x) (operations_length s (q + number_size x) xs)

  pub words_length : (s : Setting) (q : ℕ) (x : Words) → length (words_code s q x) ≡ words_size x
  words_length s q (Quoted text) = refl
  words_length s q (TextGlobal name variable) = refl
  words_length s q (TextItem name item) = text_item_length q item
  words_length s q (TextItemAt name field x) = two _ _ _ 4 (number_length s q x) refl
  words_length s q (TextGroup x) = words_length s q x

  pub numbers_length : (s : Setting) (q : ℕ) (xs : Numbers) → length (numbers_code s q xs) ≡ numbers_size xs
  numbers_length s q no_number = refl
  numbers_length s q (number_and x xs) = two _ _ _ _ (number_length s q x) (numbers_length s (q + number_size x) xs)

  pub indexes_length : (s : Setting) (array drops j q : ℕ) (xs : Numbers) → length (indexes_code s array drops j q xs) ≡ indexes_size xs
  indexes_length s array drops j q no_number = refl
  indexes_length s array drops j q (number_and x xs) = three _ _ _ _ _ (number_length s q x) (indexes_length s array drops (j + 1) (q + number_size x + 1) xs)

  pub operations_length : (s : Setting) (q : ℕ) (xs : Operations) → length (operations_code s q xs) ≡ operations_size xs
  operations_length s q no_operation = refl
  operations_length s q (operation_and operator x xs) = three _ _ _ _ _ (number_length s q x) (operations_length s (q + number_size x + 1) xs)

-- ---- of stacks

here_stacks_length : (st : Stack) (kind : Kind) (of : ℕ) (found : Found) → length (here_stacks st kind of found) ≡ here_size found
here_stacks_length st kind of h.Loop = refl
here_stacks_length st kind of h.Event = refl
here_stacks_length st kind of h.First = refl

pub present_stacks_length : (st : Stack) (kind : Kind) (x : Present) → length (present_stacks st kind x) ≡ present_size x
present_stacks_length st kind (p.Id item) = refl
present_stacks_length st kind (p.Here field found) = here_stacks_length st kind field.owner found

pub picks_stacks_length : (s : Spot) (st : Stack) (xs : List Pick) → length (picks_stacks s st xs) ≡ picks_size xs
picks_stacks_length s st [] = refl
picks_stacks_length s st (x ∷ xs) =
    let e = three (present_stacks st k.Number x.item) (picks_stacks s (pick_index s x ∷ st) xs) (k.Number ∷ st) _ _ (present_stacks_length st k.Number x.item) (picks_stacks_length s (pick_index s x ∷ st) xs) in
    omega (arith, e)

pub picks_left_length : (s : Spot) (st : Stack) (xs : List Pick) → length (picks_left s st xs) ≡ deepest xs
picks_left_length s st [] = refl
picks_left_length s st (x ∷ xs) = if_length (can_fail xs) _ _ _ _ (two _ _ _ 1 (picks_left_length s (pick_index s x ∷ st) xs) refl) refl

left_length : (a b c : Stack) (l : List Stack) (n : ℕ) → length l ≡ n → length (a ∷ b ∷ (l ++ c ∷ [])) ≡ n + 3
left_length a b c l n h = let e = two l (c ∷ []) n 1 h refl in omega (arith, e)

pub deck_stacks_length : (s : Spot) (st : Stack) (xs : List Pick) → length (deck_stacks s st xs) ≡ deck_size xs
deck_stacks_length s st xs = if_length (can_fail xs) (picks_after s st xs ∷ (k.Number ∷ st) ∷ (picks_left s st xs ++ st ∷ [])) (picks_after s st xs ∷ []) (deepest xs + 3) 1 (left_length (picks_after s st xs) (k.Number ∷ st) st (picks_left s st xs) (deepest xs) (picks_left_length s st xs)) refl

pub left_behind_length : (s : Spot) (array j : ℕ) (st : Stack) (xs : Numbers) → length (left_behind s array j st xs) ≡ count xs
left_behind_length s array j st no_number = refl
left_behind_length s array j st (number_and x xs) = two _ _ _ 1 (left_behind_length s array (j + 1) (cell_index s array j ∷ st) xs) refl

pub indexes_left_length : (s : Spot) (array j : ℕ) (st : Stack) (xs : Numbers) → length (indexes_left s array j st xs) ≡ behind xs
indexes_left_length s array j st no_number = refl
indexes_left_length s array j st (number_and x xs) = left_behind_length s array j st xs

mutual
  unfolding number_size words_size numbers_size indexes_size operations_size number_stacks words_stacks numbers_stacks indexes_stacks operations_stacks

  pub number_stacks_length : (s : Spot) (st : Stack) (x : Number) → length (number_stacks s st x) ≡ number_size x
  number_stacks_length s st (Constant digits value) = refl
  number_stacks_length s st (Special' token value) = refl
  number_stacks_length s st (Variable' name variable) = refl
  number_stacks_length s st (Item name item) = present_stacks_length st k.Number item
  number_stacks_length s st (ItemAt name field x) = two _ _ _ 4 (number_stacks_length s st x) refl
  number_stacks_length s st (Cell name array xs) = two _ _ _ _ (indexes_stacks_length s array 0 st xs) (left_length (indexes_after s array 0 st xs) (k.Number ∷ st) st (indexes_left s array 0 st xs) (behind xs) (indexes_left_length s array 0 st xs))
  number_stacks_length s st (Call name function xs) = two _ _ _ 1 (numbers_stacks_length s st xs) refl
  number_stacks_length s st (Group x) = number_stacks_length s st x
  number_stacks_length s st (Int x) = number_stacks_length s st x
  number_stacks_length s st (IsSpecial x) = two _ _ _ 1 (number_stacks_length s st x) refl
  number_stacks_length s st (Deck name array picks) = two _ _ _ _ (picks_stacks_length s st picks) (deck_stacks_length s st picks)
  number_stacks_length s st (TotOcc name of) = refl
  number_stacks_length s st (MaxOcc name of) = refl
  number_stacks_length s st (CurOcc name of found) = here_stacks_length st k.Number of found
  number_stacks_length s st (InSet name item set_name set) = two _ _ _ 1 (present_stacks_length st k.Number item) refl
  number_stacks_length s st (Minus x) = two _ _ _ 1 (number_stacks_length s st x) refl
  number_stacks_length s st (Not x) = two _ _ _ 1 (number_stacks_length s st x) refl
  number_stacks_length s st (Compare relation x y) = two _ _ _ _ (number_stacks_length s st x) (two _ _ _ 1 (number_stacks_length s (k.Number ∷ st) y) refl)
  number_stacks_length s st (CompareTexts relation x y) = two _ _ _ _ (words_stacks_length s st x) (two _ _ _ 1 (words_stacks_length s (k.Text ∷ st) y) refl)
  number_stacks_length s st (Chain x xs) = two _ _ _ _ (number_stacks_length s st x) (operations_stacks_length s st xs)

  pub words_stacks_length : (s : Spot) (st : Stack) (x : Words) → length (words_stacks s st x) ≡ words_size x
  words_stacks_length s st (Quoted text) = refl
  words_stacks_length s st (TextGlobal name variable) = refl
  words_stacks_length s st (TextItem name item) = present_stacks_length st k.Text item
  words_stacks_length s st (TextItemAt name field x) = two _ _ _ 4 (number_stacks_length s st x) refl
  words_stacks_length s st (TextGroup x) = words_stacks_length s st x

  pub numbers_stacks_length : (s : Spot) (st : Stack) (xs : Numbers) → length (numbers_stacks s st xs) ≡ numbers_size xs
  numbers_stacks_length s st no_number = refl
  numbers_stacks_length s st (number_and x xs) = two _ _ _ _ (number_stacks_length s st x) (numbers_stacks_length s (k.Number ∷ st) xs)

  pub indexes_stacks_length : (s : Spot) (array j : ℕ) (st : Stack) (xs : Numbers) → length (indexes_stacks s array j st xs) ≡ indexes_size xs
  indexes_stacks_length s array j st no_number = refl
  indexes_stacks_length s array j st (number_and x xs) = three _ _ _ _ _ (number_stacks_length s st x) (indexes_stacks_length s array (j + 1) (cell_index s array j ∷ st) xs)

  pub operations_stacks_length : (s : Spot) (st : Stack) (xs : Operations) → length (operations_stacks s st xs) ≡ operations_size xs
  operations_stacks_length s st no_operation = refl
  operations_stacks_length s st (operation_and operator x xs) = three _ _ _ _ _ (number_stacks_length s (k.Number ∷ st) x) (operations_stacks_length s st xs)
