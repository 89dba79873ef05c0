-- The code of a tree that fits has at most 16 instructions a token.
use Rattle.std.proofs.Common.{◌≡◌, ◌≤◌, ℕ, suc, ◌+◌, ◌*◌, true, List, [], ◌∷◌, length, Some, refl, ap, arith}
use Rattle.std.specs.Prelude.{slice_get}
use Rattle.cse_image_parts.specs.Image.{ArrayLists}
use Rattle.cse_code_typing.specs.Signature.{is_record}
use Rattle.cse_logic_tree.specs.declared.tree.Found.TheVariants as h
use Rattle.cse_logic_tree.specs.declared.tree.Pick.{Pick}
use Rattle.cse_logic_tree.specs.Typed.{Number, Words, Numbers, Operations, Constant, Special', Variable', Item, ItemAt, Cell, Call, Group, Int, IsSpecial, Deck, TotOcc, MaxOcc, CurOcc, InSet, Minus, Not, Compare, CompareTexts, Chain}
use Rattle.cse_logic_tree.specs.Typed.{Quoted, TextGlobal, TextItem, TextItemAt, TextGroup, no_number, number_and, no_operation, operation_and}
use Rattle.cse_logic_tree.specs.Typed.{Which, Here, At, Argument, OfNumber, OfWords}
use Rattle.cse_logic_tree.specs.Erase.{erase, erase_words, erase_all, erase_operations, erase_which, erase_argument, erase_arguments}
use Rattle.cse_logic_tree.specs.Tokens.{expr_tokens, exprs_tokens, others_tokens, operations_tokens, subscripts_tokens}
use Rattle.cse_value.specs.Occurrences.{most_occurrences}
use Rattle.cse_compile.specs.Expressions.{deepest, picks_size, count, behind, number_size, words_size, numbers_size, indexes_size, operations_size}
use Rattle.cse_compile.specs.Statements.{which_size, drops_size, argument_size, arguments_size}
use Rattle.cse_compile.proofs.Small.{here_small, present_small, picks_small, deepest_small, deck_small, jump_small}
use Rattle.cse_meaning.specs.Fit.{Spot, ArePicks, IsDeck, NumberFits, WordsFit, NumbersFit, OperationsFit, WhichFits, ArgumentFits, ArgumentsFit, over}

-- arrays have at most three dimensions, and each record can have an occurrence
pub record IsSmall (s : Spot) : Type 0 where
  pub few : (a : ℕ) (y : ArrayLists) → slice_get s.scene.lists.arrays a ≡ Some y → length y.dimensions ≤ 3
  pub most : (of : ℕ) → is_record s.scene.shape of ≡ true → 1 ≤ most_occurrences s.setting.records of

pub small_over : (s : Spot) (of : ℕ) → IsSmall s → IsSmall (over s of)
small_over s of h = record { few = h.few; most = h.most }

-- ---- hot decks

pub picks_many : (s : Spot) (ds : List ℕ) (xs : List Pick) → ArePicks s ds xs → length xs ≡ length ds
picks_many s [] [] f = refl
picks_many s [] (x ∷ xs) f = absurd f
picks_many s (d ∷ ds) [] f = absurd f
picks_many s (d ∷ ds) (x ∷ xs) f = ap suc (picks_many s ds xs f.2)

pub few_picks : (s : Spot) (array : ℕ) (xs : List Pick) → IsSmall s → IsDeck s array xs → length xs ≤ 3
few_picks s array xs h f = let a = picks_many s f.0.dimensions xs f.2 in let b = h.few array f.0 f.1 in omega (arith, a, b)

-- ---- expressions

module _ (s : Spot) (m : IsSmall s) where
  mutual
    unfolding number_size words_size numbers_size indexes_size operations_size

    pub number_small : (x : Number) → NumberFits s x → number_size x ≤ 16 * expr_tokens (erase x)
    number_small (Constant digits value) f = omega arith
    number_small (Special' token value) f = omega arith
    number_small (Variable' name variable) f = omega arith
    number_small (Item name item) f = let a = present_small item in omega (arith, a)
    number_small (ItemAt name field x) f = let a = number_small x f.1 in omega (arith, a)
    number_small (Cell name array xs) f = let a = indexes_small xs f.1 in omega (arith, a)
    number_small (Call name function xs) f = let a = numbers_small xs f.1 in omega (arith, a)
    number_small (Group x) f = let a = number_small x f in omega (arith, a)
    number_small (Int x) f = let a = number_small x f in omega (arith, a)
    number_small (IsSpecial x) f = let a = number_small x f in omega (arith, a)
    number_small (Deck name array picks) f = let a = few_picks s array picks m f in let b = picks_small picks in let c = deck_small picks in omega (arith, a, b, c)
    number_small (TotOcc name of) f = omega arith
    number_small (MaxOcc name of) f = omega arith
    number_small (CurOcc name of found) f = let a = here_small found in omega (arith, a)
    number_small (InSet name item set_name set) f = let a = present_small item in omega (arith, a)
    number_small (Minus x) f = let a = number_small x f in omega (arith, a)
    number_small (Not x) f = let a = number_small x f in omega (arith, a)
    number_small (Compare relation x y) f = let a = number_small x f.0 in let b = number_small y f.1 in omega (arith, a, b)
    number_small (CompareTexts relation x y) f = let a = words_small x f.0 in let b = words_small y f.1 in omega (arith, a, b)
    number_small (Chain x xs) f = let a = number_small x f.0 in let b = operations_small xs f.1 in omega (arith, a, b)

    pub words_small : (x : Words) → WordsFit s x → words_size x ≤ 16 * expr_tokens (erase_words x)
    words_small (Quoted text) f = omega arith
    words_small (TextGlobal name variable) f = omega arith
    words_small (TextItem name item) f = let a = present_small item in omega (arith, a)
    words_small (TextItemAt name field x) f = let a = number_small x f.1 in omega (arith, a)
    words_small (TextGroup x) f = let a = words_small x f in omega (arith, a)

    pub numbers_small : (xs : Numbers) → NumbersFit s xs → numbers_size xs ≤ 16 * exprs_tokens (erase_all xs)
    numbers_small no_number f = omega arith
    numbers_small (number_and x xs) f = let a = number_small x f.0 in let b = numbers_more xs f.1 in omega (arith, a, b)

    numbers_more : (xs : Numbers) → NumbersFit s xs → numbers_size xs ≤ 16 * others_tokens (erase_all xs)
    numbers_more no_number f = omega arith
    numbers_more (number_and x xs) f = let a = number_small x f.0 in let b = numbers_more xs f.1 in omega (arith, a, b)

    -- with a drop for each index but one
    pub indexes_small : (xs : Numbers) → NumbersFit s xs → indexes_size xs + behind xs ≤ 16 * exprs_tokens (erase_all xs) + 1
    indexes_small no_number f = omega arith
    indexes_small (number_and x xs) f = let a = number_small x f.0 in let b = indexes_more xs f.1 in omega (arith, a, b)

    indexes_more : (xs : Numbers) → NumbersFit s xs → indexes_size xs + count xs ≤ 16 * others_tokens (erase_all xs)
    indexes_more no_number f = omega arith
    indexes_more (number_and x xs) f = let a = number_small x f.0 in let b = indexes_more xs f.1 in omega (arith, a, b)

    pub operations_small : (xs : Operations) → OperationsFit s xs → operations_size xs ≤ 16 * operations_tokens (erase_operations xs)
    operations_small no_operation f = omega arith
    operations_small (operation_and operator x xs) f = let a = number_small x f.0 in let b = operations_small xs f.1 in omega (arith, a, b)

  -- ---- parts of statements

  pub which_small : (of : ℕ) (x : Which) → WhichFits s of x → which_size x ≤ 16 * subscripts_tokens (erase_which x) + 2
  which_small of (Here h.Loop) f = omega arith
  which_small of (Here h.Event) f = omega arith
  which_small of (Here h.First) f = omega arith
  which_small of (At x) f = let a = number_small x f in omega (arith, a)

  argument_small : (x : Argument) → ArgumentFits s x → argument_size x ≤ 16 * expr_tokens (erase_argument x)
  argument_small (OfNumber x) f = number_small x f
  argument_small (OfWords x) f = words_small x f

  pub arguments_small : (xs : List Argument) → ArgumentsFit s xs → arguments_size xs ≤ 16 * others_tokens (erase_arguments xs)
  unfolding arguments_size
  arguments_small [] f = omega arith
  arguments_small (x ∷ xs) f = let a = argument_small x f.0 in let b = arguments_small xs f.1 in omega (arith, a, b)

  -- the indexes of a cell, and what drops them
  pub place_small : (xs : Numbers) → NumbersFit s xs → indexes_size xs + drops_size (behind xs) ≤ 16 * subscripts_tokens (erase_all xs) + 2
  unfolding indexes_size
  place_small no_number f = omega arith
  place_small (number_and x xs) f = let a = indexes_small (number_and x xs) f in let b = jump_small (count xs) in omega (arith, a, b)

  pub deck_place_small : (array : ℕ) (xs : List Pick) → IsDeck s array xs → picks_size xs + drops_size (deepest xs) ≤ 22
  deck_place_small array xs f = let a = few_picks s array xs m f in let b = picks_small xs in let c = deepest_small xs in let d = jump_small (deepest xs) in omega (arith, a, b, c, d)
