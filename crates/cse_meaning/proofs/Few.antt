-- Statements that fit tables of small arrays have small hot decks.
use Rattle.std.proofs.Common.{◌≡◌, ◌≤◌, ℕ, Bool, true, List, [], ◌∷◌, length, Some, arith}
use Rattle.std.specs.Prelude.{slice_get}
use Rattle.cse_logic_tree.specs.declared.tree.Pick.{Pick}
use Rattle.cse_logic_tree.specs.Typed.{Number, Words, Numbers, Operations, Constant, Special', Variable', Item, ItemAt, Cell, Call, Group, Int, IsSpecial, Deck, TotOcc, MaxOcc, CurOcc, InSet, Minus, Not, Compare, CompareTexts, Chain}
use Rattle.cse_logic_tree.specs.Typed.{Quoted, TextGlobal, TextItem, TextItemAt, TextGroup, no_number, number_and, no_operation, operation_and}
use Rattle.cse_logic_tree.specs.Typed.{Which, Here, At, Argument, OfNumber, OfWords, Statement, Statements, Arms}
use Rattle.cse_logic_tree.specs.Typed.{Empty, Set, SetText, SetItem, SetTextItem, SetCell, CallOf, If, For, Do, Jump', Impute, PutDeck, ErrMsg, no_statement, statement_and, no_arm, else_of, arm}
use Rattle.cse_image_parts.specs.Image.{ArrayLists}
use Rattle.cse_code_typing.specs.Signature.{Scene}
use Rattle.cse_meaning.specs.Fit.{Spot, IsDeck, over, NumberFits, WordsFit, NumbersFit, OperationsFit, WhichFits, ArgumentFits, ArgumentsFit, StatementFits, BlockFits, ArmsFit}
use Rattle.cse_meaning.proofs.Standing.{inside}
use Rattle.cse_meaning.specs.Few.{NumberIsFew, WordsAreFew, NumbersAreFew, OperationsAreFew, WhichIsFew, ArgumentIsFew, ArgumentsAreFew, StatementIsFew, BlockIsFew, ArmsAreFew}
use Rattle.cse_meaning.proofs.SoundSizes.{picks_many}

-- no array has more than three dimensions
abbrev pub AreFlat : Scene → Type 0
AreFlat sc = (a : ℕ) (y : ArrayLists) → slice_get sc.lists.arrays a ≡ Some y → length y.dimensions ≤ 3

module _ (s : Spot) (m : AreFlat s.scene) where
  few_picks : (array : ℕ) (xs : List Pick) → IsDeck s array xs → length xs ≤ 3
  few_picks array xs f = let a = picks_many s f.0.dimensions xs f.2 in let b = m array f.0 f.1 in omega (arith, a, b)

  mutual
    number_few : (x : Number) → NumberFits s x → NumberIsFew x
    number_few (Constant digits value) f = tt
    number_few (Special' token value) f = tt
    number_few (Variable' name variable) f = tt
    number_few (Item name item) f = tt
    number_few (ItemAt name field x) f = number_few x f.1
    number_few (Cell name array xs) f = numbers_few xs f.1
    number_few (Call name function xs) f = numbers_few xs f.1
    number_few (Group x) f = number_few x f
    number_few (Int x) f = number_few x f
    number_few (IsSpecial x) f = number_few x f
    number_few (Deck name array picks) f = few_picks array picks f
    number_few (TotOcc name of) f = tt
    number_few (MaxOcc name of) f = tt
    number_few (CurOcc name of found) f = tt
    number_few (InSet name item set_name set) f = tt
    number_few (Minus x) f = number_few x f
    number_few (Not x) f = number_few x f
    number_few (Compare relation x y) f = (number_few x f.0, number_few y f.1)
    number_few (CompareTexts relation x y) f = (words_few x f.0, words_few y f.1)
    number_few (Chain x xs) f = (number_few x f.0, operations_few xs f.1)

    words_few : (x : Words) → WordsFit s x → WordsAreFew x
    words_few (Quoted text) f = tt
    words_few (TextGlobal name variable) f = tt
    words_few (TextItem name item) f = tt
    words_few (TextItemAt name field x) f = number_few x f.1
    words_few (TextGroup x) f = words_few x f

    numbers_few : (xs : Numbers) → NumbersFit s xs → NumbersAreFew xs
    numbers_few no_number f = tt
    numbers_few (number_and x xs) f = (number_few x f.0, numbers_few xs f.1)

    operations_few : (xs : Operations) → OperationsFit s xs → OperationsAreFew xs
    operations_few no_operation f = tt
    operations_few (operation_and operator x xs) f = (number_few x f.0, operations_few xs f.1)

  which_few : (of : ℕ) (x : Which) → WhichFits s of x → WhichIsFew x
  which_few of (Here found) f = tt
  which_few of (At x) f = number_few x f

  argument_few : (x : Argument) → ArgumentFits s x → ArgumentIsFew x
  argument_few (OfNumber x) f = number_few x f
  argument_few (OfWords x) f = words_few x f

  arguments_few : (xs : List Argument) → ArgumentsFit s xs → ArgumentsAreFew xs
  arguments_few [] f = tt
  arguments_few (x ∷ xs) f = (argument_few x f.0, arguments_few xs f.1)

mutual
  statement_few : (s : Spot) (room : ℕ) (b : Bool) (x : Statement) → AreFlat s.scene → StatementFits s room b x → StatementIsFew x
  statement_few s room b Empty m f = tt
  statement_few s room b (Set name variable x) m f = number_few s m x f.1
  statement_few s room b (SetText name variable x) m f = words_few s m x f.1
  statement_few s room b (SetItem name field which x) m f = (which_few s m field.owner which f.1, number_few s m x f.2)
  statement_few s room b (SetTextItem name field which x) m f = (which_few s m field.owner which f.1, words_few s m x f.2)
  statement_few s room b (SetCell name array xs x) m f = (numbers_few s m xs f.1, number_few s m x f.2)
  statement_few s room b (CallOf name function xs) m f = numbers_few s m xs f.1
  statement_few s room b (If condition body others) m f = (number_few s m condition f.0, block_few s room b body m f.1, arms_few s room b others m f.2)
  statement_few s room b (For name variable record_name of body) m f = let r = inside room (λ n. BlockFits (over s of) n true body) f.2 in block_few (over s of) r.0 true body m r.1
  statement_few s room b (Do counting body) m f = let r = inside room (λ n. BlockFits s n true body) f.1 in block_few s r.0 true body m r.1
  statement_few s room b (Jump' token x) m f = tt
  statement_few s room b (Impute name field which x) m f = (which_few s m field.owner which f.1, number_few s m x f.2)
  statement_few s room b (PutDeck name array picks x) m f = (few_picks s m array picks f.0, number_few s m x f.1)
  statement_few s room b (ErrMsg message index xs summary) m f = arguments_few s m xs f.1

  pub block_few : (s : Spot) (room : ℕ) (b : Bool) (xs : Statements) → AreFlat s.scene → BlockFits s room b xs → BlockIsFew xs
  block_few s room b no_statement m f = tt
  block_few s room b (statement_and x xs) m f = (statement_few s room b x m f.0, block_few s room b xs m f.1)

  arms_few : (s : Spot) (room : ℕ) (b : Bool) (xs : Arms) → AreFlat s.scene → ArmsFit s room b xs → ArmsAreFew xs
  arms_few s room b no_arm m f = tt
  arms_few s room b (else_of body) m f = block_few s room b body m f
  arms_few s room b (arm condition body others) m f = (number_few s m condition f.0, block_few s room b body m f.1, arms_few s room b others m f.2)
