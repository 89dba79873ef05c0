-- Which typed trees have small hot decks only: of three dimensions at most, as all arrays are.
use Rattle.std.specs.Prelude.{◌≤◌, List, [], ◌∷◌, length}
use Rattle.cse_logic_tree.specs.declared.tree.Pick.{Pick}
use Rattle.cse_logic_tree.specs.Typed.{Number, Words, Numbers, Operations, Constant, Special', Variable', Item, ItemAt, Cell, Call, Group, Int, IsSpecial, Deck, TotOcc, MaxOcc, CurOcc, InSet, Minus, Not, Compare, CompareTexts, Chain}
use Rattle.cse_logic_tree.specs.Typed.{Quoted, TextGlobal, TextItem, TextItemAt, TextGroup, no_number, number_and, no_operation, operation_and}
use Rattle.cse_logic_tree.specs.Typed.{Which, Here, At, Argument, OfNumber, OfWords, Statement, Statements, Arms}
use Rattle.cse_logic_tree.specs.Typed.{Empty, Set, SetText, SetItem, SetTextItem, SetCell, CallOf, If, For, Do, Jump', Impute, PutDeck, ErrMsg, no_statement, statement_and, no_arm, else_of, arm}

abbrev pub FewPicks : List Pick → Type 0
FewPicks picks = length picks ≤ 3

abbrev mutual
  pub NumberIsFew : Number → Type 0
  NumberIsFew (Constant digits value) = Unit {0}
  NumberIsFew (Special' token value) = Unit {0}
  NumberIsFew (Variable' name variable) = Unit {0}
  NumberIsFew (Item name item) = Unit {0}
  NumberIsFew (ItemAt name field place) = NumberIsFew place
  NumberIsFew (Cell name array xs) = NumbersAreFew xs
  NumberIsFew (Call name function xs) = NumbersAreFew xs
  NumberIsFew (Group x) = NumberIsFew x
  NumberIsFew (Int x) = NumberIsFew x
  NumberIsFew (IsSpecial x) = NumberIsFew x
  NumberIsFew (Deck name array picks) = FewPicks picks
  NumberIsFew (TotOcc name of) = Unit {0}
  NumberIsFew (MaxOcc name of) = Unit {0}
  NumberIsFew (CurOcc name of found) = Unit {0}
  NumberIsFew (InSet name item set_name set) = Unit {0}
  NumberIsFew (Minus x) = NumberIsFew x
  NumberIsFew (Not x) = NumberIsFew x
  NumberIsFew (Compare relation x y) = NumberIsFew x × NumberIsFew y
  NumberIsFew (CompareTexts relation x y) = WordsAreFew x × WordsAreFew y
  NumberIsFew (Chain x xs) = NumberIsFew x × OperationsAreFew xs

  pub WordsAreFew : Words → Type 0
  WordsAreFew (Quoted text) = Unit {0}
  WordsAreFew (TextGlobal name variable) = Unit {0}
  WordsAreFew (TextItem name item) = Unit {0}
  WordsAreFew (TextItemAt name field place) = NumberIsFew place
  WordsAreFew (TextGroup x) = WordsAreFew x

  pub NumbersAreFew : Numbers → Type 0
  NumbersAreFew no_number = Unit {0}
  NumbersAreFew (number_and x xs) = NumberIsFew x × NumbersAreFew xs

  pub OperationsAreFew : Operations → Type 0
  OperationsAreFew no_operation = Unit {0}
  OperationsAreFew (operation_and operator x xs) = NumberIsFew x × OperationsAreFew xs

abbrev pub WhichIsFew : Which → Type 0
WhichIsFew (Here found) = Unit {0}
WhichIsFew (At x) = NumberIsFew x

abbrev pub ArgumentIsFew : Argument → Type 0
ArgumentIsFew (OfNumber x) = NumberIsFew x
ArgumentIsFew (OfWords x) = WordsAreFew x

abbrev pub ArgumentsAreFew : List Argument → Type 0
ArgumentsAreFew [] = Unit {0}
ArgumentsAreFew (x ∷ xs) = ArgumentIsFew x × ArgumentsAreFew xs

abbrev mutual
  pub StatementIsFew : Statement → Type 0
  StatementIsFew Empty = Unit {0}
  StatementIsFew (Set name variable x) = NumberIsFew x
  StatementIsFew (SetText name variable x) = WordsAreFew x
  StatementIsFew (SetItem name field which x) = WhichIsFew which × NumberIsFew x
  StatementIsFew (SetTextItem name field which x) = WhichIsFew which × WordsAreFew x
  StatementIsFew (SetCell name array xs x) = NumbersAreFew xs × NumberIsFew x
  StatementIsFew (CallOf name function xs) = NumbersAreFew xs
  StatementIsFew (If condition body others) = NumberIsFew condition × BlockIsFew body × ArmsAreFew others
  StatementIsFew (For name variable record_name of body) = BlockIsFew body
  StatementIsFew (Do counting body) = BlockIsFew body
  StatementIsFew (Jump' token x) = Unit {0}
  StatementIsFew (Impute name field which x) = WhichIsFew which × NumberIsFew x
  StatementIsFew (PutDeck name array picks x) = FewPicks picks × NumberIsFew x
  StatementIsFew (ErrMsg message index xs summary) = ArgumentsAreFew xs

  pub BlockIsFew : Statements → Type 0
  BlockIsFew no_statement = Unit {0}
  BlockIsFew (statement_and x xs) = StatementIsFew x × BlockIsFew xs

  pub ArmsAreFew : Arms → Type 0
  ArmsAreFew no_arm = Unit {0}
  ArmsAreFew (else_of body) = BlockIsFew body
  ArmsAreFew (arm condition body others) = NumberIsFew condition × BlockIsFew body × ArmsAreFew others
