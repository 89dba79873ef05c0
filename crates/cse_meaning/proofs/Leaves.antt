-- Which trees have numbers of 64 bits alone, and texts that an image may have.
use Rattle.std.specs.Prelude.{List, [], ◌∷◌, FitsSigned}
use Rattle.std.specs.Int.{w64}
use Rattle.cse_image.specs.Spelling.{TextFits}
use Rattle.cse_syntax_tree.specs.Leaf.{text_of}
use Rattle.cse_syntax_tree.specs.Tree as syntax
use Rattle.cse_logic_tree.specs.Typed.{Number, Words, Numbers, Operations, Constant, Special', Variable', Item, ItemAt, Cell, Call, Group, Int, IsSpecial, Deck, TotOcc, MaxOcc, CurOcc, InSet, Minus, Not, Compare, CompareTexts, Chain}
use Rattle.cse_logic_tree.specs.Typed.{Quoted, TextGlobal, TextItem, TextItemAt, TextGroup, no_number, number_and, no_operation, operation_and}
use Rattle.cse_logic_tree.specs.Typed.{Which, Here, At, Argument, OfNumber, OfWords, Limit, Fixed, Counted, Counting, Statement, Statements, Arms}
use Rattle.cse_logic_tree.specs.Typed.{Empty, Set, SetText, SetItem, SetTextItem, SetCell, CallOf, If, For, Do, Jump', Impute, PutDeck, ErrMsg, no_statement, statement_and, no_arm, else_of, arm}

abbrev mutual
  pub NumberHolds : Number → Type 0
  NumberHolds (Constant digits value) = FitsSigned w64 value
  NumberHolds (Special' token value) = Unit {0}
  NumberHolds (Variable' name variable) = Unit {0}
  NumberHolds (Item name item) = Unit {0}
  NumberHolds (ItemAt name field place) = NumberHolds place
  NumberHolds (Cell name array xs) = NumbersHold xs
  NumberHolds (Call name function xs) = NumbersHold xs
  NumberHolds (Group x) = NumberHolds x
  NumberHolds (Int x) = NumberHolds x
  NumberHolds (IsSpecial x) = NumberHolds x
  NumberHolds (Deck name array picks) = Unit {0}
  NumberHolds (TotOcc name of) = Unit {0}
  NumberHolds (MaxOcc name of) = Unit {0}
  NumberHolds (CurOcc name of found) = Unit {0}
  NumberHolds (InSet name item set_name set) = Unit {0}
  NumberHolds (Minus x) = NumberHolds x
  NumberHolds (Not x) = NumberHolds x
  NumberHolds (Compare relation x y) = NumberHolds x × NumberHolds y
  NumberHolds (CompareTexts relation x y) = WordsHold x × WordsHold y
  NumberHolds (Chain x xs) = NumberHolds x × OperationsHold xs

  pub WordsHold : Words → Type 0
  WordsHold (Quoted text) = TextFits (text_of text.text)
  WordsHold (TextGlobal name variable) = Unit {0}
  WordsHold (TextItem name item) = Unit {0}
  WordsHold (TextItemAt name field place) = NumberHolds place
  WordsHold (TextGroup x) = WordsHold x

  pub NumbersHold : Numbers → Type 0
  NumbersHold no_number = Unit {0}
  NumbersHold (number_and x xs) = NumberHolds x × NumbersHold xs

  pub OperationsHold : Operations → Type 0
  OperationsHold no_operation = Unit {0}
  OperationsHold (operation_and operator x xs) = NumberHolds x × OperationsHold xs

abbrev pub WhichHolds : Which → Type 0
WhichHolds (Here found) = Unit {0}
WhichHolds (At x) = NumberHolds x

abbrev pub ArgumentHolds : Argument → Type 0
ArgumentHolds (OfNumber x) = NumberHolds x
ArgumentHolds (OfWords x) = WordsHold x

abbrev pub ArgumentsHold : List Argument → Type 0
ArgumentsHold [] = Unit {0}
ArgumentsHold (x ∷ xs) = ArgumentHolds x × ArgumentsHold xs

abbrev pub LimitHolds : Limit → Type 0
LimitHolds (Fixed x) = FitsSigned w64 x.value
LimitHolds (Counted count name of) = Unit {0}

abbrev pub CountingHolds : Counting → Type 0
CountingHolds x = LimitHolds x.start × LimitHolds x.stop × FitsSigned w64 x.step

-- a text of its own
abbrev pub MessageHolds : syntax.Message → Type 0
MessageHolds (syntax.Own text) = TextFits (text_of text.text)
MessageHolds (syntax.Numbered digits) = Unit {0}

abbrev mutual
  pub StatementHolds : Statement → Type 0
  StatementHolds Empty = Unit {0}
  StatementHolds (Set name variable x) = NumberHolds x
  StatementHolds (SetText name variable x) = WordsHold x
  StatementHolds (SetItem name field which x) = WhichHolds which × NumberHolds x
  StatementHolds (SetTextItem name field which x) = WhichHolds which × WordsHold x
  StatementHolds (SetCell name array xs x) = NumbersHold xs × NumberHolds x
  StatementHolds (CallOf name function xs) = NumbersHold xs
  StatementHolds (If condition body others) = NumberHolds condition × BlockHolds body × ArmsHold others
  StatementHolds (For name variable record_name of body) = BlockHolds body
  StatementHolds (Do counting body) = CountingHolds counting × BlockHolds body
  StatementHolds (Jump' token x) = Unit {0}
  StatementHolds (Impute name field which x) = WhichHolds which × NumberHolds x
  StatementHolds (PutDeck name array picks x) = NumberHolds x
  StatementHolds (ErrMsg message index xs summary) = MessageHolds message × ArgumentsHold xs

  pub BlockHolds : Statements → Type 0
  BlockHolds no_statement = Unit {0}
  BlockHolds (statement_and x xs) = StatementHolds x × BlockHolds xs

  pub ArmsHold : Arms → Type 0
  ArmsHold no_arm = Unit {0}
  ArmsHold (else_of body) = BlockHolds body
  ArmsHold (arm condition body others) = NumberHolds condition × BlockHolds body × ArmsHold others
