-- Which expressions and statements the laws of runs speak of: all of them, in a routine with so many parameters, which it names alone.
use Rattle.std.specs.Prelude.{◌≡◌, ℕ, ℤ, pos, ◌+ℤ◌, ◌-ℤ◌, int_div, ◌<◌, ◌≤◌, true, false, List, [], ◌∷◌}
use Rattle.cse_value.specs.Number.{fits_i64, is_zero}
use Rattle.cse_value.specs.Occurrences.{most_occurrences}
use Rattle.cse_value.specs.declared.shape.RecordShape.{RecordShape}
use Rattle.cse_syntax_tree.specs.declared.tree.Count.TheVariants as counts
use Rattle.cse_logic_tree.specs.declared.tree.Variable.{Variable}
use Rattle.cse_logic_tree.specs.declared.tree.Variable.TheVariants as v
use Rattle.cse_logic_tree.specs.Typed as tree
use Rattle.cse_compile.specs.Statements.{turn_limit}
use Rattle.cse_meaning.specs.Statements.{turns}
use Rattle.cse_logic_tree.specs.Typed.{Which, Here, At, Limit, Fixed, Counted, Counting, Argument, OfNumber, OfWords, Statement, Statements, Arms}
use Rattle.cse_logic_tree.specs.Typed.{Empty, Set, SetText, SetItem, SetTextItem, SetCell, CallOf, If, For, Do, Jump', Impute, PutDeck, ErrMsg, no_statement, statement_and, no_arm, else_of, arm}
use Rattle.cse_logic_tree.specs.Typed.{Numbers, Operations, no_number, number_and, no_operation, operation_and}

abbrev pub IsOwn : ℕ → Variable → Type 0
IsOwn n (v.Global g) = Unit {0}
IsOwn n (v.Parameter k) = k < n
IsOwn n v.Result = Unit {0}

abbrev mutual
  pub IsPlain : ℕ → tree.Number → Type 0
  IsPlain n (tree.Constant digits value) = Unit {0}
  IsPlain n (tree.Special' token value) = Unit {0}
  IsPlain n (tree.Variable' name x) = IsOwn n x
  IsPlain n (tree.Item name item) = Unit {0}
  IsPlain n (tree.ItemAt name field x) = IsPlain n x
  IsPlain n (tree.Cell name array xs) = EachPlain n xs
  IsPlain n (tree.Call name function xs) = EachPlain n xs
  IsPlain n (tree.Group x) = IsPlain n x
  IsPlain n (tree.Int x) = IsPlain n x
  IsPlain n (tree.IsSpecial x) = IsPlain n x
  IsPlain n (tree.Deck name array picks) = Unit {0}
  IsPlain n (tree.TotOcc name of) = Unit {0}
  IsPlain n (tree.MaxOcc name of) = Unit {0}
  IsPlain n (tree.CurOcc name of found) = Unit {0}
  IsPlain n (tree.InSet name item set_name set) = Unit {0}
  IsPlain n (tree.Minus x) = IsPlain n x
  IsPlain n (tree.Not x) = IsPlain n x
  IsPlain n (tree.Compare relation x y) = IsPlain n x × IsPlain n y
  IsPlain n (tree.CompareTexts relation x y) = ArePlain n x × ArePlain n y
  IsPlain n (tree.Chain x xs) = IsPlain n x × AllPlain n xs

  pub ArePlain : ℕ → tree.Words → Type 0
  ArePlain n (tree.Quoted text) = Unit {0}
  ArePlain n (tree.TextGlobal name g) = Unit {0}
  ArePlain n (tree.TextItem name item) = Unit {0}
  ArePlain n (tree.TextItemAt name field x) = IsPlain n x
  ArePlain n (tree.TextGroup x) = ArePlain n x

  pub EachPlain : ℕ → Numbers → Type 0
  EachPlain n no_number = Unit {0}
  EachPlain n (number_and x xs) = IsPlain n x × EachPlain n xs

  pub AllPlain : ℕ → Operations → Type 0
  AllPlain n no_operation = Unit {0}
  AllPlain n (operation_and operator x xs) = IsPlain n x × AllPlain n xs

-- ---- statements

abbrev pub IsPlainPlace : ℕ → Which → Type 0
IsPlainPlace n (Here x) = Unit {0}
IsPlainPlace n (At x) = IsPlain n x

abbrev pub IsPlainArgument : ℕ → Argument → Type 0
IsPlainArgument n (OfNumber x) = IsPlain n x
IsPlainArgument n (OfWords x) = ArePlain n x

abbrev pub ArePlainArguments : ℕ → List Argument → Type 0
ArePlainArguments n [] = Unit {0}
ArePlainArguments n (x ∷ xs) = IsPlainArgument n x × ArePlainArguments n xs

-- what a limit of a `do` may be
abbrev pub MayBe : List RecordShape → Limit → ℤ → Type 0
MayBe records (Fixed x) a = a ≡ x.value
MayBe records (Counted counts.MaxOcc name of) a = a ≡ pos (most_occurrences records of)
MayBe records (Counted counts.TotOcc name of) a = (n : ℕ) × (a ≡ pos n) × (n ≤ most_occurrences records of)

-- the number of its turns is reckoned without being cut to 64 bits, and keeps to the limit of its bracket
pub record TurnsFit (records : List RecordShape) (x : Counting) (a b : ℤ) : Type 0 where
  pub between : fits_i64 (b -ℤ a) ≡ true
  pub more : fits_i64 ((b -ℤ a) +ℤ x.step) ≡ true
  pub some : is_zero x.step ≡ false
  pub parts : fits_i64 (int_div ((b -ℤ a) +ℤ x.step) x.step) ≡ true
  pub few : turns a b x.step ≤ turn_limit records x

abbrev pub KeepsTurns : List RecordShape → Counting → Type 0
KeepsTurns records x = (a b : ℤ) → MayBe records x.start a → MayBe records x.stop b → TurnsFit records x a b

-- all of them, where 64 bits hold the turns of each `do`
abbrev mutual
  pub IsPlainStatement : List RecordShape → ℕ → Statement → Type 0
  IsPlainStatement rs n Empty = Unit {0}
  IsPlainStatement rs n (Set name y x) = IsOwn n y × IsPlain n x
  IsPlainStatement rs n (SetText name g x) = ArePlain n x
  IsPlainStatement rs n (SetItem name field which x) = IsPlainPlace n which × IsPlain n x
  IsPlainStatement rs n (SetTextItem name field which x) = IsPlainPlace n which × ArePlain n x
  IsPlainStatement rs n (SetCell name array xs x) = EachPlain n xs × IsPlain n x
  IsPlainStatement rs n (CallOf name function xs) = EachPlain n xs
  IsPlainStatement rs n (If condition body others) = IsPlain n condition × IsPlainBlock rs n body × ArePlainArms rs n others
  IsPlainStatement rs n (For name y record_name of body) = IsOwn n y × IsPlainBlock rs n body
  IsPlainStatement rs n (Do x body) = IsOwn n x.variable × KeepsTurns rs x × IsPlainBlock rs n body
  IsPlainStatement rs n (Jump' token x) = Unit {0}
  IsPlainStatement rs n (Impute name field which x) = IsPlainPlace n which × IsPlain n x
  IsPlainStatement rs n (PutDeck name array picks x) = IsPlain n x
  IsPlainStatement rs n (ErrMsg message index xs summary) = ArePlainArguments n xs

  pub IsPlainBlock : List RecordShape → ℕ → Statements → Type 0
  IsPlainBlock rs n no_statement = Unit {0}
  IsPlainBlock rs n (statement_and x xs) = IsPlainStatement rs n x × IsPlainBlock rs n xs

  pub ArePlainArms : List RecordShape → ℕ → Arms → Type 0
  ArePlainArms rs n no_arm = Unit {0}
  ArePlainArms rs n (else_of body) = IsPlainBlock rs n body
  ArePlainArms rs n (arm condition body others) = IsPlain n condition × IsPlainBlock rs n body × ArePlainArms rs n others
