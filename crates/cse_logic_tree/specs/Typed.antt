-- Typed trees without where they lie in memory: each name stands beside what it names. The tree that a Rust value is.
use Rattle.std.specs.Prelude.{ℕ, ℤ, Bool, List, [], ◌∷◌, map, Option, Some, None}
use Rattle.std.specs.Option.{option_map}
use Rattle.std.specs.Global.{Vec}
use Rattle.cse_syntax_tree.specs.declared.tree.Operator.{Operator}
use Rattle.cse_syntax_tree.specs.declared.tree.Relation.{Relation}
use Rattle.cse_syntax_tree.specs.declared.tree.Special.{Special}
use Rattle.cse_syntax_tree.specs.declared.tree.Count.{Count}
use Rattle.cse_syntax_tree.specs.declared.tree.Jump.{Jump}
use Rattle.cse_syntax_tree.specs.Tree as syntax
use Rattle.cse_syntax_tree.specs.Tree.{Spelling, written, literal, message, parameter}
use Rattle.cse_logic_tree.specs.declared.tree.Variable.{Variable}
use Rattle.cse_logic_tree.specs.declared.tree.Found.{Found}
use Rattle.cse_logic_tree.specs.declared.tree.Field.{Field}
use Rattle.cse_logic_tree.specs.declared.tree.Present.{Present}
use Rattle.cse_logic_tree.specs.declared.tree.Pick.{Pick}
use Rattle.cse_logic_tree.specs.declared.tree.Owner.{Owner}
use Rattle.cse_logic_tree.specs.declared.tree.Number as rustnumber
use Rattle.cse_logic_tree.specs.declared.tree.NumberKind as rust
use Rattle.cse_logic_tree.specs.declared.tree.NumberKind.TheVariants as n
use Rattle.cse_logic_tree.specs.declared.tree.Words as rustwords
use Rattle.cse_logic_tree.specs.declared.tree.WordsKind as rustw
use Rattle.cse_logic_tree.specs.declared.tree.WordsKind.TheVariants as w
use Rattle.cse_logic_tree.specs.declared.tree.Operation as rustop
use Rattle.cse_logic_tree.specs.declared.tree.Which as rustwhich
use Rattle.cse_logic_tree.specs.declared.tree.Which.TheVariants as h
use Rattle.cse_logic_tree.specs.declared.tree.Argument as rustargument
use Rattle.cse_logic_tree.specs.declared.tree.Argument.TheVariants as g
use Rattle.cse_logic_tree.specs.declared.tree.Whole as rustwhole
use Rattle.cse_logic_tree.specs.declared.tree.Limit as rustlimit
use Rattle.cse_logic_tree.specs.declared.tree.Limit.TheVariants as l
use Rattle.cse_logic_tree.specs.declared.tree.Counting as rustcounting
use Rattle.cse_logic_tree.specs.declared.tree.Statement as ruststatement
use Rattle.cse_logic_tree.specs.declared.tree.StatementKind as rusts
use Rattle.cse_logic_tree.specs.declared.tree.StatementKind.TheVariants as s
use Rattle.cse_logic_tree.specs.declared.tree.Arm as rustarm
use Rattle.cse_logic_tree.specs.declared.tree.Dimension as rustdimension
use Rattle.cse_logic_tree.specs.declared.tree.Dimension.TheVariants as d
use Rattle.cse_logic_tree.specs.declared.tree.Array as rustarray
use Rattle.cse_logic_tree.specs.declared.tree.Function as rustfunction
use Rattle.cse_logic_tree.specs.declared.tree.Declaration as rustdeclaration
use Rattle.cse_logic_tree.specs.declared.tree.Declaration.TheVariants as c
use Rattle.cse_logic_tree.specs.declared.tree.Body as rustbody
use Rattle.cse_logic_tree.specs.declared.tree.Body.TheVariants as b
use Rattle.cse_logic_tree.specs.declared.tree.Procedure as rustprocedure
use Rattle.cse_logic_tree.specs.declared.tree.MessageEntry as rustentry
use Rattle.cse_logic_tree.specs.declared.tree.Tree as rusttree

-- ---- expressions

mutual
  pub data Number : Type 0 where
    Constant : (digits : Spelling) (value : ℤ) → Number
    Special' : (token : ℕ) (value : Special) → Number
    Variable' : (name : Spelling) (variable : Variable) → Number
    Item : (name : Spelling) (item : Present) → Number
    ItemAt : (name : Spelling) (field : Field) (place : Number) → Number
    Cell : (name : Spelling) (array : ℕ) (subscripts : Numbers) → Number
    Call : (name : Spelling) (function : ℕ) (arguments : Numbers) → Number
    Group : (inner : Number) → Number
    Int : (inner : Number) → Number
    IsSpecial : (inner : Number) → Number
    Deck : (name : Spelling) (array : ℕ) (picks : List Pick) → Number
    TotOcc : (name : Spelling) (of : ℕ) → Number
    MaxOcc : (name : Spelling) (of : ℕ) → Number
    CurOcc : (name : Spelling) (of : ℕ) (found : Found) → Number
    InSet : (name : Spelling) (item : Present) (set_name : Option Spelling) (set : ℕ) → Number
    Minus : (operand : Number) → Number
    Not : (operand : Number) → Number
    Compare : (relation : Relation) (left right : Number) → Number
    CompareTexts : (relation : Relation) (left right : Words) → Number
    Chain : (first : Number) (others : Operations) → Number

  pub data Words : Type 0 where
    Quoted : (text : Spelling) → Words
    TextGlobal : (name : Spelling) (variable : ℕ) → Words
    TextItem : (name : Spelling) (item : Present) → Words
    TextItemAt : (name : Spelling) (field : Field) (place : Number) → Words
    TextGroup : (inner : Words) → Words

  pub data Numbers : Type 0 where
    no_number : Numbers
    number_and : (first : Number) (others : Numbers) → Numbers

  pub data Operations : Type 0 where
    no_operation : Operations
    operation_and : (operator : Operator) (operand : Number) (others : Operations) → Operations

abbrev pub numbers : List Number → Numbers
numbers [] = no_number
numbers (x ∷ xs) = number_and x (numbers xs)

abbrev pub operations : List (Operator × Number) → Operations
operations [] = no_operation
operations (x ∷ xs) = operation_and x.0 x.1 (operations xs)

abbrev mutual
  pub number_kind : rust.NumberKind → Number
  number_kind (n.Literal x value) = Constant (written x) value
  number_kind (n.Special t value) = Special' t value
  number_kind (n.Variable x variable) = Variable' (written x) variable
  number_kind (n.Item x item) = Item (written x) item
  number_kind (n.ItemAt' x field p e) = ItemAt (written x) field (number_kind e)
  number_kind (n.Cell' x array m row) = Cell (written x) array (number_row row)
  number_kind (n.Call' x function m row) = Call (written x) function (number_row row)
  number_kind (n.Group' p x) = Group (number_kind x)
  number_kind (n.Int' p x) = Int (number_kind x)
  number_kind (n.IsSpecial' p x) = IsSpecial (number_kind x)
  number_kind (n.Deck x array picks) = Deck (written x) array picks.items
  number_kind (n.TotOcc x of) = TotOcc (written x) of
  number_kind (n.MaxOcc x of) = MaxOcc (written x) of
  number_kind (n.CurOcc x of found) = CurOcc (written x) of found
  number_kind (n.InSet x item set_name set) = InSet (written x) item (option_map written set_name) set
  number_kind (n.Minus' p x) = Minus (number_kind x)
  number_kind (n.Not' p x) = Not (number_kind x)
  number_kind (n.Compare' p x relation q y) = Compare relation (number_kind x) (number_kind y)
  number_kind (n.CompareTexts' p x relation q y) = CompareTexts relation (words_kind x) (words_kind y)
  number_kind (n.Chain' p x m row) = Chain (number_kind x) (operation_row row)

  pub words_kind : rustw.WordsKind → Words
  words_kind (w.Literal x) = Quoted (written x)
  words_kind (w.Global x variable) = TextGlobal (written x) variable
  words_kind (w.Item x item) = TextItem (written x) item
  words_kind (w.ItemAt' x field p e) = TextItemAt (written x) field (number_kind e)
  words_kind (w.Group' p x) = TextGroup (words_kind x)

  pub number_row : {m : _} → rust.Row_of-Number m → Numbers
  number_row rust.end_of-Number = no_number
  number_row (rust.more_of-Number p x xs) = number_and (number_kind x) (number_row xs)

  pub operation_row : {m : _} → rust.Row_of-Operation m → Operations
  operation_row rust.end_of-Operation = no_operation
  operation_row (rust.more_of-Operation operator p x xs) = operation_and operator (number_kind x) (operation_row xs)

abbrev pub number : rustnumber.Number → Number
number x = number_kind x.kind.value

abbrev pub words : rustwords.Words → Words
words x = words_kind x.kind.value

abbrev pub operation_tree : rustop.Operation → Operator × Number
operation_tree x = (x.operator, number x.operand)

-- ---- statements

-- which occurrence of an item a value is put into
pub data Which : Type 0 where
  Here : (found : Found) → Which
  At : (place : Number) → Which

-- a value of a message
pub data Argument : Type 0 where
  OfNumber : (value : Number) → Argument
  OfWords : (value : Words) → Argument

-- a number with its sign, and what it is
pub record Whole : Type 0 where
  pub literal : syntax.Literal
  pub value : ℤ

pub data Limit : Type 0 where
  Fixed : (value : Whole) → Limit
  Counted : (count : Count) (name : Spelling) (of : ℕ) → Limit

pub record Counting : Type 0 where
  pub name : Spelling
  pub variable : Variable
  pub start : Limit
  pub again : Spelling
  pub stop : Limit
  pub by : Option Spelling
  pub step : ℤ

mutual
  pub data Statement : Type 0 where
    Empty : Statement
    Set : (name : Spelling) (variable : Variable) (value : Number) → Statement
    SetText : (name : Spelling) (variable : ℕ) (value : Words) → Statement
    SetItem : (name : Spelling) (field : Field) (which : Which) (value : Number) → Statement
    SetTextItem : (name : Spelling) (field : Field) (which : Which) (value : Words) → Statement
    SetCell : (name : Spelling) (array : ℕ) (subscripts : Numbers) (value : Number) → Statement
    CallOf : (name : Spelling) (function : ℕ) (arguments : Numbers) → Statement
    If : (condition : Number) (body : Statements) (others : Arms) → Statement
    For : (name : Spelling) (variable : Variable) (record_name : Spelling) (of : ℕ) (body : Statements) → Statement
    Do : (counting : Counting) (body : Statements) → Statement
    Jump' : (token : ℕ) (jump : Jump) → Statement
    Impute : (name : Spelling) (field : Field) (which : Which) (value : Number) → Statement
    PutDeck : (name : Spelling) (array : ℕ) (picks : List Pick) (value : Number) → Statement
    ErrMsg : (message : syntax.Message) (index : ℕ) (values : List Argument) (summary : Bool) → Statement

  pub data Statements : Type 0 where
    no_statement : Statements
    statement_and : (first : Statement) (others : Statements) → Statements

  -- what stands behind the first condition and its statements: an `elseif`, the `else`, or nothing
  pub data Arms : Type 0 where
    no_arm : Arms
    else_of : (body : Statements) → Arms
    arm : (condition : Number) (body : Statements) (others : Arms) → Arms

abbrev pub statements : List Statement → Statements
statements [] = no_statement
statements (x ∷ xs) = statement_and x (statements xs)

-- each `elseif`, and then the `else`, if there is one
abbrev pub arms : List (Number × Statements) → Arms → Arms
arms [] otherwise = otherwise
arms (x ∷ xs) otherwise = arm x.0 x.1 (arms xs otherwise)

abbrev pub which : rustwhich.Which → Which
which (h.Here found) = Here found
which (h.At x) = At (number x)

abbrev pub argument : rustargument.Argument → Argument
argument (g.Number x) = OfNumber (number x)
argument (g.Words x) = OfWords (words x)

abbrev pub whole : rustwhole.Whole → Whole
whole x = record { literal = literal x.literal; value = x.value }

abbrev pub limit : rustlimit.Limit → Limit
limit (l.Literal x) = Fixed (whole x)
limit (l.Count count x of) = Counted count (written x) of

abbrev pub counting : rustcounting.Counting → Counting
counting x = record {
  name = written x.name;
  variable = x.variable;
  start = limit x.from;
  again = written x.again;
  stop = limit x.to;
  by = option_map written x.by;
  step = x.step;
}

abbrev mutual
  pub statement_kind : rusts.StatementKind → Statement
  statement_kind s.Empty = Empty
  statement_kind (s.Set x variable value) = Set (written x) variable (number value)
  statement_kind (s.SetText x variable value) = SetText (written x) variable (words value)
  statement_kind (s.SetItem x field place value) = SetItem (written x) field (which place) (number value)
  statement_kind (s.SetTextItem x field place value) = SetTextItem (written x) field (which place) (words value)
  statement_kind (s.SetCell x array subscripts value) = SetCell (written x) array (numbers (map number subscripts.items)) (number value)
  statement_kind (s.Call x function arguments) = CallOf (written x) function (numbers (map number arguments.items))
  statement_kind (s.If' (rustarm.Arm' condition n body) k others otherwise) = If (number condition) (statement_row body) (arm_row others (otherwise_of otherwise))
  statement_kind (s.For' x variable y of n body) = For (written x) variable (written y) of (statement_row body)
  statement_kind (s.Do' c n body) = Do (counting c) (statement_row body)
  statement_kind (s.Jump t jump) = Jump' t jump
  statement_kind (s.Impute x field place value) = Impute (written x) field (which place) (number value)
  statement_kind (s.PutDeck x array picks value) = PutDeck (written x) array picks.items (number value)
  statement_kind (s.ErrMsg x index values summary) = ErrMsg (message x) index (map argument values.items) summary

  pub statement_row : {n : _} → rusts.Row_of-Statement n → Statements
  statement_row rusts.end_of-Statement = no_statement
  statement_row (rusts.more_of-Statement p x xs) = statement_and (statement_kind x) (statement_row xs)

  pub arm_row : {n : _} → rusts.Row_of-Arm n → Arms → Arms
  arm_row rusts.end_of-Arm otherwise = otherwise
  arm_row (rusts.more_of-Arm (rustarm.Arm' condition n body) xs) otherwise = arm (number condition) (statement_row body) (arm_row xs otherwise)

  pub otherwise_of : rusts.Held-StatementKind-If-2 → Arms
  otherwise_of rusts.None' = no_arm
  otherwise_of (rusts.Some' n body) = else_of (statement_row body)

abbrev pub statement : ruststatement.Statement → Statement
statement x = statement_kind x.kind.value

abbrev pub block : List ruststatement.Statement → Statements
block xs = statements (map statement xs)

abbrev pub arm_tree : rustarm.Arm → Number × Statements
arm_tree a = (number (rustarm.out-Arm a).condition, block (rustarm.out-Arm a).body.items)

abbrev pub otherwise_tree : Option (Vec ruststatement.Statement) → Arms
otherwise_tree None = no_arm
otherwise_tree (Some body) = else_of (block body.items)

-- ---- sources

pub data Dimension : Type 0 where
  Sized : (digits : Spelling) (size : ℕ) → Dimension
  Rows : (name : Spelling) (set : ℕ) (one_more : Bool) (size : ℕ) → Dimension

pub record Array : Type 0 where
  pub name : Spelling
  pub dimensions : List Dimension
  pub saved : Bool
  pub cells : List Whole

pub record Function : Type 0 where
  pub name : Spelling
  pub parameters : List syntax.Parameter
  pub body : Statements
  pub needs_case : Bool

pub data Declaration : Type 0 where
  Numeric : (names : List Spelling) → Declaration
  Alpha : (digits : Spelling) (size : ℕ) (names : List Spelling) → Declaration
  Array' : (array : Array) → Declaration
  Function' : (function : Function) → Declaration

pub data Body : Type 0 where
  Plain : (statements : Statements) → Body
  Preproc : (statements : Statements) → Body
  Both : (before after : Statements) → Body
  Postproc : (statements : Statements) → Body

pub record Procedure : Type 0 where
  pub name : Spelling
  pub owner : Owner
  pub body : Body

-- a message: its number, its text, and whether it is only counted
pub record MessageEntry : Type 0 where
  pub number : ℕ
  pub text : List ℕ
  pub summary : Bool

pub record Tree : Type 0 where
  pub globals : Option (List Declaration)
  pub procedures : List Procedure
  pub messages : List MessageEntry

abbrev pub dimension : rustdimension.Dimension → Dimension
dimension (d.Number x size) = Sized (written x) size
dimension (d.Set x set one_more size) = Rows (written x) set one_more size

abbrev pub array : rustarray.Array → Array
array x = record { name = written x.name; dimensions = map dimension x.dimensions.items; saved = x.is_saved; cells = map whole x.cells.items }

abbrev pub function : rustfunction.Function → Function
function x = record { name = written x.name; parameters = map parameter x.parameters.items; body = block x.body.items; needs_case = x.needs_case }

abbrev pub declaration : rustdeclaration.Declaration → Declaration
declaration (c.Numeric names) = Numeric (map written names.items)
declaration (c.Alpha digits size names) = Alpha (written digits) size (map written names.items)
declaration (c.Array x) = Array' (array x)
declaration (c.Function x) = Function' (function x)

abbrev pub body_tree : rustbody.Body → Body
body_tree (b.Plain xs) = Plain (block xs.items)
body_tree (b.Preproc xs) = Preproc (block xs.items)
body_tree (b.Both xs ys) = Both (block xs.items) (block ys.items)
body_tree (b.Postproc xs) = Postproc (block xs.items)

abbrev pub procedure : rustprocedure.Procedure → Procedure
procedure x = record { name = written x.name; owner = x.owner; body = body_tree x.body }

abbrev pub entry : rustentry.MessageEntry → MessageEntry
entry x = record { number = x.number; text = x.text.now; summary = x.is_summary }

abbrev pub tree : rusttree.Tree → Tree
tree x = record {
  globals = option_map (λ ds. map declaration ds.items) x.globals;
  procedures = map procedure x.procedures.items;
  messages = map entry x.messages.items;
}
