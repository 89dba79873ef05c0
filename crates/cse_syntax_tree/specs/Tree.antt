-- Syntax trees without where they lie in memory and in the source, and the tree that a Rust value is.
use Rattle.std.specs.Prelude.{ℕ, Bool, List, [], ◌∷◌, map, Option, Some, None}
use Rattle.std.specs.Option.{option_map}
use Rattle.std.specs.Global.{Vec}
pub use Rattle.cse_syntax_tree.specs.Word.{Spelling}
use Rattle.cse_syntax_tree.specs.declared.tree.Operator.{Operator}
use Rattle.cse_syntax_tree.specs.declared.tree.Relation.{Relation}
use Rattle.cse_syntax_tree.specs.declared.tree.Special.{Special}
use Rattle.cse_syntax_tree.specs.declared.tree.Function.{Function}
use Rattle.cse_syntax_tree.specs.declared.tree.Query.{Query}
use Rattle.cse_syntax_tree.specs.declared.tree.Count.{Count}
use Rattle.cse_syntax_tree.specs.declared.tree.Jump.{Jump}
use Rattle.cse_syntax_tree.specs.declared.tree.Lexeme.{Lexeme}
use Rattle.cse_syntax_tree.specs.declared.tree.Expression as rustexpression
use Rattle.cse_syntax_tree.specs.declared.tree.ExpressionKind as rust
use Rattle.cse_syntax_tree.specs.declared.tree.ExpressionKind.TheVariants as e
use Rattle.cse_syntax_tree.specs.declared.tree.Operation as rustop
use Rattle.cse_syntax_tree.specs.declared.tree.Literal as rustliteral
use Rattle.cse_syntax_tree.specs.declared.tree.Limit as rustlimit
use Rattle.cse_syntax_tree.specs.declared.tree.Limit.TheVariants as l
use Rattle.cse_syntax_tree.specs.declared.tree.Counting as rustcounting
use Rattle.cse_syntax_tree.specs.declared.tree.Message as rustmessage
use Rattle.cse_syntax_tree.specs.declared.tree.Message.TheVariants as g
use Rattle.cse_syntax_tree.specs.declared.tree.Statement as ruststatement
use Rattle.cse_syntax_tree.specs.declared.tree.StatementKind as rusts
use Rattle.cse_syntax_tree.specs.declared.tree.StatementKind.TheVariants as s
use Rattle.cse_syntax_tree.specs.declared.tree.Arm as rustarm
use Rattle.cse_syntax_tree.specs.declared.tree.Dimension as rustdimension
use Rattle.cse_syntax_tree.specs.declared.tree.Dimension.TheVariants as d
use Rattle.cse_syntax_tree.specs.declared.tree.Parameter as rustparameter
use Rattle.cse_syntax_tree.specs.declared.tree.Declaration as rustdeclaration
use Rattle.cse_syntax_tree.specs.declared.tree.Declaration.TheVariants as c
use Rattle.cse_syntax_tree.specs.declared.tree.Array as rustarray
use Rattle.cse_syntax_tree.specs.declared.tree.Body as rustbody
use Rattle.cse_syntax_tree.specs.declared.tree.Body.TheVariants as b
use Rattle.cse_syntax_tree.specs.declared.tree.Procedure as rustprocedure
use Rattle.cse_syntax_tree.specs.declared.tree.Tree as rusttree

abbrev pub written : Lexeme → Spelling
written x = record { token = x.token; text = x.text.now }

mutual
  pub data Expr : Type 0 where
    Number : (digits : Spelling) → Expr
    Text : (text : Spelling) → Expr
    Special' : (token : ℕ) (value : Special) → Expr
    Bare : (name : Spelling) → Expr
    Indexed : (name : Spelling) (arguments : Exprs) → Expr
    Group : (inner : Expr) → Expr
    Apply : (function : Function) (argument : Expr) → Expr
    Query' : (query : Query) (name : Spelling) → Expr
    InValueSet : (item : Spelling) (set : Option Spelling) → Expr
    Minus : (operand : Expr) → Expr
    Not : (operand : Expr) → Expr
    Compare : (relation : Relation) (left right : Expr) → Expr
    Chain : (first : Expr) (others : Operations) → Expr

  pub data Exprs : Type 0 where
    no_expr : Exprs
    expr_and : (first : Expr) (others : Exprs) → Exprs

  pub data Operations : Type 0 where
    no_operation : Operations
    operation_and : (operator : Operator) (operand : Expr) (others : Operations) → Operations

abbrev pub exprs : List Expr → Exprs
exprs [] = no_expr
exprs (x ∷ xs) = expr_and x (exprs xs)

abbrev pub operations : List (Operator × Expr) → Operations
operations [] = no_operation
operations (x ∷ xs) = operation_and x.0 x.1 (operations xs)

abbrev mutual
  pub expr_kind : rust.ExpressionKind → Expr
  expr_kind (e.Number x) = Number (written x)
  expr_kind (e.Text x) = Text (written x)
  expr_kind (e.Special t value) = Special' t value
  expr_kind (e.Name x) = Bare (written x)
  expr_kind (e.Indexed' x n row) = Indexed (written x) (expr_row row)
  expr_kind (e.Group' p x) = Group (expr_kind x)
  expr_kind (e.Apply' function p x) = Apply function (expr_kind x)
  expr_kind (e.Query query x) = Query' query (written x)
  expr_kind (e.InValueSet x set) = InValueSet (written x) (option_map written set)
  expr_kind (e.Minus' p x) = Minus (expr_kind x)
  expr_kind (e.Not' p x) = Not (expr_kind x)
  expr_kind (e.Compare' p x relation q y) = Compare relation (expr_kind x) (expr_kind y)
  expr_kind (e.Chain' p x n row) = Chain (expr_kind x) (operation_row row)

  pub expr_row : {n : _} → rust.Row_of-Expression n → Exprs
  expr_row rust.end_of-Expression = no_expr
  expr_row (rust.more_of-Expression p x xs) = expr_and (expr_kind x) (expr_row xs)

  pub operation_row : {n : _} → rust.Row_of-Operation n → Operations
  operation_row rust.end_of-Operation = no_operation
  operation_row (rust.more_of-Operation operator p x xs) = operation_and operator (expr_kind x) (operation_row xs)

abbrev pub expr : rustexpression.Expression → Expr
expr x = expr_kind x.kind.value

abbrev pub operation_tree : rustop.Operation → Operator × Expr
operation_tree x = (x.operator, expr x.operand)

-- ---- statements

-- a number, and whether a minus stands before it
pub record Literal : Type 0 where
  pub minus : Bool
  pub digits : Spelling

pub data Limit : Type 0 where
  Fixed : (value : Literal) → Limit
  Counted : (count : Count) (record_name : Spelling) → Limit

pub record Counting : Type 0 where
  pub variable : Spelling
  pub start : Limit
  pub again : Spelling
  pub stop : Limit
  pub by : Option Spelling

pub data Message : Type 0 where
  Own : (text : Spelling) → Message
  Numbered : (digits : Spelling) → Message

mutual
  pub data Stmt : Type 0 where
    Empty : Stmt
    Assign : (name : Spelling) (subscripts : Exprs) (value : Expr) → Stmt
    Call : (name : Spelling) (arguments : Exprs) → Stmt
    If : (condition : Expr) (body : Stmts) (others : Arms) → Stmt
    For : (variable record_name : Spelling) (body : Stmts) → Stmt
    Do : (counting : Counting) (body : Stmts) → Stmt
    Jump' : (token : ℕ) (jump : Jump) → Stmt
    Impute : (name : Spelling) (subscripts : Exprs) (value : Expr) → Stmt
    PutDeck : (deck : Spelling) (value : Expr) → Stmt
    ErrMsg : (message : Message) (values : Exprs) (summary : Bool) → Stmt

  pub data Stmts : Type 0 where
    no_stmt : Stmts
    stmt_and : (first : Stmt) (others : Stmts) → Stmts

  -- what stands behind the first condition and its statements: an `elseif`, the `else`, or nothing
  pub data Arms : Type 0 where
    no_arm : Arms
    else_of : (body : Stmts) → Arms
    arm : (condition : Expr) (body : Stmts) (others : Arms) → Arms

abbrev pub stmts : List Stmt → Stmts
stmts [] = no_stmt
stmts (x ∷ xs) = stmt_and x (stmts xs)

-- each `elseif`, and then the `else`, if there is one
abbrev pub arms : List (Expr × Stmts) → Arms → Arms
arms [] otherwise = otherwise
arms (x ∷ xs) otherwise = arm x.0 x.1 (arms xs otherwise)

abbrev pub literal : rustliteral.Literal → Literal
literal x = record { minus = x.is_negative; digits = written x.digits }

abbrev pub limit : rustlimit.Limit → Limit
limit (l.Literal x) = Fixed (literal x)
limit (l.Count count x) = Counted count (written x)

abbrev pub counting : rustcounting.Counting → Counting
counting x = record { variable = written x.variable; start = limit x.from; again = written x.again; stop = limit x.to; by = option_map written x.by }

abbrev pub message : rustmessage.Message → Message
message (g.Text x) = Own (written x)
message (g.Number x) = Numbered (written x)

abbrev mutual
  pub stmt_kind : rusts.StatementKind → Stmt
  stmt_kind s.Empty = Empty
  stmt_kind (s.Assign place value) = Assign (written place.name) (exprs (map expr place.subscripts.items)) (expr value)
  stmt_kind (s.Call x arguments) = Call (written x) (exprs (map expr arguments.items))
  stmt_kind (s.If' (rustarm.Arm' condition n body) k others otherwise) = If (expr condition) (stmt_row body) (arm_row others (otherwise_of otherwise))
  stmt_kind (s.For' x y n body) = For (written x) (written y) (stmt_row body)
  stmt_kind (s.Do' c n body) = Do (counting c) (stmt_row body)
  stmt_kind (s.Jump t jump) = Jump' t jump
  stmt_kind (s.Impute place value) = Impute (written place.name) (exprs (map expr place.subscripts.items)) (expr value)
  stmt_kind (s.PutDeck x value) = PutDeck (written x) (expr value)
  stmt_kind (s.ErrMsg x values summary) = ErrMsg (message x) (exprs (map expr values.items)) summary

  pub stmt_row : {n : _} → rusts.Row_of-Statement n → Stmts
  stmt_row rusts.end_of-Statement = no_stmt
  stmt_row (rusts.more_of-Statement p x xs) = stmt_and (stmt_kind x) (stmt_row xs)

  pub arm_row : {n : _} → rusts.Row_of-Arm n → Arms → Arms
  arm_row rusts.end_of-Arm otherwise = otherwise
  arm_row (rusts.more_of-Arm (rustarm.Arm' condition n body) xs) otherwise = arm (expr condition) (stmt_row body) (arm_row xs otherwise)

  pub otherwise_of : rusts.Held-StatementKind-If-2 → Arms
  otherwise_of rusts.None' = no_arm
  otherwise_of (rusts.Some' n body) = else_of (stmt_row body)

abbrev pub stmt : ruststatement.Statement → Stmt
stmt x = stmt_kind x.kind.value

abbrev pub block : List ruststatement.Statement → Stmts
block xs = stmts (map stmt xs)

abbrev pub arm_tree : rustarm.Arm → Expr × Stmts
arm_tree a = (expr (rustarm.out-Arm a).condition, block (rustarm.out-Arm a).body.items)

abbrev pub otherwise_tree : Option (Vec ruststatement.Statement) → Arms
otherwise_tree None = no_arm
otherwise_tree (Some body) = else_of (block body.items)

-- ---- sources

pub data Dimension : Type 0 where
  Sized : (digits : Spelling) → Dimension
  Rows : (set : Spelling) (one_more : Bool) → Dimension

-- a parameter's name, and whether `numeric` stands before it
pub record Parameter : Type 0 where
  pub declared : Bool
  pub name : Spelling

pub record Array : Type 0 where
  pub name : Spelling
  pub dimensions : List Dimension
  pub saved : Bool
  pub cells : List Literal

pub data Declaration : Type 0 where
  Numeric : (names : List Spelling) → Declaration
  Alpha : (size : Spelling) (names : List Spelling) → Declaration
  Array' : (array : Array) → Declaration
  Function' : (name : Spelling) (parameters : List Parameter) (body : Stmts) → Declaration

pub data Body : Type 0 where
  Plain : (statements : Stmts) → Body
  Preproc : (statements : Stmts) → Body
  Both : (before after : Stmts) → Body
  Postproc : (statements : Stmts) → Body

pub record Procedure : Type 0 where
  pub name : Spelling
  pub body : Body

pub record Tree : Type 0 where
  pub globals : Option (List Declaration)
  pub procedures : List Procedure

abbrev pub dimension : rustdimension.Dimension → Dimension
dimension (d.Number x) = Sized (written x)
dimension (d.Set x one_more) = Rows (written x) one_more

abbrev pub parameter : rustparameter.Parameter → Parameter
parameter x = record { declared = x.is_declared; name = written x.name }

abbrev pub array : rustarray.Array → Array
array x = record { name = written x.name; dimensions = map dimension x.dimensions.items; saved = x.is_saved; cells = map literal x.cells.items }

abbrev pub declaration : rustdeclaration.Declaration → Declaration
declaration (c.Numeric names) = Numeric (map written names.items)
declaration (c.Alpha size names) = Alpha (written size) (map written names.items)
declaration (c.Array x) = Array' (array x)
declaration (c.Function name parameters body) = Function' (written name) (map parameter parameters.items) (block body.items)

abbrev pub body_tree : rustbody.Body → Body
body_tree (b.Plain xs) = Plain (block xs.items)
body_tree (b.Preproc xs) = Preproc (block xs.items)
body_tree (b.Both xs ys) = Both (block xs.items) (block ys.items)
body_tree (b.Postproc xs) = Postproc (block xs.items)

abbrev pub procedure : rustprocedure.Procedure → Procedure
procedure x = record { name = written x.name; body = body_tree x.body }

abbrev pub tree : rusttree.Tree → Tree
tree x = record { globals = option_map (λ ds. map declaration ds.items) x.globals; procedures = map procedure x.procedures.items }
