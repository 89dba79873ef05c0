-- The words of a tree, and which trees are of the grammar.
use Rattle.std.specs.Prelude.{◌≡◌, ℕ, zero, suc, ◌≤◌, Bool, true, false, List, [], ◌∷◌, Option, Some, None}
use Rattle.std.specs.Str.{str_eq_ignore_ascii_case}
use Rattle.cse_syntax_tree.specs.declared.token.Mark.{Mark}
use Rattle.cse_syntax_tree.specs.declared.token.Mark.TheVariants as m
use Rattle.cse_syntax_tree.specs.declared.tree.Operator.{Operator}
use Rattle.cse_syntax_tree.specs.declared.tree.Operator.TheVariants as o
use Rattle.cse_syntax_tree.specs.declared.tree.Relation.{Relation}
use Rattle.cse_syntax_tree.specs.declared.tree.Relation.TheVariants as r
use Rattle.cse_syntax_tree.specs.declared.tree.Function.{Function}
use Rattle.cse_syntax_tree.specs.declared.tree.Function.TheVariants as f
use Rattle.cse_syntax_tree.specs.declared.tree.Query.{Query}
use Rattle.cse_syntax_tree.specs.declared.tree.Query.TheVariants as q
use Rattle.cse_syntax_tree.specs.declared.tree.Count.{Count}
use Rattle.cse_syntax_tree.specs.declared.tree.Count.TheVariants as c
use Rattle.cse_syntax_tree.specs.Word.{Word, Name, Digits, Quoted, Value, Leave, Sign}
pub use Rattle.cse_syntax_tree.specs.Leaf.{is_name, is_within, is_text, MOST}
use Rattle.cse_syntax_tree.specs.Tree.{Spelling, Expr, Exprs, Operations, Number, Text, Special', Bare, Indexed, Group, Apply, Query', InValueSet, Minus, Not, Compare, Chain, no_expr, expr_and, no_operation, operation_and}
use Rattle.cse_syntax_tree.specs.Tree.{Literal, Limit, Fixed, Counted, Counting, Message, Own, Numbered, Stmt, Empty, Assign, Call, If, For, Do, Jump', Impute, PutDeck, ErrMsg, Stmts, no_stmt, stmt_and, Arms, no_arm, else_of, arm}
use Rattle.cse_syntax_tree.specs.Tree.{Dimension, Sized, Rows, Parameter, Array, Declaration, Numeric, Alpha, Array', Function', Body, Plain, Preproc, Both, Postproc, Procedure, Tree}

-- ---- leaves

abbrev pub IsName : Spelling → Type 0
IsName name = is_name name.text ≡ true

abbrev pub IsNumber : Spelling → Type 0
IsNumber digits = is_within 0 MOST digits.text ≡ true

abbrev pub IsText : Spelling → Type 0
IsText text = is_text text.text ≡ true

-- ---- signs

abbrev pub sign : Operator → Mark
sign o.Or = m.Or
sign o.And = m.And
sign o.Add = m.Plus
sign o.Subtract = m.Minus
sign o.Multiply = m.Star
sign o.Divide = m.Slash
sign o.Remainder = m.Percent

abbrev pub relation_sign : Relation → Mark
relation_sign r.Equal = m.Equals
relation_sign r.Differs = m.Differs
relation_sign r.Less = m.Less
relation_sign r.AtMost = m.AtMost
relation_sign r.More = m.More
relation_sign r.AtLeast = m.AtLeast

abbrev pub function_sign : Function → Mark
function_sign f.Int = m.Int
function_sign f.Special = m.Special

abbrev pub query_sign : Query → Mark
query_sign q.GetDeck = m.GetDeck
query_sign q.TotOcc = m.TotOcc
query_sign q.MaxOcc = m.MaxOcc
query_sign q.CurOcc = m.CurOcc

abbrev pub count_sign : Count → Mark
count_sign c.TotOcc = m.TotOcc
count_sign c.MaxOcc = m.MaxOcc

-- ---- lists

-- Each spelling gives the words of its tree, and after them those of the rest.
abbrev pub Spells : Type 0 → Type 0
Spells A = A → List Word → List Word

-- each after a comma
abbrev pub spell_each : {A : Type 0} → Spells A → Spells (List A)
spell_each spell [] rest = rest
spell_each spell (x ∷ xs) rest = Sign m.Comma ∷ spell x (spell_each spell xs rest)

-- with commas between them
abbrev pub spell_list : {A : Type 0} → Spells A → Spells (List A)
spell_list spell [] rest = rest
spell_list spell (x ∷ xs) rest = spell x (spell_each spell xs rest)

-- one after the other
abbrev pub spell_all : {A : Type 0} → Spells A → Spells (List A)
spell_all spell [] rest = rest
spell_all spell (x ∷ xs) rest = spell x (spell_all spell xs rest)

-- a mark that stands there or doesn't
abbrev pub spell_mark : Mark → Spells Bool
spell_mark mark true rest = Sign mark ∷ rest
spell_mark mark false rest = rest

abbrev pub spell_name : Spells Spelling
spell_name name rest = Name name ∷ rest

abbrev pub Each : {A : Type 0} → (A → Type 0) → List A → Type 0
Each P [] = Unit {0}
Each P (x ∷ xs) = P x × Each P xs

abbrev pub IsSome : {A : Type 0} → List A → Type 0
IsSome [] = ⊥
IsSome (x ∷ xs) = Unit {0}

-- ---- expressions

abbrev pub spell_set : Spells (Option Spelling)
spell_set None rest = rest
spell_set (Some set) rest = Sign m.Comma ∷ Name set ∷ rest

abbrev mutual
  pub spell_expr : Expr → List Word → List Word
  spell_expr (Number digits) rest = Digits digits ∷ rest
  spell_expr (Text text) rest = Quoted text ∷ rest
  spell_expr (Special' token value) rest = Value token value ∷ rest
  spell_expr (Bare name) rest = Name name ∷ rest
  spell_expr (Indexed name arguments) rest = Name name ∷ Sign m.Open ∷ spell_exprs arguments (Sign m.Close ∷ rest)
  spell_expr (Group x) rest = Sign m.Open ∷ spell_expr x (Sign m.Close ∷ rest)
  spell_expr (Apply function x) rest = Sign (function_sign function) ∷ Sign m.Open ∷ spell_expr x (Sign m.Close ∷ rest)
  spell_expr (Query' query name) rest = Sign (query_sign query) ∷ Sign m.Open ∷ Name name ∷ Sign m.Close ∷ rest
  spell_expr (InValueSet item set) rest = Sign m.InValueSet ∷ Sign m.Open ∷ Name item ∷ spell_set set (Sign m.Close ∷ rest)
  spell_expr (Minus x) rest = Sign m.Minus ∷ spell_expr x rest
  spell_expr (Not x) rest = Sign m.Not ∷ spell_expr x rest
  spell_expr (Compare relation x y) rest = spell_expr x (Sign (relation_sign relation) ∷ spell_expr y rest)
  spell_expr (Chain x others) rest = spell_expr x (spell_operations others rest)

  -- with commas between them
  pub spell_exprs : Exprs → List Word → List Word
  spell_exprs no_expr rest = rest
  spell_exprs (expr_and x xs) rest = spell_expr x (spell_others xs rest)

  -- each after a comma
  pub spell_others : Exprs → List Word → List Word
  spell_others no_expr rest = rest
  spell_others (expr_and x xs) rest = Sign m.Comma ∷ spell_expr x (spell_others xs rest)

  pub spell_operations : Operations → List Word → List Word
  spell_operations no_operation rest = rest
  spell_operations (operation_and operator x xs) rest = Sign (sign operator) ∷ spell_expr x (spell_operations xs rest)

-- The rules of the grammar, from the loosest: 1 `or`, 2 `and`, 3 `not`, 4 relations, 5 `+ -`, 6 `* / %`, 7 a minus
-- before an operand, 8 what needs no parentheses.
abbrev pub binds : Operator → ℕ
binds o.Or = 1
binds o.And = 2
binds o.Add = 5
binds o.Subtract = 5
binds o.Multiply = 6
binds o.Divide = 6
binds o.Remainder = 6

-- the rule of a chain of operators, which is that of its first
abbrev pub level : Operations → ℕ
level no_operation = 0
level (operation_and operator x xs) = binds operator

abbrev pub rule : Expr → ℕ
rule (Minus x) = 7
rule (Not x) = 3
rule (Compare relation x y) = 4
rule (Chain x others) = level others
rule _ = 8

-- One more parenthesis or statement is open.
abbrev pub Below : ℕ → (ℕ → Type 0) → Type 0
Below zero P = ⊥
Below (suc room) P = P room

abbrev pub HasRoom : ℕ → Type 0
HasRoom zero = ⊥
HasRoom (suc room) = Unit {0}

abbrev pub IsSetName : Option Spelling → Type 0
IsSetName None = Unit {0}
IsSetName (Some set) = IsName set

-- The tree is of the grammar, with at most this many more parentheses open at once.
abbrev mutual
  pub IsExpr : Expr → ℕ → Type 0
  IsExpr (Number digits) room = IsNumber digits
  IsExpr (Text text) room = IsText text
  IsExpr (Special' token value) room = Unit {0}
  IsExpr (Bare name) room = IsName name
  IsExpr (Indexed name arguments) room = IsName name × HasRoom room × AreInner arguments room
  IsExpr (Group x) room = Below room (IsExpr x)
  IsExpr (Apply function x) room = Below room (IsExpr x)
  IsExpr (Query' query name) room = IsName name × HasRoom room
  IsExpr (InValueSet item set) room = IsName item × IsSetName set × HasRoom room
  IsExpr (Minus x) room = (8 ≤ rule x) × IsExpr x room
  IsExpr (Not x) room = (4 ≤ rule x) × IsExpr x room
  IsExpr (Compare relation x y) room = (5 ≤ rule x) × (5 ≤ rule y) × IsExpr x room × IsExpr y room
  IsExpr (Chain x others) room = (1 ≤ level others) × (suc (level others) ≤ rule x) × IsExpr x room × AreOperations others (level others) room

  -- in parentheses
  pub AreInner : Exprs → ℕ → Type 0
  AreInner no_expr room = Unit {0}
  AreInner (expr_and x xs) room = Below room (IsExpr x) × AreInner xs room

  -- operators of this rule, with operands of tighter ones
  pub AreOperations : Operations → ℕ → ℕ → Type 0
  AreOperations no_operation n room = Unit {0}
  AreOperations (operation_and operator x xs) n room = (binds operator ≡ n) × (suc n ≤ rule x) × IsExpr x room × AreOperations xs n room

-- ---- statements

abbrev pub spell_subscripts : Exprs → List Word → List Word
spell_subscripts no_expr rest = rest
spell_subscripts (expr_and x xs) rest = Sign m.Open ∷ spell_exprs (expr_and x xs) (Sign m.Close ∷ rest)

abbrev pub spell_digits : Spells Spelling
spell_digits digits rest = Digits digits ∷ rest

abbrev pub spell_literal : Spells Literal
spell_literal x rest = spell_mark m.Minus x.minus (Digits x.digits ∷ rest)

abbrev pub spell_limit : Spells Limit
spell_limit (Fixed x) rest = spell_literal x rest
spell_limit (Counted count name) rest = Sign (count_sign count) ∷ Sign m.Open ∷ Name name ∷ Sign m.Close ∷ rest

abbrev pub spell_by : Spells (Option Spelling)
spell_by None rest = rest
spell_by (Some digits) rest = Sign m.By ∷ Digits digits ∷ rest

abbrev pub spell_counting : Spells Counting
spell_counting x rest =
    Sign m.Varying ∷ Name x.variable ∷ Sign m.Equals ∷ spell_limit x.start (Sign m.Until ∷ Name x.again ∷ Sign m.More ∷ spell_limit x.stop (spell_by x.by rest))

abbrev pub spell_message : Spells Message
spell_message (Own text) rest = Quoted text ∷ rest
spell_message (Numbered digits) rest = Digits digits ∷ rest

abbrev mutual
  pub spell_stmt : Stmt → List Word → List Word
  spell_stmt Empty rest = Sign m.Semicolon ∷ rest
  spell_stmt (Assign name subscripts value) rest = Name name ∷ spell_subscripts subscripts (Sign m.Equals ∷ spell_expr value (Sign m.Semicolon ∷ rest))
  spell_stmt (Call name arguments) rest = Name name ∷ Sign m.Open ∷ spell_exprs arguments (Sign m.Close ∷ Sign m.Semicolon ∷ rest)
  spell_stmt (If condition body others) rest =
      Sign m.If ∷ spell_expr condition (Sign m.Then ∷ spell_stmts body (spell_arms others (Sign m.EndIf ∷ Sign m.Semicolon ∷ rest)))
  spell_stmt (For variable record_name body) rest =
      Sign m.For ∷ Name variable ∷ Sign m.In ∷ Name record_name ∷ Sign m.Do ∷ spell_stmts body (Sign m.EndDo ∷ Sign m.Semicolon ∷ rest)
  spell_stmt (Do counting body) rest = Sign m.Do ∷ spell_counting counting (spell_stmts body (Sign m.EndDo ∷ Sign m.Semicolon ∷ rest))
  spell_stmt (Jump' token jump) rest = Leave token jump ∷ Sign m.Semicolon ∷ rest
  spell_stmt (Impute name subscripts value) rest =
      Sign m.Impute ∷ Sign m.Open ∷ Name name ∷ spell_subscripts subscripts (Sign m.Comma ∷ spell_expr value (Sign m.Close ∷ Sign m.Semicolon ∷ rest))
  spell_stmt (PutDeck deck value) rest = Sign m.PutDeck ∷ Sign m.Open ∷ Name deck ∷ Sign m.Comma ∷ spell_expr value (Sign m.Close ∷ Sign m.Semicolon ∷ rest)
  spell_stmt (ErrMsg message values summary) rest =
      Sign m.ErrMsg ∷ Sign m.Open ∷ spell_message message (spell_others values (Sign m.Close ∷ spell_mark m.Summary summary (Sign m.Semicolon ∷ rest)))

  pub spell_stmts : Stmts → List Word → List Word
  spell_stmts no_stmt rest = rest
  spell_stmts (stmt_and x xs) rest = spell_stmt x (spell_stmts xs rest)

  pub spell_arms : Arms → List Word → List Word
  spell_arms no_arm rest = rest
  spell_arms (else_of body) rest = Sign m.Else ∷ spell_stmts body rest
  spell_arms (arm condition body others) rest = Sign m.ElseIf ∷ spell_expr condition (Sign m.Then ∷ spell_stmts body (spell_arms others rest))

abbrev pub IsLimit : Limit → ℕ → Type 0
IsLimit (Fixed x) room = is_within 0 999999999 x.digits.text ≡ true
IsLimit (Counted count name) room = IsName name × HasRoom room

abbrev pub IsBy : Option Spelling → Type 0
IsBy None = Unit {0}
IsBy (Some digits) = is_within 1 999 digits.text ≡ true

-- The two names are the same but for letter case.
abbrev pub IsCounting : Counting → ℕ → Type 0
IsCounting x room = IsName x.variable × IsLimit x.start room × IsName x.again × (str_eq_ignore_ascii_case x.variable.text x.again.text ≡ true) × IsLimit x.stop room × IsBy x.by

abbrev pub IsMessage : Message → Type 0
IsMessage (Own text) = IsText text
IsMessage (Numbered digits) = IsNumber digits

-- An open `if`, `for` or `do` takes room as a parenthesis does.
abbrev mutual
  pub IsStmt : Stmt → ℕ → Type 0
  IsStmt Empty room = Unit {0}
  IsStmt (Assign name subscripts value) room = IsName name × AreInner subscripts room × IsExpr value room
  IsStmt (Call name arguments) room = IsName name × HasRoom room × AreInner arguments room
  IsStmt (If condition body others) room = Below room (IsExpr condition) × Below room (AreStmts body) × AreArms others room
  IsStmt (For variable record_name body) room = IsName variable × IsName record_name × Below room (AreStmts body)
  IsStmt (Do counting body) room = Below room (IsCounting counting) × Below room (AreStmts body)
  IsStmt (Jump' token jump) room = Unit {0}
  IsStmt (Impute name subscripts value) room = IsName name × Below room (AreInner subscripts) × Below room (IsExpr value)
  IsStmt (PutDeck deck value) room = IsName deck × Below room (IsExpr value)
  IsStmt (ErrMsg message values summary) room = HasRoom room × IsMessage message × AreInner values room

  pub AreStmts : Stmts → ℕ → Type 0
  AreStmts no_stmt room = Unit {0}
  AreStmts (stmt_and x xs) room = IsStmt x room × AreStmts xs room

  pub AreArms : Arms → ℕ → Type 0
  AreArms no_arm room = Unit {0}
  AreArms (else_of body) room = Below room (AreStmts body)
  AreArms (arm condition body others) room = Below room (IsExpr condition) × Below room (AreStmts body) × AreArms others room

-- ---- sources

abbrev pub spell_dimension : Spells Dimension
spell_dimension (Sized digits) rest = Digits digits ∷ rest
spell_dimension (Rows set true) rest = Name set ∷ Sign m.Open ∷ Sign m.Plus ∷ Sign m.Close ∷ rest
spell_dimension (Rows set false) rest = Name set ∷ rest

abbrev pub spell_parameter : Spells Parameter
spell_parameter x rest = spell_mark m.Numeric x.declared (Name x.name ∷ rest)

abbrev pub spell_cells : Spells (List Literal)
spell_cells [] rest = rest
spell_cells (x ∷ xs) rest = Sign m.Equals ∷ spell_list spell_literal (x ∷ xs) rest

abbrev pub spell_array : Spells Array
spell_array x rest = Name x.name ∷ Sign m.Open ∷ spell_list spell_dimension x.dimensions (Sign m.Close ∷ spell_mark m.Save x.saved (spell_cells x.cells rest))

-- A `;` after the head of a function is an empty statement of its body.
abbrev pub spell_declaration : Spells Declaration
spell_declaration (Numeric names) rest = Sign m.Numeric ∷ spell_list spell_name names (Sign m.Semicolon ∷ rest)
spell_declaration (Alpha size names) rest = Sign m.Alpha ∷ Sign m.Open ∷ Digits size ∷ Sign m.Close ∷ spell_list spell_name names (Sign m.Semicolon ∷ rest)
spell_declaration (Array' array) rest = Sign m.Array ∷ spell_array array (Sign m.Semicolon ∷ rest)
spell_declaration (Function' name parameters body) rest =
    Sign m.Function ∷ Name name ∷ Sign m.Open ∷ spell_list spell_parameter parameters (Sign m.Close ∷ spell_stmts body (Sign m.End ∷ Sign m.Semicolon ∷ rest))

abbrev pub spell_body : Spells Body
spell_body (Plain xs) rest = spell_stmts xs rest
spell_body (Preproc xs) rest = Sign m.Preproc ∷ spell_stmts xs rest
spell_body (Both xs ys) rest = Sign m.Preproc ∷ spell_stmts xs (Sign m.Postproc ∷ spell_stmts ys rest)
spell_body (Postproc xs) rest = Sign m.Postproc ∷ spell_stmts xs rest

abbrev pub spell_procedure : Spells Procedure
spell_procedure x rest = Sign m.Proc ∷ Name x.name ∷ spell_body x.body rest

abbrev pub spell_globals : Spells (Option (List Declaration))
spell_globals None rest = rest
spell_globals (Some declarations) rest = Sign m.Proc ∷ Sign m.Global ∷ spell_all spell_declaration declarations rest

abbrev pub spell_tree : Tree → List Word
spell_tree x = spell_globals x.globals (spell_all spell_procedure x.procedures [])

abbrev pub IsDimension : Dimension → Type 0
IsDimension (Sized digits) = is_within 1 65535 digits.text ≡ true
IsDimension (Rows set one_more) = IsName set

abbrev pub IsParameter : Parameter → Type 0
IsParameter x = IsName x.name

abbrev pub IsLiteral : Literal → Type 0
IsLiteral x = IsNumber x.digits

abbrev pub IsArray : Array → Type 0
IsArray x = IsName x.name × IsSome x.dimensions × Each IsDimension x.dimensions × Each IsLiteral x.cells

abbrev pub IsDeclaration : ℕ → Declaration → Type 0
IsDeclaration room (Numeric names) = IsSome names × Each IsName names
IsDeclaration room (Alpha size names) = (is_within 1 255 size.text ≡ true) × IsSome names × Each IsName names
IsDeclaration room (Array' array) = IsArray array
IsDeclaration room (Function' name parameters body) = IsName name × Each IsParameter parameters × AreStmts body room

abbrev pub IsBody : ℕ → Body → Type 0
IsBody room (Plain xs) = AreStmts xs room
IsBody room (Preproc xs) = AreStmts xs room
IsBody room (Both xs ys) = AreStmts xs room × AreStmts ys room
IsBody room (Postproc xs) = AreStmts xs room

abbrev pub IsProcedure : ℕ → Procedure → Type 0
IsProcedure room x = IsName x.name × IsBody room x.body

abbrev pub AreGlobals : ℕ → Option (List Declaration) → Type 0
AreGlobals room None = Unit {0}
AreGlobals room (Some declarations) = Each (IsDeclaration room) declarations

-- The words are those of a source, with at most this many parentheses and statements open at once.
abbrev pub IsSource : ℕ → Tree → List Word → Type 0
IsSource room x ws = AreGlobals room x.globals × Each (IsProcedure room) x.procedures × (ws ≡ spell_tree x)
