-- Reading from left to right: a tree and the words after it, or nothing. Expressions.
use Rattle.std.specs.Prelude.{◌≤◌, ℕ, zero, suc, ◌≡◌, Bool, true, false, if◌then◌else◌, List, [], ◌∷◌, length, drop, Option, Some, None, Result, Ok, Err}
use denote.Enum.Bare.{sameb}
use Rattle.cse_syntax_tree.specs.declared.token.Mark.{Mark}
use Rattle.cse_syntax_tree.specs.contracts.token.Mark.{the_type}
use Rattle.cse_syntax_tree.specs.declared.token.Mark.TheVariants as m
use Rattle.cse_syntax.specs.declared.error.ReadError.{ReadError}
use Rattle.cse_syntax.specs.declared.error.ReadError.TheVariants as errors
use Rattle.cse_syntax_tree.specs.declared.tree.Operator.{Operator}
use Rattle.cse_syntax_tree.specs.declared.tree.Operator.TheVariants as o
use Rattle.cse_syntax_tree.specs.declared.tree.Relation.{Relation}
use Rattle.cse_syntax_tree.specs.declared.tree.Relation.TheVariants as r
use Rattle.cse_syntax_tree.specs.declared.tree.Function.{Function}
use Rattle.cse_syntax_tree.specs.declared.tree.Function.TheVariants as f
use Rattle.cse_syntax_tree.specs.declared.tree.Query.{Query}
use Rattle.cse_syntax_tree.specs.declared.tree.Query.TheVariants as q
use Rattle.cse_syntax_tree.specs.declared.token.Token.{Token}
use Rattle.cse_syntax.specs.declared.parser.Level.{Level}
use Rattle.cse_syntax.specs.declared.parser.Level.TheVariants as level
use Rattle.cse_syntax_tree.specs.Word.{Word, Name, Digits, Quoted, Value, Sign, word_of, words}
pub use Rattle.cse_syntax.specs.Loop.{◌>>=◌, Reader, loop, snoc}
use Rattle.cse_syntax_tree.specs.Tree.{Spelling, Expr, Number, Text, Special', Bare, Indexed, Group, Apply, Query', InValueSet, Minus, Not, Compare, Chain, exprs, operations}
use Rattle.cse_syntax_tree.specs.Leaf.{is_token, is_name, is_within, is_text, MOST}

abbrev pub Parser : Type 0 → Type 0
Parser A = Reader Word A

-- What a method returned, seen by view, and the words after it are what reading gives, unless memory ran out.
abbrev pub Fails : {A : Type 0} → ReadError → Option A → Type 0
Fails errors.Memory reading = Unit {0}
Fails (errors.Found fault) reading = reading ≡ None

-- an error that isn't about memory
abbrev pub IsFault : ReadError → Type 0
IsFault errors.Memory = ⊥
IsFault (errors.Found fault) = Unit {0}

-- A function makes this tree, unless memory ran out.
abbrev pub Makes : {A B : Type 0} → (A → B) → Result A ReadError → B → Type 0
Makes view (Ok x) made = view x ≡ made
Makes view (Err e) made = e ≡ errors.Memory

abbrev pub Gives : {A B : Type 0} → (A → B) → Result A ReadError → Option (B × List Word) → List Word → Type 0
Gives view (Ok x) reading after = reading ≡ Some (view x, after)
Gives view (Err e) reading after = Fails e reading

-- A method gives what reading gives, and leaves the words after it.
pub record Reads {A B : Type 0} (view : A → B) (read : Parser B) (result : Result A ReadError) (old new : List Token) : Type 0 where
  pub value : Gives view result (read (words old)) (words new)
  pub shorter : length new ≤ length old

-- the same where nothing is left
abbrev pub GivesAll : {A B : Type 0} → (A → B) → Result A ReadError → Option B → Type 0
GivesAll view (Ok x) reading = reading ≡ Some (view x)
GivesAll view (Err e) reading = Fails e reading

-- the same of a method that only looks for something
abbrev pub Leaves : {A : Type 0} → Result A ReadError → Option (List Word) → List Word → Type 0
Leaves (Ok x) reading after = reading ≡ Some after
Leaves (Err e) reading after = Fails e reading

-- the next token, if there is one
abbrev pub Takes : Option Token → List Word → List Word → Type 0
Takes None old new = (old ≡ []) × (new ≡ [])
Takes (Some t) old new = (old ≡ word_of t ∷ new) × (is_token t.kind t.text.now ≡ true)

-- `==` on marks
abbrev pub same : Mark → Mark → Bool
same = sameb the_type

-- whether the next word is this mark
abbrev pub sees : Mark → List Word → Bool
sees mark (Sign found ∷ rest) = same found mark
sees mark _ = false

-- the words after this mark
abbrev pub expect : Mark → List Word → Option (List Word)
expect mark ws = if sees mark ws then Some (drop 1 ws) else None

-- what a method gives that only looks for this mark
abbrev pub after : Mark → List Word → List Word
after mark ws = if sees mark ws then drop 1 ws else ws

-- the words after this mark and a semicolon, which end a statement
unfoldable pub ends : Mark → List Word → Option (List Word)
ends mark ws = expect mark ws >>= expect m.Semicolon

-- the words after a parenthesis, where one more may be open
abbrev pub enter : ℕ → List Word → Option (List Word)
enter zero ws = None
enter (suc room) ws = expect m.Open ws

abbrev pub take_name : Parser Spelling
take_name (Name name ∷ ws) = if is_name name.text then Some (name, ws) else None
take_name _ = None

-- a name, and this mark behind it
unfoldable pub name_before : Mark → Parser Spelling
name_before mark ws = do
  name ← take_name ws
  rest ← expect mark name.1
  Some (name.0, rest)

-- a number in this range
abbrev pub take_number : ℕ → ℕ → Parser Spelling
take_number least most (Digits digits ∷ ws) = if is_within least most digits.text then Some (digits, ws) else None
take_number least most _ = None

-- ---- lists with commas

abbrev pub after_comma : {A : Type 0} → Parser A → Parser A
after_comma item ws = expect m.Comma ws >>= item

abbrev pub others_from : {A : Type 0} → Parser A → ℕ → List A → Parser (List A)
others_from item = loop (sees m.Comma) (after_comma item) snoc

unfoldable pub listed : {A : Type 0} → Parser A → Parser (List A)
listed item ws = do
  first ← item ws
  others_from item (length first.1) (first.0 ∷ []) first.1

-- ---- operators that group to the left

abbrev pub operator_at : {A : Type 0} → (Mark → Option A) → List Word → Option A
operator_at operator (Sign found ∷ rest) = operator found
operator_at operator _ = None

abbrev pub is_some : {A : Type 0} → Option A → Bool
is_some None = false
is_some (Some x) = true

abbrev pub operation : (Mark → Option Operator) → Parser Expr → Parser (Operator × Expr)
operation operator operand ws = do
  found ← operator_at operator ws
  y ← operand (drop 1 ws)
  Some ((found, y.0), y.1)

abbrev pub operations_from : (Mark → Option Operator) → Parser Expr → ℕ → List (Operator × Expr) → Parser (List (Operator × Expr))
operations_from operator operand = loop (λ ws. is_some (operator_at operator ws)) (operation operator operand) snoc

abbrev pub chained : Expr → List (Operator × Expr) → Expr
chained x [] = x
chained x (y ∷ ys) = Chain x (operations (y ∷ ys))

abbrev pub chain : (Mark → Option Operator) → Parser Expr → Parser Expr
chain operator operand ws = do
  x ← operand ws
  ys ← operations_from operator operand (length x.1) [] x.1
  Some (chained x.0 ys.0, ys.1)

abbrev pub or_operator : Mark → Option Operator
or_operator m.Or = Some o.Or
or_operator _ = None

abbrev pub and_operator : Mark → Option Operator
and_operator m.And = Some o.And
and_operator _ = None

abbrev pub sum_operator : Mark → Option Operator
sum_operator m.Plus = Some o.Add
sum_operator m.Minus = Some o.Subtract
sum_operator _ = None

abbrev pub product_operator : Mark → Option Operator
product_operator m.Star = Some o.Multiply
product_operator m.Slash = Some o.Divide
product_operator m.Percent = Some o.Remainder
product_operator _ = None

abbrev pub operator_of : Level → Mark → Option Operator
operator_of level.Or = or_operator
operator_of level.And = and_operator
operator_of level.Sum = sum_operator
operator_of level.Product = product_operator

abbrev pub relation_of : Mark → Option Relation
relation_of m.Equals = Some r.Equal
relation_of m.Differs = Some r.Differs
relation_of m.Less = Some r.Less
relation_of m.AtMost = Some r.AtMost
relation_of m.More = Some r.More
relation_of m.AtLeast = Some r.AtLeast
relation_of _ = None

-- the set after an item, if one stands there
unfoldable pub set_after : Parser (Option Spelling)
set_after ws =
    if sees m.Comma ws then (do
      name ← take_name (drop 1 ws)
      Some (Some name.0, name.1))
    else Some (None, ws)

-- ---- expressions, with room for this many parentheses, where inner reads an expression in them
module _ (room : ℕ) (inner : Parser Expr) where
  -- in parentheses, one at least
  unfoldable pub bracketed : Parser (List Expr)
  bracketed ws = do
    rest ← enter room ws
    all ← listed inner rest
    behind ← expect m.Close all.1
    Some (all.0, behind)

  unfoldable pub subscripts : Parser (List Expr)
  subscripts ws = if sees m.Open ws then bracketed ws else Some ([], ws)

  -- in parentheses, if there are any
  unfoldable pub arguments : Parser (List Expr)
  arguments ws = do
    rest ← enter room ws
    if sees m.Close rest
        then Some ([], drop 1 rest)
        else (do
          all ← listed inner rest
          behind ← expect m.Close all.1
          Some (all.0, behind))

  unfoldable pub named : Spelling → Parser Expr
  named name ws =
      if sees m.Open ws then (do
        all ← arguments ws
        Some (Indexed name (exprs all.0), all.1))
      else Some (Bare name, ws)

  -- an expression, up to the parenthesis that closes it
  unfoldable pub closed : Parser Expr
  closed ws = do
    x ← inner ws
    rest ← expect m.Close x.1
    Some (x.0, rest)

  unfoldable pub group : Parser Expr
  group ws = do
    x ← closed ws
    Some (Group x.0, x.1)

  unfoldable pub apply : Function → Parser Expr
  apply function ws = do
    rest ← enter room ws
    x ← closed rest
    Some (Apply function x.0, x.1)

  unfoldable pub query : Query → Parser Expr
  query which ws = do
    rest ← enter room ws
    name ← name_before m.Close rest
    Some (Query' which name.0, name.1)

  unfoldable pub member : Parser Expr
  member ws = do
    rest ← enter room ws
    item ← take_name rest
    set ← set_after item.1
    behind ← expect m.Close set.1
    Some (InValueSet item.0 set.0, behind)

  -- after a mark that begins an operand
  unfoldable pub marked : Mark → Parser Expr
  marked m.Open ws = group ws
  marked m.Int ws = apply f.Int ws
  marked m.Special ws = apply f.Special ws
  marked m.GetDeck ws = query q.GetDeck ws
  marked m.TotOcc ws = query q.TotOcc ws
  marked m.MaxOcc ws = query q.MaxOcc ws
  marked m.CurOcc ws = query q.CurOcc ws
  marked m.InValueSet ws = member ws
  marked _ ws = None

  unfoldable pub prim : Parser Expr
  prim (Digits digits ∷ ws) = if is_within 0 MOST digits.text then Some (Number digits, ws) else None
  prim (Quoted text ∷ ws) = if is_text text.text then Some (Text text, ws) else None
  prim (Value token value ∷ ws) = Some (Special' token value, ws)
  prim (Name name ∷ ws) = if is_name name.text then named name ws else None
  prim (Sign mark ∷ ws) = marked mark ws
  prim _ = None

  unfoldable pub unary : Parser Expr
  unary ws =
      if sees m.Minus ws then (do
        x ← prim (drop 1 ws)
        Some (Minus x.0, x.1))
      else prim ws

  unfoldable pub product : Parser Expr
  product = chain product_operator unary

  unfoldable pub sum : Parser Expr
  sum = chain sum_operator product

  -- after the first sum, where this relation comes next
  unfoldable pub related : Expr → Option Relation → Parser Expr
  related x None ws = Some (x, ws)
  related x (Some which) ws = do
    y ← sum (drop 1 ws)
    Some (Compare which x y.0, y.1)

  unfoldable pub relation : Parser Expr
  relation ws = do
    x ← sum ws
    related x.0 (operator_at relation_of x.1) x.1

  unfoldable pub negation : Parser Expr
  negation ws =
      if sees m.Not ws then (do
        x ← relation (drop 1 ws)
        Some (Not x.0, x.1))
      else relation ws

  unfoldable pub conjunction : Parser Expr
  conjunction = chain and_operator negation

  unfoldable pub disjunction : Parser Expr
  disjunction = chain or_operator conjunction

  -- what stands between the operators of a level
  abbrev pub operand_of : Level → Parser Expr
  operand_of level.Or = conjunction
  operand_of level.And = negation
  operand_of level.Sum = product
  operand_of level.Product = unary

-- an expression behind one more parenthesis or statement, with room for this many
unfoldable pub nested : ℕ → Parser Expr
nested zero ws = None
nested (suc room) ws = disjunction room (nested room) ws

abbrev pub expr_at : ℕ → Parser Expr
expr_at room = disjunction room (nested room)
