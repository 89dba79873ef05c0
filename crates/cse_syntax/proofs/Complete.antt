-- What is of the grammar is read, up to a rest that doesn't go on with it.
use Rattle.std.proofs.Common.{◌≡◌, ℕ, zero, suc, ◌≤◌, ◌<◌, ◌⊎◌, false, List, [], ◌∷◌, ◌++◌, length, Option, Some, None, refl, ap, subst, ◌∙◌, arith, inl, inr, append_assoc}
use Rattle.std.proofs.lemmas.Bool.{cases_lt}
use Rattle.std.proofs.lemmas.List.{append-nil}
use Rattle.cse_syntax_tree.specs.declared.token.Mark.{Mark}
use Rattle.cse_syntax_tree.specs.declared.token.Mark.TheVariants as m
use Rattle.cse_syntax_tree.specs.declared.tree.Operator.{Operator}
use Rattle.cse_syntax_tree.specs.declared.tree.Operator.TheVariants as o
use Rattle.cse_syntax_tree.specs.declared.tree.Relation.{Relation}
use Rattle.cse_syntax_tree.specs.declared.tree.Relation.TheVariants as r
use Rattle.cse_syntax_tree.specs.declared.tree.Function.{Function}
use Rattle.cse_syntax_tree.specs.declared.tree.Function.TheVariants as u
use Rattle.cse_syntax_tree.specs.declared.tree.Query.{Query}
use Rattle.cse_syntax_tree.specs.declared.tree.Query.TheVariants as q
use Rattle.cse_syntax_tree.specs.Word.{Word, Name, Sign}
use Rattle.cse_syntax_tree.specs.Tree.{Spelling, Expr, Exprs, Operations, Number, Text, Special', Bare, Indexed, Group, Apply, Query', InValueSet, Minus, Not, Compare, Chain, no_expr, expr_and, no_operation, operation_and, exprs, operations}
use Rattle.cse_syntax_tree.specs.Grammar.{sign, relation_sign, spell_each, spell_list, spell_set, Each, IsSome, spell_expr, spell_exprs, spell_others, spell_operations, binds, level, rule, Below, HasRoom, IsExpr, AreInner, AreOperations, spell_subscripts, IsName, IsSetName}
use Rattle.cse_syntax.specs.Reading.{Parser, sees, enter, snoc, others_from, listed, operator_at, operations_from, chain, or_operator, and_operator, sum_operator, product_operator, relation_of, bracketed, subscripts, arguments, named, closed, group, apply, name_before, query, set_after, member, marked, prim, unary, product, sum, related, relation, negation, conjunction, disjunction, nested}
use Rattle.cse_syntax.proofs.Sound.{IsAt, IsInner}

-- How tightly the next word binds to an expression before it.
abbrev pub follow_mark : Mark → ℕ
follow_mark m.Open = 9
follow_mark m.Star = 6
follow_mark m.Slash = 6
follow_mark m.Percent = 6
follow_mark m.Plus = 5
follow_mark m.Minus = 5
follow_mark m.Equals = 4
follow_mark m.Differs = 4
follow_mark m.Less = 4
follow_mark m.AtMost = 4
follow_mark m.More = 4
follow_mark m.AtLeast = 4
follow_mark m.And = 2
follow_mark m.Or = 1
follow_mark _ = 0

abbrev pub follow : List Word → ℕ
follow (Sign found ∷ ws) = follow_mark found
follow _ = 0

-- A reader reads each tree of a rule, where the rest doesn't go on with it.
abbrev Reads : ℕ → ℕ → Parser Expr → Type 0
Reads level room read = (x : Expr) (rest : List Word) → IsAt level room x → follow rest < level → read (spell_expr x rest) ≡ Some (x, rest)

mutual
  pub longer_expr : (x : Expr) (rest : List Word) → length rest ≤ length (spell_expr x rest)
  longer_expr (Number digits) rest = omega arith
  longer_expr (Text text) rest = omega arith
  longer_expr (Special' token value) rest = omega arith
  longer_expr (Bare name) rest = omega arith
  longer_expr (Indexed name xs) rest = omega (arith, longer_exprs xs (Sign m.Close ∷ rest))
  longer_expr (Group x) rest = omega (arith, longer_expr x (Sign m.Close ∷ rest))
  longer_expr (Apply function x) rest = omega (arith, longer_expr x (Sign m.Close ∷ rest))
  longer_expr (Query' query name) rest = omega arith
  longer_expr (InValueSet item None) rest = omega arith
  longer_expr (InValueSet item (Some set)) rest = omega arith
  longer_expr (Minus x) rest = omega (arith, longer_expr x rest)
  longer_expr (Not x) rest = omega (arith, longer_expr x rest)
  longer_expr (Compare which x y) rest = omega (arith, longer_expr x (Sign (relation_sign which) ∷ spell_expr y rest), longer_expr y rest)
  longer_expr (Chain x ys) rest = omega (arith, longer_expr x (spell_operations ys rest), longer_operations ys rest)

  pub longer_exprs : (xs : Exprs) (rest : List Word) → length rest ≤ length (spell_exprs xs rest)
  longer_exprs no_expr rest = omega arith
  longer_exprs (expr_and x xs) rest = omega (arith, longer_expr x (spell_others xs rest), longer_others xs rest)

  pub longer_others : (xs : Exprs) (rest : List Word) → length rest ≤ length (spell_others xs rest)
  longer_others no_expr rest = omega arith
  longer_others (expr_and x xs) rest = omega (arith, longer_expr x (spell_others xs rest), longer_others xs rest)

  longer_operations : (xs : Operations) (rest : List Word) → length rest ≤ length (spell_operations xs rest)
  longer_operations no_operation rest = omega arith
  longer_operations (operation_and op x xs) rest = omega (arith, longer_expr x (spell_operations xs rest), longer_operations xs rest)

pub longer_subscripts : (xs : Exprs) (rest : List Word) → length rest ≤ length (spell_subscripts xs rest)
longer_subscripts no_expr rest = omega arith
longer_subscripts (expr_and x xs) rest = omega (arith, longer_exprs (expr_and x xs) (Sign m.Close ∷ rest))

-- ---- lists with commas

module _ {A : Type 0} (spell : A → List Word → List Word) (P : A → Type 0) (item : Parser A) (Stops : List Word → Type 0)
    (item_reads : (x : A) (rest : List Word) → P x → Stops rest → item (spell x rest) ≡ Some (x, rest)) (longer : (x : A) (rest : List Word) → length rest ≤ length (spell x rest))
    (comma : (ws : List Word) → Stops (Sign m.Comma ∷ ws)) where
  stops_each : (xs : List A) (rest : List Word) → Stops rest → Stops (spell_each spell xs rest)
  stops_each [] rest s = s
  stops_each (x ∷ xs) rest s = comma (spell x (spell_each spell xs rest))

  pub each_read : (xs : List A) (n : ℕ) (found : List A) (rest : List Word) → Each P xs → Stops rest → sees m.Comma rest ≡ false → length (spell_each spell xs rest) ≤ n
      → others_from item n found (spell_each spell xs rest) ≡ Some (found ++ xs, rest)
  each_read [] zero found rest h s c le = rw append-nil refl
  each_read [] (suc n) found rest h s c le = rw (c, append-nil) refl
  each_read (x ∷ xs) zero found rest h s c le = absurd (omega arith)
  each_read (x ∷ xs) (suc n) found rest h s c le =
      let one = item_reads x (spell_each spell xs rest) h.0 (stops_each xs rest s) in
      let go = each_read xs n (snoc found x) rest h.1 s c (omega (arith, longer x (spell_each spell xs rest))) in
      rw (one, go) (rw append_assoc refl)

  pub listed_reads : (xs : List A) (rest : List Word) → IsSome xs → Each P xs → Stops rest → sees m.Comma rest ≡ false → listed item (spell_list spell xs rest) ≡ Some (xs, rest)
  unfolding listed
  listed_reads [] rest i h s c = absurd i
  listed_reads (x ∷ xs) rest i h s c =
      let one = item_reads x (spell_each spell xs rest) h.0 (stops_each xs rest s) in
      let go = each_read xs (length (spell_each spell xs rest)) (x ∷ []) rest h.1 s c (omega arith) in
      rw (one, go) refl

-- ---- operators

follow_sign : (op : Operator) → follow_mark (sign op) ≡ binds op
follow_sign o.Or = refl
follow_sign o.And = refl
follow_sign o.Add = refl
follow_sign o.Subtract = refl
follow_sign o.Multiply = refl
follow_sign o.Divide = refl
follow_sign o.Remainder = refl

binds_gap : (op : Operator) → (binds op ≤ 2) ⊎ ((5 ≤ binds op) × (binds op ≤ 6))
binds_gap o.Or = inl (omega arith)
binds_gap o.And = inl (omega arith)
binds_gap o.Add = inr (omega arith, omega arith)
binds_gap o.Subtract = inr (omega arith, omega arith)
binds_gap o.Multiply = inr (omega arith, omega arith)
binds_gap o.Divide = inr (omega arith, omega arith)
binds_gap o.Remainder = inr (omega arith, omega arith)

level_gap : (ys : Operations) → (level ys ≤ 2) ⊎ ((5 ≤ level ys) × (level ys ≤ 6))
level_gap no_operation = inl (omega arith)
level_gap (operation_and op y ys) = binds_gap op

level_small : (ys : Operations) → level ys ≤ 6
level_small ys = elim (level_gap ys) [ inl h ↦ omega arith | inr h ↦ h.1 ]

abbrev operation_list : Operations → List (Operator × Expr)
operation_list no_operation = []
operation_list (operation_and op y ys) = (op, y) ∷ operation_list ys

operations-operation_list : (ys : Operations) → operations (operation_list ys) ≡ ys
operations-operation_list no_operation = refl
operations-operation_list (operation_and op y ys) = ap (operation_and op y) (operations-operation_list ys)

record Chains (operator : Mark → Option Operator) (level : ℕ) : Type 0 where
  takes : (op : Operator) → binds op ≡ level → operator (sign op) ≡ Some op
  stops : (ws : List Word) → follow ws < level → operator_at operator ws ≡ None

module _ (operator : Mark → Option Operator) (at room : ℕ) (chains : Chains operator at) (small : at ≤ 6) (three : at ≡ 3 → ⊥) (four : at ≡ 4 → ⊥) (operand : Parser Expr) (reads : Reads (suc at) room operand) where
  follow_operations : (ys : Operations) (rest : List Word) → AreOperations ys at room → follow rest < at → follow (spell_operations ys rest) < suc at
  follow_operations no_operation rest h f = omega arith
  follow_operations (operation_and op y ys) rest h f = omega (arith, follow_sign op, h.0)

  operations_read : (ys : Operations) (n : ℕ) (found : List (Operator × Expr)) (rest : List Word) → AreOperations ys at room → follow rest < at → length (spell_operations ys rest) ≤ n
      → operations_from operator operand n found (spell_operations ys rest) ≡ Some (found ++ operation_list ys, rest)
  operations_read no_operation zero found rest h f le = rw append-nil refl
  operations_read no_operation (suc n) found rest h f le = rw (chains.stops rest f, append-nil) refl
  operations_read (operation_and op y ys) zero found rest h f le = absurd (omega arith)
  operations_read (operation_and op y ys) (suc n) found rest h f le =
      let one = reads y (spell_operations ys rest) (h.1, h.2) (follow_operations ys rest h.3 f) in
      let t = chains.takes op h.0 in
      let go = operations_read ys n (snoc found (op, y)) rest h.3 f (omega (arith, longer_expr y (spell_operations ys rest))) in
      rw (t, one, go) (rw append_assoc refl)

  operand_only : (x : Expr) (rest : List Word) → IsAt (suc at) room x → follow rest < at → chain operator operand (spell_expr x rest) ≡ Some (x, rest)
  operand_only x rest h f = rw (reads x rest h (omega arith), operations_read no_operation (length rest) [] rest tt f (omega arith)) refl

  whole_chain : (x : Expr) (op : Operator) (y : Expr) (ys : Operations) (rest : List Word) → IsAt (suc at) room x → AreOperations (operation_and op y ys) at room → follow rest < at → chain operator operand (spell_expr x (spell_operations (operation_and op y ys) rest)) ≡ Some (Chain x (operation_and op y ys), rest)
  whole_chain x op y ys rest h i f =
      let one = reads x (spell_operations (operation_and op y ys) rest) h (follow_operations (operation_and op y ys) rest i f) in
      let go = operations_read (operation_and op y ys) (length (spell_operations (operation_and op y ys) rest)) [] rest i f (omega arith) in
      rw (one, go, operations-operation_list ys) refl

  chain_reads : Reads at room (chain operator operand)
  chain_reads (Chain x no_operation) rest h f = absurd (omega (arith, h.1.0))
  chain_reads (Chain x (operation_and op y ys)) rest h f =
      elim (cases_lt at (binds op)) [
        | inl lt ↦ operand_only (Chain x (operation_and op y ys)) rest (omega arith, h.1) f
        | inr le ↦
            let b : binds op ≡ at = omega (arith, h.0) in
            whole_chain x op y ys rest (omega (arith, b, h.1.1), h.1.2) (subst (λ (n : ℕ). AreOperations (operation_and op y ys) n room) b h.1.3) f
      ]
  chain_reads (Not x) rest h f =
      elim (cases_lt at 3) [
        | inl lt ↦ operand_only (Not x) rest (omega arith, h.1) f
        | inr le ↦ absurd (three (omega (arith, h.0)))
      ]
  chain_reads (Compare which x y) rest h f =
      elim (cases_lt at 4) [
        | inl lt ↦ operand_only (Compare which x y) rest (omega arith, h.1) f
        | inr le ↦ absurd (four (omega (arith, h.0)))
      ]
  chain_reads x rest h f = operand_only x rest (omega arith, h.1) f

or_takes : (op : Operator) → binds op ≡ 1 → or_operator (sign op) ≡ Some op
or_takes o.Or h = refl
or_takes _ h = absurd (omega arith)

or_stops : (ws : List Word) → follow ws < 1 → operator_at or_operator ws ≡ None
or_stops (Sign m.Or ∷ ws) h = absurd (omega arith)
or_stops _ h = refl

and_takes : (op : Operator) → binds op ≡ 2 → and_operator (sign op) ≡ Some op
and_takes o.And h = refl
and_takes _ h = absurd (omega arith)

and_stops : (ws : List Word) → follow ws < 2 → operator_at and_operator ws ≡ None
and_stops (Sign m.And ∷ ws) h = absurd (omega arith)
and_stops _ h = refl

sum_takes : (op : Operator) → binds op ≡ 5 → sum_operator (sign op) ≡ Some op
sum_takes o.Add h = refl
sum_takes o.Subtract h = refl
sum_takes _ h = absurd (omega arith)

sum_stops : (ws : List Word) → follow ws < 5 → operator_at sum_operator ws ≡ None
sum_stops (Sign m.Plus ∷ ws) h = absurd (omega arith)
sum_stops (Sign m.Minus ∷ ws) h = absurd (omega arith)
sum_stops _ h = refl

product_takes : (op : Operator) → binds op ≡ 6 → product_operator (sign op) ≡ Some op
product_takes o.Multiply h = refl
product_takes o.Divide h = refl
product_takes o.Remainder h = refl
product_takes _ h = absurd (omega arith)

product_stops : (ws : List Word) → follow ws < 6 → operator_at product_operator ws ≡ None
product_stops (Sign m.Star ∷ ws) h = absurd (omega arith)
product_stops (Sign m.Slash ∷ ws) h = absurd (omega arith)
product_stops (Sign m.Percent ∷ ws) h = absurd (omega arith)
product_stops _ h = refl

relation_takes : (which : Relation) → relation_of (relation_sign which) ≡ Some which
relation_takes r.Equal = refl
relation_takes r.Differs = refl
relation_takes r.Less = refl
relation_takes r.AtMost = refl
relation_takes r.More = refl
relation_takes r.AtLeast = refl

follow_relation : (which : Relation) → follow_mark (relation_sign which) ≡ 4
follow_relation r.Equal = refl
follow_relation r.Differs = refl
follow_relation r.Less = refl
follow_relation r.AtMost = refl
follow_relation r.More = refl
follow_relation r.AtLeast = refl

relation_stops : (ws : List Word) → follow ws < 4 → operator_at relation_of ws ≡ None
relation_stops (Sign m.Equals ∷ ws) h = absurd (omega arith)
relation_stops (Sign m.Differs ∷ ws) h = absurd (omega arith)
relation_stops (Sign m.Less ∷ ws) h = absurd (omega arith)
relation_stops (Sign m.AtMost ∷ ws) h = absurd (omega arith)
relation_stops (Sign m.More ∷ ws) h = absurd (omega arith)
relation_stops (Sign m.AtLeast ∷ ws) h = absurd (omega arith)
relation_stops _ h = refl

-- ---- first words

pub no_open : (ws : List Word) → follow ws < 9 → sees m.Open ws ≡ false
no_open (Sign m.Open ∷ ws) h = absurd (omega arith)
no_open _ h = refl

no_close : (x : Expr) (rest : List Word) → sees m.Close (spell_expr x rest) ≡ false
no_close (Apply u.Int x) rest = refl
no_close (Apply u.Special x) rest = refl
no_close (Query' q.GetDeck name) rest = refl
no_close (Query' q.TotOcc name) rest = refl
no_close (Query' q.MaxOcc name) rest = refl
no_close (Query' q.CurOcc name) rest = refl
no_close (Compare which x y) rest = no_close x (Sign (relation_sign which) ∷ spell_expr y rest)
no_close (Chain x ys) rest = no_close x (spell_operations ys rest)
no_close x rest = refl

no_minus : (x : Expr) (rest : List Word) → 8 ≤ rule x → sees m.Minus (spell_expr x rest) ≡ false
no_minus (Apply u.Int x) rest h = refl
no_minus (Apply u.Special x) rest h = refl
no_minus (Query' q.GetDeck name) rest h = refl
no_minus (Query' q.TotOcc name) rest h = refl
no_minus (Query' q.MaxOcc name) rest h = refl
no_minus (Query' q.CurOcc name) rest h = refl
no_minus (Minus x) rest h = absurd (omega arith)
no_minus (Compare which x y) rest h = absurd (omega arith)
no_minus (Chain x ys) rest h = absurd (omega (arith, level_small ys))
no_minus x rest h = refl

no_not : (x : Expr) (room : ℕ) (rest : List Word) → IsExpr x room → 4 ≤ rule x → sees m.Not (spell_expr x rest) ≡ false
no_not (Apply u.Int x) room rest h r = refl
no_not (Apply u.Special x) room rest h r = refl
no_not (Query' q.GetDeck name) room rest h r = refl
no_not (Query' q.TotOcc name) room rest h r = refl
no_not (Query' q.MaxOcc name) room rest h r = refl
no_not (Query' q.CurOcc name) room rest h r = refl
no_not (Not x) room rest h r = absurd (omega arith)
no_not (Compare which x y) room rest h r = no_not x room (Sign (relation_sign which) ∷ spell_expr y rest) h.2 (omega (arith, h.0))
no_not (Chain x ys) room rest h r = no_not x room (spell_operations ys rest) h.2 (omega (arith, h.1))
no_not x room rest h r = refl

-- ---- expressions in parentheses

abbrev pub list_of : Exprs → List Expr
list_of no_expr = []
list_of (expr_and x xs) = x ∷ list_of xs

pub exprs-list_of : (xs : Exprs) → exprs (list_of xs) ≡ xs
exprs-list_of no_expr = refl
exprs-list_of (expr_and x xs) = ap (expr_and x) (exprs-list_of xs)

pub others_list : (xs : Exprs) (rest : List Word) → spell_others xs rest ≡ spell_each spell_expr (list_of xs) rest
others_list no_expr rest = refl
others_list (expr_and x xs) rest = ap (λ (ws : List Word). Sign m.Comma ∷ spell_expr x ws) (others_list xs rest)

exprs_list : (xs : Exprs) (rest : List Word) → spell_exprs xs rest ≡ spell_list spell_expr (list_of xs) rest
exprs_list no_expr rest = refl
exprs_list (expr_and x xs) rest = ap (spell_expr x) (others_list xs rest)

each_inner : (room : ℕ) (xs : Exprs) → AreInner xs room → Each (IsInner room) (list_of xs)
each_inner room no_expr h = tt
each_inner room (expr_and x xs) h = (h.0, each_inner room xs h.1)

pub enter_reads : (room : ℕ) (ws : List Word) → HasRoom room → enter room (Sign m.Open ∷ ws) ≡ Some ws
enter_reads zero ws h = absurd h
enter_reads (suc room) ws h = refl

pub has_room : (room : ℕ) (P : ℕ → Type 0) → Below room P → HasRoom room
has_room zero P h = absurd h
has_room (suc room) P h = tt

abbrev pub ReadsInner : ℕ → Parser Expr → Type 0
ReadsInner room read = (x : Expr) (rest : List Word) → IsInner room x → follow rest < 1 → read (spell_expr x rest) ≡ Some (x, rest)

abbrev pub Ends : List Word → Type 0
Ends rest = follow rest < 1

module _ (room : ℕ) (inner : Parser Expr) (inner_reads : ReadsInner room inner) where
  pub inner_listed : (x : Expr) (xs : Exprs) (rest : List Word) → AreInner (expr_and x xs) room → listed inner (spell_exprs (expr_and x xs) (Sign m.Close ∷ rest)) ≡ Some (x ∷ list_of xs, Sign m.Close ∷ rest)
  inner_listed x xs rest h =
      let e = exprs_list (expr_and x xs) (Sign m.Close ∷ rest) in
      ap (listed inner) e ∙ listed_reads spell_expr (IsInner room) inner Ends inner_reads longer_expr (λ ws. omega arith) (x ∷ list_of xs) (Sign m.Close ∷ rest) tt (each_inner room (expr_and x xs) h) (omega arith) refl

  pub subscripts_read : (xs : Exprs) (rest : List Word) → AreInner xs room → follow rest < 9 → subscripts room inner (spell_subscripts xs rest) ≡ Some (list_of xs, rest)
  unfolding subscripts bracketed
  subscripts_read no_expr rest h f = rw (no_open rest f) refl
  subscripts_read (expr_and x xs) rest h f =
      let a = enter_reads room (spell_exprs (expr_and x xs) (Sign m.Close ∷ rest)) (has_room room (IsExpr x) h.0) in
      rw (a, inner_listed x xs rest h) refl

  pub arguments_read : (xs : Exprs) (rest : List Word) → HasRoom room → AreInner xs room → arguments room inner (Sign m.Open ∷ spell_exprs xs (Sign m.Close ∷ rest)) ≡ Some (list_of xs, rest)
  unfolding arguments
  arguments_read no_expr rest i h = rw (enter_reads room (Sign m.Close ∷ rest) i) refl
  arguments_read (expr_and x xs) rest i h =
      let a = enter_reads room (spell_exprs (expr_and x xs) (Sign m.Close ∷ rest)) i in
      let c = no_close x (spell_others xs (Sign m.Close ∷ rest)) in
      rw (a, c, inner_listed x xs rest h) refl

  indexed_reads : (name : Spelling) (xs : Exprs) (rest : List Word) → HasRoom room → AreInner xs room → named room inner name (Sign m.Open ∷ spell_exprs xs (Sign m.Close ∷ rest)) ≡ Some (Indexed name xs, rest)
  unfolding named
  indexed_reads name xs rest i h = rw (arguments_read xs rest i h, exprs-list_of xs) refl

  bare_reads : (name : Spelling) (rest : List Word) → follow rest < 8 → named room inner name rest ≡ Some (Bare name, rest)
  unfolding named
  bare_reads name rest f = rw (no_open rest (omega arith)) refl

  group_reads : (x : Expr) (rest : List Word) → IsInner room x → group room inner (spell_expr x (Sign m.Close ∷ rest)) ≡ Some (Group x, rest)
  unfolding group closed
  group_reads x rest h = rw (inner_reads x (Sign m.Close ∷ rest) h (omega arith)) refl

  apply_reads : (function : Function) (x : Expr) (rest : List Word) → IsInner room x → apply room inner function (Sign m.Open ∷ spell_expr x (Sign m.Close ∷ rest)) ≡ Some (Apply function x, rest)
  unfolding apply closed
  apply_reads function x rest h = rw (enter_reads room (spell_expr x (Sign m.Close ∷ rest)) (has_room room (IsExpr x) h), inner_reads x (Sign m.Close ∷ rest) h (omega arith)) refl

  query_reads : (which : Query) (name : Spelling) (rest : List Word) → IsName name → HasRoom room → query room inner which (Sign m.Open ∷ Name name ∷ Sign m.Close ∷ rest) ≡ Some (Query' which name, rest)
  unfolding query name_before
  query_reads which name rest i h = rw (enter_reads room (Name name ∷ Sign m.Close ∷ rest) h, i) refl

  member_reads : (item : Spelling) (set : Option Spelling) (rest : List Word) → IsName item → IsSetName set → HasRoom room → member room inner (Sign m.Open ∷ Name item ∷ spell_set set (Sign m.Close ∷ rest)) ≡ Some (InValueSet item set, rest)
  unfolding member set_after
  member_reads item None rest i k h = rw (enter_reads room (Name item ∷ Sign m.Close ∷ rest) h, i) refl
  member_reads item (Some set) rest i k h = rw (enter_reads room (Name item ∷ Sign m.Comma ∷ Name set ∷ Sign m.Close ∷ rest) h, i, k) refl

  prim_reads : Reads 8 room (prim room inner)
  unfolding prim marked
  prim_reads (Number digits) rest h f = rw h.1 refl
  prim_reads (Text text) rest h f = rw h.1 refl
  prim_reads (Special' token value) rest h f = refl
  prim_reads (Bare name) rest h f = rw h.1 (bare_reads name rest f)
  prim_reads (Indexed name xs) rest h f = rw h.1.0 (indexed_reads name xs rest h.1.1 h.1.2)
  prim_reads (Group x) rest h f = group_reads x rest h.1
  prim_reads (Apply u.Int x) rest h f = apply_reads u.Int x rest h.1
  prim_reads (Apply u.Special x) rest h f = apply_reads u.Special x rest h.1
  prim_reads (Query' q.GetDeck name) rest h f = query_reads q.GetDeck name rest h.1.0 h.1.1
  prim_reads (Query' q.TotOcc name) rest h f = query_reads q.TotOcc name rest h.1.0 h.1.1
  prim_reads (Query' q.MaxOcc name) rest h f = query_reads q.MaxOcc name rest h.1.0 h.1.1
  prim_reads (Query' q.CurOcc name) rest h f = query_reads q.CurOcc name rest h.1.0 h.1.1
  prim_reads (InValueSet item set) rest h f = member_reads item set rest h.1.0 h.1.1 h.1.2
  prim_reads (Chain x ys) rest h f = absurd (omega (arith, h.0, level_small ys))
  prim_reads x rest h f = absurd (omega (arith, h.0))

  one_prim : (x : Expr) (rest : List Word) → IsAt 8 room x → follow rest < 7 → unary room inner (spell_expr x rest) ≡ Some (x, rest)
  unfolding unary
  one_prim x rest h f = rw (no_minus x rest h.0) (prim_reads x rest h (omega arith))

  unary_reads : Reads 7 room (unary room inner)
  unfolding unary
  unary_reads (Minus x) rest h f = rw (prim_reads x rest h.1 (omega arith)) refl
  unary_reads (Chain x ys) rest h f = absurd (omega (arith, h.0, level_small ys))
  unary_reads x rest h f = one_prim x rest (omega (arith, h.0), h.1) f

  product_reads : Reads 6 room (product room inner)
  unfolding product
  product_reads = chain_reads product_operator 6 room (record { takes = product_takes; stops = product_stops }) (omega arith) (λ e. omega arith) (λ e. omega arith) (unary room inner) unary_reads

  sum_reads : Reads 5 room (sum room inner)
  unfolding sum
  sum_reads = chain_reads sum_operator 5 room (record { takes = sum_takes; stops = sum_stops }) (omega arith) (λ e. omega arith) (λ e. omega arith) (product room inner) product_reads

  one_sum : (x : Expr) (rest : List Word) → IsAt 5 room x → follow rest < 4 → relation room inner (spell_expr x rest) ≡ Some (x, rest)
  unfolding relation related
  one_sum x rest h f = rw (sum_reads x rest h (omega arith), relation_stops rest f) refl

  relation_reads : Reads 4 room (relation room inner)
  unfolding relation related
  relation_reads (Compare which x y) rest h f =
      let first = sum_reads x (Sign (relation_sign which) ∷ spell_expr y rest) (h.1.0, h.1.2) (omega (arith, follow_relation which)) in
      let second = sum_reads y rest (h.1.1, h.1.3) (omega arith) in
      rw (first, relation_takes which, second) refl
  relation_reads (Chain x ys) rest h f =
      elim (level_gap ys) [
        | inl g ↦ absurd (omega (arith, h.0))
        | inr g ↦ one_sum (Chain x ys) rest (g.0, h.1) f
      ]
  relation_reads x rest h f = one_sum x rest (omega (arith, h.0), h.1) f

  one_relation : (x : Expr) (rest : List Word) → IsAt 4 room x → follow rest < 3 → negation room inner (spell_expr x rest) ≡ Some (x, rest)
  unfolding negation
  one_relation x rest h f = rw (no_not x room rest h.1 h.0) (relation_reads x rest h (omega arith))

  negation_reads : Reads 3 room (negation room inner)
  unfolding negation
  negation_reads (Not x) rest h f = rw (relation_reads x rest h.1 (omega arith)) refl
  negation_reads (Chain x ys) rest h f =
      elim (level_gap ys) [
        | inl g ↦ absurd (omega (arith, h.0))
        | inr g ↦ one_relation (Chain x ys) rest (omega (arith, g.0), h.1) f
      ]
  negation_reads x rest h f = one_relation x rest (omega (arith, h.0), h.1) f

  conjunction_reads : Reads 2 room (conjunction room inner)
  unfolding conjunction
  conjunction_reads = chain_reads and_operator 2 room (record { takes = and_takes; stops = and_stops }) (omega arith) (λ e. omega arith) (λ e. omega arith) (negation room inner) negation_reads

  disjunction_reads : Reads 1 room (disjunction room inner)
  unfolding disjunction
  disjunction_reads = chain_reads or_operator 1 room (record { takes = or_takes; stops = or_stops }) (omega arith) (λ e. omega arith) (λ e. omega arith) (conjunction room inner) conjunction_reads

rule_positive : (x : Expr) (room : ℕ) → IsExpr x room → 1 ≤ rule x
rule_positive (Chain x ys) room h = h.0
rule_positive x room h = omega arith

pub nested_reads : (room : ℕ) → ReadsInner room (nested room)
unfolding nested
nested_reads zero x rest h f = absurd h
nested_reads (suc room) x rest h f = disjunction_reads room (nested room) (nested_reads room) x rest (rule_positive x room h, h) f

-- what is an expression is read as one
pub expr_reads : (room : ℕ) (x : Expr) (rest : List Word) → IsExpr x room → follow rest < 1 → disjunction room (nested room) (spell_expr x rest) ≡ Some (x, rest)
expr_reads room x rest h f = disjunction_reads room (nested room) (nested_reads room) x rest (rule_positive x room h, h) f
