-- What is read is of the grammar, and its words stood at the front.
use Rattle.std.proofs.Common.{◌≡◌, ℕ, zero, suc, ◌≤◌, Bool, List, [], ◌∷◌, length, drop, Option, Some, None, refl, sym, ap, subst, ◌∙◌, arith, inl, inr}
use Rattle.std.proofs.lemmas.Option.{same_Some}
use Rattle.cse_syntax_tree.specs.declared.token.Mark.{Mark}
use Rattle.cse_syntax_tree.specs.declared.token.Mark.TheVariants as m
use Rattle.cse_syntax_tree.specs.declared.tree.Operator.{Operator}
use Rattle.cse_syntax_tree.specs.declared.tree.Relation.{Relation}
use Rattle.cse_syntax_tree.specs.declared.tree.Function.{Function}
use Rattle.cse_syntax_tree.specs.declared.tree.Function.TheVariants as f
use Rattle.cse_syntax_tree.specs.declared.tree.Query.{Query}
use Rattle.cse_syntax_tree.specs.declared.tree.Query.TheVariants as q
use Rattle.cse_syntax_tree.specs.Word.{Word, Name, Digits, Quoted, Value, Leave, Sign, Stray}
use Rattle.cse_syntax_tree.specs.Tree.{Spelling, Expr, Number, Text, Special', Bare, Indexed, Group, Apply, Query', InValueSet, Minus, Not, Compare, exprs, operations}
use Rattle.cse_syntax_tree.specs.Grammar.{sign, relation_sign, function_sign, query_sign, spell_each, spell_list, spell_set, Each, IsSome, spell_expr, spell_exprs, spell_others, spell_operations, binds, level, rule, Below, HasRoom, IsExpr, AreInner, AreOperations, spell_subscripts, is_name, is_within, is_text, MOST, IsName, IsSetName}
use Rattle.cse_syntax.specs.Reading.{◌>>=◌, Parser, sees, expect, enter, take_name, name_before, loop, snoc, after_comma, listed, operator_at, is_some, operation, operations_from, chained, chain, or_operator, and_operator, sum_operator, product_operator, relation_of, bracketed, subscripts, arguments, named, closed, group, apply, query, set_after, member, marked, prim, unary, product, sum, related, relation, negation, conjunction, disjunction, nested}
use Rattle.cse_syntax.proofs.Steps.{read, both_are, bind_some, if_some, test_some, sees_is, expect_is, enter_is, take_name_is, name_before_is}

-- A reader gives only trees that are Good, and their words.
abbrev pub Sound : {A : Type 0} → (A → List Word → List Word) → (A → Type 0) → Parser A → Type 0
Sound {A} spell Good read = (ws : List Word) (x : A) (rest : List Word) → read ws ≡ Some (x, rest) → (ws ≡ spell x rest) × Good x

-- the same of what stands after these words
abbrev pub SoundAfter : {A : Type 0} → (List Word → List Word) → (A → List Word → List Word) → (A → Type 0) → Parser A → Type 0
SoundAfter {A} front spell Good read = (ws : List Word) (x : A) (rest : List Word) → read ws ≡ Some (x, rest) → (front ws ≡ spell x rest) × Good x

-- what was read, where the reader ends with a tree that it made
pub made : {A : Type 0} (spell : A → List Word → List Word) (Good : A → Type 0) (ws : List Word) (y x : A) (behind rest : List Word) → read y behind ≡ read x rest → ws ≡ spell y behind → Good y → (ws ≡ spell x rest) × Good x
made {A} spell Good ws y x behind rest e words good =
    let p = both_are e in
    (words ∙ ap (λ (z : A). spell z behind) p.0 ∙ ap (spell x) p.1, subst Good p.0 good)

-- a loop over items, each of which goes on with what was read before
pub loop_sound : {A B : Type 0} (starts : List Word → Bool) (item : Parser B) (add : A → B → A)
    (spell : A → List Word → List Word) (Good : A → Type 0) (spell_item : B → List Word → List Word) (Fine : B → Type 0)
    → Sound spell_item Fine item
    → ((a : A) (b : B) (r : List Word) → Good a → spell (add a b) r ≡ spell a (spell_item b r))
    → ((a : A) (b : B) → Good a → Fine b → Good (add a b))
    → (n : ℕ) (found : A) (ws : List Word) (x : A) (rest : List Word) → Good found → loop starts item add n found ws ≡ Some (x, rest) → (spell found ws ≡ spell x rest) × Good x
loop_sound starts item add spell Good spell_item Fine item_sound adds keeps zero found ws x rest good e =
    let p = both_are e in
    (cc, subst Good p.0 good)
loop_sound starts item add spell Good spell_item Fine item_sound adds keeps (suc n) found ws x rest good e =
    elim (if_some (starts ws) (item ws >>= λ y. loop starts item add n (add found y.0) y.1) (Some (found, ws)) (Some (x, rest)) e) [
      | inl h ↦
          let b = bind_some (item ws) (λ y. loop starts item add n (add found y.0) y.1) (x, rest) h.1 in
          let i = item_sound ws b.0.0 b.0.1 b.1 in
          let go = loop_sound starts item add spell Good spell_item Fine item_sound adds keeps n (add found b.0.0) b.0.1 x rest (keeps found b.0.0 good i.1) b.2 in
          (ap (spell found) i.0 ∙ sym (adds found b.0.0 b.0.1 good) ∙ go.0, go.1)
      | inr h ↦
          let p = both_are h.1 in
          (cc, subst Good p.0 good)
    ]

-- ---- lists with commas

pub Each-snoc : {A : Type 0} (P : A → Type 0) (xs : List A) (x : A) → Each P xs → P x → Each P (snoc xs x)
Each-snoc P [] x h i = (i, tt)
Each-snoc P (y ∷ xs) x h i = (h.0, Each-snoc P xs x h.1 i)

spell_each_snoc : {A : Type 0} (spell : A → List Word → List Word) (xs : List A) (x : A) (rest : List Word) → spell_each spell (snoc xs x) rest ≡ spell_each spell xs (Sign m.Comma ∷ spell x rest)
spell_each_snoc spell [] x rest = refl
spell_each_snoc spell (y ∷ xs) x rest = ap (λ (r : List Word). Sign m.Comma ∷ spell y r) (spell_each_snoc spell xs x rest)

spell_list_snoc : {A : Type 0} (spell : A → List Word → List Word) (xs : List A) (x : A) (rest : List Word) → IsSome xs → spell_list spell (snoc xs x) rest ≡ spell_list spell xs (Sign m.Comma ∷ spell x rest)
spell_list_snoc spell [] x rest h = absurd h
spell_list_snoc spell (y ∷ xs) x rest h = ap (spell y) (spell_each_snoc spell xs x rest)

IsSome-snoc : {A : Type 0} (xs : List A) (x : A) → IsSome (snoc xs x)
IsSome-snoc [] x = tt
IsSome-snoc (y ∷ xs) x = tt

module _ {A : Type 0} (spell : A → List Word → List Word) (P : A → Type 0) (item : Parser A) (item_sound : Sound spell P item) where
  comma_sound : Sound (λ x r. Sign m.Comma ∷ spell x r) P (after_comma item)
  comma_sound ws x rest e =
      let a = bind_some (expect m.Comma ws) _ _ e in
      let y = item_sound a.0 x rest a.2 in
      (expect_is m.Comma ws a.0 a.1 ∙ ap (λ (r : List Word). Sign m.Comma ∷ r) y.0, y.1)

  pub listed_sound : Sound (spell_list spell) (λ xs. IsSome xs × Each P xs) (listed item)
  unfolding listed
  listed_sound ws x rest e =
      let a = bind_some (item ws) _ _ e in
      let y = item_sound ws a.0.0 a.0.1 a.1 in
      let go = loop_sound (sees m.Comma) (after_comma item) snoc (spell_list spell) (λ xs. IsSome xs × Each P xs) (λ z r. Sign m.Comma ∷ spell z r) P comma_sound
      (λ xs z r h. spell_list_snoc spell xs z r h.0) (λ xs z h i. (IsSome-snoc xs z, Each-snoc P xs z h.1 i)) (length a.0.1) (a.0.0 ∷ []) a.0.1 x rest (tt, (y.1, tt)) a.2 in
      (y.0 ∙ go.0, go.1)

-- ---- operators

pub record Binds (operator : Mark → Option Operator) (level : ℕ) : Type 0 where
  pub is : (found : Mark) (op : Operator) → operator found ≡ Some op → (found ≡ sign op) × (binds op ≡ level)

-- an expression of a rule
abbrev pub IsAt : ℕ → ℕ → Expr → Type 0
IsAt level room x = (level ≤ rule x) × IsExpr x room

abbrev spell_operation : Operator × Expr → List Word → List Word
spell_operation y rest = Sign (sign y.0) ∷ spell_expr y.1 rest

abbrev IsOperation : ℕ → ℕ → Operator × Expr → Type 0
IsOperation level room y = (binds y.0 ≡ level) × IsAt (suc level) room y.1

spell_operations_snoc : (xs : List (Operator × Expr)) (x : Operator × Expr) (rest : List Word) → spell_operations (operations (snoc xs x)) rest ≡ spell_operations (operations xs) (spell_operation x rest)
spell_operations_snoc [] x rest = refl
spell_operations_snoc (y ∷ xs) x rest = ap (spell_operation y) (spell_operations_snoc xs x rest)

AreOperations-snoc : (level room : ℕ) (xs : List (Operator × Expr)) (x : Operator × Expr) → AreOperations (operations xs) level room → IsOperation level room x → AreOperations (operations (snoc xs x)) level room
AreOperations-snoc level room [] x h i = (i.0, i.1.0, i.1.1, tt)
AreOperations-snoc level room (y ∷ xs) x h i = (h.0, h.1, h.2, AreOperations-snoc level room xs x h.3 i)

module _ (operator : Mark → Option Operator) (level room : ℕ) (positive : 1 ≤ level) (binding : Binds operator level) (operand : Parser Expr) where
  operator_is : (ws : List Word) (op : Operator) → operator_at operator ws ≡ Some op → (ws ≡ Sign (sign op) ∷ drop 1 ws) × (binds op ≡ level)
  operator_is [] op e = absurd cc
  operator_is (Name s ∷ ws) op e = absurd cc
  operator_is (Digits s ∷ ws) op e = absurd cc
  operator_is (Quoted s ∷ ws) op e = absurd cc
  operator_is (Value t s ∷ ws) op e = absurd cc
  operator_is (Leave t s ∷ ws) op e = absurd cc
  operator_is (Stray ∷ ws) op e = absurd cc
  operator_is (Sign found ∷ ws) op e = let b = binding.is found op e in (ap (λ (k : Mark). Sign k ∷ ws) b.0, b.1)

  operation_sound : Sound spell_expr (IsAt (suc level) room) operand → Sound spell_operation (IsOperation level room) (operation operator operand)
  operation_sound sound ws x rest e =
      let a = bind_some (operator_at operator ws) _ _ e in
      let b = bind_some (operand (drop 1 ws)) _ _ a.2 in
      let y = sound (drop 1 ws) b.0.0 b.0.1 b.1 in
      let op = operator_is ws a.0 a.1 in
      made spell_operation (IsOperation level room) ws (a.0, b.0.0) x b.0.1 rest b.2 (op.0 ∙ ap (λ (r : List Word). Sign (sign a.0) ∷ r) y.0) (op.1, y.1)

  chained_is : (x : Expr) (ys : List (Operator × Expr)) (rest : List Word) → IsAt (suc level) room x → AreOperations (operations ys) level room → (spell_expr x (spell_operations (operations ys) rest) ≡ spell_expr (chained x ys) rest) × IsAt level room (chained x ys)
  chained_is x [] rest h i = (refl, (omega (arith, h.0), h.1))
  chained_is x (y ∷ ys) rest h i =
      let b : binds y.0 ≡ level = i.0 in
      (refl, (omega (arith, b), (omega (arith, b), omega (arith, b, h.0), h.1, subst (λ (n : ℕ). AreOperations (operations (y ∷ ys)) n room) (sym b) i)))

  pub chain_sound : Sound spell_expr (IsAt (suc level) room) operand → Sound spell_expr (IsAt level room) (chain operator operand)
  chain_sound sound ws x rest e =
      let a = bind_some (operand ws) _ _ e in
      let b = bind_some (operations_from operator operand (length a.0.1) [] a.0.1) _ _ a.2 in
      let first = sound ws a.0.0 a.0.1 a.1 in
      let go = loop_sound (λ ws. is_some (operator_at operator ws)) (operation operator operand) snoc (λ xs r. spell_operations (operations xs) r) (λ xs. AreOperations (operations xs) level room) spell_operation (IsOperation level room) (operation_sound sound)
      (λ xs y r h. spell_operations_snoc xs y r) (λ xs y h i. AreOperations-snoc level room xs y h i) (length a.0.1) [] a.0.1 b.0.0 b.0.1 tt b.1 in
      let whole = chained_is a.0.0 b.0.0 b.0.1 first.1 go.1 in
      made spell_expr (IsAt level room) ws (chained a.0.0 b.0.0) x b.0.1 rest b.2 (first.0 ∙ ap (spell_expr a.0.0) go.0 ∙ whole.0) whole.1

or_is : (found : Mark) (op : Operator) → or_operator found ≡ Some op → (found ≡ sign op) × (binds op ≡ 1)
or_is m.Or op e = subst (λ (v : Operator). (m.Or ≡ sign v) × (binds v ≡ 1)) (same_Some _ _ e) (refl, refl)
or_is _ op e = absurd cc

and_is : (found : Mark) (op : Operator) → and_operator found ≡ Some op → (found ≡ sign op) × (binds op ≡ 2)
and_is m.And op e = subst (λ (v : Operator). (m.And ≡ sign v) × (binds v ≡ 2)) (same_Some _ _ e) (refl, refl)
and_is _ op e = absurd cc

sum_is : (found : Mark) (op : Operator) → sum_operator found ≡ Some op → (found ≡ sign op) × (binds op ≡ 5)
sum_is m.Plus op e = subst (λ (v : Operator). (m.Plus ≡ sign v) × (binds v ≡ 5)) (same_Some _ _ e) (refl, refl)
sum_is m.Minus op e = subst (λ (v : Operator). (m.Minus ≡ sign v) × (binds v ≡ 5)) (same_Some _ _ e) (refl, refl)
sum_is _ op e = absurd cc

product_is : (found : Mark) (op : Operator) → product_operator found ≡ Some op → (found ≡ sign op) × (binds op ≡ 6)
product_is m.Star op e = subst (λ (v : Operator). (m.Star ≡ sign v) × (binds v ≡ 6)) (same_Some _ _ e) (refl, refl)
product_is m.Slash op e = subst (λ (v : Operator). (m.Slash ≡ sign v) × (binds v ≡ 6)) (same_Some _ _ e) (refl, refl)
product_is m.Percent op e = subst (λ (v : Operator). (m.Percent ≡ sign v) × (binds v ≡ 6)) (same_Some _ _ e) (refl, refl)
product_is _ op e = absurd cc

relation_is : (found : Mark) (which : Relation) → relation_of found ≡ Some which → found ≡ relation_sign which
relation_is m.Equals which e = subst (λ (v : Relation). m.Equals ≡ relation_sign v) (same_Some _ _ e) refl
relation_is m.Differs which e = subst (λ (v : Relation). m.Differs ≡ relation_sign v) (same_Some _ _ e) refl
relation_is m.Less which e = subst (λ (v : Relation). m.Less ≡ relation_sign v) (same_Some _ _ e) refl
relation_is m.AtMost which e = subst (λ (v : Relation). m.AtMost ≡ relation_sign v) (same_Some _ _ e) refl
relation_is m.More which e = subst (λ (v : Relation). m.More ≡ relation_sign v) (same_Some _ _ e) refl
relation_is m.AtLeast which e = subst (λ (v : Relation). m.AtLeast ≡ relation_sign v) (same_Some _ _ e) refl
relation_is _ which e = absurd cc

relation_at_is : (ws : List Word) (which : Relation) → operator_at relation_of ws ≡ Some which → ws ≡ Sign (relation_sign which) ∷ drop 1 ws
relation_at_is [] which e = absurd cc
relation_at_is (Name s ∷ ws) which e = absurd cc
relation_at_is (Digits s ∷ ws) which e = absurd cc
relation_at_is (Quoted s ∷ ws) which e = absurd cc
relation_at_is (Value t s ∷ ws) which e = absurd cc
relation_at_is (Leave t s ∷ ws) which e = absurd cc
relation_at_is (Stray ∷ ws) which e = absurd cc
relation_at_is (Sign found ∷ ws) which e = ap (λ (k : Mark). Sign k ∷ ws) (relation_is found which e)

-- ---- expressions in parentheses

abbrev pub IsInner : ℕ → Expr → Type 0
IsInner room x = Below room (IsExpr x)

AreInner-each : (room : ℕ) (xs : List Expr) → Each (IsInner room) xs → AreInner (exprs xs) room
AreInner-each room [] h = tt
AreInner-each room (x ∷ xs) h = (h.0, AreInner-each room xs h.1)

spell_others_each : (xs : List Expr) (rest : List Word) → spell_each spell_expr xs rest ≡ spell_others (exprs xs) rest
spell_others_each [] rest = refl
spell_others_each (x ∷ xs) rest = ap (λ (r : List Word). Sign m.Comma ∷ spell_expr x r) (spell_others_each xs rest)

spell_exprs_list : (xs : List Expr) (rest : List Word) → spell_list spell_expr xs rest ≡ spell_exprs (exprs xs) rest
spell_exprs_list [] rest = refl
spell_exprs_list (x ∷ xs) rest = ap (spell_expr x) (spell_others_each xs rest)

spell_subscripts_list : (xs : List Expr) (rest : List Word) → IsSome xs → Sign m.Open ∷ spell_exprs (exprs xs) (Sign m.Close ∷ rest) ≡ spell_subscripts (exprs xs) rest
spell_subscripts_list [] rest h = absurd h
spell_subscripts_list (x ∷ xs) rest h = refl

module _ (room : ℕ) (inner : Parser Expr) (inner_sound : Sound spell_expr (IsInner room) inner) where
  pub inner_listed : Sound (λ xs r. spell_exprs (exprs xs) r) (λ xs. IsSome xs × AreInner (exprs xs) room) (listed inner)
  inner_listed ws x rest e =
      let y = listed_sound spell_expr (IsInner room) inner inner_sound ws x rest e in
      (y.0 ∙ spell_exprs_list x rest, (y.1.0, AreInner-each room x y.1.1))

  bracketed_sound : Sound (λ xs r. spell_subscripts (exprs xs) r) (λ xs. AreInner (exprs xs) room) (bracketed room inner)
  unfolding bracketed
  bracketed_sound ws x rest e =
      let a = bind_some (enter room ws) _ _ e in
      let b = bind_some (listed inner a.0) _ _ a.2 in
      let c = bind_some (expect m.Close b.0.1) _ _ b.2 in
      let y = inner_listed a.0 b.0.0 b.0.1 b.1 in
      made (λ xs r. spell_subscripts (exprs xs) r) (λ xs. AreInner (exprs xs) room) ws b.0.0 x c.0 rest c.2
      ((enter_is room ws a.0 a.1).0 ∙ ap (λ (r : List Word). Sign m.Open ∷ r) (y.0 ∙ ap (spell_exprs (exprs b.0.0)) (expect_is m.Close b.0.1 c.0 c.1)) ∙ spell_subscripts_list b.0.0 c.0 y.1.0) y.1.1

  pub subscripts_sound : Sound (λ xs r. spell_subscripts (exprs xs) r) (λ xs. AreInner (exprs xs) room) (subscripts room inner)
  unfolding subscripts
  subscripts_sound ws x rest e =
      elim (if_some (sees m.Open ws) _ _ _ e) [
        | inl h ↦ bracketed_sound ws x rest h.1
        | inr h ↦ made (λ xs r. spell_subscripts (exprs xs) r) (λ xs. AreInner (exprs xs) room) ws [] x ws rest h.1 refl tt
      ]

  abbrev spell_arguments : List Expr → List Word → List Word
  spell_arguments xs rest = Sign m.Open ∷ spell_exprs (exprs xs) (Sign m.Close ∷ rest)

  abbrev AreArguments : List Expr → Type 0
  AreArguments xs = HasRoom room × AreInner (exprs xs) room

  pub arguments_sound : Sound (λ xs rest. Sign m.Open ∷ spell_exprs (exprs xs) (Sign m.Close ∷ rest)) (λ xs. HasRoom room × AreInner (exprs xs) room) (arguments room inner)
  unfolding arguments
  arguments_sound ws x rest e =
      let a = bind_some (enter room ws) _ _ e in
      let open_is = enter_is room ws a.0 a.1 in
      elim (if_some (sees m.Close a.0) _ _ _ a.2) [
        | inl h ↦ made spell_arguments AreArguments ws [] x (drop 1 a.0) rest h.1 (open_is.0 ∙ ap (λ (r : List Word). Sign m.Open ∷ r) (sees_is m.Close a.0 h.0)) (open_is.1, tt)
        | inr h ↦
            let b = bind_some (listed inner a.0) _ _ h.1 in
            let c = bind_some (expect m.Close b.0.1) _ _ b.2 in
            let y = inner_listed a.0 b.0.0 b.0.1 b.1 in
            made spell_arguments AreArguments ws b.0.0 x c.0 rest c.2 (open_is.0 ∙ ap (λ (r : List Word). Sign m.Open ∷ r) (y.0 ∙ ap (spell_exprs (exprs b.0.0)) (expect_is m.Close b.0.1 c.0 c.1))) (open_is.1, y.1.1)
      ]

  named_sound : (name : Spelling) → IsName name → SoundAfter (λ r. Name name ∷ r) spell_expr (IsAt 8 room) (named room inner name)
  unfolding named
  named_sound name is ws x rest e =
      elim (if_some (sees m.Open ws) _ _ _ e) [
        | inl h ↦
            let a = bind_some (arguments room inner ws) _ _ h.1 in
            let y = arguments_sound ws a.0.0 a.0.1 a.1 in
            made spell_expr (IsAt 8 room) (Name name ∷ ws) (Indexed name (exprs a.0.0)) x a.0.1 rest a.2 (ap (λ (r : List Word). Name name ∷ r) y.0) (omega arith, (is, y.1.0, y.1.1))
        | inr h ↦ made spell_expr (IsAt 8 room) (Name name ∷ ws) (Bare name) x ws rest h.1 refl (omega arith, is)
      ]

  abbrev spell_closed : Expr → List Word → List Word
  spell_closed x rest = spell_expr x (Sign m.Close ∷ rest)

  closed_sound : Sound spell_closed (IsInner room) (closed room inner)
  unfolding closed
  closed_sound ws x rest e =
      let a = bind_some (inner ws) _ _ e in
      let b = bind_some (expect m.Close a.0.1) _ _ a.2 in
      let y = inner_sound ws a.0.0 a.0.1 a.1 in
      made spell_closed (IsInner room) ws a.0.0 x b.0 rest b.2 (y.0 ∙ ap (spell_expr a.0.0) (expect_is m.Close a.0.1 b.0 b.1)) y.1

  group_sound : SoundAfter (λ r. Sign m.Open ∷ r) spell_expr (IsAt 8 room) (group room inner)
  unfolding group
  group_sound ws x rest e =
      let a = bind_some (closed room inner ws) _ _ e in
      let y = closed_sound ws a.0.0 a.0.1 a.1 in
      made spell_expr (IsAt 8 room) (Sign m.Open ∷ ws) (Group a.0.0) x a.0.1 rest a.2 (ap (λ (r : List Word). Sign m.Open ∷ r) y.0) (omega arith, y.1)

  apply_sound : (function : Function) → SoundAfter (λ r. Sign (function_sign function) ∷ r) spell_expr (IsAt 8 room) (apply room inner function)
  unfolding apply
  apply_sound function ws x rest e =
      let a = bind_some (enter room ws) _ _ e in
      let b = bind_some (closed room inner a.0) _ _ a.2 in
      let y = closed_sound a.0 b.0.0 b.0.1 b.1 in
      made spell_expr (IsAt 8 room) (Sign (function_sign function) ∷ ws) (Apply function b.0.0) x b.0.1 rest b.2
      (ap (λ (r : List Word). Sign (function_sign function) ∷ r) ((enter_is room ws a.0 a.1).0 ∙ ap (λ (r : List Word). Sign m.Open ∷ r) y.0)) (omega arith, y.1)

  query_sound : (which : Query) → SoundAfter (λ r. Sign (query_sign which) ∷ r) spell_expr (IsAt 8 room) (query room inner which)
  unfolding query
  query_sound which ws x rest e =
      let a = bind_some (enter room ws) _ _ e in
      let b = bind_some (name_before m.Close a.0) _ _ a.2 in
      let open_is = enter_is room ws a.0 a.1 in
      let name = name_before_is m.Close a.0 b.0.0 b.0.1 b.1 in
      made spell_expr (IsAt 8 room) (Sign (query_sign which) ∷ ws) (Query' which b.0.0) x b.0.1 rest b.2
      (ap (λ (r : List Word). Sign (query_sign which) ∷ r) (open_is.0 ∙ ap (λ (r : List Word). Sign m.Open ∷ r) name.0)) (omega arith, (name.1, open_is.1))

set_after_sound : Sound spell_set IsSetName set_after
unfolding set_after
set_after_sound ws x rest e =
    elim (if_some (sees m.Comma ws) _ _ _ e) [
      | inl h ↦
          let a = bind_some (take_name (drop 1 ws)) _ _ h.1 in
          let name = take_name_is (drop 1 ws) a.0.0 a.0.1 a.1 in
          made spell_set IsSetName ws (Some a.0.0) x a.0.1 rest a.2 (sees_is m.Comma ws h.0 ∙ ap (λ (r : List Word). Sign m.Comma ∷ r) name.0) name.1
      | inr h ↦ made spell_set IsSetName ws None x ws rest h.1 refl tt
    ]

module _ (room : ℕ) (inner : Parser Expr) (inner_sound : Sound spell_expr (IsInner room) inner) where
  member_sound : SoundAfter (λ r. Sign m.InValueSet ∷ r) spell_expr (IsAt 8 room) (member room inner)
  unfolding member
  member_sound ws x rest e =
      let a = bind_some (enter room ws) _ _ e in
      let b = bind_some (take_name a.0) _ _ a.2 in
      let c = bind_some (set_after b.0.1) _ _ b.2 in
      let d = bind_some (expect m.Close c.0.1) _ _ c.2 in
      let open_is = enter_is room ws a.0 a.1 in
      let item = take_name_is a.0 b.0.0 b.0.1 b.1 in
      let set = set_after_sound b.0.1 c.0.0 c.0.1 c.1 in
      made spell_expr (IsAt 8 room) (Sign m.InValueSet ∷ ws) (InValueSet b.0.0 c.0.0) x d.0 rest d.2
      (ap (λ (r : List Word). Sign m.InValueSet ∷ r) (open_is.0 ∙ ap (λ (r : List Word). Sign m.Open ∷ r) (item.0 ∙ ap (λ (r : List Word). Name b.0.0 ∷ r) (set.0 ∙ ap (spell_set c.0.0) (expect_is m.Close c.0.1 d.0 d.1))))) (omega arith, (item.1, set.1, open_is.1))

  marked_sound : (mark : Mark) → SoundAfter (λ r. Sign mark ∷ r) spell_expr (IsAt 8 room) (marked room inner mark)
  unfolding marked
  marked_sound m.Open ws x rest e = group_sound room inner inner_sound ws x rest e
  marked_sound m.Int ws x rest e = apply_sound room inner inner_sound f.Int ws x rest e
  marked_sound m.Special ws x rest e = apply_sound room inner inner_sound f.Special ws x rest e
  marked_sound m.GetDeck ws x rest e = query_sound room inner inner_sound q.GetDeck ws x rest e
  marked_sound m.TotOcc ws x rest e = query_sound room inner inner_sound q.TotOcc ws x rest e
  marked_sound m.MaxOcc ws x rest e = query_sound room inner inner_sound q.MaxOcc ws x rest e
  marked_sound m.CurOcc ws x rest e = query_sound room inner inner_sound q.CurOcc ws x rest e
  marked_sound m.InValueSet ws x rest e = member_sound ws x rest e
  marked_sound _ ws x rest e = absurd cc

  prim_sound : Sound spell_expr (IsAt 8 room) (prim room inner)
  unfolding prim
  prim_sound [] x rest e = absurd cc
  prim_sound (Digits digits ∷ ws) x rest e =
      let t = test_some (is_within 0 MOST digits.text) (Number digits, ws) (x, rest) e in
      made spell_expr (IsAt 8 room) (Digits digits ∷ ws) (Number digits) x ws rest t.1 refl (omega arith, t.0)
  prim_sound (Quoted text ∷ ws) x rest e =
      let t = test_some (is_text text.text) (Text text, ws) (x, rest) e in
      made spell_expr (IsAt 8 room) (Quoted text ∷ ws) (Text text) x ws rest t.1 refl (omega arith, t.0)
  prim_sound (Value token value ∷ ws) x rest e = made spell_expr (IsAt 8 room) (Value token value ∷ ws) (Special' token value) x ws rest e refl (omega arith, tt)
  prim_sound (Leave token jump ∷ ws) x rest e = absurd cc
  prim_sound (Name name ∷ ws) x rest e =
      elim (if_some (is_name name.text) _ _ _ e) [
        | inl h ↦ named_sound room inner inner_sound name h.0 ws x rest h.1
        | inr h ↦ absurd cc
      ]
  prim_sound (Sign mark ∷ ws) x rest e = marked_sound mark ws x rest e
  prim_sound (Stray ∷ ws) x rest e = absurd cc

  unary_sound : Sound spell_expr (IsAt 7 room) (unary room inner)
  unfolding unary
  unary_sound ws x rest e =
      elim (if_some (sees m.Minus ws) _ _ _ e) [
        | inl h ↦
            let a = bind_some (prim room inner (drop 1 ws)) _ _ h.1 in
            let y = prim_sound (drop 1 ws) a.0.0 a.0.1 a.1 in
            made spell_expr (IsAt 7 room) ws (Minus a.0.0) x a.0.1 rest a.2 (sees_is m.Minus ws h.0 ∙ ap (λ (r : List Word). Sign m.Minus ∷ r) y.0) (omega arith, y.1)
        | inr h ↦ let y = prim_sound ws x rest h.1 in (y.0, (omega (arith, y.1.0), y.1.1))
      ]

  product_sound : Sound spell_expr (IsAt 6 room) (product room inner)
  unfolding product
  product_sound = chain_sound product_operator 6 room (omega arith) (record { is = product_is }) (unary room inner) unary_sound

  sum_sound : Sound spell_expr (IsAt 5 room) (sum room inner)
  unfolding sum
  sum_sound = chain_sound sum_operator 5 room (omega arith) (record { is = sum_is }) (product room inner) product_sound

  related_sound : (y : Expr) (which : Option Relation) (ws : List Word) (x : Expr) (rest : List Word) → IsAt 5 room y → operator_at relation_of ws ≡ which → related room inner y which ws ≡ Some (x, rest) → (spell_expr y ws ≡ spell_expr x rest) × IsAt 4 room x
  unfolding related
  related_sound y None ws x rest h i e = made spell_expr (IsAt 4 room) (spell_expr y ws) y x ws rest e refl (omega (arith, h.0), h.1)
  related_sound y (Some which) ws x rest h i e =
      let a = bind_some (sum room inner (drop 1 ws)) _ _ e in
      let z = sum_sound (drop 1 ws) a.0.0 a.0.1 a.1 in
      made spell_expr (IsAt 4 room) (spell_expr y ws) (Compare which y a.0.0) x a.0.1 rest a.2 (ap (spell_expr y) (relation_at_is ws which i ∙ ap (λ (r : List Word). Sign (relation_sign which) ∷ r) z.0)) (omega arith, (h.0, z.1.0, h.1, z.1.1))

  relation_sound : Sound spell_expr (IsAt 4 room) (relation room inner)
  unfolding relation
  relation_sound ws x rest e =
      let a = bind_some (sum room inner ws) _ _ e in
      let y = sum_sound ws a.0.0 a.0.1 a.1 in
      let r = related_sound a.0.0 (operator_at relation_of a.0.1) a.0.1 x rest y.1 refl a.2 in
      (y.0 ∙ r.0, r.1)

  negation_sound : Sound spell_expr (IsAt 3 room) (negation room inner)
  unfolding negation
  negation_sound ws x rest e =
      elim (if_some (sees m.Not ws) _ _ _ e) [
        | inl h ↦
            let a = bind_some (relation room inner (drop 1 ws)) _ _ h.1 in
            let y = relation_sound (drop 1 ws) a.0.0 a.0.1 a.1 in
            made spell_expr (IsAt 3 room) ws (Not a.0.0) x a.0.1 rest a.2 (sees_is m.Not ws h.0 ∙ ap (λ (r : List Word). Sign m.Not ∷ r) y.0) (omega arith, y.1)
        | inr h ↦ let y = relation_sound ws x rest h.1 in (y.0, (omega (arith, y.1.0), y.1.1))
      ]

  conjunction_sound : Sound spell_expr (IsAt 2 room) (conjunction room inner)
  unfolding conjunction
  conjunction_sound = chain_sound and_operator 2 room (omega arith) (record { is = and_is }) (negation room inner) negation_sound

  pub disjunction_sound : Sound spell_expr (IsAt 1 room) (disjunction room inner)
  unfolding disjunction
  disjunction_sound = chain_sound or_operator 1 room (omega arith) (record { is = or_is }) (conjunction room inner) conjunction_sound

pub nested_sound : (room : ℕ) → Sound spell_expr (IsInner room) (nested room)
unfolding nested
nested_sound zero ws x rest e = absurd cc
nested_sound (suc room) ws x rest e = let y = disjunction_sound room (nested room) (nested_sound room) ws x rest e in (y.0, y.1.1)

-- what is read as an expression is one
pub expr_sound : (room : ℕ) → Sound spell_expr (λ x. IsExpr x room) (disjunction room (nested room))
expr_sound room ws x rest e = let y = disjunction_sound room (nested room) (nested_sound room) ws x rest e in (y.0, y.1.1)
