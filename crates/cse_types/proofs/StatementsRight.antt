-- What judging gives of statements is right: it is made of the statement, and keeps each rule.
use Rattle.std.proofs.Common.{◌≡◌, ℕ, ◌+◌, ℤ, Bool, true, false, List, [], ◌∷◌, length, map, Option, Some, None, refl, sym, ap, ◌∙◌, subst, arith}
use Rattle.std.specs.Prelude.{◌==◌, ◌&&◌, not, if◌then◌else◌, option_map, slice_get}
use Rattle.std.proofs.lemmas.Bool.{eqb-true, false≢true, and_parts, not-true}
use Rattle.cse_value.specs.declared.shape.ItemKind.{ItemKind}
use Rattle.cse_value.specs.declared.shape.ItemKind.TheVariants as kind
use Rattle.cse_image_parts.specs.declared.placeholders.ArgumentKind.{ArgumentKind}
use Rattle.cse_image_parts.specs.declared.placeholders.ArgumentKind.TheVariants as argument
use Rattle.cse_syntax_tree.specs.Tree as syntax
use Rattle.cse_syntax_tree.specs.Tree.{Spelling}
use Rattle.cse_logic_tree.specs.declared.tree.Variable.{Variable}
use Rattle.cse_logic_tree.specs.declared.tree.Found.{Found}
use Rattle.cse_logic_tree.specs.declared.tree.Field.{Field}
use Rattle.cse_logic_tree.specs.declared.tree.Pick.{Pick}
use Rattle.cse_logic_tree.specs.Typed.{Number, Words, Numbers, no_number, number_and, Which, Here, At, Argument, OfNumber, OfWords, Whole, Limit, Fixed, Counted, Counting, Statement, Statements, Arms}
use Rattle.cse_logic_tree.specs.Typed.{Empty, Set, SetText, SetItem, SetTextItem, SetCell, CallOf, If, Do, Jump', Impute, PutDeck, ErrMsg, no_statement, statement_and, no_arm, else_of, arm}
use Rattle.cse_logic_tree.specs.Erase.{erase, erase_words, erase_all, erase_which, erase_arguments, erase_limit, erase_counting, erase_statement, erase_block, erase_arms}
use Rattle.cse_logic_names.specs.declared.meaning.Meaning.{Meaning}
use Rattle.cse_logic_names.specs.declared.meaning.Meaning.TheVariants as m
use Rattle.cse_logic_names.specs.Scope.{Scope, Loops, meant, variable_named, variable_meant, own_result, loop_variable, has_case, kind_and_owner, found, is_free, within}
use Rattle.cse_logic_names.specs.WellTyped.{Holds, IsField, IsWhich, AreDeckPicks, dimensions_of, may_call, count, IsNumber, IsWords, AreNumbers, IsArgument, AreArguments, argument_kind, messages_in, messages_of, kinds_of, IsWhole, signed_value, IsLimit, step_of, IsCounting, may_jump, IsStatement, AreStatements, AreArms}
use Rattle.cse_logic_expressions.specs.Judge.{Judged, AsNumber, AsWords, Unknown, as_number, field_at, sole, is_count, picks_of, record_of, expr_count, judge, judge_all}
use Rattle.cse_logic_expressions.specs.JudgeStatement.{as_words, free_variable, which_at, place_at, set_item, set_text_item, impute_item, assign_variable, assign_item, assign, impute_number, impute, put_deck, call_of, for_head, in_for, for_of, whole_judged, limit_judged, counting_of, counting_judged, in_do, as_argument, judge_arguments, message_of, err_msg, if_of, arm_of, judge_statement, judge_block, judge_arms}
use Rattle.cse_logic_names.specs.Walk.{joined, only_if}
use Rattle.cse_logic_expressions.proofs.Right.{For, for_map, for_joined, for_only, IsTyped, IsTypedWords, Right, AreTyped, IsSole, sole_right, number_right, is_count_holds, deck_picks_right, IsRecord, record_right, judge_right, all_right}

-- ---- what is said of an answer

abbrev pub IsTypedStatement : Scope → ℕ → syntax.Stmt → Statement → Type 0
IsTypedStatement s n x y = (erase_statement y ≡ x) × IsStatement s n y

abbrev pub AreTypedStatements : Scope → ℕ → syntax.Stmts → Statements → Type 0
AreTypedStatements s n xs ys = (erase_block ys ≡ xs) × AreStatements s n ys

abbrev pub AreTypedArms : Scope → ℕ → syntax.Arms → Arms → Type 0
AreTypedArms s n xs ys = (erase_arms ys ≡ xs) × AreArms s n ys

words_right : (s : Scope) (top : Bool) (x : syntax.Expr) (a : Judged) → Right s top x a → For (IsTypedWords s x) (as_words a)
words_right s top x (AsNumber o) h = tt
words_right s top x (AsWords o) h = h
words_right s top x Unknown h = tt

-- ---- what is assigned

nothing_right : (xs : syntax.Exprs) → (expr_count xs == 0) ≡ true → syntax.no_expr ≡ xs
nothing_right syntax.no_expr c = refl
nothing_right (syntax.expr_and x xs) c = absurd (omega (arith, eqb-true (expr_count xs + 1) 0 c))

free_right : (loops : Loops) (o : Option Variable) → For (λ x. (o ≡ Some x) × Holds (is_free loops x)) (free_variable loops o)
free_right loops None = tt
free_right loops (Some x) = for_only _ (is_free loops x) _ (λ c. (refl, c))

abbrev IsAt : Scope → syntax.Exprs → ℕ → Which → Type 0
IsAt s xs owner w = (erase_which w ≡ xs) × IsWhich s owner w

found_here : (s : Scope) (xs : syntax.Exprs) (owner : ℕ) (o : Option Found) → syntax.no_expr ≡ xs → found s owner ≡ o → For (IsAt s xs owner) (option_map Here o)
found_here s xs owner None e h = tt
found_here s xs owner (Some how) e h = (e, h)

which_right : (s : Scope) (xs : syntax.Exprs) (owner : ℕ) (o : Option Numbers) → For (AreTyped s xs) o → For (IsAt s xs owner) (which_at (expr_count xs) (found s owner) o)
which_right s xs owner o h = by (expr_count xs == 0) refl
  where
    by : (b : Bool) → (expr_count xs == 0) ≡ b → For (IsAt s xs owner) (if b then option_map Here (found s owner) else option_map At (sole o))
    by true e = found_here s xs owner (found s owner) (nothing_right xs e) refl
    by false e = for_map (IsSole s xs) (IsAt s xs owner) At (λ y k. k) (sole o) (sole_right s xs o h)

abbrev IsPlace : Scope → ItemKind → ℕ → syntax.Exprs → Field × Which → Type 0
IsPlace s k item xs p = (p.0.item ≡ item) × IsField s k p.0 × IsAt s xs p.0.owner p.1

field_here : (s : Scope) (k : ItemKind) (item owner : ℕ) → kind_and_owner s.dictionary item ≡ Some (k, owner) → For (λ f. (f.item ≡ item) × IsField s k f × (f.owner ≡ owner)) (field_at s item owner)
unfolding field_at
field_here s k item owner h = for_only _ (has_case s.routine && not (owner == 255)) _ (λ c.
    let d = and_parts (has_case s.routine) (not (owner == 255)) c in
    (refl, (d.0, h, not-true (owner == 255) d.1), refl))

place_right : (s : Scope) (k : ItemKind) (item owner : ℕ) (xs : syntax.Exprs) (ys : Option Numbers) → kind_and_owner s.dictionary item ≡ Some (k, owner) → For (AreTyped s xs) ys → For (IsPlace s k item xs) (place_at s (expr_count xs) item owner ys)
place_right s k item owner xs ys h a =
    for_joined (λ f. (f.item ≡ item) × IsField s k f × (f.owner ≡ owner)) (IsAt s xs owner) (IsPlace s k item xs) (λ f w. (f, w))
    (λ f w b c. (b.0, b.1, subst (λ o. IsAt s xs o w) (sym b.2) c)) (field_at s item owner) (which_at (expr_count xs) (found s owner) ys) (field_here s k item owner h) (which_right s xs owner ys a)

module _ (s : Scope) (n : ℕ) (name : Spelling) (xs : syntax.Exprs) (value : syntax.Expr) (ys : Option Numbers) (v : Judged) (a : For (AreTyped s xs) ys) (b : Right s false value v) where
  variable_right : (o : Option Variable) → variable_named s name ≡ o → For (IsTypedStatement s n (syntax.Assign name xs value)) (assign_variable s name o (expr_count xs) v)
  variable_right o e = for_only _ (expr_count xs == 0) _ (λ c.
      for_joined (λ x. (o ≡ Some x) × Holds (is_free s.loops x)) (IsTyped s false value) (IsTypedStatement s n (syntax.Assign name xs value)) (Set name)
      (λ x y k l. (ap (λ z. syntax.Assign name z (erase y)) (nothing_right xs c) ∙ ap (syntax.Assign name xs) l.0, (e ∙ k.0, k.1, l.1)))
      (free_variable s.loops o) (as_number v) (free_right s.loops o) (number_right s false value v b))

  text_right : (g : ℕ) → meant s name ≡ Some (m.Text g) → For (IsTypedStatement s n (syntax.Assign name xs value)) (only_if (expr_count xs == 0) (option_map (SetText name g) (as_words v)))
  text_right g e = for_only _ (expr_count xs == 0) _ (λ c.
      for_map (IsTypedWords s value) (IsTypedStatement s n (syntax.Assign name xs value)) (SetText name g)
      (λ y l. (ap (λ z. syntax.Assign name z (erase_words y)) (nothing_right xs c) ∙ ap (syntax.Assign name xs) l.0, (e, l.1)))
      (as_words v) (words_right s false value v b))

  cell_right : (k : ℕ) → meant s name ≡ Some (m.Array k) → For (IsTypedStatement s n (syntax.Assign name xs value)) (only_if (is_count (expr_count xs) (dimensions_of s k)) (joined (SetCell name k) ys (as_number v)))
  cell_right k e = for_only _ (is_count (expr_count xs) (dimensions_of s k)) _ (λ c.
      for_joined (AreTyped s xs) (IsTyped s false value) (IsTypedStatement s n (syntax.Assign name xs value)) (SetCell name k)
      (λ z y i l. (ap (λ u. syntax.Assign name u (erase y)) i.0 ∙ ap (syntax.Assign name xs) l.0, (e, is_count_holds (expr_count xs) (dimensions_of s k) c ∙ ap Some (sym i.1), i.2, l.1)))
      ys (as_number v) a (number_right s false value v b))

  item_right : (item : ℕ) (o : Option (ItemKind × ℕ)) → meant s name ≡ Some (m.Item item) → kind_and_owner s.dictionary item ≡ o → For (IsTypedStatement s n (syntax.Assign name xs value)) (assign_item s name (expr_count xs) item o ys v)
  item_right item None e h = tt
  item_right item (Some (kind.Opaque, owner)) e h = tt
  item_right item (Some (kind.Number, owner)) e h =
      for_joined (IsPlace s kind.Number item xs) (IsTyped s false value) (IsTypedStatement s n (syntax.Assign name xs value)) (set_item name)
      (λ p y k l. (ap (λ u. syntax.Assign name u (erase y)) k.2.0 ∙ ap (syntax.Assign name xs) l.0, (e ∙ ap (λ i. Some (m.Item i)) (sym k.0), k.1, k.2.1, l.1)))
      (place_at s (expr_count xs) item owner ys) (as_number v) (place_right s kind.Number item owner xs ys h a) (number_right s false value v b)
  item_right item (Some (kind.Text, owner)) e h =
      for_joined (IsPlace s kind.Text item xs) (IsTypedWords s value) (IsTypedStatement s n (syntax.Assign name xs value)) (set_text_item name)
      (λ p y k l. (ap (λ u. syntax.Assign name u (erase_words y)) k.2.0 ∙ ap (syntax.Assign name xs) l.0, (e ∙ ap (λ i. Some (m.Item i)) (sym k.0), k.1, k.2.1, l.1)))
      (place_at s (expr_count xs) item owner ys) (as_words v) (place_right s kind.Text item owner xs ys h a) (words_right s false value v b)

  assign_right : (o : Option Meaning) → meant s name ≡ o → For (IsTypedStatement s n (syntax.Assign name xs value)) (assign s name o (expr_count xs) ys v)
  assign_right None e = tt
  assign_right (Some (m.Variable x)) e = variable_right (Some x) (ap (variable_meant s.routine) e)
  assign_right (Some (m.Text g)) e = text_right g e
  assign_right (Some (m.Array k)) e = cell_right k e
  assign_right (Some (m.Function k)) e = variable_right (own_result s.routine k) (ap (variable_meant s.routine) e)
  assign_right (Some (m.Record x)) e = tt
  assign_right (Some (m.Item item)) e = item_right item (kind_and_owner s.dictionary item) e refl
  assign_right (Some (m.Set x)) e = tt
  assign_right (Some m.Application) e = tt
  assign_right (Some m.Level) e = tt

  impute_item_right : (item : ℕ) (o : Option (ItemKind × ℕ)) → meant s name ≡ Some (m.Item item) → kind_and_owner s.dictionary item ≡ o → For (IsTypedStatement s n (syntax.Impute name xs value)) (impute_number s name (expr_count xs) item o ys (as_number v))
  impute_item_right item None e h = tt
  impute_item_right item (Some (kind.Opaque, owner)) e h = tt
  impute_item_right item (Some (kind.Text, owner)) e h = tt
  impute_item_right item (Some (kind.Number, owner)) e h =
      for_joined (IsPlace s kind.Number item xs) (IsTyped s false value) (IsTypedStatement s n (syntax.Impute name xs value)) (impute_item name)
      (λ p y k l. (ap (λ u. syntax.Impute name u (erase y)) k.2.0 ∙ ap (syntax.Impute name xs) l.0, (e ∙ ap (λ i. Some (m.Item i)) (sym k.0), k.1, k.2.1, l.1)))
      (place_at s (expr_count xs) item owner ys) (as_number v) (place_right s kind.Number item owner xs ys h a) (number_right s false value v b)

  impute_right : (o : Option Meaning) → meant s name ≡ o → For (IsTypedStatement s n (syntax.Impute name xs value)) (impute s name o (expr_count xs) ys (as_number v))
  impute_right None e = tt
  impute_right (Some (m.Variable x)) e = tt
  impute_right (Some (m.Text x)) e = tt
  impute_right (Some (m.Array x)) e = tt
  impute_right (Some (m.Function x)) e = tt
  impute_right (Some (m.Record x)) e = tt
  impute_right (Some (m.Item item)) e = impute_item_right item (kind_and_owner s.dictionary item) e refl
  impute_right (Some (m.Set x)) e = tt
  impute_right (Some m.Application) e = tt
  impute_right (Some m.Level) e = tt

put_right : (s : Scope) (n : ℕ) (name : Spelling) (value : syntax.Expr) (v : Option Number) (o : Option Meaning) → meant s name ≡ o → For (IsTyped s false value) v → For (IsTypedStatement s n (syntax.PutDeck name value)) (put_deck s name o v)
put_right s n name value v (Some (m.Array k)) e h =
    for_joined (λ xs. Holds (has_case s.routine) × AreDeckPicks s (slice_get s.arrays k) xs) (IsTyped s false value) (IsTypedStatement s n (syntax.PutDeck name value)) (PutDeck name k)
    (λ p y i l. (ap (syntax.PutDeck name) l.0, (e, i.0, i.1, l.1))) (picks_of s (slice_get s.arrays k)) v (deck_picks_right s (slice_get s.arrays k)) h
put_right s n name value v (Some (m.Variable x)) e h = tt
put_right s n name value v (Some (m.Text x)) e h = tt
put_right s n name value v (Some (m.Function x)) e h = tt
put_right s n name value v (Some (m.Record x)) e h = tt
put_right s n name value v (Some (m.Item x)) e h = tt
put_right s n name value v (Some (m.Set x)) e h = tt
put_right s n name value v (Some m.Application) e h = tt
put_right s n name value v (Some m.Level) e h = tt
put_right s n name value v None e h = tt

call_right : (s : Scope) (n : ℕ) (name : Spelling) (xs : syntax.Exprs) (ys : Option Numbers) (o : Option Meaning) → meant s name ≡ o → For (AreTyped s xs) ys → For (IsTypedStatement s n (syntax.Call name xs)) (call_of s name o (expr_count xs) ys)
call_right s n name xs ys (Some (m.Function k)) e h =
    for_only _ (may_call s (expr_count xs) (slice_get s.functions k)) _ (λ c. for_map (AreTyped s xs) (IsTypedStatement s n (syntax.Call name xs)) (CallOf name k)
    (λ y l. (ap (syntax.Call name) l.0, (e, ap (λ i. may_call s i (slice_get s.functions k)) l.1 ∙ c, l.2))) ys h)
call_right s n name xs ys (Some (m.Variable x)) e h = tt
call_right s n name xs ys (Some (m.Text x)) e h = tt
call_right s n name xs ys (Some (m.Array x)) e h = tt
call_right s n name xs ys (Some (m.Record x)) e h = tt
call_right s n name xs ys (Some (m.Item x)) e h = tt
call_right s n name xs ys (Some (m.Set x)) e h = tt
call_right s n name xs ys (Some m.Application) e h = tt
call_right s n name xs ys (Some m.Level) e h = tt
call_right s n name xs ys None e h = tt

-- ---- loops

abbrev IsHead : Scope → Spelling → Spelling → Variable × ℕ → Type 0
IsHead s variable record_name x = ((loop_variable s variable ≡ Some x.0) × Holds (is_free s.loops x.0)) × IsRecord s (meant s record_name) x.1

head_right : (s : Scope) (variable record_name : Spelling) → For (IsHead s variable record_name) (for_head s variable record_name)
head_right s variable record_name =
    for_joined (λ x. (loop_variable s variable ≡ Some x) × Holds (is_free s.loops x)) (IsRecord s (meant s record_name)) (IsHead s variable record_name) (λ x k. (x, k)) (λ x k a b. (a, b))
    (free_variable s.loops (loop_variable s variable)) (record_of s (meant s record_name)) (free_right s.loops (loop_variable s variable)) (record_right s (meant s record_name))

for_right : (s : Scope) (n : ℕ) (variable record_name : Spelling) (body : syntax.Stmts) (o : Option (Variable × ℕ)) (ys : Option Statements) → For (IsHead s variable record_name) o → For (AreTypedStatements (in_for s o) n body) ys
    → For (IsTypedStatement s n (syntax.For variable record_name body)) (joined (for_of variable record_name) o ys)
for_right s n variable record_name body (Some x) (Some y) h k = (ap (syntax.For variable record_name) k.0, (h.0.0, h.0.1, h.1.0, h.1.1, k.1))
for_right s n variable record_name body (Some x) None h k = tt
for_right s n variable record_name body None ys h k = tt

pub whole_right : (x : syntax.Literal) (o : Option ℤ) → signed_value x ≡ o → For (λ (y : Whole). (y.literal ≡ x) × IsWhole y) (option_map (λ value. record { literal = x; value = value }) o)
whole_right x None e = tt
whole_right x (Some value) e = (refl, e)

limit_right : (s : Scope) (x : syntax.Limit) → For (λ y. (erase_limit y ≡ x) × IsLimit s y) (limit_judged s x)
limit_right s (syntax.Fixed x) = for_map (λ (y : Whole). (y.literal ≡ x) × IsWhole y) _ Fixed (λ y k. (ap syntax.Fixed k.0, k.1)) (whole_judged x) (whole_right x (signed_value x) refl)
limit_right s (syntax.Counted count name) = for_map (IsRecord s (meant s name)) _ (Counted count name) (λ y k. (refl, k)) (record_of s (meant s name)) (record_right s (meant s name))

pub some_right : {A : Type 0} (o : Option A) → For (λ x. o ≡ Some x) o
some_right None = tt
some_right (Some x) = refl

counting_right : (s : Scope) (x : syntax.Counting) → For (λ y. (erase_counting y ≡ x) × IsCounting s y) (counting_judged s x)
counting_right s x =
    for_joined (λ (v : Variable × ℤ). ((loop_variable s x.variable ≡ Some v.0) × Holds (is_free s.loops v.0)) × (step_of x.by ≡ Some v.1)) (λ (l : Limit × Limit). ((erase_limit l.0 ≡ x.start) × IsLimit s l.0) × ((erase_limit l.1 ≡ x.stop) × IsLimit s l.1)) _ (counting_of x)
    (λ v l a b. (
      ap (λ y. record { variable = x.variable; start = y; again = x.again; stop = erase_limit l.1; by = x.by }) b.0.0 ∙ ap (λ y. record { variable = x.variable; start = x.start; again = x.again; stop = y; by = x.by }) b.1.0,
      (a.0.0, a.0.1, b.0.1, b.1.1, a.1),
    ))
    _ _
    (for_joined (λ y. (loop_variable s x.variable ≡ Some y) × Holds (is_free s.loops y)) (λ i. step_of x.by ≡ Some i) _ (λ v step. (v, step)) (λ v i a b. (a, b)) (free_variable s.loops (loop_variable s x.variable)) (step_of x.by) (free_right s.loops (loop_variable s x.variable)) (some_right (step_of x.by)))
    (for_joined (λ y. (erase_limit y ≡ x.start) × IsLimit s y) (λ y. (erase_limit y ≡ x.stop) × IsLimit s y) _ (λ y z. (y, z)) (λ y z a b. (a, b)) (limit_judged s x.start) (limit_judged s x.stop) (limit_right s x.start) (limit_right s x.stop))

do_right : (s : Scope) (n : ℕ) (x : syntax.Counting) (body : syntax.Stmts) (o : Option Counting) (ys : Option Statements) → For (λ y. (erase_counting y ≡ x) × IsCounting s y) o → For (AreTypedStatements (in_do s o) n body) ys
    → For (IsTypedStatement s n (syntax.Do x body)) (joined Do o ys)
do_right s n x body (Some c) (Some y) h k = (ap (λ e. syntax.Do e (erase_block y)) h.0 ∙ ap (syntax.Do x) k.0, (h.1, k.1))
do_right s n x body (Some c) None h k = tt
do_right s n x body None ys h k = tt

-- ---- messages

-- values of these kinds
abbrev AreTypedArguments : Scope → List ArgumentKind → syntax.Exprs → List Argument → Type 0
AreTypedArguments s ks xs ys = (erase_arguments ys ≡ xs) × (ks ≡ map argument_kind ys) × AreArguments s ys

argument_right : (s : Scope) (k : ArgumentKind) (ks : List ArgumentKind) (x : syntax.Expr) (xs : syntax.Exprs) (a : Judged) (ys : Option (List Argument)) → Right s false x a → For (AreTypedArguments s ks xs) ys
    → For (AreTypedArguments s (k ∷ ks) (syntax.expr_and x xs)) (joined (λ y ys. y ∷ ys) (as_argument (Some k) a) ys)
argument_right s argument.Number ks x xs (AsNumber (Some y)) (Some ys) h j = (ap (λ e. syntax.expr_and e (erase_arguments ys)) h.0 ∙ ap (syntax.expr_and x) j.0, ap (λ i. argument.Number ∷ i) j.1, (h.1, j.2))
argument_right s argument.Number ks x xs (AsNumber (Some y)) None h j = tt
argument_right s argument.Number ks x xs (AsNumber None) ys h j = tt
argument_right s argument.Number ks x xs (AsWords o) ys h j = tt
argument_right s argument.Number ks x xs Unknown ys h j = tt
argument_right s argument.Text ks x xs (AsWords (Some y)) (Some ys) h j = (ap (λ e. syntax.expr_and e (erase_arguments ys)) h.0 ∙ ap (syntax.expr_and x) j.0, ap (λ i. argument.Text ∷ i) j.1, (h.1, j.2))
argument_right s argument.Text ks x xs (AsWords (Some y)) None h j = tt
argument_right s argument.Text ks x xs (AsWords None) ys h j = tt
argument_right s argument.Text ks x xs (AsNumber o) ys h j = tt
argument_right s argument.Text ks x xs Unknown ys h j = tt

arguments_right : (s : Scope) (ks : List ArgumentKind) (xs : syntax.Exprs) → length ks ≡ expr_count xs → For (AreTypedArguments s ks xs) (judge_arguments s ks xs)
arguments_right s [] syntax.no_expr e = (refl, refl, tt)
arguments_right s (k ∷ ks) syntax.no_expr e = absurd (omega (arith, e))
arguments_right s [] (syntax.expr_and x xs) e = absurd (omega (arith, e))
arguments_right s (k ∷ ks) (syntax.expr_and x xs) e = argument_right s k ks x xs (judge s false x) (judge_arguments s ks xs) (judge_right s false x) (arguments_right s ks xs (omega (arith, e)))

message_right : (s : Scope) (n : ℕ) (message : syntax.Message) (xs : syntax.Exprs) (summary : Bool) (o : Option (List ArgumentKind)) → kinds_of s.messages message ≡ o
    → For (IsTypedStatement s n (syntax.ErrMsg message xs summary)) (err_msg s o message n summary xs)
message_right s n message xs summary None e = tt
message_right s n message xs summary (Some ks) e = for_only _ (length ks == expr_count xs) _ (λ c.
    for_map (AreTypedArguments s ks xs) _ (message_of message n summary) (λ ys h. (ap (λ z. syntax.ErrMsg message z summary) h.0, (refl, e ∙ ap Some h.1, h.2)))
    (judge_arguments s ks xs) (arguments_right s ks xs (eqb-true (length ks) (expr_count xs) c)))

-- ---- statements

-- the statements of an `if`, and what stands behind them
abbrev AreBranches : Scope → ℕ → syntax.Stmts → syntax.Arms → Statements × Arms → Type 0
AreBranches s n body others x = AreTypedStatements s n body x.0 × AreTypedArms s (n + length (messages_of body)) others x.1

branches_right : (s : Scope) (n : ℕ) (body : syntax.Stmts) (others : syntax.Arms) (o : Option Statements) (u : Option Arms) → For (AreTypedStatements s n body) o → For (AreTypedArms s (n + length (messages_of body)) others) u
    → For (AreBranches s n body others) (joined (λ b o. (b, o)) o u)
branches_right s n body others o u h k = for_joined (AreTypedStatements s n body) (AreTypedArms s (n + length (messages_of body)) others) (AreBranches s n body others) (λ b o. (b, o)) (λ x y a b. (a, b)) o u h k

behind : (s : Scope) (n : ℕ) (body : syntax.Stmts) (others : syntax.Arms) (x : Statements × Arms) → AreBranches s n body others x → AreStatements s n x.0 × AreArms s (n + length (messages_of (erase_block x.0))) x.1
behind s n body others x h = (h.0.1, subst (λ b. AreArms s (n + length (messages_of b)) x.1) (sym h.0.0) h.1.1)

mutual
  unfolding judge_statement judge_block judge_arms

  pub statement_right : (s : Scope) (n : ℕ) (x : syntax.Stmt) → For (IsTypedStatement s n x) (judge_statement s n x)
  statement_right s n syntax.Empty = (refl, tt)
  statement_right s n (syntax.Assign name subscripts value) = assign_right s n name subscripts value (judge_all s subscripts) (judge s false value) (all_right s subscripts) (judge_right s false value) (meant s name) refl
  statement_right s n (syntax.Call name arguments) = call_right s n name arguments (judge_all s arguments) (meant s name) refl (all_right s arguments)
  statement_right s n (syntax.If condition body others) =
      for_joined (IsTyped s false condition) (AreBranches s n body others) _ if_of
      (λ y x a b. (ap (λ e. syntax.If e (erase_block x.0) (erase_arms x.1)) a.0 ∙ ap (λ e. syntax.If condition e (erase_arms x.1)) b.0.0 ∙ ap (syntax.If condition body) b.1.0, (a.1, (behind s n body others x b).0, (behind s n body others x b).1)))
      (as_number (judge s false condition)) _ (number_right s false condition (judge s false condition) (judge_right s false condition))
      (branches_right s n body others (judge_block s n body) (judge_arms s (n + length (messages_of body)) others) (block_right s n body) (arms_right s (n + length (messages_of body)) others))
  statement_right s n (syntax.For variable record_name body) =
      for_right s n variable record_name body (for_head s variable record_name) (judge_block (in_for s (for_head s variable record_name)) n body) (head_right s variable record_name) (block_right (in_for s (for_head s variable record_name)) n body)
  statement_right s n (syntax.Do counting body) =
      do_right s n counting body (counting_judged s counting) (judge_block (in_do s (counting_judged s counting)) n body) (counting_right s counting) (block_right (in_do s (counting_judged s counting)) n body)
  statement_right s n (syntax.Jump' token jump) = for_only _ (may_jump s.loops jump) _ (λ c. (refl, c))
  statement_right s n (syntax.Impute name subscripts value) = impute_right s n name subscripts value (judge_all s subscripts) (judge s false value) (all_right s subscripts) (judge_right s false value) (meant s name) refl
  statement_right s n (syntax.PutDeck deck value) = put_right s n deck value (as_number (judge s false value)) (meant s deck) refl (number_right s false value (judge s false value) (judge_right s false value))
  statement_right s n (syntax.ErrMsg message values summary) = message_right s n message values summary (kinds_of s.messages message) refl

  pub block_right : (s : Scope) (n : ℕ) (xs : syntax.Stmts) → For (AreTypedStatements s n xs) (judge_block s n xs)
  block_right s n syntax.no_stmt = (refl, tt)
  block_right s n (syntax.stmt_and x xs) =
      for_joined (IsTypedStatement s n x) (AreTypedStatements s (n + length (messages_in x)) xs) _ statement_and
      (λ y ys a b. (ap (λ e. syntax.stmt_and e (erase_block ys)) a.0 ∙ ap (syntax.stmt_and x) b.0, (a.1, subst (λ e. AreStatements s (n + length (messages_in e)) ys) (sym a.0) b.1)))
      (judge_statement s n x) (judge_block s (n + length (messages_in x)) xs) (statement_right s n x) (block_right s (n + length (messages_in x)) xs)

  pub arms_right : (s : Scope) (n : ℕ) (xs : syntax.Arms) → For (AreTypedArms s n xs) (judge_arms s n xs)
  arms_right s n syntax.no_arm = (refl, tt)
  arms_right s n (syntax.else_of body) = for_map (AreTypedStatements s n body) (AreTypedArms s n (syntax.else_of body)) else_of (λ y k. (ap syntax.else_of k.0, k.1)) (judge_block s n body) (block_right s n body)
  arms_right s n (syntax.arm condition body others) =
      for_joined (IsTyped s false condition) (AreBranches s n body others) _ arm_of
      (λ y x a b. (ap (λ e. syntax.arm e (erase_block x.0) (erase_arms x.1)) a.0 ∙ ap (λ e. syntax.arm condition e (erase_arms x.1)) b.0.0 ∙ ap (syntax.arm condition body) b.1.0, (a.1, (behind s n body others x b).0, (behind s n body others x b).1)))
      (as_number (judge s false condition)) _ (number_right s false condition (judge s false condition) (judge_right s false condition))
      (branches_right s n body others (judge_block s n body) (judge_arms s (n + length (messages_of body)) others) (block_right s n body) (arms_right s (n + length (messages_of body)) others))
