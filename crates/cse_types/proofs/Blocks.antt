-- What statements that hold others are judged to be, and the messages that stand in them.
use Rattle.std.specs.Prelude.{Bool, false}
use Rattle.std.proofs.Common.{◌≡◌, ℕ, ◌+◌, List, [], ◌∷◌, ◌++◌, length, map, Option, Some, None, Result, Ok, Err, IfOk, refl, ap, sym, ◌∙◌, arith, option_map, append_assoc, length-append}
use Rattle.std.specs.Global.{Vec}
use Rattle.cse_syntax_tree.specs.declared.tree.Expression as rustexpression
use Rattle.cse_syntax_tree.specs.declared.tree.Jump.{Jump}
use Rattle.cse_syntax_tree.specs.declared.tree.Lexeme.{Lexeme}
use Rattle.cse_syntax_tree.specs.declared.tree.Place.{Place}
use Rattle.cse_syntax_tree.specs.declared.tree.Statement as rusts
use Rattle.cse_syntax_tree.specs.declared.tree.StatementKind.{StatementKind}
use Rattle.cse_syntax_tree.specs.declared.tree.StatementKind.TheVariants as kind
use Rattle.cse_syntax_tree.specs.declared.tree.Arm as rustarm
use Rattle.cse_syntax_tree.specs.Tree as syntax
use Rattle.cse_syntax_tree.specs.Tree.{Spelling, expr, stmt, stmt_kind, arm_tree}
use Rattle.cse_logic_tree.specs.declared.tree.Statement as typedstatement
use Rattle.cse_logic_tree.specs.declared.tree.Variable.{Variable}
use Rattle.cse_logic_tree.specs.Typed as typed
use Rattle.cse_logic_tree.specs.Typed.{Number, Statement, Statements, Arms, Counting, If, Do, statement, statement_and, statements, arms, no_arm, else_of}
use Rattle.cse_logic_names.specs.Scope.{Scope}
use Rattle.cse_logic_names.specs.WellTyped.{messages_in, messages_of, messages_behind, kinds_of, may_jump}
use Rattle.cse_logic_expressions.specs.Judge.{as_number, judge}
use Rattle.cse_logic_expressions.specs.JudgeStatement.{assign, call_of, impute, put_deck, err_msg, if_of, arm_of, judge_statement, judge_block, judge_arms, guarded, judge_arm, judge_each, messages_each, chosen, opened, for_loop, do_loop, for_head, for_of, counting_judged}
use Rattle.cse_logic_expressions.specs.Clauses.{by_name, by_name_with, by_place}
use Rattle.cse_logic_names.specs.Walk.{joined, only_if}
use Rattle.cse_types.proofs.Counted.{walk_from, gathered}

-- ---- blocks and arms as walks

abbrev pub statement_at : Scope → ℕ → rusts.Statement → Option Statement
statement_at s n x = judge_statement s n (stmt x)

abbrev pub messages_at : rusts.Statement → List (syntax.Message × Bool)
messages_at x = messages_in (stmt x)

abbrev pub count_at : rusts.Statement → ℕ
count_at x = length (messages_at x)

pub block_walked : (s : Scope) (n : ℕ) (xs : List rusts.Statement) → judge_block s n (syntax.block xs) ≡ option_map statements (walk_from (statement_at s) count_at n xs)
unfolding judge_block
block_walked s n [] = refl
block_walked s n (x ∷ xs) =
    ap (joined statement_and (statement_at s n x)) (block_walked s (n + count_at x) xs)
    ∙ by (statement_at s n x) (walk_from (statement_at s) count_at (n + count_at x) xs)
  where
    by : (y : Option Statement) (ys : Option (List Statement)) → joined statement_and y (option_map statements ys) ≡ option_map statements (joined (λ y ys. y ∷ ys) y ys)
    by (Some y) (Some ys) = refl
    by (Some y) None = refl
    by None ys = refl

pub block_gathered : (xs : List rusts.Statement) → messages_of (syntax.block xs) ≡ gathered messages_at xs
block_gathered [] = refl
block_gathered (x ∷ xs) = ap (λ ms. messages_at x ++ ms) (block_gathered xs)

abbrev pub arm_at : Scope → ℕ → rustarm.Arm → Option (Number × Statements)
arm_at s n x = judge_arm s n (arm_tree x)

abbrev pub arm_messages : rustarm.Arm → List (syntax.Message × Bool)
arm_messages x = messages_of (arm_tree x).1

abbrev pub arm_count : rustarm.Arm → ℕ
arm_count x = length (arm_messages x)

pub arms_walked : (s : Scope) (n : ℕ) (xs : List rustarm.Arm) → judge_each s n (map arm_tree xs) ≡ walk_from (arm_at s) arm_count n xs
arms_walked s n [] = refl
arms_walked s n (x ∷ xs) = ap (joined (λ y ys. y ∷ ys) (arm_at s n x)) (arms_walked s (n + arm_count x) xs)

pub arms_gathered : (xs : List rustarm.Arm) → messages_each (map arm_tree xs) ≡ gathered arm_messages xs
arms_gathered [] = refl
arms_gathered (x ∷ xs) = ap (λ ms. arm_messages x ++ ms) (arms_gathered xs)

-- ---- an `if`

pub messages_arms : (xs : List (syntax.Expr × syntax.Stmts)) (last : syntax.Arms) → messages_behind (syntax.arms xs last) ≡ messages_each xs ++ messages_behind last
messages_arms [] last = refl
messages_arms (x ∷ xs) last = ap (λ ms. messages_of x.1 ++ ms) (messages_arms xs last) ∙ sym (append_assoc (messages_of x.1) (messages_each xs) (messages_behind last))

arm_grouped : (a : Option Number) (b : Option Statements) (e : Option (List (Number × Statements))) (l : Option Arms)
    → joined arm_of a (joined (λ b o. (b, o)) b (joined arms e l)) ≡ joined arms (joined (λ y ys. y ∷ ys) (joined guarded a b) e) l
arm_grouped None b e l = refl
arm_grouped (Some a) None e l = refl
arm_grouped (Some a) (Some b) None l = refl
arm_grouped (Some a) (Some b) (Some e) None = refl
arm_grouped (Some a) (Some b) (Some e) (Some l) = refl

if_grouped : (a : Option Number) (b : Option Statements) (r : Option Arms)
    → joined if_of a (joined (λ b o. (b, o)) b r) ≡ joined (λ (x : Number × Statements) (rest : Arms). If x.0 x.1 rest) (joined guarded a b) r
if_grouped None b r = refl
if_grouped (Some a) None r = refl
if_grouped (Some a) (Some b) None = refl
if_grouped (Some a) (Some b) (Some r) = refl

none_before : (l : Option Arms) → l ≡ joined arms (Some []) l
none_before None = refl
none_before (Some l) = refl

pub arms_judged : (s : Scope) (n : ℕ) (xs : List (syntax.Expr × syntax.Stmts)) (last : syntax.Arms)
    → judge_arms s n (syntax.arms xs last) ≡ joined arms (judge_each s n xs) (judge_arms s (n + length (messages_each xs)) last)
unfolding judge_arms
arms_judged s n [] last =
    let e : n ≡ n + 0 = omega (arith) in
    none_before (judge_arms s n last) ∙ ap (λ k. joined arms (Some []) (judge_arms s k last)) e
arms_judged s n (x ∷ xs) last =
    let a = as_number (judge s false x.0) in
    let b = judge_block s n x.1 in
    let k = n + length (messages_of x.1) in
    let e = judge_each s k xs in
    let more : k + length (messages_each xs) ≡ n + length (messages_of x.1 ++ messages_each xs) = omega (arith, length-append (messages_of x.1) (messages_each xs)) in
    ap (λ r. joined arm_of a (joined (λ b o. (b, o)) b r)) (arms_judged s k xs last)
    ∙ arm_grouped a b e (judge_arms s (k + length (messages_each xs)) last)
    ∙ ap (λ m. joined arms (joined (λ y ys. y ∷ ys) (joined guarded a b) e) (judge_arms s m last)) more

module _ (s : Scope) (x : syntax.Expr × syntax.Stmts) (xs : List (syntax.Expr × syntax.Stmts)) (last : syntax.Arms) where
  pub choice_judged : (n k m : ℕ) → k ≡ n + length (messages_of x.1) → m ≡ k + length (messages_each xs)
      → chosen (judge_arm s n x) (judge_each s k xs) (judge_arms s m last) ≡ judge_statement s n (syntax.If x.0 x.1 (syntax.arms xs last))
  unfolding judge_statement
  choice_judged n k m k_is m_is =
      let a = as_number (judge s false x.0) in
      let b = judge_block s n x.1 in
      let first = judge_arm s n x in
      ap (λ o. chosen first (judge_each s k xs) (judge_arms s o last)) m_is
      ∙ ap (joined (λ (x : Number × Statements) (rest : Arms). If x.0 x.1 rest) first) (sym (arms_judged s k xs last))
      ∙ ap (λ o. joined (λ (x : Number × Statements) (rest : Arms). If x.0 x.1 rest) first (judge_arms s o (syntax.arms xs last))) k_is
      ∙ sym (if_grouped a b (judge_arms s (n + length (messages_of x.1)) (syntax.arms xs last)))

  pub choice_told : (old first others new : List (syntax.Message × Bool)) → first ≡ old ++ messages_of x.1 → others ≡ first ++ messages_each xs → new ≡ others ++ messages_behind last
      → new ≡ old ++ messages_in (syntax.If x.0 x.1 (syntax.arms xs last))
  choice_told old first others new first_is others_are new_is =
      new_is
      ∙ ap (λ ms. ms ++ messages_behind last) others_are
      ∙ append_assoc first (messages_each xs) (messages_behind last)
      ∙ ap (λ ms. first ++ ms) (sym (messages_arms xs last))
      ∙ ap (λ ms. ms ++ messages_behind (syntax.arms xs last)) first_is
      ∙ append_assoc old (messages_of x.1) (messages_behind (syntax.arms xs last))

  pub choice_value : (n k m : ℕ) (s1 : Scope) (f : Option (Number × Statements)) (e : Option (List (Number × Statements))) (l : Option Arms) (result : Option Statement)
      → k ≡ n + length (messages_of x.1) → m ≡ k + length (messages_each xs) → s1 ≡ s
      → f ≡ judge_arm s n x → e ≡ judge_each s1 k xs → l ≡ judge_arms s m last → result ≡ chosen f e l
      → result ≡ judge_statement s n (syntax.If x.0 x.1 (syntax.arms xs last))
  choice_value n k m s1 f e l result k_is m_is s_is f_is e_is l_is r_is =
      r_is
      ∙ ap (λ o. chosen o e l) f_is
      ∙ ap (λ o. chosen (judge_arm s n x) o l) (e_is ∙ ap (λ z. judge_each z k xs) s_is)
      ∙ ap (chosen (judge_arm s n x) (judge_each s k xs)) l_is
      ∙ choice_judged n k m k_is m_is

-- a message
pub message_judged : (s : Scope) (n k : ℕ) (message : syntax.Message) (values : syntax.Exprs) (summary : Bool) → k ≡ n → err_msg s (kinds_of s.messages message) message k summary values ≡ judge_statement s n (syntax.ErrMsg message values summary)
unfolding judge_statement
message_judged s n k message values summary e = ap (λ i. err_msg s (kinds_of s.messages message) message i summary values) e

-- what stands behind the arms
pub none_judged : (s : Scope) (m : ℕ) → Some no_arm ≡ judge_arms s m syntax.no_arm
unfolding judge_arms
none_judged s m = refl

pub else_judged : (s : Scope) (m : ℕ) (body : syntax.Stmts) → option_map else_of (judge_block s m body) ≡ judge_arms s m (syntax.else_of body)
unfolding judge_arms
else_judged s m body = refl

-- ---- loops

module _ (s : Scope) (n : ℕ) (variable record_name : Spelling) (body : syntax.Stmts) (h : Option (Variable × ℕ)) (l : Option (Option ℕ × Variable)) (h_is : h ≡ for_head s variable record_name) (l_is : l ≡ option_map for_loop h) where
  inner_is : judge_block (opened s l) n body ≡ judge_block (opened s (option_map for_loop h)) n body
  inner_is = ap (λ o. judge_block (opened s o) n body) l_is

  pub for_judged : joined (for_of variable record_name) h (judge_block (opened s l) n body) ≡ judge_statement s n (syntax.For variable record_name body)
  unfolding judge_statement
  for_judged =
      ap (joined (for_of variable record_name) h) inner_is
      ∙ ap (λ o. joined (for_of variable record_name) o (judge_block (opened s (option_map for_loop o)) n body)) h_is

module _ (s : Scope) (n : ℕ) (x : syntax.Counting) (body : syntax.Stmts) (h : Option Counting) (l : Option (Option ℕ × Variable)) (h_is : h ≡ counting_judged s x) (l_is : l ≡ option_map do_loop h) where
  pub do_judged : joined Do h (judge_block (opened s l) n body) ≡ judge_statement s n (syntax.Do x body)
  unfolding judge_statement
  do_judged =
      ap (λ o. joined Do h (judge_block (opened s o) n body)) l_is
      ∙ ap (λ o. joined Do o (judge_block (opened s (option_map do_loop o)) n body)) h_is

-- ---- statements that hold no others

module _ (s : Scope) (n : ℕ) where
  pub assign_judged : (place : Place) (value : rustexpression.Expression) → by_place assign s place (judge s false (expr value)) ≡ judge_statement s n (stmt_kind (kind.Assign place value))
  unfolding judge_statement
  assign_judged place value = refl

  pub call_judged : (name : Lexeme) (values : Vec rustexpression.Expression) → by_name_with call_of s name values.items ≡ judge_statement s n (stmt_kind (kind.Call name values))
  unfolding judge_statement
  call_judged name values = refl

  pub jump_judged : (token : ℕ) (jump : Jump) → only_if (may_jump s.loops jump) (Some (typed.Jump' token jump)) ≡ judge_statement s n (stmt_kind (kind.Jump token jump))
  unfolding judge_statement
  jump_judged token jump = refl

  pub impute_judged : (place : Place) (value : rustexpression.Expression) → by_place impute s place (as_number (judge s false (expr value))) ≡ judge_statement s n (stmt_kind (kind.Impute place value))
  unfolding judge_statement
  impute_judged place value = refl

  pub put_judged : (deck : Lexeme) (value : rustexpression.Expression) → by_name put_deck s deck (as_number (judge s false (expr value))) ≡ judge_statement s n (stmt_kind (kind.PutDeck deck value))
  unfolding judge_statement
  put_judged deck value = refl

  pub empty_judged : Some typed.Empty ≡ judge_statement s n (stmt_kind kind.Empty)
  unfolding judge_statement
  empty_judged = refl

  -- what a call made of a statement of this kind
  pub leaf_value : {E : Type 0} (r : Result (Option typedstatement.Statement) E) (k k' : StatementKind) (judged : Option Statement) → k ≡ k' → judged ≡ judge_statement s n (stmt_kind k) → IfOk r (λ x. option_map statement x ≡ judged)
      → IfOk r (λ x. option_map statement x ≡ judge_statement s n (stmt_kind k'))
  leaf_value (Ok x) k k' judged same e ok = ok ∙ e ∙ ap (λ k. judge_statement s n (stmt_kind k)) same
  leaf_value (Err f) k k' judged same e ok = tt
