-- Each sound statement is judged to be itself.
use Rattle.std.proofs.Common.{◌≡◌, ℕ, ◌+◌, Bool, true, false, List, [], ◌∷◌, length, map, Option, Some, None, refl, sym, ap, ◌∙◌, arith}
use Rattle.std.specs.Prelude.{◌==◌, ◌&&◌, not, option_map, slice_get}
use Rattle.std.proofs.lemmas.Bool.{eq-eqb}
use Rattle.std.proofs.lemmas.Option.{none-some}
use Rattle.cse_value.specs.declared.shape.ItemKind.{ItemKind}
use Rattle.cse_value.specs.declared.shape.ItemKind.TheVariants as kind
use Rattle.cse_syntax_tree.specs.Tree as syntax
use Rattle.cse_syntax_tree.specs.Tree.{Spelling}
use Rattle.cse_logic_tree.specs.declared.tree.Variable.{Variable}
use Rattle.cse_logic_tree.specs.declared.tree.Field.{Field}
use Rattle.cse_logic_tree.specs.Typed.{Number, Numbers, no_number, Which, Here, At, Argument, OfNumber, OfWords, Whole, Limit, Fixed, Counted, Counting, Statement, Statements, Arms}
use Rattle.cse_logic_tree.specs.Typed.{Empty, Set, SetText, SetItem, SetTextItem, SetCell, CallOf, If, For, Do, Jump', Impute, PutDeck, ErrMsg, no_statement, statement_and, no_arm, else_of, arm}
use Rattle.cse_logic_tree.specs.Erase.{erase, erase_words, erase_all, erase_which, erase_arguments, erase_limit, erase_counting, erase_statement, erase_block, erase_arms}
use Rattle.cse_logic_names.specs.declared.meaning.Meaning.{Meaning}
use Rattle.cse_logic_names.specs.declared.meaning.Meaning.TheVariants as m
use Rattle.cse_logic_names.specs.Scope.{Scope, meant, variable_meant, found, is_free}
use Rattle.cse_logic_names.specs.WellTyped.{IsField, IsWhich, count, IsLimit, IsCounting, IsWhole, IsArgument, AreArguments, argument_kind, IsStatement, AreStatements, AreArms}
use Rattle.cse_logic_expressions.specs.Judge.{Judged, AsNumber, AsWords, Unknown, as_number, expr_count, judge, judge_all}
use Rattle.cse_logic_expressions.specs.JudgeStatement.{which_at, place_at, assign_variable, assign, free_variable, whole_judged, limit_judged, counting_judged, judge_arguments, judge_statement, judge_block, judge_arms}
use Rattle.cse_logic_names.specs.Walk.{joined, only_if}
use Rattle.cse_logic_expressions.proofs.Complete.{field_complete, deck_complete, complete, complete_words, complete_all}

which_complete : (s : Scope) (owner : ℕ) (w : Which) → IsWhich s owner w → which_at (expr_count (erase_which w)) (found s owner) (judge_all s (erase_which w)) ≡ Some w
unfolding judge_all
which_complete s owner (Here how) h = rw h refl
which_complete s owner (At place) h = rw (complete s false place h) refl

place_complete : (s : Scope) (k : ItemKind) (f : Field) (w : Which) → IsField s k f → IsWhich s f.owner w → place_at s (expr_count (erase_which w)) f.item f.owner (judge_all s (erase_which w)) ≡ Some (f, w)
place_complete s k f w h a = rw (field_complete s k f h, which_complete s f.owner w a) refl

variable_complete : (s : Scope) (name : Spelling) (x : Variable) (o : Option Meaning) (value : Judged) → variable_meant s.routine o ≡ Some x → assign s name o 0 (Some no_number) value ≡ assign_variable s name (Some x) 0 value
variable_complete s name x None value h = absurd (none-some x h)
variable_complete s name x (Some (m.Variable y)) value h = ap (λ (o : Option Variable). assign_variable s name o 0 value) h
variable_complete s name x (Some (m.Text y)) value h = absurd (none-some x h)
variable_complete s name x (Some (m.Array y)) value h = absurd (none-some x h)
variable_complete s name x (Some (m.Function k)) value h = ap (λ (o : Option Variable). assign_variable s name o 0 value) h
variable_complete s name x (Some (m.Record y)) value h = absurd (none-some x h)
variable_complete s name x (Some (m.Item y)) value h = absurd (none-some x h)
variable_complete s name x (Some (m.Set y)) value h = absurd (none-some x h)
variable_complete s name x (Some m.Application) value h = absurd (none-some x h)
variable_complete s name x (Some m.Level) value h = absurd (none-some x h)

limit_complete : (s : Scope) (x : Limit) → IsLimit s x → limit_judged s (erase_limit x) ≡ Some x
limit_complete s (Fixed x) h = rw h refl
limit_complete s (Counted count name of) h = rw (h.0, h.1) refl

counting_complete : (s : Scope) (x : Counting) → IsCounting s x → counting_judged s (erase_counting x) ≡ Some x
counting_complete s x h = rw (h.0, h.1, limit_complete s x.start h.2, limit_complete s x.stop h.3, h.4) refl

arguments_complete : (s : Scope) (xs : List Argument) → AreArguments s xs → judge_arguments s (map argument_kind xs) (erase_arguments xs) ≡ Some xs
arguments_complete s [] h = refl
arguments_complete s (OfNumber x ∷ xs) h = rw (complete s false x h.0, arguments_complete s xs h.1) refl
arguments_complete s (OfWords x ∷ xs) h = rw (complete_words s false x h.0, arguments_complete s xs h.1) refl

as_many : (xs : List Argument) → length (map argument_kind xs) ≡ expr_count (erase_arguments xs)
as_many [] = refl
as_many (OfNumber x ∷ xs) = let e = as_many xs in omega (arith, e)
as_many (OfWords x ∷ xs) = let e = as_many xs in omega (arith, e)

mutual
  unfolding judge_statement judge_block judge_arms judge_all

  pub statement_complete : (s : Scope) (n : ℕ) (y : Statement) → IsStatement s n y → judge_statement s n (erase_statement y) ≡ Some y
  statement_complete s n Empty h = refl
  statement_complete s n (Set name variable value) h =
      variable_complete s name variable (meant s name) (judge s false (erase value)) h.0 ∙ rw (h.1, complete s false value h.2) refl
  statement_complete s n (SetText name variable value) h = rw (h.0, complete_words s false value h.1) refl
  statement_complete s n (SetItem name f which value) h =
      rw (h.0, h.1.1, place_complete s kind.Number f which h.1 h.2, complete s false value h.3) refl
  statement_complete s n (SetTextItem name f which value) h =
      rw (h.0, h.1.1, place_complete s kind.Text f which h.1 h.2, complete_words s false value h.3) refl
  statement_complete s n (SetCell name array subscripts value) h =
      let c = complete_all s subscripts h.2 in
      let e = eq-eqb (count subscripts) (expr_count (erase_all subscripts)) (sym c.1) in
      rw (h.0, h.1, c.0, e, complete s false value h.3) refl
  statement_complete s n (CallOf name function arguments) h =
      let c = complete_all s arguments h.2 in
      rw (h.0, c.1, h.1, c.0) refl
  statement_complete s n (If condition body others) h =
      rw (complete s false condition h.0, block_complete s n body h.1, arms_complete s _ others h.2) refl
  statement_complete s n (For name variable record_name of body) h =
      rw (h.0, h.1, h.2, h.3, block_complete _ n body h.4) refl
  statement_complete s n (Do counting body) h =
      rw (counting_complete s counting h.0, block_complete _ n body h.1) refl
  statement_complete s n (Jump' token jump) h = rw h refl
  statement_complete s n (Impute name f which value) h =
      rw (h.0, h.1.1, place_complete s kind.Number f which h.1 h.2, complete s false value h.3) refl
  statement_complete s n (PutDeck name array picks value) h =
      rw (h.0, deck_complete s (slice_get s.arrays array) picks h.1 h.2, complete s false value h.3) refl
  statement_complete s n (ErrMsg message index values summary) h =
      let e = eq-eqb (length (map argument_kind values)) (expr_count (erase_arguments values)) (as_many values) in
      rw (h.1, e, arguments_complete s values h.2) (ap (λ i. Some (ErrMsg message i values summary)) (sym h.0))

  pub block_complete : (s : Scope) (n : ℕ) (ys : Statements) → AreStatements s n ys → judge_block s n (erase_block ys) ≡ Some ys
  block_complete s n no_statement h = refl
  block_complete s n (statement_and x xs) h = rw (statement_complete s n x h.0, block_complete s _ xs h.1) refl

  pub arms_complete : (s : Scope) (n : ℕ) (ys : Arms) → AreArms s n ys → judge_arms s n (erase_arms ys) ≡ Some ys
  arms_complete s n no_arm h = refl
  arms_complete s n (else_of body) h = rw (block_complete s n body h) refl
  arms_complete s n (arm condition body others) h =
      rw (complete s false condition h.0, block_complete s n body h.1, arms_complete s _ others h.2) refl
