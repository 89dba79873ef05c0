-- A statement is judged to be sound exactly where it has no fault: a line for each node.
use Rattle.std.specs.Prelude.{Bool, true, false, ◌&&◌, ◌||◌, not, ◌==◌, nat_le, if◌then◌else◌, slice_get}
use Rattle.std.proofs.Common.{◌≡◌, ℕ, ◌+◌, List, [], ◌∷◌, ◌++◌, length, Option, Some, None, refl, sym, ap, ◌∙◌, arith, option_map}
use Rattle.std.proofs.lemmas.Bool.{eqb-true}
use Rattle.cse_lemmas.proofs.Booleans.{and-false, and_assoc, and-true}
use Rattle.cse_value.specs.declared.shape.ItemKind.{ItemKind}
use Rattle.cse_value.specs.declared.shape.ItemKind.TheVariants as kind
use Rattle.cse_image_parts.specs.declared.placeholders.ArgumentKind.{ArgumentKind}
use Rattle.cse_image_parts.specs.declared.placeholders.ArgumentKind.TheVariants as a
use Rattle.cse_syntax_tree.specs.First.{expr_token, message_token}
use Rattle.cse_syntax_tree.specs.Tree as syntax
use Rattle.cse_syntax_tree.specs.Tree.{Spelling}
use Rattle.cse_logic_tree.specs.declared.tree.Variable.{Variable}
use Rattle.cse_logic_tree.specs.declared.tree.Found.{Found}
use Rattle.cse_logic_tree.specs.Typed.{Number, Numbers, Here, At, OfNumber, OfWords, Fixed, Counted, Statements, SetText, SetCell, Set, CallOf, Do, PutDeck, statement_and, else_of}
use Rattle.cse_logic_names.specs.declared.meaning.Meaning.{Meaning}
use Rattle.cse_logic_names.specs.declared.meaning.Meaning.TheVariants as m
use Rattle.cse_logic_names.specs.Scope.{Scope, meant, own_result, loop_variable, has_case, kind_and_owner, found, is_free, within}
use Rattle.cse_logic_names.specs.Walk.{is_there, joined, only_if}
use Rattle.cse_logic_names.specs.WellTyped.{dimensions_of, may_call, messages_in, messages_of, kinds_of, signed_value, step_of, may_jump, value_of}
use Rattle.cse_logic_names.proofs.Walks.{there_map}
use Rattle.cse_logic_faults.specs.Faults.{Fault, only, unless, Counts, is_text, is_number, sort_of, text_token}
use Rattle.cse_logic_faults.specs.FaultsOfExpressions.{cell_faults, call_faults, record_faults, deck_faults, text_faults, count_of, expr_faults, numbers_faults, number_faults}
use Rattle.cse_logic_faults.specs.FaultsOfStatements.{free_faults, stands, place_faults, assign_item_faults, assign_result_faults, assign_faults, impute_item_faults, impute_faults, alone_faults, variable_or, record_in, for_scope, do_scope, digits_faults, limit_faults, by_faults, variable_faults, counting_faults, for_faults, values_faults, is_of, arguments_faults, message_faults, stmt_faults, stmts_faults, arms_faults}
use Rattle.cse_logic_expressions.specs.Judge.{Judged, is_sound, as_number, field_at, sole, is_count, picks_of, record_of, judge, judge_all}
use Rattle.cse_logic_expressions.specs.JudgeStatement.{as_words, free_variable, which_at, place_at, set_item, set_text_item, impute_item, assign_variable, assign_item, assign, impute_number, impute, put_deck, call_of, head, for_head, in_for, for_of, whole_judged, limit_judged, limit_pair, with_step, counting_of, counting_judged, in_do, as_argument, judge_arguments, message_of, err_msg, if_of, arm_of, judge_statement, judge_block, judge_arms}
use Rattle.cse_logic_expressions.proofs.Right.{For, for_joined, for_only, IsRecord, record_right, for_any}
use Rattle.cse_types.specs.Counted.{IsCounted}
use Rattle.cse_types.proofs.Truths.{none, and_both, and_flip, and_second, none_both, none_unless, none_of_two, there_if, there_both, told_both}
use Rattle.cse_types.proofs.Sorts.{sort_judged, number_there, words_there, sort_is, number_told}
use Rattle.cse_types.proofs.Expressions.{Subscripts, counts_are, subscripts_are, field_there, record_told, calls_told, cells_told, picks_are_told, expr_told, numbers_told}

-- ---- what a value is put into

module _ (c : Counts) (s : Scope) (counted : IsCounted c s) (name : Spelling) (n : ℕ) (xs : Option Numbers) (subscripts : Subscripts n xs) where
  -- where none are to stand there, they are sound
  bare_order : (b : Bool) → ((n == 0) && b) ≡ (is_there xs && ((n == 0) && b))
  bare_order b = by (n == 0) subscripts.no_one
    where
      by : (z : Bool) → (z ≡ true → is_there xs ≡ true) → (z && b) ≡ (is_there xs && (z && b))
      by true h = sym (ap (λ t. t && b) (h refl))
      by false h = sym (and-false (is_there xs))

  at_fault : (v : Bool) → false ≡ (is_there xs && (v && false))
  at_fault v = sym (ap (λ b. is_there xs && b) (and-false v) ∙ and-false (is_there xs))

  -- a place of an item

  which_there : (how : Option Found) → is_there (which_at n how xs) ≡ (if n == 0 then is_there how else (is_there xs && (n == 1)))
  which_there how = by (n == 0)
    where
      by : (z : Bool) → is_there (if z then option_map Here how else option_map At (sole xs)) ≡ (if z then is_there how else (is_there xs && (n == 1)))
      by true = there_map Here how
      by false = there_map At (sole xs) ∙ subscripts.one

  place_none : (token owner : ℕ) → none (place_faults s token n owner) ≡ (not (owner == 255) && (stands s n owner && nat_le n 1))
  place_none token owner = by (owner == 255)
    where
      by : (b : Bool) → none (if b then only 43 token else unless (stands s n owner) 49 token ++ unless (nat_le n 1) 44 token) ≡ (not b && (stands s n owner && nat_le n 1))
      by true = refl
      by false = none_of_two (stands s n owner) (nat_le n 1) 49 token 44 token

  place_order : (z x one few case known field : Bool) → (z ≡ true → x ≡ true) → few ≡ (z || one)
      → ((case && field) && (if z then known else (x && one))) ≡ (x && (field && ((case && (not z || known)) && few)))
  place_order true x one few case known field h k =
      ap (λ b. b && known) (and_flip case field)
      ∙ and_assoc field case known
      ∙ ap (λ b. field && b) (sym (and-true (case && known)) ∙ ap (λ b. (case && known) && b) (sym k))
      ∙ ap (λ b. b && (field && ((case && known) && few))) (sym (h refl))
  place_order false x one few case known field h k =
      and_second (case && field) x one
      ∙ ap (λ b. x && (b && one)) (and_flip case field)
      ∙ ap (λ b. x && b) (and_assoc field case one)
      ∙ ap (λ b. x && (field && (b && one))) (sym (and-true case))
      ∙ ap (λ b. x && (field && ((case && true) && b))) (sym k)

  place_told : (token item owner : ℕ) → is_there (place_at s n item owner xs) ≡ (is_there xs && none (place_faults s token n owner))
  place_told token item owner =
      there_both _ (field_at s item owner) (which_at n (found s owner) xs)
      ∙ and_both (field_there c s item owner) (which_there (found s owner))
      ∙ place_order (n == 0) (is_there xs) (n == 1) (nat_le n 1) (has_case s.routine) (is_there (found s owner)) (not (owner == 255)) subscripts.no_one subscripts.few
      ∙ ap (λ b. is_there xs && b) (sym (place_none token owner))

  -- assignments of a value of this sort

  module _ (v : Judged) (token : ℕ) where
    as_number_none : (fs : List Fault) → (none fs && (is_sound v && not (is_text (sort_judged v)))) ≡ (is_sound v && none (fs ++ text_faults (sort_judged v) token))
    as_number_none fs =
        and_second (none fs) (is_sound v) (not (is_text (sort_judged v)))
        ∙ ap (λ b. is_sound v && b) (ap (λ b. none fs && b) (sym (none_unless (not (is_text (sort_judged v))) 44 token)) ∙ sym (none_both fs (text_faults (sort_judged v) token)))

    as_words_none : (fs : List Fault) → (none fs && (is_sound v && not (is_number (sort_judged v)))) ≡ (is_sound v && none (fs ++ unless (not (is_number (sort_judged v))) 44 name.token))
    as_words_none fs =
        and_second (none fs) (is_sound v) (not (is_number (sort_judged v)))
        ∙ ap (λ b. is_sound v && b) (ap (λ b. none fs && b) (sym (none_unless (not (is_number (sort_judged v))) 44 name.token)) ∙ sym (none_both fs (unless (not (is_number (sort_judged v))) 44 name.token)))

    variable_told : (number : ℕ) (x : Variable)
        → is_there (assign_variable s name (Some x) n v) ≡ (is_there xs && (is_sound v && none ((unless (n == 0) number name.token ++ unless (is_free s.loops x) 47 name.token) ++ text_faults (sort_judged v) token)))
    variable_told number x =
        let free = is_free s.loops x in
        let faults = unless (n == 0) number name.token ++ unless free 47 name.token in
        there_if (n == 0) _
        ∙ ap (λ b. (n == 0) && b) (there_both (Set name) (only_if free (Some x)) (as_number v) ∙ and_both (there_if free (Some x) ∙ and-true free) (number_there v))
        ∙ bare_order (free && (is_sound v && not (is_text (sort_judged v))))
        ∙ ap (λ b. is_there xs && b) (
        sym (and_assoc (n == 0) free (is_sound v && not (is_text (sort_judged v))))
        ∙ ap (λ b. b && (is_sound v && not (is_text (sort_judged v)))) (sym (none_of_two (n == 0) free number name.token 47 name.token))
        ∙ as_number_none faults
        )

    result_told : (o : Option Variable) → is_there (assign_variable s name o n v) ≡ (is_there xs && (is_sound v && none (assign_result_faults s name.token n o ++ text_faults (sort_judged v) token)))
    result_told None = there_if (n == 0) None ∙ and-false (n == 0) ∙ at_fault (is_sound v)
    result_told (Some x) = variable_told 40 x

    item_told : (item : ℕ) (o : Option (ItemKind × ℕ)) → is_there (assign_item s name n item o xs v) ≡ (is_there xs && (is_sound v && none (assign_item_faults s name.token n o (sort_judged v) token)))
    item_told item None = at_fault (is_sound v)
    item_told item (Some (kind.Opaque, owner)) = at_fault (is_sound v)
    item_told item (Some (kind.Number, owner)) =
        there_both (set_item name) (place_at s n item owner xs) (as_number v)
        ∙ and_both (place_told name.token item owner) (number_there v)
        ∙ and_assoc (is_there xs) (none (place_faults s name.token n owner)) (is_sound v && not (is_text (sort_judged v)))
        ∙ ap (λ b. is_there xs && b) (as_number_none (place_faults s name.token n owner))
    item_told item (Some (kind.Text, owner)) =
        there_both (set_text_item name) (place_at s n item owner xs) (as_words v)
        ∙ and_both (place_told name.token item owner) (words_there v)
        ∙ and_assoc (is_there xs) (none (place_faults s name.token n owner)) (is_sound v && not (is_number (sort_judged v)))
        ∙ ap (λ b. is_there xs && b) (as_words_none (place_faults s name.token n owner))

    assign_told : (o : Option Meaning) → is_there (assign s name o n xs v) ≡ (is_there xs && (is_sound v && none (assign_faults c s name.token n o (sort_judged v) token)))
    assign_told None = at_fault (is_sound v)
    assign_told (Some (m.Variable x)) = variable_told 44 x
    assign_told (Some (m.Text g)) =
        let wanted = not (is_number (sort_judged v)) in
        there_if (n == 0) (option_map (SetText name g) (as_words v))
        ∙ ap (λ b. (n == 0) && b) (there_map (SetText name g) (as_words v) ∙ words_there v)
        ∙ bare_order (is_sound v && wanted)
        ∙ ap (λ b. is_there xs && b) (and_second (n == 0) (is_sound v) wanted ∙ ap (λ b. is_sound v && b) (sym (none_unless ((n == 0) && wanted) 44 name.token)))
    assign_told (Some (m.Array k)) =
        there_if (is_count n (dimensions_of s k)) (joined (SetCell name k) xs (as_number v))
        ∙ and_both (cells_told c s counted name.token n k) (there_both (SetCell name k) xs (as_number v) ∙ ap (λ b. is_there xs && b) (number_there v))
        ∙ and_second (none (cell_faults c name.token n k)) (is_there xs) (is_sound v && not (is_text (sort_judged v)))
        ∙ ap (λ b. is_there xs && b) (as_number_none (cell_faults c name.token n k))
    assign_told (Some (m.Function k)) = result_told (own_result s.routine k)
    assign_told (Some (m.Record x)) = at_fault (is_sound v)
    assign_told (Some (m.Item item)) = item_told item (kind_and_owner s.dictionary item)
    assign_told (Some (m.Set x)) = at_fault (is_sound v)
    assign_told (Some m.Application) = at_fault (is_sound v)
    assign_told (Some m.Level) = at_fault (is_sound v)

  -- imputations

  impute_item_told : (item : ℕ) (o : Option (ItemKind × ℕ)) (w : Option Number) → is_there (impute_number s name n item o xs w) ≡ (is_there xs && (is_there w && none (impute_item_faults s name.token n o)))
  impute_item_told item None w = at_fault (is_there w)
  impute_item_told item (Some (kind.Opaque, owner)) w = at_fault (is_there w)
  impute_item_told item (Some (kind.Number, owner)) w =
      there_both (impute_item name) (place_at s n item owner xs) w
      ∙ ap (λ b. b && is_there w) (place_told name.token item owner)
      ∙ and_assoc (is_there xs) (none (place_faults s name.token n owner)) (is_there w)
      ∙ ap (λ b. is_there xs && b) (and_flip (none (place_faults s name.token n owner)) (is_there w))
  impute_item_told item (Some (kind.Text, owner)) w = at_fault (is_there w)

  impute_told : (o : Option Meaning) (w : Option Number) → is_there (impute s name o n xs w) ≡ (is_there xs && (is_there w && none (impute_faults s name.token n o)))
  impute_told None w = at_fault (is_there w)
  impute_told (Some (m.Variable x)) w = at_fault (is_there w)
  impute_told (Some (m.Text g)) w = at_fault (is_there w)
  impute_told (Some (m.Array k)) w = at_fault (is_there w)
  impute_told (Some (m.Function k)) w = at_fault (is_there w)
  impute_told (Some (m.Record x)) w = at_fault (is_there w)
  impute_told (Some (m.Item item)) w = impute_item_told item (kind_and_owner s.dictionary item) w
  impute_told (Some (m.Set x)) w = at_fault (is_there w)
  impute_told (Some m.Application) w = at_fault (is_there w)
  impute_told (Some m.Level) w = at_fault (is_there w)

  -- a call that stands alone

  alone_told : (o : Option Meaning) → is_there (call_of s name o n xs) ≡ (is_there xs && none (alone_faults c s name.token n o))
  alone_told None = sym (and-false (is_there xs))
  alone_told (Some (m.Variable x)) = sym (and-false (is_there xs))
  alone_told (Some (m.Text g)) = sym (and-false (is_there xs))
  alone_told (Some (m.Array k)) = sym (and-false (is_there xs))
  alone_told (Some (m.Function k)) =
      there_if (may_call s n (slice_get s.functions k)) (option_map (CallOf name k) xs)
      ∙ and_both (calls_told c s counted name.token n k) (there_map (CallOf name k) xs)
      ∙ and_flip (none (call_faults c s name.token n k)) (is_there xs)
  alone_told (Some (m.Record x)) = sym (and-false (is_there xs))
  alone_told (Some (m.Item item)) = sym (and-false (is_there xs))
  alone_told (Some (m.Set x)) = sym (and-false (is_there xs))
  alone_told (Some m.Application) = sym (and-false (is_there xs))
  alone_told (Some m.Level) = sym (and-false (is_there xs))

module _ (c : Counts) (s : Scope) (counted : IsCounted c s) where
  put_told : (name : Spelling) (o : Option Meaning) (w : Option Number) → is_there (put_deck s name o w) ≡ (is_there w && none (deck_faults s name.token o))
  put_told name None w = sym (and-false (is_there w))
  put_told name (Some (m.Variable x)) w = sym (and-false (is_there w))
  put_told name (Some (m.Text g)) w = sym (and-false (is_there w))
  put_told name (Some (m.Array k)) w =
      there_both (PutDeck name k) (picks_of s (slice_get s.arrays k)) w
      ∙ ap (λ b. b && is_there w) (picks_are_told c s counted name.token k)
      ∙ and_flip (none (deck_faults s name.token (Some (m.Array k)))) (is_there w)
  put_told name (Some (m.Function k)) w = sym (and-false (is_there w))
  put_told name (Some (m.Record x)) w = sym (and-false (is_there w))
  put_told name (Some (m.Item item)) w = sym (and-false (is_there w))
  put_told name (Some (m.Set x)) w = sym (and-false (is_there w))
  put_told name (Some m.Application) w = sym (and-false (is_there w))
  put_told name (Some m.Level) w = sym (and-false (is_there w))

  -- ---- messages

  argument_told : (k : ArgumentKind) (x : syntax.Expr) → is_there (as_argument (Some k) (judge s false x)) ≡ none (expr_faults c s false x ++ unless (is_of k (sort_of s x)) 44 (expr_token x))
  argument_told a.Number x = there_map OfNumber (as_number (judge s false x)) ∙ number_told s false x (expr_faults c s false x) (expr_told c s counted false x) (expr_token x)
  argument_told a.Text x =
      let wanted = not (is_number (sort_of s x)) in
      there_map OfWords (as_words (judge s false x))
      ∙ words_there (judge s false x)
      ∙ and_both (expr_told c s counted false x) (ap (λ z. not (is_number z)) (sort_is s false x) ∙ sym (none_unless wanted 44 (expr_token x)))
      ∙ sym (none_both (expr_faults c s false x) (unless wanted 44 (expr_token x)))

  arguments_told : (kinds : List ArgumentKind) (xs : syntax.Exprs) → length kinds ≡ count_of xs → is_there (judge_arguments s kinds xs) ≡ none (arguments_faults c s kinds xs)
  arguments_told [] syntax.no_expr h = refl
  arguments_told (k ∷ ks) syntax.no_expr h = refl
  arguments_told [] (syntax.expr_and x xs) h = absurd (omega (arith, h))
  arguments_told (k ∷ ks) (syntax.expr_and x xs) h =
      told_both _ (as_argument (Some k) (judge s false x)) (judge_arguments s ks xs) (expr_faults c s false x ++ unless (is_of k (sort_of s x)) 44 (expr_token x)) (arguments_faults c s ks xs)
      (argument_told k x) (arguments_told ks xs (omega (arith, h)))

  message_told : (message : syntax.Message) (o : Option (List ArgumentKind)) (n : ℕ) (summary : Bool) (xs : syntax.Exprs)
      → is_there (err_msg s o message n summary xs) ≡ none (message_faults c s (message_token message) o xs)
  message_told message None n summary xs = refl
  message_told message (Some kinds) n summary xs =
      let values = judge_arguments s kinds xs in
      ap (λ k. is_there (only_if (length kinds == k) (option_map (message_of message n summary) values))) (counts_are xs)
      ∙ by (length kinds == count_of xs) (λ h. arguments_told kinds xs (eqb-true (length kinds) (count_of xs) h))
    where
      by : (b : Bool) → (b ≡ true → is_there (judge_arguments s kinds xs) ≡ none (arguments_faults c s kinds xs))
          → is_there (only_if b (option_map (message_of message n summary) (judge_arguments s kinds xs))) ≡ none (if b then arguments_faults c s kinds xs else only 48 (message_token message) ++ values_faults c s xs)
      by true h = there_map (message_of message n summary) (judge_arguments s kinds xs) ∙ h refl
      by false h = refl

-- ---- loops

pub whole_told : (x : syntax.Literal) → is_there (whole_judged x) ≡ none (digits_faults x.digits)
whole_told x = there_map _ (signed_value x) ∙ there_map _ (value_of x.digits) ∙ sym (none_unless (is_there (value_of x.digits)) 44 x.digits.token)

module _ (s : Scope) where
  free_told : (token : ℕ) (o : Option Variable) → is_there (free_variable s.loops o) ≡ none (free_faults s token o)
  free_told token None = refl
  free_told token (Some x) = there_if (is_free s.loops x) (Some x) ∙ and-true (is_free s.loops x) ∙ sym (none_unless (is_free s.loops x) 47 token)

  free_right : (o : Option Variable) → For (λ x. o ≡ Some x) (free_variable s.loops o)
  free_right None = tt
  free_right (Some x) = for_only (λ y. Some x ≡ Some y) (is_free s.loops x) (Some x) (λ h. refl)

  limit_told : (c : Counts) (x : syntax.Limit) → is_there (limit_judged s x) ≡ none (limit_faults s x)
  limit_told c (syntax.Fixed x) = there_map Fixed (whole_judged x) ∙ whole_told x
  limit_told c (syntax.Counted count name) = there_map (Counted count name) (record_of s (meant s name)) ∙ record_told c s name.token (meant s name)

  step_told : (by : Option Spelling) → is_there (step_of by) ≡ none (by_faults by)
  step_told None = refl
  step_told (Some digits) = sym (none_unless (is_there (value_of digits)) 44 digits.token)

  for_head_told : (c : Counts) (variable record_name : Spelling) → is_there (for_head s variable record_name) ≡ none (for_faults s variable record_name)
  for_head_told c variable record_name =
      told_both head (free_variable s.loops (loop_variable s variable)) (record_of s (meant s record_name)) (variable_faults s variable) (record_faults s record_name.token (meant s record_name))
      (free_told variable.token (loop_variable s variable)) (record_told c s record_name.token (meant s record_name))

  -- the scope of the body, where the head is sound
  for_scope_is : (variable record_name : Spelling) → For (λ h. in_for s (Some h) ≡ for_scope s variable record_name) (for_head s variable record_name)
  for_scope_is variable record_name =
      for_joined (λ x. loop_variable s variable ≡ Some x) (IsRecord s (meant s record_name)) (λ h. in_for s (Some h) ≡ for_scope s variable record_name) head
      (λ x k e r. ap (λ o. within s (record_in o) x) (sym r.0) ∙ ap (λ o. within s (record_in (meant s record_name)) (variable_or o)) (sym e))
      (free_variable s.loops (loop_variable s variable)) (record_of s (meant s record_name)) (free_right (loop_variable s variable)) (record_right s (meant s record_name))

  do_order : (f w p q : Bool) → ((f && w) && (p && q)) ≡ (f && (p && (q && w)))
  do_order f w p q = and_assoc f w (p && q) ∙ ap (λ b. f && b) (and_flip w (p && q) ∙ and_assoc p q w)

  do_head_told : (c : Counts) (x : syntax.Counting) → is_there (counting_judged s x) ≡ none (counting_faults s x)
  do_head_told c x =
      let variable = free_variable s.loops (loop_variable s x.variable) in
      there_both (counting_of x) (joined with_step variable (step_of x.by)) (joined limit_pair (limit_judged s x.start) (limit_judged s x.stop))
      ∙ and_both (there_both with_step variable (step_of x.by)) (there_both limit_pair (limit_judged s x.start) (limit_judged s x.stop))
      ∙ do_order (is_there variable) (is_there (step_of x.by)) (is_there (limit_judged s x.start)) (is_there (limit_judged s x.stop))
      ∙ and_both (free_told x.variable.token (loop_variable s x.variable)) (and_both (limit_told c x.start) (and_both (limit_told c x.stop) (step_told x.by)))
      ∙ sym (
      none_both (variable_faults s x.variable) (limit_faults s x.start ++ (limit_faults s x.stop ++ by_faults x.by))
      ∙ ap (λ b. none (variable_faults s x.variable) && b) (none_both (limit_faults s x.start) (limit_faults s x.stop ++ by_faults x.by))
      ∙ ap (λ b. none (variable_faults s x.variable) && (none (limit_faults s x.start) && b)) (none_both (limit_faults s x.stop) (by_faults x.by))
      )

  do_scope_is : (x : syntax.Counting) → For (λ h. in_do s (Some h) ≡ do_scope s x.variable) (counting_judged s x)
  do_scope_is x =
      let variable = free_variable s.loops (loop_variable s x.variable) in
      for_joined (λ v. loop_variable s x.variable ≡ Some v.0) (λ l. Unit {0}) (λ h. in_do s (Some h) ≡ do_scope s x.variable) (counting_of x)
      (λ v l e u. ap (λ o. within s None (variable_or o)) (sym e))
      (joined with_step variable (step_of x.by)) (joined limit_pair (limit_judged s x.start) (limit_judged s x.stop))
      (for_joined (λ y. loop_variable s x.variable ≡ Some y) (λ z. Unit {0}) (λ v. loop_variable s x.variable ≡ Some v.0) with_step (λ y z e u. e) variable (step_of x.by) (free_right (loop_variable s x.variable)) (for_any (step_of x.by)))
      (for_any (joined limit_pair (limit_judged s x.start) (limit_judged s x.stop)))

-- ---- statements

pub counted_within : (c : Counts) (s : Scope) (over : Option ℕ) (variable : Variable) → IsCounted c s → IsCounted c (within s over variable)
counted_within c s over variable h = record { arrays = h.arrays; functions = h.functions }

module _ (c : Counts) where
  -- the body of a loop whose head is told
  body_told : {H A : Type 0} (g : H → Statements → A) (h : Option H) (inner : Option H → Scope) (outer : Scope) (n : ℕ) (body : syntax.Stmts) (faults : List Fault)
      → For (λ x. inner (Some x) ≡ outer) h → is_there h ≡ none faults → is_there (judge_block outer n body) ≡ none (stmts_faults c outer body)
      → is_there (joined g h (judge_block (inner h) n body)) ≡ none (faults ++ stmts_faults c outer body)
  body_told g None inner outer n body faults same head_told told = ap (λ b. b && none (stmts_faults c outer body)) head_told ∙ sym (none_both faults (stmts_faults c outer body))
  body_told g (Some x) inner outer n body faults same head_told told =
      there_both g (Some x) (judge_block (inner (Some x)) n body)
      ∙ and_both head_told (ap (λ z. is_there (judge_block z n body)) same ∙ told)
      ∙ sym (none_both faults (stmts_faults c outer body))

  number_is_told : (s : Scope) → IsCounted c s → (top : Bool) (x : syntax.Expr) → is_there (as_number (judge s top x)) ≡ none (number_faults c s top x)
  number_is_told s counted top x = number_told s top x (expr_faults c s top x) (expr_told c s counted top x) (text_token x)

  mutual
    unfolding judge_statement judge_block judge_arms stmt_faults stmts_faults arms_faults

    pub statement_told : (s : Scope) → IsCounted c s → (n : ℕ) (x : syntax.Stmt) → is_there (judge_statement s n x) ≡ none (stmt_faults c s x)
    statement_told s k n syntax.Empty = refl
    statement_told s k n (syntax.Assign name subscripts value) =
        let xs = judge_all s subscripts in
        let v = judge s false value in
        let count = count_of subscripts in
        let token = text_token value in
        ap (λ i. is_there (assign s name (meant s name) i xs v)) (counts_are subscripts)
        ∙ assign_told c s k name count xs (subscripts_are s subscripts) v token (meant s name)
        ∙ and_both (numbers_told c s k subscripts) (and_both (expr_told c s k false value) (ap (λ z. none (assign_faults c s name.token count (meant s name) z token)) (sort_is s false value)))
        ∙ sym (
        none_both (numbers_faults c s subscripts) (expr_faults c s false value ++ assign_faults c s name.token count (meant s name) (sort_of s value) token)
        ∙ ap (λ b. none (numbers_faults c s subscripts) && b) (none_both (expr_faults c s false value) (assign_faults c s name.token count (meant s name) (sort_of s value) token))
        )
    statement_told s k n (syntax.Call name arguments) =
        let xs = judge_all s arguments in
        let count = count_of arguments in
        ap (λ i. is_there (call_of s name (meant s name) i xs)) (counts_are arguments)
        ∙ alone_told c s k name count xs (subscripts_are s arguments) (meant s name)
        ∙ ap (λ b. b && none (alone_faults c s name.token count (meant s name))) (numbers_told c s k arguments)
        ∙ sym (none_both (numbers_faults c s arguments) (alone_faults c s name.token count (meant s name)))
    statement_told s k n (syntax.If condition body others) =
        let then_ = judge_block s n body in
        let else_ = judge_arms s (n + length (messages_of body)) others in
        told_both if_of (as_number (judge s false condition)) (joined (λ b o. (b, o)) then_ else_) (number_faults c s false condition) (stmts_faults c s body ++ arms_faults c s others)
        (number_is_told s k false condition)
        (told_both (λ b o. (b, o)) then_ else_ (stmts_faults c s body) (arms_faults c s others) (block_told s k n body) (arms_told s k (n + length (messages_of body)) others))
    statement_told s k n (syntax.For variable record_name body) =
        let outer = for_scope s variable record_name in
        body_told (for_of variable record_name) (for_head s variable record_name) (in_for s) outer n body (for_faults s variable record_name)
        (for_scope_is s variable record_name) (for_head_told s c variable record_name)
        (block_told outer (counted_within c s (record_in (meant s record_name)) (variable_or (loop_variable s variable)) k) n body)
    statement_told s k n (syntax.Do counting body) =
        let outer = do_scope s counting.variable in
        body_told Do (counting_judged s counting) (in_do s) outer n body (counting_faults s counting)
        (do_scope_is s counting) (do_head_told s c counting)
        (block_told outer (counted_within c s None (variable_or (loop_variable s counting.variable)) k) n body)
    statement_told s k n (syntax.Jump' token jump) =
        there_if (may_jump s.loops jump) _ ∙ and-true (may_jump s.loops jump) ∙ sym (none_unless (may_jump s.loops jump) 49 token)
    statement_told s k n (syntax.Impute name subscripts value) =
        let xs = judge_all s subscripts in
        let w = as_number (judge s false value) in
        let count = count_of subscripts in
        ap (λ i. is_there (impute s name (meant s name) i xs w)) (counts_are subscripts)
        ∙ impute_told c s k name count xs (subscripts_are s subscripts) (meant s name) w
        ∙ and_both (numbers_told c s k subscripts) (ap (λ b. b && none (impute_faults s name.token count (meant s name))) (number_is_told s k false value))
        ∙ sym (
        none_both (numbers_faults c s subscripts) (number_faults c s false value ++ impute_faults s name.token count (meant s name))
        ∙ ap (λ b. none (numbers_faults c s subscripts) && b) (none_both (number_faults c s false value) (impute_faults s name.token count (meant s name)))
        )
    statement_told s k n (syntax.PutDeck deck value) =
        put_told c s k deck (meant s deck) (as_number (judge s false value))
        ∙ ap (λ b. b && none (deck_faults s deck.token (meant s deck))) (number_is_told s k false value)
        ∙ sym (none_both (number_faults c s false value) (deck_faults s deck.token (meant s deck)))
    statement_told s k n (syntax.ErrMsg message values summary) = message_told c s k message (kinds_of s.messages message) n summary values

    pub block_told : (s : Scope) → IsCounted c s → (n : ℕ) (xs : syntax.Stmts) → is_there (judge_block s n xs) ≡ none (stmts_faults c s xs)
    block_told s k n syntax.no_stmt = refl
    block_told s k n (syntax.stmt_and x xs) =
        told_both statement_and (judge_statement s n x) (judge_block s (n + length (messages_in x)) xs) (stmt_faults c s x) (stmts_faults c s xs)
        (statement_told s k n x) (block_told s k (n + length (messages_in x)) xs)

    arms_told : (s : Scope) → IsCounted c s → (n : ℕ) (xs : syntax.Arms) → is_there (judge_arms s n xs) ≡ none (arms_faults c s xs)
    arms_told s k n syntax.no_arm = refl
    arms_told s k n (syntax.else_of body) = there_map else_of (judge_block s n body) ∙ block_told s k n body
    arms_told s k n (syntax.arm condition body others) =
        let then_ = judge_block s n body in
        let else_ = judge_arms s (n + length (messages_of body)) others in
        told_both arm_of (as_number (judge s false condition)) (joined (λ b o. (b, o)) then_ else_) (number_faults c s false condition) (stmts_faults c s body ++ arms_faults c s others)
        (number_is_told s k false condition)
        (told_both (λ b o. (b, o)) then_ else_ (stmts_faults c s body) (arms_faults c s others) (block_told s k n body) (arms_told s k (n + length (messages_of body)) others))
