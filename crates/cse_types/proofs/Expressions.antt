-- An expression is judged to be sound exactly where it has no fault: a line for each node.
use Rattle.std.specs.Prelude.{Bool, true, false, ◌&&◌, ◌||◌, not, ◌==◌, nat_le, if◌then◌else◌, slice_get}
use Rattle.std.specs.Option.{option_and_then}
use Rattle.std.proofs.Common.{◌≡◌, ℕ, ◌+◌, ◌-◌, List, [], ◌∷◌, ◌++◌, length, Option, Some, None, refl, sym, ap, ◌∙◌, arith, option_map}
use Rattle.std.proofs.lemmas.Bool.{false≢true, ne_eqb, lt-leb}
use Rattle.cse_lemmas.proofs.Booleans.{and-false, and-true}
use Rattle.cse_value.specs.declared.shape.ItemKind.{ItemKind}
use Rattle.cse_value.specs.declared.shape.ItemKind.TheVariants as kind
use Rattle.cse_dict.specs.Dictionary.{SetText as ValueSet}
use Rattle.cse_syntax_tree.specs.First.{expr_token}
use Rattle.cse_syntax_tree.specs.declared.tree.Relation.{Relation}
use Rattle.cse_syntax_tree.specs.declared.tree.Function.TheVariants as f
use Rattle.cse_syntax_tree.specs.declared.tree.Query.{Query}
use Rattle.cse_syntax_tree.specs.declared.tree.Query.TheVariants as q
use Rattle.cse_syntax_tree.specs.Tree as syntax
use Rattle.cse_syntax_tree.specs.Tree.{Spelling}
use Rattle.cse_logic_tree.specs.declared.tree.Variable.{Variable}
use Rattle.cse_logic_tree.specs.declared.tree.Field.{Field}
use Rattle.cse_logic_tree.specs.declared.tree.Present.TheVariants as p
use Rattle.cse_logic_tree.specs.Typed.{Number, Numbers, Constant, Item, ItemAt, TextItem, TextItemAt, Cell, Call, Group, TextGroup, Int, IsSpecial, Deck, TotOcc, MaxOcc, CurOcc, Minus, Not, Chain, no_number, number_and, operation_and, Dimension, Sized, Rows}
use Rattle.cse_logic_names.specs.declared.meaning.Meaning.{Meaning}
use Rattle.cse_logic_names.specs.declared.meaning.Meaning.TheVariants as m
use Rattle.cse_logic_names.specs.Scope.{Scope, Facts, meant, own_result, has_case, kind_and_owner, found, are_free}
use Rattle.cse_logic_names.specs.Walk.{is_there, joined, only_if}
use Rattle.cse_logic_names.specs.WellTyped.{kind_of, whole_set, set_kind, set_meant, dimensions_of, may_call, suits, may_divide, value_of}
use Rattle.cse_logic_names.proofs.Walks.{there_map}
use Rattle.cse_logic_faults.specs.Faults.{Fault, only, unless, Counts, is_count as is_declared, sort_of, text_token}
use Rattle.cse_logic_faults.specs.FaultsOfExpressions.{is_present, item_faults, field_faults, item_at_faults, number_item_faults, ended_faults, call_faults, cell_faults, bare_faults, indexed_faults, set_kind_faults, number_set_faults, set_faults, set_token, member_faults, is_record, record_faults, is_known, current_faults, is_numeric_present, is_picked, is_deck, are_picked, picks_faults, deck_faults, query_faults, text_faults, kinds_faults, is_end as is_last_operation, count_of, expr_faults, numbers_faults, operations_faults}
use Rattle.cse_logic_expressions.specs.Judge.{Judged, AsNumber, AsWords, Unknown, is_sound, as_number, present_at, field_at, item_judged, sole, item_at_judged, result_judged, bare, is_count, indexed, present_if, number_present, pick, set_present, picks_for, picks_of, deck_of, record_of, current, queried, is_number_kind, number_set, in_set, member, grouped, compared, expr_count, is_end, judge, judge_all, judge_operations}
use Rattle.cse_types.specs.Counted.{ArrayIsCounted, FunctionIsCounted, IsCounted}
use Rattle.cse_types.proofs.Truths.{none, and_both, and_flip, and_second, none_both, none_unless, none_beside, none_of_two, there_if, there_both, told_both, told_if}
use Rattle.cse_types.proofs.Sorts.{sort_judged, sort_is, number_told}

-- ---- subscripts

-- so many subscripts, which are sound where they are there
pub record Subscripts (n : ℕ) (xs : Option Numbers) : Type 0 where
  pub no_one : (n == 0) ≡ true → is_there xs ≡ true
  pub one : is_there (sole xs) ≡ (is_there xs && (n == 1))
  pub few : nat_le n 1 ≡ ((n == 0) || (n == 1))

more : (n : ℕ) → ((n + 1) == 0) ≡ false
more n = ne_eqb (n + 1) 0 (λ e. omega (arith, e))

more_than_one : (n : ℕ) → ((n + 1 + 1) == 1) ≡ false
more_than_one n = ne_eqb (n + 1 + 1) 1 (λ e. omega (arith, e))

pub counts_are : (xs : syntax.Exprs) → expr_count xs ≡ count_of xs
counts_are syntax.no_expr = refl
counts_are (syntax.expr_and x xs) = ap (λ n. n + 1) (counts_are xs)

sole_of_one : (x : Option Number) → is_there (sole (joined number_and x (Some no_number))) ≡ (is_there (joined number_and x (Some no_number)) && true)
sole_of_one None = refl
sole_of_one (Some x) = refl

sole_of_more : (x y : Option Number) (xs : Option Numbers) → is_there (sole (joined number_and x (joined number_and y xs))) ≡ false
sole_of_more None y xs = refl
sole_of_more (Some x) None xs = refl
sole_of_more (Some x) (Some y) None = refl
sole_of_more (Some x) (Some y) (Some xs) = refl

pub subscripts_are : (s : Scope) (xs : syntax.Exprs) → Subscripts (count_of xs) (judge_all s xs)
unfolding judge_all
subscripts_are s syntax.no_expr = record { no_one = λ h. refl; one = refl; few = refl }
subscripts_are s (syntax.expr_and x syntax.no_expr) = record {
  no_one = λ h. absurd (false≢true h);
  one = sole_of_one (as_number (judge s false x));
  few = refl;
}
subscripts_are s (syntax.expr_and x (syntax.expr_and y xs)) =
    let n = count_of xs in
    let all = joined number_and (as_number (judge s false x)) (joined number_and (as_number (judge s false y)) (judge_all s xs)) in
    record {
      no_one = λ h. absurd (false≢true (sym (more (n + 1)) ∙ h));
      one = sole_of_more (as_number (judge s false x)) (as_number (judge s false y)) (judge_all s xs) ∙ sym (ap (λ b. is_there all && b) (more_than_one n) ∙ and-false (is_there all));
      few = lt-leb (n + 1 + 1) 1 (omega arith) ∙ sym (ap (λ b. b || ((n + 1 + 1) == 1)) (more (n + 1)) ∙ more_than_one n);
    }

module _ (c : Counts) (s : Scope) where
  -- ---- items

  pub present_there : (item owner : ℕ) → is_there (present_at s item owner) ≡ is_present s owner
  unfolding present_at
  present_there item owner = there_if (has_case s.routine) _ ∙ ap (λ b. has_case s.routine && b) (by (owner == 255))
    where
      by : (b : Bool) → is_there (if b then Some (p.Id item) else option_map (p.Here (record { owner = owner; item = item })) (found s owner)) ≡ (b || is_there (found s owner))
      by true = refl
      by false = there_map _ (found s owner)

  pub field_there : (item owner : ℕ) → is_there (field_at s item owner) ≡ (has_case s.routine && not (owner == 255))
  unfolding field_at
  field_there item owner = there_if (has_case s.routine && not (owner == 255)) _ ∙ and-true _

  item_told : (name : Spelling) (item : ℕ) (o : Option (ItemKind × ℕ)) → is_sound (item_judged s name item o) ≡ none (item_faults s name.token o)
  item_told name item None = refl
  item_told name item (Some (kind.Opaque, owner)) = refl
  item_told name item (Some (kind.Number, owner)) = there_map (Item name) (present_at s item owner) ∙ present_there item owner ∙ sym (none_unless (is_present s owner) 49 name.token)
  item_told name item (Some (kind.Text, owner)) = there_map (TextItem name) (present_at s item owner) ∙ present_there item owner ∙ sym (none_unless (is_present s owner) 49 name.token)

  result_told : (name : Spelling) (o : Option Variable) → is_sound (result_judged name o) ≡ none (unless (is_there o) 40 name.token)
  result_told name None = sym (none_unless false 40 name.token)
  result_told name (Some x) = sym (none_unless true 40 name.token)

  bare_told : (name : Spelling) (o : Option Meaning) → is_sound (bare s name o) ≡ none (bare_faults s name.token o)
  bare_told name None = refl
  bare_told name (Some (m.Variable x)) = refl
  bare_told name (Some (m.Text g)) = refl
  bare_told name (Some (m.Array a)) = refl
  bare_told name (Some (m.Function k)) = result_told name (own_result s.routine k)
  bare_told name (Some (m.Record x)) = refl
  bare_told name (Some (m.Item item)) = item_told name item (kind_and_owner s.dictionary item)
  bare_told name (Some (m.Set x)) = refl
  bare_told name (Some m.Application) = refl
  bare_told name (Some m.Level) = refl

  -- ---- records and sets

  pub record_told : (token : ℕ) (o : Option Meaning) → is_there (record_of s o) ≡ none (record_faults s token o)
  record_told token o = by o ∙ sym (none_of_two (is_record o) (has_case s.routine) 40 token 49 token)
    where
      by : (o : Option Meaning) → is_there (record_of s o) ≡ (is_record o && has_case s.routine)
      by None = refl
      by (Some (m.Variable x)) = refl
      by (Some (m.Text g)) = refl
      by (Some (m.Array a)) = refl
      by (Some (m.Function k)) = refl
      by (Some (m.Record x)) = there_if (has_case s.routine) (Some x) ∙ and-true (has_case s.routine)
      by (Some (m.Item item)) = refl
      by (Some (m.Set x)) = refl
      by (Some m.Application) = refl
      by (Some m.Level) = refl

  current_told : (name : Spelling) (o : Option Meaning) → is_there (current s name (record_of s o)) ≡ none (current_faults s name.token o)
  current_told name o = by o ∙ sym (none_of_two (is_record o) (has_case s.routine && is_known s o) 40 name.token 49 (name.token - 2))
    where
      known : (b : Bool) (x : ℕ) → is_there (current s name (only_if b (Some x))) ≡ (b && is_there (found s x))
      known true x = there_map (CurOcc name x) (found s x)
      known false x = refl

      by : (o : Option Meaning) → is_there (current s name (record_of s o)) ≡ (is_record o && (has_case s.routine && is_known s o))
      by None = refl
      by (Some (m.Variable x)) = refl
      by (Some (m.Text g)) = refl
      by (Some (m.Array a)) = refl
      by (Some (m.Function k)) = refl
      by (Some (m.Record x)) = known (has_case s.routine) x
      by (Some (m.Item item)) = refl
      by (Some (m.Set x)) = refl
      by (Some m.Application) = refl
      by (Some m.Level) = refl

  number_item_told : (token item : ℕ) (o : Option (ItemKind × ℕ)) → is_there (present_if s item o) ≡ none (number_item_faults s token o)
  number_item_told token item None = refl
  number_item_told token item (Some (kind.Opaque, owner)) = refl
  number_item_told token item (Some (kind.Number, owner)) = present_there item owner ∙ sym (none_unless (is_present s owner) 49 token)
  number_item_told token item (Some (kind.Text, owner)) = refl

  kind_told : (token : ℕ) (o : Option ItemKind) → is_number_kind o ≡ none (set_kind_faults token o)
  kind_told token None = refl
  kind_told token (Some kind.Opaque) = refl
  kind_told token (Some kind.Number) = refl
  kind_told token (Some kind.Text) = refl

  set_of_told : (token : ℕ) (o : Option ValueSet) → is_number_kind (kind_of s.dictionary (whole_set o)) ≡ none (number_set_faults s.dictionary token o)
  set_of_told token None = sym (none_beside false 42 token (set_kind_faults token None))
  set_of_told token (Some x) = by x.shape.partial ∙ sym (none_beside (not x.shape.partial) 42 token (set_kind_faults token (kind_of s.dictionary (Some x.shape.item))))
    where
      by : (b : Bool) → is_number_kind (kind_of s.dictionary (if b then None else Some x.shape.item)) ≡ (not b && none (set_kind_faults token (kind_of s.dictionary (Some x.shape.item))))
      by true = refl
      by false = kind_told token (kind_of s.dictionary (Some x.shape.item))

  pub set_told : (token : ℕ) (o : Option Meaning) → is_there (number_set s o) ≡ none (set_faults s.dictionary token o)
  unfolding set_kind
  set_told token None = refl
  set_told token (Some (m.Variable x)) = refl
  set_told token (Some (m.Text g)) = refl
  set_told token (Some (m.Array a)) = refl
  set_told token (Some (m.Function k)) = refl
  set_told token (Some (m.Record x)) = refl
  set_told token (Some (m.Item item)) = refl
  set_told token (Some (m.Set x)) =
      there_if (is_number_kind (kind_of s.dictionary (whole_set (slice_get s.dictionary.sets x)))) (Some x) ∙ and-true _ ∙ set_of_told token (slice_get s.dictionary.sets x)
  set_told token (Some m.Application) = refl
  set_told token (Some m.Level) = refl

  member_told : (name : Spelling) (set : Option Spelling) (o : Option Meaning) → is_there (member s name set o) ≡ none (member_faults s name set o)
  member_told name set None = refl
  member_told name set (Some (m.Variable x)) = refl
  member_told name set (Some (m.Text g)) = refl
  member_told name set (Some (m.Array a)) = refl
  member_told name set (Some (m.Function k)) = refl
  member_told name set (Some (m.Record x)) = refl
  member_told name set (Some (m.Item item)) =
      told_both (in_set name set) (number_present s item) (number_set s (set_meant s item set)) (number_item_faults s name.token (kind_and_owner s.dictionary item)) (set_faults s.dictionary (set_token name set) (set_meant s item set))
      (number_item_told name.token item (kind_and_owner s.dictionary item)) (set_told (set_token name set) (set_meant s item set))
  member_told name set (Some (m.Set x)) = refl
  member_told name set (Some m.Application) = refl
  member_told name set (Some m.Level) = refl

  -- ---- hot decks

  numeric_there : (item : ℕ) (o : Option (ItemKind × ℕ)) → is_there (present_if s item o) ≡ is_numeric_present s o
  numeric_there item None = refl
  numeric_there item (Some (kind.Opaque, owner)) = refl
  numeric_there item (Some (kind.Number, owner)) = present_there item owner
  numeric_there item (Some (kind.Text, owner)) = refl

  picked_there : (o : Option ℕ) → is_there (set_present s o) ≡ is_picked s o
  picked_there None = refl
  picked_there (Some item) = numeric_there item (kind_and_owner s.dictionary item)

  picks_there : (ds : List Dimension) → is_there (picks_for s ds) ≡ (is_deck ds && are_picked s ds)
  picks_there [] = refl
  picks_there (Sized digits size ∷ ds) = refl
  picks_there (Rows name set one_more size ∷ ds) =
      let item = whole_set (slice_get s.dictionary.sets set) in
      there_both _ (option_map (pick set one_more) (set_present s item)) (picks_for s ds)
      ∙ and_both (there_map (pick set one_more) (set_present s item) ∙ picked_there item) (picks_there ds)
      ∙ and_second (is_picked s item) (is_deck ds) (are_picked s ds)

  picks_told : (token : ℕ) (o : Option (Option (List Dimension))) (declared : Option ℕ) → ArrayIsCounted o declared → is_there (picks_of s o) ≡ none (picks_faults s token o)
  picks_told token None declared h = refl
  picks_told token (Some None) declared h = absurd h
  picks_told token (Some (Some ds)) declared h =
      there_if (has_case s.routine) (picks_for s ds)
      ∙ ap (λ b. has_case s.routine && b) (picks_there ds)
      ∙ and_second (has_case s.routine) (is_deck ds) (are_picked s ds)
      ∙ sym (none_of_two (is_deck ds) (has_case s.routine && are_picked s ds) 40 token 49 (token - 2))

  -- ---- operators

  grouped_there : (v : Judged) → is_sound (grouped v) ≡ is_sound v
  grouped_there (AsNumber x) = there_map Group x
  grouped_there (AsWords x) = there_map TextGroup x
  grouped_there Unknown = refl

  compared_there : (relation : Relation) (x y : Judged) (left right : ℕ)
      → is_there (compared relation x y) ≡ (is_sound x && (is_sound y && none (kinds_faults (sort_judged x) left (sort_judged y) right)))
  compared_there relation (AsNumber (Some x)) (AsNumber (Some y)) left right = refl
  compared_there relation (AsNumber (Some x)) (AsNumber None) left right = refl
  compared_there relation (AsNumber None) (AsNumber y) left right = refl
  compared_there relation (AsNumber (Some x)) (AsWords (Some y)) left right = refl
  compared_there relation (AsNumber (Some x)) (AsWords None) left right = refl
  compared_there relation (AsNumber None) (AsWords y) left right = refl
  compared_there relation (AsNumber (Some x)) Unknown left right = refl
  compared_there relation (AsNumber None) Unknown left right = refl
  compared_there relation (AsWords (Some x)) (AsWords (Some y)) left right = refl
  compared_there relation (AsWords (Some x)) (AsWords None) left right = refl
  compared_there relation (AsWords None) (AsWords y) left right = refl
  compared_there relation (AsWords (Some x)) (AsNumber (Some y)) left right = refl
  compared_there relation (AsWords (Some x)) (AsNumber None) left right = refl
  compared_there relation (AsWords None) (AsNumber y) left right = refl
  compared_there relation (AsWords (Some x)) Unknown left right = refl
  compared_there relation (AsWords None) Unknown left right = refl
  compared_there relation Unknown y left right = refl

  compare_told : (relation : Relation) (x y : syntax.Expr) (left right : ℕ) (xs ys : List Fault) → is_sound (judge s false x) ≡ none xs → is_sound (judge s false y) ≡ none ys
      → is_there (compared relation (judge s false x) (judge s false y)) ≡ none (xs ++ (ys ++ kinds_faults (sort_of s x) left (sort_of s y) right))
  compare_told relation x y left right xs ys h k =
      let u = judge s false x in
      let v = judge s false y in
      compared_there relation u v left right
      ∙ and_both h (and_both k (ap (λ t. none (kinds_faults t left (sort_judged v) right)) (sort_is s false x) ∙ ap (λ t. none (kinds_faults (sort_of s x) left t right)) (sort_is s false y)))
      ∙ sym (none_both xs (ys ++ kinds_faults (sort_of s x) left (sort_of s y) right) ∙ ap (λ b. none xs && b) (none_both ys (kinds_faults (sort_of s x) left (sort_of s y) right)))

  ends_are : (xs : syntax.Operations) → is_end xs ≡ is_last_operation xs
  ends_are syntax.no_operation = refl
  ends_are (syntax.operation_and operator x xs) = refl

  -- ---- calls, cells and items with subscripts

  call_told : (token n : ℕ) (o : Option (Option Facts)) (declared : Option ℕ) → FunctionIsCounted o declared → may_call s n o ≡ none (unless (is_declared n declared) 44 token ++ ended_faults s token o)
  unfolding suits
  call_told token n None declared h = sym (none_beside (is_declared n declared) 44 token (only 45 token) ∙ and-false (is_declared n declared))
  call_told token n (Some None) declared h = absurd h
  call_told token n (Some (Some f)) declared h =
      let may = has_case s.routine || not f.needs_case in
      let free = are_free s.loops f.assigned in
      sym (
      none_beside (is_declared n declared) 44 token (unless free 47 token ++ unless may 49 token)
      ∙ and_both (ap (is_declared n) h) (none_of_two free may 47 token 49 token ∙ and_flip free may)
      )

  cell_told : (token n : ℕ) (o : Option (Option (List Dimension))) (declared : Option ℕ) → ArrayIsCounted o declared → is_count n (option_map length (option_and_then (λ x. x) o)) ≡ none (unless (is_declared n declared) 44 token)
  cell_told token n o declared h = by o h ∙ sym (none_unless (is_declared n declared) 44 token)
    where
      by : (o : Option (Option (List Dimension))) → ArrayIsCounted o declared → is_count n (option_map length (option_and_then (λ x. x) o)) ≡ is_declared n declared
      by None h = sym (ap (is_declared n) h)
      by (Some None) h = absurd h
      by (Some (Some ds)) h = sym (ap (is_declared n) h)

  module _ (counted : IsCounted c s) where
    pub calls_told : (token n k : ℕ) → may_call s n (slice_get s.functions k) ≡ none (call_faults c s token n k)
    calls_told token n k = call_told token n (slice_get s.functions k) (slice_get c.parameters k) (counted.functions k)

    pub cells_told : (token n a : ℕ) → is_count n (dimensions_of s a) ≡ none (cell_faults c token n a)
    unfolding dimensions_of
    cells_told token n a = cell_told token n (slice_get s.arrays a) (slice_get c.dimensions a) (counted.arrays a)

    pub picks_are_told : (token a : ℕ) → is_there (picks_of s (slice_get s.arrays a)) ≡ none (picks_faults s token (slice_get s.arrays a))
    picks_are_told token a = picks_told token (slice_get s.arrays a) (slice_get c.dimensions a) (counted.arrays a)

    deck_told : (name : Spelling) (o : Option Meaning) → is_there (deck_of s name o) ≡ none (deck_faults s name.token o)
    deck_told name None = refl
    deck_told name (Some (m.Variable x)) = refl
    deck_told name (Some (m.Text g)) = refl
    deck_told name (Some (m.Array a)) = there_map (Deck name a) (picks_of s (slice_get s.arrays a)) ∙ picks_are_told name.token a
    deck_told name (Some (m.Function k)) = refl
    deck_told name (Some (m.Record x)) = refl
    deck_told name (Some (m.Item item)) = refl
    deck_told name (Some (m.Set x)) = refl
    deck_told name (Some m.Application) = refl
    deck_told name (Some m.Level) = refl

    query_told : (query : Query) (name : Spelling) (o : Option Meaning) → is_there (queried s query name o) ≡ none (query_faults s query name.token o)
    query_told q.GetDeck name o = deck_told name o
    query_told q.TotOcc name o = there_map (TotOcc name) (record_of s o) ∙ record_told name.token o
    query_told q.MaxOcc name o = there_map (MaxOcc name) (record_of s o) ∙ record_told name.token o
    query_told q.CurOcc name o = current_told name o

    -- a name with subscripts
    module _ (name : Spelling) (n : ℕ) (xs : Option Numbers) (subscripts : Subscripts n xs) where
      field_order : (h o x one : Bool) → ((h && not o) && (x && one)) ≡ (x && ((one && not o) && h))
      field_order h true x one = ap (λ b. b && (x && one)) (and-false h) ∙ sym (ap (λ b. x && (b && h)) (and-false one) ∙ and-false x)
      field_order h false x one =
          ap (λ b. b && (x && one)) (and-true h) ∙ and_second h x one ∙ ap (λ b. x && b) (and_flip h one ∙ sym (ap (λ b. b && h) (and-true one)))

      field_told : {A : Type 0} (g : Field → Number → A) (item owner : ℕ) → is_there (joined g (field_at s item owner) (sole xs)) ≡ (is_there xs && none (field_faults s name.token n owner))
      field_told g item owner =
          there_both g (field_at s item owner) (sole xs)
          ∙ and_both (field_there item owner) subscripts.one
          ∙ field_order (has_case s.routine) (owner == 255) (is_there xs) (n == 1)
          ∙ ap (λ b. is_there xs && b) (sym (none_of_two ((n == 1) && not (owner == 255)) (has_case s.routine) 44 name.token 49 name.token))

      item_at_told : (item : ℕ) (o : Option (ItemKind × ℕ)) → is_sound (item_at_judged s name item o xs) ≡ (is_there xs && none (item_at_faults s name.token n o))
      item_at_told item None = sym (and-false (is_there xs))
      item_at_told item (Some (kind.Opaque, owner)) = sym (and-false (is_there xs))
      item_at_told item (Some (kind.Number, owner)) = field_told (ItemAt name) item owner
      item_at_told item (Some (kind.Text, owner)) = field_told (TextItemAt name) item owner

      indexed_told : (o : Option Meaning) → is_sound (indexed s name o n xs) ≡ (is_there xs && none (indexed_faults c s name.token n o))
      indexed_told None = sym (and-false (is_there xs))
      indexed_told (Some (m.Variable x)) = sym (and-false (is_there xs))
      indexed_told (Some (m.Text g)) = sym (and-false (is_there xs))
      indexed_told (Some (m.Array a)) =
          there_if (is_count n (dimensions_of s a)) (option_map (Cell name a) xs) ∙ and_both (cells_told name.token n a) (there_map (Cell name a) xs) ∙ and_flip (none (cell_faults c name.token n a)) (is_there xs)
      indexed_told (Some (m.Function k)) =
          there_if (may_call s n (slice_get s.functions k)) (option_map (Call name k) xs) ∙ and_both (calls_told name.token n k) (there_map (Call name k) xs) ∙ and_flip (none (call_faults c s name.token n k)) (is_there xs)
      indexed_told (Some (m.Record x)) = sym (and-false (is_there xs))
      indexed_told (Some (m.Item item)) = item_at_told item (kind_and_owner s.dictionary item)
      indexed_told (Some (m.Set x)) = sym (and-false (is_there xs))
      indexed_told (Some m.Application) = sym (and-false (is_there xs))
      indexed_told (Some m.Level) = sym (and-false (is_there xs))

    -- ---- expressions

    mutual
      unfolding judge judge_all judge_operations expr_faults numbers_faults operations_faults

      pub expr_told : (top : Bool) (x : syntax.Expr) → is_sound (judge s top x) ≡ none (expr_faults c s top x)
      expr_told top (syntax.Number digits) = there_map (Constant digits) (value_of digits) ∙ sym (none_unless (is_there (value_of digits)) 44 digits.token)
      expr_told top (syntax.Text text) = refl
      expr_told top (syntax.Special' token value) = refl
      expr_told top (syntax.Bare name) = bare_told name (meant s name)
      expr_told top (syntax.Indexed name arguments) =
          ap (λ n. is_sound (indexed s name (meant s name) n (judge_all s arguments))) (counts_are arguments)
          ∙ indexed_told name (count_of arguments) (judge_all s arguments) (subscripts_are s arguments) (meant s name)
          ∙ ap (λ b. b && none (indexed_faults c s name.token (count_of arguments) (meant s name))) (numbers_told arguments)
          ∙ sym (none_both (numbers_faults c s arguments) (indexed_faults c s name.token (count_of arguments) (meant s name)))
      expr_told top (syntax.Group x) = grouped_there (judge s false x) ∙ expr_told false x
      expr_told top (syntax.Apply f.Int x) = there_map Int (as_number (judge s true x)) ∙ number_told s true x (expr_faults c s true x) (expr_told true x) (text_token x)
      expr_told top (syntax.Apply f.Special x) = there_map IsSpecial (as_number (judge s false x)) ∙ number_told s false x (expr_faults c s false x) (expr_told false x) (text_token x)
      expr_told top (syntax.Query' query name) = query_told query name (meant s name)
      expr_told top (syntax.InValueSet name set) = member_told name set (meant s name)
      expr_told top (syntax.Minus x) = there_map Minus (as_number (judge s false x)) ∙ number_told s false x (expr_faults c s false x) (expr_told false x) (text_token x)
      expr_told top (syntax.Not x) = there_map Not (as_number (judge s false x)) ∙ number_told s false x (expr_faults c s false x) (expr_told false x) (text_token x)
      expr_told top (syntax.Compare relation x y) = compare_told relation x y (text_token x) (text_token y) (expr_faults c s false x) (expr_faults c s false y) (expr_told false x) (expr_told false y)
      expr_told top (syntax.Chain x others) =
          told_both Chain (as_number (judge s false x)) (judge_operations s top others) (expr_faults c s false x ++ text_faults (sort_of s x) (text_token x)) (operations_faults c s top others)
          (number_told s false x (expr_faults c s false x) (expr_told false x) (text_token x)) (operations_told top others)

      pub numbers_told : (xs : syntax.Exprs) → is_there (judge_all s xs) ≡ none (numbers_faults c s xs)
      numbers_told syntax.no_expr = refl
      numbers_told (syntax.expr_and x xs) =
          told_both number_and (as_number (judge s false x)) (judge_all s xs) (expr_faults c s false x ++ text_faults (sort_of s x) (text_token x)) (numbers_faults c s xs)
          (number_told s false x (expr_faults c s false x) (expr_told false x) (text_token x)) (numbers_told xs)

      operations_told : (top : Bool) (xs : syntax.Operations) → is_there (judge_operations s top xs) ≡ none (operations_faults c s top xs)
      operations_told top syntax.no_operation = refl
      operations_told top (syntax.operation_and operator x xs) =
          let number = expr_faults c s false x ++ text_faults (sort_of s x) (text_token x) in
          let rest = joined (operation_and operator) (as_number (judge s false x)) (judge_operations s top xs) in
          ap (λ b. is_there (only_if (may_divide top operator b) rest)) (ends_are xs)
          ∙ told_if (may_divide top operator (is_last_operation xs)) rest 46 (expr_token x - 1) (number ++ operations_faults c s top xs)
          (told_both (operation_and operator) (as_number (judge s false x)) (judge_operations s top xs) number (operations_faults c s top xs) (number_told s false x (expr_faults c s false x) (expr_told false x) (text_token x)) (operations_told top xs))
