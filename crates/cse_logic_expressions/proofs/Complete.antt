-- Each sound expression is judged to be itself.
use Rattle.std.proofs.Common.{◌≡◌, ℕ, ◌+◌, Bool, true, false, List, [], ◌∷◌, Option, Some, None, refl, sym, ap, ◌∙◌}
use Rattle.std.specs.Prelude.{option_map, slice_get}
use Rattle.std.proofs.lemmas.Bool.{eq-eqb}
use Rattle.std.proofs.lemmas.Option.{none-some}
use Rattle.cse_value.specs.declared.shape.ItemKind.{ItemKind}
use Rattle.cse_value.specs.declared.shape.ItemKind.TheVariants as kind
use Rattle.cse_syntax_tree.specs.Tree.{Spelling}
use Rattle.cse_logic_tree.specs.declared.tree.Variable.{Variable}
use Rattle.cse_logic_tree.specs.declared.tree.Field.{Field}
use Rattle.cse_logic_tree.specs.declared.tree.Present.{Present}
use Rattle.cse_logic_tree.specs.declared.tree.Present.TheVariants as p
use Rattle.cse_logic_tree.specs.declared.tree.Pick.{Pick}
use Rattle.cse_logic_tree.specs.Typed.{Number, Words, Numbers, Operations, Constant, Special', Variable', Item, ItemAt, Cell, Call, Group, Int, IsSpecial, Deck, TotOcc, MaxOcc, CurOcc, InSet, Minus, Not, Compare, CompareTexts, Chain}
use Rattle.cse_logic_tree.specs.Typed.{Quoted, TextGlobal, TextItem, TextItemAt, TextGroup, no_number, number_and, no_operation, operation_and}
use Rattle.cse_logic_tree.specs.Typed.{Dimension, Sized, Rows}
use Rattle.cse_logic_tree.specs.Erase.{erase, erase_words, erase_all, erase_operations}
use Rattle.cse_logic_names.specs.declared.meaning.Meaning.{Meaning}
use Rattle.cse_logic_names.specs.declared.meaning.Meaning.TheVariants as m
use Rattle.cse_logic_names.specs.Scope.{Scope, meant, variable_meant, has_case, kind_and_owner}
use Rattle.cse_logic_names.specs.WellTyped.{IsField, IsPresent, item_of, whole_set, ArePicks, AreDeckPicks, is_last, count, IsNumber, IsWords, AreNumbers, AreOperands}
use Rattle.cse_logic_expressions.specs.Judge.{AsNumber, AsWords, present_at, field_at, result_judged, bare, present_if, pick, set_present, picks_for, picks_of, expr_count, is_end, judge, judge_all, judge_operations}
use Rattle.cse_logic_names.specs.Walk.{joined}

-- ---- items

abbrev owner_of : Present → ℕ
owner_of (p.Id item) = 255
owner_of (p.Here f how) = f.owner

present_complete : (s : Scope) (k : ItemKind) (x : Present) → IsPresent s k x → (kind_and_owner s.dictionary (item_of x) ≡ Some (k, owner_of x)) × (present_at s (item_of x) (owner_of x) ≡ Some x)
unfolding present_at
present_complete s k (p.Id item) h = (h.1, rw h.0 refl)
present_complete s k (p.Here f how) h = (h.0.1, rw (h.0.0, h.0.2, h.1) refl)

pub field_complete : (s : Scope) (k : ItemKind) (f : Field) → IsField s k f → field_at s f.item f.owner ≡ Some f
unfolding field_at
field_complete s k f h = rw (h.0, h.2) refl

bare_variable : (s : Scope) (name : Spelling) (x : Variable) (o : Option Meaning) → variable_meant s.routine o ≡ Some x → bare s name o ≡ AsNumber (Some (Variable' name x))
bare_variable s name x None h = absurd (none-some x h)
bare_variable s name x (Some (m.Variable y)) h = ap (λ (o : Option Variable). AsNumber (option_map (Variable' name) o)) h
bare_variable s name x (Some (m.Text y)) h = absurd (none-some x h)
bare_variable s name x (Some (m.Array y)) h = absurd (none-some x h)
bare_variable s name x (Some (m.Function k)) h = ap (result_judged name) h
bare_variable s name x (Some (m.Record y)) h = absurd (none-some x h)
bare_variable s name x (Some (m.Item y)) h = absurd (none-some x h)
bare_variable s name x (Some (m.Set y)) h = absurd (none-some x h)
bare_variable s name x (Some m.Application) h = absurd (none-some x h)
bare_variable s name x (Some m.Level) h = absurd (none-some x h)

-- ---- hot decks

picks_complete : (s : Scope) (ds : List Dimension) (xs : List Pick) → ArePicks s ds xs → picks_for s ds ≡ Some xs
picks_complete s [] [] h = refl
picks_complete s [] (x ∷ xs) h = absurd h
picks_complete s (Sized digits size ∷ ds) xs h = absurd h
picks_complete s (Rows name set one_more size ∷ ds) [] h = absurd h
picks_complete s (Rows name set one_more size ∷ ds) (x ∷ xs) h =
    let a = present_complete s kind.Number x.item h.3 in
    let item = item_of x.item in
    let here : set_present s (whole_set (slice_get s.dictionary.sets set)) ≡ Some x.item =
    ap (set_present s) h.2 ∙ ap (present_if s item) a.0 ∙ a.1 in
    ap (λ o. joined (λ x xs. x ∷ xs) (option_map (pick set one_more) o) (picks_for s ds)) here
    ∙ ap (joined (λ x xs. x ∷ xs) (Some (pick set one_more x.item))) (picks_complete s ds xs h.4)
    ∙ ap (λ n. Some (record { item = x.item; set = n; has_leftover = one_more } ∷ xs)) (sym h.0)
    ∙ ap (λ b. Some (record { item = x.item; set = x.set; has_leftover = b } ∷ xs)) (sym h.1)

pub deck_complete : (s : Scope) (o : Option (Option (List Dimension))) (xs : List Pick) → has_case s.routine ≡ true → AreDeckPicks s o xs → picks_of s o ≡ Some xs
deck_complete s (Some (Some ds)) xs c h = rw c (picks_complete s ds xs h)
deck_complete s (Some None) xs c h = absurd h
deck_complete s None xs c h = absurd h

-- ---- expressions

mutual
  unfolding judge judge_all judge_operations

  pub complete : (s : Scope) (top : Bool) (y : Number) → IsNumber s top y → judge s top (erase y) ≡ AsNumber (Some y)
  complete s top (Constant digits value) h = rw h refl
  complete s top (Special' token value) h = refl
  complete s top (Variable' name variable) h = bare_variable s name variable (meant s name) h
  complete s top (Item name item) h =
      let a = present_complete s kind.Number item h.1 in
      rw (h.0, a.0, a.1) refl
  complete s top (ItemAt name field place) h =
      rw (h.0, h.1.1, field_complete s kind.Number field h.1, complete s false place h.2) refl
  complete s top (Cell name array subscripts) h =
      let c = complete_all s subscripts h.2 in
      let n = eq-eqb (count subscripts) (expr_count (erase_all subscripts)) (sym c.1) in
      rw (h.0, h.1, c.0, n) refl
  complete s top (Call name function arguments) h =
      let c = complete_all s arguments h.2 in
      rw (h.0, c.1, h.1, c.0) refl
  complete s top (Group x) h = rw (complete s false x h) refl
  complete s top (Int x) h = rw (complete s true x h) refl
  complete s top (IsSpecial x) h = rw (complete s false x h) refl
  complete s top (Deck name array picks) h = rw (h.0, deck_complete s (slice_get s.arrays array) picks h.1 h.2) refl
  complete s top (TotOcc name of) h = rw (h.0, h.1) refl
  complete s top (MaxOcc name of) h = rw (h.0, h.1) refl
  complete s top (CurOcc name of how) h = rw (h.0, h.1, h.2) refl
  complete s top (InSet name item set_name set) h =
      let a = present_complete s kind.Number item h.1 in
      rw (h.0, a.0, a.1, h.2, h.3) refl
  complete s top (Minus x) h = rw (complete s false x h) refl
  complete s top (Not x) h = rw (complete s false x h) refl
  complete s top (Compare relation x y) h = rw (complete s false x h.0, complete s false y h.1) refl
  complete s top (CompareTexts relation x y) h = rw (complete_words s false x h.0, complete_words s false y h.1) refl
  complete s top (Chain x others) h = rw (complete s false x h.0, (complete_operations s top others h.1).0) refl

  pub complete_words : (s : Scope) (top : Bool) (y : Words) → IsWords s y → judge s top (erase_words y) ≡ AsWords (Some y)
  complete_words s top (Quoted text) h = refl
  complete_words s top (TextGlobal name variable) h = rw h refl
  complete_words s top (TextItem name item) h =
      let a = present_complete s kind.Text item h.1 in
      rw (h.0, a.0, a.1) refl
  complete_words s top (TextItemAt name field place) h =
      rw (h.0, h.1.1, field_complete s kind.Text field h.1, complete s false place h.2) refl
  complete_words s top (TextGroup x) h = rw (complete_words s false x h) refl

  pub complete_all : (s : Scope) (ys : Numbers) → AreNumbers s ys → (judge_all s (erase_all ys) ≡ Some ys) × (expr_count (erase_all ys) ≡ count ys)
  complete_all s no_number h = (refl, refl)
  complete_all s (number_and x xs) h =
      let c = complete_all s xs h.1 in
      (rw (complete s false x h.0, c.0) refl, ap (λ n. n + 1) c.1)

  complete_operations : (s : Scope) (top : Bool) (ys : Operations) → AreOperands s top ys → (judge_operations s top (erase_operations ys) ≡ Some ys) × (is_end (erase_operations ys) ≡ is_last ys)
  complete_operations s top no_operation h = (refl, refl)
  complete_operations s top (operation_and operator x xs) h =
      let c = complete_operations s top xs h.2 in
      (rw (c.1, h.0, complete s false x h.1, c.0) refl, refl)
