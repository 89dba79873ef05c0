-- Sound expressions fit the tables.
use Rattle.std.proofs.Common.{◌≡◌, ℕ, suc, ◌+◌, Bool, true, false, ◌||◌, List, [], ◌∷◌, length, Option, Some, None, refl, sym, ap, ◌∙◌, subst, arith}
use Rattle.std.specs.Prelude.{slice_get, ◌==◌, not, replicate, if◌then◌else◌}
use Rattle.std.specs.List.{list_any}
use Rattle.std.specs.Option.{option_map, option_and_then}
use Rattle.std.proofs.lemmas.Bool.{false≢true, and_from, lt-ltb, eqb-true, and_parts}
use Rattle.std.proofs.lemmas.Option.{same_Some, none-some, slice_get-map}
use Rattle.cse_lemmas.proofs.Booleans.{or-true}
use Rattle.cse_value.specs.declared.shape.ItemKind.{ItemKind}
use Rattle.cse_value.specs.declared.shape.ItemKind.TheVariants as items
use Rattle.cse_value.specs.declared.shape.ItemShape.{ItemShape}
use Rattle.cse_value.specs.Shape.{ShapeLists}
use Rattle.cse_image_parts.specs.declared.instruction.Op.TheVariants as ops
use Rattle.cse_dict.specs.Dictionary.{DictionaryText, ItemText, SetText as ValueSet, shape_of}
use Rattle.cse_syntax_tree.specs.Tree.{Spelling}
use Rattle.cse_code_typing.specs.declared.kind.Kind.TheVariants as kind
use Rattle.cse_code_typing.specs.Signature.{is_record, rows_of, rows_by, is_numeric, is_number_kind, is_text_kind, item_where, is_id, id_number, id_text, number_item, text_item}
use Rattle.cse_code_typing.specs.Calls.{calls_well, may_call as may_be_called}
use Rattle.cse_code_typing.specs.Order.{is_run}
use Rattle.cse_logic_tree.specs.declared.tree.Variable.{Variable}
use Rattle.cse_logic_tree.specs.declared.tree.Found.{Found}
use Rattle.cse_logic_tree.specs.declared.tree.Found.TheVariants as h
use Rattle.cse_logic_tree.specs.declared.tree.Field.{Field}
use Rattle.cse_logic_tree.specs.declared.tree.Present.{Present}
use Rattle.cse_logic_tree.specs.declared.tree.Present.TheVariants as p
use Rattle.cse_logic_tree.specs.declared.tree.Pick.{Pick}
use Rattle.cse_logic_tree.specs.Typed.{Number, Words, Numbers, Operations, Constant, Special', Variable', Item, ItemAt, Cell, Call, Group, Int, IsSpecial, Deck, TotOcc, MaxOcc, CurOcc, InSet, Minus, Not, Compare, CompareTexts, Chain}
use Rattle.cse_logic_tree.specs.Typed.{Quoted, TextGlobal, TextItem, TextItemAt, TextGroup, no_number, number_and, no_operation, operation_and, Dimension, Sized, Rows}
use Rattle.cse_logic_names.specs.declared.meaning.Meaning.{Meaning}
use Rattle.cse_logic_names.specs.declared.meaning.Meaning.TheVariants as m
use Rattle.cse_logic_names.specs.Scope.{Scope, Facts, meant, variable_named, variable_meant, loop_variable, loop_variable_meant, has_case, kind_and_owner, found, is_looped, is_event_of, most_of}
use Rattle.cse_logic_names.specs.Uses.{Use, Calls, facts_need, needs_case, uses, uses_words, uses_all, uses_operations}
use Rattle.cse_logic_names.specs.WellTyped as t
use Rattle.cse_logic_names.specs.WellTyped.{IsField, IsPresent, IsNumberSet, set_kind, kind_of, whole_set, AreDeckPicks, dimensions_of, may_call, suits, IsNumber, IsWords, AreNumbers, AreOperands}
use Rattle.cse_compile.specs.Expressions.{count}
use Rattle.cse_meaning.specs.Fit.{Spot, HasCase, IsFound, IsEntry, IsNumberVariable, IsNumberField, IsTextField, IsNumberPresent, IsTextPresent, IsArray, ArePicks, row_count, IsDeck, numbers_kinds, IsFunction, NumberFits, WordsFit, NumbersFit, OperationsFit}
use Rattle.cse_meaning.proofs.Agrees.{MeaningFits, SizesFit, FunctionFits, Agrees, Cased, cased_left, cased_right, cased_call, cased_tail, cased_here}

needed : (a n : Bool) → (a || not n) ≡ true → n ≡ true → a ≡ true
needed true n e f = refl
needed false true e f = e
needed false false e f = f

-- ---- items

pub record HasItem (x : ShapeLists) (item : ℕ) (k : ItemKind) (owner : ℕ) : Type 0 where
  pub entry : ItemShape
  pub there : slice_get x.items item ≡ Some entry
  pub sort : entry.kind ≡ k
  pub of : entry.owner ≡ owner

has_item : (d : DictionaryText) (item owner : ℕ) (k : ItemKind) → kind_and_owner d item ≡ Some (k, owner) → HasItem (shape_of d) item k owner
unfolding kind_and_owner
has_item d item owner k e = by (slice_get d.items item) refl
  where
    by : (o : Option ItemText) → slice_get d.items item ≡ o → HasItem (shape_of d) item k owner
    by None f = absurd (none-some (k, owner) (sym (ap (option_map (λ (x : ItemText). (x.shape.kind, x.shape.owner))) f) ∙ e))
    by (Some x) f =
        let g : (x.shape.kind, x.shape.owner) ≡ (k, owner) = same_Some _ _ (sym (ap (option_map (λ (x : ItemText). (x.shape.kind, x.shape.owner))) f) ∙ e) in
        record {
          entry = x.shape;
          there = slice_get-map (λ (i : ItemText). i.shape) d.items item ∙ ap (option_map (λ (i : ItemText). i.shape)) f;
          sort = ap (λ (y : ItemKind × ℕ). y.0) g;
          of = ap (λ (y : ItemKind × ℕ). y.1) g;
        }

taken : (test : ItemShape → Bool) (o : Option ItemShape) (x : ItemShape) → o ≡ Some x → test x ≡ true → item_where test o ≡ Some x
taken test o x e f = ap (item_where test) e ∙ ap (λ (b : Bool). if b then Some x else None) f

owner_is : (x : ItemShape) (owner : ℕ) (b : Bool) → x.owner ≡ owner → (owner == 255) ≡ b → is_id x ≡ b
owner_is x owner b e f = ap (λ n. n == 255) e ∙ f

module _ (d : DictionaryText) (item owner : ℕ) where
  pub number_id : HasItem (shape_of d) item items.Number 255 → (x : ItemShape) × (id_number (shape_of d) item ≡ Some x)
  number_id i = (i.entry, taken _ _ i.entry i.there (and_from _ _ (owner_is i.entry 255 true i.of refl) (ap is_number_kind i.sort)))

  pub text_id : HasItem (shape_of d) item items.Text 255 → (x : ItemShape) × (id_text (shape_of d) item ≡ Some x)
  text_id i = (i.entry, taken _ _ i.entry i.there (and_from _ _ (owner_is i.entry 255 true i.of refl) (ap is_text_kind i.sort)))

  pub number_entry : HasItem (shape_of d) item items.Number owner → (owner == 255) ≡ false → IsEntry (number_item (shape_of d) item) owner
  number_entry i e = (i.entry, taken _ _ i.entry i.there (and_from _ _ (ap not (owner_is i.entry owner false i.of e)) (ap is_number_kind i.sort)), i.of)

  pub text_entry : HasItem (shape_of d) item items.Text owner → (owner == 255) ≡ false → IsEntry (text_item (shape_of d) item) owner
  text_entry i e = (i.entry, taken _ _ i.entry i.there (and_from _ _ (ap not (owner_is i.entry owner false i.of e)) (ap is_text_kind i.sort)), i.of)

-- ---- sets

-- the rows of a set that is whole and of a numeric item
pub record HasSet (d : DictionaryText) (set : ℕ) : Type 0 where
  pub entry : ValueSet
  pub there : slice_get d.sets set ≡ Some entry
  pub rows : rows_of (shape_of d) set ≡ Some entry.shape.rows

sort_of : Option (ItemKind × ℕ) → Option ItemKind
sort_of o = option_map (λ (x : ItemKind × ℕ). x.0) o

whole_rows : (d : DictionaryText) (x : ValueSet) → kind_of d (whole_set (Some x)) ≡ Some items.Number → rows_by (shape_of d) (Some x.shape) ≡ Some x.shape.rows
unfolding sort_of
whole_rows d x e = by x.shape.partial refl (kind_and_owner d x.shape.item) refl
  where
    by : (b : Bool) → x.shape.partial ≡ b → (o : Option (ItemKind × ℕ)) → kind_and_owner d x.shape.item ≡ o → rows_by (shape_of d) (Some x.shape) ≡ Some x.shape.rows
    by true f o g = absurd (none-some items.Number (sym (ap (λ (b : Bool). kind_of d (if b then None else Some x.shape.item)) f) ∙ e))
    by false f None g = absurd (none-some items.Number (sym (ap sort_of g) ∙ sym (ap (λ (b : Bool). kind_of d (if b then None else Some x.shape.item)) f) ∙ e))
    by false f (Some (k, owner)) g =
        let l : k ≡ items.Number = same_Some _ _ (sym (ap sort_of g) ∙ sym (ap (λ (b : Bool). kind_of d (if b then None else Some x.shape.item)) f) ∙ e) in
        let i = has_item d x.shape.item owner k g in
        let n : is_numeric (slice_get (shape_of d).items x.shape.item) ≡ true = ap is_numeric i.there ∙ ap is_number_kind (i.sort ∙ l) in
        ap (λ (b : Bool). if b then Some x.shape.rows else None) (and_from _ _ (ap not f) n)

pub has_set : (d : DictionaryText) (set : ℕ) → IsNumberSet d set → HasSet d set
unfolding set_kind
has_set d set e = by (slice_get d.sets set) refl
  where
    by : (o : Option ValueSet) → slice_get d.sets set ≡ o → HasSet d set
    by None f = absurd (none-some items.Number (sym (ap (λ o. kind_of d (whole_set o)) f) ∙ e))
    by (Some x) f = record {
      entry = x;
      there = f;
      rows = ap (rows_by (shape_of d)) (slice_get-map (λ (i : ValueSet). i.shape) d.sets set ∙ ap (option_map (λ (i : ValueSet). i.shape)) f) ∙ whole_rows d x (sym (ap (λ o. kind_of d (whole_set o)) f) ∙ e);
    }

-- ---- counts

same_count : (xs : Numbers) → t.count xs ≡ count xs
same_count no_number = refl
same_count (number_and x xs) = ap (λ n. n + 1) (same_count xs)

same_kinds : (xs : Numbers) → replicate (t.count xs) kind.Number ≡ numbers_kinds xs
same_kinds no_number = refl
same_kinds (number_and x xs) = let e : t.count xs + 1 ≡ suc (t.count xs) = omega arith in ap (λ n. replicate n kind.Number) e ∙ ap (λ l. kind.Number ∷ l) (same_kinds xs)

sizes_length : (x : ShapeLists) (ds : List Dimension) (ns : List ℕ) → SizesFit x ds ns → length ns ≡ length ds
sizes_length x [] [] h = refl
sizes_length x [] (n ∷ ns) h = absurd h
sizes_length x (Sized digits size ∷ ds) [] h = absurd h
sizes_length x (Rows name set one_more size ∷ ds) [] h = absurd h
sizes_length x (Sized digits size ∷ ds) (n ∷ ns) h = ap suc (sizes_length x ds ns h)
sizes_length x (Rows name set one_more size ∷ ds) (n ∷ ns) h = ap suc (sizes_length x ds ns h.1)

module _ (c : Scope) (s : Spot) (a : Agrees c s) where
  -- ---- variables

  variable_by : (o : Option Meaning) (x : Variable) → ((y : Meaning) → o ≡ Some y → MeaningFits s y) → variable_meant c.routine o ≡ Some x → IsNumberVariable s x
  variable_by None x f e = absurd (none-some x e)
  variable_by (Some (m.Variable y)) x f e = subst (IsNumberVariable s) (same_Some y x e) (f (m.Variable y) refl)
  variable_by (Some (m.Function k)) x f e = a.result k x e
  variable_by (Some (m.Text g)) x f e = absurd (none-some x e)
  variable_by (Some (m.Array g)) x f e = absurd (none-some x e)
  variable_by (Some (m.Record g)) x f e = absurd (none-some x e)
  variable_by (Some (m.Item g)) x f e = absurd (none-some x e)
  variable_by (Some (m.Set g)) x f e = absurd (none-some x e)
  variable_by (Some m.Application) x f e = absurd (none-some x e)
  variable_by (Some m.Level) x f e = absurd (none-some x e)

  pub variable_fits : (name : Spelling) (x : Variable) → variable_named c name ≡ Some x → IsNumberVariable s x
  variable_fits name x e = variable_by (meant c name) x (a.names name) e

  loop_by : (o : Option Meaning) (x : Variable) → ((y : Meaning) → o ≡ Some y → MeaningFits s y) → loop_variable_meant o ≡ Some x → IsNumberVariable s x
  loop_by None x f e = absurd (none-some x e)
  loop_by (Some (m.Variable y)) x f e = subst (IsNumberVariable s) (same_Some y x e) (f (m.Variable y) refl)
  loop_by (Some (m.Function k)) x f e = absurd (none-some x e)
  loop_by (Some (m.Text g)) x f e = absurd (none-some x e)
  loop_by (Some (m.Array g)) x f e = absurd (none-some x e)
  loop_by (Some (m.Record g)) x f e = absurd (none-some x e)
  loop_by (Some (m.Item g)) x f e = absurd (none-some x e)
  loop_by (Some (m.Set g)) x f e = absurd (none-some x e)
  loop_by (Some m.Application) x f e = absurd (none-some x e)
  loop_by (Some m.Level) x f e = absurd (none-some x e)

  pub loop_variable_fits : (name : Spelling) (x : Variable) → loop_variable c name ≡ Some x → IsNumberVariable s x
  loop_variable_fits name x e = loop_by (meant c name) x (a.names name) e

  -- ---- items

  item_in : (item owner : ℕ) (k : ItemKind) → kind_and_owner c.dictionary item ≡ Some (k, owner) → HasItem (shape_of c.dictionary) item k owner
  item_in item owner k e = has_item c.dictionary item owner k e

  pub number_field_fits : (f : Field) → IsField c items.Number f → HasCase s → IsNumberField s f
  number_field_fits f h k = (
    (k, a.owners f.item f.owner items.Number h.1 h.2),
    subst (λ x. IsEntry (number_item x f.item) f.owner) (sym a.shape) (number_entry c.dictionary f.item f.owner (item_in f.item f.owner items.Number h.1) h.2),
  )

  pub text_field_fits : (f : Field) → IsField c items.Text f → HasCase s → IsTextField s f
  text_field_fits f h k = (
    (k, a.owners f.item f.owner items.Text h.1 h.2),
    subst (λ x. IsEntry (text_item x f.item) f.owner) (sym a.shape) (text_entry c.dictionary f.item f.owner (item_in f.item f.owner items.Text h.1) h.2),
  )

  module _ (looped : (of : ℕ) → is_looped c.loops of ≡ true → list_any (λ o. o == of) s.loops ≡ true) where
    found_by : (of : ℕ) (how : Found) (first second third : Bool) → (first ≡ true → IsFound s of h.Loop) → (second ≡ true → IsFound s of h.Event) → (if first then Some h.Loop else (if second then Some h.Event else (if third then Some h.First else None))) ≡ Some how → IsFound s of how
    found_by of how true second third f g e = subst (IsFound s of) (same_Some h.Loop how e) (f refl)
    found_by of how false true third f g e = subst (IsFound s of) (same_Some h.Event how e) (g refl)
    found_by of how false false true f g e = subst (IsFound s of) (same_Some h.First how e) tt
    found_by of how false false false f g e = absurd (none-some how e)

    pub found_fits : (of : ℕ) (how : Found) → found c of ≡ Some how → IsFound s of how
    unfolding found
    found_fits of how e = found_by of how (is_looped c.loops of) (is_event_of c.routine of) (most_of c.dictionary of == 1) (looped of) (a.event of) e

    pub number_present_fits : (x : Present) → IsPresent c items.Number x → HasCase s → IsNumberPresent s x
    number_present_fits (p.Id item) h k = (k, subst (λ x. (y : ItemShape) × (id_number x item ≡ Some y)) (sym a.shape) (number_id c.dictionary item 255 (item_in item 255 items.Number h.1)))
    number_present_fits (p.Here f how) h k = (number_field_fits f h.0 k, found_fits f.owner how h.1)

    pub text_present_fits : (x : Present) → IsPresent c items.Text x → HasCase s → IsTextPresent s x
    text_present_fits (p.Id item) h k = (k, subst (λ x. (y : ItemShape) × (id_text x item ≡ Some y)) (sym a.shape) (text_id c.dictionary item 255 (item_in item 255 items.Text h.1)))
    text_present_fits (p.Here f how) h k = (text_field_fits f h.0 k, found_fits f.owner how h.1)

    -- the case of an item
    present_case : (k : ItemKind) (x : Present) → IsPresent c k x → has_case c.routine ≡ true
    present_case k (p.Id item) h = h.0
    present_case k (p.Here f how) h = h.0.0

    -- ---- arrays and functions

    array_by : (o : Option (Option (List Dimension))) (array : ℕ) (xs : Numbers) → slice_get c.arrays array ≡ o → option_map length (option_and_then (λ x. x) o) ≡ Some (t.count xs) → IsArray s array (count xs)
    array_by None array xs e h = absurd (none-some (t.count xs) h)
    array_by (Some None) array xs e h = absurd (none-some (t.count xs) h)
    array_by (Some (Some ds)) array xs e h =
        let b = a.arrays array ds e in
        let n : length ds ≡ t.count xs = same_Some _ _ h in
        let m = same_count xs in
        let l = sizes_length s.scene.shape ds b.entry.dimensions b.sizes in
        let some = b.some in
        (b.entry, b.there, b.set, l ∙ n ∙ m, omega (arith, n, m, some))

    pub array_fits : (array : ℕ) (xs : Numbers) → dimensions_of c array ≡ Some (t.count xs) → IsArray s array (count xs)
    unfolding dimensions_of
    array_fits array xs h = array_by (slice_get c.arrays array) array xs refl h

    picks_fit : (ds : List Dimension) (ns : List ℕ) (xs : List Pick) → SizesFit s.scene.shape ds ns → t.ArePicks c ds xs → HasCase s → ArePicks s ns xs
    picks_fit [] [] [] f h k = tt
    picks_fit [] [] (x ∷ xs) f h k = absurd h
    picks_fit [] (n ∷ ns) xs f h k = absurd f
    picks_fit (Sized digits size ∷ ds) ns xs f h k = absurd h
    picks_fit (Rows name set one_more size ∷ ds) [] xs f h k = absurd f
    picks_fit (Rows name set one_more size ∷ ds) (n ∷ ns) [] f h k = absurd h
    picks_fit (Rows name set one_more size ∷ ds) (n ∷ ns) (x ∷ xs) f h k = (
      number_present_fits x.item h.3 k,
      (f.0.0, ap (rows_of s.scene.shape) h.0 ∙ f.0.1, f.0.2 ∙ ap (λ b. row_count b f.0.0) (sym h.1)),
      picks_fit ds ns xs f.1 h.4 k,
    )

    deck_by : (o : Option (Option (List Dimension))) (array : ℕ) (xs : List Pick) → slice_get c.arrays array ≡ o → AreDeckPicks c o xs → HasCase s → IsDeck s array xs
    deck_by None array xs e h k = absurd h
    deck_by (Some None) array xs e h k = absurd h
    deck_by (Some (Some ds)) array xs e h k = let b = a.arrays array ds e in (b.entry, b.there, picks_fit ds b.entry.dimensions xs b.sizes h k)

    pub deck_fits : (array : ℕ) (xs : List Pick) → AreDeckPicks c (slice_get c.arrays array) xs → HasCase s → IsDeck s array xs
    deck_fits array xs h k = deck_by (slice_get c.arrays array) array xs refl h k

    calls_fit : (function : ℕ) (f : Facts) (b : FunctionFits s function f) → (f.needs_case ≡ true → HasCase s) → calls_well s.scene.lists.routines s.number (is_run s.scene.routine.ambient) ops.Call function ≡ true
    unfolding calls_well
    calls_fit function f b k = and_from _ _ (lt-ltb function s.number b.before) (ap (may_be_called (is_run s.scene.routine.ambient)) b.there ∙ by f.needs_case refl)
      where
        by : (n : Bool) → f.needs_case ≡ n → (not (is_run s.scene.routine.ambient) || is_run b.entry.ambient) ≡ true
        by true e = ap (λ r. not r || is_run b.entry.ambient) (k e)
        by false e = ap (λ r. not (is_run s.scene.routine.ambient) || r) (b.ambient e) ∙ or-true (not (is_run s.scene.routine.ambient))

    function_by : (o : Option (Option Facts)) (function : ℕ) (xs : Numbers) → slice_get c.functions function ≡ o → may_call c (t.count xs) o ≡ true → (has_case c.routine ≡ true → facts_need o ≡ true → HasCase s) → IsFunction s function xs
    unfolding suits
    function_by None function xs e h k = absurd (false≢true h)
    function_by (Some None) function xs e h k = absurd (false≢true h)
    function_by (Some (Some f)) function xs e h k =
        let b = a.functions function f e in
        let n : f.parameters ≡ t.count xs = eqb-true f.parameters (t.count xs) (and_parts _ _ h).0 in
        let g = (and_parts _ _ (and_parts (f.parameters == t.count xs) _ h).1).0 in
        let case_of : f.needs_case ≡ true → has_case c.routine ≡ true = λ e. needed (has_case c.routine) f.needs_case g e in
        (b.entry, b.there, b.gives, b.takes ∙ ap (λ n. replicate n kind.Number) n ∙ same_kinds xs, calls_fit function f b (λ e. k (case_of e) e))

    pub function_fits : (function : ℕ) (xs : Numbers) (us : List Use) → may_call c (t.count xs) (slice_get c.functions function) ≡ true → Cased c s (Calls function ∷ us) → IsFunction s function xs
    function_fits function xs us h k = function_by (slice_get c.functions function) function xs refl h (λ e f. k e (ap (λ b. b || needs_case c.functions us) f))

    pub record_fits : (name : Spelling) (of : ℕ) → meant c name ≡ Some (m.Record of) → is_record s.scene.shape of ≡ true
    record_fits name of e = a.names name (m.Record of) e

    set_fits : (set : ℕ) → IsNumberSet c.dictionary set → (n : ℕ) × (rows_of s.scene.shape set ≡ Some n)
    set_fits set h = let b = has_set c.dictionary set h in (b.entry.shape.rows, ap (λ x. rows_of x set) a.shape ∙ b.rows)

    -- ---- expressions

    mutual
      pub number_fits : (top : Bool) (x : Number) → IsNumber c top x → Cased c s (uses x) → NumberFits s x
      number_fits top (Constant digits value) h k = tt
      number_fits top (Special' token value) h k = tt
      number_fits top (Variable' name variable) h k = variable_fits name variable h
      number_fits top (Item name item) h k = number_present_fits item h.1 (cased_here c s [] k (present_case items.Number item h.1))
      number_fits top (ItemAt name field place) h k = (number_field_fits field h.1 (cased_here c s (uses place) k h.1.0), number_fits false place h.2 (cased_tail c s (uses place) k))
      number_fits top (Cell name array xs) h k = (array_fits array xs h.1, numbers_fit xs h.2 k)
      number_fits top (Call name function xs) h k = (function_fits function xs (uses_all xs) h.1 k, numbers_fit xs h.2 (cased_call c s function (uses_all xs) k))
      number_fits top (Group x) h k = number_fits false x h k
      number_fits top (Int x) h k = number_fits true x h k
      number_fits top (IsSpecial x) h k = number_fits false x h k
      number_fits top (Deck name array picks) h k = deck_fits array picks h.2 (cased_here c s [] k h.1)
      number_fits top (TotOcc name of) h k = (cased_here c s [] k h.1, record_fits name of h.0)
      number_fits top (MaxOcc name of) h k = tt
      number_fits top (CurOcc name of how) h k = ((cased_here c s [] k h.1, record_fits name of h.0), found_fits of how h.2)
      number_fits top (InSet name item set_name set) h k = (number_present_fits item h.1 (cased_here c s [] k (present_case items.Number item h.1)), set_fits set h.3)
      number_fits top (Minus x) h k = number_fits false x h k
      number_fits top (Not x) h k = number_fits false x h k
      number_fits top (Compare relation x y) h k = (number_fits false x h.0 (cased_left c s (uses x) (uses y) k), number_fits false y h.1 (cased_right c s (uses x) (uses y) k))
      number_fits top (CompareTexts relation x y) h k = (words_fit x h.0 (cased_left c s (uses_words x) (uses_words y) k), words_fit y h.1 (cased_right c s (uses_words x) (uses_words y) k))
      number_fits top (Chain x xs) h k = (number_fits false x h.0 (cased_left c s (uses x) (uses_operations xs) k), operations_fit top xs h.1 (cased_right c s (uses x) (uses_operations xs) k))

      pub words_fit : (x : Words) → IsWords c x → Cased c s (uses_words x) → WordsFit s x
      words_fit (Quoted text) h k = tt
      words_fit (TextGlobal name variable) h k = a.names name (m.Text variable) h
      words_fit (TextItem name item) h k = text_present_fits item h.1 (cased_here c s [] k (present_case items.Text item h.1))
      words_fit (TextItemAt name field place) h k = (text_field_fits field h.1 (cased_here c s (uses place) k h.1.0), number_fits false place h.2 (cased_tail c s (uses place) k))
      words_fit (TextGroup x) h k = words_fit x h k

      pub numbers_fit : (xs : Numbers) → AreNumbers c xs → Cased c s (uses_all xs) → NumbersFit s xs
      numbers_fit no_number h k = tt
      numbers_fit (number_and x xs) h k = (number_fits false x h.0 (cased_left c s (uses x) (uses_all xs) k), numbers_fit xs h.1 (cased_right c s (uses x) (uses_all xs) k))

      pub operations_fit : (top : Bool) (xs : Operations) → AreOperands c top xs → Cased c s (uses_operations xs) → OperationsFit s xs
      operations_fit top no_operation h k = tt
      operations_fit top (operation_and operator x xs) h k = (number_fits false x h.1 (cased_left c s (uses x) (uses_operations xs) k), operations_fit top xs h.2 (cased_right c s (uses x) (uses_operations xs) k))
