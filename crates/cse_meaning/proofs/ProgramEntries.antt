-- The events of a program are those of its table.
use Rattle.std.proofs.Common.{◌≡◌, ℕ, zero, suc, ◌+◌, ◌<◌, ◌≤◌, Bool, true, false, ◌&&◌, ◌||◌, cond, List, [], ◌∷◌, ◌++◌, length, map, Option, Some, None, refl, sym, ap, ◌∙◌, subst, arith}
use Rattle.std.specs.Prelude.{find, option_map, ◌==◌, if◌then◌else◌}
use Rattle.std.specs.List.{flat_map, range_with_len, list_any, AllByRecursion}
use Rattle.std.specs.Map.{lookup}
use Rattle.std.proofs.lemmas.Bool.{eq-eqb, eqb-true}
use Rattle.std.proofs.lemmas.List.{length-map}
use Rattle.std.proofs.lemmas.Option.{none-some}
use Rattle.indexmap.specs.IndexMap.{insert_entry}
use Rattle.cse_image_parts.specs.Codes.{event_code}
use Rattle.cse_image_parts.specs.declared.entries.Event.{Event}
use Rattle.cse_image_parts.specs.declared.entries.EventEntry.{EventEntry}
use Rattle.cse_image_parts.specs.declared.entries.EventCode.{EventCode}
use Rattle.cse_image_parts.specs.declared.entries.EventCode.TheVariants as codes
use Rattle.cse_dict.specs.Dictionary.{DictionaryText, RecordText, ItemText, shape_of}
use Rattle.cse_code_typing.specs.Handlers.{is_of, routine_of}
use Rattle.cse_code_typing.proofs.HandlerLaws.{one_code}
use Rattle.cse_compile.specs.Outline.{Handler}
use Rattle.cse_compile.specs.Events.{Table, is_key, with_event, table_from, routine_at, entry_of, entry_at, entries_below, entries_in}
use Rattle.cse_compile.specs.Numbers.{key_of}
use Rattle.cse_compile.proofs.NumberLaws.{key_other}
use Rattle.cse_meaning.specs.Means.{IsEventOf}

-- ---- the first of two

abbrev or_else : Option ℕ → Option ℕ → Option ℕ
or_else None o = o
or_else (Some x) o = Some x

abbrev if_so : Bool → Option ℕ → Option ℕ
if_so false o = None
if_so true o = o

so_none : (b : Bool) → if_so b None ≡ None
so_none true = refl
so_none false = refl

-- of this code none, of the event's own code its routine
abbrev placed : EventCode → EventCode → Option ℕ → Option ℕ
placed code of o = if_so (event_code code == event_code of) o

module _ (e : Event) where
  joined : (xs ys : List EventEntry) → routine_of (xs ++ ys) e ≡ or_else (routine_of xs e) (routine_of ys e)
  joined [] ys = refl
  joined (x ∷ xs) ys = by (is_of e x) (joined xs ys)
    where
      by : (b : Bool) → routine_of (xs ++ ys) e ≡ or_else (routine_of xs e) (routine_of ys e) → option_map (λ (y : EventEntry). y.routine) (cond b (Some x) (find (is_of e) (xs ++ ys))) ≡ or_else (option_map (λ (y : EventEntry). y.routine) (cond b (Some x) (find (is_of e) xs))) (routine_of ys e)
      by true ih = refl
      by false ih = ih

  join : (xs ys : List EventEntry) (a b : Option ℕ) → routine_of xs e ≡ a → routine_of ys e ≡ b → routine_of (xs ++ ys) e ≡ or_else a b
  join xs ys a b p q = joined xs ys ∙ ap (λ x. or_else x (routine_of ys e)) p ∙ ap (or_else a) q

-- ---- the entries of one code

module _ (table : Table) (e : Event) where
  abbrev own : Option ℕ
  own = routine_at table e.code e.index

  one : (code : EventCode) (n : ℕ) (o : Option ℕ) (c i : Bool) → routine_at table code n ≡ o → (event_code code == event_code e.code) ≡ c → (n == e.index) ≡ i → routine_of (entry_of code n o) e ≡ if_so (c && i) own
  one code n None c i there same_code same_index = by c i same_code same_index
    where
      by : (c i : Bool) → (event_code code == event_code e.code) ≡ c → (n == e.index) ≡ i → None ≡ if_so (c && i) own
      by false i p q = refl
      by true false p q = refl
      by true true p q = sym there ∙ ap (λ k. lookup (is_key k) table) (let a = eqb-true (event_code code) (event_code e.code) p in let b = eqb-true n e.index q in rw (a, b) refl)
  one code n (Some r) false i there same_code same_index = rw same_code refl
  one code n (Some r) true false there same_code same_index = rw (same_code, same_index) refl
  one code n (Some r) true true there same_code same_index =
      let a = eqb-true (event_code code) (event_code e.code) same_code in
      let b = eqb-true n e.index same_index in
      let here : Some r ≡ own = sym there ∙ ap (λ (k : ℕ × ℕ). lookup (is_key k) table) (rw (a, b) refl) in
      rw (same_code, same_index) here

  -- the entries of these indexes
  some_of : (code : EventCode) (c : Bool) → (event_code code == event_code e.code) ≡ c → (ns : List ℕ) → routine_of (flat_map (entry_at table code) ns) e ≡ if_so (c && list_any (λ n. n == e.index) ns) own
  some_of code false same [] = refl
  some_of code true same [] = refl
  some_of code c same (n ∷ ns) =
      join e (entry_at table code n) (flat_map (entry_at table code) ns) (if_so (c && (n == e.index)) own) (if_so (c && list_any (λ n. n == e.index) ns) own)
      (one code n (routine_at table code n) c (n == e.index) refl same refl) (some_of code c same ns)
      ∙ by c (n == e.index) (list_any (λ n. n == e.index) ns) own
    where
      by : (c i j : Bool) (o : Option ℕ) → or_else (if_so (c && i) o) (if_so (c && j) o) ≡ if_so (c && (i || j)) o
      by false i j o = refl
      by true false j o = refl
      by true true false None = refl
      by true true true None = refl
      by true true j (Some x) = refl

  met : (from n : ℕ) → from ≤ e.index → e.index < from + n → list_any (λ n. n == e.index) (range_with_len from n) ≡ true
  met from zero a b = absurd (let z : ⊥ = omega (arith, a, b) in z)
  met from (suc n) a b = by (from == e.index) refl (λ lt. met (from + 1) n (omega arith) (omega (arith, b)))
    where
      by : (s : Bool) → (from == e.index) ≡ s → (from < e.index → list_any (λ n. n == e.index) (range_with_len (from + 1) n) ≡ true) → (s || list_any (λ n. n == e.index) (range_with_len (from + 1) n)) ≡ true
      by true h further = refl
      by false h further =
          let ne : from ≡ e.index → ⊥ = λ same. (let y = eq-eqb from e.index same in absurd (let z : true ≡ false = sym y ∙ h in cc)) in
          further (omega (arith, a, ne))

  below : (code : EventCode) (n : ℕ) → (event_code code ≡ event_code e.code → e.index < n) → routine_of (entries_below table code n) e ≡ placed code e.code own
  below code n within = by (event_code code == event_code e.code) refl
    where
      by : (c : Bool) → (event_code code == event_code e.code) ≡ c → routine_of (entries_below table code n) e ≡ if_so c own
      by false same = some_of code false same (range_with_len 0 n)
      by true same = some_of code true same (range_with_len 0 n) ∙ ap (λ b. if_so b own) (let lt = within (eqb-true (event_code code) (event_code e.code) same) in met 0 n (omega arith) (omega (arith, lt)))

-- ---- all entries

abbrev all_codes : EventCode → Option ℕ → Option ℕ
all_codes c o =
    or_else (or_else (or_else (or_else (or_else (or_else (or_else (placed codes.ApplicationPreproc c o) (placed codes.ApplicationPostproc c o))
    (placed codes.LevelPreproc c o)) (placed codes.LevelPostproc c o)) (placed codes.RecordPreproc c o)) (placed codes.RecordPostproc c o)) (placed codes.ItemPreproc c o)) (placed codes.ItemPostproc c o)

all_are : (c : EventCode) (o : Option ℕ) → all_codes c o ≡ o
all_are codes.ApplicationPreproc None = refl
all_are codes.ApplicationPreproc (Some x) = refl
all_are codes.ApplicationPostproc None = refl
all_are codes.ApplicationPostproc (Some x) = refl
all_are codes.LevelPreproc None = refl
all_are codes.LevelPreproc (Some x) = refl
all_are codes.LevelPostproc None = refl
all_are codes.LevelPostproc (Some x) = refl
all_are codes.RecordPreproc None = refl
all_are codes.RecordPreproc (Some x) = refl
all_are codes.RecordPostproc None = refl
all_are codes.RecordPostproc (Some x) = refl
all_are codes.ItemPreproc None = refl
all_are codes.ItemPreproc (Some x) = refl
all_are codes.ItemPostproc None = refl
all_are codes.ItemPostproc (Some x) = refl

-- how many indexes events of a code have
abbrev many : ℕ → ℕ → EventCode → ℕ
many records items codes.ApplicationPreproc = 1
many records items codes.ApplicationPostproc = 1
many records items codes.LevelPreproc = 1
many records items codes.LevelPostproc = 1
many records items codes.RecordPreproc = records
many records items codes.RecordPostproc = records
many records items codes.ItemPreproc = items
many records items codes.ItemPostproc = items

within : (d : DictionaryText) (code : EventCode) (index : ℕ) → IsEventOf d code index → index < many (length d.records) (length d.items) code
within d codes.ApplicationPreproc index h = omega (arith, h)
within d codes.ApplicationPostproc index h = omega (arith, h)
within d codes.LevelPreproc index h = omega (arith, h)
within d codes.LevelPostproc index h = omega (arith, h)
within d codes.RecordPreproc index h = h
within d codes.RecordPostproc index h = h
within d codes.ItemPreproc index h = h
within d codes.ItemPostproc index h = h

entries_are : (table : Table) (d : DictionaryText) (e : Event) → IsEventOf d e.code e.index → routine_of (entries_in table (length d.records) (length d.items)) e ≡ routine_at table e.code e.index
unfolding entries_in
entries_are table d e h =
    let own = routine_at table e.code e.index in
    let block : (code : EventCode) → routine_of (entries_below table code (many (length d.records) (length d.items) code)) e ≡ placed code e.code own =
    λ code. below table e code (many (length d.records) (length d.items) code) (λ same. subst (λ c. e.index < many (length d.records) (length d.items) c) (sym (one_code code e.code same)) (within d e.code e.index h)) in
    join e _ _ _ _ (join e _ _ _ _ (join e _ _ _ _ (join e _ _ _ _ (join e _ _ _ _ (join e _ _ _ _ (join e _ _ _ _ (block codes.ApplicationPreproc) (block codes.ApplicationPostproc)) (block codes.LevelPreproc)) (block codes.LevelPostproc)) (block codes.RecordPreproc)) (block codes.RecordPostproc)) (block codes.ItemPreproc)) (block codes.ItemPostproc)
    ∙ all_are e.code own

-- the program's table says of an event of the dictionary what its table of events does
pub routine_is_at : (table : Table) (d : DictionaryText) (e : Event) → IsEventOf d e.code e.index → routine_of (entries_in table (length (shape_of d).records) (length (shape_of d).items)) e ≡ routine_at table e.code e.index
routine_is_at table d e h =
    ap (λ n. routine_of (entries_in table n (length (shape_of d).items)) e) (length-map d.records (λ (r : RecordText). r.shape))
    ∙ (ap (λ n. routine_of (entries_in table (length d.records) n) e) (length-map d.items (λ (i : ItemText). i.shape)) ∙ entries_are table d e h)

-- ---- events without a handler

none_put : (k x : ℕ × ℕ) (v : ℕ) (table : Table) → is_key k x ≡ false → lookup (is_key k) table ≡ None → lookup (is_key k) (insert_entry is_key table x v) ≡ None
none_put k x v [] h none = rw h refl
none_put k x v (y ∷ ys) h none = by (is_key x y.0) (is_key k y.0) refl refl none (none_put k x v ys h)
  where
    by : (b c : Bool) → is_key x y.0 ≡ b → is_key k y.0 ≡ c → cond c (Some y.1) (lookup (is_key k) ys) ≡ None → (lookup (is_key k) ys ≡ None → lookup (is_key k) (insert_entry is_key ys x v) ≡ None) → lookup (is_key k) (if b then (y.0, v) ∷ ys else y ∷ insert_entry is_key ys x v) ≡ None
    by b true same is none further = absurd (none-some y.1 (sym none))
    by true false same is none further = rw is none
    by false false same is none further = rw is (further none)

pub none_from : (k : ℕ × ℕ) (n : ℕ) (table : Table) (xs : List Handler) → lookup (is_key k) table ≡ None → AllByRecursion (λ y. is_key k y ≡ false) (map key_of xs) → lookup (is_key k) (table_from table n xs) ≡ None
none_from k n table [] h a = h
none_from k n table (x ∷ xs) h a = none_from k (n + 1) (with_event table x.event n) xs (none_put k (key_of x) n table a.0 h) a.1
