-- The events of a source fit the dictionary and the routines that they run.
use Rattle.std.proofs.Common.{◌≡◌, ℕ, suc, zero, ◌+◌, Bool, true, false, ◌&&◌, not, List, [], ◌∷◌, ◌++◌, length, map, Option, Some, None, refl, sym, ap, ◌∙◌, subst, inl, inr, ◌⊎◌, ⊎_elim, arith}
use Rattle.std.specs.Prelude.{slice_get, ◌==◌, nat_eq, nat_lt, if◌then◌else◌}
use Rattle.std.specs.List.{AllByRecursion, flat_map, list_all, range_with_len}
use Rattle.std.specs.Map.{lookup}
use Rattle.std.specs.Option.{option_map}
use Rattle.std.specs.Str.{bytes_eq}
use Rattle.std.proofs.lemmas.Bool.{eq-eqb, eqb-true, and_parts, lt-ltb}
use Rattle.std.proofs.lemmas.List.{length-map}
use Rattle.std.proofs.lemmas.List.Folds.{list_all-append}
use Rattle.std.proofs.lemmas.Option.{same_Some, none-some, slice_get-map}
use Rattle.cse_lemmas.proofs.Lists.{slice_get-append-add}
use Rattle.cse_value.specs.declared.shape.ItemKind.{ItemKind}
use Rattle.cse_value.specs.declared.shape.ItemKind.TheVariants as kinds
use Rattle.cse_value.specs.declared.shape.ItemShape.{ItemShape}
use Rattle.cse_image_parts.specs.declared.entries.Event.{Event}
use Rattle.cse_image_parts.specs.declared.entries.EventCode.{EventCode}
use Rattle.cse_image_parts.specs.declared.entries.EventCode.TheVariants as codes
use Rattle.cse_image_parts.specs.declared.entries.EventEntry.{EventEntry}
use Rattle.cse_image_parts.specs.Codes.{event_code}
use Rattle.cse_image_parts.specs.Image.{Lists, RoutineLists}
use Rattle.cse_dict.specs.Dictionary.{DictionaryText, ItemText, RecordText, shape_of, number_named, record_names, item_names, set_names}
use Rattle.cse_dict.specs.Keys.{kept_name}
use Rattle.cse_logic_tree.specs.declared.tree.Owner.{Owner}
use Rattle.cse_logic_tree.specs.declared.tree.Owner.TheVariants as owners
use Rattle.cse_logic_tree.specs.Erase.{erase_body}
use Rattle.cse_logic_tree.specs.Typed.{Statements, Body, Plain, Preproc, Both, Postproc, Procedure}
use Rattle.cse_compile.specs.declared.outlines.RoutineSort.TheVariants as sorts
use Rattle.cse_compile.specs.Outline.{Outline, Handler, routine_of, is_idle, event_of, handler_of, handlers_of_body, handlers_in}
use Rattle.cse_compile.specs.Events.{Table, is_key, with_event, table_from, routine_at, entry_of, entry_at, entries_in}
use Rattle.cse_logic_names.specs.declared.meaning.Meaning.{Meaning}
use Rattle.cse_logic_names.specs.declared.meaning.Meaning.TheVariants as m
use Rattle.cse_logic_names.specs.Scope.{Scope, first_of, in_dictionary, kind_and_owner}
use Rattle.cse_logic_names.specs.WellTyped.{item_owner, owner_meant, body_messages, AreProcedures}
use Rattle.cse_code_typing.specs.Order.{handles_item, handles, is_handled_by, fits_event, all_events_fit}
use Rattle.cse_code_typing.proofs.HandlerLaws.{one_code}
use Rattle.cse_meaning.proofs.SoundNames.{named_within}

-- ---- what procedures belong to

-- the record or the item is there
abbrev pub OwnerThere : DictionaryText → Owner → Type 0
OwnerThere d owners.Application = Unit {0}
OwnerThere d owners.Level = Unit {0}
OwnerThere d (owners.Record r) = nat_lt r (length (shape_of d).records) ≡ true
OwnerThere d (owners.Item f) = (i : ItemShape) × (slice_get (shape_of d).items f.item ≡ Some i) × (i.owner ≡ f.owner) × ((f.owner == 255) ≡ false)

abbrev RecordThere : DictionaryText → Meaning → Type 0
RecordThere d (m.Record r) = nat_lt r (length (shape_of d).records) ≡ true
RecordThere d _ = Unit {0}

record_there : (d : DictionaryText) (text : List ℕ) (k : ℕ) → number_named text (record_names d) ≡ Some k → nat_lt k (length (shape_of d).records) ≡ true
record_there d text k e =
    let lt = named_within text (record_names d) k e in
    let a = length-map d.records (λ (r : RecordText). r.name) in
    let b = length-map d.records (λ (r : RecordText). r.shape) in
    lt-ltb k (length (shape_of d).records) (omega (arith, lt, a, b))

module _ (d : DictionaryText) (text : List ℕ) (y : Meaning) where
  last_there : (a b : Bool) → (if a then Some m.Application else (if b then Some m.Level else None)) ≡ Some y → RecordThere d y
  last_there true b e = subst (RecordThere d) (same_Some m.Application y e) tt
  last_there false true e = subst (RecordThere d) (same_Some m.Level y e) tt
  last_there false false e = absurd (none-some y e)

  set_there : (o : Option ℕ) (a b : Bool) → first_of (option_map m.Set o) (if a then Some m.Application else (if b then Some m.Level else None)) ≡ Some y → RecordThere d y
  set_there None a b e = last_there a b e
  set_there (Some k) a b e = subst (RecordThere d) (same_Some (m.Set k) y e) tt

  item_there : (o q : Option ℕ) (a b : Bool) → first_of (option_map m.Item o) (first_of (option_map m.Set q) (if a then Some m.Application else (if b then Some m.Level else None))) ≡ Some y → RecordThere d y
  item_there None q a b e = set_there q a b e
  item_there (Some k) q a b e = subst (RecordThere d) (same_Some (m.Item k) y e) tt

  meant_there : (o p q : Option ℕ) (a b : Bool) → ((k : ℕ) → o ≡ Some k → nat_lt k (length (shape_of d).records) ≡ true) → first_of (option_map m.Record o) (first_of (option_map m.Item p) (first_of (option_map m.Set q) (if a then Some m.Application else (if b then Some m.Level else None)))) ≡ Some y → RecordThere d y
  meant_there None p q a b f e = item_there p q a b e
  meant_there (Some k) p q a b f e = subst (RecordThere d) (same_Some (m.Record k) y e) (f k refl)

  named_there : in_dictionary d text ≡ Some y → RecordThere d y
  named_there e =
      meant_there (number_named text (record_names d)) (number_named text (item_names d)) (number_named text (set_names d)) (bytes_eq (kept_name text) d.name) (bytes_eq (kept_name text) d.level_name)
      (λ k f. record_there d text k f) e

module _ (d : DictionaryText) (item : ℕ) (o : Owner) where
  owned_if : (i : ItemShape) → slice_get (shape_of d).items item ≡ Some i → (b : Bool) → (i.owner == 255) ≡ b → (if b then None else Some (owners.Item (record { owner = i.owner; item = item }))) ≡ Some o → OwnerThere d o
  owned_if i there true f e = absurd (none-some o e)
  owned_if i there false f e = subst (OwnerThere d) (same_Some (owners.Item (record { owner = i.owner; item = item })) o e) (i, there, refl, f)

  owned_by : (i : ItemShape) → slice_get (shape_of d).items item ≡ Some i → (k : ItemKind) → item_owner item (Some (k, i.owner)) ≡ Some o → OwnerThere d o
  owned_by i there kinds.Opaque e = absurd (none-some o e)
  owned_by i there kinds.Number e = owned_if i there (i.owner == 255) refl e
  owned_by i there kinds.Text e = owned_if i there (i.owner == 255) refl e

  owner_of_item : item_owner item (kind_and_owner d item) ≡ Some o → OwnerThere d o
  unfolding kind_and_owner
  owner_of_item e = by (slice_get d.items item) refl e
    where
      by : (q : Option ItemText) → slice_get d.items item ≡ q → item_owner item (option_map (λ (x : ItemText). (x.shape.kind, x.shape.owner)) q) ≡ Some o → OwnerThere d o
      by None f e = absurd (none-some o e)
      by (Some i) f e = owned_by i.shape (slice_get-map (λ (x : ItemText). x.shape) d.items item ∙ ap (option_map (λ (x : ItemText). x.shape)) f) i.shape.kind e

owner_there : (d : DictionaryText) (y : Option Meaning) (o : Owner) → ((z : Meaning) → y ≡ Some z → RecordThere d z) → owner_meant d y ≡ Some o → OwnerThere d o
owner_there d None o h e = absurd (none-some o e)
owner_there d (Some m.Application) o h e = subst (OwnerThere d) (same_Some owners.Application o e) tt
owner_there d (Some m.Level) o h e = subst (OwnerThere d) (same_Some owners.Level o e) tt
owner_there d (Some (m.Record r)) o h e = subst (OwnerThere d) (same_Some (owners.Record r) o e) (h (m.Record r) refl)
owner_there d (Some (m.Item i)) o h e = owner_of_item d i o e
owner_there d (Some (m.Variable x)) o h e = absurd (none-some o e)
owner_there d (Some (m.Text x)) o h e = absurd (none-some o e)
owner_there d (Some (m.Array x)) o h e = absurd (none-some o e)
owner_there d (Some (m.Function x)) o h e = absurd (none-some o e)
owner_there d (Some (m.Set x)) o h e = absurd (none-some o e)

-- ---- handlers

-- the event is that of an owner which is there, and the routine is the owner's
pub record IsHandled (d : DictionaryText) (x : Handler) : Type 0 where
  pub owner : Owner
  pub after : Bool
  pub there : OwnerThere d owner
  pub event : x.event ≡ event_of owner after
  pub sort : x.outline.sort ≡ sorts.Procedure owner

abbrev AreHandled : DictionaryText → List Handler → Type 0
AreHandled d xs = AllByRecursion (IsHandled d) xs

both_handled : (d : DictionaryText) (xs ys : List Handler) → AreHandled d xs → AreHandled d ys → AreHandled d (xs ++ ys)
both_handled d [] ys f g = g
both_handled d (x ∷ xs) ys f g = (f.0, both_handled d xs ys f.1 g)

part_handled : (d : DictionaryText) (owner : Owner) (after : Bool) (body : Statements) → OwnerThere d owner → AreHandled d (handler_of owner after body)
part_handled d owner after body h = by (is_idle body)
  where
    by : (idle : Bool) → AreHandled d (if idle then [] else record { event = event_of owner after; outline = record { sort = sorts.Procedure owner; body = body } } ∷ [])
    by true = tt
    by false = (record { owner = owner; after = after; there = h; event = refl; sort = refl }, tt)

body_handled : (d : DictionaryText) (owner : Owner) (body : Body) → OwnerThere d owner → AreHandled d (handlers_of_body owner body)
body_handled d owner (Plain xs) h = part_handled d owner true xs h
body_handled d owner (Preproc xs) h = part_handled d owner false xs h
body_handled d owner (Both xs ys) h = both_handled d (handler_of owner false xs) (handler_of owner true ys) (part_handled d owner false xs h) (part_handled d owner true ys h)
body_handled d owner (Postproc xs) h = part_handled d owner true xs h

all_handled : (s : Scope) (n : ℕ) (ps : List Procedure) → AreProcedures s n ps → AreHandled s.dictionary (handlers_in ps)
all_handled s n [] h = tt
all_handled s n (x ∷ xs) h =
    let d = s.dictionary in
    let there = owner_there d (in_dictionary d x.name.text) x.owner (λ z e. named_there d x.name.text z e) h.0 in
    both_handled d (handlers_of_body x.owner x.body) (handlers_in xs) (body_handled d x.owner x.body there) (all_handled s (n + length (body_messages (erase_body x.body))) xs h.2)

handled_at : (d : DictionaryText) (xs : List Handler) (k : ℕ) (x : Handler) → AreHandled d xs → slice_get xs k ≡ Some x → IsHandled d x
handled_at d [] k x h e = absurd (none-some x e)
handled_at d (y ∷ xs) zero x h e = subst (IsHandled d) (same_Some y x e) h.0
handled_at d (y ∷ xs) (suc k) x h e = handled_at d xs k x h.1 e

-- ---- the table of events

abbrev key : Event → ℕ × ℕ
key e = (event_code e.code, e.index)

same_key : (a b : ℕ × ℕ) → is_key a b ≡ true → (a.0 ≡ b.0) × (a.1 ≡ b.1)
same_key a b e = let p = and_parts (nat_eq a.0 b.0) (nat_eq a.1 b.1) e in (eqb-true a.0 b.0 p.0, eqb-true a.1 b.1 p.1)

key_back : (a b c : ℕ × ℕ) → is_key a b ≡ true → is_key c b ≡ true → is_key a c ≡ true
key_back a b c e f =
    let p = same_key a b e in
    let q = same_key c b f in
    ap (λ n. n && nat_eq a.1 c.1) (eq-eqb a.0 c.0 (p.0 ∙ sym q.0)) ∙ eq-eqb a.1 c.1 (p.1 ∙ sym q.1)

-- what is found behind an insertion is what was put there, or was there before
put_there : (a : ℕ × ℕ) (put : Event) (v r : ℕ) (table : Table) → lookup (is_key a) (with_event table put v) ≡ Some r → ((is_key a (key put) ≡ true) × (r ≡ v)) ⊎ (lookup (is_key a) table ≡ Some r)
put_there a put v r [] e = by (is_key a (key put)) refl e
  where
    by : (b : Bool) → is_key a (key put) ≡ b → (if b then Some v else None) ≡ Some r → ((is_key a (key put) ≡ true) × (r ≡ v)) ⊎ (lookup (is_key a) [] ≡ Some r)
    by true f e = inl (f, sym (same_Some v r e))
    by false f e = inr e
put_there a put v r (x ∷ xs) e = by (is_key (key put) x.0) refl e (put_there a put v r xs)
  where
    over : (b : Bool) → is_key a x.0 ≡ b → is_key (key put) x.0 ≡ true → (if b then Some v else lookup (is_key a) xs) ≡ Some r → ((is_key a (key put) ≡ true) × (r ≡ v)) ⊎ ((if b then Some x.1 else lookup (is_key a) xs) ≡ Some r)
    over true f g e = inl (key_back a x.0 (key put) f g, sym (same_Some v r e))
    over false f g e = inr e

    past : (b : Bool) → (if b then Some x.1 else lookup (is_key a) (with_event xs put v)) ≡ Some r → (lookup (is_key a) (with_event xs put v) ≡ Some r → ((is_key a (key put) ≡ true) × (r ≡ v)) ⊎ (lookup (is_key a) xs ≡ Some r)) → ((is_key a (key put) ≡ true) × (r ≡ v)) ⊎ ((if b then Some x.1 else lookup (is_key a) xs) ≡ Some r)
    past true e ih = inr e
    past false e ih = ih e

    by : (b : Bool) → is_key (key put) x.0 ≡ b → lookup (is_key a) (if b then (x.0, v) ∷ xs else x ∷ with_event xs put v) ≡ Some r → (lookup (is_key a) (with_event xs put v) ≡ Some r → ((is_key a (key put) ≡ true) × (r ≡ v)) ⊎ (lookup (is_key a) xs ≡ Some r)) → ((is_key a (key put) ≡ true) × (r ≡ v)) ⊎ (lookup (is_key a) (x ∷ xs) ≡ Some r)
    by true f e ih = over (is_key a x.0) refl f e
    by false f e ih = past (is_key a x.0) e ih

-- a handler of this event
record FoundIn (xs : List Handler) (n : ℕ) (a : ℕ × ℕ) (r : ℕ) : Type 0 where
  place : ℕ
  handler : Handler
  there : slice_get xs place ≡ Some handler
  same : is_key a (key handler.event) ≡ true
  number : r ≡ n + place

found_in : (table : Table) (n : ℕ) (xs : List Handler) (a : ℕ × ℕ) (r : ℕ) → lookup (is_key a) (table_from table n xs) ≡ Some r → FoundIn xs n a r ⊎ (lookup (is_key a) table ≡ Some r)
found_in table n [] a r e = inr e
found_in table n (x ∷ xs) a r e =
    ⊎_elim
    (λ (f : FoundIn xs (n + 1) a r). let m = f.number in inl (record { place = suc f.place; handler = f.handler; there = f.there; same = f.same; number = omega (arith, m) }))
    (λ (f : lookup (is_key a) (with_event table x.event n) ≡ Some r).
    ⊎_elim
    (λ (g : (is_key a (key x.event) ≡ true) × (r ≡ n)). let m = g.1 in inl (record { place = zero; handler = x; there = refl; same = g.0; number = omega (arith, m) }))
    (λ (g : lookup (is_key a) table ≡ Some r). inr g)
    (put_there a x.event n r table f))
    (found_in (with_event table x.event n) (n + 1) xs a r e)

-- ---- the routine of an event is what the event wants

handled_item : (d : DictionaryText) (owner item n : ℕ) → OwnerThere d (owners.Item (record { owner = owner; item = item })) → handles_item (slice_get (shape_of d).items item) (routine_of (sorts.Procedure (owners.Item (record { owner = owner; item = item }))) n) ≡ true
handled_item d owner item n h =
    ap (λ o. handles_item o (routine_of (sorts.Procedure (owners.Item (record { owner = owner; item = item }))) n)) h.1
    ∙ ap (λ k. not (k == 255) && (owner == k)) h.2
    ∙ ap (λ b. not b && (owner == owner)) h.3
    ∙ eq-eqb owner owner refl

handles_owner : (d : DictionaryText) (owner : Owner) (after : Bool) (n : ℕ) → OwnerThere d owner → handles (shape_of d) (event_of owner after).code (event_of owner after).index (routine_of (sorts.Procedure owner) n) ≡ true
handles_owner d owners.Application false n h = refl
handles_owner d owners.Application true n h = refl
handles_owner d owners.Level false n h = refl
handles_owner d owners.Level true n h = refl
handles_owner d (owners.Record r) false n h = ap (λ b. b && true) h
handles_owner d (owners.Record r) true n h = ap (λ b. b && true) h
handles_owner d (owners.Item f) false n h = handled_item d f.owner f.item n h
handles_owner d (owners.Item f) true n h = handled_item d f.owner f.item n h

-- ---- all entries

module _ (P : EventEntry → Bool) (table : Table) where
  abbrev Passes : EventCode → ℕ → ℕ → Type 0
  Passes code index r = routine_at table code index ≡ Some r → P (record { code = code; index = index; routine = r }) ≡ true

  one_passes : (code : EventCode) (index : ℕ) → ((r : ℕ) → Passes code index r) → list_all P (entry_at table code index) ≡ true
  one_passes code index h = by (routine_at table code index) refl
    where
      by : (o : Option ℕ) → routine_at table code index ≡ o → list_all P (entry_of code index o) ≡ true
      by None f = refl
      by (Some r) f = ap (λ b. b && true) (h r f)

  both_pass : (xs ys : List EventEntry) → list_all P xs ≡ true → list_all P ys ≡ true → list_all P (xs ++ ys) ≡ true
  both_pass xs ys f g = list_all-append P xs ys ∙ ap (λ b. b && list_all P ys) f ∙ g

  code_passes : (code : EventCode) (ks : List ℕ) → ((index r : ℕ) → Passes code index r) → list_all P (flat_map (entry_at table code) ks) ≡ true
  code_passes code [] h = refl
  code_passes code (k ∷ ks) h = both_pass (entry_at table code k) (flat_map (entry_at table code) ks) (one_passes code k (h k)) (code_passes code ks h)

  all_pass : (records items : ℕ) → ((code : EventCode) (index r : ℕ) → Passes code index r) → list_all P (entries_in table records items) ≡ true
  unfolding entries_in
  all_pass records items h =
      both_pass _ _ (both_pass _ _ (both_pass _ _ (both_pass _ _ (both_pass _ _ (both_pass _ _ (both_pass _ _
      (code_passes codes.ApplicationPreproc (range_with_len 0 1) (h codes.ApplicationPreproc))
      (code_passes codes.ApplicationPostproc (range_with_len 0 1) (h codes.ApplicationPostproc)))
      (code_passes codes.LevelPreproc (range_with_len 0 1) (h codes.LevelPreproc)))
      (code_passes codes.LevelPostproc (range_with_len 0 1) (h codes.LevelPostproc)))
      (code_passes codes.RecordPreproc (range_with_len 0 records) (h codes.RecordPreproc)))
      (code_passes codes.RecordPostproc (range_with_len 0 records) (h codes.RecordPostproc)))
      (code_passes codes.ItemPreproc (range_with_len 0 items) (h codes.ItemPreproc)))
      (code_passes codes.ItemPostproc (range_with_len 0 items) (h codes.ItemPostproc))

module _ (d : DictionaryText) (size : Outline → ℕ) (x : Lists) (fs : List Outline) (hs : List Handler) (routines : x.routines ≡ map (λ (o : Outline). routine_of o.sort (size o)) (fs ++ map (λ (h : Handler). h.outline) hs)) (handled : AreHandled d hs) where
  abbrev entry : Outline → RoutineLists
  entry o = routine_of o.sort (size o)

  routine_there : (k : ℕ) (h : Handler) → slice_get hs k ≡ Some h → slice_get x.routines (length fs + k) ≡ Some (entry h.outline)
  routine_there k h e =
      ap (λ l. slice_get l (length fs + k)) routines
      ∙ slice_get-map entry (fs ++ map (λ (h : Handler). h.outline) hs) (length fs + k)
      ∙ ap (option_map entry) (slice_get-append-add fs (map (λ (h : Handler). h.outline) hs) k ∙ slice_get-map (λ (h : Handler). h.outline) hs k ∙ ap (option_map (λ (h : Handler). h.outline)) e)

  handled_event : (code : EventCode) (index : ℕ) (h : Handler) → IsHandled d h → is_key (event_code code, index) (key h.event) ≡ true → handles (shape_of d) code index (entry h.outline) ≡ true
  handled_event code index h b e =
      let p = same_key (event_code code, index) (key h.event) e in
      ap (λ c. handles (shape_of d) c index (entry h.outline)) (one_code code h.event.code p.0)
      ∙ ap (λ i. handles (shape_of d) h.event.code i (entry h.outline)) p.1
      ∙ ap (λ (v : Event). handles (shape_of d) v.code v.index (entry h.outline)) b.event
      ∙ ap (λ s. handles (shape_of d) (event_of b.owner b.after).code (event_of b.owner b.after).index (routine_of s (size h.outline))) b.sort
      ∙ handles_owner d b.owner b.after (size h.outline) b.there

  event_fits : (code : EventCode) (index r : ℕ) → routine_at (table_from [] (length fs) hs) code index ≡ Some r → fits_event (shape_of d) x (record { code = code; index = index; routine = r }) ≡ true
  event_fits code index r e =
      ⊎_elim
      (λ (f : FoundIn hs (length fs) (event_code code, index) r).
      let v : ℕ → EventEntry = λ r. record { code = code; index = index; routine = r } in
      ap (λ r. is_handled_by (shape_of d) (v r) (slice_get x.routines r)) f.number
      ∙ ap (is_handled_by (shape_of d) (v (length fs + f.place))) (routine_there f.place f.handler f.there)
      ∙ handled_event code index f.handler (handled_at d hs f.place f.handler handled f.there) f.same)
      (λ (f : None ≡ Some r). absurd (none-some r f))
      (found_in [] (length fs) hs (event_code code, index) r e)

  all_fit : x.events ≡ entries_in (table_from [] (length fs) hs) (length (shape_of d).records) (length (shape_of d).items) → all_events_fit (shape_of d) x ≡ true
  all_fit e =
      ap (list_all (fits_event (shape_of d) x)) e
      ∙ all_pass (fits_event (shape_of d) x) (table_from [] (length fs) hs) (length (shape_of d).records) (length (shape_of d).items) event_fits

-- of a program with the routines and the events of these functions and procedures
pub events_fit : (d : DictionaryText) (s : Scope) (n : ℕ) (ps : List Procedure) (size : Outline → ℕ) (x : Lists) (fs : List Outline) → s.dictionary ≡ d → AreProcedures s n ps
    → x.routines ≡ map (λ (o : Outline). routine_of o.sort (size o)) (fs ++ map (λ (h : Handler). h.outline) (handlers_in ps))
    → x.events ≡ entries_in (table_from [] (length fs) (handlers_in ps)) (length (shape_of d).records) (length (shape_of d).items)
    → all_events_fit (shape_of d) x ≡ true
events_fit d s n ps size x fs same procedures routines e =
    all_fit d size x fs (handlers_in ps) routines (subst (λ d. AreHandled d (handlers_in ps)) same (all_handled s n ps procedures)) e
