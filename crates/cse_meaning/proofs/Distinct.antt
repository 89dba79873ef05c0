-- No two parts of procedures are of one event.
use Rattle.std.proofs.Common.{◌≡◌, ℕ, ◌+◌, Bool, true, false, List, [], ◌∷◌, ◌++◌, map, length, get_or, Option, Some, None, refl, sym, ap, ◌∙◌, subst, nat_eq, append_assoc}
use Rattle.std.specs.Prelude.{option_map, if◌then◌else◌, nat_le, position, ◌==◌}
use Rattle.std.specs.List.{AllByRecursion, IsDistinct}
use Rattle.std.specs.Str.{bytes_eq}
use Rattle.std.proofs.lemmas.Bool.{eqb-true, and_parts}
use Rattle.std.proofs.lemmas.Option.{same_Some, none-some}
use Rattle.std.proofs.lemmas.List.Quantifiers.{position-Some}
use Rattle.std.proofs.lemmas.Slice.Eq.{bytes_eq-Decides}
use Rattle.cse_value.specs.declared.shape.ItemKind.{ItemKind}
use Rattle.cse_value.specs.declared.shape.ItemKind.TheVariants as kinds
use Rattle.cse_image_parts.specs.Codes.{event_code}
use Rattle.cse_image_parts.specs.declared.entries.Event.{Event}
use Rattle.cse_image_parts.specs.declared.entries.EventCode.{EventCode}
use Rattle.cse_image_parts.specs.declared.entries.EventCode.TheVariants as codes
use Rattle.cse_dict.specs.Dictionary.{DictionaryText, number_named, record_names, item_names, set_names}
use Rattle.cse_dict.specs.Keys.{kept_name}
use Rattle.cse_logic_tree.specs.declared.tree.Owner.{Owner}
use Rattle.cse_logic_tree.specs.declared.tree.Owner.TheVariants as owners
use Rattle.cse_logic_tree.specs.Erase.{erase_body}
use Rattle.cse_logic_tree.specs.Typed.{Statements, Body, Plain, Preproc, Both, Postproc, Procedure}
use Rattle.cse_compile.specs.declared.outlines.RoutineSort.TheVariants as sorts
use Rattle.cse_compile.specs.Outline.{Handler, is_idle, event_of, handler_of, handlers_of_body, handlers_in}
use Rattle.cse_compile.specs.Events.{is_key}
use Rattle.cse_logic_names.specs.declared.meaning.Meaning.{Meaning}
use Rattle.cse_logic_names.specs.declared.meaning.Meaning.TheVariants as m
use Rattle.cse_logic_names.specs.Scope.{Scope, first_of, in_dictionary, kind_and_owner}
use Rattle.cse_logic_names.specs.WellTyped.{AreProcedures, body_messages, item_owner, owner_meant}
use Rattle.cse_compile.specs.Numbers.{key_of}
use Rattle.cse_code_typing.proofs.HandlerLaws.{one_code}

-- ---- names

-- the name of an owner, and of what an event is of
abbrev name_of : DictionaryText → Owner → List ℕ
name_of d owners.Application = d.name
name_of d owners.Level = d.level_name
name_of d (owners.Record x) = get_or (record_names d) x []
name_of d (owners.Item f) = get_or (item_names d) f.item []

abbrev named_at : DictionaryText → EventCode → ℕ → List ℕ
named_at d codes.ApplicationPreproc x = d.name
named_at d codes.ApplicationPostproc x = d.name
named_at d codes.LevelPreproc x = d.level_name
named_at d codes.LevelPostproc x = d.level_name
named_at d codes.RecordPreproc x = get_or (record_names d) x []
named_at d codes.RecordPostproc x = get_or (record_names d) x []
named_at d codes.ItemPreproc x = get_or (item_names d) x []
named_at d codes.ItemPostproc x = get_or (item_names d) x []

abbrev name_at : DictionaryText → Event → List ℕ
name_at d e = named_at d e.code e.index

same_name : (d : DictionaryText) (owner : Owner) (after : Bool) → name_at d (event_of owner after) ≡ name_of d owner
same_name d owners.Application false = refl
same_name d owners.Application true = refl
same_name d owners.Level false = refl
same_name d owners.Level true = refl
same_name d (owners.Record x) false = refl
same_name d (owners.Record x) true = refl
same_name d (owners.Item f) false = refl
same_name d (owners.Item f) true = refl

named : (text : List ℕ) (names : List (List ℕ)) (k : ℕ) → number_named text names ≡ Some k → get_or names k [] ≡ kept_name text
named text names k e = by (nat_le (length text) 32) e
  where
    by : (b : Bool) → (if b then position (bytes_eq (kept_name text)) names else None) ≡ Some k → get_or names k [] ≡ kept_name text
    by true e = sym ((bytes_eq-Decides (kept_name text) (get_or names k [])).0 (position-Some (bytes_eq (kept_name text)) names k [] e).1)
    by false e = absurd (none-some k e)

module _ (d : DictionaryText) (text : List ℕ) (owner : Owner) where
  abbrev Named : Option Meaning → Type 0
  Named y = owner_meant d y ≡ Some owner → name_of d owner ≡ kept_name text

  last_named : (a b : Bool) → bytes_eq (kept_name text) d.name ≡ a → bytes_eq (kept_name text) d.level_name ≡ b → Named (if a then Some m.Application else (if b then Some m.Level else None))
  last_named true b p q e = ap (name_of d) (sym (same_Some owners.Application owner e)) ∙ sym ((bytes_eq-Decides (kept_name text) d.name).0 p)
  last_named false true p q e = ap (name_of d) (sym (same_Some owners.Level owner e)) ∙ sym ((bytes_eq-Decides (kept_name text) d.level_name).0 q)
  last_named false false p q e = absurd (none-some owner e)

  -- a set has no procedure
  set_named : (o : Option ℕ) (rest : Option Meaning) → Named rest → Named (first_of (option_map m.Set o) rest)
  set_named None rest h = h
  set_named (Some k) rest h = λ e. absurd (none-some owner e)

  in_record : (item of : ℕ) (is_id : Bool) → (if is_id then None else Some (owners.Item (record { owner = of; item = item }))) ≡ Some owner → name_of d owner ≡ get_or (item_names d) item []
  in_record item of true e = absurd (none-some owner e)
  in_record item of false e = ap (name_of d) (sym (same_Some (owners.Item (record { owner = of; item = item })) owner e))

  owned : (item : ℕ) (of : Option (ItemKind × ℕ)) → item_owner item of ≡ Some owner → name_of d owner ≡ get_or (item_names d) item []
  owned item None e = absurd (none-some owner e)
  owned item (Some (kinds.Opaque, of)) e = absurd (none-some owner e)
  owned item (Some (kinds.Number, of)) e = in_record item of (of == 255) e
  owned item (Some (kinds.Text, of)) e = in_record item of (of == 255) e

  item_named : (o : Option ℕ) (rest : Option Meaning) → number_named text (item_names d) ≡ o → Named rest → Named (first_of (option_map m.Item o) rest)
  item_named None rest is h = h
  item_named (Some k) rest is h = λ e. owned k (kind_and_owner d k) e ∙ named text (item_names d) k is

  record_named : (o : Option ℕ) (rest : Option Meaning) → number_named text (record_names d) ≡ o → Named rest → Named (first_of (option_map m.Record o) rest)
  record_named None rest is h = h
  record_named (Some k) rest is h = λ e. ap (name_of d) (sym (same_Some (owners.Record k) owner e)) ∙ named text (record_names d) k is

  -- an owner has the name of its procedure
  owner_named : owner_meant d (in_dictionary d text) ≡ Some owner → name_of d owner ≡ kept_name text
  owner_named =
      record_named (number_named text (record_names d)) _ refl (item_named (number_named text (item_names d)) _ refl (set_named (number_named text (set_names d)) _
      (last_named (bytes_eq (kept_name text) d.name) (bytes_eq (kept_name text) d.level_name) refl refl)))

-- ---- parts

-- the handler is of none of these events
abbrev Apart : Event → List Handler → Type 0
Apart e xs = AllByRecursion (λ y. is_key (event_code e.code, e.index) y ≡ false) (map key_of xs)

abbrev AreApart : List Handler → Type 0
AreApart xs = IsDistinct is_key (map key_of xs)

abbrev part_of : Owner → Bool → Statements → Handler
part_of owner after body = record { event = event_of owner after; outline = record { sort = sorts.Procedure owner; body = body } }

apart_part : (e : Event) (owner : Owner) (after : Bool) (body : Statements) (xs : List Handler) → is_key (event_code e.code, e.index) (key_of (part_of owner after body)) ≡ false → Apart e xs → Apart e (handler_of owner after body ++ xs)
apart_part e owner after body xs here h = by (is_idle body)
  where
    by : (idle : Bool) → Apart e ((if idle then [] else part_of owner after body ∷ []) ++ xs)
    by true = h
    by false = (here, h)

distinct_part : (owner : Owner) (after : Bool) (body : Statements) (xs : List Handler) → Apart (event_of owner after) xs → AreApart xs → AreApart (handler_of owner after body ++ xs)
unfolding IsDistinct
distinct_part owner after body xs apart h = by (is_idle body)
  where
    by : (idle : Bool) → AreApart ((if idle then [] else part_of owner after body ∷ []) ++ xs)
    by true = h
    by false = (apart, h)

apart_body : (e : Event) (owner : Owner) (body : Body) (xs : List Handler) → ((after : Bool) → is_key (event_code e.code, e.index) (event_code (event_of owner after).code, (event_of owner after).index) ≡ false) → Apart e xs → Apart e (handlers_of_body owner body ++ xs)
apart_body e owner (Plain b) xs here h = apart_part e owner true b xs (here true) h
apart_body e owner (Preproc b) xs here h = apart_part e owner false b xs (here false) h
apart_body e owner (Both a b) xs here h =
    subst (Apart e) (sym (append_assoc (handler_of owner false a) (handler_of owner true b) xs))
    (apart_part e owner false a (handler_of owner true b ++ xs) (here false) (apart_part e owner true b xs (here true) h))
apart_body e owner (Postproc b) xs here h = apart_part e owner true b xs (here true) h

before_after : (owner : Owner) → is_key (event_code (event_of owner false).code, (event_of owner false).index) (event_code (event_of owner true).code, (event_of owner true).index) ≡ false
before_after owners.Application = refl
before_after owners.Level = refl
before_after (owners.Record x) = refl
before_after (owners.Item f) = refl

distinct_body : (owner : Owner) (body : Body) (xs : List Handler) → ((after : Bool) → Apart (event_of owner after) xs) → AreApart xs → AreApart (handlers_of_body owner body ++ xs)
distinct_body owner (Plain b) xs apart h = distinct_part owner true b xs (apart true) h
distinct_body owner (Preproc b) xs apart h = distinct_part owner false b xs (apart false) h
distinct_body owner (Both a b) xs apart h =
    subst AreApart (sym (append_assoc (handler_of owner false a) (handler_of owner true b) xs))
    (distinct_part owner false a (handler_of owner true b ++ xs) (apart_part (event_of owner false) owner true b xs (before_after owner) (apart false)) (distinct_part owner true b xs (apart true) h))
distinct_body owner (Postproc b) xs apart h = distinct_part owner true b xs (apart true) h

-- ---- procedures

abbrev names : List Procedure → List (List ℕ)
names ps = map (λ (x : Procedure). kept_name x.name.text) ps

module _ (d : DictionaryText) where
  -- each owner has the name of its procedure
  abbrev AreNamed : List Procedure → Type 0
  AreNamed [] = Unit {0}
  AreNamed (p ∷ ps) = (name_of d p.owner ≡ kept_name p.name.text) × AreNamed ps

  -- events of other names are other events
  other_event : (e : Event) (owner : Owner) (after : Bool) (a b : List ℕ) → name_at d e ≡ a → name_of d owner ≡ b → bytes_eq a b ≡ false → is_key (event_code e.code, e.index) (event_code (event_of owner after).code, (event_of owner after).index) ≡ false
  other_event e owner after a b p q differ = by (is_key (event_code e.code, e.index) (event_code f.code, f.index)) refl
    where
      f : Event
      f = event_of owner after

      by : (k : Bool) → is_key (event_code e.code, e.index) (event_code f.code, f.index) ≡ k → k ≡ false
      by false same = refl
      by true same =
          let z = and_parts (nat_eq (event_code e.code) (event_code f.code)) (nat_eq e.index f.index) same in
          let c : e.code ≡ f.code = one_code e.code f.code (eqb-true (event_code e.code) (event_code f.code) z.0) in
          let i : e.index ≡ f.index = eqb-true e.index f.index z.1 in
          let n : a ≡ b = sym p ∙ (ap (λ c. named_at d c e.index) c ∙ (ap (named_at d f.code) i ∙ (same_name d owner after ∙ q))) in
          sym ((bytes_eq-Decides a b).1 n) ∙ differ

  apart_all : (e : Event) (a : List ℕ) (ps : List Procedure) → name_at d e ≡ a → AreNamed ps → AllByRecursion (λ b. bytes_eq a b ≡ false) (names ps) → Apart e (handlers_in ps)
  apart_all e a [] is named differ = tt
  apart_all e a (p ∷ ps) is named differ =
      apart_body e p.owner p.body (handlers_in ps) (λ after. other_event e p.owner after a (kept_name p.name.text) is named.0 differ.0) (apart_all e a ps is named.1 differ.1)

  all_apart : (ps : List Procedure) → AreNamed ps → IsDistinct bytes_eq (names ps) → AreApart (handlers_in ps)
  unfolding IsDistinct
  all_apart [] named once = tt
  all_apart (p ∷ ps) named once =
      distinct_body p.owner p.body (handlers_in ps) (λ after. apart_all (event_of p.owner after) (kept_name p.name.text) ps (same_name d p.owner after ∙ named.0) named.1 once.0) (all_apart ps named.1 once.1)

are_named : (s : Scope) (ps : List Procedure) (n : ℕ) → AreProcedures s n ps → AreNamed s.dictionary ps
are_named s [] n h = tt
are_named s (p ∷ ps) n h = (owner_named s.dictionary p.name.text p.owner h.0, are_named s ps (n + length (body_messages (erase_body p.body))) h.2)

-- no two parts of procedures of a sound source are of one event
pub events_apart : (s : Scope) (n : ℕ) (ps : List Procedure) → AreProcedures s n ps → IsDistinct bytes_eq (names ps) → IsDistinct is_key (map key_of (handlers_in ps))
events_apart s n ps h once = all_apart s.dictionary ps (are_named s ps n h) once
