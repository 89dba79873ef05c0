-- Where there is no fault, the dictionary is sound.
use Rattle.std.proofs.Common.{◌≡◌, ◌⊎◌, ◌≤◌, ◌<◌, ◌+◌, ◌-◌, ◌∙◌, sym, ap, subst, ℕ, zero, suc, true, false, List, [], ◌∷◌, ◌++◌, length, refl, arith, Option, None, Some, codes, ℤ, All, Contains, unwrap_or, option_to_list, append_assoc, append-nil, length-append, slice_get, get_or, take, drop}
use Rattle.std.specs.Prelude.{◌==◌, ◌&&◌, if◌then◌else◌}
use Rattle.std.specs.List.{list_any}
use Rattle.std.proofs.lemmas.Bool.{or_parts}
use Rattle.std.proofs.lemmas.List.{take_rest}
use Rattle.std.proofs.lemmas.List.Elements.{All-append, All-cons, All-nil, All-weaker, Contains-append_left, Contains-append_right}
use Rattle.std.proofs.lemmas.List.Folds.{list_any-append}
use Rattle.cse_value.specs.declared.shape.ItemKind.TheVariants.{Opaque, Number, Text}
use Rattle.cse_sections.specs.Sections.{EntryText, SectionText, sections_of}
use Rattle.cse_sections.specs.Number.{whole_of}
use Rattle.cse_dict.specs.Keys.{entry_of, kind_of, number_in}
use Rattle.cse_dict.specs.Types.{type_len_of}
use Rattle.cse_dict.specs.Pairs.{RowsBelow}
use Rattle.cse_dict.specs.Fields.{columns_of, is_bad_code, is_number, item_kind, share_column, type_columns_of}
use Rattle.cse_dict.specs.Context.{context_after, context_by_kind, covered_by, id_columns_at, id_columns_by_kind, id_columns_from, is_ids, is_in_record, owner_after, owner_by_kind}
use Rattle.cse_dict.specs.Faults.{code_faults, code_faults_for, faults_at, faults_behind, faults_by_first, faults_by_kind, faults_from, faults_of, fault_if, first_faults, has_bad_code, is_homeless, is_too_far, item_faults, item_head_faults, item_place_faults, read_part, record_faults, record_head_faults, record_number_faults, rest_faults, seen_after, seen_first, set_faults, set_head_faults}
use Rattle.cse_dict.specs.Dictionary.{DictionaryText, IsSmall, ItemText, RecordText, SetText, dictionary_of, field_or_none, item_at, item_by_kind, item_in, item_shape_at, items_from, no_columns, record_at, record_by_kind, record_in, record_shape_at, records_of, set_at, set_by_kind, set_in, sets_from}
use Rattle.cse_dict.specs.Sound.{AreApart, IsIdItem, IsSound, IsSoundCode, IsSoundItem, IsSoundRecord, IsSoundSet, KeepsOffIds, SoundWithoutFault, columns_of_item}
use Rattle.cse_dict.specs.declared.keys.Kind.{Kind}
use Rattle.cse_dict.specs.declared.keys.Kind.TheVariants.{Dictionary, Level, IdItems, Record, Item, ValueSet, Other}
use Rattle.cse_dict.specs.declared.field.Columns.{Columns}
use Rattle.cse_dict.specs.declared.context.Context.{Context}
use Rattle.cse_dict.specs.declared.context.Owner.{Owner}
use Rattle.cse_dict.specs.declared.context.Owner.TheVariants.{Nobody, Ids, OfRecord}
use Rattle.cse_dict.specs.declared.seen.Seen.{Seen}
use Rattle.cse_dict.proofs.ReadLaws.{HasTypeLen, IsField, append_none, field_there, no_fault, number_there, optional_there, type_len_there, type_there}
use Rattle.cse_dict.proofs.ItemLaws.{IsSoundOwner, LastOf, apart_from_none, apart_from_share, code_by, none_passes, number_len, owner_sound, shares_none, text_len}
use Rattle.cse_dict.proofs.LimitLaws.{IsSmall-sections, record_below, rest_none, sections_sound}
use Rattle.cse_dict.proofs.RowLaws.{rows_of-below}

-- a record, by the length of the columns of the record type
record IsSoundAt (type_len : ℕ) (r : RecordText) : Type 0 where
  pub most : 1 ≤ r.shape.max_records
  pub few : r.shape.max_records ≤ 9999
  pub len : 1 ≤ r.shape.record_len
  pub type_is : length r.record_type ≡ type_len

-- an item, by all records and all columns of ids
record IsSoundIn (whole : List RecordText) (covered : List Columns) (i : ItemText) : Type 0 where
  pub owner : IsIdItem i ⊎ (i.shape.owner < length whole)
  pub start : 1 ≤ i.shape.start
  pub len : 1 ≤ i.shape.len
  pub number : i.shape.kind ≡ Number → i.shape.len ≤ 15
  pub text : i.shape.kind ≡ Text → i.shape.len ≤ 255
  pub within : (r : RecordText) → slice_get whole i.shape.owner ≡ Some r → i.shape.start - 1 + i.shape.len ≤ r.shape.record_len
  pub apart : (IsIdItem i → ⊥) → (i.shape.kind ≡ Opaque → ⊥) → list_any (share_column (columns_of_item i)) covered ≡ false
  pub code : (z : ℤ) → i.code ≡ Some z → IsSoundCode i z
  pub id : IsIdItem i → Contains covered (columns_of_item i)

-- a value set, by the number of items
record IsSetOf (total : ℕ) (t : SetText) : Type 0 where
  pub item : t.shape.item < total
  pub rows : RowsBelow t.shape.rows t.spans

-- the parts of an item's faults
record ItemParts (covered : List Columns) (owner : Owner) (s : SectionText) : Type 0 where
  pub field : IsField s
  pub home : is_homeless owner ≡ false
  pub near : is_too_far owner (columns_of s) ≡ false
  pub codes_fit : code_faults covered owner s ≡ []

module _ (covered : List Columns) (seen : Seen) (s : SectionText) where
  item_parts : item_faults covered seen s ≡ [] → ItemParts covered seen.context.owner s
  unfolding item_faults item_head_faults item_place_faults
  item_parts h =
      let all = append_none _ _ h in
      let front = append_none _ _ all.0 in
      let place = append_none _ _ front.1 in record {
        field = field_there s (append_none _ _ front.0).1;
        home = no_fault _ _ _ place.0;
        near = no_fault _ _ _ place.1;
        codes_fit = all.1;
      }

module _ (covered : List Columns) (owner : Owner) (s : SectionText) (p : ItemParts covered owner s) where
  fitting : (e : EntryText) → entry_of (codes "EditMissing") s ≡ Some e
      → (is_number (item_kind covered (is_in_record owner) (field_or_none s)) && is_bad_code (field_or_none s).columns.len (whole_of e.value)) ≡ false
  unfolding code_faults has_bad_code
  fitting e is =
      let here : code_faults_for covered owner (Some e) (Some (field_or_none s)) ≡ [] =
      sym (λ i. code_faults_for covered owner (is i) (p.field.field_is i)) ∙ p.codes_fit in
      no_fault _ _ _ here

module _ (covered : List Columns) (whole before more : List RecordText) (few : length whole ≤ 200) (is : whole ≡ before ++ more) where
  item_sound : (c : Context) (s : SectionText) → ItemParts covered c.owner s → c.records ≡ length before → LastOf c.owner before
      → (is_ids c.owner ≡ true → Contains covered (field_or_none s).columns) → IsSoundIn whole covered (item_at covered c s)
  unfolding item_shape_at
  item_sound c s p count last id =
      let g = field_or_none s in
      let near : is_too_far c.owner (Some g.columns) ≡ false = subst (λ o. is_too_far c.owner o ≡ false) p.field.columns_are p.near in
      let own : IsSoundOwner c.owner c.records whole g.columns =
      owner_sound before more whole g.columns p.field.start few is c.owner c.records count last p.home near in record {
        owner = own.there;
        start = p.field.start;
        len = p.field.len;
        number = number_len covered (is_in_record c.owner) g;
        text = text_len covered (is_in_record c.owner) g;
        within = own.within;
        apart = λ other named. shares_none covered (is_in_record c.owner) g (own.in_record other) named;
        code = λ z e.
            let q = code_by (item_kind covered (is_in_record c.owner) g) g.columns.len (entry_of (codes "EditMissing") s) z (fitting covered c.owner s p) e in
            record { kind = q.0; whole = q.1; fits = q.2 };
        id = λ e. id (own.is_id e);
      }

-- what the walk knows of the records before a section
record Knows (before : List RecordText) (c : Context) : Type 0 where
  pub count : c.records ≡ length before
  pub last : LastOf c.owner before

module _ (covered : List Columns) (len : Option ℕ) (seen : Seen) (s : SectionText) where
  record_read : record_faults len seen s ≡ [] → record_number_faults s ≡ []
  unfolding record_faults record_head_faults
  record_read h = (append_none _ _ (append_none _ _ (append_none _ _ h).0).0).1

  room_is : record_number_faults s ≡ [] → number_in 1 65535 (entry_of (codes "RecordLen") s) ≡ Some (record_shape_at s).record_len
  unfolding record_number_faults record_shape_at
  room_is h =
      let len = number_there 1 65535 s (codes "RecordLen") (append_none _ _ h).0 in
      len.is ∙ ap (λ o. Some (unwrap_or o 0)) (sym len.is)

  same_before : (before : List RecordText) → Knows before seen.context → Knows (before ++ []) seen.context
  same_before before k = subst (λ b. Knows b seen.context) (sym (append-nil before)) k

  knows_step : (before : List RecordText) (k : Kind) → kind_of s.heading ≡ k → faults_by_kind k covered len seen s ≡ [] → Knows before seen.context
      → Knows (before ++ record_by_kind k len s) (context_by_kind k seen.context s)
  unfolding owner_after
  knows_step before Record e h k =
      let below = record_below covered len seen s h in
      let owner : owner_by_kind (kind_of s.heading) seen.context.owner s ≡ OfRecord (number_in 1 65535 (entry_of (codes "RecordLen") s)) =
      ap (λ y. owner_by_kind y seen.context.owner s) e in record {
        count = omega (arith, below, k.count, length-append before (record_at len s ∷ []));
        last = subst (λ o. LastOf o (before ++ record_at len s ∷ [])) (sym owner) (before, record_at len s, refl, room_is (record_read h));
      }
  knows_step before IdItems e h k =
      let owner : owner_by_kind (kind_of s.heading) seen.context.owner s ≡ Ids = ap (λ y. owner_by_kind y seen.context.owner s) e in record {
        count = k.count ∙ ap length (sym (append-nil before));
        last = subst (λ o. LastOf o (before ++ [])) (sym owner) tt;
      }
  knows_step before Item e h k = let m = same_before before k in record { count = m.count; last = m.last }
  knows_step before Dictionary e h k = same_before before k
  knows_step before Level e h k = same_before before k
  knows_step before ValueSet e h k = let m = same_before before k in record { count = m.count; last = m.last }
  knows_step before Other e h k = same_before before k

  knows_after : (before : List RecordText) → faults_at covered len seen s ≡ [] → Knows before seen.context
      → Knows (before ++ record_in len s) (seen_after len seen s).context
  unfolding faults_at record_in seen_after context_after
  knows_after before h k = knows_step before (kind_of s.heading) refl h k

  -- the columns of an id item are among those of all id items
  id_there : (rest : List SectionText) → kind_of s.heading ≡ Item → IsField s → is_ids seen.context.owner ≡ true
      → Contains (id_columns_from seen.context.owner (s ∷ rest)) (field_or_none s).columns
  unfolding id_columns_at
  id_there rest e f ids =
      let here : id_columns_by_kind (kind_of s.heading) seen.context.owner s ≡ (field_or_none s).columns ∷ [] =
      ap (λ k. id_columns_by_kind k seen.context.owner s) e ∙ (λ i. if ids i then option_to_list (f.columns_are i) else []) in
      Contains-append_left _ _ _ (subst (λ cs. Contains cs (field_or_none s).columns) (sym here) (0, omega arith, refl))

  module _ (whole before more : List RecordText) (few : length whole ≤ 200) (is : whole ≡ before ++ more) (rest : List SectionText)
      (ids : (c : Columns) → Contains (id_columns_from seen.context.owner (s ∷ rest)) c → Contains covered c) where
    items_step : (k : Kind) → kind_of s.heading ≡ k → faults_by_kind k covered len seen s ≡ [] → Knows before seen.context
        → All (IsSoundIn whole covered) (item_by_kind k covered seen.context s)
    items_step Item e h k =
        let p = item_parts covered seen s h in
        All-cons (IsSoundIn whole covered) _ [] (item_sound covered whole before more few is seen.context s p k.count k.last (λ yes. ids _ (id_there rest e p.field yes)))
        (All-nil (IsSoundIn whole covered))
    items_step Record e h k = All-nil (IsSoundIn whole covered)
    items_step IdItems e h k = All-nil (IsSoundIn whole covered)
    items_step Dictionary e h k = All-nil (IsSoundIn whole covered)
    items_step Level e h k = All-nil (IsSoundIn whole covered)
    items_step ValueSet e h k = All-nil (IsSoundIn whole covered)
    items_step Other e h k = All-nil (IsSoundIn whole covered)

    items_here : faults_at covered len seen s ≡ [] → Knows before seen.context → All (IsSoundIn whole covered) (item_in covered seen.context s)
    unfolding faults_at item_in
    items_here h k = items_step (kind_of s.heading) refl h k

  owner_step : (k : Kind) → kind_of s.heading ≡ k → (context_by_kind k seen.context s).owner ≡ owner_after seen.context.owner s
  unfolding owner_after
  owner_step Record e = refl
  owner_step IdItems e = refl
  owner_step Item e = ap (λ k. owner_by_kind k seen.context.owner s) (sym e)
  owner_step Dictionary e = ap (λ k. owner_by_kind k seen.context.owner s) (sym e)
  owner_step Level e = ap (λ k. owner_by_kind k seen.context.owner s) (sym e)
  owner_step ValueSet e = ap (λ k. owner_by_kind k seen.context.owner s) (sym e)
  owner_step Other e = ap (λ k. owner_by_kind k seen.context.owner s) (sym e)

  owner_along : (seen_after len seen s).context.owner ≡ owner_after seen.context.owner s
  unfolding seen_after context_after
  owner_along = owner_step (kind_of s.heading) refl

  context_along : (seen_after len seen s).context ≡ context_after seen.context s
  unfolding seen_after
  context_along = refl

module _ (covered : List Columns) (len : Option ℕ) (whole : List RecordText) (few : length whole ≤ 200) where
  items_sound : (ss : List SectionText) (seen : Seen) (before : List RecordText) → faults_from covered len seen ss ≡ [] → whole ≡ before ++ records_of len ss
      → Knows before seen.context → ((c : Columns) → Contains (id_columns_from seen.context.owner ss) c → Contains covered c)
      → All (IsSoundIn whole covered) (items_from covered seen.context ss)
  items_sound [] seen before h is k ids = All-nil (IsSoundIn whole covered)
  items_sound (s ∷ ss) seen before h is k ids =
      let parts = append_none (faults_at covered len seen s) (faults_from covered len (seen_after len seen s) ss) h in
      let here = items_here covered len seen s whole before (records_of len (s ∷ ss)) few is ss ids parts.0 k in
      let parted : whole ≡ (before ++ record_in len s) ++ records_of len ss = is ∙ sym (append_assoc before (record_in len s) (records_of len ss)) in
      let behind = items_sound ss (seen_after len seen s) (before ++ record_in len s) parts.1 parted (knows_after covered len seen s before parts.0 k)
      (λ c at. ids c (Contains-append_right (id_columns_at seen.context.owner s) _ c
      (subst (λ o. Contains (id_columns_from o ss) c) (owner_along covered len seen s) at))) in
      All-append (IsSoundIn whole covered) (item_in covered seen.context s) (items_from covered (context_after seen.context s) ss) here
      (subst (λ c. All (IsSoundIn whole covered) (items_from covered c ss)) (context_along covered len seen s) behind)

-- records
module _ (covered : List Columns) (n : ℕ) (seen : Seen) (s : SectionText) where
  record_sound : record_faults (Some n) seen s ≡ [] → IsSoundAt n (record_at (Some n) s)
  unfolding record_faults record_number_faults record_shape_at
  record_sound h =
      let one : 1 ≤ 1 = omega arith in
      let many : 1 ≤ 9999 = omega arith in
      let parts = append_none _ _ h in
      let front = append_none _ _ parts.0 in
      let numbers = append_none _ _ (record_read covered (Some n) seen s h) in
      let len = number_there 1 65535 s (codes "RecordLen") numbers.0 in
      let most = optional_there 1 9999 s (codes "MaxRecords") 1 one many numbers.1 in record {
        most = subst (λ o. 1 ≤ unwrap_or o 1) (sym most.is) most.least;
        few = subst (λ o. unwrap_or o 1 ≤ 9999) (sym most.is) most.most;
        len = subst (λ o. 1 ≤ unwrap_or o 0) (sym len.is) len.least;
        type_is = type_there n s front.1;
      }

  records_step : (k : Kind) → faults_by_kind k covered (Some n) seen s ≡ [] → All (IsSoundAt n) (record_by_kind k (Some n) s)
  records_step Record h = All-cons (IsSoundAt n) _ [] (record_sound h) (All-nil (IsSoundAt n))
  records_step IdItems h = All-nil (IsSoundAt n)
  records_step Item h = All-nil (IsSoundAt n)
  records_step Dictionary h = All-nil (IsSoundAt n)
  records_step Level h = All-nil (IsSoundAt n)
  records_step ValueSet h = All-nil (IsSoundAt n)
  records_step Other h = All-nil (IsSoundAt n)

  records_here : faults_at covered (Some n) seen s ≡ [] → All (IsSoundAt n) (record_in (Some n) s)
  unfolding faults_at record_in
  records_here h = records_step (kind_of s.heading) h

records_sound : (covered : List Columns) (n : ℕ) (ss : List SectionText) (seen : Seen) → faults_from covered (Some n) seen ss ≡ [] → All (IsSoundAt n) (records_of (Some n) ss)
records_sound covered n [] seen h = All-nil (IsSoundAt n)
records_sound covered n (s ∷ ss) seen h =
    let parts = append_none (faults_at covered (Some n) seen s) (faults_from covered (Some n) (seen_after (Some n) seen s) ss) h in
    All-append (IsSoundAt n) (record_in (Some n) s) (records_of (Some n) ss) (records_here covered n seen s parts.0) (records_sound covered n ss (seen_after (Some n) seen s) parts.1)

-- value sets
item_before : (n line : ℕ) → fault_if (n == 0) line 12 ≡ [] → 1 ≤ n
item_before zero line h = cc
item_before (suc n) line h = omega arith

module _ (covered : List Columns) (len : Option ℕ) (seen : Seen) (s : SectionText) where
  set_item : set_faults seen s ≡ [] → 1 ≤ seen.context.items
  unfolding set_faults set_head_faults
  set_item h = item_before _ _ (append_none _ _ (append_none _ _ (append_none _ _ h).0).0).0

  set_place : (set_at seen.context s).shape.item ≡ seen.context.items - 1
  unfolding set_at
  set_place = refl

  set_rows : RowsBelow (set_at seen.context s).shape.rows (set_at seen.context s).spans
  unfolding set_at
  set_rows = rows_of-below seen.context.data_type s

  module _ (total : ℕ) (le : seen.context.items ≤ total) where
    sets_step : (k : Kind) → faults_by_kind k covered len seen s ≡ [] → All (IsSetOf total) (set_by_kind k seen.context s)
    sets_step ValueSet h =
        let one = set_item h in
        All-cons (IsSetOf total) _ [] (record { item = omega (arith, set_place, one, le); rows = set_rows }) (All-nil (IsSetOf total))
    sets_step Record h = All-nil (IsSetOf total)
    sets_step IdItems h = All-nil (IsSetOf total)
    sets_step Item h = All-nil (IsSetOf total)
    sets_step Dictionary h = All-nil (IsSetOf total)
    sets_step Level h = All-nil (IsSetOf total)
    sets_step Other h = All-nil (IsSetOf total)

    sets_here : faults_at covered len seen s ≡ [] → All (IsSetOf total) (set_in seen.context s)
    unfolding faults_at set_in
    sets_here h = sets_step (kind_of s.heading) h

  counted_step : (k : Kind) → (context_by_kind k seen.context s).items ≤ seen.context.items + length (item_by_kind k covered seen.context s)
  counted_step Item = omega arith
  counted_step Record = omega arith
  counted_step IdItems = omega arith
  counted_step Dictionary = omega arith
  counted_step Level = omega arith
  counted_step ValueSet = omega arith
  counted_step Other = omega arith

  counted : (seen_after len seen s).context.items ≤ seen.context.items + length (item_in covered seen.context s)
  unfolding item_in seen_after context_after
  counted = counted_step (kind_of s.heading)

module _ (covered : List Columns) (len : Option ℕ) (total : ℕ) where
  sets_sound : (ss : List SectionText) (seen : Seen) → faults_from covered len seen ss ≡ [] → seen.context.items + length (items_from covered seen.context ss) ≤ total
      → All (IsSetOf total) (sets_from seen.context ss)
  sets_sound [] seen h le = All-nil (IsSetOf total)
  sets_sound (s ∷ ss) seen h le =
      let parts = append_none (faults_at covered len seen s) (faults_from covered len (seen_after len seen s) ss) h in
      let long = length-append (item_in covered seen.context s) (items_from covered (context_after seen.context s) ss) in
      let here = sets_here covered len seen s total (omega (arith, le)) parts.0 in
      let more = counted covered len seen s in
      let rest : (seen_after len seen s).context.items + length (items_from covered (seen_after len seen s).context ss) ≤ total =
      rw (context_along covered len seen s) (let m = rw (context_along covered len seen s) at more in omega (arith, le, long, m)) in
      let behind = sets_sound ss (seen_after len seen s) parts.1 rest in
      All-append (IsSetOf total) (set_in seen.context s) (sets_from (context_after seen.context s) ss) here
      (subst (λ c. All (IsSetOf total) (sets_from c ss)) (context_along covered len seen s) behind)

-- the columns of the record type are among those that are covered
type_apart : (a : Columns) (o : Option Columns) → list_any (share_column a) (option_to_list o) ≡ false → AreApart a (unwrap_or o no_columns)
type_apart a None h = apart_from_none a
type_apart a (Some c) h = apart_from_share a c (or_parts _ _ h).0

module _ (d : DictionaryText) (first : SectionText) (read : List SectionText) where
  keeps_off : d.type_columns ≡ unwrap_or (type_columns_of first) no_columns → (a : ItemText) → All (IsSoundIn d.records (covered_by first read)) d.items
      → list_any (share_column (columns_of_item a)) (covered_by first read) ≡ false → KeepsOffIds d a
  unfolding covered_by
  keeps_off is a all none =
      let split = or_parts _ _ (sym (list_any-append (share_column (columns_of_item a)) (option_to_list (type_columns_of first)) (id_columns_from Nobody read)) ∙ none) in record {
        type_apart = subst (AreApart (columns_of_item a)) (sym is) (type_apart (columns_of_item a) (type_columns_of first) split.0);
        ids_apart = λ k e lt id.
            apart_from_share (columns_of_item a) _ (none_passes (share_column (columns_of_item a)) _ _ none ((all k e lt).id id));
      }

  item_whole : d.type_columns ≡ unwrap_or (type_columns_of first) no_columns → All (IsSoundIn d.records (covered_by first read)) d.items
      → (i : ItemText) → IsSoundIn d.records (covered_by first read) i → IsSoundItem d i
  item_whole is all i p = record {
    owner = p.owner;
    start = p.start;
    len = p.len;
    number = p.number;
    text = p.text;
    within = p.within;
    apart = λ other named. keeps_off is i all (p.apart other named);
    code = p.code;
  }

-- what stands behind the first section, without a fault
behind_none : (first : SectionText) (rest : List SectionText) → faults_behind first rest ≡ [] → first_faults first ≡ []
unfolding faults_behind
behind_none first rest h = (append_none _ _ h).0

module _ (first : SectionText) (rest : List SectionText) where
  parts_none : faults_behind first rest ≡ [] → faults_from (covered_by first (read_part rest)) (type_len_of first) (seen_first first) (read_part rest) ≡ []
  unfolding rest_faults
  parts_none h = rest_none first rest h

  first_sound : (k : Kind) → faults_by_first k first rest ≡ [] → IsSmall (dictionary_of (first ∷ rest)) → IsSound (dictionary_of (first ∷ rest))
  unfolding dictionary_of covered_by
  first_sound Dictionary h small =
      let read = read_part rest in
      let covered = covered_by first read in
      let none = parts_none h in
      let type_len : HasTypeLen first = type_len_there first (behind_none first rest h) in
      let d = dictionary_of (first ∷ rest) in
      let items : All (IsSoundIn d.records covered) d.items =
      items_sound covered (type_len_of first) d.records small.records read (seen_first first) [] none refl (record { count = refl; last = tt })
      (λ c at. Contains-append_right (option_to_list (type_columns_of first)) _ c at) in
      let records : All (IsSoundAt type_len.n) d.records =
      subst (λ o. All (IsSoundAt type_len.n) (records_of o read)) (sym type_len.is)
      (records_sound covered type_len.n read (seen_first first) (subst (λ o. faults_from covered o (seen_first first) read ≡ []) type_len.is none)) in record {
        items = All-weaker (IsSoundIn d.records covered) (IsSoundItem d) (item_whole d first read refl items) d.items items;
        records = All-weaker (IsSoundAt type_len.n) (IsSoundRecord d)
            (λ r p. record { most = p.most; few = p.few; len = p.len; type_len = p.type_is ∙ sym type_len.columns_len }) d.records records;
        sets = All-weaker (IsSetOf (length d.items)) (IsSoundSet d) (λ t p. record { item = p.item; rows = p.rows }) d.sets
            (sets_sound covered (type_len_of first) (length d.items) read (seen_first first) none (omega arith));
        type_columns = type_len.columns;
        small = small;
      }
  first_sound Level h small = cc
  first_sound IdItems h small = cc
  first_sound Record h small = cc
  first_sound Item h small = cc
  first_sound ValueSet h small = cc
  first_sound Other h small = cc

sound_by : (sections : List SectionText) → faults_of sections ≡ [] → IsSmall (dictionary_of sections) → IsSound (dictionary_of sections)
unfolding faults_of
sound_by [] h small = cc
sound_by (first ∷ rest) h small = first_sound first rest (kind_of first.heading) h small

pub IsSound-sections : (sections : List SectionText) → faults_of sections ≡ [] → IsSound (dictionary_of sections)
IsSound-sections sections h = sound_by sections h (IsSmall-sections sections h)

pub sound_without_fault : SoundWithoutFault
sound_without_fault bytes h = IsSound-sections (sections_of bytes) (sections_sound bytes h)

-- sections by the first one and those behind it
pub sections_split : (ss : List SectionText) (s : SectionText) → 1 ≤ length ss → s ≡ get_or ss 0 s → ss ≡ s ∷ take (length ss - 1) (drop 1 ss)
sections_split [] s long is = absurd (omega (arith, long))
sections_split (x ∷ xs) s long is = sym (ap (λ y. y ∷ take (length (x ∷ xs) - 1) (drop 1 (x ∷ xs))) is ∙ ap (λ r. x ∷ r) (take_rest (x ∷ xs) 1))

pub IsSound-split : (ss : List SectionText) (s : SectionText) → 1 ≤ length ss → s ≡ get_or ss 0 s → faults_of ss ≡ []
    → IsSound (dictionary_of (s ∷ take (length ss - 1) (drop 1 ss)))
IsSound-split ss s long is none =
    let P : List SectionText → Type 0 = λ xs. IsSound (dictionary_of xs) in
    subst P (sections_split ss s long is) (IsSound-sections ss none)
