-- Laws of a case in which an item was set. Proofs of crates above cite the public ones.
use Rattle.std.proofs.Common.{◌≡◌, ℕ, suc, ◌+◌, ◌-◌, ◌<◌, ◌≤◌, Bool, true, false, cond, eqb, List, [], ◌∷◌, ◌++◌, length, take, drop, get_or, map, Option, None, Some, refl, ap, sym, ◌∙◌, inl, inr, arith, subst}
use Rattle.std.specs.Prelude.{◌⊎◌, filter, slice_get, slice_set, ℤ}
use Rattle.std.specs.Option.{option_and_then, option_map, option_map_or}
use Rattle.std.proofs.lemmas.Bool.{cases_eq, cases_lt, eqb-true}
use Rattle.std.proofs.lemmas.List.{get_or-set_same, get_or-set_other, get_or_append_left, get_or-take, get_or-drop, length-map, length-take-le, length-drop}
use Rattle.std.proofs.lemmas.Option.{slice_get-get_or, slice_get-map}
use Rattle.std.proofs.Math.ListN.{length-set}
use Rattle.std.proofs.Math.Seq.{map-set_same}
use Rattle.cse_value.specs.declared.shape.RecordShape.{RecordShape}
use Rattle.cse_value.specs.declared.shape.ItemShape.{ItemShape}
use Rattle.cse_value.specs.declared.shape.ItemKind.{ItemKind}
use Rattle.cse_value.specs.declared.shape.ItemKind.TheVariants.{Opaque, Number, Text}
use Rattle.cse_value.specs.declared.number.Num.{Num}
use Rattle.cse_value.specs.Field.{field, fits_code, kept, put, put_text}
use Rattle.cse_value.proofs.FieldLaws.{field-put}
use Rattle.cse_value.proofs.WidthLaws.{length-put, length-put_text}
use Rattle.cse_dict.specs.Dictionary.{DictionaryText, ItemText, RecordText, code_at, shape_of, zero_fill_at}
use Rattle.cse_dict.specs.Sound.{AreApart, IsIdItem, IsSound, IsSoundItem, columns_of_item}
use Rattle.cse_dict.specs.declared.field.Columns.{Columns}
use Rattle.cse_case.specs.Columns.{LineText, no_line}
use Rattle.cse_case.specs.NamedColumns.{field_at, fields_at, ids_of, record_len, span_of}
use Rattle.cse_case.specs.Run.{line_at, with_columns}
use Rattle.cse_case.proofs.LaidLaws.{before, behind, inside, length-with_columns}
use Rattle.cse_case.specs.Seen.{is_case, occurrence_places, unseen_of}
use Rattle.cse_case.specs.Field.{HaveNoneInCommon, field_of, item_at, no_item}
use Rattle.cse_case.specs.Case.{CaseText, columns_at, items_of, number_at, place_of, places_of, records_of, text_at, types_of, with_item, with_number, with_text}
use Rattle.cse_case.specs.Fit.{IsFit, line_width}
use Rattle.cse_case.specs.Writes.{ColumnStays, FitStays, HasSameOccurrences, IdsAndTypesStay, LeavesColumns, LeavesIdsAndTypes, LeavesOthers, MaySet, OccurrencesStay, OthersStay, ReadsWhatWasSet}
use Rattle.cse_case.proofs.CaseLaws.{with_columns-all}
use Rattle.cse_case.proofs.FitLaws.{at_most}
use Rattle.cse_case.proofs.SightLaws.{has_place, occurrence_own, occurrence_there}

-- what an item is, of a sound dictionary
pub record SoundItem (d : DictionaryText) (n : ℕ) : Type 0 where
  pub item : ItemText
  pub there : slice_get d.items n ≡ Some item
  pub shape : item_at (shape_of d).items n ≡ item.shape
  pub sound : IsSoundItem d item

no_item_text : ItemText
no_item_text = record { name = []; shape = no_item; zero_fill = false; code = None }

pub sound_item : (d : DictionaryText) (n : ℕ) → IsSound d → n < length (shape_of d).items → SoundItem d n
sound_item d n s h =
    let low : n < length d.items = omega (arith, length-map d.items (λ (i : ItemText). i.shape)) in
    let item : ItemText = get_or d.items n no_item_text in
    let there : slice_get d.items n ≡ Some item = slice_get-get_or d.items n no_item_text low in
    record {
      item = item;
      there = there;
      shape = ap (λ (o : Option ItemShape). option_map_or (λ i. i) o no_item) (slice_get-map (λ (i : ItemText). i.shape) d.items n ∙ ap (option_map (λ (i : ItemText). i.shape)) there);
      sound = s.items n no_item_text low;
    }

-- the columns of an item of a record lie within a line of it
no_record_text : RecordText
no_record_text = record { name = []; record_type = []; shape = record { max_records = 0; record_len = 0 } }

pub item_within : (c : CaseText) (r n place : ℕ) → IsFit c → IsSound c.dictionary → place < length c.run.lines → (line_at c.run place).record_number ≡ Some r → r < length (records_of c)
    → n < length (items_of c) → (item_at (items_of c) n).owner ≡ r → (item_at (items_of c) n).start - 1 + (item_at (items_of c) n).len ≤ length (line_at c.run place).columns
item_within c r n place fit sound below own there h owner =
    let d = c.dictionary in
    let s = sound_item d n sound h in
    let low : r < length d.records = omega (arith, length-map d.records (λ (x : RecordText). x.shape)) in
    let rec : RecordText = get_or d.records r no_record_text in
    let at : slice_get d.records r ≡ Some rec = slice_get-get_or d.records r no_record_text low in
    let owns : s.item.shape.owner ≡ r = ap (λ (i : ItemShape). i.owner) (sym s.shape) ∙ owner in
    let within : s.item.shape.start - 1 + s.item.shape.len ≤ rec.shape.record_len = s.sound.within rec (ap (slice_get d.records) owns ∙ at) in
    let len : record_len d (Some r) ≡ rec.shape.record_len =
    ap (λ (o : Option RecordShape). option_map_or (λ x. x.record_len) o 0) (slice_get-map (λ (x : RecordText). x.shape) d.records r ∙ ap (option_map (λ (x : RecordText). x.shape)) at) in
    let wide : length (line_at c.run place).columns ≡ line_width d (line_at c.run place) = fit.widths place below in
    let named : record_len d (line_at c.run place).record_number ≡ record_len d (Some r) = ap (record_len d) own in
    let start : (item_at (items_of c) n).start ≡ s.item.shape.start = ap (λ (i : ItemShape). i.start) s.shape in
    let size : (item_at (items_of c) n).len ≡ s.item.shape.len = ap (λ (i : ItemShape). i.len) s.shape in
    omega arith

-- a text has 255 columns at most
pub text_short : (c : CaseText) (n : ℕ) → IsSound c.dictionary → n < length (items_of c) → (item_at (items_of c) n).kind ≡ Text → (item_at (items_of c) n).len ≤ 255
text_short c n sound h text =
    let s = sound_item c.dictionary n sound h in
    let size : (item_at (items_of c) n).len ≡ s.item.shape.len = ap (λ (i : ItemShape). i.len) s.shape in
    omega (arith, s.sound.text (ap (λ (i : ItemShape). i.kind) (sym s.shape) ∙ text))

-- an item has a column, starts at the first column or after it, and a number has 15 columns at most
pub item_wide : (c : CaseText) (n : ℕ) → IsSound c.dictionary → n < length (items_of c) → 1 ≤ (item_at (items_of c) n).len
item_wide c n sound h =
    let s = sound_item c.dictionary n sound h in
    let size : (item_at (items_of c) n).len ≡ s.item.shape.len = ap (λ (i : ItemShape). i.len) s.shape in
    omega (arith, s.sound.len)

pub item_starts : (c : CaseText) (n : ℕ) → IsSound c.dictionary → n < length (items_of c) → 1 ≤ (item_at (items_of c) n).start
item_starts c n sound h =
    let s = sound_item c.dictionary n sound h in
    let start : (item_at (items_of c) n).start ≡ s.item.shape.start = ap (λ (i : ItemShape). i.start) s.shape in
    omega (arith, s.sound.start)

pub number_short : (c : CaseText) (n : ℕ) → IsSound c.dictionary → n < length (items_of c) → (item_at (items_of c) n).kind ≡ Number → (item_at (items_of c) n).len ≤ 15
number_short c n sound h number =
    let s = sound_item c.dictionary n sound h in
    let size : (item_at (items_of c) n).len ≡ s.item.shape.len = ap (λ (i : ItemShape). i.len) s.shape in
    omega (arith, s.sound.number (ap (λ (i : ItemShape). i.kind) (sym s.shape) ∙ number))

-- the columns of an item that may be set
pub record HasRoom (c : CaseText) (r o item : ℕ) : Type 0 where
  pub below : place_of c r o < length c.run.lines
  pub within : (item_at (items_of c) item).start - 1 + (item_at (items_of c) item).len ≤ length (line_at c.run (place_of c r o)).columns
  pub start : 1 ≤ (item_at (items_of c) item).start
  pub len : 1 ≤ (item_at (items_of c) item).len

pub has_room : (c : CaseText) (r o : ℕ) (kind : ItemKind) (item : ℕ) → MaySet c r o kind item → HasRoom c r o item
has_room c r o kind item may =
    let h = has_place c r o may.occurrence in
    let s = sound_item c.dictionary item may.sound may.is_item.there in
    let start : (item_at (items_of c) item).start ≡ s.item.shape.start = ap (λ (i : ItemShape). i.start) s.shape in
    let size : (item_at (items_of c) item).len ≡ s.item.shape.len = ap (λ (i : ItemShape). i.len) s.shape in
    record {
      below = h.below;
      within = item_within c r item (place_of c r o) may.fits may.sound h.below (occurrence_own c r o may.occurrence) (occurrence_there c r o may.occurrence) may.is_item.there may.is_item.owns;
      start = omega (arith, s.sound.start);
      len = omega (arith, s.sound.len);
    }

-- what an item that was written into changes in no case
same-occurrences : (c : CaseText) (place item : ℕ) (columns : List ℕ) → HasSameOccurrences c (with_item c place item columns)
unfolding places_of place_of
same-occurrences c place item columns =
    let new : LineText = record (line_at c.run place) { columns = with_columns ((item_at (items_of c) item).start - 1) columns (line_at c.run place).columns } in
    let types : types_of (slice_set c.run.lines place new) ≡ types_of c.run.lines = map-set_same (λ (l : LineText). l.record_number) c.run.lines place new no_line refl in
    record {
      dictionary = refl;
      ids = refl;
      marked = refl;
      first_line = refl;
      lines = length-set c.run.lines place new;
      types = types;
      lens = map-set_same (λ (l : LineText). l.len) c.run.lines place new no_line refl;
      endings = map-set_same (λ (l : LineText). l.ending) c.run.lines place new no_line refl;
      places = λ r. ap (λ ts. occurrence_places (records_of c) r ts) types;
      place = λ r o. ap (λ ts. get_or (occurrence_places (records_of c) r ts) (o - 1) 0) types;
      unseen = ap (unseen_of (records_of c) c.run.first_line) types;
      case = ap (is_case (records_of c)) types;
    }

pub stay-occurrences : OccurrencesStay
unfolding with_number with_text
stay-occurrences c r o item = (λ value. same-occurrences c (place_of c r o) item _, λ text. same-occurrences c (place_of c r o) item _)

-- columns with others from a place on
pub read_back : (p : ℕ) (wrote columns : List ℕ) → p + length wrote ≤ length columns → take (length wrote) (drop p (with_columns p wrote columns)) ≡ wrote
read_back p wrote columns h =
    let e : p + 0 ≡ p = omega arith in
    let own = take (length wrote) (drop p columns) in
    let size : length own ≡ length wrote = length-take-le (length wrote) (drop p columns) (omega (arith, length-drop p columns)) in
    ap (λ q. take (length wrote) (drop p (with_columns q wrote columns))) (sym e)
    ∙ (inside 0 p (length wrote) wrote columns (omega arith) h ∙ with_columns-all wrote own (sym size))

-- the line that was written into, and the others
module _ (c : CaseText) (place item : ℕ) (columns : List ℕ) where
  pub other_line : (p : ℕ) → (p ≡ place → ⊥) → line_at (with_item c place item columns).run p ≡ line_at c.run p
  other_line p other = get_or-set_other c.run.lines place p _ no_line other

  pub own_line : place < length c.run.lines
      → line_at (with_item c place item columns).run place ≡ record (line_at c.run place) { columns = with_columns ((item_at (items_of c) item).start - 1) columns (line_at c.run place).columns }
  own_line h = get_or-set_same c.run.lines place _ no_line h

  -- the columns of some place of each line
  pub kept_part : (p start len : ℕ) → place < length c.run.lines → (item_at (items_of c) item).start - 1 + length columns ≤ length (line_at c.run place).columns
      → (p ≡ place → (start - 1 + len ≤ (item_at (items_of c) item).start - 1) ⊎ ((item_at (items_of c) item).start - 1 + length columns ≤ start - 1))
      → take len (drop (start - 1) (line_at (with_item c place item columns).run p).columns) ≡ take len (drop (start - 1) (line_at c.run p).columns)
  kept_part p start len below within apart =
      let s = (item_at (items_of c) item).start - 1 in
      let own = (line_at c.run place).columns in
      elim (cases_eq p place) [
        | inr other ↦ ap (λ (l : LineText). take len (drop (start - 1) l.columns)) (other_line p other)
        | inl same ↦
            let now : line_at (with_item c place item columns).run p ≡ record (line_at c.run place) { columns = with_columns s columns own } = rw same (own_line below) in
            let then : line_at c.run p ≡ line_at c.run place = ap (line_at c.run) same in
            let kept : take len (drop (start - 1) (with_columns s columns own)) ≡ take len (drop (start - 1) own) =
            elim (apart same) [
              | inl front ↦ before s (start - 1) len columns own front (omega arith)
              | inr back ↦ ap (take len) (behind s (start - 1) columns own back (omega arith))
            ] in
            ap (λ (l : LineText). take len (drop (start - 1) l.columns)) now ∙ (kept ∙ ap (λ (l : LineText). take len (drop (start - 1) l.columns)) (sym then))
      ]

  pub kept_width : (p : ℕ) → place < length c.run.lines → (item_at (items_of c) item).start - 1 + length columns ≤ length (line_at c.run place).columns
      → length (line_at (with_item c place item columns).run p).columns ≡ length (line_at c.run p).columns
  kept_width p below within = elim (cases_eq p place) [
    | inr other ↦ ap (λ (l : LineText). length l.columns) (other_line p other)
    | inl same ↦
        let s = (item_at (items_of c) item).start - 1 in
        let own = (line_at c.run place).columns in
        let now : line_at (with_item c place item columns).run p ≡ record (line_at c.run place) { columns = with_columns s columns own } = rw same (own_line below) in
        ap (λ (l : LineText). length l.columns) now ∙ (length-with_columns s columns own within ∙ ap (λ q. length (line_at c.run q).columns) (sym same))
  ]

-- a column before or behind those that were written
column-kept : (p k : ℕ) (field columns : List ℕ) → p + length field ≤ length columns → (p ≤ k → k < p + length field → ⊥) → get_or (with_columns p field columns) k 32 ≡ get_or columns k 32
column-kept p k field columns h out = elim (cases_lt k p) [
  | inl low ↦
      let cut : length (take p columns) ≡ p = length-take-le p columns (omega arith) in
      get_or_append_left (take p columns) (field ++ drop (p + length field) columns) 32 k (omega arith) ∙ get_or-take p columns k 32 low
  | inr high ↦ elim (cases_lt k (p + length field)) [
    | inl in_field ↦ absurd (out high in_field)
    | inr past ↦
        let m = k - (p + length field) in
        let e : k ≡ p + length field + m = omega arith in
        let at : p + length field + 0 ≡ p + length field = omega arith in
        let back : drop (p + length field) (with_columns p field columns) ≡ drop (p + length field) columns = behind p (p + length field) field columns (omega arith) (omega arith) in
        ap (λ j. get_or (with_columns p field columns) j 32) e ∙ (sym (get_or-drop (p + length field) (with_columns p field columns) m 32)
        ∙ (ap (λ l. get_or l m 32) back ∙ (get_or-drop (p + length field) columns m 32 ∙ ap (λ j. get_or columns j 32) (sym e))))
  ]
]

-- the columns of an item more, or not
fields-onto : (new old : List ℕ) (s : ItemShape) (rest : List ItemShape) (b : Bool) → (b ≡ true → field_at (span_of s) new ≡ field_at (span_of s) old)
    → fields_at (map span_of rest) new ≡ fields_at (map span_of rest) old → fields_at (map span_of (cond b (s ∷ rest) rest)) new ≡ fields_at (map span_of (cond b (s ∷ rest) rest)) old
fields-onto new old s rest false one same = same
fields-onto new old s rest true one same = ap (λ l. l ++ fields_at (map span_of rest) new) (one refl) ∙ ap (λ l. field_at (span_of s) old ++ l) same

-- the laws of a write of so many columns as the item has
module _ (c : CaseText) (r o : ℕ) (kind : ItemKind) (item : ℕ) (may : MaySet c r o kind item) (columns : List ℕ) (wide : length columns ≡ (item_at (items_of c) item).len) where
  abbrev place : ℕ
  place = place_of c r o

  abbrev own_item : ItemShape
  own_item = item_at (items_of c) item

  room : HasRoom c r o item
  room = has_room c r o kind item may

  fits : own_item.start - 1 + length columns ≤ length (line_at c.run place).columns
  fits = omega (arith, room.within, wide)

  reads_back : columns_at (with_item c place item columns) place item ≡ columns
  unfolding field_of
  reads_back =
      ap (λ (l : LineText). take own_item.len (drop (own_item.start - 1) l.columns)) (own_line c place item columns room.below)
      ∙ (ap (λ n. take n (drop (own_item.start - 1) (with_columns (own_item.start - 1) columns (line_at c.run place).columns))) (sym wide)
      ∙ read_back (own_item.start - 1) columns (line_at c.run place).columns fits)

  keeps_field : (p other : ℕ) → other < length (items_of c) → (p ≡ place → HaveNoneInCommon own_item (item_at (items_of c) other)) → columns_at (with_item c place item columns) p other ≡ columns_at c p other
  unfolding field_of
  keeps_field p other there apart =
      let s = sound_item c.dictionary other may.sound there in
      let start : (item_at (items_of c) other).start ≡ s.item.shape.start = ap (λ (i : ItemShape). i.start) s.shape in
      let first : 1 ≤ (item_at (items_of c) other).start = omega (arith, s.sound.start) in
      kept_part c place item columns p (item_at (items_of c) other).start (item_at (items_of c) other).len room.below fits
      (λ same. elim (apart same) [
        | inl front ↦ inr (omega (arith, wide, room.start))
        | inr back ↦ inl (omega (arith, wide, room.start))
      ])

  leaves-others : LeavesOthers c (with_item c place item columns) place item
  unfolding number_at text_at
  leaves-others = record {
    lines = λ p other. other_line c place item columns p other;
    numbers = λ p other there apart. ap (λ l. field l (code_at c.dictionary other)) (keeps_field p other there apart);
    texts = λ p other there apart. keeps_field p other there apart;
  }

  leaves-columns : LeavesColumns c (with_item c place item columns) place own_item
  leaves-columns = record {
    columns = λ p k out. elim (cases_eq p place) [
      | inr other ↦ ap (λ (l : LineText). get_or l.columns k 32) (other_line c place item columns p other)
      | inl same ↦
          let now : line_at (with_item c place item columns).run p ≡ record (line_at c.run place) { columns = with_columns (own_item.start - 1) columns (line_at c.run place).columns } = rw same (own_line c place item columns room.below) in
          ap (λ (l : LineText). get_or l.columns k 32) now
          ∙ (column-kept (own_item.start - 1) k columns (line_at c.run place).columns fits (λ low high. out same (low, omega (arith, wide)))
          ∙ ap (λ q. get_or (line_at c.run q).columns k 32) (sym same))
    ];
    widths = λ p. kept_width c place item columns p room.below fits;
  }

  fits-new : IsFit (with_item c place item columns)
  unfolding places_of
  fits-new =
      let new = with_item c place item columns in
      record {
        some = omega (arith, may.fits.some, (same-occurrences c place item columns).lines);
        occurrences = λ q. at_most (records_of c) q (types_of new.run.lines);
        widths = λ p h. kept_width c place item columns p room.below fits ∙ (may.fits.widths p (omega (arith, (same-occurrences c place item columns).lines)) ∙ sym (elim (cases_eq p place) as (λ _. line_width c.dictionary (line_at new.run p) ≡ line_width c.dictionary (line_at c.run p)) [
          | inr other ↦ ap (line_width c.dictionary) (other_line c place item columns p other)
          | inl same ↦
              let now : line_at new.run p ≡ record (line_at c.run place) { columns = with_columns (own_item.start - 1) columns (line_at c.run place).columns } = rw same (own_line c place item columns room.below) in
              ap (line_width c.dictionary) now ∙ ap (λ q. line_width c.dictionary (line_at c.run q)) (sym same)
        ]));
      }

  -- a part of the line that the item has nothing in common with
  keeps_part : (p start len : ℕ) → 1 ≤ start ⊎ (len ≡ 0) → (own_item.start + own_item.len ≤ start) ⊎ (start + len ≤ own_item.start)
      → take len (drop (start - 1) (line_at (with_item c place item columns).run p).columns) ≡ take len (drop (start - 1) (line_at c.run p).columns)
  keeps_part p start len first apart = elim first [
    | inr none ↦ rw none refl
    | inl low ↦ kept_part c place item columns p start len room.below fits (λ same. elim apart [
      | inl front ↦ inr (omega (arith, wide, room.start))
      | inr back ↦ inl (omega (arith, wide, room.start))
    ])
  ]

  -- the item belongs to a record, and is no opaque one
  keeps_off : (kind ≡ Opaque → ⊥) → (i : ItemText) → (k : ℕ) → get_or c.dictionary.items k i ≡ i → k < length c.dictionary.items → IsIdItem i → AreApart (record { start = own_item.start; len = own_item.len }) (columns_of_item i)
  keeps_off named i k is low id =
      let s = sound_item c.dictionary item may.sound may.is_item.there in
      let there = occurrence_there c r o may.occurrence in
      let small = may.sound.small.records in
      let owner : s.item.shape.owner ≡ r = ap (λ (x : ItemShape). x.owner) (sym s.shape) ∙ may.is_item.owns in
      let of_kind : s.item.shape.kind ≡ kind = ap (λ (x : ItemShape). x.kind) (sym s.shape) ∙ may.is_item.is_of_kind in
      let off = s.sound.apart (λ e. absurd (omega (arith, length-map c.dictionary.records (λ (x : RecordText). x.shape)))) (λ e. named (sym of_kind ∙ e)) in
      let apart = off.ids_apart k i low in
      subst (λ (x : ItemShape). AreApart (record { start = x.start; len = x.len }) (columns_of_item i)) (sym s.shape) (rw is at apart id)

  ids-kept : (kind ≡ Opaque → ⊥) → (p : ℕ) (items : List ItemText)
      → ((i : ItemText) (k : ℕ) → k < length items → get_or items k i ≡ i → (1 ≤ i.shape.start) × (IsIdItem i → AreApart (record { start = own_item.start; len = own_item.len }) (columns_of_item i)))
      → fields_at (map span_of (filter (λ x. eqb x.owner 255) (map (λ (i : ItemText). i.shape) items))) (line_at (with_item c place item columns).run p).columns
      ≡ fields_at (map span_of (filter (λ x. eqb x.owner 255) (map (λ (i : ItemText). i.shape) items))) (line_at c.run p).columns
  ids-kept named p [] each = refl
  ids-kept named p (i ∷ is) each =
      let here = each i 0 (omega arith) refl in
      fields-onto (line_at (with_item c place item columns).run p).columns (line_at c.run p).columns i.shape (filter (λ x. eqb x.owner 255) (map (λ (j : ItemText). j.shape) is)) (eqb i.shape.owner 255)
      (λ e. keeps_part p i.shape.start i.shape.len (inl (here.0)) (here.1 (eqb-true i.shape.owner 255 e))) (ids-kept named p is (λ x k low at. each x (suc k) (omega arith) at))

  pub leaves-ids-and-types : (kind ≡ Opaque → ⊥) → LeavesIdsAndTypes c (with_item c place item columns)
  unfolding ids_of
  leaves-ids-and-types named =
      let s = sound_item c.dictionary item may.sound may.is_item.there in
      let there = occurrence_there c r o may.occurrence in
      let small = may.sound.small.records in
      let owner : s.item.shape.owner ≡ r = ap (λ (x : ItemShape). x.owner) (sym s.shape) ∙ may.is_item.owns in
      let of_kind : s.item.shape.kind ≡ kind = ap (λ (x : ItemShape). x.kind) (sym s.shape) ∙ may.is_item.is_of_kind in
      let off = s.sound.apart (λ e. absurd (omega (arith, length-map c.dictionary.records (λ (x : RecordText). x.shape)))) (λ e. named (sym of_kind ∙ e)) in
      let t = c.dictionary.type_columns in
      let apart : AreApart (record { start = own_item.start; len = own_item.len }) t = subst (λ (x : ItemShape). AreApart (record { start = x.start; len = x.len }) t) (sym s.shape) off.type_apart in
      let first : 1 ≤ t.start ⊎ (t.len ≡ 0) = elim may.sound.type_columns [ inl none ↦ inr (ap (λ (x : Columns). x.len) none) | inr some ↦ inl some.start ] in
      record {
        ids = λ p. ids-kept named p c.dictionary.items (λ i k low at. (subst (λ (x : ItemText). 1 ≤ x.shape.start) at (may.sound.items k i low).start, keeps_off named i k at low));
        types = λ p. keeps_part p t.start t.len first apart;
      }

number_is_named : Number ≡ Opaque → ⊥
number_is_named e = cc

text_is_named : Text ≡ Opaque → ⊥
text_is_named e = cc

-- the code of an item is a number of 64 bits
code-fits : (c : CaseText) (item : ℕ) → IsSound c.dictionary → item < length (items_of c) → fits_code (code_at c.dictionary item) ≡ true
code-fits c item sound h =
    let s = sound_item c.dictionary item sound h in
    let is : code_at c.dictionary item ≡ s.item.code = ap (λ (o : Option ItemText). option_and_then (λ i. i.code) o) s.there in
    ap fits_code is ∙ by_code s.item.code (λ z e. (s.sound.code z e).whole)
  where
    by_code : (code : Option ℤ) → ((z : ℤ) → code ≡ Some z → fits_code (Some z) ≡ true) → fits_code code ≡ true
    by_code None each = refl
    by_code (Some z) each = each z refl

-- the columns of a number, and those of a text
abbrev put_number : CaseText → ℕ → Num → List ℕ
put_number c item value = put (item_at (items_of c) item).len value (zero_fill_at c.dictionary item) (code_at c.dictionary item)

number_wide : (c : CaseText) (item : ℕ) (value : Num) → length (put_number c item value) ≡ (item_at (items_of c) item).len
number_wide c item value = length-put (item_at (items_of c) item).len value (zero_fill_at c.dictionary item) (code_at c.dictionary item)

text_wide : (c : CaseText) (item : ℕ) (text : List ℕ) → length (put_text (item_at (items_of c) item).len text) ≡ (item_at (items_of c) item).len
text_wide c item text = length-put_text (item_at (items_of c) item).len text

pub stay-others : OthersStay
unfolding with_number with_text
stay-others c r o item = (
  λ value may. leaves-others c r o Number item may (put_number c item value) (number_wide c item value),
  λ text may. leaves-others c r o Text item may (put_text (item_at (items_of c) item).len text) (text_wide c item text),
)

pub stay-columns : ColumnStays
unfolding with_number with_text
stay-columns c r o item = (
  λ value may. leaves-columns c r o Number item may (put_number c item value) (number_wide c item value),
  λ text may. leaves-columns c r o Text item may (put_text (item_at (items_of c) item).len text) (text_wide c item text),
)

pub stay-ids-and-types : IdsAndTypesStay
unfolding with_number with_text
stay-ids-and-types c r o item = (
  λ value may. leaves-ids-and-types c r o Number item may (put_number c item value) (number_wide c item value) number_is_named,
  λ text may. leaves-ids-and-types c r o Text item may (put_text (item_at (items_of c) item).len text) (text_wide c item text) text_is_named,
)

pub stay-fit : FitStays
unfolding with_number with_text
stay-fit c r o item = (
  λ value may. fits-new c r o Number item may (put_number c item value) (number_wide c item value),
  λ text may. fits-new c r o Text item may (put_text (item_at (items_of c) item).len text) (text_wide c item text),
)

pub reads-what-was-set : ReadsWhatWasSet
unfolding with_number with_text number_at text_at
reads-what-was-set c r o item = (
  λ value may low.
      let len = (item_at (items_of c) item).len in
      let code = code_at c.dictionary item in
      let zeros = zero_fill_at c.dictionary item in
      let columns = put_number c item value in
      let wide : length columns ≡ len = number_wide c item value in
      let some : 1 ≤ len = (has_room c r o Number item may).len in
      let read : columns_at (with_item c (place_of c r o) item columns) (place_of c r o) item ≡ columns = reads_back c r o Number item may columns wide in
      let put_same : put (length columns) value zeros code ≡ columns = ap (λ n. put n value zeros code) wide in
      ap (λ l. field l code) (read ∙ sym put_same)
      ∙ (field-put columns value zeros code (omega arith) low (code-fits c item may.sound may.is_item.there) ∙ ap (λ n. kept n value code) wide),
  λ text may. reads_back c r o Text item may (put_text (item_at (items_of c) item).len text) (text_wide c item text),
)
