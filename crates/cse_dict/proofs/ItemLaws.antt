-- What an item of a section without a fault keeps to: its kind, its code, its record.
use Rattle.std.proofs.Common.{◌≡◌, ◌⊎◌, ◌≤◌, ◌<◌, ◌+◌, ◌-◌, ◌∙◌, sym, ap, subst, inl, inr, ⊎_elim, ℕ, zero, suc, Bool, true, false, List, [], ◌∷◌, ◌++◌, length, slice_get, refl, arith, Option, None, Some, ℤ, pos, neg_ℤ, Contains, append_assoc, length-append, true≢false}
use Rattle.std.specs.Prelude.{◌&&◌, ◌==◌, ◌^◌, nat_lt, nat_le, if◌then◌else◌}
use Rattle.std.specs.List.{list_any}
use Rattle.std.proofs.lemmas.Bool.{and_cases, and_parts, false_from_ne_true, leb-true, lt-ltb, ltb-false, or_parts, not-false}
use Rattle.std.proofs.lemmas.List.Folds.{list_any_at}
use Rattle.std.proofs.lemmas.Option.{cond_some, same_Some, slice_get_past}
use Rattle.cse_lemmas.proofs.Lists.{slice_get_at}
use Rattle.cse_value.specs.Number.{fits_i64}
use Rattle.cse_value.specs.declared.shape.ItemKind.{ItemKind}
use Rattle.cse_value.specs.declared.shape.ItemKind.TheVariants.{Opaque, Number, Text}
use Rattle.cse_sections.specs.Sections.{EntryText}
use Rattle.cse_sections.specs.Number.{are_digits, decimal_of, fits_columns, negated_of, unsigned_of, whole_of}
use Rattle.cse_dict.specs.Fields.{is_bad_code, is_number, is_opaque, is_unfit, item_kind, kind_by_type, share_column}
use Rattle.cse_dict.specs.Context.{is_ids, is_in_record}
use Rattle.cse_dict.specs.Faults.{ends_past, is_homeless, is_too_far}
use Rattle.cse_dict.specs.Dictionary.{RecordText, code_in, no_columns, owner_number}
use Rattle.cse_dict.specs.Sound.{AreApart}
use Rattle.cse_dict.specs.declared.keys.DataType.{DataType}
use Rattle.cse_dict.specs.declared.keys.DataType.TheVariants.{Numeric, Alpha, Neither}
use Rattle.cse_dict.specs.declared.field.Columns.{Columns}
use Rattle.cse_dict.specs.declared.field.Field.{Field}
use Rattle.cse_dict.specs.declared.context.Owner.{Owner}
use Rattle.cse_dict.specs.declared.context.Owner.TheVariants.{Nobody, Ids, OfRecord}

-- what logic may name is no wider than its type allows
text_by_type : (t : DataType) (len : ℕ) → is_unfit t len ≡ false → kind_by_type t ≡ Text → len ≤ 255
text_by_type Numeric len u e = cc
text_by_type Alpha len u e = ltb-false 255 len u
text_by_type Neither len u e = cc

number_by_type : (t : DataType) (len : ℕ) → is_unfit t len ≡ false → kind_by_type t ≡ Number → len ≤ 15
number_by_type Numeric len u e = ltb-false 15 len u
number_by_type Alpha len u e = cc
number_by_type Neither len u e = cc

text_by : (b : Bool) (t : DataType) (len : ℕ) → (b ≡ false → is_unfit t len ≡ false) → (if b then Opaque else kind_by_type t) ≡ Text → len ≤ 255
text_by true t len h e = cc
text_by false t len h e = text_by_type t len (h refl) e

number_by : (b : Bool) (t : DataType) (len : ℕ) → (b ≡ false → is_unfit t len ≡ false) → (if b then Opaque else kind_by_type t) ≡ Number → len ≤ 15
number_by true t len h e = cc
number_by false t len h e = number_by_type t len (h refl) e

apart_by : (b any : Bool) (t : DataType) → (b ≡ false → any ≡ false) → ((if b then Opaque else kind_by_type t) ≡ Opaque → ⊥) → any ≡ false
apart_by true any t h named = absurd (named refl)
apart_by false any t h named = h refl

module _ (covered : List Columns) (in_record : Bool) (f : Field) where
  -- the tests that make an item opaque all fail
  parts : is_opaque covered in_record f ≡ false → (is_unfit f.data_type f.columns.len ≡ false) × ((in_record && list_any (share_column f.columns) covered) ≡ false)
  unfolding is_opaque
  parts o = ((or_parts _ _ (or_parts _ _ o).0).1, (or_parts _ _ o).1)

  pub text_len : item_kind covered in_record f ≡ Text → f.columns.len ≤ 255
  unfolding item_kind
  text_len e = text_by (is_opaque covered in_record f) f.data_type f.columns.len (λ o. (parts o).0) e

  pub number_len : item_kind covered in_record f ≡ Number → f.columns.len ≤ 15
  unfolding item_kind
  number_len e = number_by (is_opaque covered in_record f) f.data_type f.columns.len (λ o. (parts o).0) e

  -- what logic may name in a record shares no column with the id items and the record type
  pub shares_none : in_record ≡ true → (item_kind covered in_record f ≡ Opaque → ⊥) → list_any (share_column f.columns) covered ≡ false
  unfolding item_kind
  shares_none is named =
      apart_by (is_opaque covered in_record f) (list_any (share_column f.columns) covered) f.data_type
      (λ o. ap (λ b. b && list_any (share_column f.columns) covered) (sym is) ∙ (parts o).1) named

-- columns that share none are apart
pub apart_from_share : (a b : Columns) → share_column a b ≡ false → AreApart a b
unfolding share_column
apart_from_share a b h =
    ⊎_elim (λ no. inr (ltb-false a.start (b.start + b.len) no)) (λ no. inl (ltb-false b.start (a.start + a.len) no))
    (and_cases (nat_lt a.start (b.start + b.len)) (nat_lt b.start (a.start + a.len)) h)

pub apart_from_none : (a : Columns) → AreApart a no_columns
apart_from_none a = inr (omega arith)

pub none_passes : {X : Type 0} (p : X → Bool) (xs : List X) (x : X) → list_any p xs ≡ false → Contains xs x → p x ≡ false
none_passes p xs x none at =
    false_from_ne_true (p x) (λ yes. true≢false (sym (list_any_at p xs at.0 x at.1 (ap p at.2 ∙ yes)) ∙ none))

-- a number that a text spells fits 64 bits
negated_fits : (n : ℕ) → n ≤ 2 ^ 63 → fits_i64 (neg_ℤ (pos n)) ≡ true
negated_fits zero le = refl
negated_fits (suc n) le = lt-ltb n (2 ^ 63) (omega (arith, le))

unsigned_by : (bytes : List ℕ) (z : ℤ) → unsigned_of bytes ≡ Some z → fits_i64 z ≡ true
unfolding unsigned_of
unsigned_by bytes z e =
    let p = cond_some (are_digits bytes && nat_lt (decimal_of bytes) (2 ^ 63)) (pos (decimal_of bytes)) z e in
    subst (λ y. fits_i64 y ≡ true) p.1 (and_parts (are_digits bytes) (nat_lt (decimal_of bytes) (2 ^ 63)) p.0).1

negated_by : (bytes : List ℕ) (z : ℤ) → negated_of bytes ≡ Some z → fits_i64 z ≡ true
unfolding negated_of
negated_by bytes z e =
    let p = cond_some (are_digits bytes && nat_le (decimal_of bytes) (2 ^ 63)) (neg_ℤ (pos (decimal_of bytes))) z e in
    let small = leb-true (decimal_of bytes) (2 ^ 63) (and_parts (are_digits bytes) (nat_le (decimal_of bytes) (2 ^ 63)) p.0).1 in
    subst (λ y. fits_i64 y ≡ true) p.1 (negated_fits (decimal_of bytes) small)

pub whole_fits : (bytes : List ℕ) (z : ℤ) → whole_of bytes ≡ Some z → fits_i64 z ≡ true
unfolding whole_of
whole_fits [] z e = cc
whole_fits (b ∷ bs) z e = by (b == 45) e
  where
    by : (v : Bool) → (if v then negated_of bs else unsigned_of (b ∷ bs)) ≡ Some z → fits_i64 z ≡ true
    by true e = negated_by bs z e
    by false e = unsigned_by (b ∷ bs) z e

good_code : (len : ℕ) (o : Option ℤ) (z : ℤ) → o ≡ Some z → is_bad_code len o ≡ false → fits_columns len z ≡ true
good_code len None z e h = cc
good_code len (Some y) z e h = subst (λ x. fits_columns len x ≡ true) (same_Some y z e) (not-false (fits_columns len y) h)

pub code_by : (kind : ItemKind) (len : ℕ) (entry : Option EntryText) (z : ℤ)
    → ((e : EntryText) → entry ≡ Some e → (is_number kind && is_bad_code len (whole_of e.value)) ≡ false) → code_in kind entry ≡ Some z
    → (kind ≡ Number) × (fits_i64 z ≡ true) × (fits_columns len z ≡ true)
code_by Opaque len entry z h e = cc
code_by Text len entry z h e = cc
code_by Number len None z h e = cc
code_by Number len (Some entry) z h e = (refl, whole_fits entry.value z e, good_code len (whole_of entry.value) z e (h entry refl))

-- the owner so far is the record that came last
abbrev pub LastOf : Owner → List RecordText → Type 0
LastOf Nobody before = Unit {0}
LastOf Ids before = Unit {0}
LastOf (OfRecord room) before = (front : List RecordText) × (r : RecordText) × (before ≡ front ++ r ∷ []) × (room ≡ Some r.shape.record_len)

-- what an item's owner says of it
pub record IsSoundOwner (o : Owner) (records : ℕ) (whole : List RecordText) (c : Columns) : Type 0 where
  pub there : (owner_number o records ≡ 255) ⊎ (owner_number o records < length whole)
  pub within : (r : RecordText) → slice_get whole (owner_number o records) ≡ Some r → c.start - 1 + c.len ≤ r.shape.record_len
  pub in_record : (owner_number o records ≡ 255 → ⊥) → is_in_record o ≡ true
  pub is_id : owner_number o records ≡ 255 → is_ids o ≡ true

no_record : {X : Type 0} (whole : List X) (x : X) → length whole ≤ 200 → slice_get whole 255 ≡ Some x → ⊥
no_record whole x few e = let past = slice_get_past whole 255 (omega (arith, few)) in cc

ends_within : (c : Columns) (n : ℕ) (room : Option ℕ) → room ≡ Some n → 1 ≤ c.start → ends_past room (Some c) ≡ false → c.start - 1 + c.len ≤ n
ends_within c n None e start h = cc
ends_within c n (Some m) e start h =
    let same = same_Some m n e in
    let le = ltb-false m (c.start + c.len - 1) h in omega (arith, same, le, start)

module _ (before more whole : List RecordText) (c : Columns) (start : 1 ≤ c.start) (few : length whole ≤ 200) (is : whole ≡ before ++ more) where
  of_record : (records : ℕ) (room : Option ℕ) (front : List RecordText) (r : RecordText) → records ≡ length before → before ≡ front ++ r ∷ []
      → room ≡ Some r.shape.record_len → ends_past room (Some c) ≡ false → IsSoundOwner (OfRecord room) records whole c
  of_record records room front r count last len far =
      let parted : whole ≡ front ++ r ∷ more = is ∙ ap (λ b. b ++ more) last ∙ append_assoc front (r ∷ []) more in
      let long : length whole ≡ length front + length (r ∷ more) = ap length parted ∙ length-append front (r ∷ more) in
      let counted : length before ≡ length front + 1 = ap length last ∙ length-append front (r ∷ []) in
      let place : records - 1 ≡ length front = omega (arith, count, counted) in
      let found : slice_get whole (records - 1) ≡ Some r = ap (slice_get whole) place ∙ ap (λ w. slice_get w (length front)) parted ∙ slice_get_at front r more in record {
        there = inr (omega (arith, place, long));
        within = λ s e. ends_within c s.shape.record_len room (len ∙ ap (λ x. Some x.shape.record_len) (same_Some r s (sym found ∙ e))) start far;
        in_record = λ no. refl;
        is_id = λ e. absurd (omega (arith, e, place, long, few));
      }

  pub owner_sound : (o : Owner) (records : ℕ) → records ≡ length before → LastOf o before → is_homeless o ≡ false → is_too_far o (Some c) ≡ false
      → IsSoundOwner o records whole c
  unfolding is_too_far
  owner_sound Nobody records count last home far = cc
  owner_sound Ids records count last home far =
      record { there = inl refl; within = λ r e. absurd (no_record whole r few e); in_record = λ no. absurd (no refl); is_id = λ e. refl }
  owner_sound (OfRecord room) records count last home far = of_record records room last.0 last.1 count last.2 last.3 far
