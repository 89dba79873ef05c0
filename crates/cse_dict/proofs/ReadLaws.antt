-- What stands at the keys of a section without a fault: each number is there and within its range.
use Rattle.std.proofs.Common.{◌≡◌, ◌≤◌, ◌∙◌, sym, ap, subst, ℕ, zero, suc, Bool, true, false, List, [], ◌∷◌, ◌++◌, length, refl, arith, Option, None, Some, codes, ℤ, pos, negsuc, unwrap_or, inl, inr}
use Rattle.std.specs.Prelude.{◌⊎◌, if◌then◌else◌, nat_le, nat_lt, ◌&&◌, is_none}
use Rattle.std.specs.Option.{option_and_then, option_map}
use Rattle.std.proofs.lemmas.Bool.{and_parts, leb-true, ltb-false, ltb-true, le-leb}
use Rattle.std.proofs.lemmas.Option.{cond_some}
use Rattle.cse_lemmas.proofs.Lists.{length-padded}
use Rattle.cse_sections.specs.Sections.{EntryText, SectionText}
use Rattle.cse_sections.specs.Number.{number_between, whole_of, within}
use Rattle.cse_dict.specs.Keys.{data_type_of, entry_of, number_in, number_or}
use Rattle.cse_dict.specs.Types.{padded, type_in, type_len_of, type_of, type_text}
use Rattle.cse_dict.specs.Fields.{columns_from, columns_of, field_from, field_of, type_columns_from, type_columns_of}
use Rattle.cse_dict.specs.Dictionary.{field_or_none, no_columns, no_field}
use Rattle.cse_dict.specs.Faults.{columns_faults, fault_if, field_faults, first_faults, form_faults, lacking, number_faults, optional_faults, start_faults, start_faults_by, type_faults, type_faults_at, unreadable}
use Rattle.cse_dict.specs.Sound.{AreTypeColumns}
use Rattle.cse_dict.specs.declared.field.Columns.{Columns}
use Rattle.cse_dict.specs.declared.field.Field.{Field}
use Rattle.cse_dict.specs.declared.fault.DictError.{DictError}

pub append_none : (xs ys : List DictError) → xs ++ ys ≡ [] → (xs ≡ []) × (ys ≡ [])
append_none [] ys h = (refl, h)
append_none (x ∷ xs) ys h = cc

-- a rule that gives no fault fails
pub no_fault : (b : Bool) (line number : ℕ) → fault_if b line number ≡ [] → b ≡ false
no_fault true line number h = cc
no_fault false line number h = refl

-- a number that is there, and within its range
pub record IsRead (o : Option ℕ) (low high : ℕ) : Type 0 where
  pub n : ℕ
  pub is : o ≡ Some n
  pub least : low ≤ n
  pub most : n ≤ high

module _ (low high : ℕ) where
  limits : (z : ℤ) (n : ℕ) → within low high z ≡ Some n → (low ≤ n) × (n ≤ high)
  limits (pos m) n e =
      let p = cond_some (nat_le low m && nat_le m high) m n e in
      let q = and_parts (nat_le low m) (nat_le m high) p.0 in
      let least = leb-true low m q.0 in
      let most = leb-true m high q.1 in (omega (arith, p.1, least), omega (arith, p.1, most))
  limits (negsuc m) n e = cc

  between_limits : (bytes : List ℕ) (n : ℕ) → number_between low high bytes ≡ Some n → (low ≤ n) × (n ≤ high)
  unfolding number_between
  between_limits bytes n e = by (whole_of bytes) e
    where
      by : (o : Option ℤ) → option_and_then (within low high) o ≡ Some n → (low ≤ n) × (n ≤ high)
      by None e = cc
      by (Some z) e = limits z n e

  read_between : (bytes : List ℕ) → is_none (number_between low high bytes) ≡ false → IsRead (number_between low high bytes) low high
  read_between bytes h = by (number_between low high bytes) refl h
    where
      by : (o : Option ℕ) → number_between low high bytes ≡ o → is_none o ≡ false → IsRead o low high
      by None e h = cc
      by (Some n) e h = let l = between_limits bytes n e in record { n = n; is = refl; least = l.0; most = l.1 }

  number_by : (s : SectionText) (entry : Option EntryText) → lacking s entry ++ unreadable low high entry ≡ [] → IsRead (number_in low high entry) low high
  number_by s None h = cc
  number_by s (Some e) h = read_between e.value (no_fault (is_none (number_between low high e.value)) e.line 14 h)

  -- a number that must stand at its key
  pub number_there : (s : SectionText) (key : List ℕ) → number_faults s key low high ≡ [] → IsRead (number_in low high (entry_of key s)) low high
  unfolding number_faults
  number_there s key h = number_by s (entry_of key s) h

  optional_by : (absent : ℕ) (entry : Option EntryText) → low ≤ absent → absent ≤ high → unreadable low high entry ≡ [] → IsRead (number_or low high absent entry) low high
  optional_by absent None least most h = record { n = absent; is = refl; least = least; most = most }
  optional_by absent (Some e) least most h = read_between e.value (no_fault (is_none (number_between low high e.value)) e.line 14 h)

  -- a number that may stand there
  pub optional_there : (s : SectionText) (key : List ℕ) (absent : ℕ) → low ≤ absent → absent ≤ high → optional_faults s key low high ≡ []
      → IsRead (number_or low high absent (entry_of key s)) low high
  unfolding optional_faults
  optional_there s key absent least most h = optional_by absent (entry_of key s) least most h

-- an item whose numbers are all there
pub record IsField (s : SectionText) : Type 0 where
  pub field_is : field_of s ≡ Some (field_or_none s)
  pub columns_are : columns_of s ≡ Some (field_or_none s).columns
  pub start : 1 ≤ (field_or_none s).columns.start
  pub len : 1 ≤ (field_or_none s).columns.len

field_from_parts : (s : SectionText) (f : Field) → field_of s ≡ Some f → columns_of s ≡ Some f.columns → 1 ≤ f.columns.start → 1 ≤ f.columns.len → IsField s
unfolding field_or_none
field_from_parts s f is cols start len =
    let same : f ≡ unwrap_or (field_of s) no_field = ap (λ o. unwrap_or o no_field) (sym is) in record {
      field_is = is ∙ ap Some same;
      columns_are = cols ∙ ap (λ g. Some g.columns) same;
      start = subst (λ g. 1 ≤ g.columns.start) same start;
      len = subst (λ g. 1 ≤ g.columns.len) same len;
    }

pub field_there : (s : SectionText) → field_faults s ≡ [] → IsField s
unfolding field_faults columns_faults form_faults field_of columns_of
field_there s h =
    let parts = append_none _ _ h in
    let places = append_none _ _ parts.0 in
    let forms = append_none _ _ parts.1 in
    let start = number_there 1 65535 s (codes "Start") places.0 in
    let len = number_there 1 65535 s (codes "Len") places.1 in
    let occurrences = optional_there 1 65535 s (codes "Occurrences") 1 (omega arith) (omega arith) forms.0 in
    let decimal = optional_there 0 255 s (codes "Decimal") 0 (omega arith) (omega arith) forms.1 in
    let f : Field = record { columns = record { start = start.n; len = len.n }; occurrences = occurrences.n; decimal = decimal.n; data_type = data_type_of s } in
    field_from_parts s f
    (λ i. field_from (columns_from (start.is i) (len.is i)) (occurrences.is i) (decimal.is i) (data_type_of s))
    (λ i. columns_from (start.is i) (len.is i)) start.least len.least

-- the columns of the record type have the length that its key tells, and start at 1 at least where there are some
pub record HasTypeLen (first : SectionText) : Type 0 where
  pub n : ℕ
  pub is : type_len_of first ≡ Some n
  pub columns_len : (unwrap_or (type_columns_of first) no_columns).len ≡ n
  pub columns : (unwrap_or (type_columns_of first) no_columns ≡ no_columns) ⊎ AreTypeColumns (unwrap_or (type_columns_of first) no_columns)

abbrev type_columns_by : Bool → ℕ → Option ℕ → Option Columns
type_columns_by b n start = if b then option_map (λ s. record { start = s; len = n }) start else None

columns_by : (b : Bool) (first : SectionText) (n : ℕ) → nat_lt 0 n ≡ b → (if b then number_faults first (codes "RecordTypeStart") 1 65535 else []) ≡ []
    → (unwrap_or (type_columns_by b n (number_in 1 65535 (entry_of (codes "RecordTypeStart") first))) no_columns).len ≡ n
columns_by true first n b h =
    let start = number_there 1 65535 first (codes "RecordTypeStart") h in
    ap (λ o. (unwrap_or (type_columns_by true n o) no_columns).len) start.is
columns_by false first n b h = let none = ltb-false 0 n b in omega (arith, none)

abbrev HasTypeColumns : Option Columns → Type 0
HasTypeColumns o = (unwrap_or o no_columns ≡ no_columns) ⊎ AreTypeColumns (unwrap_or o no_columns)

type_columns_there : (b : Bool) (first : SectionText) (n : ℕ) → nat_lt 0 n ≡ b → n ≤ 16 → (if b then number_faults first (codes "RecordTypeStart") 1 65535 else []) ≡ []
    → HasTypeColumns (type_columns_by b n (number_in 1 65535 (entry_of (codes "RecordTypeStart") first)))
type_columns_there true first n b few h =
    let start = number_there 1 65535 first (codes "RecordTypeStart") h in
    let some = ltb-true 0 n b in
    subst (λ o. HasTypeColumns (type_columns_by true n o)) (sym start.is) (inr (record { start = start.least; len = omega (arith, some); few = few }))
type_columns_there false first n b few h = inl refl

pub type_len_there : (first : SectionText) → first_faults first ≡ [] → HasTypeLen first
unfolding first_faults start_faults type_len_of type_columns_of
type_len_there first h =
    let none : 0 ≤ 0 = omega arith in
    let some : 0 ≤ 16 = omega arith in
    let parts = append_none _ _ h in
    let front = append_none _ _ parts.0 in
    let len = optional_there 0 16 first (codes "RecordTypeLen") 0 none some front.1 in
    let starts : start_faults_by (Some len.n) first ≡ [] = subst (λ o. start_faults_by o first ≡ []) len.is parts.1 in record {
      n = len.n;
      is = len.is;
      columns_len =
          ap (λ o. (unwrap_or (type_columns_from o (number_in 1 65535 (entry_of (codes "RecordTypeStart") first))) no_columns).len) len.is
          ∙ columns_by (nat_lt 0 len.n) first len.n refl starts;
      columns =
          subst (λ o. HasTypeColumns (type_columns_from o (number_in 1 65535 (entry_of (codes "RecordTypeStart") first)))) (sym len.is)
          (type_columns_there (nat_lt 0 len.n) first len.n refl len.most starts);
    }

-- a record's type fills the columns of the record type
no_type : (n : ℕ) → nat_lt 0 n ≡ false → length (unwrap_or (type_in n None) []) ≡ n
no_type zero h = refl
no_type (suc n) h = let none = ltb-false 0 (suc n) h in absurd (omega (arith, none))

some_type : (n : ℕ) (text : List ℕ) → nat_lt n (length text) ≡ false → length (unwrap_or (if nat_le (length text) n then Some (padded n text) else None) []) ≡ n
some_type n text h =
    let fits : length text ≤ n = ltb-false n (length text) h in
    ap (λ b. length (unwrap_or (if b then Some (padded n text) else None) [])) (le-leb (length text) n fits) ∙ length-padded n text 32 fits

type_by : (n : ℕ) (s : SectionText) (entry : Option EntryText) → type_faults_at n s entry ≡ [] → length (unwrap_or (type_in n entry) []) ≡ n
type_by n s None h = no_type n (no_fault (nat_lt 0 n) s.line 12 h)
type_by n s (Some e) h = some_type n (type_text e.value) (no_fault (nat_lt n (length (type_text e.value))) e.line 14 h)

pub type_there : (n : ℕ) (s : SectionText) → type_faults (Some n) s ≡ [] → length (unwrap_or (type_of (Some n) s) []) ≡ n
unfolding type_faults type_of
type_there n s h = type_by n s (entry_of (codes "RecordTypeValue") s) h
