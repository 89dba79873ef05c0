-- Laws of lines like the one before them.
use Rattle.std.proofs.Common.{◌≡◌, ℕ, ◌+◌, ◌-◌, ◌<◌, ◌≤◌, max, Bool, true, false, cond, eqb, map, List, [], ◌∷◌, ◌++◌, length, get_or, get_or-take, take, drop, replicate, refl, ap, sym, ◌∙◌, subst, arith, bit_or, inl, inr, None, length-take, length-drop, append-nil, encode_utf8_all}
use Rattle.std.proofs.Common.{drop-drop}
use Rattle.std.proofs.lemmas.Bool.{cases_lt, eqb-true, false≢true, false_from_ne_true}
use Rattle.std.proofs.lemmas.List.{get_or_past, get_or-append_right, get_or_append_left, get_or-drop, take-append-le, get_or_push, length_push, length-map, length-take-le, take-take}
use Rattle.std.proofs.lemmas.Bool.{leb-false}
use Rattle.std.proofs.lemmas.Simd.{none_from_empty_mask}
use Rattle.std.specs.Simd.Lanes.{chunk, mask_l}
use Rattle.memchr.proofs.lemmas.LaneLemmas.{is_set}
use Rattle.std.specs.Prelude.{◌⊎◌}
use Rattle.std.proofs.lemmas.Nat.{le_or_l, le_or_r}
use Rattle.std.proofs.lemmas.Str.{chars-IsAscii, IsUtf8-from_ascii, encodes-chars, is_utf8-from_IsUtf8}
use Rattle.std.proofs.lemmas.Grind.{flat_map-append}
use Rattle.std.specs.List.{flat_map}
use Rattle.cse_lemmas.proofs.Booleans.{or-false}
use Rattle.cse_dict.specs.Dictionary.{DictionaryText, number_of_type}
use Rattle.cse_case.specs.declared.decode.Beginning.TheVariants.{Alike}
use Rattle.cse_case.specs.declared.line.Ending.{Ending}
use Rattle.cse_case.specs.declared.line.Ending.TheVariants.{FileEnd, Feed, ReturnFeed}
use Rattle.cse_case.specs.declared.line.Line.{Line}
use Rattle.cse_case.specs.declared.decode.Head.{Head}
use Rattle.cse_case.specs.Alike.{GathersOn, IsLastOf, IsLike, IsPlain, laid_run, line_like}
use Rattle.cse_case.specs.Decoding.{line_with}
use Rattle.cse_case.specs.Gathering.{Gathered, first_id}
use Rattle.cse_case.specs.Laid.{IsLaid, laid_line, laid_lines, line_behind}
use Rattle.cse_case.specs.Run.{RunText, line_at, with_columns}
use Rattle.cse_case.specs.Taking.{Gathers, GoesOn}
use Rattle.cse_case.specs.Written.{kept_columns, written_line}
use Rattle.cse_case.specs.Columns.{LineText, columns_of, id_of, line_text}
use Rattle.cse_case.specs.Cutting.{HasNoFeed, IsFirstLine}
use Rattle.cse_case.specs.NamedColumns.{least_width, padded, record_len, record_of, width_of}
use Rattle.cse_case.specs.Line.{FileLine, before_end, end_bytes, ending_of, is_whole}
use Rattle.cse_case.specs.Runs.{line_fault}
use Rattle.cse_case.proofs.DecodeLaws.{length-padded, line_fault-none, line_text-is, record_of_is, width_of_is}
use Rattle.cse_case.proofs.GatherLaws.{Gathers-more, front_after-some, length-done, run_id-done}
use Rattle.cse_case.proofs.LaidLaws.{IsLaid-push, laid_fits, laid_lines-push, laid_within, line_in}
use Rattle.cse_case.proofs.LastLaws.{ids_begin, last_of, type_begins, type_named}
use Rattle.cse_case.proofs.WrittenLaws.{end_parts, kept_columns-padded, some_byte}
use Rattle.cse_case.proofs.LineLaws.{IsFirstLine-found}
use Rattle.cse_case.proofs.TakeLaws.{id_of_is}

-- a byte as it goes into the bits of those before it: a line feed as one that isn't ASCII
abbrev pub marked_byte : ℕ → ℕ
marked_byte b = cond (eqb b 10) 128 b

-- one more byte goes into the bits
pub marked_more : (text : List ℕ) (i bits byte : ℕ) → byte ≡ marked_byte (get_or text i 0) → ((k : ℕ) → k < i → marked_byte (get_or text k 0) ≤ bits)
    → (k : ℕ) → k < i + 1 → marked_byte (get_or text k 0) ≤ bit_or bits byte
marked_more text i bits byte at low k h = elim (cases_lt k i) [
  | inl below ↦ let before = low k below in omega (arith, le_or_l bits byte)
  | inr above ↦ let same : k ≡ i = omega arith in rw (same, ← at) (le_or_r bits byte)
]

unmarked : (b : ℕ) → marked_byte b < 128 → (eqb b 10 ≡ false) × (b < 128)
unmarked b h = by_cases (eqb b 10) refl h
  where
    by_cases : (t : Bool) → eqb b 10 ≡ t → cond t 128 b < 128 → (eqb b 10 ≡ false) × (b < 128)
    by_cases true e low = absurd (omega (arith, low))
    by_cases false e low = (e, low)

-- bytes that are at most an ASCII one are plain
pub plain_below : (text : List ℕ) (greatest : ℕ) → ((k : ℕ) → k < length text → marked_byte (get_or text k 0) ≤ greatest) → greatest < 128 → IsPlain text
plain_below text greatest low ascii = record {
  ascii = λ k. elim (cases_lt k (length text)) [
    | inl h ↦ (unmarked (get_or text k 0) (let at = low k h in omega arith)).1
    | inr h ↦ rw (get_or_past text k 0 (omega arith)) (omega arith)
  ];
  none = λ k h. (unmarked (get_or text k 0) (let at = low k h in omega arith)).0;
}

-- another byte goes in as it is
pub marked_other : (b : ℕ) → (b ≡ 10 → ⊥) → b ≡ marked_byte b
marked_other b h = let other : eqb b 10 ≡ false = false_from_ne_true (eqb b 10) (λ e. h (eqb-true b 10 e)) in rw other refl

-- the end of a whole line: its last byte is its only line feed
record Closed (line : List ℕ) : Type 0 where
  some : 0 < length line
  last : eqb (get_or line (length line - 1) 0) 10 ≡ true
  none : (k : ℕ) → k < length line - 1 → eqb (get_or line k 0) 10 ≡ false

feed_only : (line : List ℕ) (n : ℕ) → HasNoFeed (take n line) → (k : ℕ) → k < n → k < length line → eqb (get_or line k 0) 10 ≡ false
feed_only line n h k below fits = ap (λ b. eqb b 10) (sym (get_or-take n line k 0 below)) ∙ h k (omega (arith, length-take n line))

closed : (line : List ℕ) → 0 < length (end_bytes (ending_of line)) → HasNoFeed (before_end line) → Closed line
closed line some h = by_cases (is_whole line) (eqb (get_or line (length line - 2) 0) 13) refl refl
  where
    by_cases : (whole two : Bool) → is_whole line ≡ whole → eqb (get_or line (length line - 2) 0) 13 ≡ two → Closed line
    by_cases false two e f =
        let end : ending_of line ≡ FileEnd = rw e refl in
        let none : length (end_bytes (ending_of line)) ≡ 0 = ap (λ x. length (end_bytes x)) end in
        absurd (omega (arith, some, none))
    by_cases true false e f =
        let end : ending_of line ≡ Feed = rw (e, f) refl in
        let h' : HasNoFeed (take (length line - 1) line) = subst (λ x. HasNoFeed (take (length line - length (end_bytes x)) line)) end h in
        record { some = some_byte line e; last = e; none = λ k below. feed_only line (length line - 1) h' k below (omega arith) }
    by_cases true true e f =
        let end : ending_of line ≡ ReturnFeed = rw (e, f) refl in
        let h' : HasNoFeed (take (length line - 2) line) = subst (λ x. HasNoFeed (take (length line - length (end_bytes x)) line)) end h in
        record {
          some = some_byte line e;
          last = e;
          none = λ k below. elim (cases_lt k (length line - 2)) as (λ x. eqb (get_or line k 0) 10 ≡ false) [
            | inl low ↦ feed_only line (length line - 2) h' k low (omega arith)
            | inr high ↦
                let at : k ≡ length line - 2 = omega arith in
                let here : get_or line k 0 ≡ 13 = ap (λ n. get_or line n 0) at ∙ eqb-true _ _ f in
                rw here refl
          ];
        }

-- a whole line without a line feed before its end is the first one
pub first_plain : (front ended : Bool) (bytes line : List ℕ) → line ≡ take (length line) bytes → length line ≤ length bytes → 0 < length (end_bytes (ending_of line)) → HasNoFeed (before_end line)
    → IsFirstLine front ended bytes line
first_plain front ended bytes line is fits some h =
    let c = closed line some h in
    let i = length line - 1 in
    let same : (k : ℕ) → k < length line → get_or line k 0 ≡ get_or bytes k 0 = λ k below. ap (λ l. get_or l k 0) is ∙ get_or-take (length line) bytes k 0 below in
    let all : i + 1 ≡ length line = omega (arith, c.some) in
    subst (IsFirstLine front ended bytes) (ap (λ n. take n bytes) all ∙ sym is)
    (IsFirstLine-found front ended bytes i
    (record {
      low = omega arith;
      high = omega (arith, c.some);
      before = λ k low below p. false≢true (sym (ap (λ b. eqb b 10) (sym (same k (omega arith))) ∙ c.none k below) ∙ p);
    })
    (ap (λ b. eqb b 10) (sym (same i (omega (arith, c.some)))) ∙ c.last))

-- what a line of the file is, part by part
text_columns : (d : DictionaryText) (line : FileLine) → (line_text d line).columns ≡ padded (width_of d (columns_of line)) (columns_of line)
unfolding line_text
text_columns d line = refl

pub text_len : (d : DictionaryText) (line : FileLine) → (line_text d line).len ≡ length (columns_of line)
unfolding line_text
text_len d line = refl

pub text_ending : (d : DictionaryText) (line : FileLine) → (line_text d line).ending ≡ ending_of (line.1)
unfolding line_text
text_ending d line = refl

text_number : (d : DictionaryText) (line : FileLine) → (line_text d line).record_number ≡ record_of d (columns_of line)
unfolding line_text
text_number d line = refl

-- columns of the record type and of the id that are those of another line
module _ (d : DictionaryText) (before : FileLine) (line : List ℕ) (len : length (before_end line) ≡ length (columns_of before)) (wide : least_width d ≤ length (before_end line))
    (begins : take (least_width d) (before_end line) ≡ take (least_width d) (line_text d before).columns) (plain : IsPlain (before_end line)) where
  abbrev text : List ℕ
  text = before_end line

  own : columns_of (false, line) ≡ text
  own = chars-IsAscii text plain.ascii

  number : record_of d text ≡ record_of d (columns_of before)
  number =
      sym (record_of_is d text)
      ∙ ap (λ t. number_of_type t d) (type_begins d (padded (least_width d) text) (line_text d before).columns (take-append-le (least_width d) text (replicate (least_width d - length text) 32) wide ∙ begins))
      ∙ sym (type_named d before) ∙ text_number d before

  width : width_of d text ≡ width_of d (columns_of before)
  width =
      sym (width_of_is d text) ∙ ap (λ n. max (max n (least_width d)) (record_len d (record_of d text))) len
      ∙ ap (λ r. max (max (length (columns_of before)) (least_width d)) (record_len d r)) number ∙ width_of_is d (columns_of before)

  -- the line
  like_text : (w : ℕ) (ending : Ending) → w ≡ length (line_text d before).columns → ending_of line ≡ ending
      → (let l : LineText = record { columns = padded w text; len = length (columns_of before); ending = ending; record_number = record_of d (columns_of before) } in l) ≡ line_text d (false, line)
  like_text w ending e f =
      let n = length (columns_of before) in
      let wide : w ≡ max n (width_of d (columns_of before)) = e ∙ ap length (text_columns d before) ∙ length-padded (width_of d (columns_of before)) (columns_of before) in
      let blanks : w - length text ≡ width_of d text - length text = omega (arith, wide, len, width) in
      line_text-is d (false, line) (padded w text) n ending (record_of d (columns_of before)) (sym f) (sym len ∙ ap length (sym own)) (sym number ∙ ap (record_of d) (sym own))
      (ap (λ k. text ++ replicate k 32) blanks ∙ ap (λ t. padded (width_of d t) t) (sym own))

  -- its id
  like_id : id_of d (false, line) ≡ id_of d before
  like_id =
      sym (id_of_is d (false, line))
      ∙ ids_begin d (line_text d (false, line)).columns (line_text d before).columns
      (ap (take (least_width d)) (text_columns d (false, line) ∙ ap (λ t. padded (width_of d t) t) own)
      ∙ take-append-le (least_width d) text (replicate (width_of d text - length text) 32) wide ∙ begins)
      ∙ id_of_is d before

  -- it has no fault
  like_sound : length (columns_of before) ≤ 65536 → line_fault (false, line) ≡ None
  like_sound few =
      line_fault-none (false, line) (omega (arith, len)) (is_utf8-from_IsUtf8 text (IsUtf8-from_ascii text plain.ascii)) (omega (arith, ap length own, len))

-- a line of that form is written as its bytes
written_like : (line : List ℕ) (width : ℕ) (last : Line) → length (before_end line) ≡ last.len → ending_of line ≡ last.ending → IsPlain (before_end line)
    → written_line (record { columns = padded width (before_end line); len = last.len; ending = last.ending; record_number = last.record_number }) ≡ line
unfolding written_line
written_like line width last len end plain =
    let text = before_end line in
    let kept : kept_columns last.len (padded width text) ≡ text = ap (λ n. kept_columns n (padded width text)) (sym len) ∙ kept_columns-padded width text in
    let encoded : encode_utf8_all text ≡ text = ap encode_utf8_all (sym (chars-IsAscii text plain.ascii)) ∙ encodes-chars text (IsUtf8-from_ascii text plain.ascii) in
    ap (λ t. encode_utf8_all t ++ end_bytes last.ending) kept ∙ ap (λ t. t ++ end_bytes last.ending) encoded ∙ ap (λ e. text ++ end_bytes e) (sym end) ∙ end_parts line

-- the head of a line of that form
abbrev pub head_like : Line → Head
head_like last = record { len = last.len; ending = last.ending; record_number = last.record_number; marked = false; beginning = Alike; is_ascii = true }

-- a line that was pushed behind lines that lie in columns
module _ (columns : List ℕ) (lines : List Line) (last : Line) (line : List ℕ) (laid : IsLaid 0 columns lines) (len : length (before_end line) ≡ last.len) (fits : last.len ≤ last.width) where
  abbrev own_text : List ℕ
  own_text = padded last.width (before_end line)

  own_width : length own_text ≡ last.width
  own_width = omega (arith, length-padded last.width (before_end line), len, fits)

  own_line : line_like last (length columns) ≡ line_behind columns own_text (head_like last)
  own_line = ap (λ n. (let l : Line = record { first = length columns; width = n; len = last.len; ending = last.ending; record_number = last.record_number } in l)) (sym own_width)

  pub laid_like : IsLaid 0 (columns ++ own_text) (lines ++ line_like last (length columns) ∷ [])
  laid_like = subst (λ (l : Line). IsLaid 0 (columns ++ own_text) (lines ++ l ∷ [])) (sym own_line) (IsLaid-push 0 columns own_text lines (head_like last) (omega (arith, own_width, fits)) laid)

  pub lines_like : laid_lines (columns ++ own_text) (lines ++ line_like last (length columns) ∷ []) ≡ laid_lines columns lines ++ line_with own_text (head_like last) ∷ []
  lines_like = ap (λ l. laid_lines (columns ++ own_text) (lines ++ l ∷ [])) own_line ∙ laid_lines-push 0 columns own_text lines (head_like last) laid

  pub bytes_like : ending_of line ≡ last.ending → IsPlain (before_end line)
      → flat_map written_line (laid_lines (columns ++ own_text) (lines ++ line_like last (length columns) ∷ [])) ≡ flat_map written_line (laid_lines columns lines) ++ line
  bytes_like end plain =
      ap (flat_map written_line) lines_like ∙ flat_map-append written_line (laid_lines columns lines) (line_with own_text (head_like last) ∷ [])
      ∙ ap (λ l. flat_map written_line (laid_lines columns lines) ++ l) (append-nil (written_line (line_with own_text (head_like last))) ∙ written_like line last.width last len end plain)

-- the last of the lines, pushed
pub IsLastOf-push : (lines : List Line) (line : Line) → IsLastOf (lines ++ line ∷ []) line
IsLastOf-push lines line =
    let n : length (lines ++ line ∷ []) ≡ length lines + 1 = length_push lines line in
    let at : length lines ≡ length (lines ++ line ∷ []) - 1 = omega arith in
    record { some = omega arith; is = sym (get_or_push lines line line (length (lines ++ line ∷ []) - 1) at) }

-- a line like the last one of what was gathered goes on it
pub GoesOn-like : (d : DictionaryText) (first ended marked : Bool) (number : ℕ) (columns : List ℕ) (lines : List Line) (last : Line) (line uncut : List ℕ) → IsLaid 0 columns lines → IsLastOf lines last
    → Gathered d first ended number (laid_run columns lines marked number) uncut → least_width d ≤ last.len → last.len ≤ 65536 → length lines < 10000
    → IsLike (take (least_width d) (drop last.first columns)) last line
    → GoesOn d (false, line) (laid_run columns lines marked number) (laid_run (columns ++ padded last.width (before_end line)) (lines ++ line_like last (length columns) ∷ []) marked number)
GoesOn-like d first ended marked number columns lines last line uncut laid is g wide few room like =
    let run = laid_run columns lines marked number in
    let count : length run.lines ≡ length lines = length-map lines (laid_line columns) in
    let done = length-done d first ended number run uncut g in
    let some : 0 < length g.done = omega (arith, is.some, count, done) in
    let known = last_of d (first_id d g.done) 0 g.done g.same some in
    let before : FileLine = known.0 in
    let at : line_at run (length run.lines - 1) ≡ line_text d before = ap (λ n. line_at run (n - 1)) done ∙ ap (λ r. line_at r (length g.done - 1)) g.is ∙ (known.1).0 in
    let there : line_at run (length run.lines - 1) ≡ laid_line columns last = ap (λ n. line_at run (n - 1)) count ∙ line_in columns lines (length lines - 1) last (omega (arith, is.some)) is.is in
    let own : line_text d before ≡ laid_line columns last = sym at ∙ there in
    let within = laid_within 0 columns lines (length lines - 1) last laid (omega (arith, is.some)) is.is in
    let fits = laid_fits 0 columns lines (length lines - 1) last laid (omega (arith, is.some)) is.is in
    let n : length (columns_of before) ≡ last.len = sym (text_len d before) ∙ ap (λ l. l.len) own in
    let w : length (line_text d before).columns ≡ last.width =
    ap (λ l. length l.columns) own ∙ length-take-le last.width (drop last.first columns) (omega (arith, within, length-drop last.first columns)) in
    let begin = take (least_width d) (drop last.first columns) in
    let begin_len : length begin ≡ least_width d = length-take-le (least_width d) (drop last.first columns) (omega (arith, within, fits, wide, length-drop last.first columns)) in
    let begins : take (least_width d) (before_end line) ≡ take (least_width d) (line_text d before).columns =
    ap (λ k. take k (before_end line)) (sym begin_len) ∙ like.begins ∙ sym (take-take (least_width d) last.width (drop last.first columns) (omega (arith, fits, wide)))
    ∙ ap (λ l. take (least_width d) l.columns) (sym own) in
    let len : length (before_end line) ≡ length (columns_of before) = like.len ∙ sym n in
    let least : least_width d ≤ length (before_end line) = omega (arith, like.len, wide) in
    let text : line_with (padded last.width (before_end line)) (head_like last) ≡ line_text d (false, line) =
    ap (λ k. (let l : LineText = record { columns = padded last.width (before_end line); len = k; ending = last.ending; record_number = last.record_number } in l)) (sym n)
    ∙ ap (λ r. (let l : LineText = record { columns = padded last.width (before_end line); len = length (columns_of before); ending = last.ending; record_number = r } in l))
    (sym (ap (λ l. l.record_number) own) ∙ text_number d before)
    ∙ like_text d before line len least begins like.plain last.width last.ending (sym w) like.ending in
    record {
      sound = like_sound d before line len least begins like.plain (omega (arith, n, few));
      same = λ more. run_id-done d first ended number run uncut g some ∙ sym ((known.1).1) ∙ sym (like_id d before line len least begins like.plain);
      room = omega (arith, count, room);
      is = ap (λ ls. (let r : RunText = record { lines = ls; marked = marked; first_line = number } in r)) (lines_like columns lines last line laid like.len fits ∙ ap (λ l. laid_lines columns lines ++ l ∷ []) text)
          ∙ ap (λ m. (let r : RunText = record { lines = laid_lines columns lines ++ line_text d (false, line) ∷ []; marked = m; first_line = number } in r)) (sym (or-false marked));
    }

-- what was gathered goes on with it
pub GathersOn-like : (width : ℕ) (begun_columns : List ℕ) (begun_lines : List Line) (bytes columns : List ℕ) (lines : List Line) (last : Line) (at len : ℕ) (line : List ℕ) → line ≡ take len (drop at bytes) → at + len ≤ length bytes
    → IsLaid 0 columns lines → IsLastOf lines last → width ≤ last.len → last.len ≤ 65536 → length lines < 10000 → 0 < length (end_bytes last.ending) → IsLike (take width (drop last.first columns)) last line
    → GathersOn width begun_columns begun_lines bytes columns lines (drop at bytes)
    → GathersOn width begun_columns begun_lines bytes (columns ++ padded last.width (before_end line)) (lines ++ line_like last (length columns) ∷ []) (drop (at + len) bytes)
GathersOn-like width begun_columns begun_lines bytes columns lines last at len line is fits laid lasts wide few room end like h marked number d first ended e g =
    let known = h marked number d first ended e g in
    let run = laid_run columns lines marked number in
    let uncut = drop at bytes in
    let n : length line ≡ len = ap length is ∙ length-take-le len uncut (omega (arith, fits, length-drop at bytes)) in
    let some : 0 < length known.gathered.done = omega (arith, lasts.some, length-map lines (laid_line columns), length-done d first ended number run uncut known.gathered) in
    let found : IsFirstLine false ended uncut line =
    first_plain false ended uncut line (is ∙ ap (λ k. take k uncut) (sym n)) (omega (arith, n, fits, length-drop at bytes)) (rw like.ending end) like.plain.none in
    let on = GoesOn-like d first ended marked number columns lines last line uncut laid lasts known.gathered (rw e wide) few room
    (subst (λ (k : ℕ). IsLike (take k (drop last.first columns)) last line) (sym e) like) in
    let rest : drop (length line) uncut ≡ drop (at + len) bytes = ap (λ k. drop k uncut) n ∙ drop-drop len at bytes in
    subst (Gathers d first ended (laid_run begun_columns begun_lines marked number) bytes (laid_run (columns ++ padded last.width (before_end line)) (lines ++ line_like last (length columns) ∷ []) marked number)) rest
    (Gathers-more d first ended (laid_run begun_columns begun_lines marked number) bytes run _ uncut line known false (sym (front_after-some first known.gathered.done some)) found on)

-- what stood before stays in front
pub keeps_front : {A : Type 0} (begun now more : List A) → take (length begun) now ≡ begun → take (length begun) (now ++ more) ≡ begun
keeps_front begun now more h = take-append-le (length begun) now more (omega (arith, ap length h, length-take (length begun) now)) ∙ h

-- a few bytes, by the masks of those that are line feeds and of those that aren't ASCII
pub plain_masks : (text : List ℕ) (n feeds others : ℕ) → length text ≡ n → feeds ≡ mask_l (map (λ x. eqb x 10) (chunk 0 n text)) → others ≡ mask_l (map is_set (chunk 0 n text)) → eqb (bit_or feeds others) 0 ≡ true
    → IsPlain text
plain_masks text n feeds others len f o none =
    let both : bit_or feeds others ≡ 0 = eqb-true _ _ none in
    let no_feeds : feeds ≡ 0 = omega (arith, both, le_or_l feeds others) in
    let no_others : others ≡ 0 = omega (arith, both, le_or_r feeds others) in
    record {
      ascii = λ k. elim (cases_lt k n) [
        | inl h ↦ leb-false 128 (get_or text k 0) (none_from_empty_mask is_set text 0 n 0 (omega (arith, len)) (sym o ∙ no_others) k (omega arith) (omega arith))
        | inr h ↦ rw (get_or_past text k 0 (omega (arith, len))) (omega arith)
      ];
      none = λ k h. none_from_empty_mask (λ x. eqb x 10) text 0 n 0 (omega (arith, len)) (sym f ∙ no_feeds) k (omega arith) (omega (arith, len));
    }

-- the bytes of a text that are written over columns, so many at a time
pub put_over : (n : ℕ) (columns text : List ℕ) (at k : ℕ) → length columns ≡ length text → at + n ≤ length text → at ≤ k → k < at + n → get_or (with_columns at (take n (drop at text)) columns) k 0 ≡ get_or text k 0
put_over n columns text at k same fits low high =
    let field = take n (drop at text) in
    let front : length (take at columns) ≡ at = length-take-le at columns (omega arith) in
    let len : length field ≡ n = length-take-le n (drop at text) (omega (arith, length-drop at text)) in
    let all : at + (k - at) ≡ k = omega arith in
    get_or-append_right (take at columns) (field ++ drop (at + length field) columns) at k 0 front low
    ∙ get_or_append_left field (drop (at + length field) columns) 0 (k - at) (omega arith)
    ∙ get_or-take n (drop at text) (k - at) 0 (omega arith) ∙ get_or-drop at text (k - at) 0 ∙ ap (λ i. get_or text i 0) all

-- and the columns before and behind them
pub put_before : (columns field : List ℕ) (at k : ℕ) → at ≤ length columns → k < at → get_or (with_columns at field columns) k 0 ≡ get_or columns k 0
put_before columns field at k fits low =
    get_or_append_left (take at columns) (field ++ drop (at + length field) columns) 0 k (omega (arith, length-take-le at columns fits)) ∙ get_or-take at columns k 0 low

pub put_behind : (columns field : List ℕ) (at k : ℕ) → at ≤ length columns → at + length field ≤ k → get_or (with_columns at field columns) k 0 ≡ get_or columns k 0
put_behind columns field at k fits high =
    let all : at + length field + (k - at - length field) ≡ k = omega arith in
    get_or-append_right (take at columns) (field ++ drop (at + length field) columns) at k 0 (length-take-le at columns fits) (omega arith)
    ∙ get_or-append_right field (drop (at + length field) columns) (length field) (k - at) 0 refl (omega arith)
    ∙ get_or-drop (at + length field) columns (k - at - length field) 0 ∙ ap (λ i. get_or columns i 0) all

-- which bytes were written
abbrev pub Done : ℕ → ℕ → ℕ → Type 0
Done at last k = (k < at) ⊎ (last ≤ k)

pub put_more : (n : ℕ) (columns text : List ℕ) (at last : ℕ) → length columns ≡ length text → at + n ≤ length text → ((k : ℕ) → Done at last k → k < length text → get_or columns k 0 ≡ get_or text k 0)
    → (k : ℕ) → Done (at + n) last k → k < length text → get_or (with_columns at (take n (drop at text)) columns) k 0 ≡ get_or text k 0
put_more n columns text at last same fits before k done below =
    let len : length (take n (drop at text)) ≡ n = length-take-le n (drop at text) (omega (arith, length-drop at text)) in
    elim (cases_lt k at) [
      | inl low ↦ put_before columns (take n (drop at text)) at k (omega arith) low ∙ before k (inl low) below
      | inr high ↦ elim (cases_lt k (at + n)) [
        | inl here ↦ put_over n columns text at k same fits high here
        | inr past ↦ put_behind columns (take n (drop at text)) at k (omega arith) (omega (arith, len)) ∙ before k (inr (behind done past)) below
      ]
    ]
  where
    behind : Done (at + n) last k → at + n ≤ k → last ≤ k
    behind (inl low) past = absurd (omega arith)
    behind (inr high) past = high

-- a byte that isn't a line feed and is ASCII
abbrev pub PlainAt : List ℕ → ℕ → Type 0
PlainAt text k = (get_or text k 0 < 128) × (eqb (get_or text k 0) 10 ≡ false)

pub plain_here : (n : ℕ) (text : List ℕ) (at k : ℕ) → at + n ≤ length text → IsPlain (take n (drop at text)) → at ≤ k → k < at + n → PlainAt text k
plain_here n text at k fits plain low high =
    let field = take n (drop at text) in
    let len : length field ≡ n = length-take-le n (drop at text) (omega (arith, length-drop at text)) in
    let all : at + (k - at) ≡ k = omega arith in
    let same : get_or field (k - at) 0 ≡ get_or text k 0 = get_or-take n (drop at text) (k - at) 0 (omega arith) ∙ get_or-drop at text (k - at) 0 ∙ ap (λ i. get_or text i 0) all in
    (rw (← same) (plain.ascii (k - at)), ap (λ x. eqb x 10) (sym same) ∙ plain.none (k - at) (omega (arith, len)))

pub plain_more : (n : ℕ) (text : List ℕ) (at last : ℕ) → at + n ≤ length text → IsPlain (take n (drop at text)) → ((k : ℕ) → Done at last k → k < length text → PlainAt text k)
    → (k : ℕ) → Done (at + n) last k → k < length text → PlainAt text k
plain_more n text at last fits plain before k done below = elim (cases_lt k at) [
  | inl low ↦ before k (inl low) below
  | inr high ↦ elim (cases_lt k (at + n)) [
    | inl here ↦ plain_here n text at k fits plain high here
    | inr past ↦ before k (inr (behind done past)) below
  ]
]
  where
    behind : Done (at + n) last k → at + n ≤ k → last ≤ k
    behind (inl low) past = absurd (omega arith)
    behind (inr high) past = high

-- all bytes
pub plain_all : (text : List ℕ) → ((k : ℕ) → k < length text → PlainAt text k) → IsPlain text
plain_all text h = record {
  ascii = λ k. elim (cases_lt k (length text)) [
    | inl low ↦ (h k low).0
    | inr high ↦ rw (get_or_past text k 0 (omega arith)) (omega arith)
  ];
  none = λ k low. (h k low).1;
}

pub past_end : (last k : ℕ) → Done 0 last k → last ≤ k
past_end last k (inl low) = absurd (omega arith)
past_end last k (inr high) = high
