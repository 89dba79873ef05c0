-- The line before an array's cells: it has the form of one, and names the array.
use Rattle.std.proofs.Common.{◌≡◌, ℕ, zero, suc, ◌+◌, ◌^◌, ◌<◌, ◌≤◌, Bool, true, false, not, cond, eqb, List, [], ◌∷◌, ◌++◌, length, take, drop, get_or, Option, Some, None, refl, ap, sym, ◌∙◌, subst, length-append, arith, rules}
use Rattle.std.specs.Prelude.{pos, negsuc, codes, nat_lt, nat_le, nat_eq, position, slice_get, slice_index, unwrap_or, ◌&&◌, ◌||◌}
use Rattle.std.specs.List.{AllByRecursion, flat_map, list_all, list_any, position_or_len, starts_with}
use Rattle.std.specs.Option.{option_map_or}
use Rattle.std.specs.Str.{bytes_eq}
use Rattle.std.specs.Char.{is_ascii_digit}
use Rattle.std.specs.Fmt.{decimal}
use Rattle.std.proofs.lemmas.Bool.{and_parts, and_from, or_parts, or_left, or_right, not-true, cond-true, cond-false, ltb-true, ltb-false, lt-ltb, ne_eqb}
use Rattle.std.proofs.lemmas.Bool.Decides.{nat_tests}
use Rattle.std.proofs.lemmas.List.{take_at, drop_at}
use Rattle.std.proofs.lemmas.List.Folds.{list_any-append}
use Rattle.std.proofs.lemmas.Slice.Eq.{bytes_eq-Decides}
use Rattle.std.proofs.lemmas.Fmt.{digits_decimal, decimal_nonempty, first_decimal}
use Rattle.std.proofs.lemmas.Option.{slice_get_within}
use Rattle.cse_lemmas.proofs.Lists.{AllByRecursion-append}
use Rattle.cse_value.specs.declared.number.Num.{Num}
use Rattle.cse_value.specs.declared.number.Num.TheVariants.{Whole, NotAppl, Missing, Undef}
use Rattle.cse_value.specs.Field.{shown, fits_num}
use Rattle.cse_value.proofs.FieldLaws.{numerals}
use Rattle.cse_image_parts.specs.Image.{ArrayLists}
use Rattle.cse_image_parts.specs.Texts.{is_name, is_name_char, is_upper, is_new}
use Rattle.cse_image_parts.specs.Fields.{is_dimension_count}
use Rattle.cse_image_parts.specs.Reader.{AllAfter}
use Rattle.cse_image.specs.Spelling.{ArrayFits, DimensionFits}
use Rattle.cse_decks.specs.Deck.{size_word, array_line}
use Rattle.cse_decks.specs.Loading.{blank_place, word, after_word, is_plain, after_size, ends_or, sized, are_sizes, is_array_line, named}
use Rattle.cse_decks.proofs.LineLaws.{OneLine, all_from}

-- ---- words

abbrev NoBlank : List ℕ → Type 0
NoBlank l = AllByRecursion (λ c. eqb c 32 ≡ false) l

-- nothing, or a blank in front
abbrev IsBreak : List ℕ → Type 0
IsBreak [] = Unit {0}
IsBreak (c ∷ cs) = eqb c 32 ≡ true

abbrev is_blank : ℕ → Bool
is_blank c = eqb c 32

blank_after : (w rest : List ℕ) → NoBlank w → IsBreak rest → position_or_len is_blank (w ++ rest) ≡ length w
blank_after [] [] h k = refl
blank_after [] (c ∷ cs) h k = cond-false (not (eqb c 32)) (1 + position_or_len is_blank cs) 0 (ap not k)
blank_after (c ∷ cs) rest h k =
    let more = blank_after cs rest h.1 k in
    cond-true (not (eqb c 32)) (1 + position_or_len is_blank (cs ++ rest)) 0 (ap not h.0) ∙ (ap (λ n. 1 + n) more ∙ omega arith)

place_or : (b : Bool) (n m : ℕ) → nat_lt n m ≡ b → n ≤ m → unwrap_or (cond b (Some n) None) m ≡ n
place_or true n m e h = refl
place_or false n m e h = let k : m ≤ n = ltb-false n m e in omega arith

blank_place-word : (w rest : List ℕ) → NoBlank w → IsBreak rest → blank_place (w ++ rest) ≡ length w
blank_place-word w rest h k =
    ap (λ n. unwrap_or (cond (nat_lt n (length (w ++ rest))) (Some n) None) (length (w ++ rest))) (blank_after w rest h k)
    ∙ place_or (nat_lt (length w) (length (w ++ rest))) (length w) (length (w ++ rest)) refl (omega (arith, length-append w rest))

word-is : (w rest : List ℕ) → NoBlank w → IsBreak rest → word (w ++ rest) ≡ w
unfolding word
word-is w rest h k = ap (λ n. take n (w ++ rest)) (blank_place-word w rest h k) ∙ take_at w rest (length w) refl

after_word-is : (w rest : List ℕ) → NoBlank w → IsBreak rest → after_word (w ++ rest) ≡ rest
unfolding after_word
after_word-is w rest h k = ap (λ n. drop n (w ++ rest)) (blank_place-word w rest h k) ∙ drop_at w rest (length w) refl

-- ---- digits and names

digit_is : (c : ℕ) → is_ascii_digit c ≡ true → 48 ≤ c
digit_is c h = search (rules, arith)

digit_no_blank : (c : ℕ) → is_ascii_digit c ≡ true → eqb c 32 ≡ false
digit_no_blank c h = let low = digit_is c h in ne_eqb c 32 (λ e. omega arith)

digit_no_end : (c : ℕ) → is_ascii_digit c ≡ true → eqb c 10 ≡ false
digit_no_end c h = let low = digit_is c h in ne_eqb c 10 (λ e. omega arith)

name_char_is : (c : ℕ) → is_name_char c ≡ true → 48 ≤ c
name_char_is c h = grind (arith, nat_tests)

name_no_blank : (c : ℕ) → is_name_char c ≡ true → eqb c 32 ≡ false
name_no_blank c h = let low = name_char_is c h in ne_eqb c 32 (λ e. omega arith)

name_no_end : (c : ℕ) → is_name_char c ≡ true → eqb c 10 ≡ false
name_no_end c h = let low = name_char_is c h in ne_eqb c 10 (λ e. omega arith)

record IsWord (w : List ℕ) : Type 0 where
  some : 0 < length w
  no_blank : NoBlank w
  one_line : OneLine w

some_upper : (name : List ℕ) → is_upper (slice_index name 0) ≡ true → 0 < length name
some_upper [] h = cc
some_upper (c ∷ cs) h = omega arith

name_is : (name : List ℕ) → is_name name ≡ true → IsWord name
unfolding is_name
name_is name h =
    let parts = and_parts (is_upper (slice_index name 0) && list_all is_name_char name) (nat_le (length name) _) h in
    let own = and_parts (is_upper (slice_index name 0)) (list_all is_name_char name) parts.0 in
    record {
      some = some_upper name own.0;
      no_blank = all_from (λ c. eqb c 32 ≡ false) is_name_char name_no_blank name own.1;
      one_line = all_from (λ c. eqb c 10 ≡ false) is_name_char name_no_end name own.1;
    }

-- the text of a number
pub decimal_one_line : (n : ℕ) → n < 2 ^ 64 → OneLine (decimal n)
decimal_one_line n h = all_from (λ c. eqb c 10 ≡ false) is_ascii_digit digit_no_end (decimal n) (digits_decimal numerals n h)

decimal_no_blank : (n : ℕ) → n < 2 ^ 64 → NoBlank (decimal n)
decimal_no_blank n h = all_from (λ c. eqb c 32 ≡ false) is_ascii_digit digit_no_blank (decimal n) (digits_decimal numerals n h)

decimal_plain : (d : ℕ) → 0 < d → d < 2 ^ 64 → is_plain (decimal d) ≡ true
decimal_plain d some h =
    let first : 48 < get_or (decimal d) 0 0 = first_decimal d some h in
    let other : eqb (slice_index (decimal d) 0) 48 ≡ false = ne_eqb (slice_index (decimal d) 0) 48 (λ e. omega arith) in
    and_from (nat_lt 0 (length (decimal d)) && list_all is_ascii_digit (decimal d)) (not (eqb (slice_index (decimal d) 0) 48) || eqb (length (decimal d)) 1)
    (and_from (nat_lt 0 (length (decimal d))) (list_all is_ascii_digit (decimal d)) (lt-ltb 0 (length (decimal d)) (decimal_nonempty d h)) (digits_decimal numerals d h))
    (or_left (not (eqb (slice_index (decimal d) 0) 48)) (eqb (length (decimal d)) 1) (ap not other))

-- ---- sizes

break_sizes : (ds : List ℕ) → IsBreak (flat_map size_word ds)
break_sizes [] = tt
break_sizes (d ∷ ds) = refl

size_fits : (d : ℕ) → DimensionFits d → (0 < d) × (d < 2 ^ 64)
size_fits d h = let some : 0 < d = ltb-true 0 d h.some in let size : d < 2 ^ 16 = h.size in (some, omega arith)

after_size-is : (d : ℕ) (ds : List ℕ) → DimensionFits d → after_size (flat_map size_word (d ∷ ds)) ≡ Some (flat_map size_word ds)
unfolding after_size
after_size-is d ds h =
    let fits = size_fits d h in
    let rest = flat_map size_word ds in
    let own = word-is (decimal d) rest (decimal_no_blank d fits.1) (break_sizes ds) in
    let plain : is_plain (word (decimal d ++ rest)) ≡ true = ap is_plain own ∙ decimal_plain d fits.0 fits.1 in
    cond-true (is_plain (word (decimal d ++ rest))) (Some (after_word (decimal d ++ rest))) None plain
    ∙ ap (λ (l : List ℕ). let o : Option (List ℕ) = Some l in o) (after_word-is (decimal d) rest (decimal_no_blank d fits.1) (break_sizes ds))

sized-is : (more : List ℕ → Bool) (d : ℕ) (ds : List ℕ) → DimensionFits d → ends_or more (flat_map size_word ds) ≡ true → sized more (flat_map size_word (d ∷ ds)) ≡ true
sized-is more d ds h k = ap (λ (o : Option (List ℕ)). option_map_or (ends_or more) o false) (after_size-is d ds h) ∙ k

then_sized : (more : List ℕ → Bool) (text : List ℕ) → more text ≡ true → ends_or more text ≡ true
then_sized more text h = or_right (eqb (length text) 0) (more text) h

sizes_are : (ds : List ℕ) → is_dimension_count (length ds) ≡ true → AllByRecursion DimensionFits ds → are_sizes (flat_map size_word ds) ≡ true
unfolding are_sizes
sizes_are [] count h = cc
sizes_are (d ∷ []) count h = sized-is (sized (sized (λ _. false))) d [] h.0 refl
sizes_are (d ∷ e ∷ []) count h =
    sized-is (sized (sized (λ _. false))) d (e ∷ []) h.0 (then_sized (sized (sized (λ _. false))) (flat_map size_word (e ∷ [])) (sized-is (sized (λ _. false)) e [] h.1.0 refl))
sizes_are (d ∷ e ∷ f ∷ []) count h =
    let last = sized-is (λ _. false) f [] h.1.1.0 refl in
    let second = sized-is (sized (λ _. false)) e (f ∷ []) h.1.0 (then_sized (sized (λ _. false)) (flat_map size_word (f ∷ [])) last) in
    sized-is (sized (sized (λ _. false))) d (e ∷ f ∷ []) h.0 (then_sized (sized (sized (λ _. false))) (flat_map size_word (e ∷ f ∷ [])) second)
sizes_are (d ∷ e ∷ f ∷ g ∷ ds) count h = absurd (too_many (length ds) count)
  where
    too_many : (n : ℕ) → is_dimension_count (suc (suc (suc (suc n)))) ≡ true → ⊥
    too_many n h = grind (arith, nat_tests)

sizes_one_line : (ds : List ℕ) → AllByRecursion DimensionFits ds → OneLine (flat_map size_word ds)
sizes_one_line [] h = tt
sizes_one_line (d ∷ ds) h = AllByRecursion-append (λ c. eqb c 10 ≡ false) (size_word d) (flat_map size_word ds) (refl, decimal_one_line d (size_fits d h.0).1) (sizes_one_line ds h.1)

-- ---- the line

array_line_rest : (a : ArrayLists) → drop 6 (array_line a) ≡ a.name ++ flat_map size_word a.dimensions
unfolding array_line
array_line_rest a = refl

pub word_of_line : (before : List ArrayLists) (a : ArrayLists) → ArrayFits before a → word (drop 6 (array_line a)) ≡ a.name
word_of_line before a h =
    let sizes = flat_map size_word a.dimensions in
    ap word (array_line_rest a) ∙ word-is a.name sizes (name_is a.name h.name).no_blank (break_sizes a.dimensions)

begins : (a : ArrayLists) → starts_with nat_eq (array_line a) (codes "ARRAY ") ≡ true
unfolding array_line
begins a = refl

pub array_line_is : (before : List ArrayLists) (a : ArrayLists) → ArrayFits before a → is_array_line (array_line a) ≡ true
unfolding is_array_line
array_line_is before a h =
    let sizes = flat_map size_word a.dimensions in
    let name = name_is a.name h.name in
    let own = word_of_line before a h in
    let rest : after_word (drop 6 (array_line a)) ≡ sizes = ap after_word (array_line_rest a) ∙ after_word-is a.name sizes name.no_blank (break_sizes a.dimensions) in
    let some : nat_lt 0 (length (word (drop 6 (array_line a)))) ≡ true = ap (λ (l : List ℕ). nat_lt 0 (length l)) own ∙ lt-ltb 0 (length a.name) name.some in
    let are : are_sizes (after_word (drop 6 (array_line a))) ≡ true = ap are_sizes rest ∙ sizes_are a.dimensions h.count h.dimensions in
    and_from (starts_with nat_eq (array_line a) (codes "ARRAY ")) (nat_lt 0 (length (word (drop 6 (array_line a)))) && are_sizes (after_word (drop 6 (array_line a)))) (begins a)
    (and_from (nat_lt 0 (length (word (drop 6 (array_line a))))) (are_sizes (after_word (drop 6 (array_line a)))) some are)

pub array_line_one : (before : List ArrayLists) (a : ArrayLists) → ArrayFits before a → OneLine (array_line a)
unfolding array_line
array_line_one before a h =
    AllByRecursion-append (λ c. eqb c 10 ≡ false) (codes "ARRAY " ++ a.name) (flat_map size_word a.dimensions)
    (AllByRecursion-append (λ c. eqb c 10 ≡ false) (codes "ARRAY ") a.name (refl, (refl, (refl, (refl, (refl, (refl, tt)))))) (name_is a.name h.name).one_line)
    (sizes_one_line a.dimensions h.dimensions)

-- ---- the array that it names

abbrev has_name : List ℕ → ArrayLists → Bool
has_name name x = bytes_eq x.name name

pub fits_at : (before arrays : List ArrayLists) (i : ℕ) (a : ArrayLists) → AllAfter ArrayFits before arrays → slice_get arrays i ≡ Some a → (front : List ArrayLists) × ArrayFits front a
fits_at before [] i a h e = cc
fits_at before (x ∷ xs) zero a h e = let same : x ≡ a = cc in (before, subst (λ (v : ArrayLists). ArrayFits before v) same h.0)
fits_at before (x ∷ xs) (suc i) a h e = fits_at (before ++ x ∷ []) xs i a h.1 e

new_is : (before : List ArrayLists) (x : ArrayLists) → ArrayFits before x → list_any (has_name x.name) before ≡ false
unfolding is_new
new_is before x h = not-true (list_any (has_name x.name) before) h.new

-- no array before has the name
new_at : (before arrays : List ArrayLists) (i : ℕ) (a : ArrayLists) → AllAfter ArrayFits before arrays → slice_get arrays i ≡ Some a → list_any (has_name a.name) before ≡ false
new_at before [] i a h e = cc
new_at before (x ∷ xs) zero a h e = let same : x ≡ a = cc in subst (λ (v : ArrayLists). list_any (has_name v.name) before ≡ false) same (new_is before x h.0)
new_at before (x ∷ xs) (suc i) a h e =
    (or_parts (list_any (has_name a.name) before) (list_any (has_name a.name) (x ∷ [])) (sym (list_any-append (has_name a.name) before (x ∷ [])) ∙ new_at (before ++ x ∷ []) xs i a h.1 e)).0

other_name : (before : List ArrayLists) (x a : ArrayLists) → list_any (has_name a.name) (before ++ x ∷ []) ≡ false → has_name a.name x ≡ false
other_name before x a h =
    let last : list_any (has_name a.name) (x ∷ []) ≡ false = (or_parts (list_any (has_name a.name) before) (list_any (has_name a.name) (x ∷ [])) (sym (list_any-append (has_name a.name) before (x ∷ [])) ∙ h)).1 in
    (or_parts (has_name a.name x) false last).0

own_name : (a : ArrayLists) → has_name a.name a ≡ true
own_name a = (bytes_eq-Decides a.name a.name).1 refl

name_place : (before arrays : List ArrayLists) (i : ℕ) (a : ArrayLists) → AllAfter ArrayFits before arrays → slice_get arrays i ≡ Some a → position_or_len (has_name a.name) arrays ≡ i
name_place before [] i a h e = cc
name_place before (x ∷ xs) zero a h e =
    let same : x ≡ a = cc in
    let own : has_name a.name x ≡ true = ap (has_name a.name) same ∙ own_name a in
    cond-false (not (has_name a.name x)) (1 + position_or_len (has_name a.name) xs) 0 (ap not own)
name_place before (x ∷ xs) (suc i) a h e =
    let other = other_name before x a (new_at (before ++ x ∷ []) xs i a h.1 e) in
    let more = name_place (before ++ x ∷ []) xs i a h.1 e in
    cond-true (not (has_name a.name x)) (1 + position_or_len (has_name a.name) xs) 0 (ap not other) ∙ (ap (λ n. 1 + n) more ∙ omega arith)

-- the line names the array
pub named_is : (arrays : List ArrayLists) (i : ℕ) (a : ArrayLists) → AllAfter ArrayFits [] arrays → slice_get arrays i ≡ Some a → named arrays (array_line a) ≡ Some i
named_is arrays i a h e =
    let fits = fits_at [] arrays i a h e in
    let own = word_of_line fits.0 a fits.1 in
    let place = name_place [] arrays i a h e in
    ap (λ (w : List ℕ). position (λ (x : ArrayLists). bytes_eq x.name w) arrays) own
    ∙ (ap (λ n. cond (nat_lt n (length arrays)) (Some n) None) place
    ∙ ap (λ b. cond b (Some i) None) (lt-ltb i (length arrays) (slice_get_within arrays i a e)))

-- ---- the line of a cell

pub shown_one : (v : Num) → fits_num v ≡ true → OneLine (shown v)
shown_one (Whole (pos n)) h = let low : n < 2 ^ 63 = ltb-true n (2 ^ 63) h in decimal_one_line n (omega arith)
shown_one (Whole (negsuc n)) h = let low : n < 2 ^ 63 = ltb-true n (2 ^ 63) h in (refl, decimal_one_line (suc n) (omega arith))
shown_one NotAppl h = (refl, (refl, (refl, (refl, (refl, (refl, (refl, tt)))))))
shown_one Missing h = (refl, (refl, (refl, (refl, (refl, (refl, (refl, tt)))))))
shown_one Undef h = (refl, (refl, (refl, (refl, (refl, (refl, (refl, tt)))))))
