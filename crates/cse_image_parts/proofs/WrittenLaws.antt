-- What is written is read, and a % that begins nothing written stands for itself.
use Rattle.std.proofs.Common.{◌≡◌, ℕ, zero, suc, ◌+◌, ◌-◌, ◌*◌, ◌/◌, ◌%◌, ◌<◌, ◌≤◌, true, false, cond, Bool, eqb, ltb, List, [], ◌∷◌, ◌++◌, length, take, drop, Option, Some, None, option_map, refl, ap, arith, sym, ◌∙◌, append_assoc, subst}
use Rattle.std.proofs.Math.Seq.{take-append_seam, drop-append_seam, drop-append-add}
use Rattle.std.proofs.lemmas.List.{take-append-drop}
use Rattle.std.specs.List.{prefix_len, list_all}
use Rattle.std.specs.Option.{unwrap_or}
use Rattle.std.proofs.lemmas.Bool.{eqb-true, and_parts, le-ltb, lt-ltb, ne_eqb, eqb-false}
use Rattle.std.proofs.lemmas.Bool.Decides.{nat_tests}
use Rattle.cse_lemmas.proofs.Lists.{list_all-prefix}
use Rattle.cse_image_parts.specs.declared.placeholders.Piece.{Piece}
use Rattle.cse_image_parts.specs.declared.placeholders.Piece.TheVariants as pieces
use Rattle.cse_image_parts.specs.Placeholders.{is_digit, width_of, number_of, piece_of, marked, piece_at, pieces_of}
use Rattle.cse_image_parts.specs.Written.{digits_of, written, IsWritable, BeginsNoPiece}
use Rattle.cse_image_parts.proofs.PieceLaws.{next_piece}

-- what a map gives comes from a value
mapped : {A B : Type 0} (f : A → B) (o : Option A) (y : B) → option_map f o ≡ Some y → (x : A) × (f x ≡ y) × (o ≡ Some x)
mapped f None y e = absurd cc
mapped f (Some x) y e = (x, cc, refl)

-- ---- tests of numbers

digit_bounds : (c : ℕ) → is_digit c ≡ true → (48 ≤ c) × (c ≤ 57)
digit_bounds c e = (grind (arith, nat_tests), grind (arith, nat_tests))

is_digit_yes : (c : ℕ) → 48 ≤ c → c ≤ 57 → is_digit c ≡ true
is_digit_yes c low high = grind (arith, nat_tests)

-- ---- the digits of a width

one_digit : (n : ℕ) → 0 < n → n < 10 → digits_of n ≡ (48 + n) ∷ []
one_digit n low high = let ne : n ≡ 0 → ⊥ = (λ e. omega (arith, e)) in rw (ne_eqb n 0 ne, lt-ltb n 10 high) refl

two_digits : (n : ℕ) → 10 ≤ n → digits_of n ≡ (48 + n / 10) ∷ (48 + n % 10) ∷ []
two_digits n low = let ne : n ≡ 0 → ⊥ = (λ e. omega (arith, e)) in rw (ne_eqb n 0 ne, le-ltb n 10 low) refl

width_one : (n : ℕ) → 0 < n → n < 10 → width_of ((48 + n) ∷ []) ≡ Some n
width_one n low high =
    let ne : 48 + n ≡ 48 → ⊥ = (λ e. omega (arith, e)) in
    let back : 48 + n - 48 ≡ n = omega arith in
    rw (ne_eqb (48 + n) 48 ne, back) refl

width_two : (n : ℕ) → 10 ≤ n → n ≤ 99 → width_of ((48 + n / 10) ∷ (48 + n % 10) ∷ []) ≡ Some n
width_two n low high =
    let ne : 48 + n / 10 ≡ 48 → ⊥ = (λ e. omega (arith, e)) in
    let back : 10 * (48 + n / 10 - 48) + (48 + n % 10 - 48) ≡ n = omega arith in
    rw (ne_eqb (48 + n / 10) 48 ne, back) refl

-- ---- a run of digits and its end

run_step : (c : ℕ) (cs : List ℕ) (x : ℕ) (rest : List ℕ) → is_digit c ≡ true → prefix_len is_digit (cs ++ x ∷ rest) ≡ length cs → prefix_len is_digit ((c ∷ cs) ++ x ∷ rest) ≡ length (c ∷ cs)
run_step c cs x rest e h = rw (e, h) (omega arith)

digits_end : (ds : List ℕ) (x : ℕ) (rest : List ℕ) → list_all is_digit ds ≡ true → is_digit x ≡ false → prefix_len is_digit (ds ++ x ∷ rest) ≡ length ds
digits_end [] x rest all no_digit = rw no_digit refl
digits_end (c ∷ cs) x rest all no_digit = let p = and_parts (is_digit c) (list_all is_digit cs) all in run_step c cs x rest p.0 (digits_end cs x rest p.1 no_digit)

marked_end : (ds : List ℕ) (x : ℕ) (rest : List ℕ) → list_all is_digit ds ≡ true → is_digit x ≡ false → marked (ds ++ x ∷ rest) ≡ option_map (λ (piece : Piece). (piece, length ds + 1)) (piece_of ds (x ∷ rest))
marked_end ds x rest all no_digit =
    let n = digits_end ds x rest all no_digit in
    rw (n, take-append_seam ds (x ∷ rest), drop-append_seam ds (x ∷ rest)) refl

-- what a mark begins is the first piece
found_piece : (ds : List ℕ) (x : ℕ) (rest : List ℕ) (piece : Piece) → list_all is_digit ds ≡ true → is_digit x ≡ false → piece_of ds (x ∷ rest) ≡ Some piece → pieces_of (37 ∷ (ds ++ x ∷ rest)) ≡ piece ∷ pieces_of rest
found_piece ds x rest piece all no_digit e =
    let m : marked (ds ++ x ∷ rest) ≡ Some (piece, length ds + 1) = marked_end ds x rest all no_digit ∙ ap (option_map (λ (piece : Piece). (piece, length ds + 1))) e in
    let at : piece_at 37 (ds ++ x ∷ rest) ≡ (piece, length ds + 1) = rw m refl in
    let over : drop (length ds + 1) (ds ++ x ∷ rest) ≡ rest = drop-append-add ds (x ∷ rest) 1 in
    next_piece 37 (ds ++ x ∷ rest) ∙ rw (at, over) refl

number_end : (ds : List ℕ) (rest : List ℕ) → piece_of ds (100 ∷ rest) ≡ number_of ds
number_end [] rest = refl
number_end (a ∷ ds) rest = refl

-- ---- a number is read

size_step : (P : ℕ → Type 0) → ((n : ℕ) → 0 < n → n < 10 → P n) → ((n : ℕ) → 10 ≤ n → P n) → (n : ℕ) → 0 < n → (t : Bool) → ltb n 10 ≡ t → P n
size_step P one two n low true e = one n low (grind (arith, nat_tests))
size_step P one two n low false e = two n (grind (arith, nat_tests))

size_cases : (P : ℕ → Type 0) → P 0 → ((n : ℕ) → 0 < n → n < 10 → P n) → ((n : ℕ) → 10 ≤ n → P n) → (n : ℕ) → P n
size_cases P none one two zero = none
size_cases P none one two (suc k) = size_step P one two (suc k) (omega arith) (ltb (suc k) 10) refl

digits_are : (n : ℕ) → n ≤ 99 → list_all is_digit (digits_of n) ≡ true
digits_are n high =
    size_cases (λ n. n ≤ 99 → list_all is_digit (digits_of n) ≡ true) (λ le. refl)
    (λ n low up le. rw (one_digit n low up, is_digit_yes (48 + n) (omega arith) (omega arith)) refl)
    (λ n low le. rw (two_digits n low, is_digit_yes (48 + n / 10) (omega arith) (omega arith), is_digit_yes (48 + n % 10) (omega arith) (omega arith)) refl)
    n high

width_is : (n : ℕ) → n ≤ 99 → 0 < n → width_of (digits_of n) ≡ Some n
width_is n high =
    size_cases (λ n. n ≤ 99 → 0 < n → width_of (digits_of n) ≡ Some n) (λ le lt. absurd (omega (arith, lt)))
    (λ n low up le lt. rw (one_digit n low up) (width_one n low up))
    (λ n low le lt. rw (two_digits n low) (width_two n low le))
    n high

plain_number : (n : ℕ) → n ≤ 99 → number_of (digits_of n) ≡ Some (pieces.Number n false)
plain_number n high =
    size_cases (λ n. n ≤ 99 → number_of (digits_of n) ≡ Some (pieces.Number n false)) (λ le. refl)
    (λ n low up le.
    let ne : 48 + n ≡ 48 → ⊥ = (λ e. omega (arith, e)) in
    let back : 48 + n - 48 ≡ n = omega arith in
    rw (one_digit n low up, ne_eqb (48 + n) 48 ne, back) refl)
    (λ n low le.
    let ne : 48 + n / 10 ≡ 48 → ⊥ = (λ e. omega (arith, e)) in
    let back : 10 * (48 + n / 10 - 48) + (48 + n % 10 - 48) ≡ n = omega arith in
    rw (two_digits n low, ne_eqb (48 + n / 10) 48 ne, back) refl)
    n high

filled_number : (n : ℕ) → n ≤ 99 → 0 < n → number_of (48 ∷ digits_of n) ≡ Some (pieces.Number n true)
filled_number n high low = rw (width_is n high low) refl

number_read : (n : ℕ) (zeros : Bool) → n ≤ 99 → (zeros ≡ true → 0 < n) → number_of (cond zeros (48 ∷ []) [] ++ digits_of n) ≡ Some (pieces.Number n zeros)
number_read n false high low = plain_number n high
number_read n true high low = filled_number n high (low refl)

number_digits : (n : ℕ) (zeros : Bool) → n ≤ 99 → list_all is_digit (cond zeros (48 ∷ []) [] ++ digits_of n) ≡ true
number_digits n false high = digits_are n high
number_digits n true high = digits_are n high

-- ---- what is written is read

plain_read : (c : ℕ) (rest : List ℕ) (t : Bool) → eqb c 37 ≡ t → pieces_of (cond t (37 ∷ 37 ∷ []) (c ∷ []) ++ rest) ≡ pieces.Plain c ∷ pieces_of rest
plain_read c rest true e = found_piece [] 37 rest (pieces.Plain 37) refl refl refl ∙ ap (λ (n : ℕ). pieces.Plain n ∷ pieces_of rest) (sym (eqb-true c 37 e))
plain_read c rest false e = next_piece c rest ∙ rw e refl

pub written_read : (piece : Piece) (rest : List ℕ) → IsWritable piece → pieces_of (written piece ++ rest) ≡ piece ∷ pieces_of rest
written_read (pieces.Plain c) rest h = plain_read c rest (eqb c 37) refl
written_read (pieces.Number n zeros) rest h =
    let ds : List ℕ = cond zeros (48 ∷ []) [] ++ digits_of n in
    let shape : (cond zeros (48 ∷ []) [] ++ (digits_of n ++ 100 ∷ [])) ++ rest ≡ ds ++ 100 ∷ rest = simp append_assoc in
    ap (λ (text : List ℕ). pieces_of (37 ∷ text)) shape ∙ found_piece ds 100 rest (pieces.Number n zeros) (number_digits n zeros h.0) refl (number_end ds rest ∙ number_read n zeros h.0 h.1)
written_read pieces.Text rest h = found_piece [] 115 rest pieces.Text refl refl refl

-- ---- what is read was written

-- these are the digits of the width
IsWidth : List ℕ → ℕ → Type 0
IsWidth ds n = (0 < n) × (n ≤ 99) × (digits_of n ≡ ds)

one_written : (a n : ℕ) (t : Bool) → eqb a 48 ≡ t → is_digit a ≡ true → cond t None (Some (a - 48)) ≡ Some n → IsWidth (a ∷ []) n
unfolding IsWidth
one_written a n true e digit is = absurd cc
one_written a n false e digit is =
    let bounds = digit_bounds a digit in
    let other : a ≡ 48 → ⊥ = eqb-false a 48 e in
    let same : a - 48 ≡ n = cc in
    let low : 0 < n = omega (arith, bounds.0, same, other) in
    let back : 48 + n ≡ a = omega (arith, bounds.0, same) in
    (low, omega (arith, bounds.1, same), one_digit n low (omega (arith, bounds.1, same)) ∙ ap (λ (c : ℕ). c ∷ []) back)

two_written : (a b n : ℕ) (t : Bool) → eqb a 48 ≡ t → is_digit a ≡ true → is_digit b ≡ true → cond t None (Some (10 * (a - 48) + (b - 48))) ≡ Some n → IsWidth (a ∷ b ∷ []) n
unfolding IsWidth
two_written a b n true e first second is = absurd cc
two_written a b n false e first second is =
    let low_a = digit_bounds a first in
    let low_b = digit_bounds b second in
    let other : a ≡ 48 → ⊥ = eqb-false a 48 e in
    let same : 10 * (a - 48) + (b - 48) ≡ n = cc in
    let ten : 10 ≤ n = omega (arith, low_a.0, same, other) in
    let tens : 48 + n / 10 ≡ a = omega (arith, low_a.0, low_b.0, low_b.1, same) in
    let ones : 48 + n % 10 ≡ b = omega (arith, low_a.0, low_b.0, low_b.1, same) in
    (omega (arith, ten), omega (arith, low_a.1, low_b.1, same), two_digits n ten ∙ ap (λ (c : ℕ). c ∷ (48 + n % 10) ∷ []) tens ∙ ap (λ (c : ℕ). a ∷ c ∷ []) ones)

width_written : (ds : List ℕ) (n : ℕ) → list_all is_digit ds ≡ true → width_of ds ≡ Some n → IsWidth ds n
width_written [] n all e = absurd cc
width_written (a ∷ []) n all e = one_written a n (eqb a 48) refl (and_parts (is_digit a) true all).0 e
width_written (a ∷ b ∷ []) n all e =
    let p = and_parts (is_digit a) (list_all is_digit (b ∷ [])) all in
    two_written a b n (eqb a 48) refl p.0 (and_parts (is_digit b) true p.1).0 e
width_written (a ∷ b ∷ c ∷ more) n all e = absurd cc

-- the piece is this number, and these are the digits that are written for it
pub record IsNumber (ds : List ℕ) (piece : Piece) : Type 0 where
  pub width : ℕ
  pub zeros : Bool
  pub is : piece ≡ pieces.Number width zeros
  pub writable : IsWritable (pieces.Number width zeros)
  pub digits : cond zeros (48 ∷ []) [] ++ digits_of width ≡ ds

number_step : (a : ℕ) (ds : List ℕ) (piece : Piece) (t : Bool) → eqb a 48 ≡ t → list_all is_digit (a ∷ ds) ≡ true → cond t (option_map (λ (n : ℕ). pieces.Number n true) (width_of ds)) (option_map (λ (n : ℕ). pieces.Number n false) (width_of (a ∷ ds))) ≡ Some piece → IsNumber (a ∷ ds) piece
unfolding IsWidth
number_step a ds piece true e all is =
    let m = mapped (λ (n : ℕ). pieces.Number n true) (width_of ds) piece is in
    let w = width_written ds m.0 (and_parts (is_digit a) (list_all is_digit ds) all).1 m.2 in
    record { width = m.0; zeros = true; is = sym m.1; writable = (w.1, λ t. w.0); digits = ap (λ (c : ℕ). c ∷ digits_of m.0) (sym (eqb-true a 48 e)) ∙ ap (λ (cs : List ℕ). a ∷ cs) w.2 }
number_step a ds piece false e all is =
    let m = mapped (λ (n : ℕ). pieces.Number n false) (width_of (a ∷ ds)) piece is in
    let w = width_written (a ∷ ds) m.0 all m.2 in
    record { width = m.0; zeros = false; is = sym m.1; writable = (w.1, λ t. absurd cc); digits = w.2 }

number_written : (ds : List ℕ) (piece : Piece) → list_all is_digit ds ≡ true → number_of ds ≡ Some piece → IsNumber ds piece
number_written [] piece all e = record { width = 0; zeros = false; is = cc; writable = (omega arith, λ t. absurd cc); digits = refl }
number_written (a ∷ ds) piece all e = number_step a ds piece (eqb a 48) refl all e

-- the text is this piece, as it is written, and the rest
pub record IsWritten (text : List ℕ) (piece : Piece) (rest : List ℕ) : Type 0 where
  pub writable : IsWritable piece
  pub is : text ≡ written piece ++ rest

as_written : (x y : ℕ) (rest : List ℕ) (known piece : Piece) → x ≡ y → ◌≡◌ {A = Option Piece} (Some known) (Some piece) → IsWritable known → 37 ∷ y ∷ rest ≡ written known ++ rest → IsWritten (37 ∷ x ∷ rest) piece rest
as_written x y rest known piece e found writable is =
    let same : known ≡ piece = cc in
    record { writable = subst IsWritable same writable; is = ap (λ (c : ℕ). 37 ∷ c ∷ rest) e ∙ is ∙ ap (λ (q : Piece). written q ++ rest) same }

bare_percent : (x : ℕ) (rest : List ℕ) (piece : Piece) (t : Bool) → eqb x 37 ≡ t → cond t (Some (pieces.Plain 37)) None ≡ Some piece → IsWritten (37 ∷ x ∷ rest) piece rest
bare_percent x rest piece true e found = as_written x 37 rest (pieces.Plain 37) piece (eqb-true x 37 e) found tt refl
bare_percent x rest piece false e found = absurd cc

bare_text : (x : ℕ) (rest : List ℕ) (piece : Piece) (t : Bool) → eqb x 115 ≡ t → cond t (Some pieces.Text) (cond (eqb x 37) (Some (pieces.Plain 37)) None) ≡ Some piece → IsWritten (37 ∷ x ∷ rest) piece rest
bare_text x rest piece true e found = as_written x 115 rest pieces.Text piece (eqb-true x 115 e) found tt refl
bare_text x rest piece false e found = bare_percent x rest piece (eqb x 37) refl found

bare_number : (x : ℕ) (rest : List ℕ) (piece : Piece) (t : Bool) → eqb x 100 ≡ t → cond t (Some (pieces.Number 0 false)) (cond (eqb x 115) (Some pieces.Text) (cond (eqb x 37) (Some (pieces.Plain 37)) None)) ≡ Some piece → IsWritten (37 ∷ x ∷ rest) piece rest
bare_number x rest piece true e found = as_written x 100 rest (pieces.Number 0 false) piece (eqb-true x 100 e) found (omega arith, λ t. absurd cc) refl
bare_number x rest piece false e found = bare_text x rest piece (eqb x 115) refl found

wide_number : (a : ℕ) (ds : List ℕ) (x : ℕ) (rest : List ℕ) (piece : Piece) (t : Bool) → eqb x 100 ≡ t → list_all is_digit (a ∷ ds) ≡ true → cond t (number_of (a ∷ ds)) None ≡ Some piece → IsWritten (37 ∷ ((a ∷ ds) ++ x ∷ rest)) piece rest
wide_number a ds x rest piece true e all found =
    let n = number_written (a ∷ ds) piece all found in
    let shape : (cond n.zeros (48 ∷ []) [] ++ (digits_of n.width ++ 100 ∷ [])) ++ rest ≡ (cond n.zeros (48 ∷ []) [] ++ digits_of n.width) ++ 100 ∷ rest = simp append_assoc in
    record {
      writable = subst IsWritable (sym n.is) n.writable;
      is = ap (λ (c : ℕ). 37 ∷ ((a ∷ ds) ++ c ∷ rest)) (eqb-true x 100 e) ∙ ap (λ (cs : List ℕ). 37 ∷ (cs ++ 100 ∷ rest)) (sym n.digits) ∙ ap (λ (cs : List ℕ). 37 ∷ cs) (sym shape) ∙ ap (λ (q : Piece). written q ++ rest) (sym n.is);
    }
wide_number a ds x rest piece false e all found = absurd cc

piece_written : (ds : List ℕ) (x : ℕ) (rest : List ℕ) (piece : Piece) → list_all is_digit ds ≡ true → piece_of ds (x ∷ rest) ≡ Some piece → IsWritten (37 ∷ (ds ++ x ∷ rest)) piece rest
piece_written [] x rest piece all e = bare_number x rest piece (eqb x 100) refl e
piece_written (a ∷ ds) x rest piece all e = wide_number a ds x rest piece (eqb x 100) refl all e

-- a mark begins what is written
mark_step : (ds tail text : List ℕ) (count : ℕ) (found : Piece × ℕ) → ds ++ tail ≡ text → list_all is_digit ds ≡ true → option_map (λ (piece : Piece). (piece, count)) (piece_of ds tail) ≡ Some found → (piece : Piece) × (rest : List ℕ) × IsWritten (37 ∷ text) piece rest
mark_step ds [] text count found cut all e = absurd cc
mark_step ds (x ∷ rest) text count found cut all e =
    let m = mapped (λ (piece : Piece). (piece, count)) (piece_of ds (x ∷ rest)) found e in
    (m.0, rest, subst (λ (cs : List ℕ). IsWritten (37 ∷ cs) m.0 rest) cut (piece_written ds x rest m.0 all m.2))

alone_step : (text : List ℕ) (found : Option (Piece × ℕ)) → marked text ≡ found → BeginsNoPiece (37 ∷ text) → (unwrap_or found (pieces.Plain 37, 0)).0 ∷ pieces_of (drop (unwrap_or found (pieces.Plain 37, 0)).1 text) ≡ pieces.Plain 37 ∷ pieces_of text
alone_step text None e none = refl
alone_step text (Some found) e none =
    let k : ℕ = prefix_len is_digit text in
    let w = mark_step (take k text) (drop k text) text (k + 1) found (take-append-drop k text) (list_all-prefix is_digit text) e in
    absurd (none w.0 w.1 w.2.writable w.2.is)

pub stands_alone : (text : List ℕ) → BeginsNoPiece (37 ∷ text) → pieces_of (37 ∷ text) ≡ pieces.Plain 37 ∷ pieces_of text
stands_alone text none = next_piece 37 text ∙ alone_step text (marked text) refl none
