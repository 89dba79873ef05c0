-- Laws of the device of a slice.
use Rattle.std.proofs.Common.{◌≡◌, ℕ, zero, suc, ◌+◌, ◌-◌, ◌<◌, ◌≤◌, ◌==◌, Bool, false, List, [], ◌∷◌, ◌++◌, length, take, drop, min, refl, ap, sym, ◌∙◌, arith, append_assoc, append-nil, take-add, take-append-drop, length-append}
use Rattle.std.proofs.Math.Seq.{take-length}
use Rattle.std.proofs.lemmas.Bool.{eq-eqb, ne_eqb}
use Rattle.std.proofs.lemmas.List.{length-drop, length-take, take_rest, take_at}
use Rattle.cse_value.specs.Device.{Consumes}
use Rattle.cse_value.specs.Slice.{ReadOf, at_end, given_of, mark}

-- one read
pub read_more : (bytes put rest : List ℕ) (n k : ℕ) (old new : Bool) → put ≡ take k (take (length bytes - n) (drop n bytes)) → length put ≡ k
    → Consumes (given_of bytes n old) (given_of bytes (n + k) new) (take k (put ++ rest))
read_more bytes put rest n k old new is same = record {
  more =
      ap (λ l. mark bytes ++ l) (take-add n k bytes)
      ∙ (sym (append_assoc (mark bytes) (take n bytes) (take k (drop n bytes)))
      ∙ ap (λ l. (mark bytes ++ take n bytes) ++ l) (sym (take_at put rest k same ∙ (is ∙ ap (take k) (take_rest bytes n)))));
}

-- as many were put as there is room for
pub as_many : (left k : ℕ) (put buf : List ℕ) → k ≡ min left (length buf) → length put ≡ length (take k buf) → length put ≡ k
as_many left k put buf is len = omega (arith, is, len, length-take k buf)

-- a buffer has room afterwards only where it had before
pub room_before : (left k : ℕ) (put buf : List ℕ) → k ≡ min left (length buf) → length put ≡ k → 0 < length (put ++ drop k buf) → 0 < length buf
room_before left k put buf is many some = omega (arith, is, many, some, length-append put (drop k buf), length-drop k buf)

-- none is read exactly at the end
pub ended_at : (left room k : ℕ) (ended : Bool) → k ≡ min left room → 0 < room → ended ≡ (left == 0) → ended ≡ (k == 0)
ended_at zero room k ended is some none = none ∙ sym (eq-eqb k 0 (omega (arith, is)))
ended_at (suc left) room k ended is some none = none ∙ (ne_eqb (suc left) 0 (λ e. absurd (omega (arith, e))) ∙ sym (ne_eqb k 0 (λ e. absurd (omega (arith, is, some, e)))))

-- ---- what was read since it was new

-- lists of one length that begin two equal ones
same_front : (xs ys a b : List ℕ) → length xs ≡ length ys → xs ++ a ≡ ys ++ b → (xs ≡ ys) × (a ≡ b)
same_front [] [] a b same e = (refl, e)
same_front [] (y ∷ ys) a b same e = absurd (omega (arith, same))
same_front (x ∷ xs) [] a b same e = absurd (omega (arith, same))
same_front (x ∷ xs) (y ∷ ys) a b same e =
    let rest = same_front xs ys a b (omega (arith, same)) (ap (drop 1) e) in
    (cc (rest.0, e), rest.1)

pub read_of : (bytes own read : List ℕ) (count : ℕ) (ended : Bool) → count ≤ length own → at_end own count ended → Consumes (given_of bytes 0 false) (given_of own count ended) read
    → ReadOf bytes read (given_of own count ended)
read_of bytes own read count ended within whole c =
    let all : mark own ++ take count own ≡ mark bytes ++ read = c.more ∙ ap (λ l. l ++ read) (append-nil (mark bytes)) in
    let as_long : length own ≡ length bytes = cc all in
    let both = same_front own bytes (take count own) read as_long (ap (drop 1) all) in
    record {
      rest = drop count own;
      is = sym both.0 ∙ (sym (take-append-drop count own) ∙ ap (λ l. l ++ drop count own) both.1);
      end = λ e. sym both.1 ∙ (ap (λ n. take n own) (whole e) ∙ (take-length own ∙ both.0));
      sound = refl;
    }
