-- A stack whose topmost entry is the last one of those that are in use.
use Rattle.std.proofs.Common.{◌≡◌, ℕ, zero, suc, ◌+◌, ◌-◌, ◌<◌, ◌≤◌, List, [], ◌∷◌, ◌++◌, length, take, drop, set, reverse, get_or, Some, None, refl, sym, ap, ◌∙◌, arith}
use Rattle.std.specs.Prelude.{slice_get}
use Rattle.cse_code_typing.specs.Bracket.{first}
use Rattle.std.proofs.lemmas.Option.{slice_get-get_or}
use Rattle.std.proofs.lemmas.List.{get_or-reverse, length-reverse, length-take-le, get_or-take, take_more, take_more_set, reverse-append}

pub height : {A : Type 0} (entries shown : List A) (len : ℕ) → reverse (take len entries) ≡ shown → len ≤ length entries → len ≡ length shown
height entries shown len is le = sym (ap length (sym is) ∙ length-reverse (take len entries) ∙ length-take-le len entries le)

-- the entry so far from the top
pub shown_at : {A : Type 0} (entries shown : List A) (len i : ℕ) (x : A) → reverse (take len entries) ≡ shown → len ≤ length entries → i < length shown → x ≡ get_or entries (len - 1 - i) x → slice_get shown i ≡ Some x
shown_at entries shown len i x is le lt read =
    let size : length (take len entries) ≡ len = length-take-le len entries le in
    let count : length shown ≡ len = ap length (sym is) ∙ length-reverse (take len entries) ∙ size in
    let back : get_or (reverse (take len entries)) i x ≡ get_or (take len entries) (length (take len entries) - 1 - i) x = get_or-reverse (take len entries) i x (omega arith) in
    ap (λ l. slice_get l i) (sym is)
    ∙ slice_get-get_or (reverse (take len entries)) i x (let r = length-reverse (take len entries) in omega arith)
    ∙ ap Some (back ∙ ap (λ n. get_or (take len entries) (n - 1 - i) x) size ∙ get_or-take len entries (len - 1 - i) x (omega arith) ∙ sym read)

-- with one more on top
pub shown_push : {A : Type 0} (entries shown : List A) (len : ℕ) (x : A) → reverse (take len entries) ≡ shown → len < length entries → reverse (take (len + 1) (set entries len x)) ≡ x ∷ shown
shown_push entries shown len x is lt = ap reverse (take_more_set entries len x lt) ∙ reverse-append (take len entries) (x ∷ []) ∙ ap (λ l. x ∷ l) is

-- without the topmost one
shorter : {A : Type 0} (xs : List A) (x : A) (n m : ℕ) → m ≡ n + 1 → m ≤ length xs → reverse (take n xs) ≡ drop 1 (reverse (take m xs))
shorter xs x n m e le =
    let more : take m xs ≡ take n xs ++ get_or xs n x ∷ [] = ap (λ k. take k xs) e ∙ take_more xs n x (omega arith) in
    sym (ap (drop 1) (ap reverse more ∙ reverse-append (take n xs) (get_or xs n x ∷ [])))

first_of : {A : Type 0} (xs l : List A) (n m : ℕ) → reverse (take (suc m) xs) ≡ l → n ≡ m → suc m ≤ length xs → reverse (take n xs) ≡ drop 1 l
first_of [] l n m view e le = absurd (omega arith)
first_of (x ∷ xs) l n m view e le = shorter (x ∷ xs) x n (suc m) (omega arith) le ∙ ap (drop 1) view

pub shown_below : {A : Type 0} (entries shown : List A) (n m : ℕ) → reverse (take m entries) ≡ shown → (shown ≡ [] → ⊥) → n ≡ m - 1 → m ≤ length entries → reverse (take n entries) ≡ drop 1 shown
shown_below entries shown n zero view some e le = absurd (some (sym view))
shown_below entries shown n (suc m) view some e le = first_of entries shown n m view (omega arith) le

-- ---- the topmost one

pub top_there : {A : Type 0} (shown : List A) → (shown ≡ [] → ⊥) → 0 < length shown
top_there [] some = absurd (some refl)
top_there (x ∷ xs) some = omega arith

pub top_is : {A : Type 0} (shown : List A) (x : A) → slice_get shown 0 ≡ Some x → first shown ≡ Some x
top_is [] x at = cc
top_is (y ∷ ys) x at = at

pub no_top : {A : Type 0} (entries shown : List A) (len : ℕ) → reverse (take len entries) ≡ shown → len ≤ length entries → len ≡ 0 → None ≡ first shown
no_top entries [] len is le none = refl
no_top entries (x ∷ xs) len is le none = absurd (omega (arith, height entries (x ∷ xs) len is le))

pub top_read : {A : Type 0} (entries shown : List A) (len : ℕ) (x : A) → reverse (take len entries) ≡ shown → len ≤ length entries → 0 < len → x ≡ get_or entries (len - 1) x → Some x ≡ first shown
top_read entries shown len x is le some read =
    let place : len - 1 ≡ len - 1 - 0 = omega arith in
    sym (top_is shown x (shown_at entries shown len 0 x is le (omega (arith, height entries shown len is le)) (read ∙ ap (λ k. get_or entries k x) place)))
