-- The edit order of an order file names each record of the dictionary once.
use Rattle.std.proofs.Common.{◌≡◌, ◌≤◌, ◌<◌, ℕ, suc, zero, ◌+◌, Bool, true, false, ◌||◌, eqb, cond, List, [], ◌∷◌, ◌++◌, length, map, Option, Some, None, refl, sym, ap, ◌∙◌, subst, ⊎_elim, arith}
use Rattle.std.specs.Prelude.{count_by, nat_eq, nat_lt, nat_le, position, if◌then◌else◌}
use Rattle.std.specs.List.{AllByRecursion, IsDistinct, filter, flat_map, range_with_len}
use Rattle.std.specs.Str.{bytes_eq, is_utf8}
use Rattle.std.proofs.lemmas.Bool.{ne_eqb, eq-eqb, eqb-true, cond-true, cond-false, cases_lt, lt-ltb, le-ltb, false≢true}
use Rattle.std.proofs.lemmas.List.{length-map}
use Rattle.std.proofs.lemmas.List.Sums.{sum_by-cons, sum_by-append}
use Rattle.std.proofs.lemmas.Option.{none-some}
use Rattle.cse_dict.specs.Dictionary.{DictionaryText, RecordText, shape_of, record_names}
use Rattle.cse_dict.specs.Keys.{kept_name}
use Rattle.cse_compile.specs.Order.{is_named, unless_named, edit_order}
use Rattle.cse_logic_names.specs.OrderFile.{record_in, is_there}
use Rattle.cse_code_typing.specs.Order.{NamesEachOnce}
use Rattle.cse_meaning.specs.Sound.{OrdersNameAll}
use Rattle.cse_meaning.proofs.SoundNames.{place_within}

-- ---- how often a number stands in a list

abbrev pub times : ℕ → List ℕ → ℕ
times k xs = count_by (λ o. eqb o k) xs

abbrev pub one : ℕ → ℕ → ℕ
one x k = cond (eqb x k) 1 0

pub times_first : (k x : ℕ) (xs : List ℕ) → times k (x ∷ xs) ≡ one x k + times k xs
times_first k x xs = sum_by-cons (λ (o : ℕ). cond (eqb o k) 1 0) x xs

times_both : (k : ℕ) (xs ys : List ℕ) → times k (xs ++ ys) ≡ times k xs + times k ys
times_both k xs ys = sum_by-append (λ (o : ℕ). cond (eqb o k) 1 0) xs ys

pub one_same : (x k : ℕ) → x ≡ k → one x k ≡ 1
one_same x k e = cond-true {A = ℕ} (eqb x k) 1 0 (eq-eqb x k e)

one_other : (x k : ℕ) → eqb x k ≡ false → one x k ≡ 0
one_other x k e = cond-false {A = ℕ} (eqb x k) 1 0 e

-- a list without a number
never : (k : ℕ) (xs : List ℕ) → is_named xs k ≡ false → times k xs ≡ 0
never k [] e = refl
never k (x ∷ xs) e = by (eqb x k) refl e (never k xs)
  where
    by : (b : Bool) → eqb x k ≡ b → (b || is_named xs k) ≡ false → (is_named xs k ≡ false → times k xs ≡ 0) → times k (x ∷ xs) ≡ 0
    by true f g ih = absurd (false≢true (sym g))
    by false f g ih = let a = times_first k x xs in let b = one_other x k f in let c = ih g in omega (arith, a, b, c)

apart : (k : ℕ) (xs : List ℕ) → AllByRecursion (λ y. nat_eq k y ≡ false) xs → is_named xs k ≡ false
apart k [] h = refl
apart k (x ∷ xs) h = by (eqb x k) refl (apart k xs h.1)
  where
    by : (b : Bool) → eqb x k ≡ b → is_named xs k ≡ false → (b || is_named xs k) ≡ false
    by true f ih = absurd (false≢true (sym h.0 ∙ eq-eqb k x (sym (eqb-true x k f))))
    by false f ih = ih

-- a list that has a number, and each number once
once : (k : ℕ) (xs : List ℕ) → IsDistinct nat_eq xs → is_named xs k ≡ true → times k xs ≡ 1
unfolding IsDistinct
once k [] h e = absurd (false≢true e)
once k (x ∷ xs) h e = by (eqb x k) refl e (once k xs h.1)
  where
    by : (b : Bool) → eqb x k ≡ b → (b || is_named xs k) ≡ true → (is_named xs k ≡ true → times k xs ≡ 1) → times k (x ∷ xs) ≡ 1
    by true f g ih =
        let same = eqb-true x k f in
        let rest = never k xs (subst (λ n. is_named xs n ≡ false) same (apart x xs h.0)) in
        let a = times_first k x xs in
        let b = one_same x k same in
        omega (arith, a, b, rest)
    by false f g ih = let a = times_first k x xs in let b = one_other x k f in let c = ih g in omega (arith, a, b, c)

-- ---- the numbers that aren't named

module _ (named : List ℕ) (k : ℕ) where
  abbrev left_out : ℕ → ℕ → List ℕ
  left_out from n = flat_map (unless_named named) (range_with_len from n)

  left_if_named : (x : ℕ) → is_named named k ≡ true → times k (unless_named named x) ≡ 0
  left_if_named x e = by (is_named named x) refl
    where
      by : (b : Bool) → is_named named x ≡ b → times k (if b then [] else x ∷ []) ≡ 0
      by true f = refl
      by false f = let a = times_first k x [] in let b = one_other x k (ne_eqb x k (λ s. false≢true (sym f ∙ ap (is_named named) s ∙ e))) in omega (arith, a, b)

  none_left : (from n : ℕ) → is_named named k ≡ true → times k (left_out from n) ≡ 0
  none_left from zero e = refl
  none_left from (suc n) e =
      let a = times_both k (unless_named named from) (left_out (from + 1) n) in
      let b = left_if_named from e in
      let c = none_left (from + 1) n e in
      omega (arith, a, b, c)

  left_here : (x : ℕ) → is_named named k ≡ false → times k (unless_named named x) ≡ one x k
  left_here x e = by (is_named named x) refl
    where
      by : (b : Bool) → is_named named x ≡ b → times k (if b then [] else x ∷ []) ≡ one x k
      by true f = sym (one_other x k (ne_eqb x k (λ s. false≢true (sym e ∙ sym (ap (is_named named) s) ∙ f))))
      by false f = let a = times_first k x [] in omega (arith, a)

  below_from : (from n : ℕ) → is_named named k ≡ false → k < from → times k (left_out from n) ≡ 0
  below_from from zero e lt = refl
  below_from from (suc n) e lt =
      let a = times_both k (unless_named named from) (left_out (from + 1) n) in
      let b = left_here from e in
      let c = one_other from k (ne_eqb from k (λ s. omega (arith, s, lt))) in
      let d = below_from (from + 1) n e (omega (arith, lt)) in
      omega (arith, a, b, c, d)

  within_from : (from n : ℕ) → is_named named k ≡ false → from ≤ k → k < from + n → times k (left_out from n) ≡ 1
  within_from from zero e le lt = absurd (omega (arith, le, lt))
  within_from from (suc n) e le lt =
      let a = times_both k (unless_named named from) (left_out (from + 1) n) in
      let b = left_here from e in
      ⊎_elim
      (λ (less : from < k).
      let c = one_other from k (ne_eqb from k (λ s. omega (arith, s, less))) in
      let d = within_from (from + 1) n e (omega (arith, less)) (omega (arith, lt)) in
      omega (arith, a, b, c, d))
      (λ (more : k ≤ from).
      let c = one_same from k (omega (arith, le, more)) in
      let d = below_from (from + 1) n e (omega (arith, more)) in
      omega (arith, a, b, c, d))
      (cases_lt from k)

  above_from : (from n : ℕ) → is_named named k ≡ false → from + n ≤ k → times k (left_out from n) ≡ 0
  above_from from zero e le = refl
  above_from from (suc n) e le =
      let a = times_both k (unless_named named from) (left_out (from + 1) n) in
      let b = left_here from e in
      let c = one_other from k (ne_eqb from k (λ s. omega (arith, s, le))) in
      let d = above_from (from + 1) n e (omega (arith, le)) in
      omega (arith, a, b, c, d)

-- ---- whole orders

-- each of the numbers is below n
abbrev AllBelow : ℕ → List ℕ → Type 0
AllBelow n xs = AllByRecursion (λ x. x < n) xs

named_below : (n k : ℕ) (xs : List ℕ) → AllBelow n xs → is_named xs k ≡ true → k < n
named_below n k [] h e = absurd (false≢true e)
named_below n k (x ∷ xs) h e = by (eqb x k) refl e (named_below n k xs h.1)
  where
    by : (b : Bool) → eqb x k ≡ b → (b || is_named xs k) ≡ true → (is_named xs k ≡ true → k < n) → k < n
    by true f g ih = let s = eqb-true x k f in let lt = h.0 in omega (arith, s, lt)
    by false f g ih = ih g

each_once : (n : ℕ) (named : List ℕ) → AllBelow n named → IsDistinct nat_eq named → NamesEachOnce n (edit_order n named)
each_once n named below distinct k = by (is_named named k) refl
  where
    all : times k (edit_order n named) ≡ times k named + times k (left_out named k 0 n)
    all = times_both k named (left_out named k 0 n)

    by : (b : Bool) → is_named named k ≡ b → times k (edit_order n named) ≡ (if nat_lt k n then 1 else 0)
    by true e =
        let a = once k named distinct e in
        let b = none_left named k 0 n e in
        let c = cond-true {A = ℕ} (nat_lt k n) 1 0 (lt-ltb k n (named_below n k named below e)) in
        omega (arith, all, a, b, c)
    by false e =
        let a = never k named e in
        ⊎_elim
        (λ (lt : k < n).
        let b = within_from named k 0 n e (omega arith) (omega (arith, lt)) in
        let c = cond-true {A = ℕ} (nat_lt k n) 1 0 (lt-ltb k n lt) in
        omega (arith, all, a, b, c))
        (λ (ge : n ≤ k).
        let b = above_from named k 0 n e (omega (arith, ge)) in
        let c = cond-false {A = ℕ} (nat_lt k n) 1 0 (le-ltb k n ge) in
        omega (arith, all, a, b, c))
        (cases_lt k n)

-- ---- order files

record_below : (d : DictionaryText) (line : List ℕ) (r : ℕ) → record_in d line ≡ Some r → r < length (record_names d)
unfolding record_in
record_below d line r e = by (is_utf8 line) (nat_le (length line) 32) e
  where
    by : (a b : Bool) → (if a then (if b then position (bytes_eq (kept_name line)) (record_names d) else None) else None) ≡ Some r → r < length (record_names d)
    by true true e = place_within (bytes_eq (kept_name line)) (record_names d) r e
    by true false e = absurd (none-some r e)
    by false b e = absurd (none-some r e)

abbrev first : List (Option ℕ) → Option ℕ
first [] = None
first (x ∷ xs) = x

abbrev rest : List (Option ℕ) → List (Option ℕ)
rest [] = []
rest (x ∷ xs) = xs

all_below : (d : DictionaryText) (lines : List (List ℕ)) (rs : List ℕ) → map (record_in d) lines ≡ map Some rs → AllBelow (length (record_names d)) rs
all_below d lines [] e = tt
all_below d [] (r ∷ rs) e = absurd (none-some r (ap first e))
all_below d (l ∷ lines) (r ∷ rs) e = (record_below d l r (ap first e), all_below d lines rs (ap rest e))

pub orders_name_all : OrdersNameAll
orders_name_all d named h =
    let n : length (record_names d) ≡ length (shape_of d).records =
    length-map d.records (λ (r : RecordText). r.name) ∙ sym (length-map d.records (λ (r : RecordText). r.shape))
    in
    each_once (length (shape_of d).records) named (subst (λ n. AllBelow n named) n (all_below d (filter is_there h.0) named h.1.named)) h.1.once
