-- How often an order names a record.
use Rattle.std.proofs.Common.{◌≡◌, ℕ, ◌<◌, ◌≤◌, Bool, true, false, ltb, eqb, cond, List, [], ◌∷◌, refl, sym, ◌∙◌, ⊎_elim, arith}
use Rattle.std.specs.Prelude.{count_by}
use Rattle.std.specs.List.{list_all}
use Rattle.std.proofs.lemmas.Bool.{and_parts, and_cases, ltb-true, ltb-false, ne_eqb, eq-eqb, cond-true, cond-false, cases_lt, lt-ltb, le-ltb}
use Rattle.std.proofs.lemmas.List.Sums.{sum_by-cons}
use Rattle.cse_code_typing.specs.Order.{NamesEachOnce}

abbrev times : ℕ → List ℕ → ℕ
times k order = count_by (λ o. eqb o k) order

none_above : (order : List ℕ) (n k : ℕ) → list_all (λ o. ltb o n) order ≡ true → n ≤ k → times k order ≡ 0
none_above [] n k h le = refl
none_above (o ∷ os) n k h le =
    let p = and_parts (ltb o n) (list_all (λ o. ltb o n) os) h in
    let lt = ltb-true o n p.0 in
    let ih = none_above os n k p.1 le in
    let c = cond-false {A = ℕ} (eqb o k) 1 0 (ne_eqb o k (λ e. omega arith)) in
    let s = sum_by-cons (λ (o : ℕ). cond (eqb o k) 1 0) o os in
    omega (arith, s, c, ih)

some_above : (order : List ℕ) (n : ℕ) → list_all (λ o. ltb o n) order ≡ false → (k : ℕ) × (n ≤ k) × (0 < times k order)
some_above [] n h = cc
some_above (o ∷ os) n h =
    ⊎_elim
    (λ here.
    let c = cond-true {A = ℕ} (eqb o o) 1 0 (eq-eqb o o refl) in
    let s = sum_by-cons (λ (x : ℕ). cond (eqb x o) 1 0) o os in
    (o, ltb-false o n here, omega (arith, s, c)))
    (λ later.
    let r = some_above os n later in
    let s = sum_by-cons (λ (x : ℕ). cond (eqb x r.0) 1 0) o os in
    let m = r.2 in
    (r.0, r.1, omega (arith, s, m)))
    (and_cases (ltb o n) (list_all (λ o. ltb o n) os) h)

pub not_named : (order : List ℕ) (n : ℕ) (below : Bool) → below ≡ list_all (λ o. ltb o n) order → below ≡ false → NamesEachOnce n order → ⊥
not_named order n below is fails names =
    let r = some_above order n (sym is ∙ fails) in
    let e = names r.0 ∙ cond-false {A = ℕ} (ltb r.0 n) 1 0 (le-ltb r.0 n r.1) in
    let m = r.2 in
    omega (arith, e, m)

pub not_once : (order : List ℕ) (n k : ℕ) → k < n → (times k order ≡ 1 → ⊥) → NamesEachOnce n order → ⊥
not_once order n k lt ne names = ne (names k ∙ cond-true {A = ℕ} (ltb k n) 1 0 (lt-ltb k n lt))

pub each_once : (order : List ℕ) (n m : ℕ) (below : Bool) → below ≡ list_all (λ o. ltb o n) order → below ≡ true → n ≤ m → ((k : ℕ) → k < m → times k order ≡ 1) → NamesEachOnce n order
each_once order n m below is holds le once k =
    ⊎_elim
    (λ (lt : k < n). once k (omega arith) ∙ sym (cond-true {A = ℕ} (ltb k n) 1 0 (lt-ltb k n lt)))
    (λ (ge : n ≤ k). none_above order n k (sym is ∙ holds) ge ∙ sym (cond-false {A = ℕ} (ltb k n) 1 0 (le-ltb k n ge)))
    (cases_lt k n)
