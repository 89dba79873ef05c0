-- Entries with keys, and their places.
use Rattle.std.proofs.Common.{◌≡◌, ◌∙◌, ◌≤◌, ◌+◌, ℕ, zero, suc, Bool, true, false, cond, List, [], ◌∷◌, ◌++◌, Option, Some, None, length, refl, sym, ap, arith}
use Rattle.std.specs.Prelude.{option_map, position, slice_get, slice_set}
use Rattle.std.specs.List.{position_from}
use Rattle.std.specs.Prelude.{Result, Ok, Err, IsErr, OnErr, OnOk}
use Rattle.std.specs.Map.{KeepsOthers, keys_of, lookup}
use Rattle.std.specs.Cmp.{IsEquivalence}
use Rattle.std.proofs.lemmas.Option.{same_Some}
use Rattle.std.proofs.lemmas.Iterator.Adapters.{position_from-zero}

-- a place that is looked for from n on is not below it
pub from_on : {K : Type 0} (t : K → Bool) (xs : List K) (n p : ℕ) → position_from t n xs ≡ Some p → n ≤ p
from_on t [] n p h = cc
from_on {K} t (x ∷ xs) n p h = by (from_on t xs (n + 1) p) (t x) h
  where
    by : (position_from t (n + 1) xs ≡ Some p → n + 1 ≤ p) → (b : Bool) → cond b (Some n) (position_from t (n + 1) xs) ≡ Some p → n ≤ p
    by rest true h =
        let is = same_Some n p h in
        omega arith
    by rest false h =
        let le = rest h in
        omega arith

module _ {K V : Type 0} where
  none_from : (t : K → Bool) (es : List (K × V)) (n : ℕ) → position_from t n (keys_of es) ≡ None → lookup t es ≡ None
  none_from t [] n h = refl
  none_from t (e ∷ es) n h = by (none_from t es (n + 1)) (t e.0) h
    where
      by : (position_from t (n + 1) (keys_of es) ≡ None → lookup t es ≡ None) → (b : Bool)
          → cond b (Some n) (position_from t (n + 1) (keys_of es)) ≡ None → cond b (Some e.1) (lookup t es) ≡ None
      by rest true k = cc
      by rest false k = rest k

  -- a key without a place has no value
  pub lookup_nowhere : (t : K → Bool) (es : List (K × V)) → position t (keys_of es) ≡ None → lookup t es ≡ None
  lookup_nowhere t es h = none_from t es 0 (sym (position_from-zero t (keys_of es)) ∙ h)

  found_from : (t : K → Bool) (es : List (K × V)) (n i : ℕ) (e : K × V) → position_from t n (keys_of es) ≡ Some (n + i) → slice_get es i ≡ Some e → lookup t es ≡ Some e.1
  found_from t [] n i e h at = cc
  found_from t (x ∷ es) n i e h at = by (found_from t es (n + 1)) (t x.0) i h at
    where
      by : ((i : ℕ) (e : K × V) → position_from t (n + 1) (keys_of es) ≡ Some (n + 1 + i) → slice_get es i ≡ Some e → lookup t es ≡ Some e.1) → (b : Bool)
          → (i : ℕ) → cond b (Some n) (position_from t (n + 1) (keys_of es)) ≡ Some (n + i) → slice_get (x ∷ es) i ≡ Some e → cond b (Some x.1) (lookup t es) ≡ Some e.1
      by rest true zero k at = ap (λ (y : K × V). Some y.1) (same_Some x e at)
      by rest true (suc i) k at =
          let is = same_Some n (n + suc i) k in
          absurd (omega arith)
      by rest false zero k at =
          let le = from_on t (keys_of es) (n + 1) (n + 0) k in
          absurd (omega arith)
      by rest false (suc i) k at =
          let is : n + suc i ≡ n + 1 + i = omega arith in
          rest i e (k ∙ ap (λ p. Some p) is) at

  -- the value of a key stands at its place
  pub lookup_there : (t : K → Bool) (es : List (K × V)) (i : ℕ) (e : K × V) → position t (keys_of es) ≡ Some i → slice_get es i ≡ Some e → lookup t es ≡ Some e.1
  lookup_there t es i e h at =
      let is : i ≡ 0 + i = omega arith in
      found_from t es 0 i e (sym (position_from-zero t (keys_of es)) ∙ h ∙ ap (λ p. Some p) is) at

  pub lookup_value : (t : K → Bool) (es : List (K × V)) (i : ℕ) (v : V) → position t (keys_of es) ≡ Some i → option_map (λ e. e.1) (slice_get es i) ≡ Some v → lookup t es ≡ Some v
  lookup_value t es i v h at = by (slice_get es i) refl at
    where
      by : (o : Option (K × V)) → slice_get es i ≡ o → option_map (λ e. e.1) o ≡ Some v → lookup t es ≡ Some v
      by None is k = cc
      by (Some e) is k = lookup_there t es i e h is ∙ k

  module _ (eq : K → K → Bool) (laws : IsEquivalence eq) (k q : K) (v : V) where
    apart : (b : Bool) (e : K × V) (o : Option V) → eq k e.0 ≡ b → cond b (Some e.1) o ≡ None → (eq k e.0 ≡ false) × (o ≡ None)
    apart true e o is h = cc
    apart false e o is h = (is, h)

    pushed_from : (es : List (K × V)) (n : ℕ) → lookup (eq k) es ≡ None
        → position_from (eq q) n (keys_of (es ++ (k, v) ∷ [])) ≡ cond (eq k q) (Some (n + length es)) (position_from (eq q) n (keys_of es))
    pushed_from [] n h =
        let is : n ≡ n + 0 = omega arith in
        ap (λ b. cond b (Some n) None) (laws.symm q k) ∙ ap (λ m. cond (eq k q) (Some m) None) is
    pushed_from (e ∷ es) n h =
        let parts = apart (eq k e.0) e (lookup (eq k) es) refl h in
        ap (λ o. cond (eq q e.0) (Some n) o) (pushed_from es (n + 1) parts.1)
        ∙ by (eq k q) refl (position_from (eq q) (n + 1) (keys_of es)) parts.0
      where
        by : (b : Bool) → eq k q ≡ b → (o : Option ℕ) → eq k e.0 ≡ false
            → cond (eq q e.0) (Some n) (cond b (Some (n + 1 + length es)) o) ≡ cond b (Some (n + length (e ∷ es))) (cond (eq q e.0) (Some n) o)
        by true is o other =
            let far : n + 1 + length es ≡ n + length (e ∷ es) = omega arith in
            ap (λ c. cond c (Some n) (Some (n + 1 + length es))) (sym (laws.congr k q e.0 is) ∙ other) ∙ ap (λ m. Some m) far
        by false is o other = refl

    -- one entry more has the place behind the others
    pub position_pushed : (es : List (K × V)) → lookup (eq k) es ≡ None
        → position (eq q) (keys_of (es ++ (k, v) ∷ [])) ≡ cond (eq k q) (Some (length es)) (position (eq q) (keys_of es))
    position_pushed es h =
        let is : 0 + length es ≡ length es = omega arith in
        position_from-zero (eq q) (keys_of (es ++ (k, v) ∷ [])) ∙ pushed_from es 0 h
        ∙ ap (λ n. cond (eq k q) (Some n) (position_from (eq q) 0 (keys_of es))) is
        ∙ ap (λ o. cond (eq k q) (Some (length es)) o) (sym (position_from-zero (eq q) (keys_of es)))

  -- another value keeps the keys
  pub keys_kept : (es : List (K × V)) (i : ℕ) (x : K × V) (v : V) → slice_get es i ≡ Some x → keys_of (slice_set es i (x.0, v)) ≡ keys_of es
  keys_kept [] i x v h = refl
  keys_kept (e ∷ es) zero x v h = ap (λ (y : K × V). y.0 ∷ keys_of es) (sym (same_Some e x h))
  keys_kept (e ∷ es) (suc i) x v h = ap (λ ks. e.0 ∷ ks) (keys_kept es i x v h)

-- names as keys that hold them: what was put at one of them is found by its name, and nothing else has changed
module _ {K N X : Type 0} (f : K → N) (eq : N → N → Bool) (laws : IsEquivalence eq) (k : N) (old new : List (K × X)) (w : Option X) where
  pub lookup_named_new : ((q r : N) → eq q r ≡ true → q ≡ r) → KeepsOthers (λ x y. eq (f x) (f y)) (λ y. eq k (f y)) old new → lookup (λ y. eq k (f y)) new ≡ w
      → (q : N) → lookup (λ y. eq q (f y)) new ≡ cond (eq k q) w (lookup (λ y. eq q (f y)) old)
  unfolding KeepsOthers
  lookup_named_new decides keeps has q = by (eq k q) refl
    where
      by : (b : Bool) → eq k q ≡ b → lookup (λ y. eq q (f y)) new ≡ cond b w (lookup (λ y. eq q (f y)) old)
      by true is = ap (λ n. lookup (λ y. eq n (f y)) new) (sym (decides k q is)) ∙ has
      by false is = keeps (λ y. eq q (f y)) (λ x y h. laws.congr q (f x) (f y) h)
          (λ y h. laws.symm q (f y) ∙ sym (laws.congr k (f y) q h) ∙ is)

-- a clause on success, and one on an error, at an error
pub no_ok : {T E : Type 0} (P : Type 0) (r : Result T E) → IsErr r → OnOk r P
no_ok P (Ok x) h = cc
no_ok P (Err y) h = tt

pub if_err : {T E P : Type 0} (r : Result T E) → P → OnErr r P
if_err (Ok x) p = tt
if_err (Err y) p = p
