-- The table of events keeps the number of each handler.
use Rattle.std.proofs.Common.{◌≡◌, ℕ, zero, suc, ◌+◌, Bool, true, false, cond, List, [], ◌∷◌, map, Option, Some, slice_get, nat_eq, refl, ap, subst, ◌∙◌, arith}
use Rattle.std.specs.Prelude.{if◌then◌else◌, unwrap_or}
use Rattle.std.specs.List.{AllByRecursion, IsDistinct}
use Rattle.std.specs.Map.{lookup}
use Rattle.std.proofs.lemmas.Bool.{eq-eqb, eqb-true, and_parts}
use Rattle.indexmap.specs.IndexMap.{insert_entry}
use Rattle.cse_compile.specs.Outline.{Handler}
use Rattle.cse_compile.specs.Events.{Table, is_key, with_event, table_from}
use Rattle.cse_compile.specs.Numbers.{key_of, HandlersKeepNumbers}

-- ---- keys

key_self : (k : ℕ × ℕ) → is_key k k ≡ true
key_self k = rw (eq-eqb k.0 k.0 refl) (eq-eqb k.1 k.1 refl)

-- a key that is another one's is compared as that
pub key_other : (k x y : ℕ × ℕ) → is_key x y ≡ true → is_key k y ≡ is_key k x
key_other k x y h =
    let a : x.0 ≡ y.0 = eqb-true x.0 y.0 (and_parts (nat_eq x.0 y.0) (nat_eq x.1 y.1) h).0 in
    let b : x.1 ≡ y.1 = eqb-true x.1 y.1 (and_parts (nat_eq x.0 y.0) (nat_eq x.1 y.1) h).1 in
    rw (a, b) refl

-- ---- tables

found_put : (k : ℕ × ℕ) (v : ℕ) (table : Table) → lookup (is_key k) (insert_entry is_key table k v) ≡ Some v
found_put k v [] = rw (key_self k) refl
found_put k v (e ∷ es) = by (is_key k e.0) refl (found_put k v es)
  where
    by : (b : Bool) → is_key k e.0 ≡ b → lookup (is_key k) (insert_entry is_key es k v) ≡ Some v → lookup (is_key k) (if b then (e.0, v) ∷ es else e ∷ insert_entry is_key es k v) ≡ Some v
    by true h ih = rw h refl
    by false h ih = rw h ih

other_put : (k x : ℕ × ℕ) (v : ℕ) (table : Table) → is_key k x ≡ false → lookup (is_key k) (insert_entry is_key table x v) ≡ lookup (is_key k) table
other_put k x v [] h = rw h refl
other_put k x v (e ∷ es) h = by (is_key x e.0) refl (other_put k x v es h)
  where
    by : (b : Bool) → is_key x e.0 ≡ b → lookup (is_key k) (insert_entry is_key es x v) ≡ lookup (is_key k) es → lookup (is_key k) (if b then (e.0, v) ∷ es else e ∷ insert_entry is_key es x v) ≡ lookup (is_key k) (e ∷ es)
    by true same ih = let none : is_key k e.0 ≡ false = key_other k x e.0 same ∙ h in rw none refl
    by false same ih = ap (λ o. cond (is_key k e.0) (Some e.1) o) ih

-- ---- handlers

kept : (k : ℕ × ℕ) (v n : ℕ) (table : Table) (xs : List Handler) → lookup (is_key k) table ≡ Some v → AllByRecursion (λ y. is_key k y ≡ false) (map key_of xs) → lookup (is_key k) (table_from table n xs) ≡ Some v
kept k v n table [] h a = h
kept k v n table (x ∷ xs) h a = kept k v (n + 1) (with_event table x.event n) xs (other_put k (key_of x) n table a.0 ∙ h) a.1

numbered : (table : Table) (n k : ℕ) (xs : List Handler) (x : Handler) → IsDistinct is_key (map key_of xs) → slice_get xs k ≡ Some x → lookup (is_key (key_of x)) (table_from table n xs) ≡ Some (n + k)
unfolding IsDistinct
numbered table n k [] x a h = cc
numbered table n zero (y ∷ ys) x a h =
    let same : y ≡ x = ap (λ (o : Option Handler). unwrap_or o y) h in
    subst (λ (z : Handler). lookup (is_key (key_of z)) (table_from (with_event table y.event n) (n + 1) ys) ≡ Some (n + 0)) same
    (kept (key_of y) n (n + 1) (with_event table y.event n) ys (found_put (key_of y) n table) a.0 ∙ ap Some (omega arith))
numbered table n (suc k) (y ∷ ys) x a h = numbered (with_event table y.event n) (n + 1) k ys x a.1 h ∙ ap Some (omega arith)

pub handlers_keep_numbers : HandlersKeepNumbers
handlers_keep_numbers n k xs x a h = numbered [] n k xs x a h
