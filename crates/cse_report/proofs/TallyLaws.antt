-- What a value more makes of the counts that are looked up.
use Rattle.std.proofs.Common.{◌≡◌, ◌∙◌, ◌+◌, ℕ, zero, suc, true, false, Bool, cond, List, [], ◌∷◌, ◌++◌, Some, None, refl, sym, ap, arith}
use Rattle.std.specs.Prelude.{position, slice_get, slice_set}
use Rattle.std.specs.List.{position_from}
use Rattle.std.specs.Map.{keys_of, lookup}
use Rattle.std.proofs.lemmas.Option.{same_Some}
use Rattle.std.proofs.lemmas.Iterator.Adapters.{position_from-zero}
use Rattle.cse_ordered.proofs.Laws.{from_on}
use Rattle.cse_value.specs.declared.number.Num.{Num}
use Rattle.cse_value.specs.declared.number.Num.TheVariants as nums
use Rattle.cse_value.specs.Number.{is_same}
use Rattle.cse_report.specs.Counts.{one_more}
use Rattle.cse_report.specs.Frequency.{Table, tallied}
use Rattle.cse_report.specs.Values.{num_of, key_of, table_of}
use Rattle.cse_report.specs.declared.counts.Value.{Value}
use Rattle.cse_report.specs.declared.counts.Value.TheVariants as values
use Rattle.cse_report.specs.contracts.counts.ValuePartialEq.TheImpl.{eq-value}

num_of-key_of : (v : Num) → num_of (key_of v) ≡ v
num_of-key_of (nums.Whole z) = refl
num_of-key_of nums.NotAppl = refl
num_of-key_of nums.Missing = refl
num_of-key_of nums.Undef = refl

-- keys are equal where the values are the same
same_keys : (v : Num) (k : Value) → eq-value.it (key_of v) k ≡ is_same v (num_of k)
same_keys (nums.Whole z) (values.Whole y) = refl
same_keys (nums.Whole z) values.NotAppl = refl
same_keys (nums.Whole z) values.Missing = refl
same_keys (nums.Whole z) values.Undef = refl
same_keys nums.NotAppl (values.Whole y) = refl
same_keys nums.NotAppl values.NotAppl = refl
same_keys nums.NotAppl values.Missing = refl
same_keys nums.NotAppl values.Undef = refl
same_keys nums.Missing (values.Whole y) = refl
same_keys nums.Missing values.NotAppl = refl
same_keys nums.Missing values.Missing = refl
same_keys nums.Missing values.Undef = refl
same_keys nums.Undef (values.Whole y) = refl
same_keys nums.Undef values.NotAppl = refl
same_keys nums.Undef values.Missing = refl
same_keys nums.Undef values.Undef = refl

module _ (eq : Value → Value → Bool) (v : Num) (same : (k : Value) → eq (key_of v) k ≡ is_same v (num_of k)) where
  abbrev test : Value → Bool
  test = eq (key_of v)

  first : (es : List (Value × ℕ)) → lookup test es ≡ None → table_of (es ++ (key_of v, 1) ∷ []) ≡ tallied v (table_of es)
  first [] h = ap (λ (n : Num). (n, 1) ∷ []) (num_of-key_of v)
  first (e ∷ es) h = rw (← same e.0) (by (first es) (test e.0) h)
    where
      by : (lookup test es ≡ None → table_of (es ++ (key_of v, 1) ∷ []) ≡ tallied v (table_of es)) → (b : Bool) → cond b (Some e.1) (lookup test es) ≡ None
          → (num_of e.0, e.1) ∷ table_of (es ++ (key_of v, 1) ∷ []) ≡ cond b ((num_of e.0, one_more e.1) ∷ table_of es) ((num_of e.0, e.1) ∷ tallied v (table_of es))
      by rest true k = cc
      by rest false k = ap (λ (t : Table). (num_of e.0, e.1) ∷ t) (rest k)

  again : (es : List (Value × ℕ)) (n i : ℕ) (e : Value × ℕ) → position_from test n (keys_of es) ≡ Some (n + i) → slice_get es i ≡ Some e
      → table_of (slice_set es i (e.0, one_more e.1)) ≡ tallied v (table_of es)
  again [] n i e h at = cc
  again (x ∷ es) n i e h at = rw (← same x.0) (by (again es (n + 1)) (test x.0) i h at)
    where
      by : ((i : ℕ) (e : Value × ℕ) → position_from test (n + 1) (keys_of es) ≡ Some (n + 1 + i) → slice_get es i ≡ Some e → table_of (slice_set es i (e.0, one_more e.1)) ≡ tallied v (table_of es))
          → (b : Bool) → (i : ℕ) → cond b (Some n) (position_from test (n + 1) (keys_of es)) ≡ Some (n + i) → slice_get (x ∷ es) i ≡ Some e
          → table_of (slice_set (x ∷ es) i (e.0, one_more e.1)) ≡ cond b ((num_of x.0, one_more x.1) ∷ table_of es) ((num_of x.0, x.1) ∷ tallied v (table_of es))
      by rest true zero k at = ap (λ (y : Value × ℕ). (num_of y.0, one_more y.1) ∷ table_of es) (sym (same_Some x e at))
      by rest true (suc i) k at =
          let is = same_Some n (n + suc i) k in
          absurd (omega arith)
      by rest false zero k at =
          let le = from_on test (keys_of es) (n + 1) (n + 0) k in
          absurd (omega arith)
      by rest false (suc i) k at =
          let is : n + suc i ≡ n + 1 + i = omega arith in
          ap (λ (t : Table). (num_of x.0, x.1) ∷ t) (rest i e (k ∙ ap (λ p. Some p) is) at)

-- a value that is not there comes last
pub tally_first : (v : Num) (es : List (Value × ℕ)) → lookup (eq-value.it (key_of v)) es ≡ None → table_of (es ++ (key_of v, 1) ∷ []) ≡ tallied v (table_of es)
tally_first v es h = first eq-value.it v (same_keys v) es h

-- one that is there is counted at its place
pub tally_again : (v : Num) (es : List (Value × ℕ)) (i : ℕ) (e : Value × ℕ) → position (eq-value.it (key_of v)) (keys_of es) ≡ Some i → slice_get es i ≡ Some e
    → table_of (slice_set es i (e.0, one_more e.1)) ≡ tallied v (table_of es)
tally_again v es i e h at =
    let is : i ≡ 0 + i = omega arith in
    again eq-value.it v (same_keys v) es 0 i e (sym (position_from-zero (eq-value.it (key_of v)) (keys_of es)) ∙ h ∙ ap (λ p. Some p) is) at
