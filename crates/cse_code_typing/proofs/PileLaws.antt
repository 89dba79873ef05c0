-- Stacks by number.
use Rattle.std.proofs.Common.{◌≡◌, ℕ, zero, suc, ◌+◌, ◌-◌, ◌<◌, ◌≤◌, eqb, List, [], ◌∷◌, length, reverse, get_or, Some, refl, sym, ap, ◌∙◌, subst, arith}
use Rattle.std.specs.Prelude.{slice_get, slice_set}
use Rattle.std.proofs.lemmas.Bool.{cond-true, cond-false, eq-eqb, ne_eqb}
use Rattle.std.proofs.lemmas.Option.{slice_get-get_or}
use Rattle.std.proofs.lemmas.List.{get_or-reverse, length-reverse}
use Rattle.cse_code_typing.specs.declared.piles.PileEntry.{PileEntry}
use Rattle.cse_code_typing.specs.declared.piles.Expected.{Expected}
use Rattle.cse_code_typing.specs.declared.piles.Expected.TheVariants as numbered
use Rattle.cse_code_typing.specs.Piles.{stack_of, IsGrown, expects}
use Rattle.cse_code_typing.specs.Pass.{Is, entry}
use Rattle.cse_code_typing.specs.Edges.{known_of}
use Rattle.cse_code_typing.specs.Within.{IsWithin, AreWithin, expected_in, KeepsStacks}

-- an earlier stack stays
pub kept_below : (e : PileEntry) (older : List PileEntry) (n : ℕ) → n ≤ length older → stack_of (e ∷ older) n ≡ stack_of older n
unfolding stack_of
kept_below e older n le = cond-false (eqb n (length older + 1)) _ _ (ne_eqb n (length older + 1) (λ same. omega arith))

pub newest : (e : PileEntry) (older : List PileEntry) (n : ℕ) → n ≡ length older + 1 → stack_of (e ∷ older) n ≡ e.kind ∷ stack_of older e.below
unfolding stack_of
newest e older n is = cond-true (eqb n (length older + 1)) _ _ (eq-eqb n (length older + 1) is)

pub zero_empty : (table : List PileEntry) → stack_of table 0 ≡ []
unfolding stack_of
zero_empty [] = refl
zero_empty (e ∷ older) = kept_below e older 0 (omega arith) ∙ zero_empty older

at_number : (table : List PileEntry) (j n : ℕ) (e : PileEntry) → j + n ≡ length table → 0 < n → slice_get table j ≡ Some e → IsGrown table → (stack_of table n ≡ e.kind ∷ stack_of table e.below) × (e.below < n)
at_number [] j n e count some at grown = cc
at_number (x ∷ older) zero n e count some at grown =
    let same : x ≡ e = cc in
    let le : e.below ≤ length older = subst (λ (y : PileEntry). y.below ≤ length older) same grown.0 in
    (newest x older n (omega arith) ∙ ap (λ (y : PileEntry). y.kind ∷ stack_of older y.below) same ∙ ap (λ l. e.kind ∷ l) (sym (kept_below x older e.below le)), omega arith)
at_number (x ∷ older) (suc j) n e count some at grown =
    let ih = at_number older j n e (omega arith) some at grown.1 in
    (kept_below x older n (omega arith) ∙ ih.0 ∙ ap (λ l. e.kind ∷ l) (sym (kept_below x older e.below (let lt = ih.1 in omega arith))), ih.1)

pub taken : (items table : List PileEntry) (n : ℕ) (e : PileEntry) → reverse items ≡ table → IsGrown (reverse items) → 0 < n → n ≤ length table → e ≡ get_or items (n - 1) e → (stack_of table n ≡ e.kind ∷ stack_of table e.below) × (e.below < n)
taken items table n e is grown some le read =
    let count : length items ≡ length table = sym (length-reverse items) ∙ ap length is in
    let j : ℕ = length items - n in
    let back : length items - 1 - j ≡ n - 1 = omega arith in
    let at : slice_get (reverse items) j ≡ Some e = slice_get-get_or (reverse items) j e (let l = length-reverse items in omega arith) ∙ ap Some (get_or-reverse items j e (omega arith) ∙ ap (λ m. get_or items m e) back ∙ sym read) in
    let f = at_number (reverse items) j n e (let l = length-reverse items in omega arith) some at grown in
    subst (λ l. (stack_of l n ≡ e.kind ∷ stack_of l e.below) × (e.below < n)) is f

-- one more entry keeps the stacks
pub push_keeps : (e : PileEntry) (old new : List PileEntry) → new ≡ e ∷ old → KeepsStacks old new
push_keeps e old new is = subst (KeepsStacks old) (sym is) (record { longer = omega arith; same = λ n le. kept_below e old n le })

pub push_stack : (e : PileEntry) (old new : List PileEntry) (n : ℕ) → new ≡ e ∷ old → n ≡ length old + 1 → stack_of new n ≡ e.kind ∷ stack_of old e.below
push_stack e old new n is at = ap (λ t. stack_of t n) is ∙ newest e old n at

pub expects_kept : (old new : List PileEntry) (x : Expected) → KeepsStacks old new → IsWithin (length old) x → expects new x ≡ expects old x
expects_kept old new numbered.Free keeps h = refl
expects_kept old new (numbered.Is k) keeps h = ap Is (keeps.same k h)
expects_kept old new numbered.Clash keeps h = refl

tail_within : (n : ℕ) (x : Expected) (known : List Expected) → AreWithin n (x ∷ known) → AreWithin n known
tail_within n x known h = record { each = λ k. h.each (suc k) }

pub known_kept : (old new : List PileEntry) (known : List Expected) → KeepsStacks old new → AreWithin (length old) known → known_of new known ≡ known_of old known
known_kept old new [] keeps h = refl
known_kept old new (x ∷ known) keeps h =
    ap (λ y. y ∷ known_of new known) (expects_kept old new x keeps (h.each 0)) ∙ ap (λ l. expects old x ∷ l) (known_kept old new known keeps (tail_within (length old) x known h))

more_within : (m n : ℕ) (x : Expected) → m ≤ n → IsWithin m x → IsWithin n x
more_within m n numbered.Free le h = tt
more_within m n (numbered.Is k) le h = omega arith
more_within m n numbered.Clash le h = tt

pub known_within : (old new : List PileEntry) (known : List Expected) → KeepsStacks old new → AreWithin (length old) known → AreWithin (length new) known
known_within old new known keeps h = record { each = λ k. more_within (length old) (length new) (expected_in known k) keeps.longer (h.each k) }

-- what is known at a place
pub entry-known_of : (table : List PileEntry) (known : List Expected) (k : ℕ) → entry (known_of table known) k ≡ expects table (expected_in known k)
entry-known_of table [] k = refl
entry-known_of table (x ∷ known) zero = refl
entry-known_of table (x ∷ known) (suc k) = entry-known_of table known k

pub known_of-set : (table : List PileEntry) (known : List Expected) (k : ℕ) (x : Expected) → known_of table (slice_set known k x) ≡ slice_set (known_of table known) k (expects table x)
known_of-set table [] k x = refl
known_of-set table (y ∷ known) zero x = refl
known_of-set table (y ∷ known) (suc k) x = ap (λ l. expects table y ∷ l) (known_of-set table known k x)

pub set_within : (n : ℕ) (known : List Expected) (j : ℕ) (x : Expected) → AreWithin n known → IsWithin n x → AreWithin n (slice_set known j x)
set_within n known j x h w = record { each = λ k. at known j k (λ m. h.each m) }
  where
    at : (l : List Expected) (j k : ℕ) → ((m : ℕ) → IsWithin n (expected_in l m)) → IsWithin n (expected_in (slice_set l j x) k)
    at [] j k g = tt
    at (y ∷ l) zero zero g = w
    at (y ∷ l) zero (suc k) g = g (suc k)
    at (y ∷ l) (suc j) zero g = g 0
    at (y ∷ l) (suc j) (suc k) g = at l j k (λ m. g (suc m))
