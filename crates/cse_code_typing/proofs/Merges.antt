-- What the edges of one instruction make of what is known.
use Rattle.std.proofs.Common.{◌≡◌, ℕ, zero, suc, ◌+◌, ◌<◌, ◌≤◌, Bool, true, false, List, [], ◌∷◌, length, Some, None, refl, sym, ap, ◌∙◌, subst, inl, inr, ⊎_elim, arith}
use Rattle.std.specs.Prelude.{slice_set, nat_le, if◌then◌else◌, ◌⊎◌}
use Rattle.std.proofs.lemmas.Bool.{leb-true, leb-false, le-leb, lt-leb, cases_lt, cases_eq}
use Rattle.std.proofs.lemmas.List.{length-set}
use Rattle.cse_code_typing.specs.declared.kind.Kind.{Kind}
use Rattle.cse_code_typing.specs.declared.kind.Kind.TheVariants.{Number, Text, Index, Occurrence}
use Rattle.cse_code_typing.specs.Kinds.{same_kind}
use Rattle.cse_code_typing.specs.Rule.{Edge}
use Rattle.cse_code_typing.specs.Typing.{Stacks, AgreesBelow, LeadsTo}
use Rattle.cse_code_typing.specs.Pass.{Expects, Free, Is, Clash, same_kinds, Known, entry, expected_stack, met, stands, merge}

pub same_kind-eq : (a b : Kind) → same_kind a b ≡ true → a ≡ b
same_kind-eq Number Number h = refl
same_kind-eq Text Text h = refl
same_kind-eq (Index n) (Index m) h = let e : n ≡ m = grind arith in ap Index e
same_kind-eq (Occurrence n) (Occurrence m) h = let e : n ≡ m = grind arith in ap Occurrence e
same_kind-eq Number Text h = cc
same_kind-eq Number (Index m) h = cc
same_kind-eq Number (Occurrence m) h = cc
same_kind-eq Text Number h = cc
same_kind-eq Text (Index m) h = cc
same_kind-eq Text (Occurrence m) h = cc
same_kind-eq (Index n) Number h = cc
same_kind-eq (Index n) Text h = cc
same_kind-eq (Index n) (Occurrence m) h = cc
same_kind-eq (Occurrence n) Number h = cc
same_kind-eq (Occurrence n) Text h = cc
same_kind-eq (Occurrence n) (Index m) h = cc

pub same_kind-refl : (a : Kind) → same_kind a a ≡ true
same_kind-refl Number = refl
same_kind-refl Text = refl
same_kind-refl (Index n) = grind arith
same_kind-refl (Occurrence n) = grind arith

both_true : (a b : Bool) → (if a then b else false) ≡ true → (a ≡ true) × (b ≡ true)
both_true true b h = (refl, h)
both_true false b h = cc

from_both : (a b : Bool) → a ≡ true → b ≡ true → (if a then b else false) ≡ true
from_both a b h k = rw (h, k)

pub same_kinds-eq : (a b : List Kind) → same_kinds a b ≡ true → a ≡ b
same_kinds-eq [] [] h = refl
same_kinds-eq (x ∷ a) (y ∷ b) h =
    let p = both_true (same_kind x y) (same_kinds a b) h in
    let e = same_kind-eq x y p.0 in
    let es = same_kinds-eq a b p.1 in
    cc
same_kinds-eq [] (y ∷ b) h = cc
same_kinds-eq (x ∷ a) [] h = cc

pub same_kinds-refl : (a : List Kind) → same_kinds a a ≡ true
same_kinds-refl [] = refl
same_kinds-refl (x ∷ a) = from_both (same_kind x x) (same_kinds a a) (same_kind-refl x) (same_kinds-refl a)

-- the stack that was found
abbrev pub found : Expects → List Kind
found Free = []
found (Is stack) = stack
found Clash = []

pub found_is : (x : Expects) (s : List Kind) → expected_stack x ≡ Some s → found x ≡ s
found_is Free s h = cc
found_is (Is j) s h = cc
found_is Clash s h = cc

-- the stack is one that the edges so far allow
abbrev pub Allows : Expects → List Kind → Type 0
Allows Free s = Unit {0}
Allows (Is j) s = j ≡ s
Allows Clash s = ⊥

-- an edge with this stack was met
abbrev pub Takes : Expects → List Kind → Type 0
Takes Free s = ⊥
Takes (Is j) s = j ≡ s
Takes Clash s = Unit {0}

pub takes_expected : (x : Expects) (s stack : List Kind) → Takes x s → expected_stack x ≡ Some stack → expected_stack x ≡ Some s
takes_expected Free s stack h e = absurd h
takes_expected (Is j) s stack h e = ap Some h
takes_expected Clash s stack h e = cc

pub allows_met : (x : Expects) (ks s : List Kind) → Allows x s → ks ≡ s → Allows (met x ks) s
allows_met Free ks s h e = e
allows_met (Is js) ks s h e =
    let same : same_kinds js ks ≡ true = ap (same_kinds js) (e ∙ sym h) ∙ same_kinds-refl js in
    subst (λ c. Allows (if c then Is js else Clash) s) (sym same) h
allows_met Clash ks s h e = absurd h

takes_met : (x : Expects) (ks : List Kind) → Takes (met x ks) ks
takes_met Free ks = refl
takes_met (Is js) ks = by (same_kinds js ks) refl
  where
    by : (c : Bool) → same_kinds js ks ≡ c → Takes (if c then Is js else Clash) ks
    by true e = same_kinds-eq js ks e
    by false e = tt
takes_met Clash ks = tt

met_takes : (x : Expects) (ks s : List Kind) → Takes x s → Takes (met x ks) s
met_takes Free ks s h = absurd h
met_takes (Is js) ks s h = by (same_kinds js ks)
  where
    by : (c : Bool) → Takes (if c then Is js else Clash) s
    by true = h
    by false = tt
met_takes Clash ks s h = tt

stands_is : (x : Expects) (s : List Kind) → stands x s ≡ true → expected_stack x ≡ Some s
stands_is Free s h = ap Some (same_kinds-eq [] s h)
stands_is (Is j) s h = ap Some (same_kinds-eq j s h)
stands_is Clash s h = cc

is_stands : (x : Expects) (s : List Kind) → expected_stack x ≡ Some s → stands x s ≡ true
is_stands Free s h = let e : [] ≡ s = cc in subst (λ l. same_kinds [] l ≡ true) e refl
is_stands (Is j) s h = let e : j ≡ s = cc in subst (λ l. same_kinds j l ≡ true) e (same_kinds-refl j)
is_stands Clash s h = cc

set_here : (known : Known) (j : ℕ) (x : Expects) → j < length known → entry (slice_set known j x) j ≡ x
set_here [] j x h = absurd (omega arith)
set_here (y ∷ known) zero x h = refl
set_here (y ∷ known) (suc j) x h = set_here known j x (omega arith)

set_other : (known : Known) (j k : ℕ) (x : Expects) → (j ≡ k → ⊥) → entry (slice_set known j x) k ≡ entry known k
set_other [] j k x h = refl
set_other (y ∷ known) zero zero x h = absurd (h refl)
set_other (y ∷ known) zero (suc k) x h = refl
set_other (y ∷ known) (suc j) zero x h = refl
set_other (y ∷ known) (suc j) (suc k) x h = set_other known j k x (λ e. h (ap suc e))

set_past : (known : Known) (j k : ℕ) (x : Expects) → length known ≤ j → entry (slice_set known j x) k ≡ entry known k
set_past [] j k x h = refl
set_past (y ∷ known) zero k x h = absurd (omega arith)
set_past (y ∷ known) (suc j) zero x h = refl
set_past (y ∷ known) (suc j) (suc k) x h = set_past known j k x (omega arith)

-- what one more edge makes of a list
abbrev put : Known → Edge → Known
put known e = slice_set known e.0 (met (entry known e.0) e.1)

put_takes : (known : Known) (e : Edge) (k : ℕ) (s : List Kind) → Takes (entry known k) s → Takes (entry (put known e) k) s
put_takes known e k s h =
    ⊎_elim
    (λ (lt : e.0 < length known). ⊎_elim
    (λ (same : e.0 ≡ k).
    let was : Takes (entry known e.0) s = subst (λ n. Takes (entry known n) s) (sym same) h in
    subst (λ n. Takes (entry (put known e) n) s) same
    (subst (λ x. Takes x s) (sym (set_here known e.0 (met (entry known e.0) e.1) lt)) (met_takes (entry known e.0) e.1 s was)))
    (λ ne. subst (λ x. Takes x s) (sym (set_other known e.0 k (met (entry known e.0) e.1) ne)) h)
    (cases_eq e.0 k))
    (λ (le : length known ≤ e.0). subst (λ x. Takes x s) (sym (set_past known e.0 k (met (entry known e.0) e.1) le)) h)
    (cases_lt e.0 (length known))

put_allows : (known : Known) (e : Edge) (k : ℕ) (s : List Kind) → (e.0 ≡ k → e.1 ≡ s) → Allows (entry known k) s → Allows (entry (put known e) k) s
put_allows known e k s agrees h =
    ⊎_elim
    (λ (lt : e.0 < length known). ⊎_elim
    (λ (same : e.0 ≡ k).
    let was : Allows (entry known e.0) s = subst (λ n. Allows (entry known n) s) (sym same) h in
    subst (λ n. Allows (entry (put known e) n) s) same
    (subst (λ x. Allows x s) (sym (set_here known e.0 (met (entry known e.0) e.1) lt)) (allows_met (entry known e.0) e.1 s was (agrees same))))
    (λ ne. subst (λ x. Allows x s) (sym (set_other known e.0 k (met (entry known e.0) e.1) ne)) h)
    (cases_eq e.0 k))
    (λ (le : length known ≤ e.0). subst (λ x. Allows x s) (sym (set_past known e.0 k (met (entry known e.0) e.1) le)) h)
    (cases_lt e.0 (length known))

-- one edge of a merge, of which the rest follows: it leads back and stands, or it is put
merge_step : (q : ℕ) (e : Edge) (es : List Edge) (known after : Known) → merge q (e ∷ es) known ≡ Some after
    → ((e.0 ≤ q) × (expected_stack (entry known e.0) ≡ Some e.1) × (merge q es known ≡ Some after)) ⊎ ((q < e.0) × (merge q es (put known e) ≡ Some after))
merge_step q e es known after h = by (nat_le e.0 q) refl h
  where
    back : (c : Bool) → stands (entry known e.0) e.1 ≡ c → (if c then merge q es known else None) ≡ Some after → (expected_stack (entry known e.0) ≡ Some e.1) × (merge q es known ≡ Some after)
    back true s k = (stands_is (entry known e.0) e.1 s, k)
    back false s k = cc

    by : (c : Bool) → nat_le e.0 q ≡ c → (if c then (if stands (entry known e.0) e.1 then merge q es known else None) else merge q es (put known e)) ≡ Some after
        → ((e.0 ≤ q) × (expected_stack (entry known e.0) ≡ Some e.1) × (merge q es known ≡ Some after)) ⊎ ((q < e.0) × (merge q es (put known e) ≡ Some after))
    by true t k = let b = back (stands (entry known e.0) e.1) refl k in inl (leb-true e.0 q t, b.0, b.1)
    by false t k = inr (leb-false e.0 q t, k)

pub merge_length : (q : ℕ) (es : List Edge) (known after : Known) → merge q es known ≡ Some after → length after ≡ length known
merge_length q [] known after h = let e : known ≡ after = cc in ap length (sym e)
merge_length q (e ∷ es) known after h =
    ⊎_elim (λ b. merge_length q es known after b.2)
    (λ f. merge_length q es (put known e) after f.1 ∙ length-set known e.0 (met (entry known e.0) e.1)) (merge_step q e es known after h)

-- places that were passed keep what is known
pub merge_before : (q : ℕ) (es : List Edge) (known after : Known) (k : ℕ) → merge q es known ≡ Some after → k ≤ q → entry after k ≡ entry known k
merge_before q [] known after k h le = let e : known ≡ after = cc in ap (λ l. entry l k) (sym e)
merge_before q (e ∷ es) known after k h le =
    ⊎_elim (λ b. merge_before q es known after k b.2 le)
    (λ f. merge_before q es (put known e) after k f.1 le ∙ set_other known e.0 k (met (entry known e.0) e.1) (λ same. let lt = f.0 in omega arith)) (merge_step q e es known after h)

pub merge_takes : (q : ℕ) (es : List Edge) (known after : Known) (k : ℕ) (s : List Kind) → merge q es known ≡ Some after → Takes (entry known k) s → Takes (entry after k) s
merge_takes q [] known after k s h t = let e : known ≡ after = cc in subst (λ l. Takes (entry l k) s) e t
merge_takes q (e ∷ es) known after k s h t =
    ⊎_elim (λ b. merge_takes q es known after k s b.2 t)
    (λ f. merge_takes q es (put known e) after k s f.1 (put_takes known e k s t)) (merge_step q e es known after h)

-- what an edge has made of the place to which it leads, once the places below q were passed
abbrev pub Took : ℕ → Known → Edge → Type 0
Took q known e = e.0 < length known → (e.0 < q → expected_stack (entry known e.0) ≡ Some e.1) × (q ≤ e.0 → Takes (entry known e.0) e.1)

abbrev pub AllTook : ℕ → Known → List Edge → Type 0
AllTook q known [] = Unit {0}
AllTook q known (e ∷ es) = Took q known e × AllTook q known es

pub merge_took : (q : ℕ) (es : List Edge) (known after : Known) → merge q es known ≡ Some after → AllTook (q + 1) after es
merge_took q [] known after h = tt
merge_took q (e ∷ es) known after h =
    ⊎_elim
    (λ b. ((λ lt. ((λ before. ap expected_stack (merge_before q es known after e.0 b.2 b.0) ∙ b.1), (λ later. let le = b.0 in absurd (omega arith)))), merge_took q es known after b.2))
    (λ f. (
      (λ lt. (
        (λ before. let l = f.0 in absurd (omega arith)),
        (λ later.
            let len : length after ≡ length known = merge_length q es (put known e) after f.1 ∙ length-set known e.0 (met (entry known e.0) e.1) in
            let within : e.0 < length known = omega arith in
            merge_takes q es (put known e) after e.0 e.1 f.1
            (subst (λ x. Takes x e.1) (sym (set_here known e.0 (met (entry known e.0) e.1) within)) (takes_met (entry known e.0) e.1))),
      )),
      merge_took q es (put known e) after f.1,
    ))
    (merge_step q e es known after h)

-- a place keeps what is known of it, or is later and led to
pub merge_led : (q : ℕ) (es : List Edge) (known after : Known) (k : ℕ) → merge q es known ≡ Some after → (entry after k ≡ entry known k) ⊎ ((q < k) × LeadsTo k es)
merge_led q [] known after k h = let e : known ≡ after = cc in inl (ap (λ l. entry l k) (sym e))
merge_led q (e ∷ es) known after k h =
    ⊎_elim
    (λ b. ⊎_elim (λ same. inl same) (λ led. inr (led.0, inr led.1)) (merge_led q es known after k b.2))
    (λ f. ⊎_elim
    (λ same. ⊎_elim (λ (here : e.0 ≡ k). inr (subst (λ n. q < n) here f.0, inl here))
    (λ ne. inl (same ∙ set_other known e.0 k (met (entry known e.0) e.1) ne)) (cases_eq e.0 k))
    (λ led. inr (led.0, inr led.1)) (merge_led q es (put known e) after k f.1))
    (merge_step q e es known after h)

-- where the stacks agree with the edges, they stay allowed
pub merge_allows : (n q : ℕ) (t : Stacks) (es : List Edge) (known after : Known) → merge q es known ≡ Some after → AgreesBelow n t es
    → ((k : ℕ) → k < n → Allows (entry known k) (t k)) → (k : ℕ) → k < n → Allows (entry after k) (t k)
merge_allows n q t [] known after h agrees allowed k lt = let e : known ≡ after = cc in subst (λ l. Allows (entry l k) (t k)) e (allowed k lt)
merge_allows n q t (e ∷ es) known after h agrees allowed k lt =
    ⊎_elim (λ b. merge_allows n q t es known after b.2 agrees.1 allowed k lt)
    (λ f. merge_allows n q t es (put known e) after f.1 agrees.1
    (λ j jl. put_allows known e j (t j) (λ same. sym (subst (λ m. m < n → t m ≡ e.1) same agrees.0 jl)) (allowed j jl)) k lt)
    (merge_step q e es known after h)

-- and then the edges can be merged
pub merge_goes : (n q : ℕ) (t : Stacks) (es : List Edge) (known : Known) → q < n → AgreesBelow n t es
    → ((k : ℕ) → k ≤ q → expected_stack (entry known k) ≡ Some (t k)) → (after : Known) × (merge q es known ≡ Some after)
merge_goes n q t [] known lt agrees same = (known, refl)
merge_goes n q t (e ∷ es) known lt agrees same =
    ⊎_elim
    (λ (le : e.0 ≤ q).
    let s : stands (entry known e.0) e.1 ≡ true = is_stands (entry known e.0) e.1 (same e.0 le ∙ ap Some (agrees.0 (omega arith))) in
    let rest = merge_goes n q t es known lt agrees.1 same in
    let k : nat_le e.0 q ≡ true = le-leb e.0 q le in
    (rest.0, rw (k, s) rest.1))
    (λ (l : q < e.0).
    let rest = merge_goes n q t es (put known e) lt agrees.1 (λ k kl. ap expected_stack (set_other known e.0 k (met (entry known e.0) e.1) (λ eq. omega arith)) ∙ same k kl) in
    let k : nat_le e.0 q ≡ false = lt-leb e.0 q l in
    (rest.0, rw k rest.1))
    (le_or e.0 q)
  where
    le_or : (a b : ℕ) → (a ≤ b) ⊎ (b < a)
    le_or a b = ⊎_elim (λ l. inr l) (λ l. inl l) (cases_lt b a)
