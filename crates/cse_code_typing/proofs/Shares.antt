-- Equal stacks have equal numbers.
use Rattle.std.proofs.Common.{◌≡◌, ℕ, zero, suc, ◌+◌, ◌-◌, ◌<◌, ◌≤◌, true, false, eqb, List, [], ◌∷◌, ◌++◌, length, reverse, get_or, Some, None, refl, sym, ap, ◌∙◌, subst, ⊎_elim, arith}
use Rattle.std.specs.Prelude.{slice_get, if◌then◌else◌}
use Rattle.std.proofs.lemmas.Bool.{cond-true, cond-false, eq-eqb, eqb-true, ne_eqb, cases_eq, cases_lt, cases_Bool, and_parts, and_from}
use Rattle.std.proofs.lemmas.Option.{same_Some, slice_get-get_or}
use Rattle.std.proofs.lemmas.List.{get_or-reverse, length-reverse, length-append, reverse-append}
use Rattle.cse_lemmas.proofs.Options.{none_and_some}
use Rattle.cse_code_typing.specs.declared.kind.Kind.{Kind}
use Rattle.cse_code_typing.specs.declared.depth.Depth.{Depth}
use Rattle.cse_code_typing.specs.declared.piles.PileEntry.{PileEntry}
use Rattle.cse_code_typing.specs.Piles.{stack_of, entry_of, same_entry, IsGrown}
use Rattle.cse_code_typing.specs.EntryOrder.{number_of}
use Rattle.cse_code_typing.specs.Depth.{count_of}
use Rattle.cse_code_typing.specs.Shared.{depths_of, IsShared}
use Rattle.cse_code_typing.specs.Pass.{same_kinds}
use Rattle.cse_code_typing.specs.Kinds.{same_kind}
use Rattle.cse_code_typing.proofs.Merges.{same_kind-eq, same_kind-refl, same_kinds-eq, same_kinds-refl}
use Rattle.cse_code_typing.proofs.PileLaws.{kept_below, newest, zero_empty}

entry_kept : (e : PileEntry) (older : List PileEntry) (n : ℕ) → (n ≡ length older + 1 → ⊥) → entry_of (e ∷ older) n ≡ entry_of older n
unfolding entry_of
entry_kept e older n ne = cond-false (eqb n (length older + 1)) _ _ (ne_eqb n (length older + 1) ne)

entry_newest : (e : PileEntry) (older : List PileEntry) (n : ℕ) → n ≡ length older + 1 → entry_of (e ∷ older) n ≡ Some e
unfolding entry_of
entry_newest e older n is = cond-true (eqb n (length older + 1)) _ _ (eq-eqb n (length older + 1) is)

no_entry : (n : ℕ) → entry_of [] n ≡ None
unfolding entry_of
no_entry n = refl

pub entry_within : (table : List PileEntry) (n : ℕ) (e : PileEntry) → entry_of table n ≡ Some e → (0 < n) × (n ≤ length table)
entry_within [] n e h = let none = no_entry n in cc
entry_within (x ∷ older) n e h =
    ⊎_elim
    (λ (same : n ≡ length older + 1). (omega arith, omega arith))
    (λ (ne : n ≡ length older + 1 → ⊥). let ih = entry_within older n e (sym (entry_kept x older n ne) ∙ h) in (ih.0, let le = ih.1 in omega arith))
    (cases_eq n (length older + 1))

-- the entry of a number, and its stack
record HasEntry (table : List PileEntry) (n : ℕ) : Type 0 where
  entry : PileEntry
  at : entry_of table n ≡ Some entry
  stack : stack_of table n ≡ entry.kind ∷ stack_of table entry.below
  below : entry.below < n

entry_there : (table : List PileEntry) (n : ℕ) → IsGrown table → 0 < n → n ≤ length table → HasEntry table n
entry_there [] n g some le = absurd (omega arith)
entry_there (x ∷ older) n g some le =
    ⊎_elim
    (λ (same : n ≡ length older + 1). record {
      entry = x;
      at = entry_newest x older n same;
      stack = newest x older n same ∙ ap (λ l. x.kind ∷ l) (sym (kept_below x older x.below g.0));
      below = let b = g.0 in omega arith;
    })
    (λ (ne : n ≡ length older + 1 → ⊥).
    let ih = entry_there older n g.1 some (omega arith) in
    let lower = ih.below in
    record {
      entry = ih.entry;
      at = entry_kept x older n ne ∙ ih.at;
      stack = kept_below x older n (omega arith) ∙ ih.stack ∙ ap (λ l. ih.entry.kind ∷ l) (sym (kept_below x older ih.entry.below (omega arith)));
      below = lower;
    })
    (cases_eq n (length older + 1))

same_kind_and_below : (a b : PileEntry) → a.kind ≡ b.kind → a.below ≡ b.below → a ≡ b
same_kind_and_below a b p q = λ i. record { kind = p i; below = q i }

pub same_entry-eq : (a b : PileEntry) → same_entry a b ≡ true → a ≡ b
same_entry-eq a b h =
    let p = and_parts (same_kind a.kind b.kind) (eqb a.below b.below) h in
    same_kind_and_below a b (same_kind-eq a.kind b.kind p.0) (eqb-true a.below b.below p.1)

pub same_entry-refl : (a : PileEntry) → same_entry a a ≡ true
same_entry-refl a = and_from _ _ (same_kind-refl a.kind) (eq-eqb a.below a.below refl)

heads : (k j : Kind) (a b : List Kind) → k ∷ a ≡ j ∷ b → (k ≡ j) × (a ≡ b)
heads k j a b h = (cc, cc)

no_cons : (k : Kind) (a : List Kind) → k ∷ a ≡ [] → ⊥
no_cons k a h = cc

module _ (table : List PileEntry) (depths : List Depth) (numbers : List (PileEntry × ℕ)) (so : IsShared table depths numbers) where
  empty_is : (n : ℕ) → n ≤ length table → stack_of table n ≡ [] → n ≡ 0
  empty_is n le h =
      ⊎_elim
      (λ (some : 0 < n). let x = entry_there table n so.grown some le in absurd (no_cons _ _ (sym x.stack ∙ h)))
      (λ (none : n ≤ 0). omega arith) (cases_lt 0 n)

  some_number : (n : ℕ) (k : Kind) (s : List Kind) → stack_of table n ≡ k ∷ s → 0 < n
  some_number n k s h =
      ⊎_elim (λ (some : 0 < n). some)
      (λ (none : n ≤ 0).
      let z : n ≡ 0 = omega arith in
      absurd (no_cons k s (sym h ∙ ap (stack_of table) z ∙ zero_empty table))) (cases_lt 0 n)

  -- equal stacks have equal numbers
  pub same_number : (s : List Kind) (a b : ℕ) → a ≤ length table → b ≤ length table → stack_of table a ≡ s → stack_of table b ≡ s → a ≡ b
  same_number [] a b la lb ha hb = empty_is a la ha ∙ sym (empty_is b lb hb)
  same_number (k ∷ s) a b la lb ha hb =
      let x = entry_there table a so.grown (some_number a k s ha) la in
      let y = entry_there table b so.grown (some_number b k s hb) lb in
      let xa = x.below in
      let yb = y.below in
      let p = heads _ _ _ _ (sym x.stack ∙ ha) in
      let q = heads _ _ _ _ (sym y.stack ∙ hb) in
      let below = same_number s x.entry.below y.entry.below (omega arith) (omega arith) p.1 q.1 in
      let one = same_kind_and_below x.entry y.entry (p.0 ∙ sym q.0) below in
      same_Some a b (sym (so.found a x.entry x.at) ∙ ap (number_of numbers) one ∙ so.found b y.entry y.at)

  pub numbers_tell : (a b : ℕ) → a ≤ length table → b ≤ length table → eqb a b ≡ same_kinds (stack_of table a) (stack_of table b)
  numbers_tell a b la lb =
      ⊎_elim
      (λ (e : a ≡ b).
      eq-eqb a b e ∙ sym (ap (λ n. same_kinds (stack_of table a) (stack_of table n)) (sym e) ∙ same_kinds-refl (stack_of table a)))
      (λ (ne : a ≡ b → ⊥).
      ⊎_elim
      (λ (t : same_kinds (stack_of table a) (stack_of table b) ≡ true).
      absurd (ne (same_number (stack_of table a) a b la lb refl (sym (same_kinds-eq _ _ t)))))
      (λ (f : same_kinds (stack_of table a) (stack_of table b) ≡ false). ne_eqb a b ne ∙ sym f)
      (cases_Bool (same_kinds (stack_of table a) (stack_of table b))))
      (cases_eq a b)

  -- an entry that has a number makes the stack of that number
  pub known_stack : (e : PileEntry) (n : ℕ) → number_of numbers e ≡ Some n → (stack_of table n ≡ e.kind ∷ stack_of table e.below) × (n ≤ length table)
  known_stack e n h =
      let at = so.known n e h in
      let w = entry_within table n e at in
      let x = entry_there table n so.grown w.0 w.1 in
      let one = same_Some x.entry e (sym x.at ∙ at) in
      (x.stack ∙ ap (λ (y : PileEntry). y.kind ∷ stack_of table y.below) one, w.1)

  pub is_new : (e : PileEntry) → number_of numbers e ≡ None → (n : ℕ) → entry_of table n ≡ Some e → ⊥
  is_new e none n at = none_and_some (number_of numbers e) n none (so.found n e at)

  -- one more entry
  pub shared_more : (e : PileEntry) (n : ℕ) (d : Depth) (more : List (PileEntry × ℕ)) → e.below ≤ length table → ((m : ℕ) → entry_of table m ≡ Some e → ⊥) → n ≡ length table + 1
      → d ≡ count_of (e.kind ∷ stack_of table e.below)
      → ((x : PileEntry) → number_of more x ≡ (if same_entry e x then Some n else number_of numbers x)) → IsShared (e ∷ table) (d ∷ depths) more
  shared_more e n d more le new next deep puts = record {
    grown = (le, so.grown);
    found = λ m x at.
        ⊎_elim
        (λ (same : m ≡ length table + 1).
        let one : e ≡ x = same_Some e x (sym (entry_newest e table m same) ∙ at) in
        let mn : n ≡ m = omega arith in
        puts x ∙ cond-true _ _ _ (subst (λ y. same_entry e y ≡ true) one (same_entry-refl e)) ∙ ap Some mn)
        (λ (ne : m ≡ length table + 1 → ⊥).
        let old = sym (entry_kept e table m ne) ∙ at in
        puts x ∙ ⊎_elim
        (λ (t : same_entry e x ≡ true). absurd (new m (old ∙ ap Some (sym (same_entry-eq e x t)))))
        (λ (f : same_entry e x ≡ false). cond-false _ _ _ f ∙ so.found m x old)
        (cases_Bool (same_entry e x)))
        (cases_eq m (length table + 1));
    known = λ m x h.
        ⊎_elim
        (λ (t : same_entry e x ≡ true).
        let mn : n ≡ m = same_Some n m (sym (puts x ∙ cond-true _ _ _ t) ∙ h) in
        entry_newest e table m (omega arith) ∙ ap Some (same_entry-eq e x t))
        (λ (f : same_entry e x ≡ false).
        let at = so.known m x (sym (puts x ∙ cond-false _ _ _ f) ∙ h) in
        let w = (entry_within table m x at).1 in
        entry_kept e table m (λ same. omega arith) ∙ at)
        (cases_Bool (same_entry e x));
    counted = ap (λ y. y ∷ depths) deep ∙ ap (λ l. count_of (e.kind ∷ stack_of table e.below) ∷ l) so.counted;
  }

-- ---- how many values a stack has

depth_there : (table : List PileEntry) (j n : ℕ) → j + n ≡ length table → 0 < n → slice_get (depths_of table) j ≡ Some (count_of (stack_of table n))
depth_there [] j n count some = absurd (omega arith)
depth_there (x ∷ older) zero n count some = ap (λ l. Some (count_of l)) (sym (newest x older n (omega arith)))
depth_there (x ∷ older) (suc j) n count some =
    depth_there older j n (omega arith) some ∙ ap (λ l. Some (count_of l)) (sym (kept_below x older n (omega arith)))

pub length-depths_of : (table : List PileEntry) → length (depths_of table) ≡ length table
length-depths_of [] = refl
length-depths_of (x ∷ older) = let ih = length-depths_of older in omega arith

pub depth_read : (depths : List Depth) (table : List PileEntry) (n : ℕ) (d : Depth) → reverse depths ≡ depths_of table → 0 < n → n ≤ length table → d ≡ get_or depths (n - 1) d → d ≡ count_of (stack_of table n)
depth_read depths table n d is some le read =
    let count : length depths ≡ length table = sym (length-reverse depths) ∙ ap length is ∙ length-depths_of table in
    let j : ℕ = length depths - n in
    let back : length depths - 1 - j ≡ n - 1 = omega arith in
    let at : slice_get (reverse depths) j ≡ Some d = slice_get-get_or (reverse depths) j d (let l = length-reverse depths in omega arith) ∙ ap Some (get_or-reverse depths j d (omega arith) ∙ ap (λ m. get_or depths m d) back ∙ sym read) in
    same_Some d (count_of (stack_of table n)) (sym at ∙ ap (λ l. slice_get l j) is ∙ depth_there table j n (omega arith) some)

-- ---- no entries

pub shared_none : (table : List PileEntry) (depths : List Depth) (numbers : List (PileEntry × ℕ)) → table ≡ [] → depths ≡ [] → ((e : PileEntry) → number_of numbers e ≡ None) → IsShared table depths numbers
shared_none table depths numbers t d none =
    subst (λ (l : List PileEntry). IsShared l depths numbers) (sym t)
    (subst (λ (l : List Depth). IsShared [] l numbers) (sym d)
    (record {
      grown = tt;
      found = λ n e at. absurd (none_and_some (entry_of [] n) e (no_entry n) at);
      known = λ n e h. absurd (none_and_some (number_of numbers e) n (none e) h);
      counted = refl;
    }))

-- one more entry, in the lists of the code, whose newest one is last
pub shared_push : (items longer : List PileEntry) (table : List PileEntry) (depths more : List Depth) (numbers next : List (PileEntry × ℕ)) (e : PileEntry) (d : Depth) (n : ℕ)
    → reverse items ≡ table → IsShared (reverse items) (reverse depths) numbers
    → e.below ≤ length table → ((m : ℕ) → entry_of table m ≡ Some e → ⊥) → d ≡ count_of (e.kind ∷ stack_of table e.below)
    → longer ≡ items ++ e ∷ [] → more ≡ depths ++ d ∷ [] → n ≡ length longer
    → ((x : PileEntry) → number_of next x ≡ (if same_entry e x then Some n else number_of numbers x)) → IsShared (reverse longer) (reverse more) next
shared_push items longer table depths more numbers next e d n is so le new deep grew counted at puts =
    let size : n ≡ length table + 1 = omega (arith, at, ap length grew, length-append items (e ∷ []), ap length is, length-reverse items) in
    let here = subst (λ (t : List PileEntry). IsShared t (reverse depths) numbers) is so in
    let went = shared_more table (reverse depths) numbers here e n d next le new size deep puts in
    let back : reverse longer ≡ e ∷ table = ap reverse grew ∙ reverse-append items (e ∷ []) ∙ ap (λ l. e ∷ l) is in
    let again : reverse more ≡ d ∷ reverse depths = ap reverse counted ∙ reverse-append depths (d ∷ []) in
    subst (λ (l : List Depth). IsShared (reverse longer) l next) (sym again) (subst (λ (t : List PileEntry). IsShared t (d ∷ reverse depths) next) (sym back) went)
