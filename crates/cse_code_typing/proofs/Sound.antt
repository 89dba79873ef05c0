-- A pass that has come to a place has found a typing of the places before it, and where there is a
-- typing the pass goes on.
use Rattle.std.proofs.Common.{◌≡◌, ℕ, zero, suc, ◌+◌, ◌<◌, ◌≤◌, List, [], ◌∷◌, length, Some, None, refl, sym, ap, ◌∙◌, subst, inl, inr, ⊎_elim, arith, replicate}
use Rattle.std.specs.Prelude.{slice_get, option_and_then, ◌⊎◌}
use Rattle.std.proofs.lemmas.Bool.{cases_lt}
use Rattle.std.proofs.lemmas.Option.{same_Some, slice_get_within}
use Rattle.std.proofs.lemmas.List.{length-replicate}
use Rattle.cse_lemmas.proofs.Options.{option_and_then_parts, none_and_some}
use Rattle.cse_image_parts.specs.declared.instruction.Instr.{Instr}
use Rattle.cse_code_typing.specs.declared.kind.Kind.{Kind}
use Rattle.cse_code_typing.specs.Rule.{Edge, Rule}
use Rattle.cse_code_typing.specs.Typing.{Stacks, AgreesBelow, LeadsTo, IsTypingBelow, HasTypingBelow, HasNoStackAt}
use Rattle.cse_code_typing.specs.Pass.{Expects, Free, Is, Clash, Known, entry, expected_stack, merge, pass_at}
use Rattle.cse_code_typing.proofs.Merges.{found, found_is, Allows, Takes, takes_expected, AllTook, merge_length, merge_before, merge_takes, merge_took, merge_led, merge_allows, merge_goes}

-- the stacks that were found
abbrev pub stacks_of : Known → Stacks
stacks_of known k = found (entry known k)

-- an instruction that was passed has a rule for the stack that was found, and its edges were met
pub record WasPassed (rule : Rule) (q : ℕ) (known : Known) (j : ℕ) (i : Instr) : Type 0 where
  pub edges : List Edge
  pub ruled : rule j i (found (entry known j)) ≡ Some edges
  pub took : AllTook q known edges

-- an instruction that was passed leads to a later place
pub record WasLed (rule : Rule) (code : List Instr) (q : ℕ) (known : Known) (k : ℕ) : Type 0 where
  pub from : ℕ
  pub instr : Instr
  pub edges : List Edge
  pub there : slice_get code from ≡ Some instr
  pub passed : from < q
  pub smaller : from < k
  pub ruled : rule from instr (found (entry known from)) ≡ Some edges
  pub leads : LeadsTo k edges

-- what is known once the places below q were passed
pub record IsKnown (rule : Rule) (code : List Instr) (q : ℕ) (known : Known) : Type 0 where
  pub size : length known ≡ length code
  pub passed : (j : ℕ) (i : Instr) → j < q → slice_get code j ≡ Some i → WasPassed rule q known j i
  pub led : (k : ℕ) → (entry known k ≡ Free) ⊎ WasLed rule code q known k
  pub same : (n : ℕ) (t : Stacks) → q ≤ n → IsTypingBelow rule code n t → (k : ℕ) → k < q → expected_stack (entry known k) ≡ Some (t k)
  pub allowed : (n : ℕ) (t : Stacks) → q ≤ n → IsTypingBelow rule code n t → (k : ℕ) → k < n → Allows (entry known k) (t k)

-- the parts of the pass at a place
pub record Turned (rule : Rule) (q : ℕ) (i : Instr) (known after : Known) : Type 0 where
  pub stack : List Kind
  pub edges : List Edge
  pub expected : expected_stack (entry known q) ≡ Some stack
  pub ruled : rule q i stack ≡ Some edges
  pub merged : merge q edges known ≡ Some after

pub turned : (rule : Rule) (q : ℕ) (i : Instr) (known after : Known) → pass_at rule q i known ≡ Some after → Turned rule q i known after
turned rule q i known after h =
    let s = option_and_then_parts (λ (stack : List Kind). option_and_then (λ (es : List Edge). merge q es known) (rule q i stack)) (expected_stack (entry known q)) after h in
    let u = option_and_then_parts (λ (es : List Edge). merge q es known) (rule q i s.0) after s.2 in
    record { stack = s.0; edges = u.0; expected = s.1; ruled = u.1; merged = u.2 }

module _ (rule : Rule) (code : List Instr) where
  took_led : (q : ℕ) (known : Known) (es : List Edge) (k : ℕ) → AllTook q known es → LeadsTo k es → k < length known → q ≤ k → entry known k ≡ Free → ⊥
  took_led q known [] k all led lt le free = led
  took_led q known (e ∷ es) k all led lt le free =
      ⊎_elim
      (λ (here : e.0 ≡ k).
      let t = (all.0 (subst (λ n. n < length known) (sym here) lt)).1 (subst (λ n. q ≤ n) (sym here) le) in
      let f : entry known e.0 ≡ Free = ap (entry known) here ∙ free in
      subst (λ x. Takes x e.1) f t)
      (λ later. took_led q known es k all.1 later lt le free) led

  by_expected : (x : Expects) (s : List Kind) → Allows x s → (x ≡ Free → s ≡ []) → expected_stack x ≡ Some s
  by_expected Free s a free = ap Some (sym (free refl))
  by_expected (Is j) s a free = ap Some a
  by_expected Clash s a free = absurd a

  -- the stack of a typing is the one that is expected at the next place
  pub here_is : (q n : ℕ) (known : Known) (t : Stacks) → IsKnown rule code q known → q < n → q < length code → IsTypingBelow rule code n t → expected_stack (entry known q) ≡ Some (t q)
  here_is q n known t so lt within typing =
      by_expected (entry known q) (t q) (so.allowed n t (omega arith) typing q lt)
      (λ free. typing.others q lt (λ led.
      let p = so.passed led.from led.instr led.smaller led.there in
      let f : found (entry known led.from) ≡ t led.from = found_is (entry known led.from) (t led.from) (so.same n t (omega arith) typing led.from led.smaller) in
      let e : Some p.edges ≡ Some led.edges = sym p.ruled ∙ ap (rule led.from led.instr) f ∙ led.ruled in
      let es : p.edges ≡ led.edges = same_Some p.edges led.edges e in
      took_led q known led.edges q (subst (AllTook q known) es p.took) led.leads (let len = so.size in omega arith) (omega arith) free))

  next_took : (q : ℕ) (known after : Known) (es fs : List Edge) (stack : List Kind) → merge q fs known ≡ Some after → expected_stack (entry known q) ≡ Some stack → AllTook q known es → AllTook (q + 1) after es
  next_took q known after [] fs stack merged expected all = tt
  next_took q known after (e ∷ es) fs stack merged expected all = (
    (λ lt.
        let len = merge_length q fs known after merged in
        let was = all.0 (omega arith) in (
          (λ before. ap expected_stack (merge_before q fs known after e.0 merged (omega arith)) ∙
              ⊎_elim (λ (l : e.0 < q). was.0 l)
              (λ (l : q ≤ e.0).
              let same : q ≡ e.0 = omega arith in
              takes_expected (entry known e.0) e.1 stack (was.1 l) (ap (λ n. expected_stack (entry known n)) (sym same) ∙ expected)) (cases_lt e.0 q)),
          (λ later. merge_takes q fs known after e.0 e.1 merged (was.1 (omega arith))),
        )),
    next_took q known after es fs stack merged expected all.1,
  )

  pub next_known : (q : ℕ) (i : Instr) (known after : Known) → slice_get code q ≡ Some i → IsKnown rule code q known → pass_at rule q i known ≡ Some after → IsKnown rule code (q + 1) after
  next_known q i known after there so h =
      let u = turned rule q i known after h in
      let within : q < length code = slice_get_within code q i there in
      let kept : (k : ℕ) → k ≤ q → entry after k ≡ entry known k = λ k le. merge_before q u.edges known after k u.merged le in
      let stack_is : found (entry after q) ≡ u.stack = ap found (kept q (omega arith)) ∙ found_is (entry known q) u.stack u.expected in
      record {
        size = merge_length q u.edges known after u.merged ∙ so.size;
        passed = λ j k lt at.
            ⊎_elim
            (λ (l : j < q).
            let p = so.passed j k l at in
            record { edges = p.edges; ruled = ap (rule j k) (ap found (kept j (omega arith))) ∙ p.ruled; took = next_took q known after p.edges u.edges u.stack u.merged u.expected p.took })
            (λ (l : q ≤ j).
            let same : q ≡ j = omega arith in
            let instr : i ≡ k = same_Some i k (sym there ∙ ap (slice_get code) same ∙ at) in
            subst (λ n. WasPassed rule (q + 1) after n k) same (subst (λ x. WasPassed rule (q + 1) after q x) instr
            (record { edges = u.edges; ruled = ap (rule q i) stack_is ∙ u.ruled; took = merge_took q u.edges known after u.merged })))
            (cases_lt j q);
        led = λ k.
            ⊎_elim
            (λ same. ⊎_elim (λ free. inl (same ∙ free))
            (λ w. inr (record { from = w.from; instr = w.instr; edges = w.edges; there = w.there; passed = (let l = w.passed in omega arith); smaller = w.smaller; ruled = ap (rule w.from w.instr) (ap found (kept w.from (let l = w.passed in omega arith))) ∙ w.ruled; leads = w.leads }))
            (so.led k))
            (λ new. inr (record { from = q; instr = i; edges = u.edges; there = there; passed = omega arith; smaller = new.0; ruled = ap (rule q i) stack_is ∙ u.ruled; leads = new.1 }))
            (merge_led q u.edges known after k u.merged);
        same = λ n t le typing k lt.
            ap expected_stack (kept k (omega arith)) ∙
            ⊎_elim (λ (l : k < q). so.same n t (omega arith) typing k l)
            (λ (l : q ≤ k).
            let e : q ≡ k = omega arith in
            subst (λ m. expected_stack (entry known m) ≡ Some (t m)) e (here_is q n known t so (omega arith) within typing)) (cases_lt k q);
        allowed = λ n t le typing k lt.
            let f = typing.follows q i (omega arith) there in
            let s : u.stack ≡ t q = same_Some u.stack (t q) (sym u.expected ∙ here_is q n known t so (omega arith) within typing) in
            let e : u.edges ≡ f.edges = same_Some u.edges f.edges (sym u.ruled ∙ ap (rule q i) s ∙ f.ruled) in
            merge_allows n q t u.edges known after u.merged (subst (AgreesBelow n t) (sym e) f.agrees) (λ j jl. so.allowed n t (omega arith) typing j jl) k lt;
      }

  -- the places that were passed have a typing
  agrees_found : (q : ℕ) (known : Known) (es : List Edge) → q ≤ length known → AllTook q known es → AgreesBelow q (stacks_of known) es
  agrees_found q known [] le all = tt
  agrees_found q known (e ∷ es) le all = ((λ lt. found_is (entry known e.0) e.1 ((all.0 (omega arith)).0 lt)), agrees_found q known es le all.1)

  pub typing_found : (q : ℕ) (known : Known) → q ≤ length code → IsKnown rule code q known → HasTypingBelow rule code q
  typing_found q known le so = (
    stacks_of known,
    record {
      follows = λ j i lt at.
          let p = so.passed j i lt at in
          record { edges = p.edges; ruled = p.ruled; agrees = agrees_found q known p.edges (let len = so.size in omega arith) p.took };
      others = λ k lt not_led.
          ⊎_elim (λ free. ap found free)
          (λ w. absurd (not_led (record { from = w.from; instr = w.instr; edges = w.edges; there = w.there; smaller = w.smaller; ruled = w.ruled; leads = w.leads })))
          (so.led k);
    },
  )

  -- where the pass fails no typing goes on
  pub no_stack : (q : ℕ) (i : Instr) (known : Known) → slice_get code q ≡ Some i → IsKnown rule code q known → pass_at rule q i known ≡ None → HasNoStackAt rule code q
  no_stack q i known there so h =
      let within : q < length code = slice_get_within code q i there in
      record {
        within = within;
        before = typing_found q known (omega arith) so;
        none = λ typed.
            let t = typed.0 in
            let here = here_is q (q + 1) known t so (omega arith) within typed.1 in
            let f = typed.1.follows q i (omega arith) there in
            let m = merge_goes (q + 1) q t f.edges known (omega arith) f.agrees
            (λ k le. ⊎_elim (λ (l : k < q). so.same (q + 1) t (omega arith) typed.1 k l)
            (λ (l : q ≤ k). let e : q ≡ k = omega arith in subst (λ n. expected_stack (entry known n) ≡ Some (t n)) e here) (cases_lt k q)) in
            none_and_some (pass_at rule q i known) m.0 h
            (ap (option_and_then (λ (stack : List Kind). option_and_then (λ (es : List Edge). merge q es known) (rule q i stack))) here
            ∙ ap (option_and_then (λ (es : List Edge). merge q es known)) f.ruled ∙ m.1);
      }

  pub nothing_known : (n k : ℕ) → entry (replicate n Free) k ≡ Free
  nothing_known zero k = refl
  nothing_known (suc n) zero = refl
  nothing_known (suc n) (suc k) = nothing_known n k

  -- at the first place nothing is known
  pub first_known : (n : ℕ) → n ≡ length code → IsKnown rule code 0 (replicate n Free)
  first_known n e = record {
    size = length-replicate n Free ∙ e;
    passed = λ j i lt at. absurd (omega arith);
    led = λ k. inl (nothing_known n k);
    same = λ m t le typing k lt. absurd (omega arith);
    allowed = λ m t le typing k lt. subst (λ x. Allows x (t k)) (sym (nothing_known n k)) tt;
  }
