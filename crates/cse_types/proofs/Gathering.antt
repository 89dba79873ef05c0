-- What is gathered from one list of uses and then another.
use Rattle.std.proofs.Common.{◌≡◌, ℕ, ◌+◌, ◌<◌, ◌≤◌, List, [], ◌∷◌, ◌++◌, length, map, drop, get_or, Option, refl, sym, ap, ◌∙◌, append_assoc}
use Rattle.std.specs.Prelude.{Bool, true, false, ◌||◌, slice_get}
use Rattle.std.proofs.lemmas.List.{drop_all}
use Rattle.cse_lemmas.proofs.Lists.{drop_read}
use Rattle.cse_lemmas.proofs.Booleans.{or-false, or-true}
use Rattle.cse_logic_tree.specs.Typed as typed
use Rattle.cse_logic_tree.specs.Typed.{Number, Statements, Arms, no_arm, arm, arms}
use Rattle.cse_types.specs.declared.facts.Gathered.{Gathered}
use Rattle.cse_logic_names.specs.Scope.{Facts}
use Rattle.cse_logic_names.specs.Uses.{Use, TheCase, Calls, Assigns, uses, uses_of, uses_block, uses_arms, facts_need, needs_case, assigned_after, with_global, with_globals}
use Rattle.cse_types.specs.Gather.{with_call, with_use, gather}

module _ (functions : List (Option Facts)) where
  pub gather_both : (g : Gathered) (us vs : List Use) → gather functions g (us ++ vs) ≡ gather functions (gather functions g us) vs
  unfolding gather
  gather_both g [] vs = refl
  gather_both g (u ∷ us) vs = gather_both (with_use functions g u) us vs

  pub gather_call : (g : Gathered) (f : ℕ) (us : List Use) → gather functions g (Calls f ∷ us) ≡ gather functions (with_call g (slice_get functions f)) us
  unfolding gather
  gather_call g f us = refl

  pub gather_none : (g : Gathered) → gather functions g [] ≡ g
  unfolding gather
  gather_none g = refl

  -- one member of a list more
  pub gather_turn : {A : Type 0} (f : A → List Use) (k : List A → List Use) → ((x : A) (xs : List A) → k (x ∷ xs) ≡ f x ++ k xs) → (items : List A) (i : ℕ) (x : A) → i < length items → x ≡ get_or items i x
      → (g g' total : Gathered) → gather functions g (k (drop i items)) ≡ total → g' ≡ gather functions g (f x) → gather functions g' (k (drop (i + 1) items)) ≡ total
  gather_turn f k h items i x lt is g g' total inv e =
      ap (λ z. gather functions z (k (drop (i + 1) items))) e
      ∙ sym (gather_both g (f x) (k (drop (i + 1) items)))
      ∙ ap (gather functions g) (sym (h x (drop (i + 1) items)))
      ∙ ap (λ l. gather functions g (k l)) (sym (drop_read items i x lt is))
      ∙ inv

  pub gather_end : {A : Type 0} (k : List A → List Use) → k [] ≡ [] → (items : List A) (i : ℕ) → length items ≤ i → (g total : Gathered) → gather functions g (k (drop i items)) ≡ total → g ≡ total
  gather_end k h items i le g total inv =
      sym (gather_none g) ∙ ap (gather functions g) (sym (ap k (drop_all i items le) ∙ h)) ∙ inv

  -- what is gathered, apart
  needs_is : (g : Gathered) (us : List Use) → (gather functions g us).needs_case ≡ (g.needs_case || needs_case functions us)
  unfolding gather
  needs_is g [] = sym (or-false g.needs_case)
  needs_is g (TheCase ∷ us) = needs_is (with_use functions g TheCase) us ∙ sym (or-true g.needs_case)
  needs_is g (Calls f ∷ us) = needs_is (with_use functions g (Calls f)) us ∙ or_assoc g.needs_case (facts_need (slice_get functions f)) (needs_case functions us)
    where
      or_assoc : (a b c : Bool) → ((a || b) || c) ≡ (a || (b || c))
      or_assoc true b c = refl
      or_assoc false b c = refl
  needs_is g (Assigns x ∷ us) = needs_is (with_use functions g (Assigns x)) us

  assigned_is : (g : Gathered) (us : List Use) → (gather functions g us).assigned ≡ assigned_after functions g.assigned us
  unfolding gather
  assigned_is g [] = refl
  assigned_is g (TheCase ∷ us) = assigned_is (with_use functions g TheCase) us
  assigned_is g (Calls f ∷ us) = assigned_is (with_use functions g (Calls f)) us
  assigned_is g (Assigns x ∷ us) = assigned_is (with_use functions g (Assigns x)) us

  -- what is gathered from nothing on
  pub gathered_facts : (us : List Use) → gather functions (record { needs_case = false; assigned = [] }) us ≡ record { needs_case = needs_case functions us; assigned = assigned_after functions [] us }
  gathered_facts us =
      let g : Gathered = record { needs_case = false; assigned = [] } in
      ap (λ b. record { needs_case = b; assigned = (gather functions g us).assigned }) (needs_is g us)
      ∙ ap (λ gs. record { needs_case = needs_case functions us; assigned = gs }) (assigned_is g us)

-- the arms, and then the `else`
pub arms_then : (xs : List (Number × Statements)) (last : Arms) → uses_arms (arms xs last) ≡ uses_arms (arms xs no_arm) ++ uses_arms last
arms_then [] last = refl
arms_then (x ∷ xs) last =
    ap (λ us. uses x.0 ++ (uses_block x.1 ++ us)) (arms_then xs last)
    ∙ ap (λ us. uses x.0 ++ us) (sym (append_assoc (uses_block x.1) (uses_arms (arms xs no_arm)) (uses_arms last)))
    ∙ sym (append_assoc (uses x.0) (uses_block x.1 ++ uses_arms (arms xs no_arm)) (uses_arms last))

module _ (functions : List (Option Facts)) (g : Gathered) where
  pub gather_last : (last : Arms) → last ≡ no_arm → gather functions g (uses_arms last) ≡ g
  gather_last last e = ap (λ (x : Arms). gather functions g (uses_arms x)) e ∙ gather_none functions g

  pub gather_if : (condition : Number) (body : Statements) (xs : List (Number × Statements)) (last : Arms)
      → gather functions g (uses_of (typed.If condition body (arms xs last))) ≡ gather functions (gather functions (gather functions (gather functions g (uses condition)) (uses_block body)) (uses_arms (arms xs no_arm))) (uses_arms last)
  gather_if condition body xs last =
      gather_both functions g (uses condition) (uses_block body ++ uses_arms (arms xs last))
      ∙ gather_both functions (gather functions g (uses condition)) (uses_block body) (uses_arms (arms xs last))
      ∙ ap (gather functions (gather functions (gather functions g (uses condition)) (uses_block body))) (arms_then xs last)
      ∙ gather_both functions (gather functions (gather functions g (uses condition)) (uses_block body)) (uses_arms (arms xs no_arm)) (uses_arms last)

  pub gather_for : (us vs : List Use) → gather functions g (TheCase ∷ (us ++ vs)) ≡ gather functions (gather functions (with_use functions g TheCase) us) vs
  unfolding gather
  gather_for us vs = gather_both functions (with_use functions g TheCase) us vs

  pub gather_do : (us vs ws xs : List Use) → gather functions g (us ++ (vs ++ (ws ++ xs))) ≡ gather functions (gather functions (gather functions (gather functions g us) vs) ws) xs
  gather_do us vs ws xs =
      gather_both functions g us (vs ++ (ws ++ xs))
      ∙ gather_both functions (gather functions g us) vs (ws ++ xs)
      ∙ gather_both functions (gather functions (gather functions g us) vs) ws xs
