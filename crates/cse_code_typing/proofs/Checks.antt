-- What a check of the places in order knows at each.
use Rattle.std.proofs.Common.{◌≡◌, ℕ, suc, ◌+◌, ◌<◌, ◌≤◌, List, [], ◌∷◌, length, drop, Option, Some, None, IfNone, refl, sym, ap, ◌∙◌, subst, ⊎_elim, arith}
use Rattle.std.specs.Prelude.{slice_get}
use Rattle.std.proofs.lemmas.Option.{same_Some, slice_get_within}
use Rattle.std.proofs.lemmas.Bool.{cases_lt}
use Rattle.cse_code_typing.specs.declared.control.Control.{Control}
use Rattle.cse_code_typing.specs.declared.control.Control.TheVariants.{Step, Jump, Branch, Open, End, Break, Call, Return}
use Rattle.cse_code_typing.specs.Bracket.{named_end, named_opener, IsBracket, IsNestedBelow, around, IsFine, IsFineAt, KeepsRulesAt, KeepsRules, BreaksFirst}
use Rattle.cse_code_typing.proofs.Around.{nested_before, around_first_below, around_end_below, around_behind_below, around_plain, around_start}

named_loop : (o : Option Control) (e : ℕ) → named_end o ≡ Some e → (b : ℕ) × (o ≡ Some (Open b e))
named_loop (Some (Open b f)) e h = (b, ap (λ k. Some (Open b k)) (same_Some f e h))
named_loop None e h = cc
named_loop (Some Step) e h = cc
named_loop (Some (Jump c)) e h = cc
named_loop (Some (Branch c)) e h = cc
named_loop (Some (End c)) e h = cc
named_loop (Some (Break c)) e h = cc
named_loop (Some (Call c)) e h = cc
named_loop (Some Return) e h = cc

named_end_is : (o : Option Control) (s : ℕ) → named_opener o ≡ Some s → o ≡ Some (End s)
named_end_is (Some (End c)) s h = ap (λ k. Some (End k)) (same_Some c s h)
named_end_is None s h = cc
named_end_is (Some Step) s h = cc
named_end_is (Some (Jump c)) s h = cc
named_end_is (Some (Branch c)) s h = cc
named_end_is (Some (Open b c)) s h = cc
named_end_is (Some (Break c)) s h = cc
named_end_is (Some (Call c)) s h = cc
named_end_is (Some Return) s h = cc

-- what holds where no place is told
pub told_none : (o : Option ℕ) (P : Type 0) → IfNone o P → ((n : ℕ) → o ≡ Some n → ⊥) → P
told_none None P told never = told
told_none (Some n) P told never = absurd (never n refl)

-- the openers at hand, and that all places before keep the rules
pub record IsSoFar (code : List Control) (p : ℕ) (openers : List ℕ) : Type 0 where
  pub openers_are : openers ≡ around code p
  pub before : (q : ℕ) → q < p → KeepsRulesAt code q

pub nested_so_far : (code : List Control) (p : ℕ) (openers : List ℕ) → IsSoFar code p openers → IsNestedBelow code p
nested_so_far code p openers h = nested_before code p (λ q lt i at. (h.before q lt i at).0)

pub so_far_start : (code : List Control) (openers : List ℕ) → openers ≡ [] → IsSoFar code 0 openers
so_far_start code openers e = record { openers_are = e ∙ sym (around_start code); before = λ q lt. absurd (omega arith) }

-- what was found at the place that was read
pub keeps_here : (code : List Control) (p : ℕ) (i : Control) → slice_get code p ≡ Some i → IsFine code p i → (p + 1 ≡ length code → i ≡ Return) → KeepsRulesAt code p
keeps_here code p i there fine last j at =
    let e : i ≡ j = same_Some i j (sym there ∙ at) in
    subst (λ k. IsFineAt code p k) e (fine, last)

-- a rule is broken at the place that was read, and at none before
pub breaks_here : (code : List Control) (p : ℕ) (i : Control) (openers : List ℕ) → slice_get code p ≡ Some i → IsSoFar code p openers → (IsFineAt code p i → ⊥) → BreaksFirst code p
breaks_here code p i openers there so_far broken = (slice_get_within code p i there, (λ keeps. broken (keeps i there)), so_far.before)

-- all places were passed
pub keeps_all : (code : List Control) (p : ℕ) (openers : List ℕ) → length code ≤ p → IsSoFar code p openers → KeepsRules code
keeps_all code p openers le so_far q lt = so_far.before q (omega arith)

pub so_far_more : (code : List Control) (p : ℕ) (openers next : List ℕ) → IsSoFar code p openers → KeepsRulesAt code p → next ≡ around code (suc p) → IsSoFar code (p + 1) next
so_far_more code p openers next h here e =
    let one : suc p ≡ p + 1 = omega arith in
    record {
      openers_are = e ∙ ap (around code) one;
      before = λ q lt.
          ⊎_elim (λ (l : q < p). h.before q l)
          (λ (l : p ≤ q). let k : p ≡ q = omega arith in subst (KeepsRulesAt code) k here)
          (cases_lt q p);
    }

module _ (code : List Control) (p : ℕ) (nest : IsNestedBelow code p) (here : KeepsRulesAt code p) where
  nested_here : IsNestedBelow code (suc p)
  nested_here s e t f sn bs bt lt le =
      ⊎_elim (λ (l : s < p). nest s e t f l bs bt lt le)
      (λ (l : p ≤ s).
      let k : s ≡ p = omega arith in
      let br : IsBracket code p e = subst (λ n. IsBracket code n e) k bs in
      let o = named_loop (slice_get code p) e br.1 in
      (here (Open o.0 e) o.1).0.nested t f bt (omega arith) (omega arith))
      (cases_lt s p)

  pub pass_shallow : (b e : ℕ) (openers : List ℕ) → slice_get code p ≡ Some (Open b e) → openers ≡ around code p → length openers < 64
  pass_shallow b e openers at is = let k = (here (Open b e) at).0.shallow in let l = ap length is in omega arith

  pub pass_opener : (b e : ℕ) (openers next : List ℕ) → slice_get code p ≡ Some (Open b e) → openers ≡ around code p → next ≡ p ∷ openers → next ≡ around code (suc p)
  pass_opener b e openers next at is pushed =
      pushed ∙ ap (λ l. p ∷ l) is ∙ sym (around_first_below code (suc p) nested_here p e (omega arith) (here (Open b e) at).0.bracket)

  pub pass_some : (s : ℕ) (openers : List ℕ) → slice_get code p ≡ Some (End s) → openers ≡ around code p → openers ≡ [] → ⊥
  pass_some s openers at is none =
      let e = is ∙ around_end_below code p nest s p (omega arith) (here (End s) at).0 in
      let k = none in
      cc

  pub pass_end : (s : ℕ) (openers next : List ℕ) → slice_get code p ≡ Some (End s) → openers ≡ around code p → next ≡ drop 1 openers → next ≡ around code (suc p)
  pass_end s openers next at is popped =
      popped
      ∙ ap (drop 1) (is ∙ around_end_below code p nest s p (omega arith) (here (End s) at).0)
      ∙ sym (around_behind_below code (suc p) nested_here s p (omega arith) (here (End s) at).0)

  pub pass_plain : (i : Control) (openers : List ℕ) → slice_get code p ≡ Some i → openers ≡ around code p → ((b e : ℕ) → i ≡ Open b e → ⊥) → ((s : ℕ) → i ≡ End s → ⊥) → openers ≡ around code (suc p)
  pass_plain i openers at is no_loop no_end =
      is ∙ sym (around_plain code p
      (λ e b. let o = named_loop (slice_get code p) e b.1 in no_loop o.0 e (same_Some i (Open o.0 e) (sym at ∙ o.1)))
      (λ s b. let o = named_end_is (slice_get code p) s b.2 in no_end s (same_Some i (End s) (sym at ∙ o))))
