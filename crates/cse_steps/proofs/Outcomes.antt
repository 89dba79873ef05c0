-- Events one after the other: they have one outcome at most, they compose, and those without a routine don't count.
use Rattle.std.proofs.Common.{◌≡◌, ℕ, suc, ◌+◌, ◌-◌, ◌<◌, Bool, true, false, cond, List, [], ◌∷◌, ◌++◌, append_assoc, Option, Some, None, refl, sym, ap, ◌∙◌, subst, inl, inr, arith}
use Rattle.std.specs.Prelude.{option_and_then, is_some}
use Rattle.std.proofs.lemmas.Option.{same_Some}
use Rattle.std.proofs.lemmas.Bool.{cases_lt}
use Rattle.cse_lemmas.proofs.Options.{none_from_is_some}
use Rattle.cse_case.specs.Case.{CaseText}
use Rattle.cse_decks.specs.Store.{Kept}
use Rattle.cse_code_typing.specs.Handlers.{routine_of}
use Rattle.cse_verify.specs.CaseEvents.{Moment}
use Rattle.cse_verify.specs.Verified.{VerifiedProgram}
use Rattle.cse_steps.specs.State.{World, State, nothing_told}
use Rattle.cse_steps.specs.Step.{step_of}
use Rattle.cse_steps.specs.Run.{run, first, first_calls}
use Rattle.cse_steps.specs.Events.{Outcome, nothing_done, told_both, both, EndsIn, AllEndIn, OneOutcome, EventsCompose, handled, HandledCount}
use Rattle.cse_steps.proofs.WholeRuns.{composed}

module _ (v : VerifiedProgram) where
  -- no step follows an ended state
  no_step : (s : State) → s.calls ≡ [] → run v 1 s ≡ None
  unfolding run
  no_step s e = ap (λ calls. step_of v calls s.world) e

  no_more : (k : ℕ) (s : State) → s.calls ≡ [] → run v (suc k) s ≡ None
  no_more k s e =
      let one : suc k ≡ 1 + k = omega arith in
      ap (λ i. run v i s) one ∙ (composed v 1 k s ∙ ap (option_and_then (run v k)) (no_step s e))

  none_after : (s a b : State) (n m : ℕ) → n < m → run v n s ≡ Some a → a.calls ≡ [] → run v m s ≡ Some b → ⊥
  none_after s a b n m less is ended later =
      let k = m - suc n in
      let e : m ≡ n + suc k = omega arith in
      let none : Some b ≡ None = sym later ∙ (ap (λ i. run v i s) e ∙ (composed v n (suc k) s ∙ (ap (option_and_then (run v (suc k))) is ∙ no_more k a ended))) in
      cc

  pub record Same (a b : State) (n m : ℕ) : Type 0 where
    pub state : a ≡ b
    pub steps : n ≡ m

  pub end_once : (s a b : State) (n m : ℕ) → run v n s ≡ Some a → a.calls ≡ [] → run v m s ≡ Some b → b.calls ≡ [] → Same a b n m
  end_once s a b n m is ended also done = elim (cases_lt n m) [
    | inl less ↦ absurd (none_after s a b n m less is ended also)
    | inr more ↦ elim (cases_lt m n) [
      | inl less ↦ absurd (none_after s b a m n less also done is)
      | inr low ↦
          let e : n ≡ m = omega arith in
          record { state = same_Some _ _ (sym is ∙ (ap (λ i. run v i s) e ∙ also)); steps = e }
    ]
  ]

  abbrev outcome_of : ℕ → World → Outcome
  outcome_of n w = record { steps = n; case = w.case; store = w.store; told = w.told }

  event_once : (m : Moment) (case : Option CaseText) (store : Kept) (a b : Outcome) → EndsIn v m case store a → EndsIn v m case store b → a ≡ b
  event_once m case store a b e f =
      let same = end_once (first v m case store) e.state f.state a.steps b.steps e.runs e.ended f.runs f.ended in
      ap (outcome_of a.steps) (sym e.world) ∙ (ap (λ (s : State). outcome_of a.steps s.world) same.state ∙ (ap (λ n. outcome_of n f.state.world) same.steps ∙ ap (outcome_of b.steps) f.world))

  all_once : (ms : List Moment) (case : Option CaseText) (store : Kept) (a b : Outcome) → AllEndIn v ms case store a → AllEndIn v ms case store b → a ≡ b
  all_once [] case store a b e f = e ∙ sym f
  all_once (m ∷ ms) case store a b e f =
      let one : e.0 ≡ f.0 = event_once m case store e.0 f.0 e.2 f.2 in
      let rest : e.1 ≡ f.1 = all_once ms f.0.case f.0.store e.1 f.1 (subst (λ (o : Outcome). AllEndIn v ms o.case o.store e.1) one e.3) f.3 in
      e.4 ∙ (ap (λ o. both o e.1) one ∙ (ap (both f.0) rest ∙ sym f.4))

  -- ---- an event without a routine

  calls_of_none : (m : Moment) (case : Option CaseText) (store : Kept) (r : Option ℕ) → routine_of v.image.lists.events m.event ≡ r → r ≡ None → (first v m case store).calls ≡ []
  unfolding first
  calls_of_none m case store r e none = ap (first_calls v.image m.occurrence) (e ∙ none)

  same_world : (m : Moment) (case : Option CaseText) (store : Kept) → (first v m case store).world ≡ record { case = case; store = store; told = nothing_told }
  unfolding first
  same_world m case store = refl

  no_steps : (s : State) → run v 0 s ≡ Some s
  unfolding run
  no_steps s = refl

  nothing_happens : (m : Moment) (case : Option CaseText) (store : Kept) → routine_of v.image.lists.events m.event ≡ None → EndsIn v m case store (nothing_done case store)
  nothing_happens m case store none = record {
    state = first v m case store;
    runs = no_steps (first v m case store);
    ended = calls_of_none m case store (routine_of v.image.lists.events m.event) refl none;
    world = same_world m case store;
    within = omega arith;
  }

  -- ---- nothing, and then this; and this, then that, and then the other

  after_nothing : (case : Option CaseText) (store : Kept) (o : Outcome) → o ≡ both (nothing_done case store) o
  after_nothing case store o =
      let e : o.steps ≡ 0 + o.steps = omega arith in
      ap (λ n. let p : Outcome = record { steps = n; case = o.case; store = o.store; told = o.told } in p) e

  both_both : (a b c : Outcome) → both a (both b c) ≡ both (both a b) c
  both_both a b c =
      let e : a.steps + (b.steps + c.steps) ≡ a.steps + b.steps + c.steps = omega arith in
      ap (λ n. let p : Outcome = record { steps = n; case = c.case; store = c.store; told = told_both a.told (told_both b.told c.told) } in p) e
      ∙ (ap (λ g. let p : Outcome = record { steps = a.steps + b.steps + c.steps; case = c.case; store = c.store; told = record { given = g; imputed = a.told.imputed ++ (b.told.imputed ++ c.told.imputed) } } in p) (sym (append_assoc a.told.given b.told.given c.told.given))
      ∙ ap (λ g. let p : Outcome = record { steps = a.steps + b.steps + c.steps; case = c.case; store = c.store; told = record { given = (a.told.given ++ b.told.given) ++ c.told.given; imputed = g } } in p) (sym (append_assoc a.told.imputed b.told.imputed c.told.imputed)))

  -- ---- events and then others

  record Split (ms ns : List Moment) (case : Option CaseText) (store : Kept) (o : Outcome) : Type 0 where
    pub a : Outcome
    pub b : Outcome
    pub ends : AllEndIn v ms case store a
    pub rest : AllEndIn v ns a.case a.store b
    pub is : o ≡ both a b

  split : (ms ns : List Moment) (case : Option CaseText) (store : Kept) (o : Outcome) → AllEndIn v (ms ++ ns) case store o → Split ms ns case store o
  split [] ns case store o e = record { a = nothing_done case store; b = o; ends = refl; rest = e; is = after_nothing case store o }
  split (m ∷ ms) ns case store o e =
      let t = split ms ns e.0.case e.0.store e.1 e.3 in
      record { a = both e.0 t.a; b = t.b; ends = (e.0, t.a, e.2, t.ends, refl); rest = t.rest; is = e.4 ∙ (ap (both e.0) t.is ∙ both_both e.0 t.a t.b) }

  joined : (ms ns : List Moment) (case : Option CaseText) (store : Kept) (a b : Outcome) → AllEndIn v ms case store a → AllEndIn v ns a.case a.store b → AllEndIn v (ms ++ ns) case store (both a b)
  joined [] ns case store a b e f =
      let g : AllEndIn v ns case store b = subst (λ (o : Outcome). AllEndIn v ns o.case o.store b) e f in
      subst (AllEndIn v ns case store) (after_nothing case store b ∙ ap (λ o. both o b) (sym e)) g
  joined (m ∷ ms) ns case store a b e f =
      let g : AllEndIn v ns e.1.case e.1.store b = subst (λ (o : Outcome). AllEndIn v ns o.case o.store b) e.4 f in
      (e.0, both e.1 b, e.2, joined ms ns e.0.case e.0.store e.1 b e.3 g, ap (λ o. both o b) e.4 ∙ sym (both_both e.0 e.1 b))

  -- ---- events that have a routine

  module _ (m : Moment) (ms : List Moment) (case : Option CaseText) (store : Kept) where
    -- what is left out before the others
    without : routine_of v.image.lists.events m.event ≡ None → (o : Outcome) → AllEndIn v (m ∷ ms) case store o → AllEndIn v ms case store o
    without none o e =
        let nothing : e.0 ≡ nothing_done case store = event_once m case store e.0 (nothing_done case store) e.2 (nothing_happens m case store none) in
        let rest : AllEndIn v ms case store e.1 = subst (λ (a : Outcome). AllEndIn v ms a.case a.store e.1) nothing e.3 in
        subst (AllEndIn v ms case store) (sym (e.4 ∙ (ap (λ a. both a e.1) nothing ∙ sym (after_nothing case store e.1)))) rest

    beside : routine_of v.image.lists.events m.event ≡ None → (o : Outcome) → AllEndIn v ms case store o → AllEndIn v (m ∷ ms) case store o
    beside none o e = (nothing_done case store, o, nothing_happens m case store none, e, after_nothing case store o)

  abbrev Handled : List Moment → List Moment
  Handled = handled v.image

  -- one event more, of which the others are known
  module _ (m : Moment) (ms : List Moment) (case : Option CaseText) (store : Kept) (o : Outcome) where
    leave_out : ((c : Option CaseText) (s : Kept) (b : Outcome) → AllEndIn v ms c s b → AllEndIn v (Handled ms) c s b) → (b : Bool) → is_some (routine_of v.image.lists.events m.event) ≡ b
        → AllEndIn v (m ∷ ms) case store o → AllEndIn v (cond b (m ∷ Handled ms) (Handled ms)) case store o
    leave_out others true is e = (e.0, e.1, e.2, others e.0.case e.0.store e.1 e.3, e.4)
    leave_out others false is e = others case store o (without m ms case store (none_from_is_some (routine_of v.image.lists.events m.event) is) o e)

    put_back : ((c : Option CaseText) (s : Kept) (b : Outcome) → AllEndIn v (Handled ms) c s b → AllEndIn v ms c s b) → (b : Bool) → is_some (routine_of v.image.lists.events m.event) ≡ b
        → AllEndIn v (cond b (m ∷ Handled ms) (Handled ms)) case store o → AllEndIn v (m ∷ ms) case store o
    put_back others true is e = (e.0, e.1, e.2, others e.0.case e.0.store e.1 e.3, e.4)
    put_back others false is e = beside m ms case store (none_from_is_some (routine_of v.image.lists.events m.event) is) o (others case store o e)

  only_handled : (ms : List Moment) (case : Option CaseText) (store : Kept) (o : Outcome) → AllEndIn v ms case store o → AllEndIn v (Handled ms) case store o
  only_handled [] case store o e = e
  only_handled (m ∷ ms) case store o e = leave_out m ms case store o (only_handled ms) (is_some (routine_of v.image.lists.events m.event)) refl e

  handled_too : (ms : List Moment) (case : Option CaseText) (store : Kept) (o : Outcome) → AllEndIn v (Handled ms) case store o → AllEndIn v ms case store o
  handled_too [] case store o e = e
  handled_too (m ∷ ms) case store o e = put_back m ms case store o (handled_too ms) (is_some (routine_of v.image.lists.events m.event)) refl e

pub compose : EventsCompose
compose v ms ns case store o = (
  λ e. let t = split v ms ns case store o e in (t.a, t.b, t.ends, t.rest, t.is),
  λ t. subst (AllEndIn v (ms ++ ns) case store) (sym t.4) (joined v ms ns case store t.0 t.1 t.2 t.3),
)

pub handled_count : HandledCount
handled_count v ms case store o = (only_handled v ms case store o, handled_too v ms case store o)

pub outcomes : OneOutcome
outcomes v ms case store a b e f = all_once v ms case store a b e f
