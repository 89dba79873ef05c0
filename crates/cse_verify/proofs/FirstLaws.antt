-- A program has one first reason against it.
use Rattle.std.proofs.Common.{◌≡◌, ℕ, suc, ◌+◌, ◌<◌, ◌≤◌, List, length, Some, sym, ap, ◌∙◌, subst, ⊎_elim, arith}
use Rattle.std.specs.Prelude.{slice_get, false, ◌⊎◌}
use Rattle.std.proofs.lemmas.Bool.{cases_lt, cases_order, false≢true}
use Rattle.std.proofs.lemmas.Option.{same_Some, slice_get_within}
use Rattle.cse_lemmas.proofs.Lists.{slice_get_some}
use Rattle.cse_value.specs.Shape.{ShapeLists}
use Rattle.cse_image_parts.specs.declared.instruction.Instr.{Instr}
use Rattle.cse_image_parts.specs.Image.{Image, RoutineLists}
use Rattle.cse_code_typing.specs.declared.control.Control.{Control}
use Rattle.cse_code_typing.specs.declared.refusal.Refusal.{Refusal}
use Rattle.cse_code_typing.specs.Code.{code_of}
use Rattle.cse_code_typing.specs.Skeleton.{skeleton_of}
use Rattle.cse_code_typing.specs.Bracket.{BreaksFirst}
use Rattle.cse_code_typing.specs.Rule.{rule}
use Rattle.cse_code_typing.specs.Typing.{HasTypingBelow, HasNoStackAt}
use Rattle.cse_code_typing.specs.Calls.{may_stand, MayStandBelow}
use Rattle.cse_code_typing.specs.Typed.{scene_of, IsTypedRoutine, AreTypedBelow, IsTyped, BreaksRules, MayNotStand, HasNoStack, IsNowhere, IsOfOtherShape, HasUnfitEvents}
use Rattle.cse_code_typing.proofs.TypedLaws.{fewer_typed}
use Rattle.cse_verify.specs.Bound.{partial, bounds_below, bound, AreBoundedBelow, PassesLimit}
use Rattle.cse_verify.proofs.SumLaws.{partial_grows}
use Rattle.cse_verify.specs.FirstFault.{IsUntypedRoutine, IsTooLongRoutine, AreUnfitEvents, IsTooLongCase, IsFirstFault, FirstReasonIsOne}

refusal_eq : (e f : Refusal) → e.number ≡ f.number → e.routine ≡ f.routine → e.at ≡ f.at → e ≡ f
refusal_eq e f p q r = λ i. record { number = p i; routine = q i; at = r i }

-- ---- the reasons against the typing of one routine, whose lists are y

pub record Stuck (s : ShapeLists) (x : Image) (r : ℕ) (y : RoutineLists) (p : ℕ) : Type 0 where
  pub instr : Instr
  pub stands : slice_get (code_of x r) p ≡ Some instr
  pub fails : may_stand x.lists.routines r y.ambient instr ≡ false
  pub calls : MayStandBelow x.lists.routines r y.ambient (code_of x r) p
  pub typing : HasTypingBelow (rule (scene_of s x y) (code_of x r)) (code_of x r) p

pub record Stackless (s : ShapeLists) (x : Image) (r : ℕ) (y : RoutineLists) (p : ℕ) : Type 0 where
  pub calls : MayStandBelow x.lists.routines r y.ambient (code_of x r) (p + 1)
  pub at : HasNoStackAt (rule (scene_of s x y) (code_of x r)) (code_of x r) p

abbrev UntypedAt : ShapeLists → Image → Refusal → Type 0
UntypedAt s x e = BreaksRules s x e ⊎ (MayNotStand s x e ⊎ HasNoStack s x e)

stuck_of : (s : ShapeLists) (x : Image) (e : Refusal) (y : RoutineLists) → slice_get x.lists.routines e.routine ≡ Some y → MayNotStand s x e → Stuck s x e.routine y e.at
stuck_of s x e y there m =
    subst (λ (z : RoutineLists). Stuck s x e.routine z e.at) (same_Some m.routine y (sym m.there ∙ there))
    (record { instr = m.instr; stands = m.stands; fails = m.fails; calls = m.calls; typing = m.typing })

stackless_of : (s : ShapeLists) (x : Image) (e : Refusal) (y : RoutineLists) → slice_get x.lists.routines e.routine ≡ Some y → HasNoStack s x e → Stackless s x e.routine y e.at
stackless_of s x e y there h =
    subst (λ (z : RoutineLists). Stackless s x e.routine z e.at) (same_Some h.routine y (sym h.there ∙ there))
    (record { calls = h.calls; at = h.at })

module _ (s : ShapeLists) (x : Image) (r : ℕ) (y : RoutineLists) where
  -- what stands below may stand there
  stuck_apart : (p n : ℕ) → Stuck s x r y p → MayStandBelow x.lists.routines r y.ambient (code_of x r) n → n ≤ p
  stuck_apart p n k calls =
      ⊎_elim (λ (lt : p < n). absurd (false≢true (sym k.fails ∙ calls p k.instr lt k.stands))) (λ (le : n ≤ p). le) (cases_lt p n)

  stackless_apart : (p n : ℕ) → Stackless s x r y p → HasTypingBelow (rule (scene_of s x y) (code_of x r)) (code_of x r) n → n ≤ p
  stackless_apart p n k typed =
      ⊎_elim (λ (lt : p < n). absurd (k.at.none (fewer_typed (rule (scene_of s x y) (code_of x r)) (code_of x r) (p + 1) n (omega arith) typed))) (λ (le : n ≤ p). le) (cases_lt p n)

  both_stuck : (p q : ℕ) → Stuck s x r y p → Stuck s x r y q → p ≡ q
  both_stuck p q a b = let l = stuck_apart p q a b.calls in let m = stuck_apart q p b a.calls in omega arith

  both_stackless : (p q : ℕ) → Stackless s x r y p → Stackless s x r y q → p ≡ q
  both_stackless p q a b = let l = stackless_apart p q a b.at.before in let m = stackless_apart q p b a.at.before in omega arith

  never_both : (p q : ℕ) → Stuck s x r y p → Stackless s x r y q → ⊥
  never_both p q a b = let l = stuck_apart p (q + 1) a b.calls in let m = stackless_apart q p b a.typing in omega arith

  stuck_never : (p : ℕ) → Stuck s x r y p → IsTypedRoutine s x r y → ⊥
  stuck_never p k typed =
      let l = stuck_apart p (length (code_of x r)) k typed.calls in
      let w = slice_get_within (code_of x r) p k.instr k.stands in
      omega arith

  stackless_never : (p : ℕ) → Stackless s x r y p → IsTypedRoutine s x r y → ⊥
  stackless_never p k typed =
      let l = stackless_apart p (length (code_of x r)) k typed.typing in
      let w = k.at.within in
      omega arith

both_break : (code : List Control) (p q : ℕ) → BreaksFirst code p → BreaksFirst code q → p ≡ q
both_break code p q a b =
    ⊎_elim (λ same. same)
    (λ differ. ⊎_elim (λ (l : p < q). absurd (a.1 (b.2 p l))) (λ (l : q < p). absurd (b.1 (a.2 q l))) differ)
    (cases_order p q)

-- what is wrong with the typing of routine r, with the number and the place
abbrev Same : Refusal → Refusal → Type 0
Same e f = (e.number ≡ f.number) × (e.at ≡ f.at)

same_reason : (s : ShapeLists) (x : Image) (e f : Refusal) (y : RoutineLists) → e.routine ≡ f.routine → slice_get x.lists.routines e.routine ≡ Some y → slice_get x.lists.routines f.routine ≡ Some y
    → UntypedAt s x e → UntypedAt s x f → Same e f
same_reason s x e f y same at also a b =
    ⊎_elim
    (λ (p : BreaksRules s x e). ⊎_elim
    (λ (q : BreaksRules s x f). (p.number ∙ sym q.number, both_break (skeleton_of x f.routine) e.at f.at (subst (λ r. BreaksFirst (skeleton_of x r) e.at) same p.at) q.at))
    (λ rest. let broken = subst (λ r. BreaksFirst (skeleton_of x r) e.at) same p.at in
    ⊎_elim (λ (q : MayNotStand s x f). absurd (broken.1 (q.brackets e.at broken.0))) (λ (q : HasNoStack s x f). absurd (broken.1 (q.brackets e.at broken.0))) rest) b)
    (λ more. ⊎_elim
    (λ (q : BreaksRules s x f).
    let broken = subst (λ r. BreaksFirst (skeleton_of x r) f.at) (sym same) q.at in
    ⊎_elim (λ (p : MayNotStand s x e). absurd (broken.1 (p.brackets f.at broken.0))) (λ (p : HasNoStack s x e). absurd (broken.1 (p.brackets f.at broken.0))) more)
    (λ rest. ⊎_elim
    (λ (p : MayNotStand s x e).
    let k = subst (λ r. Stuck s x r y e.at) same (stuck_of s x e y at p) in
    ⊎_elim
    (λ (q : MayNotStand s x f). (p.number ∙ sym q.number, both_stuck s x f.routine y e.at f.at k (stuck_of s x f y also q)))
    (λ (q : HasNoStack s x f). absurd (never_both s x f.routine y e.at f.at k (stackless_of s x f y also q))) rest)
    (λ (p : HasNoStack s x e).
    let k = subst (λ r. Stackless s x r y e.at) same (stackless_of s x e y at p) in
    ⊎_elim
    (λ (q : MayNotStand s x f). absurd (never_both s x f.routine y f.at e.at (stuck_of s x f y also q) k))
    (λ (q : HasNoStack s x f). (p.number ∙ sym q.number, both_stackless s x f.routine y e.at f.at k (stackless_of s x f y also q))) rest) more) b) a

untyped_never : (s : ShapeLists) (x : Image) (e : Refusal) (y : RoutineLists) → slice_get x.lists.routines e.routine ≡ Some y → UntypedAt s x e → IsTypedRoutine s x e.routine y → ⊥
untyped_never s x e y at why typed =
    ⊎_elim (λ (p : BreaksRules s x e). p.at.1 (typed.brackets e.at p.at.0))
    (λ rest. ⊎_elim (λ (p : MayNotStand s x e). stuck_never s x e.routine y e.at (stuck_of s x e y at p) typed)
    (λ (p : HasNoStack s x e). stackless_never s x e.routine y e.at (stackless_of s x e y at p) typed) rest) why

-- ---- a routine that is untyped or too long, those before it being neither

pub record IsFaulty (s : ShapeLists) (x : Image) (e : Refusal) : Type 0 where
  pub within : e.routine < length x.lists.routines
  pub typed : AreTypedBelow s x e.routine
  pub bounded : AreBoundedBelow x e.routine
  pub fails : (n : ℕ) → e.routine < n → AreTypedBelow s x n → AreBoundedBelow x n → ⊥

untyped_within : (s : ShapeLists) (x : Image) (e : Refusal) → UntypedAt s x e → (e.routine < length x.lists.routines) × AreTypedBelow s x e.routine × ((f : Refusal) → IsOfOtherShape s x f → ⊥)
untyped_within s x e why =
    ⊎_elim (λ (p : BreaksRules s x e). (p.within, p.before, λ f other. other.differs p.shape))
    (λ rest. ⊎_elim (λ (p : MayNotStand s x e). (slice_get_within x.lists.routines e.routine p.routine p.there, p.before, λ f other. other.differs p.shape))
    (λ (p : HasNoStack s x e). (slice_get_within x.lists.routines e.routine p.routine p.there, p.before, λ f other. other.differs p.shape)) rest) why

untyped_faulty : (s : ShapeLists) (x : Image) (e : Refusal) → IsUntypedRoutine s x e → IsFaulty s x e
untyped_faulty s x e u =
    let w = untyped_within s x e u.reason in
    let y = slice_get_some x.lists.routines e.routine w.0 in
    record { within = w.0; typed = w.1; bounded = u.bounded; fails = λ n lt typed bounded. untyped_never s x e y.0 y.1 u.reason (typed e.routine y.0 lt y.1) }

long_faulty : (s : ShapeLists) (x : Image) (e : Refusal) → IsTooLongRoutine s x e → IsFaulty s x e
long_faulty s x e u = record {
  within = u.within;
  typed = λ r y lt at. u.routines r y (omega arith) at;
  bounded = u.reason.before;
  fails = λ n lt typed bounded.
      let small = bounded e.routine lt in
      let within = u.reason.at.within in
      let after = u.reason.at.after in
      let grows = partial_grows (bounds_below x e.routine) (skeleton_of x e.routine) (suc e.at) (length (skeleton_of x e.routine)) (omega arith) in
      omega arith;
}

same_routine : (s : ShapeLists) (x : Image) (e f : Refusal) → IsFaulty s x e → IsFaulty s x f → e.routine ≡ f.routine
same_routine s x e f a b =
    ⊎_elim (λ same. same)
    (λ differ. ⊎_elim (λ (l : e.routine < f.routine). absurd (a.fails f.routine l b.typed b.bounded)) (λ (l : f.routine < e.routine). absurd (b.fails e.routine l a.typed a.bounded)) differ)
    (cases_order e.routine f.routine)

both_untyped : (s : ShapeLists) (x : Image) (e f : Refusal) → IsUntypedRoutine s x e → IsUntypedRoutine s x f → e ≡ f
both_untyped s x e f a b =
    let same = same_routine s x e f (untyped_faulty s x e a) (untyped_faulty s x f b) in
    let w = untyped_within s x f b.reason in
    let y = slice_get_some x.lists.routines f.routine w.0 in
    let r = same_reason s x e f y.0 same (ap (slice_get x.lists.routines) same ∙ y.1) y.1 a.reason b.reason in
    refusal_eq e f r.0 same r.1

both_long : (s : ShapeLists) (x : Image) (e f : Refusal) → IsTooLongRoutine s x e → IsTooLongRoutine s x f → e ≡ f
both_long s x e f a b =
    let same = same_routine s x e f (long_faulty s x e a) (long_faulty s x f b) in
    let p = subst (λ r. PassesLimit (bounds_below x r) (skeleton_of x r) e.at) same a.reason.at in
    let q = b.reason.at in
    let pb = p.before in let pa = p.after in let qb = q.before in let qa = q.after in
    let at : e.at ≡ f.at =
    ⊎_elim (λ equal. equal)
    (λ differ. ⊎_elim
    (λ (l : e.at < f.at). let g = partial_grows (bounds_below x f.routine) (skeleton_of x f.routine) (suc e.at) f.at (omega arith) in absurd (omega arith))
    (λ (l : f.at < e.at). let g = partial_grows (bounds_below x f.routine) (skeleton_of x f.routine) (suc f.at) e.at (omega arith) in absurd (omega arith)) differ)
    (cases_order e.at f.at)
    in
    refusal_eq e f (a.reason.number ∙ sym b.reason.number) same at

never_long : (s : ShapeLists) (x : Image) (e f : Refusal) → IsUntypedRoutine s x e → IsTooLongRoutine s x f → ⊥
never_long s x e f a b =
    let same = same_routine s x e f (untyped_faulty s x e a) (long_faulty s x f b) in
    let w = untyped_within s x e a.reason in
    let y = slice_get_some x.lists.routines e.routine w.0 in
    untyped_never s x e y.0 y.1 a.reason (b.routines e.routine y.0 (omega arith) y.1)

-- ---- the reasons against the whole program

never_faulty : (s : ShapeLists) (x : Image) (e : Refusal) → IsFaulty s x e → AreTypedBelow s x (length x.lists.routines) → AreBoundedBelow x (length x.lists.routines) → ⊥
never_faulty s x e a typed bounded = a.fails (length x.lists.routines) a.within typed bounded

both_nowhere : (e f : Refusal) (n : ℕ) → e.number ≡ n → f.number ≡ n → IsNowhere e → IsNowhere f → e ≡ f
both_nowhere e f n a b p q = refusal_eq e f (a ∙ sym b) (p.0 ∙ sym q.0) (p.1 ∙ sym q.1)

-- the shape is the same where another reason was found
abbrev Later : ShapeLists → Image → Refusal → Type 0
Later s x e = IsUntypedRoutine s x e ⊎ (IsTooLongRoutine s x e ⊎ (AreUnfitEvents s x e ⊎ IsTooLongCase s x e))

later_shape : (s : ShapeLists) (x : Image) (e f : Refusal) → Later s x e → IsOfOtherShape s x f → ⊥
later_shape s x e f why other =
    ⊎_elim
    (λ (u : IsUntypedRoutine s x e). (untyped_within s x e u.reason).2 f other)
    (λ a. ⊎_elim (λ (u : IsTooLongRoutine s x e). other.differs u.shape)
    (λ b. ⊎_elim (λ (u : AreUnfitEvents s x e). other.differs u.reason.shape) (λ (u : IsTooLongCase s x e). other.differs u.typed.shape) b) a) why

never_unfit : (s : ShapeLists) (x : Image) (e f : Refusal) → AreUnfitEvents s x e → IsTooLongCase s x f → ⊥
never_unfit s x e f a b = a.reason.unfit b.typed.order b.typed.events

-- from a routine's fault to the whole program's
with_faulty : (s : ShapeLists) (x : Image) (e f : Refusal) → IsFaulty s x e → AreUnfitEvents s x f ⊎ IsTooLongCase s x f → ⊥
with_faulty s x e f a why =
    ⊎_elim (λ (b : AreUnfitEvents s x f). never_faulty s x e a b.reason.routines b.bounded)
    (λ (b : IsTooLongCase s x f). never_faulty s x e a b.typed.routines b.bounded) why

same_later : (s : ShapeLists) (x : Image) (e f : Refusal) → Later s x e → Later s x f → e ≡ f
same_later s x e f why also =
    ⊎_elim
    (λ (a : IsUntypedRoutine s x e). ⊎_elim
    (λ (b : IsUntypedRoutine s x f). both_untyped s x e f a b)
    (λ rest. ⊎_elim (λ (b : IsTooLongRoutine s x f). absurd (never_long s x e f a b))
    (λ whole. absurd (with_faulty s x e f (untyped_faulty s x e a) whole)) rest) also)
    (λ more. ⊎_elim
    (λ (a : IsTooLongRoutine s x e). ⊎_elim
    (λ (b : IsUntypedRoutine s x f). absurd (never_long s x f e b a))
    (λ rest. ⊎_elim (λ (b : IsTooLongRoutine s x f). both_long s x e f a b)
    (λ whole. absurd (with_faulty s x e f (long_faulty s x e a) whole)) rest) also)
    (λ mine. ⊎_elim
    (λ (b : IsUntypedRoutine s x f). absurd (with_faulty s x f e (untyped_faulty s x f b) mine))
    (λ rest. ⊎_elim (λ (b : IsTooLongRoutine s x f). absurd (with_faulty s x f e (long_faulty s x f b) mine))
    (λ whole. ⊎_elim
    (λ (a : AreUnfitEvents s x e). ⊎_elim
    (λ (b : AreUnfitEvents s x f). both_nowhere e f 69 a.reason.number b.reason.number a.reason.place b.reason.place)
    (λ (b : IsTooLongCase s x f). absurd (never_unfit s x e f a b)) whole)
    (λ (a : IsTooLongCase s x e). ⊎_elim
    (λ (b : AreUnfitEvents s x f). absurd (never_unfit s x f e b a))
    (λ (b : IsTooLongCase s x f). both_nowhere e f 67 a.number b.number a.place b.place) whole) mine) rest) also) more) why

pub one_reason : FirstReasonIsOne
one_reason s x e f why also =
    ⊎_elim
    (λ (a : IsOfOtherShape s x e). ⊎_elim
    (λ (b : IsOfOtherShape s x f). both_nowhere e f 68 a.number b.number a.place b.place)
    (λ (b : Later s x f). absurd (later_shape s x f e b a)) also)
    (λ (a : Later s x e). ⊎_elim
    (λ (b : IsOfOtherShape s x f). absurd (later_shape s x e f a b))
    (λ (b : Later s x f). same_later s x e f a b) also) why
