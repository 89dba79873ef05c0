-- From the checks of the routines, the order and the events to whether a program is typed.
use Rattle.std.proofs.Common.{◌≡◌, ℕ, ◌+◌, ◌<◌, ◌≤◌, List, [], ◌∷◌, length, Some, sym, ◌∙◌, subst, inl, inr, ⊎_elim, arith, below_more}
use Rattle.std.specs.Prelude.{slice_get, ◌⊎◌, Result, Ok, Err, IfErr, IsErrAnd}
use Rattle.std.proofs.lemmas.Bool.{false≢true}
use Rattle.std.proofs.lemmas.Option.{same_Some, slice_get_within, slice_get_cases}
use Rattle.cse_value.specs.Shape.{ShapeLists}
use Rattle.cse_image_parts.specs.declared.instruction.Instr.{Instr}
use Rattle.cse_image_parts.specs.Image.{Image, Lists, RoutineLists}
use Rattle.cse_code_typing.specs.declared.refusal.Refusal.{Refusal}
use Rattle.cse_code_typing.specs.Code.{code_of}
use Rattle.cse_code_typing.specs.Signature.{Scene}
use Rattle.cse_code_typing.specs.Rule.{Edge, Rule, rule}
use Rattle.cse_code_typing.specs.Typing.{Stacks, AgreesBelow, HasTypingBelow}
use Rattle.cse_code_typing.specs.Shapes.{shape_of}
use Rattle.cse_code_typing.specs.Typed.{scene_of, IsTypedRoutine, AreTypedBelow, IsTyped, BreaksRules, MayNotStand, HasNoStack, IsOfOtherShape, HasUnfitEvents, IsOutOfMemory, Refuses}
use Rattle.cse_code_typing.specs.Checked.{IsSound, FailsRules, FailsCalls, FailsTyping, Fails}

abbrev scene_with : ShapeLists → Lists → RoutineLists → Scene
scene_with s lists y = record { shape = s; lists = lists; routine = y }

-- ---- a typing of some places is one of fewer places

fewer_agree : (m n : ℕ) (t : Stacks) (es : List Edge) → m ≤ n → AgreesBelow n t es → AgreesBelow m t es
fewer_agree m n t [] le agrees = tt
fewer_agree m n t (e ∷ es) le agrees = ((λ lt. agrees.0 (omega arith)), fewer_agree m n t es le agrees.1)

pub fewer_typed : (r : Rule) (code : List Instr) (m n : ℕ) → m ≤ n → HasTypingBelow r code n → HasTypingBelow r code m
fewer_typed r code m n le typed = (
  typed.0,
  record {
    follows = λ q i lt there.
        let f = typed.1.follows q i (omega arith) there in
        record { edges = f.edges; ruled = f.ruled; agrees = fewer_agree m n typed.0 f.edges le f.agrees };
    others = λ k lt not_led. typed.1.others k (omega arith) not_led;
  },
)

-- ---- one routine

pub routine_typed : (s : ShapeLists) (x : Image) (r n : ℕ) (y : RoutineLists) (lists : Lists) (code : List Instr) → n ≡ r → lists ≡ x.lists → code ≡ code_of x r
    → IsSound (scene_with s lists y) n code → IsTypedRoutine s x r y
routine_typed s x r n y lists code number same is sound =
    let a : IsSound (scene_with s lists y) r code = subst (λ k. IsSound (scene_with s lists y) k code) number sound in
    let b : IsSound (scene_with s x.lists y) r code = subst (λ (l : Lists). IsSound (scene_with s l y) r code) same a in
    let c : IsSound (scene_with s x.lists y) r (code_of x r) = subst (λ (l : List Instr). IsSound (scene_with s x.lists y) r l) is b in
    record { brackets = c.brackets; calls = c.calls; typing = c.typing }

-- the routines up to r are typed
pub typed_more : (s : ShapeLists) (x : Image) (r : ℕ) (y : RoutineLists) → slice_get x.lists.routines r ≡ Some y → AreTypedBelow s x r → IsTypedRoutine s x r y → AreTypedBelow s x (r + 1)
typed_more s x r y there before here q z lt at =
    below_more (λ (k : ℕ). (w : RoutineLists) → slice_get x.lists.routines k ≡ Some w → IsTypedRoutine s x k w) r (λ k l w h. before k w l h)
    (λ w h. subst (IsTypedRoutine s x r) (same_Some y w (sym there ∙ h)) here) q lt z at

-- ---- what is wrong with a routine refuses the program, where the routines before are typed

pub routine_of : (s : Scene) (r : ℕ) (code : List Instr) (e : Refusal) → Fails s r code e → e.routine ≡ r
routine_of s r code e fails =
    ⊎_elim (λ (f : FailsRules s r code e). f.routine)
    (λ rest. ⊎_elim (λ (f : FailsCalls s r code e). f.routine) (λ (f : FailsTyping s r code e). f.routine) rest) fails

refuses_at : (s : ShapeLists) (x : Image) (y : RoutineLists) (e : Refusal) → s ≡ shape_of x → slice_get x.lists.routines e.routine ≡ Some y → AreTypedBelow s x e.routine
    → Fails (scene_of s x y) e.routine (code_of x e.routine) e → Refuses s x e
refuses_at s x y e shape there before fails =
    ⊎_elim
    (λ (f : FailsRules (scene_of s x y) e.routine (code_of x e.routine) e). inr (inl (record {
      number = f.number;
      shape = shape;
      within = slice_get_within x.lists.routines e.routine y there;
      before = before;
      at = f.at;
    })))
    (λ rest. ⊎_elim
    (λ (f : FailsCalls (scene_of s x y) e.routine (code_of x e.routine) e). inr (inr (inl (record {
      number = f.number;
      shape = shape;
      before = before;
      routine = y;
      there = there;
      brackets = f.brackets;
      instr = f.at.instr;
      stands = f.at.there;
      fails = f.at.fails;
      calls = f.at.calls;
      typing = f.at.typing;
    }))))
    (λ (f : FailsTyping (scene_of s x y) e.routine (code_of x e.routine) e). inr (inr (inr (inl (record {
      number = f.number;
      shape = shape;
      before = before;
      routine = y;
      there = there;
      brackets = f.brackets;
      calls = f.at.calls;
      at = f.at.at;
    }))))) rest) fails

pub refuses_here : (s : ShapeLists) (x : Image) (r n : ℕ) (y : RoutineLists) (lists : Lists) (code : List Instr) (e : Refusal) → n ≡ r → lists ≡ x.lists → code ≡ code_of x r
    → s ≡ shape_of x → slice_get x.lists.routines r ≡ Some y → AreTypedBelow s x r
    → IsOutOfMemory e ⊎ Fails (scene_with s lists y) n code e → IsOutOfMemory e ⊎ Refuses s x e
refuses_here s x r n y lists code e number same is shape there before why =
    ⊎_elim (λ memory. inl memory)
    (λ (fails : Fails (scene_with s lists y) n code e).
    let at : r ≡ e.routine = sym (routine_of (scene_with s lists y) n code e fails ∙ number) in
    let a : Fails (scene_with s lists y) r code e = subst (λ k. Fails (scene_with s lists y) k code e) number fails in
    let b : Fails (scene_with s x.lists y) r code e = subst (λ (l : Lists). Fails (scene_with s l y) r code e) same a in
    let c : Fails (scene_with s x.lists y) r (code_of x r) e = subst (λ (l : List Instr). Fails (scene_with s x.lists y) r l e) is b in
    let d : Fails (scene_of s x y) e.routine (code_of x e.routine) e = subst (λ k. Fails (scene_of s x y) k (code_of x k) e) at c in
    inr (refuses_at s x y e shape (subst (λ k. slice_get x.lists.routines k ≡ Some y) at there) (subst (AreTypedBelow s x) at before) d)) why

-- ---- a program that is refused isn't typed

routine_there : (xs : List RoutineLists) (r : ℕ) → r < length xs → (y : RoutineLists) × (slice_get xs r ≡ Some y)
routine_there xs r lt =
    ⊎_elim (λ found. (found.0, found.2)) (λ past. let le = past.0 in absurd (omega arith)) (slice_get_cases xs r).1

breaks_never : (s : ShapeLists) (x : Image) (e : Refusal) → BreaksRules s x e → IsTyped s x → ⊥
breaks_never s x e b typed =
    let there = routine_there x.lists.routines e.routine b.within in
    b.at.1 ((typed.routines e.routine there.0 b.within there.1).brackets e.at b.at.0)

stands_never : (s : ShapeLists) (x : Image) (e : Refusal) → MayNotStand s x e → IsTyped s x → ⊥
stands_never s x e b typed =
    let here = typed.routines e.routine b.routine (slice_get_within x.lists.routines e.routine b.routine b.there) b.there in
    let yes = here.calls e.at b.instr (slice_get_within (code_of x e.routine) e.at b.instr b.stands) b.stands in
    false≢true (sym b.fails ∙ yes)

stack_never : (s : ShapeLists) (x : Image) (e : Refusal) → HasNoStack s x e → IsTyped s x → ⊥
stack_never s x e b typed =
    let here = typed.routines e.routine b.routine (slice_get_within x.lists.routines e.routine b.routine b.there) b.there in
    let within = b.at.within in
    b.at.none (fewer_typed (rule (scene_of s x b.routine) (code_of x e.routine)) (code_of x e.routine) (e.at + 1) (length (code_of x e.routine)) (omega arith) here.typing)

pub never_typed : (s : ShapeLists) (x : Image) (e : Refusal) → Refuses s x e → IsTyped s x → ⊥
never_typed s x e why typed =
    ⊎_elim (λ (b : IsOfOtherShape s x e). b.differs typed.shape)
    (λ a. ⊎_elim (λ (b : BreaksRules s x e). breaks_never s x e b typed)
    (λ c. ⊎_elim (λ (b : MayNotStand s x e). stands_never s x e b typed)
    (λ d. ⊎_elim (λ (b : HasNoStack s x e). stack_never s x e b typed)
    (λ (b : HasUnfitEvents s x e). b.unfit typed.order typed.events) d) c) a) why

-- the same, where memory may run out
pub or_never : (s : ShapeLists) (x : Image) (e : Refusal) → IsOutOfMemory e ⊎ Refuses s x e → IsOutOfMemory e ⊎ (IsTyped s x → ⊥)
or_never s x e why = ⊎_elim (λ memory. inl memory) (λ (refused : Refuses s x e). inr (never_typed s x e refused)) why

-- ---- an error that is handed on

pub handed_on : {X : Type 0} (r : Result X Refusal) (e : Refusal) (P : Refusal → Type 0) → IsErrAnd r (λ f. f ≡ e) → P e → IfErr r P
handed_on (Ok x) e P same holds = tt
handed_on (Err f) e P same holds = subst P (sym same) holds
