-- From one routine to the next.
use Rattle.std.proofs.Common.{◌≡◌, ℕ, zero, suc, ◌+◌, ◌*◌, ◌<◌, ◌≤◌, List, [], ◌∷◌, ◌++◌, length, take, get_or, Some, refl, sym, ap, ◌∙◌, subst, inl, inr, ⊎_elim, arith, below_more}
use Rattle.std.specs.Prelude.{slice_get, ◌⊎◌}
use Rattle.std.proofs.lemmas.Bool.{cases_lt}
use Rattle.std.proofs.lemmas.List.{length_push, get_or_append_left, get_or_push, take-append-le, take_all}
use Rattle.std.proofs.lemmas.Option.{slice_get_within, same_Some}
use Rattle.cse_lemmas.proofs.Lists.{slice_get_push}
use Rattle.cse_value.specs.Shape.{ShapeLists}
use Rattle.cse_image_parts.specs.declared.instruction.Instr.{Instr}
use Rattle.cse_image_parts.specs.Image.{Image, Lists, RoutineLists}
use Rattle.cse_code_typing.specs.declared.control.Control.{Control}
use Rattle.cse_code_typing.specs.declared.refusal.Refusal.{Refusal}
use Rattle.cse_code_typing.specs.declared.depth.Depth.{Depth as Cells}
use Rattle.cse_code_typing.specs.Depth.{IsDepth, AreDepths, KeepFew}
use Rattle.cse_code_typing.specs.Code.{code_of}
use Rattle.cse_code_typing.specs.Skeleton.{skeleton, skeleton_of}
use Rattle.cse_code_typing.specs.Bracket.{KeepsRules}
use Rattle.cse_code_typing.specs.Signature.{Scene}
use Rattle.cse_code_typing.specs.Shapes.{shape_of}
use Rattle.cse_code_typing.specs.Checked.{IsSound, FailsRules, FailsCalls, FailsTyping, Fails}
use Rattle.cse_code_typing.specs.Typed.{scene_of, AreTypedBelow, IsTypedRoutine, IsOutOfMemory, BreaksRules, MayNotStand, HasNoStack}
use Rattle.cse_code_typing.proofs.Few.{none_kept}
use Rattle.cse_code_typing.proofs.TypedLaws.{routine_typed, typed_more, routine_of}
use Rattle.cse_verify.specs.Limit.{step_limit}
use Rattle.cse_verify.specs.Bound.{partial, bounds_below, bound, AreBoundedBelow, PassesLimit, IsTooLong, CallsBelow}
use Rattle.cse_verify.specs.Frames.{most_frames, frames_below}
use Rattle.cse_verify.proofs.EventLaws.{length-bounds, table_small}
use Rattle.cse_verify.proofs.OpenLaws.{length-frames}
use Rattle.cse_verify.proofs.CallLaws.{calls_below}
use Rattle.cse_verify.specs.FirstFault.{IsUntypedRoutine, IsTooLongRoutine, IsFirstFault}
use Rattle.cse_verify.specs.Measured.{AreMeasured, Exceeds}

abbrev scene_with : ShapeLists → Lists → RoutineLists → Scene
scene_with s lists y = record { shape = s; lists = lists; routine = y }

-- ---- the tables

pub measured_start : (s : ShapeLists) (x : Image) (bounds frames : List ℕ) (cells : List Cells) → bounds ≡ [] → frames ≡ [] → cells ≡ [] → AreMeasured s x 0 bounds frames cells
unfolding bounds_below frames_below
measured_start s x bounds frames cells a b c = record {
  typed = λ r y lt there. absurd (omega arith);
  bounded = λ r lt. absurd (omega arith);
  bounds_are = a;
  frames_are = b;
  cells_are = λ r y d there at. let none = ap (λ (l : List Cells). slice_get l r) c in cc;
  cells_of = ap (λ (l : List Cells). length l) c;
  cells_few = subst KeepFew (sym c) none_kept;
  few = λ r lt. let none = ap (λ (l : List ℕ). length l) b in absurd (omega arith);
}

pub bounds_length : (s : ShapeLists) (x : Image) (n : ℕ) (bounds frames : List ℕ) (cells : List Cells) → AreMeasured s x n bounds frames cells → length bounds ≡ n
bounds_length s x n bounds frames cells m = ap (λ (l : List ℕ). length l) m.bounds_are ∙ length-bounds x n

pub frames_length : (s : ShapeLists) (x : Image) (n : ℕ) (bounds frames : List ℕ) (cells : List Cells) → AreMeasured s x n bounds frames cells → length frames ≡ n
frames_length s x n bounds frames cells m = ap (λ (l : List ℕ). length l) m.frames_are ∙ length-frames x n

few_more : (frames : List ℕ) (b : ℕ) (next : List ℕ) → ((r : ℕ) → r < length frames → get_or frames r 0 ≤ 64 * length frames) → b ≤ 64 * (length frames + 1) → next ≡ frames ++ b ∷ []
    → (r : ℕ) → r < length next → get_or next r 0 ≤ 64 * length next
few_more frames b next few small pushed r lt =
    let len = ap (λ (l : List ℕ). length l) pushed ∙ length_push frames b in
    let read = ap (λ (l : List ℕ). get_or l r 0) pushed in
    ⊎_elim
    (λ (l : r < length frames). let a = get_or_append_left frames (b ∷ []) 0 r l in let c = few r l in omega arith)
    (λ (l : length frames ≤ r). let a = get_or_push frames b 0 r (omega arith) in omega arith)
    (cases_lt r (length frames))

pub measured_more : (s : ShapeLists) (x : Image) (n : ℕ) (y : RoutineLists) (bounds frames bounds2 frames2 : List ℕ) (cells cells2 : List Cells) (code : List Control) → slice_get x.lists.routines n ≡ Some y → AreMeasured s x n bounds frames cells
    → IsTypedRoutine s x n y → code ≡ skeleton_of x n
    → bounds2 ≡ bounds ++ partial bounds code (length code) ∷ [] → partial bounds code (length code) ≤ step_limit
    → frames2 ≡ frames ++ most_frames frames code (length code) ∷ [] → most_frames frames code (length code) ≤ 64 * (length frames + 1)
    → AreDepths s x cells2 → length cells2 ≡ n + 1 → KeepFew cells2
    → AreMeasured s x (n + 1) bounds2 frames2 cells2
unfolding bounds_below frames_below
measured_more s x n y bounds frames bounds2 frames2 cells cells2 code there m here is added small pushed few depths many kept =
    let one : suc n ≡ n + 1 = omega arith in
    let sum : partial bounds code (length code) ≡ bound x n =
    ap (λ (l : List ℕ). partial l code (length code)) m.bounds_are ∙ ap (λ (l : List Control). partial (bounds_below x n) l (length l)) is
    in
    let most : most_frames frames code (length code) ≡ most_frames (frames_below x n) (skeleton_of x n) (length (skeleton_of x n)) =
    ap (λ (l : List ℕ). most_frames l code (length code)) m.frames_are ∙ ap (λ (l : List Control). most_frames (frames_below x n) l (length l)) is
    in
    let table : bounds2 ≡ bounds_below x (suc n) = added ∙ ap (λ (l : List ℕ). l ++ partial bounds code (length code) ∷ []) m.bounds_are ∙ ap (λ k. bounds_below x n ++ k ∷ []) sum in
    let table2 : frames2 ≡ frames_below x (suc n) = pushed ∙ ap (λ (l : List ℕ). l ++ most_frames frames code (length code) ∷ []) m.frames_are ∙ ap (λ k. frames_below x n ++ k ∷ []) most in
    record {
      typed = typed_more s x n y there m.typed here;
      bounded = below_more (λ (k : ℕ). bound x k ≤ step_limit) n m.bounded (subst (λ k. k ≤ step_limit) sum small);
      bounds_are = table ∙ ap (bounds_below x) one;
      frames_are = table2 ∙ ap (frames_below x) one;
      cells_are = depths;
      cells_of = many;
      cells_few = kept;
      few = few_more frames (most_frames frames code (length code)) frames2 m.few few pushed;
    }

-- ---- the table of depths

at_left : {X : Type 0} (xs ys : List X) (i : ℕ) → i < length xs → slice_get (xs ++ ys) i ≡ slice_get xs i
at_left [] ys i lt = absurd (omega arith)
at_left (x ∷ xs) ys zero lt = refl
at_left (x ∷ xs) ys (suc i) lt = at_left xs ys i (omega arith)

-- the depth of one more routine, by those of the routines before it
pub depths_more : (s : ShapeLists) (x : Image) (n : ℕ) (y : RoutineLists) (lists : Lists) (code : List Instr) (seen cells next : List Cells) (d : Cells) → slice_get x.lists.routines n ≡ Some y → lists ≡ x.lists → code ≡ code_of x n → seen ≡ cells
    → length cells ≡ n → AreDepths s x cells → IsDepth (scene_with s lists y) seen code d → next ≡ cells ++ d ∷ [] → AreDepths s x next
depths_more s x n y lists code seen cells next d there same is all_seen count depths here pushed r z e routine at =
    let told : slice_get (cells ++ d ∷ []) r ≡ Some e = ap (λ (l : List Cells). slice_get l r) (sym pushed) ∙ at in
    let lt : r < length (cells ++ d ∷ []) = slice_get_within (cells ++ d ∷ []) r e told in
    let len = length_push cells d in
    let front : take r next ≡ take r cells = ap (take r) pushed ∙ take-append-le r cells (d ∷ []) (omega arith) in
    ⊎_elim
    (λ (l : r < n).
    let before = depths r z e routine (sym (at_left cells (d ∷ []) r (omega arith)) ∙ told) in
    subst (λ (l : List Cells). IsDepth (scene_of s x z) l (code_of x r) e) (sym front) before)
    (λ (l : n ≤ r).
    let last : n ≡ r = omega arith in
    let e_is : d ≡ e = same_Some d e (sym (slice_get_push cells d r (omega arith)) ∙ told) in
    let z_is : y ≡ z = same_Some y z (sym there ∙ ap (λ k. slice_get x.lists.routines k) last ∙ routine) in
    let all : cells ≡ take r next = sym (front ∙ take_all r cells (omega arith)) in
    let h : IsDepth (scene_with s lists y) cells code d = subst (λ (l : List Cells). IsDepth (scene_with s lists y) l code d) all_seen here in
    let a : IsDepth (scene_with s x.lists y) cells code d = subst (λ (l : Lists). IsDepth (scene_with s l y) cells code d) same h in
    let b : IsDepth (scene_of s x y) cells (code_of x n) d = subst (λ (l : List Instr). IsDepth (scene_of s x y) cells l d) is a in
    let c : IsDepth (scene_of s x y) (take r next) (code_of x n) d = subst (λ (l : List Cells). IsDepth (scene_of s x y) l (code_of x n) d) all b in
    let f : IsDepth (scene_of s x z) (take r next) (code_of x n) d = subst (λ (w : RoutineLists). IsDepth (scene_of s x w) (take r next) (code_of x n) d) z_is c in
    let g : IsDepth (scene_of s x z) (take r next) (code_of x r) d = subst (λ k. IsDepth (scene_of s x z) (take r next) (code_of x k) d) last f in
    subst (λ (k : Cells). IsDepth (scene_of s x z) (take r next) (code_of x r) k) e_is g)
    (cases_lt r n)

-- ---- the first reason against a routine

untyped_at : (s : ShapeLists) (x : Image) (y : RoutineLists) (e : Refusal) → s ≡ shape_of x → slice_get x.lists.routines e.routine ≡ Some y → AreTypedBelow s x e.routine
    → Fails (scene_of s x y) e.routine (code_of x e.routine) e → BreaksRules s x e ⊎ (MayNotStand s x e ⊎ HasNoStack s x e)
untyped_at s x y e shape there before fails =
    ⊎_elim
    (λ (f : FailsRules (scene_of s x y) e.routine (code_of x e.routine) e). inl (record {
      number = f.number;
      shape = shape;
      within = slice_get_within x.lists.routines e.routine y there;
      before = before;
      at = f.at;
    }))
    (λ rest. ⊎_elim
    (λ (f : FailsCalls (scene_of s x y) e.routine (code_of x e.routine) e). inr (inl (record {
      number = f.number;
      shape = shape;
      before = before;
      routine = y;
      there = there;
      brackets = f.brackets;
      instr = f.at.instr;
      stands = f.at.there;
      fails = f.at.fails;
      calls = f.at.calls;
      typing = f.at.typing;
    })))
    (λ (f : FailsTyping (scene_of s x y) e.routine (code_of x e.routine) e). inr (inr (record {
      number = f.number;
      shape = shape;
      before = before;
      routine = y;
      there = there;
      brackets = f.brackets;
      calls = f.at.calls;
      at = f.at.at;
    }))) rest) fails

pub untyped_here : (s : ShapeLists) (x : Image) (r n : ℕ) (y : RoutineLists) (lists : Lists) (code : List Instr) (bounds frames : List ℕ) (cells : List Cells) (e : Refusal) → n ≡ r → lists ≡ x.lists → code ≡ code_of x r
    → s ≡ shape_of x → slice_get x.lists.routines r ≡ Some y → AreMeasured s x r bounds frames cells
    → IsOutOfMemory e ⊎ Fails (scene_with s lists y) n code e → IsOutOfMemory e ⊎ IsFirstFault s x e
untyped_here s x r n y lists code bounds frames cells e number same is shape there m why =
    ⊎_elim (λ memory. inl memory)
    (λ (fails : Fails (scene_with s lists y) n code e).
    let at : r ≡ e.routine = sym (routine_of (scene_with s lists y) n code e fails ∙ number) in
    let a : Fails (scene_with s lists y) r code e = subst (λ k. Fails (scene_with s lists y) k code e) number fails in
    let b : Fails (scene_with s x.lists y) r code e = subst (λ (l : Lists). Fails (scene_with s l y) r code e) same a in
    let c : Fails (scene_with s x.lists y) r (code_of x r) e = subst (λ (l : List Instr). Fails (scene_with s x.lists y) r l e) is b in
    let d : Fails (scene_of s x y) e.routine (code_of x e.routine) e = subst (λ k. Fails (scene_of s x y) k (code_of x k) e) at c in
    inr (inr (inl (record {
      reason = untyped_at s x y e shape (subst (λ k. slice_get x.lists.routines k ≡ Some y) at there) (subst (AreTypedBelow s x) at m.typed) d;
      bounded = subst (AreBoundedBelow x) at m.bounded;
    })))) why

pub too_long_here : (s : ShapeLists) (x : Image) (r n : ℕ) (y : RoutineLists) (code : List Control) (bounds frames : List ℕ) (cells : List Cells) (e : Refusal) → n ≡ r → code ≡ skeleton_of x r
    → s ≡ shape_of x → slice_get x.lists.routines r ≡ Some y → AreMeasured s x r bounds frames cells → IsTypedRoutine s x r y
    → IsOutOfMemory e ⊎ Exceeds bounds code n e → IsOutOfMemory e ⊎ IsFirstFault s x e
too_long_here s x r n y code bounds frames cells e number is shape there m here why =
    ⊎_elim (λ memory. inl memory)
    (λ (exceeds : Exceeds bounds code n e).
    let at : r ≡ e.routine = sym (exceeds.routine_is ∙ number) in
    let a = subst (λ (l : List Control). PassesLimit bounds l e.at) is exceeds.at in
    let b = subst (λ (l : List ℕ). PassesLimit l (skeleton_of x r) e.at) m.bounds_are a in
    inr (inr (inr (inl (record {
      shape = shape;
      within = subst (λ k. k < length x.lists.routines) at (slice_get_within x.lists.routines r y there);
      routines = subst (λ k. AreTypedBelow s x (k + 1)) at (typed_more s x r y there m.typed here);
      reason = record {
        number = exceeds.number;
        before = subst (AreBoundedBelow x) at m.bounded;
        at = subst (λ k. PassesLimit (bounds_below x k) (skeleton_of x k) e.at) at b;
      };
    }))))) why

-- ---- one routine's code, as the loop has it

pub keeps_here : (s : ShapeLists) (x : Image) (n : ℕ) (y : RoutineLists) (code : List Control) → code ≡ skeleton_of x n → IsTypedRoutine s x n y → KeepsRules code
keeps_here s x n y code is here = subst KeepsRules (sym is) here.brackets

pub calls_here : (s : ShapeLists) (x : Image) (n k : ℕ) (y : RoutineLists) (code : List Control) → code ≡ skeleton_of x n → k ≡ n → IsTypedRoutine s x n y → CallsBelow k code
calls_here s x n k y code is count here p c at =
    let lt : c < n = calls_below x.lists x.lists.routines n y.ambient (code_of x n) here.calls p c (ap (λ (l : List Control). slice_get l p) (sym is) ∙ at) in
    omega arith

pub bounds_small : (s : ShapeLists) (x : Image) (n : ℕ) (bounds frames : List ℕ) (cells : List Cells) → AreMeasured s x n bounds frames cells → (r : ℕ) → r < length bounds → get_or bounds r 0 ≤ step_limit
bounds_small s x n bounds frames cells m = table_small x n bounds m.bounds_are m.bounded

pub skeleton_here : (x : Image) (n : ℕ) (code : List Instr) (lists : Lists) (seen : List Control) → seen ≡ skeleton lists code → code ≡ code_of x n → lists ≡ x.lists → seen ≡ skeleton_of x n
skeleton_here x n code lists seen is same tables =
    is ∙ ap (λ (l : List Instr). skeleton lists l) same ∙ ap (λ (l : Lists). skeleton l (code_of x n)) tables

pub all_measured : (s : ShapeLists) (x : Image) (n : ℕ) (bounds frames : List ℕ) (cells : List Cells) → AreMeasured s x n bounds frames cells → n ≡ length x.lists.routines → AreMeasured s x (length x.lists.routines) bounds frames cells
all_measured s x n bounds frames cells m e = subst (λ k. AreMeasured s x k bounds frames cells) e m
