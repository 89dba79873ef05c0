-- What a verified program keeps, and why a program that is refused may not run.
use Rattle.std.proofs.Common.{◌≡◌, ℕ, suc, ◌<◌, ◌≤◌, List, length, get_or, sym, ap, ◌∙◌, subst, inl, inr, ⊎_elim, arith}
use Rattle.std.specs.Prelude.{◌⊎◌}
use Rattle.std.proofs.lemmas.List.{get_or_default}
use Rattle.cse_value.specs.Shape.{ShapeLists}
use Rattle.cse_image_parts.specs.Image.{Image}
use Rattle.cse_code_typing.specs.declared.refusal.Refusal.{Refusal}
use Rattle.cse_code_typing.specs.Typed.{IsTyped, BreaksRules, MayNotStand, HasNoStack, IsOfOtherShape, HasUnfitEvents, IsOutOfMemory, Refuses}
use Rattle.cse_code_typing.proofs.TypedLaws.{never_typed}
use Rattle.cse_verify.specs.Limit.{step_limit}
use Rattle.cse_verify.specs.Bound.{partial, bounds_below, bound}
use Rattle.cse_code_typing.specs.Skeleton.{skeleton_of}
use Rattle.cse_verify.specs.EventBound.{case_bound, run_bound}
use Rattle.cse_verify.specs.Bounded.{IsBounded}
use Rattle.cse_verify.proofs.EventLaws.{length-bounds, bounds_at}
use Rattle.cse_verify.proofs.SumLaws.{partial_grows}
use Rattle.cse_verify.specs.declared.depth.Depth.{Depth}
use Rattle.cse_dict.specs.Dictionary.{shape_of}
use Rattle.cse_code_typing.specs.declared.depth.Depth.{Depth as Cells}
use Rattle.cse_code_typing.specs.Depth.{AreDepths, greatest}
use Rattle.cse_verify.specs.Frames.{greatest as greatest_number}
use Rattle.cse_verify.specs.Measured.{AreMeasured, IsGreatest}
use Rattle.cse_verify.specs.FirstFault.{IsUntypedRoutine, IsTooLongRoutine, AreUnfitEvents, IsTooLongCase, IsFirstFault}
use Rattle.cse_verify.specs.Verified.{VerifiedProgram, MayRun, IsKept}

-- ---- what is kept

pub kept_of : (v : VerifiedProgram) (s : ShapeLists) (bounds frames seen_frames : List ℕ) (cells seen_cells : List Cells) (case run : ℕ) (depth : Depth) → s ≡ shape_of v.dictionary
    → AreMeasured s v.image (length v.image.lists.routines) bounds frames cells → IsTyped s v.image → case ≡ case_bound v.image → case ≤ step_limit → run ≡ run_bound v.image
    → seen_cells ≡ cells → seen_frames ≡ frames → IsGreatest seen_cells seen_frames depth → IsKept v bounds case run depth
kept_of v s bounds frames seen_frames cells seen_cells case run depth shape m typed case_is small run_is same same2 most = record {
  may_run = record {
    typed = subst (λ (l : ShapeLists). IsTyped l v.image) shape typed;
    bounded = record { routines = m.bounded; case = subst (λ n. n ≤ step_limit) case_is small };
  };
  bounds_are = m.bounds_are;
  case_is = case_is;
  run_is = run_is;
  depth_is = record {
    table = cells;
    routines = m.cells_of;
    depths = subst (λ (l : ShapeLists). AreDepths l v.image cells) shape m.cells_are;
    nums = most.nums ∙ ap (λ (l : List Cells). (greatest l).numbers) same;
    texts = most.texts ∙ ap (λ (l : List Cells). (greatest l).texts) same;
    ords = most.ords ∙ ap (λ (l : List Cells). (greatest l).ordinals) same;
    frames_are = most.frames_are ∙ ap greatest_number (same2 ∙ m.frames_are);
  };
}

module _ (v shown : VerifiedProgram) (bounds : List ℕ) (case run : ℕ) (depth : Depth) (kept : IsKept v bounds case run depth) (is : v ≡ shown) where
  pub bound_within : (r : ℕ) → r < length shown.image.lists.routines → r < length bounds
  bound_within r lt =
      let n = ap (λ (l : List ℕ). length l) kept.bounds_are ∙ length-bounds v.image (length v.image.lists.routines) in
      let m = ap (λ (w : VerifiedProgram). length w.image.lists.routines) is in
      omega arith

  pub bound_read : (r n : ℕ) → r < length shown.image.lists.routines → n ≡ get_or bounds r n → n ≡ bound shown.image r
  bound_read r n lt read =
      let m = ap (λ (w : VerifiedProgram). length w.image.lists.routines) is in
      let all = length v.image.lists.routines in
      read
      ∙ ap (λ (l : List ℕ). get_or l r n) kept.bounds_are
      ∙ get_or_default (bounds_below v.image all) r n 0 (let k = length-bounds v.image all in omega arith)
      ∙ bounds_at v.image all r (omega arith)
      ∙ ap (λ (w : VerifiedProgram). bound w.image r) is

  pub bound_small : (r n : ℕ) → r < length shown.image.lists.routines → n ≡ get_or bounds r n → n ≤ step_limit
  bound_small r n lt read =
      let m = ap (λ (w : VerifiedProgram). length w.image.lists.routines) is in
      let e = bound_read r n lt read in
      let s = kept.may_run.bounded.routines r (omega arith) in
      let k = ap (λ (w : VerifiedProgram). bound w.image r) is in
      omega arith

-- ---- a program that is refused may not run

long_never : (s : ShapeLists) (x : Image) (e : Refusal) → IsTooLongRoutine s x e → IsBounded x → ⊥
long_never s x e b bounded =
    let small = bounded.routines e.routine b.within in
    let within = b.reason.at.within in
    let after = b.reason.at.after in
    let grows = partial_grows (bounds_below x e.routine) (skeleton_of x e.routine) (suc e.at) (length (skeleton_of x e.routine)) (omega arith) in
    omega arith

pub untyped_never : (s : ShapeLists) (x : Image) (e : Refusal) → BreaksRules s x e ⊎ (MayNotStand s x e ⊎ HasNoStack s x e) → Refuses s x e
untyped_never s x e why =
    ⊎_elim (λ (b : BreaksRules s x e). inr (inl b))
    (λ rest. ⊎_elim (λ (b : MayNotStand s x e). inr (inr (inl b))) (λ (b : HasNoStack s x e). inr (inr (inr (inl b)))) rest) why

first_never : (s : ShapeLists) (x : Image) (e : Refusal) → IsFirstFault s x e → IsTyped s x → IsBounded x → ⊥
first_never s x e why typed bounded =
    ⊎_elim (λ (b : IsOfOtherShape s x e). never_typed s x e (inl b) typed)
    (λ a. ⊎_elim (λ (b : IsUntypedRoutine s x e). never_typed s x e (untyped_never s x e b.reason) typed)
    (λ c. ⊎_elim (λ (b : IsTooLongRoutine s x e). long_never s x e b bounded)
    (λ d. ⊎_elim (λ (b : AreUnfitEvents s x e). never_typed s x e (inr (inr (inr (inr b.reason)))) typed)
    (λ (b : IsTooLongCase s x e). let more = b.case in let small = bounded.case in omega arith) d) c) a) why

pub or_never : (s : ShapeLists) (x : Image) (e : Refusal) → IsOutOfMemory e ⊎ IsFirstFault s x e → IsOutOfMemory e ⊎ (IsTyped s x → IsBounded x → ⊥)
or_never s x e why = ⊎_elim (λ memory. inl memory) (λ (first : IsFirstFault s x e). inr (first_never s x e first)) why
