-- The upgrade of a program of version 1 is, for the verifier, the program whose code stands as it is.
use Rattle.std.proofs.Common.{◌≡◌, ℕ, zero, suc, ◌*◌, ◌<◌, List, [], ◌∷◌, ◌++◌, length, take, map, Some, refl, sym, ap, ◌∙◌, subst, arith}
use Rattle.std.specs.Prelude.{slice_get, ◌↔◌}
use Rattle.std.specs.List.{sum_by}
use Rattle.std.proofs.lemmas.List.{length-map}
use Rattle.std.proofs.lemmas.List.Sums.{sum_by-cons}
use Rattle.cse_value.specs.Shape.{ShapeLists}
use Rattle.cse_image_parts.specs.declared.version.Version.TheVariants as versions
use Rattle.cse_image_parts.specs.declared.entries.EventEntry.{EventEntry}
use Rattle.cse_image_parts.specs.declared.instruction.Instr.{Instr}
use Rattle.cse_image_parts.specs.Image.{Image, Lists, RoutineLists}
use Rattle.cse_image_parts.specs.Upgrade.{greatest_limit, one_to, zero_below, upgrade_instr, with_limits, upgrade, as_it_stands}
use Rattle.cse_image.specs.Spelling.{FitsIn}
use Rattle.cse_code_typing.specs.declared.control.Control.{Control}
use Rattle.cse_code_typing.specs.declared.depth.Depth.{Depth as Cells}
use Rattle.cse_code_typing.specs.Code.{code_of}
use Rattle.cse_code_typing.specs.Skeleton.{skeleton, skeleton_of}
use Rattle.cse_code_typing.specs.Bracket.{KeepsRules}
use Rattle.cse_code_typing.specs.Rule.{rule}
use Rattle.cse_code_typing.specs.Typing.{Stacks, IsTypingBelow}
use Rattle.cse_code_typing.specs.Calls.{AllMayStand}
use Rattle.cse_code_typing.specs.Depth.{◌⊕◌, locals_depth, depth_below, AreDepths}
use Rattle.cse_code_typing.specs.Typed.{scene_of, IsTypedRoutine, IsTyped}
use Rattle.cse_code_typing.proofs.Twins.{AllTwins, twins_of_routine, code_mapped, same_skeleton, to_left, to_right, same_depth, stand_left, stand_right}
use Rattle.cse_code_typing.proofs.Upgrades.{upgrade_twins}
use Rattle.cse_verify.specs.Bound.{partial, bounds_below, bound}
use Rattle.cse_verify.specs.EventBound.{times_in_case, case_bound}
use Rattle.cse_verify.specs.Frames.{most_frames, frames_below, frames, greatest as greatest_number}
use Rattle.cse_verify.specs.declared.depth.Depth.{Depth}
use Rattle.cse_verify.specs.Depths.{IsDepthOf}
use Rattle.cse_verify.specs.Meaning.{MeansSame, UpgradeMeansSame}

sums_same : (g h : EventEntry → ℕ) → ((e : EventEntry) → g e ≡ h e) → (es : List EventEntry) → sum_by g es ≡ sum_by h es
sums_same g h same [] = refl
sums_same g h same (e ∷ es) = omega (arith, sum_by-cons g e es, sum_by-cons h e es, same e, sums_same g h same es)

-- the image with so many limits
abbrev image_with : List ℕ → Lists → List Instr → Image
image_with l lists code = record { lists = with_limits l lists; code = code }

module _ (f : Instr → Instr) (lists : Lists) (l m : List ℕ) (code : List Instr) (all : AllTwins f l m code) where
  twins : (r : ℕ) → AllTwins f l m (code_of (image_with m lists code) r)
  twins r = twins_of_routine f l m (image_with m lists code) r all

  mapped : (r : ℕ) → code_of (image_with l lists (map f code)) r ≡ map f (code_of (image_with m lists code) r)
  mapped r = code_mapped f l m lists code r

  skeletons_same : (r : ℕ) → skeleton_of (image_with l lists (map f code)) r ≡ skeleton_of (image_with m lists code) r
  skeletons_same r = ap (skeleton (with_limits l lists)) (mapped r) ∙ same_skeleton f lists l m (code_of (image_with m lists code) r) (twins r)

  left : (s : ShapeLists) (r n : ℕ) (z : RoutineLists) (t : Stacks) → IsTypingBelow (rule (scene_of s (image_with m lists code) z) (code_of (image_with m lists code) r)) (code_of (image_with m lists code) r) n t
      → IsTypingBelow (rule (scene_of s (image_with l lists (map f code)) z) (code_of (image_with l lists (map f code)) r)) (code_of (image_with l lists (map f code)) r) n t
  left s r n z t typing =
      subst (λ (c : List Instr). IsTypingBelow (rule (scene_of s (image_with l lists (map f code)) z) c) c n t) (sym (mapped r))
      (to_left f lists l m s z (code_of (image_with m lists code) r) (twins r) n t typing)

  right : (s : ShapeLists) (r n : ℕ) (z : RoutineLists) (t : Stacks) → IsTypingBelow (rule (scene_of s (image_with l lists (map f code)) z) (code_of (image_with l lists (map f code)) r)) (code_of (image_with l lists (map f code)) r) n t
      → IsTypingBelow (rule (scene_of s (image_with m lists code) z) (code_of (image_with m lists code) r)) (code_of (image_with m lists code) r) n t
  right s r n z t typing =
      to_right f lists l m s z (code_of (image_with m lists code) r) (twins r) n t
      (subst (λ (c : List Instr). IsTypingBelow (rule (scene_of s (image_with l lists (map f code)) z) c) c n t) (mapped r) typing)

  size_same : (r : ℕ) → length (code_of (image_with l lists (map f code)) r) ≡ length (code_of (image_with m lists code) r)
  size_same r = ap (λ (c : List Instr). length c) (mapped r) ∙ length-map (code_of (image_with m lists code) r) f

  -- ---- bounds and brackets

  bounds_same : (n : ℕ) → bounds_below (image_with l lists (map f code)) n ≡ bounds_below (image_with m lists code) n
  unfolding bounds_below
  bounds_same zero = refl
  bounds_same (suc r) =
      ap (λ (b : List ℕ). b ++ partial b (skeleton_of (image_with l lists (map f code)) r) (length (skeleton_of (image_with l lists (map f code)) r)) ∷ []) (bounds_same r)
      ∙ ap (λ (k : List Control). bounds_below (image_with m lists code) r ++ partial (bounds_below (image_with m lists code) r) k (length k) ∷ []) (skeletons_same r)

  bound_same : (r : ℕ) → bound (image_with l lists (map f code)) r ≡ bound (image_with m lists code) r
  bound_same r =
      ap (λ (b : List ℕ). partial b (skeleton_of (image_with l lists (map f code)) r) (length (skeleton_of (image_with l lists (map f code)) r))) (bounds_same r)
      ∙ ap (λ (k : List Control). partial (bounds_below (image_with m lists code) r) k (length k)) (skeletons_same r)

  case_same : case_bound (image_with l lists (map f code)) ≡ case_bound (image_with m lists code)
  case_same =
      sums_same (λ e. times_in_case (with_limits l lists) e.code e.index * bound (image_with l lists (map f code)) e.routine) (λ e. times_in_case (with_limits m lists) e.code e.index * bound (image_with m lists code) e.routine)
      (λ e. ap (λ n. times_in_case (with_limits m lists) e.code e.index * n) (bound_same e.routine)) lists.events

  frames_same : (n : ℕ) → frames_below (image_with l lists (map f code)) n ≡ frames_below (image_with m lists code) n
  unfolding frames_below
  frames_same zero = refl
  frames_same (suc r) =
      ap (λ (b : List ℕ). b ++ most_frames b (skeleton_of (image_with l lists (map f code)) r) (length (skeleton_of (image_with l lists (map f code)) r)) ∷ []) (frames_same r)
      ∙ ap (λ (k : List Control). frames_below (image_with m lists code) r ++ most_frames (frames_below (image_with m lists code) r) k (length k) ∷ []) (skeletons_same r)

  -- ---- depths

  depth_same : (r : ℕ) (table : List Cells) (t : Stacks) → depth_below lists.routines table (code_of (image_with l lists (map f code)) r) t (length (code_of (image_with l lists (map f code)) r)) ≡ depth_below lists.routines table (code_of (image_with m lists code) r) t (length (code_of (image_with m lists code) r))
  depth_same r table t =
      ap (λ (c : List Instr). depth_below lists.routines table c t (length c)) (mapped r)
      ∙ ap (depth_below lists.routines table (map f (code_of (image_with m lists code) r)) t) (length-map (code_of (image_with m lists code) r) f)
      ∙ same_depth f lists l m lists.routines table (code_of (image_with m lists code) r) t (length (code_of (image_with m lists code) r)) (twins r)

  depths_left : (s : ShapeLists) (table : List Cells) → AreDepths s (image_with m lists code) table → AreDepths s (image_with l lists (map f code)) table
  depths_left s table depths r y d there at t typing =
      depths r y d there at t (subst (λ n. IsTypingBelow (rule (scene_of s (image_with m lists code) y) (code_of (image_with m lists code) r)) (code_of (image_with m lists code) r) n t) (size_same r) (right s r (length (code_of (image_with l lists (map f code)) r)) y t typing))
      ∙ ap (λ (k : Cells). locals_depth y.locals ⊕ k) (sym (depth_same r (take r table) t))

  depths_right : (s : ShapeLists) (table : List Cells) → AreDepths s (image_with l lists (map f code)) table → AreDepths s (image_with m lists code) table
  depths_right s table depths r y d there at t typing =
      depths r y d there at t (subst (λ n. IsTypingBelow (rule (scene_of s (image_with l lists (map f code)) y) (code_of (image_with l lists (map f code)) r)) (code_of (image_with l lists (map f code)) r) n t) (sym (size_same r)) (left s r (length (code_of (image_with m lists code) r)) y t typing))
      ∙ ap (λ (k : Cells). locals_depth y.locals ⊕ k) (depth_same r (take r table) t)

  -- ---- typed programs

  typed_left : (s : ShapeLists) (r : ℕ) (y : RoutineLists) → IsTypedRoutine s (image_with m lists code) r y → IsTypedRoutine s (image_with l lists (map f code)) r y
  typed_left s r y h = record {
    brackets = subst KeepsRules (sym (skeletons_same r)) h.brackets;
    calls = subst (AllMayStand lists.routines r y.ambient) (sym (mapped r)) (stand_left f lists l m lists.routines r y.ambient (code_of (image_with m lists code) r) (twins r) h.calls);
    typing = (h.typing.0, subst (λ n. IsTypingBelow (rule (scene_of s (image_with l lists (map f code)) y) (code_of (image_with l lists (map f code)) r)) (code_of (image_with l lists (map f code)) r) n h.typing.0) (sym (size_same r)) (left s r (length (code_of (image_with m lists code) r)) y h.typing.0 h.typing.1));
  }

  typed_right : (s : ShapeLists) (r : ℕ) (y : RoutineLists) → IsTypedRoutine s (image_with l lists (map f code)) r y → IsTypedRoutine s (image_with m lists code) r y
  typed_right s r y h = record {
    brackets = subst KeepsRules (skeletons_same r) h.brackets;
    calls = stand_right f lists l m lists.routines r y.ambient (code_of (image_with m lists code) r) (twins r) (subst (AllMayStand lists.routines r y.ambient) (mapped r) h.calls);
    typing = (h.typing.0, subst (λ n. IsTypingBelow (rule (scene_of s (image_with m lists code) y) (code_of (image_with m lists code) r)) (code_of (image_with m lists code) r) n h.typing.0) (size_same r) (right s r (length (code_of (image_with l lists (map f code)) r)) y h.typing.0 h.typing.1));
  }

  pub means_same : MeansSame (image_with l lists (map f code)) (image_with m lists code)
  means_same = record {
    skeletons = skeletons_same;
    typings = λ s r n z t. (right s r n z t, left s r n z t);
    typed = λ s. (
      (λ h. record { shape = h.shape; routines = λ r y lt at. typed_right s r y (h.routines r y lt at); order = h.order; events = h.events }),
      (λ h. record { shape = h.shape; routines = λ r y lt at. typed_left s r y (h.routines r y lt at); order = h.order; events = h.events }),
    );
    bounds = bound_same;
    cases = case_same;
    depths = λ s d. (
      (λ h. record { table = h.table; routines = h.routines; depths = depths_right s h.table h.depths; nums = h.nums; texts = h.texts; ords = h.ords; frames_are = h.frames_are ∙ ap greatest_number (frames_same (length lists.routines)) }),
      (λ h. record { table = h.table; routines = h.routines; depths = depths_left s h.table h.depths; nums = h.nums; texts = h.texts; ords = h.ords; frames_are = h.frames_are ∙ sym (ap greatest_number (frames_same (length lists.routines))) }),
    );
  }

pub upgrade_same : UpgradeMeansSame
upgrade_same x fits = means_same upgrade_instr x.lists (one_to (greatest_limit x.code)) (zero_below 65536) x.code (upgrade_twins x.code fits.code)
