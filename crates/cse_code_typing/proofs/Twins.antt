-- Two programs that differ in their tables of limits and in how counting loops name their limits have
-- the same skeletons, the same typings and the same depths.
use Rattle.std.proofs.Common.{◌≡◌, ℕ, zero, suc, ◌<◌, ◌≤◌, Bool, List, [], ◌∷◌, ◌++◌, length, take, drop, map, Option, Some, None, refl, sym, ap, ◌∙◌, subst, arith}
use Rattle.std.specs.Prelude.{slice_get, option_map, option_and_then, not, ◌||◌, ◌&&◌}
use Rattle.std.specs.Option.{option_map_or}
use Rattle.std.specs.List.{list_any}
use Rattle.std.proofs.lemmas.List.{length-map, drop-map, take-map}
use Rattle.std.proofs.lemmas.Option.{slice_get-map, slice_get_within}
use Rattle.cse_value.specs.Shape.{ShapeLists}
use Rattle.cse_image_parts.specs.declared.instruction.Op.{Op}
use Rattle.cse_image_parts.specs.declared.instruction.Op.TheVariants as ops
use Rattle.cse_image_parts.specs.declared.instruction.Instr.{Instr}
use Rattle.cse_image_parts.specs.declared.entries.Ambient.{Ambient}
use Rattle.cse_image_parts.specs.Image.{Image, Lists, RoutineLists}
use Rattle.cse_image_parts.specs.Turns.{limit_of}
use Rattle.cse_image_parts.specs.Upgrade.{with_limits}
use Rattle.cse_code_typing.specs.declared.kind.Kind.{Kind}
use Rattle.cse_code_typing.specs.declared.kind.Kind.TheVariants.{Number}
use Rattle.cse_code_typing.specs.declared.control.Control.{Control}
use Rattle.cse_code_typing.specs.declared.control.Control.TheVariants.{Open}
use Rattle.cse_code_typing.specs.declared.depth.Depth.{Depth}
use Rattle.cse_code_typing.specs.Code.{part, start_of, size_of, code_of}
use Rattle.cse_code_typing.specs.Kinds.{below, top_of}
use Rattle.cse_code_typing.specs.Skeleton.{control_by, control, skeleton, skeleton_of}
use Rattle.cse_code_typing.specs.Bracket.{around}
use Rattle.cse_code_typing.specs.Signature.{Scene, Signature, ◌⇒◌, signature_by, loops_by, loops_over, is_in_loop}
use Rattle.cse_code_typing.specs.Rule.{Edge, Rule, rule, rule_by, exits}
use Rattle.cse_code_typing.specs.Typing.{Stacks, FollowsRule, IsLedTo, IsTypingBelow}
use Rattle.cse_code_typing.specs.Order.{is_run}
use Rattle.cse_code_typing.specs.Calls.{needs_case, calls_well, may_stand, AllMayStand}
use Rattle.cse_code_typing.specs.Depth.{no_depth, greater, depth_by, place_depth, depth_below}

-- a counting loop finds the same limit, and any other instruction has the same b
abbrev pub FindsSame : List ℕ → List ℕ → Op → ℕ → ℕ → Type 0
FindsSame l m ops.LoopCount b d = limit_of l b ≡ limit_of m d
FindsSame l m op b d = b ≡ d

-- two instructions, each with its table of limits
pub record AreTwins (l m : List ℕ) (i j : Instr) : Type 0 where
  pub op : i.op ≡ j.op
  pub a : i.a ≡ j.a
  pub b : FindsSame l m j.op i.b j.b
  pub c : i.c ≡ j.c

abbrev scene_with : ShapeLists → Lists → RoutineLists → List ℕ → Scene
scene_with s x y l = record { shape = s; lists = with_limits l x; routine = y }

control_same : (x : Lists) (l m : List ℕ) (op : Op) (a b d c : ℕ) → FindsSame l m op b d → control_by (with_limits l x) op a b c ≡ control_by (with_limits m x) op a d c
unfolding control_by
control_same x l m ops.LoopCount a b d c h = ap (λ (o : Option ℕ). Open (option_map_or (λ n. n) o 0) c) h
control_same x l m op a b d c h = ap (λ n. control_by (with_limits m x) op a n c) h

pub control_twins : (x : Lists) (l m : List ℕ) (i j : Instr) → AreTwins l m i j → control (with_limits l x) i ≡ control (with_limits m x) j
control_twins x l m i j t =
    ap (λ o. control_by (with_limits l x) o i.a i.b i.c) t.op
    ∙ ap (λ n. control_by (with_limits l x) j.op n i.b i.c) t.a
    ∙ ap (λ n. control_by (with_limits l x) j.op j.a i.b n) t.c
    ∙ control_same x l m j.op j.a i.b j.b j.c t.b

signature_same : (s : ShapeLists) (x : Lists) (y : RoutineLists) (l m : List ℕ) (in_loop : Bool) (top : Option Kind) (op : Op) (a b d c : ℕ) → FindsSame l m op b d
    → signature_by (scene_with s x y l) in_loop top op a b c ≡ signature_by (scene_with s x y m) in_loop top op a d c
unfolding signature_by
signature_same s x y l m in_loop top ops.LoopCount a b d c h = ap (option_and_then (λ (n : ℕ). Number ∷ [] ⇒ [])) h
signature_same s x y l m in_loop top op a b d c h = ap (λ n. signature_by (scene_with s x y m) in_loop top op a n c) h

signature_twins : (s : ShapeLists) (x : Lists) (y : RoutineLists) (l m : List ℕ) (in_loop : Bool) (top : Option Kind) (i j : Instr) → AreTwins l m i j
    → signature_by (scene_with s x y l) in_loop top i.op i.a i.b i.c ≡ signature_by (scene_with s x y m) in_loop top j.op j.a j.b j.c
signature_twins s x y l m in_loop top i j t =
    ap (λ o. signature_by (scene_with s x y l) in_loop top o i.a i.b i.c) t.op
    ∙ ap (λ n. signature_by (scene_with s x y l) in_loop top j.op n i.b i.c) t.a
    ∙ ap (λ n. signature_by (scene_with s x y l) in_loop top j.op j.a i.b n) t.c
    ∙ signature_same s x y l m in_loop top j.op j.a i.b j.b j.c t.b

-- ---- lists

any_same : {X : Type 0} (g h : X → Bool) → ((x : X) → g x ≡ h x) → (xs : List X) → list_any g xs ≡ list_any h xs
any_same g h same [] = refl
any_same g h same (x ∷ xs) = ap (λ b. b || list_any g xs) (same x) ∙ ap (λ b. h x || b) (any_same g h same xs)

pub part_map : (f : Instr → Instr) (start size : ℕ) (xs : List Instr) → part start size (map f xs) ≡ map f (part start size xs)
part_map f start size xs = ap (take size) (drop-map f start xs) ∙ take-map f size (drop start xs)

-- what stands at a place of the whole code stands at one of a part
in_drop : (n : ℕ) (xs : List Instr) (p : ℕ) (i : Instr) → slice_get (drop n xs) p ≡ Some i → (q : ℕ) × (slice_get xs q ≡ Some i)
in_drop zero xs p i at = (p, at)
in_drop (suc n) [] p i at = cc
in_drop (suc n) (x ∷ xs) p i at = let more = in_drop n xs p i at in (suc more.0, more.1)

in_take : (n : ℕ) (xs : List Instr) (p : ℕ) (i : Instr) → slice_get (take n xs) p ≡ Some i → slice_get xs p ≡ Some i
in_take zero xs p i at = cc
in_take (suc n) [] p i at = cc
in_take (suc n) (x ∷ xs) zero i at = at
in_take (suc n) (x ∷ xs) (suc p) i at = in_take n xs p i at

-- ---- code whose instructions are twins of those of other code

unmap : (f : Instr → Instr) (xs : List Instr) (q : ℕ) (i : Instr) → slice_get (map f xs) q ≡ Some i → (j : Instr) × (slice_get xs q ≡ Some j) × (f j ≡ i)
unmap f [] q i at = cc
unmap f (x ∷ xs) zero i at = (x, refl, cc)
unmap f (x ∷ xs) (suc q) i at = unmap f xs q i at

-- each instruction and what f makes of it
pub record AllTwins (f : Instr → Instr) (l m : List ℕ) (code : List Instr) : Type 0 where
  pub each : (p : ℕ) (j : Instr) → slice_get code p ≡ Some j → AreTwins l m (f j) j

pub twins_of_routine : (f : Instr → Instr) (l m : List ℕ) (x : Image) (r : ℕ) → AllTwins f l m x.code → AllTwins f l m (code_of x r)
unfolding code_of
twins_of_routine f l m x r all = record {
  each = λ p j at.
      let start = start_of x.lists.routines r in
      let size = size_of x.lists.routines r in
      let d = in_drop start x.code p j (in_take size (drop start x.code) p j at) in
      all.each d.0 j d.1;
}

pub code_mapped : (f : Instr → Instr) (l m : List ℕ) (x : Lists) (code : List Instr) (r : ℕ) → code_of (record { lists = with_limits l x; code = map f code }) r ≡ map f (code_of (record { lists = with_limits m x; code = code }) r)
unfolding code_of
code_mapped f l m x code r = part_map f (start_of x.routines r) (size_of x.routines r) code

module _ (f : Instr → Instr) (x : Lists) (l m : List ℕ) where
  pub same_skeleton : (code : List Instr) → AllTwins f l m code → skeleton (with_limits l x) (map f code) ≡ skeleton (with_limits m x) code
  same_skeleton [] all = refl
  same_skeleton (j ∷ code) all =
      ap (λ (c : Control). c ∷ skeleton (with_limits l x) (map f code)) (control_twins x l m (f j) j (all.each 0 j refl))
      ∙ ap (λ (cs : List Control). control (with_limits m x) j ∷ cs) (same_skeleton code (record { each = λ p k at. all.each (suc p) k at }))

  loops_same : (a : ℕ) (o : Option Instr) → ((j : Instr) → o ≡ Some j → AreTwins l m (f j) j) → loops_over a (option_map f o) ≡ loops_over a o
  loops_same a None twins = refl
  loops_same a (Some j) twins =
      let t = twins j refl in
      ap (λ o. loops_by o (f j).a a) t.op ∙ ap (λ n. loops_by j.op n a) t.a

  same_loops : (code : List Instr) (q a : ℕ) → AllTwins f l m code → is_in_loop (with_limits l x) (map f code) q a ≡ is_in_loop (with_limits m x) code q a
  same_loops code q a all =
      any_same (λ opener. loops_over a (slice_get (map f code) opener)) (λ opener. loops_over a (slice_get code opener))
      (λ opener. ap (loops_over a) (slice_get-map f code opener) ∙ loops_same a (slice_get code opener) (λ j at. all.each opener j at))
      (around (skeleton (with_limits l x) (map f code)) q)
      ∙ ap (λ (k : List Control). list_any (λ opener. loops_over a (slice_get code opener)) (around k q)) (same_skeleton code all)

  module _ (s : ShapeLists) (y : RoutineLists) (code : List Instr) (all : AllTwins f l m code) where
    same_rule : (q : ℕ) (j : Instr) (stack : List Kind) → slice_get code q ≡ Some j → rule (scene_with s x y l) (map f code) q (f j) stack ≡ rule (scene_with s x y m) code q j stack
    same_rule q j stack at =
        let t = all.each q j at in
        let c = control (with_limits m x) j in
        let b = is_in_loop (with_limits m x) code q j.a in
        ap (λ (k : Control). rule_by (scene_with s x y l) (is_in_loop (with_limits l x) (map f code) q (f j).a) k q (f j) stack) (control_twins x l m (f j) j t)
        ∙ ap (λ (n : ℕ). rule_by (scene_with s x y l) (is_in_loop (with_limits l x) (map f code) q n) c q (f j) stack) t.a
        ∙ ap (λ (d : Bool). rule_by (scene_with s x y l) d c q (f j) stack) (same_loops code q j.a all)
        ∙ ap (option_and_then (λ (z : Signature). option_and_then (λ (rest : List Kind). exits q c rest (z.leaves ++ rest)) (below z.takes stack)))
        (signature_twins s x y l m b (top_of stack) (f j) j t)

    mapped_at : (q : ℕ) (j : Instr) → slice_get code q ≡ Some j → slice_get (map f code) q ≡ Some (f j)
    mapped_at q j at = slice_get-map f code q ∙ ap (option_map f) at

    pub to_left : (n : ℕ) (t : Stacks) → IsTypingBelow (rule (scene_with s x y m) code) code n t → IsTypingBelow (rule (scene_with s x y l) (map f code)) (map f code) n t
    to_left n t typing = record {
      follows = λ q i lt at.
          let j = unmap f code q i at in
          let g = typing.follows q j.0 lt j.1 in
          record { edges = g.edges; ruled = ap (λ k. rule (scene_with s x y l) (map f code) q k (t q)) (sym j.2) ∙ same_rule q j.0 (t q) j.1 ∙ g.ruled; agrees = g.agrees };
      others = λ k lt none. typing.others k lt (λ led.
          none (record { from = led.from; instr = f led.instr; edges = led.edges; there = mapped_at led.from led.instr led.there; smaller = led.smaller; ruled = same_rule led.from led.instr (t led.from) led.there ∙ led.ruled; leads = led.leads }));
    }

    pub to_right : (n : ℕ) (t : Stacks) → IsTypingBelow (rule (scene_with s x y l) (map f code)) (map f code) n t → IsTypingBelow (rule (scene_with s x y m) code) code n t
    to_right n t typing = record {
      follows = λ q j lt at.
          let g = typing.follows q (f j) lt (mapped_at q j at) in
          record { edges = g.edges; ruled = sym (same_rule q j (t q) at) ∙ g.ruled; agrees = g.agrees };
      others = λ k lt none. typing.others k lt (λ led.
          let j = unmap f code led.from led.instr led.there in
          none (record {
            from = led.from;
            instr = j.0;
            edges = led.edges;
            there = j.1;
            smaller = led.smaller;
            ruled = sym (same_rule led.from j.0 (t led.from) j.1) ∙ ap (λ k. rule (scene_with s x y l) (map f code) led.from k (t led.from)) j.2 ∙ led.ruled;
            leads = led.leads;
          }));
    }

  -- ---- depths and calls ask for opcodes and the field c alone

  place_same : (routines : List RoutineLists) (depths : List Depth) (stack : List Kind) (o : Option Instr) → ((j : Instr) → o ≡ Some j → AreTwins l m (f j) j) → place_depth routines depths (option_map f o) stack ≡ place_depth routines depths o stack
  place_same routines depths stack None twins = refl
  place_same routines depths stack (Some j) twins =
      let t = twins j refl in
      ap (λ o. depth_by routines depths o (f j).c stack) t.op ∙ ap (λ n. depth_by routines depths j.op n stack) t.c

  pub same_depth : (routines : List RoutineLists) (depths : List Depth) (code : List Instr) (t : Stacks) (n : ℕ) → AllTwins f l m code → depth_below routines depths (map f code) t n ≡ depth_below routines depths code t n
  same_depth routines depths code t zero all = refl
  same_depth routines depths code t (suc q) all =
      ap (λ (d : Depth). greater d (place_depth routines depths (slice_get (map f code) q) (t q))) (same_depth routines depths code t q all)
      ∙ ap (λ (d : Depth). greater (depth_below routines depths code t q) d)
      (ap (λ (o : Option Instr). place_depth routines depths o (t q)) (slice_get-map f code q) ∙ place_same routines depths (t q) (slice_get code q) (λ j at. all.each q j at))

  stands_same : (routines : List RoutineLists) (r : ℕ) (ambient : Ambient) (j : Instr) → AreTwins l m (f j) j → may_stand routines r ambient (f j) ≡ may_stand routines r ambient j
  stands_same routines r ambient j t =
      ap (λ o. not (is_run ambient && needs_case o) && calls_well routines r (is_run ambient) o (f j).c) t.op
      ∙ ap (λ n. not (is_run ambient && needs_case j.op) && calls_well routines r (is_run ambient) j.op n) t.c

  pub stand_left : (routines : List RoutineLists) (r : ℕ) (ambient : Ambient) (code : List Instr) → AllTwins f l m code → AllMayStand routines r ambient code → AllMayStand routines r ambient (map f code)
  stand_left routines r ambient code all stand q i lt at =
      let j = unmap f code q i at in
      ap (may_stand routines r ambient) (sym j.2) ∙ stands_same routines r ambient j.0 (all.each q j.0 j.1) ∙ stand q j.0 (slice_get_within code q j.0 j.1) j.1

  pub stand_right : (routines : List RoutineLists) (r : ℕ) (ambient : Ambient) (code : List Instr) → AllTwins f l m code → AllMayStand routines r ambient (map f code) → AllMayStand routines r ambient code
  stand_right routines r ambient code all stand q j lt at =
      let there : slice_get (map f code) q ≡ Some (f j) = slice_get-map f code q ∙ ap (option_map f) at in
      sym (stands_same routines r ambient j (all.each q j at)) ∙ stand q (f j) (slice_get_within (map f code) q (f j) there) there
