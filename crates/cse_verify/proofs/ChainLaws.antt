-- Calls that wait for one another keep no more than the greatest depth.
use Rattle.std.proofs.Common.{◌≡◌, ℕ, zero, suc, ◌+◌, ◌<◌, ◌≤◌, List, [], ◌∷◌, ◌++◌, length, take, drop, get_or, Option, Some, None, sym, ap, ◌∙◌, subst, ⊎_elim, arith}
use Rattle.std.specs.Prelude.{slice_get, option_map, max}
use Rattle.std.specs.Option.{option_map_or}
use Rattle.std.proofs.lemmas.Bool.{cases_lt}
use Rattle.std.proofs.lemmas.Option.{same_Some, slice_get_within, slice_get-map}
use Rattle.cse_lemmas.proofs.Lists.{slice_get_some, slice_get-take}
use Rattle.cse_value.specs.Shape.{ShapeLists}
use Rattle.cse_image_parts.specs.declared.instruction.Op.{Op}
use Rattle.cse_image_parts.specs.declared.instruction.Op.TheVariants as ops
use Rattle.cse_image_parts.specs.declared.instruction.Instr.{Instr}
use Rattle.cse_image_parts.specs.Image.{Image, Lists, RoutineLists}
use Rattle.cse_code_typing.specs.declared.kind.Kind.{Kind}
use Rattle.cse_code_typing.specs.declared.depth.Depth.{Depth as Cells}
use Rattle.cse_code_typing.specs.declared.control.Control.{Control}
use Rattle.cse_code_typing.specs.declared.control.Control.TheVariants.{Call}
use Rattle.cse_code_typing.specs.Code.{code_of}
use Rattle.cse_code_typing.specs.Skeleton.{control_by, control, skeleton, skeleton_of}
use Rattle.cse_code_typing.specs.Bracket.{around}
use Rattle.cse_code_typing.specs.Rule.{rule}
use Rattle.cse_code_typing.specs.Typing.{Stacks, IsTypingBelow}
use Rattle.cse_code_typing.specs.Typed.{scene_of, IsTyped}
use Rattle.cse_code_typing.specs.Depth.{no_depth, ◌⊕◌, greater, count_of, locals_depth, depth_at, or_none, call_depth, depth_by, place_depth, depth_below, AreDepths, greatest}
use Rattle.cse_verify.specs.Frames.{frames_in_call, most_frames, frames_below, frames_of, frames, greatest as greatest_number}
use Rattle.cse_verify.proofs.OpenLaws.{frames_told}
use Rattle.cse_verify.proofs.CallLaws.{calls_below}
use Rattle.cse_verify.specs.declared.depth.Depth.{Depth}
use Rattle.cse_verify.specs.Depths.{IsDepthOf}
use Rattle.cse_verify.specs.Chain.{Calling, Stands, Runs, Waits, AllWait, IsChain, locals_at, kept_by, kept_in, open_in, KeepsToDepth}

-- each number of a is at most that of b
pub record IsUpTo (a b : Cells) : Type 0 where
  pub numbers : a.numbers ≤ b.numbers
  pub texts : a.texts ≤ b.texts
  pub ordinals : a.ordinals ≤ b.ordinals

same_up : (a : Cells) → IsUpTo a a
same_up a = record { numbers = omega arith; texts = omega arith; ordinals = omega arith }

then_up : (a b c : Cells) → IsUpTo a b → IsUpTo b c → IsUpTo a c
then_up a b c p q =
    let p0 = p.numbers in let p1 = p.texts in let p2 = p.ordinals in
    let q0 = q.numbers in let q1 = q.texts in let q2 = q.ordinals in
    record { numbers = omega arith; texts = omega arith; ordinals = omega arith }

left_up : (a b : Cells) → IsUpTo a (greater a b)
left_up a b = record { numbers = omega arith; texts = omega arith; ordinals = omega arith }

right_up : (a b : Cells) → IsUpTo b (greater a b)
right_up a b = record { numbers = omega arith; texts = omega arith; ordinals = omega arith }

both_up : (a b c d : Cells) → IsUpTo a b → IsUpTo c d → IsUpTo (a ⊕ c) (b ⊕ d)
both_up a b c d p q =
    let p0 = p.numbers in let p1 = p.texts in let p2 = p.ordinals in
    let q0 = q.numbers in let q1 = q.texts in let q2 = q.ordinals in
    record { numbers = omega arith; texts = omega arith; ordinals = omega arith }

-- ---- within one routine

count_up : (routines : List RoutineLists) (depths : List Cells) (op : Op) (c : ℕ) (stack : List Kind) → IsUpTo (count_of stack) (depth_by routines depths op c stack)
unfolding depth_by
count_up routines depths ops.Call c stack = left_up _ _
count_up routines depths op c stack = same_up _

call_up : (routines : List RoutineLists) (depths : List Cells) (op : Op) (c : ℕ) (stack : List Kind) → op ≡ ops.Call → IsUpTo (call_depth routines depths c stack) (depth_by routines depths op c stack)
unfolding depth_by
call_up routines depths op c stack is =
    subst (λ o. IsUpTo (call_depth routines depths c stack) (depth_by routines depths o c stack)) (sym is) (right_up _ _)

place_up : (routines : List RoutineLists) (depths : List Cells) (code : List Instr) (t : Stacks) (n q : ℕ) → q < n → IsUpTo (place_depth routines depths (slice_get code q) (t q)) (depth_below routines depths code t n)
place_up routines depths code t zero q lt = absurd (omega arith)
place_up routines depths code t (suc n) q lt =
    ⊎_elim
    (λ (l : q < n). then_up _ _ _ (place_up routines depths code t n q l) (left_up _ _))
    (λ (l : n ≤ q).
    let e : n ≡ q = omega arith in
    subst (λ k. IsUpTo (place_depth routines depths (slice_get code k) (t k)) (depth_below routines depths code t (suc n))) e (right_up _ _))
    (cases_lt q n)

-- ---- tables

none_up : (a : Cells) → IsUpTo no_depth a
none_up a = record { numbers = omega arith; texts = omega arith; ordinals = omega arith }

entry_up : (table : List Cells) (r : ℕ) → IsUpTo (depth_at table r) (greatest table)
entry_up [] r = none_up no_depth
entry_up (d ∷ table) zero = left_up d (greatest table)
entry_up (d ∷ table) (suc r) = then_up _ _ _ (entry_up table r) (right_up d (greatest table))

-- ---- open brackets

open_up : (table : List ℕ) (code : List Control) (n p : ℕ) → p < n → length (around code p) + frames_in_call table (slice_get code p) ≤ most_frames table code n
unfolding most_frames
open_up table code zero p lt = absurd (omega arith)
open_up table code (suc n) p lt =
    ⊎_elim
    (λ (l : p < n). let ih = open_up table code n p l in omega arith)
    (λ (l : n ≤ p).
    let e : n ≡ p = omega arith in
    let here : length (around code n) + frames_in_call table (slice_get code n) ≤ max (most_frames table code n) (length (around code n) + frames_in_call table (slice_get code n)) = omega arith in
    subst (λ k. length (around code k) + frames_in_call table (slice_get code k) ≤ max (most_frames table code n) (length (around code n) + frames_in_call table (slice_get code n))) e here)
    (cases_lt p n)

greatest_up : (xs : List ℕ) (r : ℕ) → get_or xs r 0 ≤ greatest_number xs
greatest_up [] r = omega arith
greatest_up (n ∷ ns) zero = omega arith
greatest_up (n ∷ ns) (suc r) = let ih = greatest_up ns r in omega arith

frames_up : (x : Image) (r : ℕ) → r < length x.lists.routines → frames_of x r ≤ frames x
frames_up x r lt =
    let a = frames_told x (length x.lists.routines) r lt in
    let b = greatest_up (frames_below x (length x.lists.routines)) r in
    omega arith

-- ---- a program that is typed

control_call : (records : Lists) (op : Op) (a b c : ℕ) → op ≡ ops.Call → control_by records op a b c ≡ Call c
unfolding control_by
control_call records op a b c is = ap (λ o. control_by records o a b c) is

module _ (s : ShapeLists) (x : Image) (table : List Cells) (typed : IsTyped s x) (depths : AreDepths s x table) (count : length table ≡ length x.lists.routines) where
  -- a place of a routine that stands, and what its routine keeps
  depth_up : (c : Calling) (h : Stands s x c) → (at : slice_get x.lists.routines c.routine ≡ Some h.routine) → IsUpTo (locals_depth h.routine.locals ⊕ place_depth x.lists.routines (take c.routine table) (slice_get (code_of x c.routine) c.place) (h.stacks c.place)) (depth_at table c.routine)
  depth_up c h at =
      let lt = slice_get_within x.lists.routines c.routine h.routine at in
      let e = slice_get_some table c.routine (omega arith) in
      let is = depths c.routine h.routine e.0 at e.1 h.stacks h.typing in
      let up = both_up _ _ _ _ (same_up (locals_depth h.routine.locals)) (place_up x.lists.routines (take c.routine table) (code_of x c.routine) h.stacks (length (code_of x c.routine)) c.place h.within) in
      let here : IsUpTo (locals_depth h.routine.locals ⊕ place_depth x.lists.routines (take c.routine table) (slice_get (code_of x c.routine) c.place) (h.stacks c.place)) e.0 =
      subst (λ (d : Cells). IsUpTo (locals_depth h.routine.locals ⊕ place_depth x.lists.routines (take c.routine table) (slice_get (code_of x c.routine) c.place) (h.stacks c.place)) d) (sym is) up
      in
      subst (λ (o : Option Cells). IsUpTo (locals_depth h.routine.locals ⊕ place_depth x.lists.routines (take c.routine table) (slice_get (code_of x c.routine) c.place) (h.stacks c.place)) (or_none o)) (sym e.1) here

  locals_are : (c : Calling) (h : Stands s x c) → locals_at x.lists.routines c.routine ≡ locals_depth h.routine.locals
  locals_are c h = ap (λ (o : Option RoutineLists). option_map_or (λ y. locals_depth y.locals) o no_depth) h.there

  -- the call that runs keeps no more than its routine
  run_up : (c : Calling) → Runs s x c → IsUpTo (kept_by x c) (depth_at table c.routine)
  run_up c runs =
      let h = runs.stands in
      let i = slice_get_some (code_of x c.routine) c.place h.within in
      let here : IsUpTo (count_of c.kinds) (place_depth x.lists.routines (take c.routine table) (slice_get (code_of x c.routine) c.place) (h.stacks c.place)) =
      subst (λ (o : Option Instr). IsUpTo (count_of c.kinds) (place_depth x.lists.routines (take c.routine table) o (h.stacks c.place))) (sym i.1)
      (subst (λ (k : List Kind). IsUpTo (count_of k) (place_depth x.lists.routines (take c.routine table) (Some i.0) (h.stacks c.place))) (sym runs.kinds)
      (count_up x.lists.routines (take c.routine table) i.0.op i.0.c (h.stacks c.place)))
      in
      then_up _ _ _
      (subst (λ (d : Cells). IsUpTo (d ⊕ count_of c.kinds) (locals_depth h.routine.locals ⊕ place_depth x.lists.routines (take c.routine table) (slice_get (code_of x c.routine) c.place) (h.stacks c.place))) (sym (locals_are c h))
      (both_up _ _ _ _ (same_up (locals_depth h.routine.locals)) here))
      (depth_up c h h.there)

  called_at : (c : Calling) (callee : ℕ) (w : Waits s x callee c) → slice_get (skeleton_of x c.routine) c.place ≡ Some (Call callee)
  called_at c callee w =
      slice_get-map (control x.lists) (code_of x c.routine) c.place ∙ ap (option_map (control x.lists)) w.at
      ∙ ap Some (control_call x.lists w.instr.op w.instr.a w.instr.b w.instr.c w.is_call ∙ ap Call w.callee_is)

  smaller : (c : Calling) (callee : ℕ) → Waits s x callee c → callee < c.routine
  smaller c callee w =
      let lt = slice_get_within x.lists.routines c.routine w.stands.routine w.stands.there in
      calls_below x.lists x.lists.routines c.routine w.stands.routine.ambient (code_of x c.routine)
      (typed.routines c.routine w.stands.routine lt w.stands.there).calls c.place callee (called_at c callee w)

  -- a call that waits keeps, with the call of its callee, no more than its routine
  wait_up : (c : Calling) (callee : ℕ) → Waits s x callee c → IsUpTo (kept_by x c ⊕ depth_at table callee) (depth_at table c.routine)
  wait_up c callee w =
      let h = w.stands in
      let below : depth_at (take c.routine table) callee ≡ depth_at table callee = ap or_none (slice_get-take c.routine table callee (smaller c callee w)) in
      let inner : IsUpTo (count_of c.kinds ⊕ depth_at table callee) (depth_by x.lists.routines (take c.routine table) w.instr.op w.instr.c (h.stacks c.place)) =
      subst (λ (d : Cells). IsUpTo (count_of c.kinds ⊕ d) (depth_by x.lists.routines (take c.routine table) w.instr.op w.instr.c (h.stacks c.place))) below
      (subst (λ (k : List Kind). IsUpTo (count_of k ⊕ depth_at (take c.routine table) callee) (depth_by x.lists.routines (take c.routine table) w.instr.op w.instr.c (h.stacks c.place))) (sym w.kinds)
      (subst (λ n. IsUpTo (call_depth x.lists.routines (take c.routine table) n (h.stacks c.place)) (depth_by x.lists.routines (take c.routine table) w.instr.op w.instr.c (h.stacks c.place))) w.callee_is
      (call_up x.lists.routines (take c.routine table) w.instr.op w.instr.c (h.stacks c.place) w.is_call)))
      in
      let here : IsUpTo (count_of c.kinds ⊕ depth_at table callee) (place_depth x.lists.routines (take c.routine table) (slice_get (code_of x c.routine) c.place) (h.stacks c.place)) =
      subst (λ (o : Option Instr). IsUpTo (count_of c.kinds ⊕ depth_at table callee) (place_depth x.lists.routines (take c.routine table) o (h.stacks c.place))) (sym w.at) inner
      in
      let all : IsUpTo (locals_at x.lists.routines c.routine ⊕ (count_of c.kinds ⊕ depth_at table callee)) (depth_at table c.routine) =
      then_up _ _ _
      (subst (λ (d : Cells). IsUpTo (d ⊕ (count_of c.kinds ⊕ depth_at table callee)) (locals_depth h.routine.locals ⊕ place_depth x.lists.routines (take c.routine table) (slice_get (code_of x c.routine) c.place) (h.stacks c.place))) (sym (locals_are c h))
      (both_up _ _ _ _ (same_up (locals_depth h.routine.locals)) here))
      (depth_up c h h.there)
      in
      let a0 = all.numbers in let a1 = all.texts in let a2 = all.ordinals in
      record { numbers = omega arith; texts = omega arith; ordinals = omega arith }

  waiting_up : (callee : ℕ) (below : List Calling) → AllWait s x callee below → IsUpTo (depth_at table callee ⊕ kept_in x below) (greatest table)
  waiting_up callee [] all =
      let e = entry_up table callee in
      let e0 = e.numbers in let e1 = e.texts in let e2 = e.ordinals in
      record { numbers = omega arith; texts = omega arith; ordinals = omega arith }
  waiting_up callee (c ∷ below) all =
      let here = wait_up c callee all.0 in
      let ih = waiting_up c.routine below all.1 in
      let h0 = here.numbers in let h1 = here.texts in let h2 = here.ordinals in
      let i0 = ih.numbers in let i1 = ih.texts in let i2 = ih.ordinals in
      record { numbers = omega arith; texts = omega arith; ordinals = omega arith }

  kept_up : (calls : List Calling) → IsChain s x calls → IsUpTo (kept_in x calls) (greatest table)
  kept_up [] chain = none_up (greatest table)
  kept_up (c ∷ below) chain =
      let here = run_up c chain.0 in
      let rest = waiting_up c.routine below chain.1 in
      let h0 = here.numbers in let h1 = here.texts in let h2 = here.ordinals in
      let i0 = rest.numbers in let i1 = rest.texts in let i2 = rest.ordinals in
      record { numbers = omega arith; texts = omega arith; ordinals = omega arith }

  -- the same of open brackets
  place_there : (c : Calling) (h : Stands s x c) → c.place < length (skeleton_of x c.routine)
  place_there c h =
      let i = slice_get_some (code_of x c.routine) c.place h.within in
      slice_get_within (skeleton_of x c.routine) c.place (control x.lists i.0) (slice_get-map (control x.lists) (code_of x c.routine) c.place ∙ ap (option_map (control x.lists)) i.1)

  open_waiting : (callee : ℕ) (below : List Calling) → callee < length x.lists.routines → AllWait s x callee below → frames_of x callee + open_in x below ≤ frames x
  open_waiting callee [] lt all = let up = frames_up x callee lt in omega arith
  open_waiting callee (c ∷ below) lt all =
      let w = all.0 in
      let within = slice_get_within x.lists.routines c.routine w.stands.routine w.stands.there in
      let up = open_up (frames_below x c.routine) (skeleton_of x c.routine) (length (skeleton_of x c.routine)) c.place (place_there c w.stands) in
      let call = ap (frames_in_call (frames_below x c.routine)) (called_at c callee w) in
      let told = frames_told x c.routine callee (smaller c callee w) in
      let ih = open_waiting c.routine below within all.1 in
      omega arith

  all_open : (calls : List Calling) → IsChain s x calls → open_in x calls ≤ frames x
  all_open [] chain = omega arith
  all_open (c ∷ below) chain =
      let h = chain.0.stands in
      let within = slice_get_within x.lists.routines c.routine h.routine h.there in
      let up = open_up (frames_below x c.routine) (skeleton_of x c.routine) (length (skeleton_of x c.routine)) c.place (place_there c h) in
      let rest = open_waiting c.routine below within chain.1 in
      omega arith

pub chain_keeps : (s : ShapeLists) (x : Image) (d : Depth) (calls : List Calling) → IsTyped s x → IsDepthOf s x d → IsChain s x calls → KeepsToDepth x calls d
chain_keeps s x d calls typed depth chain =
    let up = kept_up s x depth.table typed depth.depths depth.routines calls chain in
    let open_up = all_open s x depth.table typed depth.depths depth.routines calls chain in
    let u0 = up.numbers in let u1 = up.texts in let u2 = up.ordinals in
    let n = depth.nums in let t = depth.texts in let o = depth.ords in let f = depth.frames_are in
    record { nums = omega arith; texts = omega arith; ords = omega arith; frames = omega arith }
