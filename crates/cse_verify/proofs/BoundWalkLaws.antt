-- A step of a walk keeps the calls where they belong, and lowers the rest. The crates above cite
-- walk_lowers, walk_goes_on, entry_calls and entry_rest for the steps of a machine.
use Rattle.std.proofs.Common.{◌≡◌, ℕ, zero, suc, ◌+◌, ◌*◌, ◌<◌, ◌≤◌, List, [], ◌∷◌, length, map, get_or, Option, Some, None, refl, sym, ap, ◌∙◌, subst, ◌≢◌, arith, min, eqb}
use Rattle.std.specs.Prelude.{option_map, option_and_then, slice_get}
use Rattle.std.proofs.lemmas.Option.{same_Some, slice_get_within}
use Rattle.std.proofs.lemmas.Bool.{cond-true, eq-eqb}
use Rattle.std.proofs.Math.Nat.{mul-le-mul_right}
use Rattle.cse_lemmas.proofs.Lists.{slice_get_some}
use Rattle.cse_image_parts.specs.Image.{Image}
use Rattle.cse_code_typing.specs.declared.control.Control.{Control}
use Rattle.cse_code_typing.specs.declared.control.Control.TheVariants.{Step, Jump, Branch, Open, End, Break, Call, Return}
use Rattle.cse_code_typing.specs.Skeleton.{skeleton_of}
use Rattle.cse_code_typing.specs.Bracket.{named_end, named_opener, IsBracket, around, first, innermost, IsJump, KeepsRules}
use Rattle.cse_code_typing.proofs.Around.{around_innermost, around_first, around_end, around_behind, around_plain, around_start, same_brackets}
use Rattle.cse_verify.specs.Bound.{bounds_below, bound}
use Rattle.cse_verify.specs.Walk.{Turning, Standing, begun, at_place, branched, entered, turned, ended, broken, moved, walk, walked}
use Rattle.cse_verify.specs.Rest.{steps_from, tail, end_in, rest_opens, rest_call, rest}
use Rattle.cse_verify.specs.Calls.{MayWalk, IsStanding, IsCalled, AreCalls, StepsKeepToBound, WalksStayInside, RestFalls}
use Rattle.cse_verify.proofs.EventLaws.{bounds_at}
use Rattle.cse_verify.proofs.Tails.{end_of, no_begin, no_end, fine_at, nested_in, bound_is_tail}
use Rattle.cse_verify.proofs.Later.{tail_plain, tail_opener, tail_jump, behind_within, next_within}

abbrev pub openers : List Turning → List ℕ
openers opens = map (λ t. t.opener) opens

-- what a step does to the calls
pub record Lowers (x : Image) (r : ℕ) (old new : List Standing) : Type 0 where
  pub calls : AreCalls x r new
  pub less : rest x new < rest x old

along : (x : Image) (r : ℕ) (old v w : List Standing) → ◌≡◌ {A = Option (List Standing)} (Some v) (Some w) → Lowers x r old v → Lowers x r old w
along x r old v w e h = subst (λ l. Lowers x r old l) (same_Some v w e) h

module _ (x : Image) (r : ℕ) (c : Standing) (keeps : KeepsRules (skeleton_of x c.routine)) (good : IsStanding x c) (below : List Standing) (called : IsCalled x r c.routine below) (others : AreCalls x r below) where
  -- the place of this call and its brackets change, and the other calls stay
  stays : (q : ℕ) (opens : List Turning) → q < length (skeleton_of x c.routine) → openers opens ≡ around (skeleton_of x c.routine) q → tail (bounds_below x c.routine) (skeleton_of x c.routine) q + rest_opens (tail (bounds_below x c.routine) (skeleton_of x c.routine)) (skeleton_of x c.routine) opens < rest_call x c → Lowers x r (c ∷ below) (record { routine = c.routine; place = q; opens = opens } ∷ below)
  stays q opens lt same less =
      record { calls = (record { routine = good.routine; place = lt; opens = same }, called, others); less = omega arith }

  -- on to the next place
  goes_on : (i : Control) → slice_get (skeleton_of x c.routine) c.place ≡ Some i → named_end (Some i) ≡ None → named_opener (Some i) ≡ None → i ≢ Return → steps_from (bounds_below x c.routine) (tail (bounds_below x c.routine) (skeleton_of x c.routine)) c.place i ≡ 1 + tail (bounds_below x c.routine) (skeleton_of x c.routine) (suc c.place) → Lowers x r (c ∷ below) (at_place c (c.place + 1) ∷ below)
  goes_on i at nb ne nr w =
      let code = skeleton_of x c.routine in
      let bounds = bounds_below x c.routine in
      let next = around_plain code c.place (no_begin code c.place i at nb) (no_end code c.place i at ne) in
      let one : suc c.place ≡ c.place + 1 = omega arith in
      let t = tail_plain bounds code keeps c.place i at nb in
      let within = next_within bounds code keeps c.place i at nr in
      let same = good.opens ∙ sym next ∙ ap (around code) one in
      let k = ap (tail bounds code) one in
      stays (c.place + 1) c.opens (omega arith) same (omega arith)

  -- a jump
  jumps : (i : Control) (q : ℕ) → slice_get (skeleton_of x c.routine) c.place ≡ Some i → named_end (Some i) ≡ None → named_opener (Some i) ≡ None → steps_from (bounds_below x c.routine) (tail (bounds_below x c.routine) (skeleton_of x c.routine)) c.place i ≡ 1 + tail (bounds_below x c.routine) (skeleton_of x c.routine) (suc c.place) → IsJump (skeleton_of x c.routine) c.place q → Lowers x r (c ∷ below) (at_place c q ∷ below)
  jumps i q at nb ne w jump =
      let code = skeleton_of x c.routine in
      let same = same_brackets code (nested_in code keeps) c.place q jump.2 in
      let t = tail_jump (bounds_below x c.routine) code keeps c.place q i at nb ne w jump.0 jump.1 same in
      stays q c.opens jump.1 (good.opens ∙ sym same) (omega arith)

  branches : (q n : ℕ) → slice_get (skeleton_of x c.routine) c.place ≡ Some (Branch q) → Lowers x r (c ∷ below) (branched n q c ∷ below)
  branches q zero at = jumps (Branch q) q at refl refl refl (fine_at (skeleton_of x c.routine) keeps c.place (Branch q) at)
  branches q (suc n) at = goes_on (Branch q) at refl refl (λ h. cc) refl

  -- an opener, with this number of turns
  enters : (b e n : ℕ) → slice_get (skeleton_of x c.routine) c.place ≡ Some (Open b e) → n ≤ b → Lowers x r (c ∷ below) (entered n e c ∷ below)
  enters b e zero at le =
      let code = skeleton_of x c.routine in
      let bounds = bounds_below x c.routine in
      let br = (fine_at code keeps c.place (Open b e) at).bracket in
      let behind = around_behind code (nested_in code keeps) c.place e br in
      let one : suc e ≡ e + 1 = omega arith in
      let t = tail_opener bounds code keeps c.place b e at in
      let within = behind_within bounds code keeps c.place e br in
      let k = ap (tail bounds code) one in
      stays (e + 1) c.opens (omega arith) (good.opens ∙ sym behind ∙ ap (around code) one) (omega arith)
  enters b e (suc m) at le =
      let code = skeleton_of x c.routine in
      let bounds = bounds_below x c.routine in
      let T = tail bounds code in
      let br = (fine_at code keeps c.place (Open b e) at).bracket in
      let inside = around_first code (nested_in code keeps) c.place e br in
      let one : suc c.place ≡ c.place + 1 = omega arith in
      let t = tail_opener bounds code keeps c.place b e at in
      let within = next_within bounds code keeps c.place (Open b e) at (λ h. cc) in
      let k = ap T one in
      let turns : suc m * T (suc c.place) ≤ b * T (suc c.place) = mul-le-mul_right (T (suc c.place)) le in
      let end = ap (λ o. T (suc (end_in o))) at in
      let opens : openers (record { opener = c.place; left = m } ∷ c.opens) ≡ around code (c.place + 1) =
      ap (λ l. c.place ∷ l) good.opens ∙ sym inside ∙ ap (around code) one in
      stays (c.place + 1) (record { opener = c.place; left = m } ∷ c.opens) (omega arith) opens (omega arith)

  -- the end of a turn
  turns_on : (s left : ℕ) (outer : List Turning) → slice_get (skeleton_of x c.routine) c.place ≡ Some (End s) → c.opens ≡ record { opener = s; left = left } ∷ outer → Lowers x r (c ∷ below) (turned left s c outer ∷ below)
  turns_on s zero outer at is =
      let code = skeleton_of x c.routine in
      let bounds = bounds_below x c.routine in
      let T = tail bounds code in
      let nest = nested_in code keeps in
      let br = fine_at code keeps c.place (End s) at in
      let here = around_end code nest s c.place br in
      let behind = around_behind code nest s c.place br in
      let one : suc c.place ≡ c.place + 1 = omega arith in
      let was : s ∷ openers outer ≡ s ∷ around code s = sym (ap openers is) ∙ good.opens ∙ here in
      let inner : openers outer ≡ around code s = cc in
      let t : T c.place ≡ 1 = tail_plain bounds code keeps c.place (End s) at refl in
      let k = ap T one in
      let before = ap (rest_opens T code) is in
      let end : T (suc (end_in (slice_get code s))) ≡ T (suc c.place) = ap (λ e. T (suc e)) (end_of (slice_get code s) c.place br.1) in
      let within = behind_within bounds code keeps s c.place br in
      stays (c.place + 1) outer (omega arith) (inner ∙ sym behind ∙ ap (around code) one) (omega arith)
  turns_on s (suc n) outer at is =
      let code = skeleton_of x c.routine in
      let bounds = bounds_below x c.routine in
      let T = tail bounds code in
      let nest = nested_in code keeps in
      let br = fine_at code keeps c.place (End s) at in
      let here = around_end code nest s c.place br in
      let inside = around_first code nest s c.place br in
      let one : suc s ≡ s + 1 = omega arith in
      let was : s ∷ openers outer ≡ s ∷ around code s = sym (ap openers is) ∙ good.opens ∙ here in
      let t : T c.place ≡ 1 = tail_plain bounds code keeps c.place (End s) at refl in
      let k = ap T one in
      let before = ap (rest_opens T code) is in
      let within = slice_get_within code c.place (End s) at in
      let lt = br.0 in
      stays (s + 1) (record { opener = s; left = n } ∷ outer) (omega arith) (was ∙ sym inside ∙ ap (around code) one) (omega arith)

  -- out of a bracket
  breaks : (s e left : ℕ) (outer : List Turning) → slice_get (skeleton_of x c.routine) c.place ≡ Some (Break e) → innermost (skeleton_of x c.routine) c.place ≡ Some s → IsBracket (skeleton_of x c.routine) s e → c.opens ≡ record { opener = s; left = left } ∷ outer → Lowers x r (c ∷ below) (record { routine = c.routine; place = e + 1; opens = outer } ∷ below)
  breaks s e left outer at inner br is =
      let code = skeleton_of x c.routine in
      let bounds = bounds_below x c.routine in
      let T = tail bounds code in
      let nest = nested_in code keeps in
      let here = around_innermost code nest c.place s inner in
      let behind = around_behind code nest s e br in
      let one : suc e ≡ e + 1 = omega arith in
      let was : s ∷ openers outer ≡ s ∷ around code s = sym (ap openers is) ∙ good.opens ∙ here in
      let same : openers outer ≡ around code s = cc in
      let t : T c.place ≡ 1 + T (suc c.place) = tail_plain bounds code keeps c.place (Break e) at refl in
      let k = ap T one in
      let before = ap (rest_opens T code) is in
      let end : T (suc (end_in (slice_get code s))) ≡ T (suc e) = ap (λ e. T (suc e)) (end_of (slice_get code s) e br.1) in
      let within = behind_within bounds code keeps s e br in
      stays (e + 1) outer (omega arith) (same ∙ sym behind ∙ ap (around code) one) (omega arith)

  -- the innermost open bracket is that of the end or break here
  opener_is : (s : ℕ) (t : Turning) (outer : List Turning) → innermost (skeleton_of x c.routine) c.place ≡ Some s → c.opens ≡ t ∷ outer → t.opener ≡ s
  opener_is s t outer inner is =
      let a : Some t.opener ≡ innermost (skeleton_of x c.routine) c.place = sym (ap (λ l. first (openers l)) is) ∙ ap first good.opens in
      same_Some t.opener s (a ∙ inner)

  at_end_innermost : (s : ℕ) → slice_get (skeleton_of x c.routine) c.place ≡ Some (End s) → innermost (skeleton_of x c.routine) c.place ≡ Some s
  at_end_innermost s at = ap first (around_end (skeleton_of x c.routine) (nested_in (skeleton_of x c.routine) keeps) s c.place (fine_at (skeleton_of x c.routine) keeps c.place (End s) at))

  -- a call; the callee's bound is paid by the place of the call
  makes_call : (q : ℕ) → slice_get (skeleton_of x c.routine) c.place ≡ Some (Call q) → q < c.routine → KeepsRules (skeleton_of x q) → 0 < length (skeleton_of x q) → Lowers x r (c ∷ below) (begun q ∷ at_place c (c.place + 1) ∷ below)
  makes_call q at smaller callee some =
      let code = skeleton_of x c.routine in
      let bounds = bounds_below x c.routine in
      let T = tail bounds code in
      let i : Control = Call q in
      let next = around_plain code c.place (no_begin code c.place i at refl) (no_end code c.place i at refl) in
      let one : suc c.place ≡ c.place + 1 = omega arith in
      let t : T c.place ≡ 1 + get_or bounds q 0 + T (suc c.place) = tail_plain bounds code keeps c.place i at refl in
      let table : get_or bounds q 0 ≡ bound x q = bounds_at x c.routine q smaller in
      let first_tail : bound x q ≡ tail (bounds_below x q) (skeleton_of x q) 0 = bound_is_tail (bounds_below x q) (skeleton_of x q) callee in
      let within = next_within bounds code keeps c.place i at (λ h. cc) in
      let k = ap T one in
      let there = good.routine in
      record {
        calls = (
          record { routine = omega arith; place = some; opens = sym (around_start (skeleton_of x q)) },
          record { smaller = smaller; at = c.place; behind = refl; calls = at },
          (record { routine = there; place = omega arith; opens = good.opens ∙ sym next ∙ ap (around code) one }, called, others),
        );
        less = omega arith;
      }

  returns : slice_get (skeleton_of x c.routine) c.place ≡ Some Return → Lowers x r (c ∷ below) below
  returns at =
      let t = tail_plain (bounds_below x c.routine) (skeleton_of x c.routine) keeps c.place Return at refl in
      record { calls = others; less = omega arith }

  on_end : (s : ℕ) (opens : List Turning) (v : List Standing) → slice_get (skeleton_of x c.routine) c.place ≡ Some (End s) → c.opens ≡ opens → option_map (λ d. d ∷ below) (ended s c opens) ≡ Some v → Lowers x r (c ∷ below) v
  on_end s [] v at is h = cc
  on_end s (t ∷ outer) v at is h =
      let e : t.opener ≡ s = opener_is s t outer (at_end_innermost s at) is in
      let same : c.opens ≡ record { opener = s; left = t.left } ∷ outer = is ∙ ap (λ k. record { opener = k; left = t.left } ∷ outer) e in
      let k = ap (option_map (λ d. d ∷ below)) (cond-true (eqb t.opener s) (Some (turned t.left s c outer)) None (eq-eqb t.opener s e)) in
      along x r (c ∷ below) (turned t.left s c outer ∷ below) v (sym k ∙ h) (turns_on s t.left outer at same)

  on_break : (e : ℕ) (opens : List Turning) (v : List Standing) → slice_get (skeleton_of x c.routine) c.place ≡ Some (Break e) → c.opens ≡ opens → option_map (λ d. d ∷ below) (broken e c opens) ≡ Some v → Lowers x r (c ∷ below) v
  on_break e [] v at is h = cc
  on_break e (t ∷ outer) v at is h =
      let b = fine_at (skeleton_of x c.routine) keeps c.place (Break e) at in
      let k : t.opener ≡ b.0 = opener_is b.0 t outer b.1 is in
      let same : c.opens ≡ record { opener = b.0; left = t.left } ∷ outer = is ∙ ap (λ k. record { opener = k; left = t.left } ∷ outer) k in
      along x r (c ∷ below) (record { routine = c.routine; place = e + 1; opens = outer } ∷ below) v h (breaks b.0 e t.left outer at b.1 b.2 same)

  -- each form
  moved_lowers : (o : Option Control) (choice : ℕ) (v : List Standing) → MayWalk x → slice_get (skeleton_of x c.routine) c.place ≡ o → moved o choice c below ≡ Some v → Lowers x r (c ∷ below) v
  moved_lowers None choice v may at h = cc
  moved_lowers (Some Step) choice v may at h = along x r (c ∷ below) _ v h (goes_on Step at refl refl (λ h. cc) refl)
  moved_lowers (Some (Jump q)) choice v may at h = along x r (c ∷ below) _ v h (jumps (Jump q) q at refl refl refl (fine_at (skeleton_of x c.routine) keeps c.place (Jump q) at))
  moved_lowers (Some (Branch q)) choice v may at h = along x r (c ∷ below) _ v h (branches q choice at)
  moved_lowers (Some (Open b e)) choice v may at h = along x r (c ∷ below) _ v h (enters b e (min choice b) at (omega arith))
  moved_lowers (Some (End s)) choice v may at h = on_end s c.opens v at refl h
  moved_lowers (Some (Break e)) choice v may at h = on_break e c.opens v at refl h
  moved_lowers (Some (Call q)) choice v may at h =
      let smaller : q < c.routine = may.smaller c.routine good.routine c.place q at in
      let there = good.routine in
      along x r (c ∷ below) _ v h (makes_call q at smaller (may.rules q (omega arith)) (may.some q (omega arith)))
  moved_lowers (Some Return) choice v may at h = along x r (c ∷ below) _ v h (returns at)

  -- and each form moves
  end_moves : (s : ℕ) (opens : List Turning) → slice_get (skeleton_of x c.routine) c.place ≡ Some (End s) → c.opens ≡ opens → (v : List Standing) × (option_map (λ d. d ∷ below) (ended s c opens) ≡ Some v)
  end_moves s [] at is =
      let inner : innermost (skeleton_of x c.routine) c.place ≡ Some s = at_end_innermost s at in
      let same : first (openers c.opens) ≡ innermost (skeleton_of x c.routine) c.place = ap first good.opens in
      let empty : first (openers c.opens) ≡ None = ap (λ l. first (openers l)) is in
      cc
  end_moves s (t ∷ outer) at is =
      let e : t.opener ≡ s = opener_is s t outer (at_end_innermost s at) is in
      (turned t.left s c outer ∷ below, ap (option_map (λ d. d ∷ below)) (cond-true (eqb t.opener s) (Some (turned t.left s c outer)) None (eq-eqb t.opener s e)))

  break_moves : (e : ℕ) (opens : List Turning) → slice_get (skeleton_of x c.routine) c.place ≡ Some (Break e) → c.opens ≡ opens → (v : List Standing) × (option_map (λ d. d ∷ below) (broken e c opens) ≡ Some v)
  break_moves e [] at is =
      let b = fine_at (skeleton_of x c.routine) keeps c.place (Break e) at in
      let inner : innermost (skeleton_of x c.routine) c.place ≡ Some b.0 = b.1 in
      let same : first (openers c.opens) ≡ innermost (skeleton_of x c.routine) c.place = ap first good.opens in
      let empty : first (openers c.opens) ≡ None = ap (λ l. first (openers l)) is in
      cc
  break_moves e (t ∷ outer) at is = (record { routine = c.routine; place = e + 1; opens = outer } ∷ below, refl)

  moves : (o : Option Control) (choice : ℕ) → slice_get (skeleton_of x c.routine) c.place ≡ o → (v : List Standing) × (moved o choice c below ≡ Some v)
  moves None choice at = let here = slice_get_some (skeleton_of x c.routine) c.place good.place in let there = here.1 in cc
  moves (Some Step) choice at = (at_place c (c.place + 1) ∷ below, refl)
  moves (Some (Jump q)) choice at = (at_place c q ∷ below, refl)
  moves (Some (Branch q)) choice at = (branched choice q c ∷ below, refl)
  moves (Some (Open b e)) choice at = (entered (min choice b) e c ∷ below, refl)
  moves (Some (End s)) choice at = end_moves s c.opens at refl
  moves (Some (Break e)) choice at = break_moves e c.opens at refl
  moves (Some (Call q)) choice at = (begun q ∷ at_place c (c.place + 1) ∷ below, refl)
  moves (Some Return) choice at = (below, refl)

-- a step keeps the calls where they belong, and lowers the rest
pub walk_lowers : (x : Image) → MayWalk x → (r choice : ℕ) (w v : List Standing) → AreCalls x r w → walk x choice w ≡ Some v → Lowers x r w v
unfolding walk
walk_lowers x may r choice [] v are h = cc
walk_lowers x may r choice (c ∷ below) v are h =
    moved_lowers x r c (may.rules c.routine are.0.routine) are.0 below are.1 are.2 (slice_get (skeleton_of x c.routine) c.place) choice v may refl h

-- while there is a call there is a step, whatever is chosen
pub walk_goes_on : (x : Image) → MayWalk x → (r choice : ℕ) (c : Standing) (below : List Standing) → AreCalls x r (c ∷ below) → (v : List Standing) × (walk x choice (c ∷ below) ≡ Some v)
unfolding walk
walk_goes_on x may r choice c below are =
    moves x r c (may.rules c.routine are.0.routine) are.0 below are.1 are.2 (slice_get (skeleton_of x c.routine) c.place) choice refl

-- a call that begins stands where it belongs
pub entry_calls : (x : Image) → MayWalk x → (r : ℕ) → r < length x.lists.routines → AreCalls x r (begun r ∷ [])
entry_calls x may r lt =
    (record { routine = lt; place = may.some r lt; opens = sym (around_start (skeleton_of x r)) }, refl, tt)

-- and its rest is the bound of its routine
pub entry_rest : (x : Image) → MayWalk x → (r : ℕ) → r < length x.lists.routines → rest x (begun r ∷ []) ≡ bound x r
entry_rest x may r lt =
    let e = bound_is_tail (bounds_below x r) (skeleton_of x r) (may.rules r lt) in
    omega arith

-- ---- n steps

-- where the steps of a walk lead, and what is left
pub record Leads (x : Image) (r : ℕ) (start : List Standing) (n : ℕ) (w : List Standing) : Type 0 where
  pub calls : AreCalls x r w
  pub within : n + rest x w ≤ rest x start

one_more : (x : Image) → MayWalk x → (r : ℕ) (start : List Standing) (choice n : ℕ) (o : Option (List Standing)) (w : List Standing) → ((v : List Standing) → o ≡ Some v → Leads x r start n v) → option_and_then (walk x choice) o ≡ Some w → Leads x r start (suc n) w
one_more x may r start choice n None w before h = cc
one_more x may r start choice n (Some v) w before h =
    let b = before v refl in
    let s = walk_lowers x may r choice v w b.calls h in
    let within = b.within in
    let less = s.less in
    record { calls = s.calls; within = omega arith }

pub walked_leads : (x : Image) → MayWalk x → (r : ℕ) (start : List Standing) (choices : List ℕ) (w : List Standing) → AreCalls x r start → walked x choices start ≡ Some w → Leads x r start (length choices) w
unfolding walked
walked_leads x may r start [] w are h =
    let e : start ≡ w = same_Some start w h in
    subst (λ l. Leads x r start 0 l) e (record { calls = are; within = omega arith })
walked_leads x may r start (choice ∷ earlier) w are h =
    one_more x may r start choice (length earlier) (walked x earlier start) w (λ v e. walked_leads x may r start earlier v are e) h

-- ---- the laws

pub walked_within : (x : Image) → MayWalk x → StepsKeepToBound x
walked_within x may r choices w lt h =
    let leads = walked_leads x may r (begun r ∷ []) choices w (entry_calls x may r lt) h in
    let e = entry_rest x may r lt in
    let within = leads.within in
    omega arith

pub walked_inside : (x : Image) → MayWalk x → WalksStayInside x
walked_inside x may r choices w lt h = (walked_leads x may r (begun r ∷ []) choices w (entry_calls x may r lt) h).calls

pub walk_falls : (x : Image) → MayWalk x → RestFalls x
walk_falls x may r choice w v are h =
    let lowers = walk_lowers x may r choice w v are h in (lowers.calls, lowers.less)
