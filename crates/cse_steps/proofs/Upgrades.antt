-- A program of version 1 and its upgrade take the same steps.
use Rattle.std.proofs.Common.{◌≡◌, ℕ, zero, suc, ◌+◌, ◌≤◌, List, [], ◌∷◌, map, Option, Some, None, refl, sym, ap, ◌∙◌, subst}
use Rattle.std.specs.Prelude.{slice_get, option_map, option_and_then, if◌then◌else◌, ◌==◌}
use Rattle.std.specs.Option.{option_map_or}
use Rattle.std.proofs.lemmas.Option.{slice_get-map}
use Rattle.cse_image_parts.specs.declared.instruction.Op.{Op}
use Rattle.cse_image_parts.specs.declared.instruction.Op.TheVariants as ops
use Rattle.cse_image_parts.specs.declared.instruction.Instr.{Instr}
use Rattle.cse_image_parts.specs.declared.entries.Event.{Event}
use Rattle.cse_image_parts.specs.Image.{Image, Lists, RoutineLists}
use Rattle.cse_image_parts.specs.Upgrade.{greatest_limit, one_to, zero_below, upgrade_instr, with_limits, upgrade, as_it_stands}
use Rattle.cse_dict.specs.Dictionary.{DictionaryText}
use Rattle.cse_case.specs.Case.{CaseText}
use Rattle.cse_decks.specs.Store.{Kept}
use Rattle.cse_code_typing.specs.Code.{code_of}
use Rattle.cse_code_typing.specs.Handlers.{routine_of}
use Rattle.cse_code_typing.proofs.Twins.{FindsSame, AreTwins, AllTwins, twins_of_routine, code_mapped}
use Rattle.cse_code_typing.proofs.Upgrades.{upgrade_twins}
use Rattle.cse_verify.specs.Bound.{bound}
use Rattle.cse_verify.specs.CaseEvents.{Moment, event_bound}
use Rattle.cse_verify.specs.Verified.{VerifiedProgram}
use Rattle.cse_verify.proofs.MeaningLaws.{upgrade_same}
use Rattle.cse_steps.specs.State.{Open, Call, World, State, Told}
use Rattle.cse_steps.specs.Operands.{with_number, turns_of}
use Rattle.cse_steps.specs.Step.{acts, entered, ends_at, broken, called, stepped, step_of, step}
use Rattle.cse_steps.specs.Run.{run, first, first_calls, Ends}
use Rattle.cse_steps.specs.Upgraded.{meant, upgraded, UpgradeRunsTheSame}

-- the same of each value that is there
then_same : {X Y : Type 0} (f g : X → Option Y) (o : Option X) → ((x : X) → f x ≡ g x) → option_and_then f o ≡ option_and_then g o
then_same f g None h = refl
then_same f g (Some x) h = h x

then_of_mapped : {Y : Type 0} (e : Instr → Instr) (f g : Instr → Option Y) (o : Option Instr) → ((i : Instr) → o ≡ Some i → f (e i) ≡ g i) → option_and_then f (option_map e o) ≡ option_and_then g o
then_of_mapped e f g None h = refl
then_of_mapped e f g (Some i) h = h i refl

module _ (f : Instr → Instr) (lists : Lists) (l m : List ℕ) (code : List Instr) (d : DictionaryText) where
  abbrev left : VerifiedProgram
  left = record { dictionary = d; image = record { lists = with_limits l lists; code = map f code } }

  abbrev right : VerifiedProgram
  right = record { dictionary = d; image = record { lists = with_limits m lists; code = code } }

  -- ---- instructions that stay in their call

  ends_same : (e : ℕ) (o : Option Instr) → ((j : Instr) → o ≡ Some j → AreTwins l m (f j) j) → ends_at e (option_map f o) ≡ ends_at e o
  ends_same e None twins = refl
  ends_same e (Some j) twins = ap (λ n. n == e) (twins j refl).c

  broken_same : (here : List Instr) (c : Call) (w : World) (e : ℕ) (opens : List Open) → AllTwins f l m here → broken (map f here) c w e opens ≡ broken here c w e opens
  broken_same here c w e [] all = refl
  broken_same here c w e (o ∷ opens) all =
      ap (λ z. if z then Some (record c { place = e + 1; opens = opens }, w) else None)
      (ap (ends_at e) (slice_get-map f here o.opener) ∙ ends_same e (slice_get here o.opener) (λ j at. all.each o.opener j at))

  acts_same : (y : RoutineLists) (here : List Instr) (c : Call) (w : World) (op : Op) (a b e k : ℕ) → AllTwins f l m here → FindsSame l m op b e → acts left y (map f here) c w op a b k ≡ acts right y here c w op a e k
  unfolding acts
  acts_same y here c w ops.LoopCount a b e k all h = ap (option_and_then (λ (n : ℕ). with_number c.cells (λ x rest. entered c w rest None (turns_of n x) k))) h
  acts_same y here c w ops.Break a b e k all h = broken_same here c w k c.opens all
  acts_same y here c w op a b e k all h = ap (λ n. acts right y here c w op a n k) h

  module _ (all : AllTwins f l m code) where
    twins_here : (r : ℕ) → AllTwins f l m (code_of right.image r)
    twins_here r = twins_of_routine f l m right.image r all

    mapped : (r : ℕ) → code_of left.image r ≡ map f (code_of right.image r)
    mapped r = code_mapped f l m lists code r

    acts_twin : (y : RoutineLists) (c : Call) (w : World) (op : Op) (i j : Instr) → i.a ≡ j.a → FindsSame l m op i.b j.b → i.c ≡ j.c
        → acts left y (code_of left.image c.routine) c w op i.a i.b i.c ≡ acts right y (code_of right.image c.routine) c w op j.a j.b j.c
    acts_twin y c w op i j a b k =
        ap (λ code. acts left y code c w op i.a i.b i.c) (mapped c.routine)
        ∙ (ap (λ n. acts left y (map f (code_of right.image c.routine)) c w op n i.b i.c) a
        ∙ (ap (λ n. acts left y (map f (code_of right.image c.routine)) c w op j.a i.b n) k
        ∙ acts_same y (code_of right.image c.routine) c w op j.a i.b j.b j.c (twins_here c.routine) b))

    -- ---- steps

    by_op : (y : RoutineLists) (c : Call) (below : List Call) (w : World) (op : Op) (i j : Instr) → i.a ≡ j.a → FindsSame l m op i.b j.b → i.c ≡ j.c → stepped left y c below w op i ≡ stepped right y c below w op j
    by_op y c below w ops.Call i j a b k = ap (λ n. option_and_then (called c below w n) (slice_get lists.routines n)) k
    by_op y c below w ops.Return i j a b k = refl
    by_op y c below w op i j a b k = ap (option_map (λ (r : Call × World). let s : State = record { calls = r.0 ∷ below; world = r.1 } in s)) (acts_twin y c w op i j a b k)

    stepped_same : (y : RoutineLists) (c : Call) (below : List Call) (w : World) (i j : Instr) → AreTwins l m i j → stepped left y c below w i.op i ≡ stepped right y c below w j.op j
    stepped_same y c below w i j t = ap (λ op. stepped left y c below w op i) t.op ∙ by_op y c below w j.op i j t.a t.b t.c

    steps_same : (calls : List Call) (w : World) → step_of left calls w ≡ step_of right calls w
    steps_same [] w = refl
    steps_same (c ∷ below) w =
        then_same (λ y. option_and_then (λ i. stepped left y c below w i.op i) (slice_get (code_of left.image c.routine) c.place)) (λ y. option_and_then (λ i. stepped right y c below w i.op i) (slice_get (code_of right.image c.routine) c.place))
        (slice_get lists.routines c.routine)
        (λ y.
        ap (option_and_then (λ (i : Instr). stepped left y c below w i.op i)) (ap (λ (k : List Instr). slice_get k c.place) (mapped c.routine) ∙ slice_get-map f (code_of right.image c.routine) c.place)
        ∙ then_of_mapped f (λ i. stepped left y c below w i.op i) (λ i. stepped right y c below w i.op i) (slice_get (code_of right.image c.routine) c.place)
        (λ i at. stepped_same y c below w (f i) i ((twins_here c.routine).each c.place i at)))

    pub runs_same : (n : ℕ) (s : State) → run left n s ≡ run right n s
    unfolding run
    runs_same zero s = refl
    runs_same (suc n) s = ap (option_and_then (step left)) (runs_same n s) ∙ then_same (step left) (step right) (run right n s) (λ u. steps_same u.calls u.world)

    pub step_same : (s : State) → step left s ≡ step right s
    step_same s = steps_same s.calls s.world

  -- ---- first states

  first_calls_same : (o : ℕ) (r : Option ℕ) → first_calls left.image o r ≡ first_calls right.image o r
  first_calls_same o None = refl
  first_calls_same o (Some r) = refl

  pub firsts_same : (moment : Moment) (case : Option CaseText) (store : Kept) → first left moment case store ≡ first right moment case store
  unfolding first
  firsts_same moment case store =
      ap (λ calls. let s : State = record { calls = calls; world = record { case = case; store = store; told = record { given = []; imputed = [] } } } in s)
      (first_calls_same moment.occurrence (routine_of lists.events moment.event))

-- an event ends as in the other program, whose bounds are the same
bound_of : (x y : Image) → ((r : ℕ) → bound x r ≡ bound y r) → (o : Option ℕ) → option_map_or (bound x) o 0 ≡ option_map_or (bound y) o 0
bound_of x y same None = refl
bound_of x y same (Some r) = same r

same_ends : (v w : VerifiedProgram) → ((n : ℕ) (s : State) → run v n s ≡ run w n s) → (moment : Moment) (case : Option CaseText) (store : Kept) (n : ℕ) (case' : Option CaseText) (store' : Kept) (told : Told)
    → first v moment case store ≡ first w moment case store → event_bound v.image moment.event ≡ event_bound w.image moment.event → Ends v moment case store n case' store' told → Ends w moment case store n case' store' told
same_ends v w runs moment case store n case' store' told start most e = record {
  state = e.state;
  runs = ap (run w n) (sym start) ∙ (sym (runs n (first v moment case store)) ∙ e.runs);
  ended = e.ended;
  world = e.world;
  within = subst (λ b. n ≤ b) most e.within;
}

pub upgrade_runs : UpgradeRunsTheSame
upgrade_runs d x fits =
    let l = one_to (greatest_limit x.code) in
    let m = zero_below 65536 in
    let all = upgrade_twins x.code fits.code in
    let runs = runs_same upgrade_instr x.lists l m x.code d all in
    let firsts = firsts_same upgrade_instr x.lists l m x.code d in
    let bounds : (e : Event) → event_bound (upgrade x) e ≡ event_bound (as_it_stands x) e = λ e. bound_of (upgrade x) (as_it_stands x) (upgrade_same x fits).bounds (routine_of x.lists.events e) in
    record {
      firsts = firsts;
      steps = step_same upgrade_instr x.lists l m x.code d all;
      runs = runs;
      ends = λ moment case store n case' store' told. (
        same_ends (upgraded d x) (meant d x) runs moment case store n case' store' told (firsts moment case store) (bounds moment.event),
        same_ends (meant d x) (upgraded d x) (λ k s. sym (runs k s)) moment case store n case' store' told (sym (firsts moment case store)) (sym (bounds moment.event)),
      );
    }
