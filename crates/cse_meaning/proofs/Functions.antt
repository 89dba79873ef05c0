-- Functions do what they mean, one after the other.
use Rattle.std.proofs.Common.{◌≡◌, ℕ, zero, suc, ◌+◌, ◌<◌, ◌≤◌, Bool, true, false, List, [], ◌∷◌, ◌++◌, length, map, take, drop, Option, Some, refl, sym, ap, ◌∙◌, subst, arith}
use Rattle.std.specs.Prelude.{pos, ◌==◌, if◌then◌else◌, slice_get, slice_set, is_some, option_map}
use Rattle.std.proofs.lemmas.Option.{same_Some, slice_get_within}
use Rattle.std.proofs.lemmas.Bool.{eqb-true, eq-eqb, false≢true}
use Rattle.cse_lemmas.proofs.Lists.{slice_get_some}
use Rattle.cse_value.specs.declared.number.Num.{Num}
use Rattle.cse_value.specs.declared.number.Num.TheVariants.{Whole, Undef}
use Rattle.cse_image_parts.specs.declared.entries.Gift.TheVariants as gifts
use Rattle.cse_image_parts.specs.declared.entries.Local.{Local}
use Rattle.cse_image_parts.specs.declared.instruction.Op.TheVariants as ops
use Rattle.cse_image_parts.specs.Image.{RoutineLists}
use Rattle.cse_case.specs.Case.{CaseText}
use Rattle.cse_code_typing.specs.Code.{code_of}
use Rattle.cse_code_typing.specs.declared.kind.Kind.{Kind}
use Rattle.cse_code_typing.specs.declared.kind.Kind.TheVariants as kind
use Rattle.cse_code_typing.specs.Kinds.{local_kind}
use Rattle.cse_code_typing.specs.Order.{is_run}
use Rattle.cse_verify.specs.Verified.{VerifiedProgram}
use Rattle.cse_logic_tree.specs.declared.tree.Variable.TheVariants as v
use Rattle.cse_logic_tree.specs.Typed.{Function}
use Rattle.cse_compile.specs.Outline.{outline_of, routine_of, numbers, number_local}
use Rattle.cse_compile.proofs.SectionLists.{result_there}
use Rattle.cse_compile.specs.Setting.{Setting}
use Rattle.cse_compile.specs.Routines.{no_loop, routine_code}
use Rattle.cse_compile.specs.Statements.{block_size, block_code, exit_code}
use Rattle.cse_meaning.proofs.TypedBlocks.{block_length}
use Rattle.cse_steps.specs.Cell.{Cell, Number}
use Rattle.cse_steps.specs.State.{Call, World}
use Rattle.cse_steps.specs.Step.{acts, first_local}
use Rattle.cse_steps.specs.Fits.{FitsWorld}
use Rattle.cse_steps.specs.Laws.{RunsCompose}
use Rattle.cse_meaning.specs.Setting.{Context, Functions}
use Rattle.cse_meaning.specs.Statements.{Flow, Fell, Broke, Skipped, Left, all_do}
use Rattle.cse_meaning.specs.Meaning.{begun, valued_of, function_of, functions_below}
use Rattle.cse_meaning.specs.Runs.{Goes, Spot, at, HasCode}
use Rattle.cse_meaning.specs.Laid.{IsLaid}
use Rattle.cse_meaning.specs.Follows.{Follows, AreNumbers, called_above, back_in}
use Rattle.cse_meaning.specs.Lands.{Around, Lands}
use Rattle.cse_meaning.specs.Whole.{setting_of, IsRoutineOf, IsOf, AreRoutines, outside, FunctionsFollow}
use Rattle.cse_meaning.proofs.Going.{joined, stand_front, stand_back, plain_at}
use Rattle.cse_meaning.proofs.Held.{beneath, there}
use Rattle.cse_meaning.proofs.Assigned.{set_goes}
use Rattle.cse_meaning.proofs.Landing.{exits}
use Rattle.cse_meaning.proofs.Rows.{keeps_rows}
use Rattle.cse_meaning.proofs.Statements.{block_lands}

-- ---- the locals of a function: its parameters, and its result behind them

first_number : (n : ℕ) → slice_get (numbers n ++ number_local ∷ []) 0 ≡ Some number_local
first_number zero = refl
first_number (suc n) = refl

result_left : (n : ℕ) → drop n (numbers n ++ number_local ∷ []) ≡ number_local ∷ []
result_left zero = refl
result_left (suc n) = result_left n

many_numbers : (ls : List Local) (args : List Num) → AreNumbers ls args → length args ≡ length ls
many_numbers [] [] are = refl
many_numbers [] (x ∷ args) are = absurd are
many_numbers (l ∷ ls) [] are = absurd are
many_numbers (l ∷ ls) (x ∷ args) are = ap suc (many_numbers ls args are.1)

long : (n : ℕ) → length (take n (numbers n ++ number_local ∷ [])) ≡ n
long zero = refl
long (suc n) = ap suc (long n)

-- the arguments lie in front
in_front : (args : List Num) (rest : List Cell) (k : ℕ) (x : Num) → slice_get args k ≡ Some x → slice_get (map Number args ++ rest) k ≡ Some (Number x)
in_front [] rest k x h = cc
in_front (a ∷ args) rest zero x h = ap (λ n. Some (Number n)) (same_Some a x h)
in_front (a ∷ args) rest (suc k) x h = in_front args rest k x h

behind : (args : List Num) (y : Cell) → slice_get (map Number args ++ y ∷ []) (length args) ≡ Some y
behind [] y = refl
behind (a ∷ args) y = behind args y

abbrev option_kind : Option Local → Option Kind
option_kind o = option_map local_kind o

less_than : (k n : ℕ) → k < suc n → (k ≡ n → ⊥) → k < n
less_than k n less other = omega arith

no_occurrence : (of : ℕ) → Some kind.Number ≡ Some (kind.Occurrence of) → ⊥
no_occurrence of e = cc

module _ (compose : RunsCompose) (program : VerifiedProgram) (c : Context) (first : Option CaseText) (is_of : IsOf program c) where
  abbrev around : Around
  around = record { is_loop = false; opens = []; loops = [] }

  -- what a function gives, and that the world fits then
  record Runs (k : ℕ) (y : RoutineLists) (args : List Num) (caller : Call) (below : List Call) (w : World) (x : Num) (next : World) : Type 0 where
    goes : Goes program (called_above k y args caller below w) (back_in caller x below next)
    fits : FitsWorld program first next

  module _ (n : ℕ) (fn : Functions) (follows : Follows program first fn n) (f : Function) (is : IsRoutineOf program c.arrays n (outline_of f) (length f.parameters)) where
    abbrev setting : Setting
    setting = setting_of program c.arrays (outline_of f)

    abbrev routine : RoutineLists
    routine = routine_of (outline_of f).sort is.instructions

    abbrev spot : List Cell → Call → List Call → Spot
    spot locals caller below = record { program = program; number = n; routine = routine; locals = locals; opens = []; below = caller ∷ below }

    -- how the body ends is how the call ends
    ends : (flow : Flow) (L M : List Cell) (caller : Call) (below : List Call) (q r : ℕ) (args : List Num) (w v : World) → Goes program (called_above n routine args caller below w) (at (spot L caller below) q [] v)
        → Lands setting (spot L caller below) (outside c) first (length f.parameters) no_loop around q r v flow → HasCode (spot L caller below) r (exit_code setting)
        → Runs n routine args caller below w (valued_of flow).0 (valued_of flow).1
    ends (Fell ls u) L M caller below q r args w v g h has =
        let x = exits compose setting (spot L caller below) fn (outside c) first (length f.parameters) is_of.sound (keeps_rows program.dictionary is_of.sound) follows (Some (length f.parameters)) refl (refl, ap (λ (o : Option Local). option_kind o) (result_there (length f.parameters))) h.locals [] [] ls r u h.laid h.fits has in
        record { goes = joined compose program _ _ _ g (joined compose program _ _ _ h.goes x.goes); fits = x.fits }
    ends (Left ls u) L M caller below q r args w v g h has = record { goes = joined compose program _ _ _ g h.goes; fits = h.fits }
    ends (Broke ls u) L M caller below q r args w v g h has = absurd (false≢true h.0)
    ends (Skipped ls u) L M caller below q r args w v g h has = absurd (false≢true h.0)

    runs : (args : List Num) (caller : Call) (below : List Call) (w : World) → AreNumbers (take routine.parameters routine.locals) args → (is_run routine.ambient ≡ false → is_some first ≡ true) → FitsWorld program first w
        → Runs n routine args caller below w (valued_of (all_do fn (outside c) f.body (begun args) w)).0 (valued_of (all_do fn (outside c) f.body (begun args) w)).1
    unfolding routine_code acts
    runs args caller below w are ambient fits =
        let count = length f.parameters in
        let many : length args ≡ count = many_numbers (take count (numbers count ++ number_local ∷ [])) args are ∙ long count in
        let rest = map first_local (drop count (numbers count ++ number_local ∷ [])) in
        let L = map Number args ++ rest in
        let zero_there : slice_get L count ≡ Some (Number (Whole (pos 0))) = ap (λ (ls : List Local). slice_get (map Number args ++ map first_local ls) count) (result_left count) ∙ (ap (slice_get (map Number args ++ Number (Whole (pos 0)) ∷ [])) (sym many) ∙ behind args (Number (Whole (pos 0)))) in
        let M = slice_set L count (Number Undef) in
        let s = spot L caller below in
        let t = spot M caller below in
        let has = is.stands in
        let g = plain_at compose s is.there 0 ops.Special 2 0 0 [] w _ (has.0, tt) refl in
        let h = set_goes compose setting s (outside c) is.there v.Result 1 Undef w (ap (λ (o : Option Local). option_kind o) (result_there count)) (has.1.0, tt) in
        let laid : IsLaid setting t (outside c) first (begun args) = record {
          there = is.there;
          dictionary = is_of.dictionary;
          arrays = is_of.arrays;
          records = refl;
          ambient = ambient;
          parameters = λ k x e. (let b = slice_get_within args k x e in beneath L count k (Number Undef) (omega arith)) ∙ in_front args rest k x e;
          apart = omega arith;
          result = λ e. there L count (Number Undef) (Number (Whole (pos 0))) zero_there;
          event = λ of e. absurd (no_occurrence of (sym (ap (λ (o : Option Local). option_kind o) (first_number count)) ∙ e));
          loops = λ of e. absurd (false≢true e);
        } in
        let body = stand_front program.image.lists (code_of program.image n) 2 (block_code setting no_loop 2 f.body) _ has.1.1 in
        let exit = stand_back program.image.lists (code_of program.image n) 2 (block_size setting f.body) (block_code setting no_loop 2 f.body) _ (block_length setting no_loop 2 f.body) has.1.1 in
        let lands = block_lands compose setting t fn (outside c) first count is_of.sound (keeps_rows program.dictionary is_of.sound) follows (refl, ap (λ (o : Option Local). option_kind o) (result_there count)) f.body 64 false M [] [] (begun args) no_loop around 2 w laid many fits (λ e. absurd (false≢true e)) is.plain is.fits body in
        ends (all_do fn (outside c) f.body (begun args) w) M M caller below 2 (2 + block_size setting f.body) args w w (joined compose program _ _ _ g h) lands exit

  -- ---- one after the other

  module _ (fs : List Function) (are : AreRoutines program c fs) where
    -- the routine of a function, as it is given
    run_of : (n : ℕ) (fn : Functions) (follows : Follows program first fn n) (f : Function) (there : slice_get fs n ≡ Some f) (y : RoutineLists) (args : List Num) (caller : Call) (below : List Call) (w : World) → slice_get program.image.lists.routines n ≡ Some y
        → AreNumbers (take y.parameters y.locals) args → (is_run y.ambient ≡ false → is_some first ≡ true) → FitsWorld program first w
        → Runs n y args caller below w (function_of fn (outside c) (slice_get fs n) args w).0 (function_of fn (outside c) (slice_get fs n) args w).1
    run_of n fn follows f there y args caller below w is numbers_are ambient fits =
        let r = are n f there in
        let same = same_Some (routine_of (outline_of f).sort r.instructions) y (sym r.there ∙ is) in
        let go = subst (λ (y : RoutineLists). AreNumbers (take y.parameters y.locals) args → (is_run y.ambient ≡ false → is_some first ≡ true) → Runs n y args caller below w (valued_of (all_do fn (outside c) f.body (begun args) w)).0 (valued_of (all_do fn (outside c) f.body (begun args) w)).1) same
        (λ a b. runs n fn follows f r args caller below w a b fits) in
        subst (λ o. Runs n y args caller below w (function_of fn (outside c) o args w).0 (function_of fn (outside c) o args w).1) (sym there) (go numbers_are ambient)

    -- a function below, or the last one
    chosen_run : (n : ℕ) (fn : Functions) (follows : Follows program first fn n) (f : Function) (there : slice_get fs n ≡ Some f) (k : ℕ) (b : Bool) → (k == n) ≡ b → (y : RoutineLists) (args : List Num) (caller : Call) (below : List Call) (w : World) → k < suc n
        → slice_get program.image.lists.routines k ≡ Some y → y.gives ≡ gifts.Number → AreNumbers (take y.parameters y.locals) args → (is_run y.ambient ≡ false → is_some first ≡ true) → FitsWorld program first w
        → Runs k y args caller below w (if b then function_of fn (outside c) (slice_get fs n) args w else fn k args w).0 (if b then function_of fn (outside c) (slice_get fs n) args w else fn k args w).1
    chosen_run n fn follows f there k true e y args caller below w less is gives numbers_are ambient fits =
        let same : k ≡ n = eqb-true k n e in
        subst (λ k. slice_get program.image.lists.routines k ≡ Some y → Runs k y args caller below w (function_of fn (outside c) (slice_get fs n) args w).0 (function_of fn (outside c) (slice_get fs n) args w).1) (sym same)
        (λ is. run_of n fn follows f there y args caller below w is numbers_are ambient fits) is
    chosen_run n fn follows f there k false e y args caller below w less is gives numbers_are ambient fits =
        let other : (k ≡ n → ⊥) = λ same. false≢true (sym e ∙ eq-eqb k n same) in
        let lower : k < n = less_than k n less other in
        record { goes = follows.goes k y args caller below w lower is gives numbers_are ambient fits; fits = follows.fits k y args w lower is gives numbers_are ambient fits }

    pub follow : (n : ℕ) → n ≤ length fs → Follows program first (functions_below (outside c) fs n) n
    unfolding functions_below
    follow zero h = record {
      goes = λ k y args caller below w less is gives numbers_are ambient fits. absurd (omega arith);
      fits = λ k y args w less is gives numbers_are ambient fits. absurd (omega arith);
    }
    follow (suc n) h =
        let fn = functions_below (outside c) fs n in
        let f = slice_get_some fs n (omega arith) in
        let before = follow n (omega arith) in
        record {
          goes = λ k y args caller below w less is gives numbers_are ambient fits. (chosen_run n fn before f.0 f.1 k (k == n) refl y args caller below w less is gives numbers_are ambient fits).goes;
          fits = λ k y args w less is gives numbers_are ambient fits. (chosen_run n fn before f.0 f.1 k (k == n) refl y args (record { routine = 0; place = 0; locals = []; cells = []; opens = [] }) [] w less is gives numbers_are ambient fits).fits;
        }

pub all_follow : RunsCompose → FunctionsFollow
all_follow compose v c first fs n is_of are h = follow compose v c first is_of fs are n h
