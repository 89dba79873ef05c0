-- Numbers on a stack, as the arguments of a call.
use Rattle.std.proofs.Common.{◌≡◌, ℕ, ◌+◌, ◌<◌, true, false, List, [], ◌∷◌, ◌++◌, map, take, Option, Some, refl, sym, ap, ◌∙◌}
use Rattle.std.specs.Prelude.{slice_get, option_map, option_and_then, is_some}
use Rattle.std.proofs.lemmas.List.{append-nil}
use Rattle.cse_value.specs.declared.number.Num.{Num}
use Rattle.cse_image_parts.specs.declared.instruction.Op.TheVariants as ops
use Rattle.cse_image_parts.specs.declared.entries.Gift.TheVariants as gifts
use Rattle.cse_image_parts.specs.declared.entries.Local.{Local}
use Rattle.cse_image_parts.specs.declared.entries.LocalKind.{LocalKind}
use Rattle.cse_image_parts.specs.declared.entries.LocalKind.TheVariants as locals
use Rattle.cse_image_parts.specs.Image.{RoutineLists}
use Rattle.cse_case.specs.Case.{CaseText}
use Rattle.cse_code_typing.specs.declared.kind.Kind.TheVariants as kind
use Rattle.cse_code_typing.specs.Kinds.{kind_by}
use Rattle.cse_code_typing.specs.Order.{is_run}
use Rattle.cse_compile.specs.Wide.{with_c}
use Rattle.cse_steps.specs.Cell.{Cell, Number}
use Rattle.cse_steps.specs.State.{Call, World}
use Rattle.cse_steps.specs.Operands.{taken_by_kind, arguments_onto, arguments_taken}
use Rattle.cse_steps.specs.Step.{called, new_call}
use Rattle.cse_steps.specs.Fits.{FitsWorld}
use Rattle.cse_steps.specs.Laws.{RunsCompose}
use Rattle.cse_meaning.specs.Setting.{Functions}
use Rattle.cse_meaning.specs.Runs.{Goes, Spot, at, IsThere, HasCode}
use Rattle.cse_meaning.specs.Follows.{Follows, AreNumbers, called_above}
use Rattle.cse_meaning.proofs.Reversed.{onto, in_reverse}
use Rattle.cse_meaning.proofs.Going.{plain_at, then_goes}

-- put there one after the other
abbrev pub pushed : List Num → List Cell → List Cell
pushed [] cells = cells
pushed (x ∷ xs) cells = pushed xs (Number x ∷ cells)

-- ---- arguments

number_taken : (k : LocalKind) (owner n : ℕ) (x : Num) → kind_by k owner ≡ kind.Number → taken_by_kind k owner n (Number x) ≡ Some (Number x)
number_taken locals.Number owner n x e = refl
number_taken locals.Text owner n x e = cc
number_taken locals.Occurrence owner n x e = cc

taken_on : (ls rest : List Local) (args : List Num) (cells taken : List Cell) → AreNumbers ls args → arguments_onto (onto ls rest) (pushed args cells) taken ≡ arguments_onto rest cells (map Number args ++ taken)
taken_on [] rest [] cells taken are = refl
taken_on [] rest (x ∷ args) cells taken are = absurd are
taken_on (l ∷ ls) rest [] cells taken are = absurd are
taken_on (l ∷ ls) rest (x ∷ args) cells taken are =
    taken_on ls (l ∷ rest) args (Number x ∷ cells) taken are.1
    ∙ ap (option_and_then (λ y. arguments_onto rest cells (y ∷ (map Number args ++ taken)))) (number_taken l.kind l.owner l.length x are.0)

all_taken : (ls : List Local) (args : List Num) (cells : List Cell) → AreNumbers ls args → arguments_taken ls (pushed args cells) ≡ Some (map Number args, cells)
all_taken ls args cells are =
    ap (λ l. arguments_onto l (pushed args cells) []) (sym (in_reverse ls))
    ∙ (taken_on ls [] args cells [] are
    ∙ ap (λ (l : List Cell). Some (l, cells)) (append-nil (map Number args)))

-- a call of a function with its arguments on the stack comes back with its value there
module _ (compose : RunsCompose) (s : Spot) (there : IsThere s) (first : Option CaseText) (fn : Functions) (follows : Follows s.program first fn s.number) where
  pub call_goes : (k p : ℕ) (y : RoutineLists) (args : List Num) (cells : List Cell) (w : World) → k < s.number → slice_get s.program.image.lists.routines k ≡ Some y → y.gives ≡ gifts.Number
      → AreNumbers (take y.parameters y.locals) args → (is_run y.ambient ≡ false → is_some first ≡ true) → FitsWorld s.program first w → HasCode s p (with_c ops.Call k ∷ [])
      → Goes s.program (at s p (pushed args cells) w) (at s (p + 1) (Number (fn k args w).0 ∷ cells) (fn k args w).1)
  call_goes k p y args cells w below is gives are ambient fits has =
      let c : Call = record { routine = s.number; place = p; locals = s.locals; cells = pushed args cells; opens = s.opens } in
      let caller : Call = record { routine = s.number; place = p + 1; locals = s.locals; cells = cells; opens = s.opens } in
      let g = plain_at compose s there p ops.Call 0 0 k (pushed args cells) w (called_above k y args caller s.below w) has
      (ap (λ (o : Option RoutineLists). option_and_then (called c s.below w k) o) is
      ∙ ap (λ (o : Option (List Cell × List Cell)). option_map (λ (x : List Cell × List Cell). record { calls = new_call k y x.0 ∷ (record c { place = p + 1; cells = x.1 }) ∷ s.below; world = w }) o) (all_taken (take y.parameters y.locals) args cells are)) in
      then_goes compose s there _ _ _ g (follows.goes k y args caller s.below w below is gives are ambient fits)
