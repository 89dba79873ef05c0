-- What stands ready for code: its routine, its call and its world, as the meaning sees them.
use Rattle.std.specs.Prelude.{◌≡◌, ◌<◌, ◌≤◌, ℕ, ◌==◌, true, false, List, ◌∷◌, length, map, Option, Some, slice_get, is_some}
use Rattle.std.specs.List.{list_any}
use Rattle.cse_value.specs.declared.number.Num.{Num}
use Rattle.cse_image_parts.specs.Image.{ArrayLists}
use Rattle.cse_dict.specs.Dictionary.{DictionaryText, shape_of, row_in, spans_at}
use Rattle.cse_case.specs.Case.{CaseText}
use Rattle.cse_code_typing.specs.declared.kind.Kind.TheVariants as kind
use Rattle.cse_code_typing.specs.Order.{is_run}
use Rattle.cse_code_typing.specs.Signature.{local_at, rows_of}
use Rattle.cse_code_typing.specs.Typed.{scene_of}
use Rattle.cse_compile.specs.Setting.{Setting, result_local}
use Rattle.cse_meaning.specs.Fit as fit
use Rattle.cse_steps.specs.Cell.{Cell, Number, Occurrence}
use Rattle.cse_steps.specs.State.{Open, World}
use Rattle.cse_steps.specs.Operands.{is_within}
use Rattle.cse_steps.specs.Step.{current}
use Rattle.cse_steps.specs.Fits.{FitsWorld, occurrences_in}
use Rattle.cse_meaning.specs.Setting.{Context, Locals, turn_of}
use Rattle.cse_meaning.specs.Runs.{Goes, Spot, at, IsThere}

-- where a tree of the routine has to fit the tables, within the `for`s that are open
abbrev pub place_in : Setting → Spot → Context → fit.Spot
place_in e s c = record { scene = scene_of (shape_of s.program.dictionary) s.program.image s.routine; number = s.number; setting = e; loops = map (λ x. x.0) c.loops }

-- a row that is found is one of the set
abbrev pub KeepsRows : DictionaryText → Type 0
KeepsRows d = (set n i : ℕ) (x : Num) → rows_of (shape_of d) set ≡ Some n → row_in x (spans_at d set) ≡ Some i → i < n

-- the innermost bracket over each record of a `for` is at the occurrence of its turn, which is there
abbrev pub AreOpen : Option CaseText → List Open → List (ℕ × ℕ) → Type 0
AreOpen first opens loops =
    (of : ℕ) → list_any (λ o. o == of) (map (λ x. x.0) loops) ≡ true → (current of opens ≡ Some (turn_of of loops)) × (is_within (occurrences_in first of) (turn_of of loops) ≡ true)

-- The meaning is of this program, and of this call of the routine. A routine of cases has a case.
pub record IsLaid (e : Setting) (s : Spot) (c : Context) (first : Option CaseText) (ls : Locals) : Type 0 where
  pub there : IsThere s
  pub dictionary : c.dictionary ≡ s.program.dictionary
  pub arrays : c.arrays ≡ map (λ (x : ArrayLists). x.dimensions) s.program.image.lists.arrays
  pub records : e.records ≡ (shape_of s.program.dictionary).records
  pub ambient : is_run s.routine.ambient ≡ false → is_some first ≡ true
  -- the call holds the parameters, and behind them the result
  pub parameters : (k : ℕ) (x : Num) → slice_get ls.parameters k ≡ Some x → slice_get s.locals k ≡ Some (Number x)
  pub apart : length ls.parameters ≤ result_local e
  pub result : local_at s.routine (result_local e) ≡ Some kind.Number → slice_get s.locals (result_local e) ≡ Some (Number ls.result)
  -- the event's occurrence is there
  pub event : (of : ℕ) → local_at s.routine 0 ≡ Some (kind.Occurrence of) → (slice_get s.locals 0 ≡ Some (Occurrence c.event of)) × (is_within (occurrences_in first of) c.event ≡ true)
  pub loops : AreOpen first s.opens c.loops

-- a run leads from one place to the other, with a cell more on the stack, and to a world that fits
pub record Gives (s : Spot) (first : Option CaseText) (p q : ℕ) (cells : List Cell) (w : World) (x : Cell) (next : World) : Type 0 where
  pub goes : Goes s.program (at s p cells w) (at s q (x ∷ cells) next)
  pub fits : FitsWorld s.program first next
