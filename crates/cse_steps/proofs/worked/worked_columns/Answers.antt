use Rattle.std.proofs.Common.{◌≡◌, ℕ, ◌≤◌, List, [], ◌∷◌, Some, refl, sym, ap, ◌∙◌, subst, arith}
use Rattle.std.specs.Prelude.{slice_get}
use Rattle.std.proofs.lemmas.Option.{same_Some}
use Rattle.cse_value.specs.declared.shape.ItemShape.{ItemShape}
use Rattle.cse_value.specs.declared.shape.ItemKind.TheVariants as kinds
use Rattle.cse_value.specs.declared.number.Num.TheVariants.{NotAppl}
use Rattle.cse_value.specs.Field.{put}
use Rattle.cse_image_parts.specs.declared.instruction.Instr.{Instr}
use Rattle.cse_image_parts.specs.declared.instruction.Op.TheVariants as ops
use Rattle.cse_dict.specs.Dictionary.{shape_of}
use Rattle.cse_case.specs.Case.{CaseText, place_of, places_of, with_number}
use Rattle.cse_case.specs.Field.{HasColumn}
use Rattle.cse_case.specs.Seen.{occurrence_places}
use Rattle.cse_code_typing.specs.Code.{code_of}
use Rattle.cse_steps.specs.Cell.{Cell, Number, Occurrence}
use Rattle.cse_steps.specs.State.{Call, State}
use Rattle.cse_steps.specs.Step.{acts}
use Rattle.cse_steps.specs.Run.{first, run}
use Rattle.cse_steps.specs.Columns.{WritesColumn}
use Rattle.cse_steps.specs.Worked.{instr}
use Rattle.cse_steps.specs.WorkedColumns.{aged_persons, blanking, two_persons}
use Rattle.cse_steps.proofs.worked.worked_columns.Goals as goal

abbrev age : ItemShape
age = record { owner = 0; kind = kinds.Number; len = 2; start = 2 }

-- the call before the fourth step
abbrev here : Call
here = record { routine = 0; place = 3; locals = []; cells = Number NotAppl ∷ Occurrence 2 0 ∷ []; opens = [] }

same_call : (a b : Call) (xs ys : List Call) → a ∷ xs ≡ b ∷ ys → a ≡ b
same_call a b xs ys e = cc

same_record : (x y : Cell) (o p r s : ℕ) (xs ys : List Cell) → x ∷ Occurrence o r ∷ xs ≡ y ∷ Occurrence p s ∷ ys → (o ≡ p) × (r ≡ s)
same_record x y o p r s xs ys e = (cc, cc)

module _ (s : State) (place column : ℕ) (calls : s.calls ≡ here ∷ []) (case : s.world.case ≡ Some two_persons) (w : WritesColumn blanking s place column) where
  call_is : here ≡ w.call
  call_is = same_call here w.call [] w.below (sym calls ∙ w.innermost)

  stack_is : (2 ≡ w.occurrence) × (0 ≡ w.item.owner)
  stack_is = same_record (Number NotAppl) w.value 2 w.occurrence 0 w.item.owner [] w.rest (ap (λ (c : Call). c.cells) call_is ∙ w.stack)

  -- it is the second line
  second : place ≡ 1
  unfolding place_of places_of occurrence_places
  second =
      w.line ∙ (ap (λ (t : CaseText). place_of t w.item.owner w.occurrence) (same_Some _ _ (sym w.case_is ∙ case))
      ∙ (ap (λ r. place_of two_persons r w.occurrence) (sym stack_is.1) ∙ ap (λ o. place_of two_persons 0 o) (sym stack_is.0)))

  -- and one of the item's columns
  instr_is : instr ops.StoreNumber 0 0 0 ≡ w.instr
  unfolding code_of
  instr_is = same_Some _ _ (ap (λ (c : Call). slice_get (code_of blanking.image c.routine) c.place) call_is ∙ w.next)

  behind : 1 ≤ column
  behind =
      let item : age ≡ w.item = same_Some _ _ (ap (λ (i : Instr). slice_get (shape_of aged_persons).items i.c) instr_is ∙ w.named) in
      let covers : HasColumn age column = subst (λ (i : ItemShape). HasColumn i column) (sym item) w.covers in
      let low = covers.0 in
      omega arith

pub returns : goal.returns
unfolding run first acts code_of places_of place_of occurrence_places with_number put
returns c = record {
  before = refl;
  after = refl;
  first_column = record { call = here; below = []; innermost = refl; instr = instr ops.StoreNumber 0 0 0; next = refl; writes = refl; item = age; named = refl; covers = (omega arith, omega arith); value = Number NotAppl; occurrence = 2; rest = []; stack = refl; case = two_persons; case_is = refl; there = (omega arith, omega arith); line = refl };
  last_column = record { call = here; below = []; innermost = refl; instr = instr ops.StoreNumber 0 0 0; next = refl; writes = refl; item = age; named = refl; covers = (omega arith, omega arith); value = Number NotAppl; occurrence = 2; rest = []; stack = refl; case = two_persons; case_is = refl; there = (omega arith, omega arith); line = refl };
  not_type = λ w. let low = behind _ 1 0 refl refl w in absurd (omega arith);
  not_other_line = λ w. let one = second _ 0 1 refl refl w in absurd (omega arith);
}
