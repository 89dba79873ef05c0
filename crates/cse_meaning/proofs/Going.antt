-- Runs of one instruction, and runs one after the other.
use Rattle.std.proofs.Common.{◌≡◌, ℕ, zero, suc, ◌+◌, ℤ, List, [], ◌∷◌, ◌++◌, length, Option, Some, refl, ap, ◌∙◌, subst, arith}
use Rattle.std.specs.Prelude.{slice_get, option_and_then, option_map}
use Rattle.std.specs.Str.{chars}
use Rattle.cse_value.specs.declared.number.Num.{Num}
use Rattle.cse_value.specs.declared.number.Num.TheVariants.{Whole, NotAppl, Missing, Undef}
use Rattle.cse_value.specs.Number.{holds}
use Rattle.cse_value.specs.Texts.{holds_of_order, text_order}
use Rattle.cse_image_parts.specs.declared.instruction.Op.{Op}
use Rattle.cse_image_parts.specs.declared.instruction.Op.TheVariants as ops
use Rattle.cse_image_parts.specs.declared.instruction.Instr.{Instr}
use Rattle.cse_image_parts.specs.Image.{Lists}
use Rattle.cse_decks.specs.declared.global.GlobalValue.{GlobalValue}
use Rattle.cse_code_typing.specs.Code.{code_of}
use Rattle.cse_verify.specs.Verified.{VerifiedProgram}
use Rattle.cse_syntax_tree.specs.declared.tree.Operator.{Operator}
use Rattle.cse_syntax_tree.specs.declared.tree.Operator.TheVariants as operators
use Rattle.cse_syntax_tree.specs.declared.tree.Relation.{Relation}
use Rattle.cse_syntax_tree.specs.declared.tree.Relation.TheVariants as relations
use Rattle.cse_syntax_tree.specs.declared.tree.Special.{Special}
use Rattle.cse_syntax_tree.specs.declared.tree.Special.TheVariants as specials
use Rattle.cse_compile.specs.Wide as wide
use Rattle.cse_compile.specs.Wide.{Wide, bare, with_a, with_c}
use Rattle.cse_compile.specs.Expressions.{special_number, relation_number, operation_of}
use Rattle.cse_steps.specs.Cell.{Cell, Number, Words}
use Rattle.cse_steps.specs.State.{Call, World, State}
use Rattle.cse_steps.specs.Operands as operands
use Rattle.cse_steps.specs.Operands.{combined, cell_of}
use Rattle.cse_steps.specs.Step.{step, stepped, acts, on}
use Rattle.cse_steps.specs.Run.{run}
use Rattle.cse_steps.specs.Laws.{RunsCompose}
use Rattle.cse_meaning.specs.Reading as reading
use Rattle.cse_meaning.specs.Reading.{special, one_if, rel, operated}
use Rattle.cse_meaning.specs.Runs.{Goes, RunsJoin, Spot, at, IsThere, StandAt, HasCode}

pub joined : RunsCompose → RunsJoin
joined compose v s t u a b = record { steps = a.steps + b.steps; by = compose v a.steps b.steps s ∙ (ap (option_and_then (run v b.steps)) a.by ∙ b.by) }

pub stays : (v : VerifiedProgram) (s t : State) → s ≡ t → Goes v s t
unfolding run
stays v s t e = record { steps = 0; by = ap Some e }

pub one : (v : VerifiedProgram) (s t : State) → step v s ≡ Some t → Goes v s t
unfolding run
one v s t e = record { steps = suc zero; by = e }

-- ---- code, part by part

pub stand_front : (x : Lists) (code : List Instr) (p : ℕ) (a b : List Wide) → StandAt x code p (a ++ b) → StandAt x code p a
stand_front x code p [] b h = tt
stand_front x code p (w ∷ a) b h = (h.0, stand_front x code (p + 1) a b h.1)

stand_behind : (x : Lists) (code : List Instr) (p : ℕ) (a b : List Wide) → StandAt x code p (a ++ b) → StandAt x code (p + length a) b
stand_behind x code p [] b h = let e : p ≡ p + 0 = omega arith in subst (λ n. StandAt x code n b) e h
stand_behind x code p (w ∷ a) b h =
    let e : p + 1 + length a ≡ p + length (w ∷ a) = omega arith in
    subst (λ n. StandAt x code n b) e (stand_behind x code (p + 1) a b h.1)

pub stand_back : (x : Lists) (code : List Instr) (p n : ℕ) (a b : List Wide) → length a ≡ n → StandAt x code p (a ++ b) → StandAt x code (p + n) b
stand_back x code p n a b e h = subst (λ n. StandAt x code (p + n) b) e (stand_behind x code p a b h)

same_special : (x : Num) → operands.is_special x ≡ reading.is_special x
same_special (Whole z) = refl
same_special NotAppl = refl
same_special Missing = refl
same_special Undef = refl

-- ---- one instruction

-- the state behind an instruction, by what it leaves of its call
abbrev pub left : List Call → Option (Call × World) → Option State
left below o = option_map (λ (r : Call × World). record { calls = r.0 ∷ below; world = r.1 }) o

module _ (compose : RunsCompose) (s : Spot) (there : IsThere s) where
  pub acts_at : (p : ℕ) (i : Instr) (cells : List Cell) (w : World) (t : State) → slice_get (code_of s.program.image s.number) p ≡ Some i → stepped s.program s.routine (record { routine = s.number; place = p; locals = s.locals; cells = cells; opens = s.opens }) s.below w i.op i ≡ Some t → Goes s.program (at s p cells w) t
  acts_at p i cells w t h e =
      let c : Call = record { routine = s.number; place = p; locals = s.locals; cells = cells; opens = s.opens } in
      one s.program (at s p cells w) t
      (ap (λ o. option_and_then (λ y. option_and_then (λ i. stepped s.program y c s.below w i.op i) (slice_get (code_of s.program.image s.number) p)) o) there
      ∙ (ap (λ o. option_and_then (λ i. stepped s.program s.routine c s.below w i.op i) o) h ∙ e))

  -- an instruction as it stands in the image
  pub plain_at : (p : ℕ) (op : Op) (a b k : ℕ) (cells : List Cell) (w : World) (t : State) → HasCode s p (wide.Plain op a b k ∷ []) → stepped s.program s.routine (record { routine = s.number; place = p; locals = s.locals; cells = cells; opens = s.opens }) s.below w op (record { op = op; a = a; b = b; c = k }) ≡ Some t → Goes s.program (at s p cells w) t
  plain_at p op a b k cells w t has e = acts_at p (record { op = op; a = a; b = b; c = k }) cells w t (has.0.1 ∙ ap Some has.0.2) e

  -- the place under another name
  pub named : (p q : ℕ) (u : State) (cells : List Cell) (w : World) → p ≡ q → Goes s.program u (at s p cells w) → Goes s.program u (at s q cells w)
  named p q u cells w e g = subst (λ p. Goes s.program u (at s p cells w)) e g

  pub then_goes : (a b c : State) → Goes s.program a b → Goes s.program b c → Goes s.program a c
  then_goes a b c g h = joined compose s.program a b c g h

  pub constant_goes : (p : ℕ) (z : ℤ) (cells : List Cell) (w : World) → HasCode s p (wide.Constant z ∷ []) → Goes s.program (at s p cells w) (at s (p + 1) (Number (Whole z) ∷ cells) w)
  unfolding acts
  constant_goes p z cells w has =
      let i = has.0.0 in
      let c : Call = record { routine = s.number; place = p; locals = s.locals; cells = cells; opens = s.opens } in
      acts_at p i cells w _ has.0.1
      (ap (λ op. stepped s.program s.routine c s.below w op i) has.0.2.0
      ∙ ap (λ (o : Option ℤ). left s.below (option_and_then (λ z. on c w (Number (Whole z) ∷ cells)) o)) has.0.2.1)

  pub chars_goes : (p : ℕ) (text : List ℕ) (cells : List Cell) (w : World) → HasCode s p (wide.Chars text ∷ []) → Goes s.program (at s p cells w) (at s (p + 1) (Words (chars text) ∷ cells) w)
  unfolding acts
  chars_goes p text cells w has =
      let i = has.0.0 in
      let c : Call = record { routine = s.number; place = p; locals = s.locals; cells = cells; opens = s.opens } in
      acts_at p i cells w _ has.0.1
      (ap (λ op. stepped s.program s.routine c s.below w op i) has.0.2.0
      ∙ ap (λ (o : Option (List ℕ)). left s.below (option_and_then (λ t. on c w (Words (chars t) ∷ cells)) o)) has.0.2.1)

  pub special_goes : (p : ℕ) (x : Special) (cells : List Cell) (w : World) → HasCode s p (with_a ops.Special (special_number x) ∷ []) → Goes s.program (at s p cells w) (at s (p + 1) (Number (special x) ∷ cells) w)
  unfolding acts
  special_goes p specials.NotAppl cells w has = plain_at p ops.Special 0 0 0 cells w _ has refl
  special_goes p specials.Missing cells w has = plain_at p ops.Special 1 0 0 cells w _ has refl
  special_goes p specials.Default cells w has = plain_at p ops.Special 2 0 0 cells w _ has refl

  -- a local, whatever it is
  pub local_goes : (p k : ℕ) (x : Cell) (cells : List Cell) (w : World) → slice_get s.locals k ≡ Some x → HasCode s p (with_c ops.LoadLocal k ∷ []) → Goes s.program (at s p cells w) (at s (p + 1) (x ∷ cells) w)
  unfolding acts
  local_goes p k x cells w e has =
      let c : Call = record { routine = s.number; place = p; locals = s.locals; cells = cells; opens = s.opens } in
      plain_at p ops.LoadLocal 0 0 k cells w _ has (ap (λ (o : Option Cell). left s.below (option_and_then (λ x. on c w (x ∷ cells)) o)) e)

  -- a global, whatever it is
  pub global_goes : (p g : ℕ) (x : GlobalValue) (cells : List Cell) (w : World) → slice_get w.store.globals g ≡ Some x → HasCode s p (with_c ops.LoadGlobal g ∷ []) → Goes s.program (at s p cells w) (at s (p + 1) (cell_of x ∷ cells) w)
  unfolding acts
  global_goes p g x cells w e has =
      let c : Call = record { routine = s.number; place = p; locals = s.locals; cells = cells; opens = s.opens } in
      plain_at p ops.LoadGlobal 0 0 g cells w _ has (ap (λ (o : Option GlobalValue). left s.below (option_and_then (λ g. on c w (cell_of g ∷ cells)) o)) e)

  pub compared_goes : (relation : Relation) (p : ℕ) (x y : Num) (cells : List Cell) (w : World) → HasCode s p (with_a ops.Compare (relation_number relation) ∷ []) → Goes s.program (at s p (Number y ∷ Number x ∷ cells) w) (at s (p + 1) (Number (one_if (holds (rel relation) x y)) ∷ cells) w)
  unfolding acts combined
  compared_goes relations.Equal p x y cells w has = plain_at p ops.Compare 0 0 0 _ w _ has refl
  compared_goes relations.Differs p x y cells w has = plain_at p ops.Compare 1 0 0 _ w _ has refl
  compared_goes relations.Less p x y cells w has = plain_at p ops.Compare 2 0 0 _ w _ has refl
  compared_goes relations.AtMost p x y cells w has = plain_at p ops.Compare 3 0 0 _ w _ has refl
  compared_goes relations.More p x y cells w has = plain_at p ops.Compare 4 0 0 _ w _ has refl
  compared_goes relations.AtLeast p x y cells w has = plain_at p ops.Compare 5 0 0 _ w _ has refl

  pub texts_compared_goes : (relation : Relation) (p : ℕ) (x y : List ℕ) (cells : List Cell) (w : World) → HasCode s p (with_a ops.CompareText (relation_number relation) ∷ []) → Goes s.program (at s p (Words y ∷ Words x ∷ cells) w) (at s (p + 1) (Number (one_if (holds_of_order (rel relation) (text_order x y))) ∷ cells) w)
  unfolding acts
  texts_compared_goes relations.Equal p x y cells w has = plain_at p ops.CompareText 0 0 0 _ w _ has refl
  texts_compared_goes relations.Differs p x y cells w has = plain_at p ops.CompareText 1 0 0 _ w _ has refl
  texts_compared_goes relations.Less p x y cells w has = plain_at p ops.CompareText 2 0 0 _ w _ has refl
  texts_compared_goes relations.AtMost p x y cells w has = plain_at p ops.CompareText 3 0 0 _ w _ has refl
  texts_compared_goes relations.More p x y cells w has = plain_at p ops.CompareText 4 0 0 _ w _ has refl
  texts_compared_goes relations.AtLeast p x y cells w has = plain_at p ops.CompareText 5 0 0 _ w _ has refl

  pub operated_goes : (operator : Operator) (p : ℕ) (x y : Num) (cells : List Cell) (w : World) → HasCode s p (bare (operation_of operator) ∷ []) → Goes s.program (at s p (Number y ∷ Number x ∷ cells) w) (at s (p + 1) (Number (operated operator x y) ∷ cells) w)
  unfolding acts combined
  operated_goes operators.Or p x y cells w has = plain_at p ops.Or 0 0 0 _ w _ has refl
  operated_goes operators.And p x y cells w has = plain_at p ops.And 0 0 0 _ w _ has refl
  operated_goes operators.Add p x y cells w has = plain_at p ops.Add 0 0 0 _ w _ has refl
  operated_goes operators.Subtract p x y cells w has = plain_at p ops.Subtract 0 0 0 _ w _ has refl
  operated_goes operators.Multiply p x y cells w has = plain_at p ops.Multiply 0 0 0 _ w _ has refl
  operated_goes operators.Divide p x y cells w has = plain_at p ops.Quotient 0 0 0 _ w _ has refl
  operated_goes operators.Remainder p x y cells w has = plain_at p ops.Remainder 0 0 0 _ w _ has refl

  pub special_tested : (p : ℕ) (x : Num) (cells : List Cell) (w : World) → HasCode s p (bare ops.IsSpecial ∷ []) → Goes s.program (at s p (Number x ∷ cells) w) (at s (p + 1) (Number (one_if (reading.is_special x)) ∷ cells) w)
  unfolding acts
  special_tested p x cells w has =
      subst (λ b. Goes s.program (at s p (Number x ∷ cells) w) (at s (p + 1) (Number (one_if b) ∷ cells) w)) (same_special x) (plain_at p ops.IsSpecial 0 0 0 _ w _ has refl)
