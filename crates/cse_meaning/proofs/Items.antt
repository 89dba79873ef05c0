-- The code of what is read of a case does what it means.
use Rattle.std.proofs.Common.{◌≡◌, ℕ, ◌+◌, true, List, [], ◌∷◌, length, Option, Some, None, refl, sym, ap, ◌∙◌, subst, arith}
use Rattle.std.specs.Prelude.{pos, option_and_then, option_map, if◌then◌else◌, ◌&&◌, ◌==◌}
use Rattle.std.specs.Option.{option_map_or}
use Rattle.std.proofs.lemmas.Bool.{and_from, eq-eqb, le-leb}
use Rattle.cse_value.specs.declared.number.Num.{Num}
use Rattle.cse_value.specs.declared.number.Num.TheVariants.{Whole, NotAppl, Missing, Undef}
use Rattle.cse_value.specs.declared.shape.ItemShape.{ItemShape}
use Rattle.cse_image_parts.specs.declared.instruction.Op.TheVariants as ops
use Rattle.cse_dict.specs.Dictionary.{shape_of}
use Rattle.cse_case.specs.Case.{CaseText, places_of, place_of, number_at, text_at}
use Rattle.cse_code_typing.specs.Signature.{id_number, id_text, number_item, text_item, is_record}
use Rattle.cse_logic_tree.specs.declared.tree.Found.{Found}
use Rattle.cse_logic_tree.specs.declared.tree.Found.TheVariants as h
use Rattle.cse_compile.specs.Wide.{Wide, with_a, with_c}
use Rattle.cse_compile.specs.Setting.{Setting}
use Rattle.cse_compile.specs.Expressions.{guarded, here_size, here_code}
use Rattle.cse_meaning.specs.Fit.{IsFound}
use Rattle.cse_steps.specs.Cell.{Cell, Number, Words, Occurrence}
use Rattle.cse_steps.specs.State.{Call, World}
use Rattle.cse_steps.specs.Operands.{is_within, whole_within}
use Rattle.cse_steps.specs.Step.{acts, on, or_to, read, current}
use Rattle.cse_steps.specs.Operands.{with_occurrence}
use Rattle.cse_steps.specs.Fits.{FitsWorld}
use Rattle.cse_steps.specs.Laws.{RunsCompose}
use Rattle.cse_steps.proofs.Numbers.{whole_is_within}
use Rattle.cse_meaning.specs.Setting.{Context, Locals, turn_of}
use Rattle.cse_meaning.specs.Reading.{many, one_of, number_of_one, found}
use Rattle.cse_meaning.specs.Runs.{Goes, Spot, at, IsThere, HasCode}
use Rattle.cse_meaning.specs.Laid.{IsLaid, place_in}
use Rattle.cse_meaning.proofs.Going.{left, plain_at, named, then_goes, constant_goes, local_goes}
use Rattle.cse_meaning.proofs.Facts.{many_of, as_first}

pub same_within : (n : ℕ) (x : Num) → number_of_one n x ≡ whole_within n x
same_within n (Whole (pos i)) = refl
same_within n (Whole z) = refl
same_within n NotAppl = refl
same_within n Missing = refl
same_within n Undef = refl

-- a function of what is there, or of what stands in its place
pub map_out : {X Y : Type 0} (f : X → Y) (g : ℕ → X) (o : Option ℕ) (d : X) → option_map_or (λ i. f (g i)) o (f d) ≡ f (option_map_or g o d)
map_out f g None d = refl
map_out f g (Some i) d = refl

pub within_both : (of n i : ℕ) → is_within n i ≡ true → ((of == of) && is_within n i) ≡ true
within_both of n i h = and_from _ _ (eq-eqb of of refl) h

pub is_within_from : (n : ℕ) (x : Num) (i : ℕ) → whole_within n x ≡ Some i → is_within n i ≡ true
is_within_from n x i e =
    let w = whole_is_within n x i e in
    and_from _ _ (le-leb 1 i w.0) (le-leb i n w.1)

-- in this world, which has this case, the instruction takes an occurrence of the record from the stack and leaves this cell
abbrev pub Takes : Spot → World → CaseText → ℕ → Wide → (ℕ → Cell) → Type 0
Takes s w t of taken value =
    (p o : ℕ) (cells : List Cell) → is_within (length (places_of t of)) o ≡ true → HasCode s p (taken ∷ []) → Goes s.program (at s p (Occurrence o of ∷ cells) w) (at s (p + 1) (value o ∷ cells) w)

-- the instruction leaves this cell
abbrev pub Leaves : Spot → World → Wide → Cell → Type 0
Leaves s w none other = (p : ℕ) (cells : List Cell) → HasCode s p (none ∷ []) → Goes s.program (at s p cells w) (at s (p + 1) (other ∷ cells) w)

module _ (compose : RunsCompose) (s : Spot) (there : IsThere s) (w : World) (t : CaseText) (is : w.case ≡ Some t) where
  abbrev call_at : ℕ → List Cell → Call
  call_at p cells = record { routine = s.number; place = p; locals = s.locals; cells = cells; opens = s.opens }

  -- ---- id items and totals

  pub id_number_goes : (p k : ℕ) (x : ItemShape) (cells : List Cell) → id_number (shape_of s.program.dictionary) k ≡ Some x → HasCode s p (with_c ops.IdNumber k ∷ []) → Goes s.program (at s p cells w) (at s (p + 1) (Number (number_at t 0 k) ∷ cells) w)
  unfolding acts
  id_number_goes p k x cells e has =
      plain_at compose s there p ops.IdNumber 0 0 k cells w _ has
      (ap (λ o. left s.below (option_and_then (λ t. option_and_then (λ (x : ItemShape). on (call_at p cells) w (Number (number_at t 0 k) ∷ cells)) (id_number (shape_of s.program.dictionary) k)) o)) is
      ∙ ap (λ o. left s.below (option_and_then (λ (x : ItemShape). on (call_at p cells) w (Number (number_at t 0 k) ∷ cells)) o)) e)

  pub id_text_goes : (p k : ℕ) (x : ItemShape) (cells : List Cell) → id_text (shape_of s.program.dictionary) k ≡ Some x → HasCode s p (with_c ops.IdText k ∷ []) → Goes s.program (at s p cells w) (at s (p + 1) (Words (text_at t 0 k) ∷ cells) w)
  unfolding acts
  id_text_goes p k x cells e has =
      plain_at compose s there p ops.IdText 0 0 k cells w _ has
      (ap (λ o. left s.below (option_and_then (λ t. option_and_then (λ (x : ItemShape). on (call_at p cells) w (Words (text_at t 0 k) ∷ cells)) (id_text (shape_of s.program.dictionary) k)) o)) is
      ∙ ap (λ o. left s.below (option_and_then (λ (x : ItemShape). on (call_at p cells) w (Words (text_at t 0 k) ∷ cells)) o)) e)

  pub total_goes : (p of : ℕ) (cells : List Cell) → is_record (shape_of s.program.dictionary) of ≡ true → HasCode s p (with_a ops.TotalOccurrences of ∷ []) → Goes s.program (at s p cells w) (at s (p + 1) (Number (Whole (pos (length (places_of t of)))) ∷ cells) w)
  unfolding acts
  total_goes p of cells e has =
      plain_at compose s there p ops.TotalOccurrences of 0 0 cells w _ has
      (ap (λ o. left s.below (option_and_then (λ t. if is_record (shape_of s.program.dictionary) of then on (call_at p cells) w (Number (Whole (pos (length (places_of t of)))) ∷ cells) else None) o)) is
      ∙ ap (λ b. left s.below (if b then on (call_at p cells) w (Number (Whole (pos (length (places_of t of)))) ∷ cells) else None)) e)

  -- ---- what takes an occurrence

  pub item_number_goes : (k : ℕ) (x : ItemShape) → number_item (shape_of s.program.dictionary) k ≡ Some x → Takes s w t x.owner (with_c ops.ItemNumber k) (λ o. Number (number_at t (place_of t x.owner o) k))
  unfolding acts
  item_number_goes k x e p o cells h has =
      plain_at compose s there p ops.ItemNumber 0 0 k (Occurrence o x.owner ∷ cells) w _ has
      (ap (λ i. left s.below (read (call_at p (Occurrence o x.owner ∷ cells)) w i (λ t r o. Number (number_at t (place_of t r o) k)))) e
      ∙ (ap (λ a. left s.below (option_and_then (λ t. with_occurrence x.owner (length (places_of t x.owner)) (Occurrence o x.owner ∷ cells) (λ o rest. on (call_at p (Occurrence o x.owner ∷ cells)) w (Number (number_at t (place_of t x.owner o) k) ∷ rest))) a)) is
      ∙ ap (λ b. left s.below (if b then on (call_at p (Occurrence o x.owner ∷ cells)) w (Number (number_at t (place_of t x.owner o) k) ∷ cells) else None)) (within_both x.owner (length (places_of t x.owner)) o h)))

  pub item_text_goes : (k : ℕ) (x : ItemShape) → text_item (shape_of s.program.dictionary) k ≡ Some x → Takes s w t x.owner (with_c ops.ItemText k) (λ o. Words (text_at t (place_of t x.owner o) k))
  unfolding acts
  item_text_goes k x e p o cells h has =
      plain_at compose s there p ops.ItemText 0 0 k (Occurrence o x.owner ∷ cells) w _ has
      (ap (λ i. left s.below (read (call_at p (Occurrence o x.owner ∷ cells)) w i (λ t r o. Words (text_at t (place_of t r o) k)))) e
      ∙ (ap (λ a. left s.below (option_and_then (λ t. with_occurrence x.owner (length (places_of t x.owner)) (Occurrence o x.owner ∷ cells) (λ o rest. on (call_at p (Occurrence o x.owner ∷ cells)) w (Words (text_at t (place_of t x.owner o) k) ∷ rest))) a)) is
      ∙ ap (λ b. left s.below (if b then on (call_at p (Occurrence o x.owner ∷ cells)) w (Words (text_at t (place_of t x.owner o) k) ∷ cells) else None)) (within_both x.owner (length (places_of t x.owner)) o h)))

  pub occurrence_number_goes : (of : ℕ) → Takes s w t of (with_a ops.OccurrenceNumber of) (λ o. Number (Whole (pos o)))
  unfolding acts
  occurrence_number_goes of p o cells h has =
      plain_at compose s there p ops.OccurrenceNumber of 0 0 (Occurrence o of ∷ cells) w _ has
      (ap (λ a. left s.below (option_and_then (λ t. with_occurrence of (length (places_of t of)) (Occurrence o of ∷ cells) (λ o rest. on (call_at p (Occurrence o of ∷ cells)) w (Number (Whole (pos o)) ∷ rest))) a)) is
      ∙ ap (λ b. left s.below (if b then on (call_at p (Occurrence o of ∷ cells)) w (Number (Whole (pos o)) ∷ cells) else None)) (within_both of (length (places_of t of)) o h))

  pub current_goes : (p of o : ℕ) (cells : List Cell) → current of s.opens ≡ Some o → HasCode s p (with_a ops.CurrentOccurrence of ∷ []) → Goes s.program (at s p cells w) (at s (p + 1) (Occurrence o of ∷ cells) w)
  unfolding acts
  current_goes p of o cells e has =
      plain_at compose s there p ops.CurrentOccurrence of 0 0 cells w _ has
      (ap (λ a. left s.below (option_and_then (λ (t : CaseText). option_and_then (λ o. on (call_at p cells) w (Occurrence o of ∷ cells)) (current of s.opens)) a)) is
      ∙ ap (λ a. left s.below (option_and_then (λ o. on (call_at p cells) w (Occurrence o of ∷ cells)) a)) e)

  -- ---- a number as an occurrence, and what stands in its place where it is none

  module _ (of : ℕ) (there_is : is_record (shape_of s.program.dictionary) of ≡ true) (taken none : Wide) (value : ℕ → Cell) (other : Cell) (takes : Takes s w t of taken value) (leaves : Leaves s w none other) where
    guarded_by : (p : ℕ) (n : Num) (o : Option ℕ) (cells : List Cell) → whole_within (length (places_of t of)) n ≡ o → HasCode s p (guarded taken none of p) → Goes s.program (at s p (Number n ∷ cells) w) (at s (p + 4) (option_map_or value o other ∷ cells) w)
    unfolding acts
    guarded_by p n None cells e has =
        let g = plain_at compose s there p ops.Occurrence of 0 (p + 3) (Number n ∷ cells) w _ (has.0, tt)
        (ap (λ a. left s.below (option_and_then (λ (t : CaseText). if is_record (shape_of s.program.dictionary) of then or_to (call_at p (Number n ∷ cells)) w (p + 3) cells (option_map (λ o. Occurrence o of) (whole_within (length (places_of t of)) n)) else None) a)) is
        ∙ (ap (λ b. left s.below (if b then or_to (call_at p (Number n ∷ cells)) w (p + 3) cells (option_map (λ o. Occurrence o of) (whole_within (length (places_of t of)) n)) else None)) there_is
        ∙ ap (λ a. left s.below (or_to (call_at p (Number n ∷ cells)) w (p + 3) cells (option_map (λ o. Occurrence o of) a))) e)) in
        let q : p + 1 + 1 + 1 ≡ p + 3 = omega arith in
        let z : p + 3 + 1 ≡ p + 4 = omega arith in
        named compose s there _ _ _ _ _ z (then_goes compose s there _ _ _ g (leaves (p + 3) cells (subst (λ p. HasCode s p (none ∷ [])) q has.1.1.1)))
    guarded_by p n (Some i) cells e has =
        let g = plain_at compose s there p ops.Occurrence of 0 (p + 3) (Number n ∷ cells) w _ (has.0, tt)
        (ap (λ a. left s.below (option_and_then (λ (t : CaseText). if is_record (shape_of s.program.dictionary) of then or_to (call_at p (Number n ∷ cells)) w (p + 3) cells (option_map (λ o. Occurrence o of) (whole_within (length (places_of t of)) n)) else None) a)) is
        ∙ (ap (λ b. left s.below (if b then or_to (call_at p (Number n ∷ cells)) w (p + 3) cells (option_map (λ o. Occurrence o of) (whole_within (length (places_of t of)) n)) else None)) there_is
        ∙ ap (λ a. left s.below (or_to (call_at p (Number n ∷ cells)) w (p + 3) cells (option_map (λ o. Occurrence o of) a))) e)) in
        let k = takes (p + 1) i cells (is_within_from (length (places_of t of)) n i e) (has.1.0, tt) in
        let j = plain_at compose s there (p + 1 + 1) ops.Jump 0 0 (p + 4) (value i ∷ cells) w _ (has.1.1.0, tt) refl in
        then_goes compose s there _ _ _ g (then_goes compose s there _ _ _ k j)

    pub guarded_goes : (p : ℕ) (n : Num) (cells : List Cell) → HasCode s p (guarded taken none of p) → Goes s.program (at s p (Number n ∷ cells) w) (at s (p + 4) (option_map_or value (number_of_one (many w of) n) other ∷ cells) w)
    guarded_goes p n cells has =
        subst (λ o. Goes s.program (at s p (Number n ∷ cells) w) (at s (p + 4) (option_map_or value o other ∷ cells) w))
        (sym (ap (λ m. number_of_one m n) (many_of w t of is) ∙ same_within (length (places_of t of)) n))
        (guarded_by p n (whole_within (length (places_of t of)) n) cells refl has)

    module _ (e : Setting) (c : Context) (first : Option CaseText) (ls : Locals) (laid : IsLaid e s c first ls) (fits : FitsWorld s.program first w) where
      -- an occurrence that is there is found
      here_found : (o : ℕ) → is_within (length (places_of t of)) o ≡ true → one_of (many w of) o ≡ Some o
      here_found o h = ap (λ m. one_of m o) (many_of w t of is) ∙ ap (λ b. if b then Some o else None) h

      pub here_goes : (x : Found) (p : ℕ) (cells : List Cell) → IsFound (place_in e s c) of x → HasCode s p (here_code taken none of p x) → Goes s.program (at s p cells w) (at s (p + here_size x) (option_map_or value (found c w of x) other ∷ cells) w)
      here_goes h.Loop p cells fit has =
          let l = laid.loops of fit in
          let o = turn_of of c.loops in
          let h = subst (λ n. is_within n o ≡ true) (as_first s.program first w t of fits is) l.1 in
          let g = current_goes p of o cells l.0 (has.0, tt) in
          let k = takes (p + 1) o cells h (has.1.0, tt) in
          let z : p + 1 + 1 ≡ p + 2 = omega arith in
          subst (λ a. Goes s.program (at s p cells w) (at s (p + 2) (option_map_or value a other ∷ cells) w)) (sym (here_found o h))
          (named compose s there _ _ _ _ _ z (then_goes compose s there _ _ _ g k))
      here_goes h.Event p cells fit has =
          let l = laid.event of fit in
          let o = c.event in
          let h = subst (λ n. is_within n o ≡ true) (as_first s.program first w t of fits is) l.1 in
          let g = local_goes compose s there p 0 (Occurrence o of) cells w l.0 (has.0, tt) in
          let k = takes (p + 1) o cells h (has.1.0, tt) in
          let z : p + 1 + 1 ≡ p + 2 = omega arith in
          subst (λ a. Goes s.program (at s p cells w) (at s (p + 2) (option_map_or value a other ∷ cells) w)) (sym (here_found o h))
          (named compose s there _ _ _ _ _ z (then_goes compose s there _ _ _ g k))
      here_goes h.First p cells fit has =
          let g = constant_goes compose s there p (pos 1) cells w (has.0, tt) in
          let k = guarded_goes (p + 1) (Whole (pos 1)) cells has.1 in
          let z : p + 1 + 4 ≡ p + 5 = omega arith in
          named compose s there _ _ _ _ _ z (then_goes compose s there _ _ _ g k)
