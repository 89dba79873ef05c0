-- The code of items, of records and of value sets does what it means.
use Rattle.std.proofs.Common.{◌≡◌, ℕ, ◌+◌, List, [], ◌∷◌, Option, Some, refl, sym, ap, ◌∙◌, subst}
use Rattle.std.specs.Prelude.{pos, option_and_then, is_some}
use Rattle.std.specs.Option.{option_map_or}
use Rattle.std.specs.Str.{chars}
use Rattle.cse_value.specs.declared.number.Num.{Num}
use Rattle.cse_value.specs.declared.number.Num.TheVariants.{Whole, Undef}
use Rattle.cse_image_parts.specs.declared.instruction.Op.TheVariants as ops
use Rattle.cse_dict.specs.Dictionary.{DictionaryText, shape_of, row_in, spans_at}
use Rattle.cse_case.specs.Case.{CaseText, place_of, number_at, text_at}
use Rattle.cse_code_typing.specs.Signature.{number_item, text_item, rows_of}
use Rattle.cse_logic_tree.specs.declared.tree.Field.{Field}
use Rattle.cse_logic_tree.specs.declared.tree.Found.{Found}
use Rattle.cse_logic_tree.specs.declared.tree.Present.{Present}
use Rattle.cse_logic_tree.specs.declared.tree.Present.TheVariants as present
use Rattle.cse_compile.specs.Wide as wide
use Rattle.cse_compile.specs.Wide.{with_a, with_b, with_c, undefined}
use Rattle.cse_compile.specs.Setting.{Setting}
use Rattle.cse_compile.specs.Expressions.{guarded, here_size, here_code, present_size, number_of_item, text_of_item}
use Rattle.cse_meaning.specs.Fit.{IsEntry, IsRecord, IsFound, IsNumberField, IsTextField, IsNumberPresent, IsTextPresent}
use Rattle.cse_steps.specs.Cell.{Cell, Number, Words, Occurrence}
use Rattle.cse_steps.specs.State.{Call, World}
use Rattle.cse_steps.specs.Operands.{flag}
use Rattle.cse_steps.specs.Step.{acts, one}
use Rattle.cse_steps.specs.Fits.{FitsWorld}
use Rattle.cse_steps.specs.Laws.{RunsCompose}
use Rattle.cse_meaning.specs.Setting.{Context, Locals}
use Rattle.cse_meaning.specs.Reading as reading
use Rattle.cse_meaning.specs.Reading.{one_if, many, found, number_of_one, number_in as number_there, words_in, number_here, words_here, row}
use Rattle.cse_meaning.specs.Expressions.{total}
use Rattle.cse_meaning.specs.Runs.{Goes, Spot, at, HasCode}
use Rattle.cse_meaning.specs.Laid.{IsLaid, place_in}
use Rattle.cse_meaning.proofs.Facts.{many_of, case_here}
use Rattle.cse_meaning.proofs.Going.{left, plain_at, chars_goes}
use Rattle.cse_meaning.proofs.Items.{Takes, map_out, id_number_goes, id_text_goes, total_goes, item_number_goes, item_text_goes, occurrence_number_goes, guarded_goes, here_goes}

module _ (compose : RunsCompose) (e : Setting) (s : Spot) (c : Context) (first : Option CaseText) (ls : Locals) (laid : IsLaid e s c first ls) where
  -- ---- items

  pub undefined_goes : (w : World) (p : ℕ) (cells : List Cell) → HasCode s p (undefined ∷ []) → Goes s.program (at s p cells w) (at s (p + 1) (Number Undef ∷ cells) w)
  unfolding acts
  undefined_goes w p cells has = plain_at compose s laid.there p ops.Special 2 0 0 cells w _ has refl

  pub blank_goes : (w : World) (p : ℕ) (cells : List Cell) → HasCode s p (wide.Chars [] ∷ []) → Goes s.program (at s p cells w) (at s (p + 1) (Words [] ∷ cells) w)
  unfolding chars
  blank_goes w p cells has = chars_goes compose s laid.there p [] cells w has

  -- what an instruction makes of an occurrence, as the meaning reads it
  module _ (w : World) (t : CaseText) (is : w.case ≡ Some t) where
    takes_number : (f : Field) → IsEntry (number_item (shape_of s.program.dictionary) f.item) f.owner → Takes s w t f.owner (with_c ops.ItemNumber f.item) (λ o. Number (number_there w f o))
    takes_number f x p o cells h has =
        let g : Takes s w t f.owner (with_c ops.ItemNumber f.item) (λ o. Number (number_at t (place_of t f.owner o) f.item)) =
        subst (λ of. Takes s w t of (with_c ops.ItemNumber f.item) (λ o. Number (number_at t (place_of t of o) f.item))) x.2 (item_number_goes compose s laid.there w t is f.item x.0 x.1) in
        subst (λ n. Goes s.program (at s p (Occurrence o f.owner ∷ cells) w) (at s (p + 1) (Number n ∷ cells) w))
        (sym (ap (λ a. option_map_or (λ t. number_at t (place_of t f.owner o) f.item) a Undef) is)) (g p o cells h has)

    takes_words : (f : Field) → IsEntry (text_item (shape_of s.program.dictionary) f.item) f.owner → Takes s w t f.owner (with_c ops.ItemText f.item) (λ o. Words (words_in w f o))
    takes_words f x p o cells h has =
        let g : Takes s w t f.owner (with_c ops.ItemText f.item) (λ o. Words (text_at t (place_of t f.owner o) f.item)) =
        subst (λ of. Takes s w t of (with_c ops.ItemText f.item) (λ o. Words (text_at t (place_of t of o) f.item))) x.2 (item_text_goes compose s laid.there w t is f.item x.0 x.1) in
        subst (λ n. Goes s.program (at s p (Occurrence o f.owner ∷ cells) w) (at s (p + 1) (Words n ∷ cells) w))
        (sym (ap (λ a. option_map_or (λ t. text_at t (place_of t f.owner o) f.item) a []) is)) (g p o cells h has)

  pub number_present_goes : (x : Present) (p : ℕ) (cells : List Cell) (w : World) → FitsWorld s.program first w → IsNumberPresent (place_in e s c) x → HasCode s p (number_of_item p x) → Goes s.program (at s p cells w) (at s (p + present_size x) (Number (number_here c w x) ∷ cells) w)
  number_present_goes (present.Id item) p cells w fits fit has =
      let t = case_here e s c first ls laid w fits fit.0 in
      subst (λ n. Goes s.program (at s p cells w) (at s (p + 1) (Number n ∷ cells) w)) (sym (ap (λ a. option_map_or (λ t. number_at t 0 item) a Undef) t.1))
      (id_number_goes compose s laid.there w t.0 t.1 p item fit.1.0 cells fit.1.1 has)
  number_present_goes (present.Here f x) p cells w fits fit has =
      let t = case_here e s c first ls laid w fits fit.0.0.0 in
      subst (λ n. Goes s.program (at s p cells w) (at s (p + present_size (present.Here f x)) (n ∷ cells) w)) (map_out Number (number_there w f) (found c w f.owner x) Undef)
      (here_goes compose s laid.there w t.0 t.1 f.owner fit.0.0.1 (with_c ops.ItemNumber f.item) undefined (λ o. Number (number_there w f o)) (Number Undef) (takes_number w t.0 t.1 f fit.0.1) (undefined_goes w) e c first ls laid fits x p cells fit.1 has)

  pub words_present_goes : (x : Present) (p : ℕ) (cells : List Cell) (w : World) → FitsWorld s.program first w → IsTextPresent (place_in e s c) x → HasCode s p (text_of_item p x) → Goes s.program (at s p cells w) (at s (p + present_size x) (Words (words_here c w x) ∷ cells) w)
  words_present_goes (present.Id item) p cells w fits fit has =
      let t = case_here e s c first ls laid w fits fit.0 in
      subst (λ n. Goes s.program (at s p cells w) (at s (p + 1) (Words n ∷ cells) w)) (sym (ap (λ a. option_map_or (λ t. text_at t 0 item) a []) t.1))
      (id_text_goes compose s laid.there w t.0 t.1 p item fit.1.0 cells fit.1.1 has)
  words_present_goes (present.Here f x) p cells w fits fit has =
      let t = case_here e s c first ls laid w fits fit.0.0.0 in
      subst (λ n. Goes s.program (at s p cells w) (at s (p + present_size (present.Here f x)) (n ∷ cells) w)) (map_out Words (words_in w f) (found c w f.owner x) [])
      (here_goes compose s laid.there w t.0 t.1 f.owner fit.0.0.1 (with_c ops.ItemText f.item) (wide.Chars []) (λ o. Words (words_in w f o)) (Words []) (takes_words w t.0 t.1 f fit.0.1) (blank_goes w) e c first ls laid fits x p cells fit.1 has)

  -- an item at an occurrence that a number tells
  pub number_at_goes : (f : Field) (n : Num) (p : ℕ) (cells : List Cell) (w : World) → FitsWorld s.program first w → IsNumberField (place_in e s c) f → HasCode s p (guarded (with_c ops.ItemNumber f.item) undefined f.owner p) → Goes s.program (at s p (Number n ∷ cells) w) (at s (p + 4) (Number (reading.number_at w f (number_of_one (many w f.owner) n)) ∷ cells) w)
  number_at_goes f n p cells w fits fit has =
      let t = case_here e s c first ls laid w fits fit.0.0 in
      subst (λ x. Goes s.program (at s p (Number n ∷ cells) w) (at s (p + 4) (x ∷ cells) w)) (map_out Number (number_there w f) (number_of_one (many w f.owner) n) Undef)
      (guarded_goes compose s laid.there w t.0 t.1 f.owner fit.0.1 (with_c ops.ItemNumber f.item) undefined (λ o. Number (number_there w f o)) (Number Undef) (takes_number w t.0 t.1 f fit.1) (undefined_goes w) p n cells has)

  pub words_at_goes : (f : Field) (n : Num) (p : ℕ) (cells : List Cell) (w : World) → FitsWorld s.program first w → IsTextField (place_in e s c) f → HasCode s p (guarded (with_c ops.ItemText f.item) (wide.Chars []) f.owner p) → Goes s.program (at s p (Number n ∷ cells) w) (at s (p + 4) (Words (reading.words_at w f (number_of_one (many w f.owner) n)) ∷ cells) w)
  words_at_goes f n p cells w fits fit has =
      let t = case_here e s c first ls laid w fits fit.0.0 in
      subst (λ x. Goes s.program (at s p (Number n ∷ cells) w) (at s (p + 4) (x ∷ cells) w)) (map_out Words (words_in w f) (number_of_one (many w f.owner) n) [])
      (guarded_goes compose s laid.there w t.0 t.1 f.owner fit.0.1 (with_c ops.ItemText f.item) (wide.Chars []) (λ o. Words (words_in w f o)) (Words []) (takes_words w t.0 t.1 f fit.1) (blank_goes w) p n cells has)

  -- ---- records and value sets

  pub total_here : (of p : ℕ) (cells : List Cell) (w : World) → FitsWorld s.program first w → IsRecord (place_in e s c) of → HasCode s p (with_a ops.TotalOccurrences of ∷ []) → Goes s.program (at s p cells w) (at s (p + 1) (Number (total w of) ∷ cells) w)
  total_here of p cells w fits fit has =
      let t = case_here e s c first ls laid w fits fit.0 in
      subst (λ n. Goes s.program (at s p cells w) (at s (p + 1) (Number n ∷ cells) w))
      (ap (λ n. Whole (pos n)) (sym (many_of w t.0 of t.1)) ∙ sym (ap (λ (a : Option CaseText). option_map_or (λ (t : CaseText). Whole (pos (many w of))) a Undef) t.1))
      (total_goes compose s laid.there w t.0 t.1 p of cells fit.1 has)

  pub occurrence_here : (of : ℕ) (x : Found) (p : ℕ) (cells : List Cell) (w : World) → FitsWorld s.program first w → IsRecord (place_in e s c) of → IsFound (place_in e s c) of x → HasCode s p (here_code (with_a ops.OccurrenceNumber of) undefined of p x)
      → Goes s.program (at s p cells w) (at s (p + here_size x) (Number (option_map_or (λ o. Whole (pos o)) (found c w of x) Undef) ∷ cells) w)
  occurrence_here of x p cells w fits fit is has =
      let t = case_here e s c first ls laid w fits fit.0 in
      subst (λ n. Goes s.program (at s p cells w) (at s (p + here_size x) (n ∷ cells) w)) (map_out Number (λ o. Whole (pos o)) (found c w of x) Undef)
      (here_goes compose s laid.there w t.0 t.1 of fit.1 (with_a ops.OccurrenceNumber of) undefined (λ o. Number (Whole (pos o))) (Number Undef) (occurrence_number_goes compose s laid.there w t.0 t.1 of) (undefined_goes w) e c first ls laid fits x p cells is has)

  pub in_set_goes : (set n p : ℕ) (x : Num) (cells : List Cell) (w : World) → rows_of (shape_of s.program.dictionary) set ≡ Some n → HasCode s p (with_b ops.InSet set ∷ []) → Goes s.program (at s p (Number x ∷ cells) w) (at s (p + 1) (Number (one_if (is_some (row c set x))) ∷ cells) w)
  unfolding acts
  in_set_goes set n p x cells w rows has =
      let k : Call = record { routine = s.number; place = p; locals = s.locals; cells = Number x ∷ cells; opens = s.opens } in
      subst (λ (d : DictionaryText). Goes s.program (at s p (Number x ∷ cells) w) (at s (p + 1) (Number (one_if (is_some (row_in x (spans_at d set)))) ∷ cells) w)) (sym laid.dictionary)
      (plain_at compose s laid.there p ops.InSet 0 set 0 (Number x ∷ cells) w _ has
      (ap (λ (o : Option ℕ). left s.below (option_and_then (λ (n : ℕ). one k w (λ x. flag (is_some (row_in x (spans_at s.program.dictionary set))))) o)) rows))
