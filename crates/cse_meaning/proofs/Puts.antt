-- The code of what is put into an item of an occurrence does what it means.
use Rattle.std.proofs.Common.{◌≡◌, ℕ, ◌+◌, ◌≤◌, true, List, [], ◌∷◌, length, Option, Some, None, refl, sym, ap, ◌∙◌, subst, arith}
use Rattle.std.specs.Prelude.{pos, option_and_then, option_map, if◌then◌else◌}
use Rattle.std.specs.Option.{option_map_or}
use Rattle.std.proofs.lemmas.Bool.{and_parts, leb-true}
use Rattle.cse_value.specs.declared.number.Num.{Num}
use Rattle.cse_value.specs.declared.number.Num.TheVariants.{Whole}
use Rattle.cse_value.specs.declared.shape.ItemShape.{ItemShape}
use Rattle.cse_image_parts.specs.declared.instruction.Op.TheVariants as ops
use Rattle.cse_dict.specs.Dictionary.{shape_of}
use Rattle.cse_dict.specs.Sound.{IsSound}
use Rattle.cse_case.specs.Case.{CaseText, places_of, with_number, with_text}
use Rattle.cse_code_typing.specs.Code.{code_of}
use Rattle.cse_verify.specs.Verified.{VerifiedProgram}
use Rattle.cse_code_typing.specs.Signature.{number_item, text_item, is_record}
use Rattle.cse_logic_tree.specs.declared.tree.Field.{Field}
use Rattle.cse_logic_tree.specs.declared.tree.Found.TheVariants as h
use Rattle.cse_logic_tree.specs.Typed.{Which, Here, At}
use Rattle.cse_compile.specs.Wide.{with_c, occurrence}
use Rattle.cse_compile.specs.Setting.{Setting}
use Rattle.cse_compile.specs.Expressions.{number_size, number_code}
use Rattle.cse_compile.specs.Statements.{which_size, which_code}
use Rattle.cse_meaning.specs.Fit.{IsEntry, IsRecord, WhichFits}
use Rattle.cse_meaning.proofs.Lengths.{number_length}
use Rattle.cse_steps.specs.Cell.{Cell, Number, Words, Occurrence}
use Rattle.cse_steps.specs.State.{Call, World, in_case, with_imputed}
use Rattle.cse_steps.specs.Operands.{is_within, whole_within, with_occurrence}
use Rattle.cse_steps.specs.Step.{acts, on, or_to, write_number, write_text}
use Rattle.cse_steps.specs.Fits.{FitsWorld}
use Rattle.cse_steps.specs.Laws.{RunsCompose}
use Rattle.cse_steps.proofs.CaseFacts.{number_written, text_written}
use Rattle.cse_meaning.specs.Setting.{Context, Locals, Functions, Valued, turn_of}
use Rattle.cse_meaning.specs.Reading.{many, one_of, number_of_one}
use Rattle.cse_meaning.specs.Writing.{item_set, text_item_set, imputed}
use Rattle.cse_meaning.specs.Expressions.{number_of}
use Rattle.cse_meaning.specs.Statements.{which_of}
use Rattle.cse_meaning.specs.Runs.{Goes, Spot, at, IsThere, HasCode}
use Rattle.cse_meaning.specs.Laid.{IsLaid, KeepsRows, place_in}
use Rattle.cse_meaning.specs.Follows.{Follows}
use Rattle.cse_meaning.specs.Plain.{IsPlainPlace}
use Rattle.cse_meaning.proofs.Facts.{many_of, as_first, case_here}
use Rattle.cse_meaning.proofs.Going.{left, stand_front, stand_back, plain_at, then_goes, constant_goes, local_goes}
use Rattle.cse_meaning.proofs.Items.{same_within, is_within_from, within_both, current_goes}
use Rattle.cse_meaning.proofs.Simulation.{number_goes}

-- where the code of an occurrence leads: behind itself with the occurrence, or to a place where there is none
abbrev pub FoundBy : Spot → ℕ → ℕ → ℕ → ℕ → World → Option ℕ → World → Type 0
FoundBy s of fail p q w None next = Goes s.program (at s p [] w) (at s fail [] next)
FoundBy s of fail p q w (Some o) next = (is_within (many next of) o ≡ true) × Goes s.program (at s p [] w) (at s q (Occurrence o of ∷ []) next)

pub record Finds (s : Spot) (first : Option CaseText) (of fail p q : ℕ) (w : World) (r : Valued (Option ℕ)) : Type 0 where
  pub goes : FoundBy s of fail p q w r.0 r.1
  pub fits : FitsWorld s.program first r.1

module _ (compose : RunsCompose) (e : Setting) (s : Spot) (fn : Functions) (c : Context) (first : Option CaseText) (ls : Locals) (laid : IsLaid e s c first ls) (keeps : KeepsRows s.program.dictionary) (follows : Follows s.program first fn s.number) where
  -- ---- an occurrence

  -- the number on top as an occurrence
  occurs_by : (of fail p : ℕ) → is_record (shape_of s.program.dictionary) of ≡ true → (n : Num) (w : World) (t : CaseText) → w.case ≡ Some t → (o : Option ℕ) → number_of_one (many w of) n ≡ o → HasCode s p (occurrence of fail ∷ [])
      → (q : ℕ) (v : World) → Goes s.program (at s q [] v) (at s p (Number n ∷ []) w) → FoundBy s of fail q (p + 1) v o w
  unfolding acts
  occurs_by of fail p there_is n w t is None e has q v g =
      let k : Call = record { routine = s.number; place = p; locals = s.locals; cells = Number n ∷ []; opens = s.opens } in
      let none = sym (ap (λ m. number_of_one m n) (many_of w t of is) ∙ same_within (length (places_of t of)) n) ∙ e in
      then_goes compose s laid.there _ _ _ g
      (plain_at compose s laid.there p ops.Occurrence of 0 fail (Number n ∷ []) w _ has
      (ap (λ a. left s.below (option_and_then (λ (t : CaseText). if is_record (shape_of s.program.dictionary) of then or_to k w fail [] (option_map (λ o. Occurrence o of) (whole_within (length (places_of t of)) n)) else None) a)) is
      ∙ (ap (λ b. left s.below (if b then or_to k w fail [] (option_map (λ o. Occurrence o of) (whole_within (length (places_of t of)) n)) else None)) there_is
      ∙ ap (λ a. left s.below (or_to k w fail [] (option_map (λ o. Occurrence o of) a))) none)))
  occurs_by of fail p there_is n w t is (Some o) e has q v g =
      let k : Call = record { routine = s.number; place = p; locals = s.locals; cells = Number n ∷ []; opens = s.opens } in
      let some = sym (ap (λ m. number_of_one m n) (many_of w t of is) ∙ same_within (length (places_of t of)) n) ∙ e in
      let within = subst (λ m. is_within m o ≡ true) (sym (many_of w t of is)) (is_within_from (length (places_of t of)) n o some) in (
        within,
        then_goes compose s laid.there _ _ _ g
            (plain_at compose s laid.there p ops.Occurrence of 0 fail (Number n ∷ []) w _ has
            (ap (λ a. left s.below (option_and_then (λ (t : CaseText). if is_record (shape_of s.program.dictionary) of then or_to k w fail [] (option_map (λ o. Occurrence o of) (whole_within (length (places_of t of)) n)) else None) a)) is
            ∙ (ap (λ b. left s.below (if b then or_to k w fail [] (option_map (λ o. Occurrence o of) (whole_within (length (places_of t of)) n)) else None)) there_is
            ∙ ap (λ a. left s.below (or_to k w fail [] (option_map (λ o. Occurrence o of) a))) some))),
      )

  -- an occurrence that is there is found
  there_found : (of o : ℕ) (w : World) → is_within (many w of) o ≡ true → one_of (many w of) o ≡ Some o
  there_found of o w h = ap (λ b. if b then Some o else None) h

  pub which_goes : (of fail p : ℕ) (x : Which) (w : World) → FitsWorld s.program first w → IsRecord (place_in e s c) of → IsPlainPlace (length ls.parameters) x → WhichFits (place_in e s c) of x
      → HasCode s p (which_code e of fail p x) → Finds s first of fail p (p + which_size x) w (which_of fn c of x ls w)
  which_goes of fail p (Here h.Loop) w fits rec plain fit has =
      let t = case_here e s c first ls laid w fits rec.0 in
      let l = laid.loops of fit in
      let o = turn_of of c.loops in
      let within = subst (λ n. is_within n o ≡ true) (as_first s.program first w t.0 of fits t.1 ∙ sym (many_of w t.0 of t.1)) l.1 in
      record { goes = subst (λ a. FoundBy s of fail p (p + 1) w a w) (sym (there_found of o w within)) (within, current_goes compose s laid.there w t.0 t.1 p of o [] l.0 has); fits = fits }
  which_goes of fail p (Here h.Event) w fits rec plain fit has =
      let t = case_here e s c first ls laid w fits rec.0 in
      let l = laid.event of fit in
      let o = c.event in
      let within = subst (λ n. is_within n o ≡ true) (as_first s.program first w t.0 of fits t.1 ∙ sym (many_of w t.0 of t.1)) l.1 in
      record { goes = subst (λ a. FoundBy s of fail p (p + 1) w a w) (sym (there_found of o w within)) (within, local_goes compose s laid.there p 0 (Occurrence o of) [] w l.0 has); fits = fits }
  which_goes of fail p (Here h.First) w fits rec plain fit has =
      let t = case_here e s c first ls laid w fits rec.0 in
      let g = constant_goes compose s laid.there p (pos 1) [] w (has.0, tt) in
      let z : p + 1 + 1 ≡ p + 2 = omega arith in
      record { goes = subst (λ q. FoundBy s of fail p q w (one_of (many w of) 1) w) z (occurs_by of fail (p + 1) rec.1 (Whole (pos 1)) w t.0 t.1 (one_of (many w of) 1) refl has.1 p w g); fits = fits }
  which_goes of fail p (At x) w fits rec plain fit has =
      let n = (number_of fn c x ls w).0 in
      let w1 = (number_of fn c x ls w).1 in
      let g = number_goes compose e s fn c first ls laid keeps follows x p [] w fits plain fit (stand_front s.program.image.lists (code_of s.program.image s.number) p (number_code e p x) _ has) in
      let h = stand_back s.program.image.lists (code_of s.program.image s.number) p (number_size x) (number_code e p x) _ (number_length e p x) has in
      let t = case_here e s c first ls laid w1 g.fits rec.0 in
      let z : p + number_size x + 1 ≡ p + (number_size x + 1) = omega arith in
      record { goes = subst (λ q. FoundBy s of fail p q w (number_of_one (many w1 of) n) w1) z (occurs_by of fail (p + number_size x) rec.1 n w1 t.0 t.1 (number_of_one (many w1 of) n) refl h p w g.goes); fits = g.fits }

-- ---- a value into an item

module _ (compose : RunsCompose) (s : Spot) (there : IsThere s) (sound : IsSound s.program.dictionary) (first : Option CaseText) (w : World) (t : CaseText) (is : w.case ≡ Some t) (fits : FitsWorld s.program first w) where
  abbrev call_with : ℕ → List Cell → Call
  call_with p cells = record { routine = s.number; place = p; locals = s.locals; cells = cells; opens = s.opens }

  -- the occurrence is there in the case
  within_case : (of o : ℕ) → is_within (many w of) o ≡ true → is_within (length (places_of t of)) o ≡ true
  within_case of o h = subst (λ n. is_within n o ≡ true) (many_of w t of is) h

  store_number_goes : (k o p : ℕ) (n : Num) (x : ItemShape) → number_item (shape_of s.program.dictionary) k ≡ Some x → is_within (many w x.owner) o ≡ true → HasCode s p (with_c ops.StoreNumber k ∷ [])
      → Goes s.program (at s p (Number n ∷ Occurrence o x.owner ∷ []) w) (at s (p + 1) [] (in_case w (with_number t x.owner o k n)))
  unfolding acts
  store_number_goes k o p n x e h has =
      let c = call_with p (Number n ∷ Occurrence o x.owner ∷ []) in
      plain_at compose s there p ops.StoreNumber 0 0 k (Number n ∷ Occurrence o x.owner ∷ []) w _ has
      (ap (λ i. left s.below (write_number c w k i (λ w' n. w'))) e
      ∙ (ap (λ a. left s.below (option_and_then (λ t. with_occurrence x.owner (length (places_of t x.owner)) (Occurrence o x.owner ∷ []) (λ o rest. on c (in_case w (with_number t x.owner o k n)) rest)) a)) is
      ∙ ap (λ b. left s.below (if b then on c (in_case w (with_number t x.owner o k n)) [] else None)) (within_both x.owner (length (places_of t x.owner)) o (within_case x.owner o h))))

  impute_goes : (k o p : ℕ) (n : Num) (x : ItemShape) → number_item (shape_of s.program.dictionary) k ≡ Some x → is_within (many w x.owner) o ≡ true → HasCode s p (with_c ops.Impute k ∷ [])
      → Goes s.program (at s p (Number n ∷ Occurrence o x.owner ∷ []) w) (at s (p + 1) [] (with_imputed (in_case w (with_number t x.owner o k n)) k n))
  unfolding acts
  impute_goes k o p n x e h has =
      let c = call_with p (Number n ∷ Occurrence o x.owner ∷ []) in
      plain_at compose s there p ops.Impute 0 0 k (Number n ∷ Occurrence o x.owner ∷ []) w _ has
      (ap (λ i. left s.below (write_number c w k i (λ w' n. with_imputed w' k n))) e
      ∙ (ap (λ a. left s.below (option_and_then (λ t. with_occurrence x.owner (length (places_of t x.owner)) (Occurrence o x.owner ∷ []) (λ o rest. on c (with_imputed (in_case w (with_number t x.owner o k n)) k n) rest)) a)) is
      ∙ ap (λ b. left s.below (if b then on c (with_imputed (in_case w (with_number t x.owner o k n)) k n) [] else None)) (within_both x.owner (length (places_of t x.owner)) o (within_case x.owner o h))))

  store_text_goes : (k o p : ℕ) (text : List ℕ) (x : ItemShape) → text_item (shape_of s.program.dictionary) k ≡ Some x → is_within (many w x.owner) o ≡ true → HasCode s p (with_c ops.StoreText k ∷ [])
      → Goes s.program (at s p (Words text ∷ Occurrence o x.owner ∷ []) w) (at s (p + 1) [] (in_case w (with_text t x.owner o k text)))
  unfolding acts
  store_text_goes k o p text x e h has =
      let c = call_with p (Words text ∷ Occurrence o x.owner ∷ []) in
      plain_at compose s there p ops.StoreText 0 0 k (Words text ∷ Occurrence o x.owner ∷ []) w _ has
      (ap (λ i. left s.below (write_text c w k i)) e
      ∙ (ap (λ a. left s.below (option_and_then (λ t. with_occurrence x.owner (length (places_of t x.owner)) (Occurrence o x.owner ∷ []) (λ o rest. on c (in_case w (with_text t x.owner o k text)) rest)) a)) is
      ∙ ap (λ b. left s.below (if b then on c (in_case w (with_text t x.owner o k text)) [] else None)) (within_both x.owner (length (places_of t x.owner)) o (within_case x.owner o h))))

  -- what the meaning leaves
  set_is : (f : Field) (o : ℕ) (n : Num) → item_set f o n w ≡ in_case w (with_number t f.owner o f.item n)
  set_is f o n = ap (λ a. option_map_or (λ t. in_case w (with_number t f.owner o f.item n)) a w) is

  text_set_is : (f : Field) (o : ℕ) (text : List ℕ) → text_item_set f o text w ≡ in_case w (with_text t f.owner o f.item text)
  text_set_is f o text = ap (λ a. option_map_or (λ t. in_case w (with_text t f.owner o f.item text)) a w) is

  low_high : (of o : ℕ) → is_within (many w of) o ≡ true → (1 ≤ o) × (o ≤ length (places_of t of))
  low_high of o h = let p = and_parts _ _ (within_case of o h) in (leb-true 1 o p.0, leb-true o (length (places_of t of)) p.1)

  set_fits : (k o : ℕ) (n : Num) (x : ItemShape) → number_item (shape_of s.program.dictionary) k ≡ Some x → is_within (many w x.owner) o ≡ true → FitsWorld s.program first (in_case w (with_number t x.owner o k n))
  set_fits k o n x e h = let b = low_high x.owner o h in number_written s.program first w t x o k n sound e is fits b.0 b.1

  text_set_fits : (k o : ℕ) (text : List ℕ) (x : ItemShape) → text_item (shape_of s.program.dictionary) k ≡ Some x → is_within (many w x.owner) o ≡ true → FitsWorld s.program first (in_case w (with_text t x.owner o k text))
  text_set_fits k o text x e h = let b = low_high x.owner o h in text_written s.program first w t x o k text sound e is fits b.0 b.1

-- what is told of a world changes nothing that has to fit
told_fits : (program : VerifiedProgram) (first : Option CaseText) (w : World) (k : ℕ) (n : Num) → FitsWorld program first w → FitsWorld program first (with_imputed w k n)
told_fits program first w k n fits = record { present = fits.present; occurrences = fits.occurrences; case_fits = fits.case_fits; dictionary = fits.dictionary; store = fits.store }

-- a value and what lies below it are taken, and nothing is left on the stack
pub record Puts (s : Spot) (first : Option CaseText) (p q : ℕ) (x : Cell) (below : List Cell) (w next : World) : Type 0 where
  pub goes : Goes s.program (at s p (x ∷ below) w) (at s q [] next)
  pub fits : FitsWorld s.program first next

module _ (compose : RunsCompose) (e : Setting) (s : Spot) (c : Context) (first : Option CaseText) (ls : Locals) (laid : IsLaid e s c first ls) (sound : IsSound s.program.dictionary) where
  pub item_put : (f : Field) (o p : ℕ) (n : Num) (w : World) → FitsWorld s.program first w → IsRecord (place_in e s c) f.owner → IsEntry (number_item (shape_of s.program.dictionary) f.item) f.owner → is_within (many w f.owner) o ≡ true
      → HasCode s p (with_c ops.StoreNumber f.item ∷ []) → Puts s first p (p + 1) (Number n) (Occurrence o f.owner ∷ []) w (item_set f o n w)
  item_put f o p n w fits rec x h has =
      let t = case_here e s c first ls laid w fits rec.0 in
      let h' = subst (λ of. is_within (many w of) o ≡ true) (sym x.2) h in
      let r : Puts s first p (p + 1) (Number n) (Occurrence o x.0.owner ∷ []) w (in_case w (with_number t.0 x.0.owner o f.item n)) = record {
        goes = store_number_goes compose s laid.there sound first w t.0 t.1 fits f.item o p n x.0 x.1 h' has;
        fits = set_fits compose s laid.there sound first w t.0 t.1 fits f.item o n x.0 x.1 h';
      } in
      subst (Puts s first p (p + 1) (Number n) (Occurrence o f.owner ∷ []) w) (sym (set_is compose s laid.there sound first w t.0 t.1 fits f o n))
      (subst (λ of. Puts s first p (p + 1) (Number n) (Occurrence o of ∷ []) w (in_case w (with_number t.0 of o f.item n))) x.2 r)

  pub item_imputed : (f : Field) (o p : ℕ) (n : Num) (w : World) → FitsWorld s.program first w → IsRecord (place_in e s c) f.owner → IsEntry (number_item (shape_of s.program.dictionary) f.item) f.owner → is_within (many w f.owner) o ≡ true
      → HasCode s p (with_c ops.Impute f.item ∷ []) → Puts s first p (p + 1) (Number n) (Occurrence o f.owner ∷ []) w (imputed f o n w)
  item_imputed f o p n w fits rec x h has =
      let t = case_here e s c first ls laid w fits rec.0 in
      let h' = subst (λ of. is_within (many w of) o ≡ true) (sym x.2) h in
      let r : Puts s first p (p + 1) (Number n) (Occurrence o x.0.owner ∷ []) w (with_imputed (in_case w (with_number t.0 x.0.owner o f.item n)) f.item n) = record {
        goes = impute_goes compose s laid.there sound first w t.0 t.1 fits f.item o p n x.0 x.1 h' has;
        fits = told_fits s.program first _ f.item n (set_fits compose s laid.there sound first w t.0 t.1 fits f.item o n x.0 x.1 h');
      } in
      subst (λ u. Puts s first p (p + 1) (Number n) (Occurrence o f.owner ∷ []) w (with_imputed u f.item n)) (sym (set_is compose s laid.there sound first w t.0 t.1 fits f o n))
      (subst (λ of. Puts s first p (p + 1) (Number n) (Occurrence o of ∷ []) w (with_imputed (in_case w (with_number t.0 of o f.item n)) f.item n)) x.2 r)

  pub text_item_put : (f : Field) (o p : ℕ) (text : List ℕ) (w : World) → FitsWorld s.program first w → IsRecord (place_in e s c) f.owner → IsEntry (text_item (shape_of s.program.dictionary) f.item) f.owner → is_within (many w f.owner) o ≡ true
      → HasCode s p (with_c ops.StoreText f.item ∷ []) → Puts s first p (p + 1) (Words text) (Occurrence o f.owner ∷ []) w (text_item_set f o text w)
  text_item_put f o p text w fits rec x h has =
      let t = case_here e s c first ls laid w fits rec.0 in
      let h' = subst (λ of. is_within (many w of) o ≡ true) (sym x.2) h in
      let r : Puts s first p (p + 1) (Words text) (Occurrence o x.0.owner ∷ []) w (in_case w (with_text t.0 x.0.owner o f.item text)) = record {
        goes = store_text_goes compose s laid.there sound first w t.0 t.1 fits f.item o p text x.0 x.1 h' has;
        fits = text_set_fits compose s laid.there sound first w t.0 t.1 fits f.item o text x.0 x.1 h';
      } in
      subst (Puts s first p (p + 1) (Words text) (Occurrence o f.owner ∷ []) w) (sym (text_set_is compose s laid.there sound first w t.0 t.1 fits f o text))
      (subst (λ of. Puts s first p (p + 1) (Words text) (Occurrence o of ∷ []) w (in_case w (with_text t.0 of o f.item text))) x.2 r)
