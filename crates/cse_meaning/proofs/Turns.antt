-- The head of a `do` counts the turns that it means.
use Rattle.std.proofs.Common.{◌≡◌, ℕ, true, false, ℤ, pos, negsuc, ◌+◌, ◌≤◌, List, [], ◌∷◌, length, Option, Some, None, refl, sym, ap, ◌∙◌, subst, arith}
use Rattle.std.specs.Prelude.{◌+ℤ◌, ◌-ℤ◌, int_div, if◌then◌else◌, IfSome}
use Rattle.std.specs.Option.{option_map_or}
use Rattle.std.proofs.lemmas.Option.{same_Some}
use Rattle.cse_value.specs.declared.number.Num.{Num}
use Rattle.cse_value.specs.declared.number.Num.TheVariants.{Whole, NotAppl, Missing, Undef}
use Rattle.cse_value.specs.declared.shape.RecordShape.{RecordShape}
use Rattle.cse_value.specs.Number.{sum_of, difference_of, quotient_of, fits_i64, is_zero, cut}
use Rattle.cse_value.specs.Occurrences.{most_occurrences}
use Rattle.cse_image_parts.specs.declared.instruction.Op.TheVariants as ops
use Rattle.cse_dict.specs.Dictionary.{DictionaryText, shape_of}
use Rattle.cse_case.specs.Case.{CaseText, places_of}
use Rattle.cse_case.specs.Fit.{IsFit}
use Rattle.cse_syntax_tree.specs.declared.tree.Count.TheVariants as counts
use Rattle.cse_syntax_tree.specs.declared.tree.Special.TheVariants as specials
use Rattle.cse_logic_tree.specs.Typed.{Limit, Fixed, Counted, Counting}
use Rattle.cse_compile.specs.Wide as wide
use Rattle.cse_compile.specs.Wide.{bare, with_a}
use Rattle.cse_compile.specs.Setting.{Setting}
use Rattle.cse_compile.specs.Statements as emit
use Rattle.cse_compile.specs.Statements.{known, limit_code, turn_limit, turns_size_by, turns_code_by}
use Rattle.cse_meaning.specs.Fit.{LimitFits}
use Rattle.cse_steps.specs.Cell.{Cell, Number}
use Rattle.cse_steps.specs.State.{World}
use Rattle.cse_steps.specs.Operands.{turns_of, combined}
use Rattle.cse_steps.specs.Step.{acts}
use Rattle.cse_steps.specs.Fits.{FitsWorld}
use Rattle.cse_steps.specs.Laws.{RunsCompose}
use Rattle.cse_meaning.specs.Setting.{Context, Locals}
use Rattle.cse_meaning.specs.Reading.{many}
use Rattle.cse_meaning.specs.Expressions.{most}
use Rattle.cse_meaning.specs.Statements.{no_less, turns, limit}
use Rattle.cse_meaning.specs.Runs.{Goes, Spot, at, HasCode}
use Rattle.cse_meaning.specs.Laid.{IsLaid, place_in}
use Rattle.cse_meaning.specs.Plain.{MayBe, TurnsFit}
use Rattle.cse_meaning.proofs.Facts.{many_of, case_here}
use Rattle.cse_meaning.proofs.Going.{plain_at, named, then_goes, constant_goes, special_goes}
use Rattle.cse_meaning.proofs.Present.{total_here}

-- ---- the number

-- nothing is cut, where 64 bits hold each part
pub uncut : (a b k : ℤ) → fits_i64 (b -ℤ a) ≡ true → fits_i64 ((b -ℤ a) +ℤ k) ≡ true → is_zero k ≡ false → fits_i64 (int_div ((b -ℤ a) +ℤ k) k) ≡ true
    → emit.turns a b k ≡ Whole (int_div ((b -ℤ a) +ℤ k) k)
uncut a b k between more some parts =
    ap (λ c. quotient_of (sum_of (if c then Whole (b -ℤ a) else Undef) (Whole k)) (Whole k)) between
    ∙ (ap (λ c. quotient_of (if c then Whole ((b -ℤ a) +ℤ k) else Undef) (Whole k)) more
    ∙ (ap (λ z. if z then Undef else cut (int_div ((b -ℤ a) +ℤ k) k)) some
    ∙ ap (λ c. if c then Whole (int_div ((b -ℤ a) +ℤ k) k) else Undef) parts))

few_turns : (q : ℤ) (m : ℕ) → no_less q ≤ m → turns_of m (Whole q) ≡ no_less q
few_turns (pos i) m h = omega arith
few_turns (negsuc i) m h = refl

-- the bracket makes as many turns as are meant
pub as_many_turns : (records : List RecordShape) (x : Counting) (a b : ℤ) → TurnsFit records x a b → turns_of (turn_limit records x) (emit.turns a b x.step) ≡ turns a b x.step
as_many_turns records x a b fit = ap (turns_of (turn_limit records x)) (uncut a b x.step fit.between fit.more fit.some fit.parts) ∙ few_turns (int_div ((b -ℤ a) +ℤ x.step) x.step) (turn_limit records x) fit.few

-- ---- the code

module _ (compose : RunsCompose) (e : Setting) (s : Spot) (c : Context) (first : Option CaseText) (ls : Locals) (laid : IsLaid e s c first ls) where
  most_is : (of : ℕ) → most_occurrences e.records of ≡ most c of
  most_is of = ap (λ r. most_occurrences r of) laid.records ∙ ap (λ (d : DictionaryText). most_occurrences (shape_of d).records of) (sym laid.dictionary)

  -- a case has at most so many occurrences
  at_most : (w : World) (of : ℕ) (t : CaseText) → FitsWorld s.program first w → w.case ≡ Some t → many w of ≤ most_occurrences e.records of
  at_most w of t fits is =
      let fit : IsFit t = subst (λ o. IfSome o IsFit) is fits.case_fits in
      let same : t.dictionary ≡ s.program.dictionary = subst (λ o. IfSome o (λ t. t.dictionary ≡ s.program.dictionary)) is fits.dictionary in
      let m = many_of w t of is in
      let b = fit.occurrences of in
      let r : most_occurrences (shape_of t.dictionary).records of ≡ most_occurrences e.records of = ap (λ (d : DictionaryText). most_occurrences (shape_of d).records of) same ∙ ap (λ rs. most_occurrences rs of) (sym laid.records) in
      subst (λ n. n ≤ most_occurrences e.records of) (sym m) (subst (λ n. length (places_of t of) ≤ n) r b)

  pub limit_may : (x : Limit) (w : World) → FitsWorld s.program first w → LimitFits (place_in e s c) x → MayBe e.records x (limit c w x)
  limit_may (Fixed x) w fits fit = refl
  limit_may (Counted counts.MaxOcc name of) w fits fit = ap (λ n. pos n) (sym (most_is of))
  limit_may (Counted counts.TotOcc name of) w fits fit = let t = case_here e s c first ls laid w fits fit.0 in (many w of, refl, at_most w of t.0 fits t.1)

  pub limit_goes : (x : Limit) (p : ℕ) (cells : List Cell) (w : World) → FitsWorld s.program first w → LimitFits (place_in e s c) x → HasCode s p (limit_code e.records x ∷ []) → Goes s.program (at s p cells w) (at s (p + 1) (Number (Whole (limit c w x)) ∷ cells) w)
  limit_goes (Fixed x) p cells w fits fit has = constant_goes compose s laid.there p x.value cells w has
  limit_goes (Counted counts.MaxOcc name of) p cells w fits fit has = subst (λ n. Goes s.program (at s p cells w) (at s (p + 1) (Number (Whole (pos n)) ∷ cells) w)) (most_is of) (constant_goes compose s laid.there p (pos (most_occurrences e.records of)) cells w has)
  limit_goes (Counted counts.TotOcc name of) p cells w fits fit has =
      let t = case_here e s c first ls laid w fits fit.0 in
      subst (λ n. Goes s.program (at s p cells w) (at s (p + 1) (Number n ∷ cells) w)) (ap (λ (a : Option CaseText). option_map_or (λ (t : CaseText). Whole (pos (many w of))) a Undef) t.1) (total_here compose e s c first ls laid of p cells w fits fit has)

  -- a limit that is known is that of the meaning
  known_is : (x : Limit) (w : World) (a : ℤ) → known e.records x ≡ Some a → a ≡ limit c w x
  known_is (Fixed x) w a h = sym (same_Some x.value a h)
  known_is (Counted counts.MaxOcc name of) w a h = sym (same_Some (pos (most_occurrences e.records of)) a h) ∙ ap (λ n. pos n) (most_is of)
  known_is (Counted counts.TotOcc name of) w a h = cc

  -- a number by value
  value_goes : (x : Num) (p : ℕ) (w : World) → HasCode s p (wide.value x ∷ []) → Goes s.program (at s p [] w) (at s (p + 1) (Number x ∷ []) w)
  value_goes (Whole z) p w has = constant_goes compose s laid.there p z [] w has
  value_goes NotAppl p w has = special_goes compose s laid.there p specials.NotAppl [] w has
  value_goes Missing p w has = special_goes compose s laid.there p specials.Missing [] w has
  value_goes Undef p w has = special_goes compose s laid.there p specials.Default [] w has

  -- the number of turns is laid down as it is reckoned
  reckons : (x : Counting) (p : ℕ) (w : World) → FitsWorld s.program first w → LimitFits (place_in e s c) x.start → LimitFits (place_in e s c) x.stop
      → HasCode s p (limit_code e.records x.stop ∷ limit_code e.records x.start ∷ bare ops.Subtract ∷ wide.Constant x.step ∷ bare ops.Add ∷ wide.Constant x.step ∷ bare ops.Quotient ∷ [])
      → Goes s.program (at s p [] w) (at s (p + 7) (Number (emit.turns (limit c w x.start) (limit c w x.stop) x.step) ∷ []) w)
  unfolding acts combined
  reckons x p w fits start stop has =
      let a = Whole (limit c w x.start) in
      let b = Whole (limit c w x.stop) in
      let k = Whole x.step in
      let g1 = limit_goes x.stop p [] w fits stop (has.0, tt) in
      let g2 = limit_goes x.start (p + 1) (Number b ∷ []) w fits start (has.1.0, tt) in
      let g3 = plain_at compose s laid.there (p + 1 + 1) ops.Subtract 0 0 0 (Number a ∷ Number b ∷ []) w _ (has.1.1.0, tt) refl in
      let g4 = constant_goes compose s laid.there (p + 1 + 1 + 1) x.step (Number (difference_of b a) ∷ []) w (has.1.1.1.0, tt) in
      let g5 = plain_at compose s laid.there (p + 1 + 1 + 1 + 1) ops.Add 0 0 0 (Number k ∷ Number (difference_of b a) ∷ []) w _ (has.1.1.1.1.0, tt) refl in
      let g6 = constant_goes compose s laid.there (p + 1 + 1 + 1 + 1 + 1) x.step (Number (sum_of (difference_of b a) k) ∷ []) w (has.1.1.1.1.1.0, tt) in
      let g7 = plain_at compose s laid.there (p + 1 + 1 + 1 + 1 + 1 + 1) ops.Quotient 0 0 0 (Number k ∷ Number (sum_of (difference_of b a) k) ∷ []) w _ (has.1.1.1.1.1.1.0, tt) refl in
      let z : p + 1 + 1 + 1 + 1 + 1 + 1 + 1 ≡ p + 7 = omega arith in
      named compose s laid.there _ _ _ _ _ z
      (then_goes compose s laid.there _ _ _ g1 (then_goes compose s laid.there _ _ _ g2 (then_goes compose s laid.there _ _ _ g3 (then_goes compose s laid.there _ _ _ g4 (then_goes compose s laid.there _ _ _ g5 (then_goes compose s laid.there _ _ _ g6 g7))))))

  turns_by : (oa ob : Option ℤ) (x : Counting) (p : ℕ) (w : World) → known e.records x.start ≡ oa → known e.records x.stop ≡ ob → FitsWorld s.program first w → LimitFits (place_in e s c) x.start → LimitFits (place_in e s c) x.stop
      → HasCode s p (turns_code_by e.records x oa ob) → Goes s.program (at s p [] w) (at s (p + turns_size_by oa ob) (Number (emit.turns (limit c w x.start) (limit c w x.stop) x.step) ∷ []) w)
  turns_by (Some a) (Some b) x p w ka kb fits start stop has =
      subst (λ a. Goes s.program (at s p [] w) (at s (p + 1) (Number (emit.turns a (limit c w x.stop) x.step) ∷ []) w)) (known_is x.start w a ka)
      (subst (λ b. Goes s.program (at s p [] w) (at s (p + 1) (Number (emit.turns a b x.step) ∷ []) w)) (known_is x.stop w b kb) (value_goes (emit.turns a b x.step) p w has))
  turns_by None ob x p w ka kb fits start stop has = reckons x p w fits start stop has
  turns_by (Some a) None x p w ka kb fits start stop has = reckons x p w fits start stop has

  pub turns_go : (x : Counting) (p : ℕ) (w : World) → FitsWorld s.program first w → LimitFits (place_in e s c) x.start → LimitFits (place_in e s c) x.stop → HasCode s p (emit.turns_code e.records x)
      → Goes s.program (at s p [] w) (at s (p + emit.turns_size e.records x) (Number (emit.turns (limit c w x.start) (limit c w x.stop) x.step) ∷ []) w)
  turns_go x p w fits start stop has = turns_by (known e.records x.start) (known e.records x.stop) x p w refl refl fits start stop has
