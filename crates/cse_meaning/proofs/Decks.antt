-- The code of the picks of a hot deck does what they mean.
use Rattle.std.proofs.Common.{◌≡◌, ℕ, ◌+◌, ◌<◌, Bool, true, false, List, [], ◌∷◌, length, Option, Some, None, refl, sym, ap, ◌∙◌, subst, arith}
use Rattle.std.specs.Prelude.{option_and_then, option_map, if◌then◌else◌, ◌||◌, not}
use Rattle.std.proofs.lemmas.Bool.{and_from, le-leb, lt-ltb, or_left, not_from_false}
use Rattle.cse_value.specs.declared.number.Num.{Num}
use Rattle.cse_image_parts.specs.declared.instruction.Op.TheVariants as ops
use Rattle.cse_dict.specs.Dictionary.{DictionaryText, shape_of, row_in, spans_at}
use Rattle.cse_case.specs.Case.{CaseText}
use Rattle.cse_code_typing.specs.Code.{code_of}
use Rattle.cse_code_typing.specs.Signature.{rows_of}
use Rattle.cse_logic_tree.specs.declared.tree.Pick.{Pick}
use Rattle.cse_compile.specs.Wide as wide
use Rattle.cse_compile.specs.Wide.{Wide, pops}
use Rattle.cse_compile.specs.Setting.{Setting}
use Rattle.cse_compile.specs.Expressions.{present_size, number_of_item, can_fail, deepest, picks_size, picks_code}
use Rattle.cse_meaning.specs.Fit.{row_count, ArePicks}
use Rattle.cse_meaning.proofs.Lengths.{item_length, pops_length}
use Rattle.cse_steps.specs.Cell.{Cell, Number}
use Rattle.cse_steps.specs.State.{Call, World}
use Rattle.cse_steps.specs.Operands.{is_within, row_within}
use Rattle.cse_steps.specs.Step.{acts, rowed}
use Rattle.cse_steps.specs.Fits.{FitsWorld}
use Rattle.cse_steps.specs.Laws.{RunsCompose}
use Rattle.cse_meaning.specs.Setting.{Context, Locals}
use Rattle.cse_meaning.specs.Reading as reading
use Rattle.cse_meaning.specs.Reading.{number_here, first_size, other_sizes, picked, picks}
use Rattle.cse_meaning.specs.Runs.{Goes, Spot, at, HasCode}
use Rattle.cse_meaning.specs.Laid.{IsLaid, KeepsRows, place_in}
use Rattle.cse_meaning.proofs.Arrays.{on_top, LedBy, pops_go, pops_behind, led_on}
use Rattle.cse_meaning.proofs.Going.{left, stand_front, stand_back, stays, plain_at, named, then_goes}
use Rattle.cse_meaning.proofs.Present.{number_present_goes}

-- the machine tests a row that is found, and it is one of the set
row_is : (n : ℕ) (o : Option ℕ) → ((i : ℕ) → o ≡ Some i → i < n) → row_within n o ≡ o
row_is n None keeps = refl
row_is n (Some i) keeps = ap (λ b. if b then Some i else None) (lt-ltb i n (keeps i refl))

within_up : (d i : ℕ) → i < d → is_within d (i + 1) ≡ true
within_up d i h = and_from _ _ (le-leb 1 (i + 1) (omega arith)) (le-leb (i + 1) d (omega arith))

more_fail : (b : Bool) (rest : Bool) → rest ≡ true → (not b || rest) ≡ true
more_fail true rest e = e
more_fail false rest e = refl

module _ (compose : RunsCompose) (e : Setting) (s : Spot) (c : Context) (first : Option CaseText) (ls : Locals) (laid : IsLaid e s c first ls) (keeps : KeepsRows s.program.dictionary) where
  -- what a row leads to, and the picks behind it
  row_by : (b : Bool) (o : Option ℕ) (set n m drops deep p r : ℕ) (v : Num) (ds : List ℕ) (done : List (ℕ × ℕ)) (cells : List Cell) (w : World) (rest : Option (List ℕ)) → row_in v (spans_at s.program.dictionary set) ≡ o → rows_of (shape_of s.program.dictionary) set ≡ Some n
      → ((i : ℕ) → o ≡ Some i → i < n)
      → HasCode s p ((if b then wide.Plain ops.Row 1 set 0 else wide.Plain ops.Row 0 set (drops + deep)) ∷ []) → (b ≡ false → (deep + length done ≡ m) × HasCode s drops (pops m))
      → (q : ℕ) (u : World) → Goes s.program (at s q (on_top done cells) u) (at s p (Number v ∷ on_top done cells) w)
      → ((j : ℕ) → LedBy s drops m (p + 1) r ((j, row_count b n) ∷ done) ds cells w rest w)
      → LedBy s drops m q r done (row_count b n ∷ ds) cells u (option_and_then (λ i. option_map (λ is. i ∷ is) rest) (picked (row_count b n) b o)) w
  unfolding acts
  row_by true (Some i) set n m drops deep p r v ds done cells w rest is rows keeps has out q u g follow =
      let k : Call = record { routine = s.number; place = p; locals = s.locals; cells = Number v ∷ on_top done cells; opens = s.opens } in
      let step = plain_at compose s laid.there p ops.Row 1 set 0 (Number v ∷ on_top done cells) w _ has
      (ap (λ (o : Option ℕ). left s.below (option_and_then (λ (n : ℕ). rowed k w 1 0 (on_top done cells) n (row_within n (row_in v (spans_at s.program.dictionary set)))) o)) rows
      ∙ ap (λ o. left s.below (rowed k w 1 0 (on_top done cells) n o)) (ap (row_within n) is ∙ row_is n (Some i) keeps)) in
      let h = keeps i refl in
      led_on compose e s c first ls laid rest drops m q (p + 1) r r (i + 1) (n + 1) ds done cells u w w (within_up (n + 1) i (omega arith)) refl (then_goes compose s laid.there _ _ _ g step) (follow (i + 1))
  row_by true None set n m drops deep p r v ds done cells w rest is rows keeps has out q u g follow =
      let k : Call = record { routine = s.number; place = p; locals = s.locals; cells = Number v ∷ on_top done cells; opens = s.opens } in
      let step = plain_at compose s laid.there p ops.Row 1 set 0 (Number v ∷ on_top done cells) w _ has
      (ap (λ (o : Option ℕ). left s.below (option_and_then (λ (n : ℕ). rowed k w 1 0 (on_top done cells) n (row_within n (row_in v (spans_at s.program.dictionary set)))) o)) rows
      ∙ ap (λ o. left s.below (rowed k w 1 0 (on_top done cells) n o)) (ap (row_within n) is ∙ row_is n None keeps)) in
      led_on compose e s c first ls laid rest drops m q (p + 1) r r (n + 1) (n + 1) ds done cells u w w (within_up (n + 1) n (omega arith)) refl (then_goes compose s laid.there _ _ _ g step) (follow (n + 1))
  row_by false (Some i) set n m drops deep p r v ds done cells w rest is rows keeps has out q u g follow =
      let k : Call = record { routine = s.number; place = p; locals = s.locals; cells = Number v ∷ on_top done cells; opens = s.opens } in
      let step = plain_at compose s laid.there p ops.Row 0 set (drops + deep) (Number v ∷ on_top done cells) w _ has
      (ap (λ (o : Option ℕ). left s.below (option_and_then (λ (n : ℕ). rowed k w 0 (drops + deep) (on_top done cells) n (row_within n (row_in v (spans_at s.program.dictionary set)))) o)) rows
      ∙ ap (λ o. left s.below (rowed k w 0 (drops + deep) (on_top done cells) n o)) (ap (row_within n) is ∙ row_is n (Some i) keeps)) in
      led_on compose e s c first ls laid rest drops m q (p + 1) r r (i + 1) n ds done cells u w w (within_up n i (keeps i refl)) refl (then_goes compose s laid.there _ _ _ g step) (follow (i + 1))
  row_by false None set n m drops deep p r v ds done cells w rest is rows keeps has out q u g follow =
      let k : Call = record { routine = s.number; place = p; locals = s.locals; cells = Number v ∷ on_top done cells; opens = s.opens } in
      let step = plain_at compose s laid.there p ops.Row 0 set (drops + deep) (Number v ∷ on_top done cells) w _ has
      (ap (λ (o : Option ℕ). left s.below (option_and_then (λ (n : ℕ). rowed k w 0 (drops + deep) (on_top done cells) n (row_within n (row_in v (spans_at s.program.dictionary set)))) o)) rows
      ∙ ap (λ o. left s.below (rowed k w 0 (drops + deep) (on_top done cells) n o)) (ap (row_within n) is ∙ row_is n None keeps)) in
      let y = out refl in
      let ends = stand_back s.program.image.lists (code_of s.program.image s.number) drops deep (pops deep) (pops (length done)) (pops_length deep) (subst (HasCode s drops) (ap pops (sym y.0) ∙ pops_behind deep (length done)) y.1) in
      let z : drops + deep + length done ≡ drops + m = (let x = y.0 in omega arith) in
      named compose s laid.there _ _ _ _ _ z (then_goes compose s laid.there _ _ _ g (then_goes compose s laid.there _ _ _ step (pops_go compose e s c first ls laid done (drops + deep) cells w ends)))

  -- an index for each pick; where one picks no row, all are dropped
  pub picks_go : (xs : List Pick) (ds : List ℕ) (drops p m : ℕ) (done : List (ℕ × ℕ)) (cells : List Cell) (w : World) → FitsWorld s.program first w → ArePicks (place_in e s c) ds xs → HasCode s p (picks_code drops p xs)
      → (can_fail xs ≡ true → (deepest xs + length done ≡ m) × HasCode s drops (pops m)) → LedBy s drops m p (p + picks_size xs) done ds cells w (picks c w ds xs) w
  picks_go [] [] drops p m done cells w fits fit has out = let z : p ≡ p + 0 = omega arith in (tt, named compose s laid.there _ _ _ _ _ z (stays s.program _ _ refl))
  picks_go [] (d ∷ ds) drops p m done cells w fits fit has out = absurd fit
  picks_go (x ∷ xs) [] drops p m done cells w fits fit has out = absurd fit
  picks_go (x ∷ xs) (d ∷ ds) drops p m done cells w fits fit has out =
      let k = present_size x.item in
      let v = number_here c w x.item in
      let n = fit.1.0 in
      let g = number_present_goes compose e s c first ls laid x.item p (on_top done cells) w fits fit.0 (stand_front s.program.image.lists (code_of s.program.image s.number) p (number_of_item p x.item) _ has) in
      let b = stand_back s.program.image.lists (code_of s.program.image s.number) p k (number_of_item p x.item) _ (item_length p x.item) has in
      let is : row_in v (spans_at s.program.dictionary x.set) ≡ reading.row c x.set v = ap (λ (d : DictionaryText). row_in v (spans_at d x.set)) (sym laid.dictionary) in
      let z : p + k + 1 + picks_size xs ≡ p + (k + 1 + picks_size xs) = omega arith in
      let follow = λ (j : ℕ). picks_go xs ds drops (p + k + 1) m ((j, row_count x.has_leftover n) ∷ done) cells w fits fit.2 b.1
      (λ yes. (let y = out (more_fail x.has_leftover (can_fail xs) yes) in let deep : deepest (x ∷ xs) ≡ deepest xs + 1 = ap (λ b. if b then deepest xs + 1 else 0) yes in let r = y.0 in (omega arith, y.1))) in
      let r = row_by x.has_leftover (reading.row c x.set v) x.set n m drops (deepest (x ∷ xs)) (p + k) (p + k + 1 + picks_size xs) v ds done cells w (picks c w ds xs) is fit.1.1 (λ i e. keeps x.set n i v fit.1.1 (is ∙ e)) (b.0, tt) (λ none. out (or_left (not x.has_leftover) (can_fail xs) (not_from_false x.has_leftover none))) p w g follow in
      subst (λ q. LedBy s drops m p q done (d ∷ ds) cells w (picks c w (d ∷ ds) (x ∷ xs)) w) z
      (subst (λ d. LedBy s drops m p (p + k + 1 + picks_size xs) done (d ∷ ds) cells w (option_and_then (λ i. option_map (λ is. i ∷ is) (picks c w ds xs)) (picked d x.has_leftover (reading.row c x.set v))) w) (sym fit.1.2) r)

-- where no pick can fail there are all indexes
picked_there : (d : ℕ) (o : Option ℕ) → (i : ℕ) × (picked d true o ≡ Some i)
picked_there d (Some i) = (i + 1, refl)
picked_there d None = (d, refl)

no_fail : (b rest : Bool) → (not b || rest) ≡ false → (b ≡ true) × (rest ≡ false)
no_fail true rest e = (refl, e)
no_fail false rest e = cc

pub picks_there : (c : Context) (w : World) (xs : List Pick) (ds : List ℕ) → can_fail xs ≡ false → (is : List ℕ) × (picks c w ds xs ≡ Some is)
picks_there c w [] ds none = ([], refl)
picks_there c w (x ∷ xs) ds none =
    let b = no_fail x.has_leftover (can_fail xs) none in
    let o = reading.row c x.set (number_here c w x.item) in
    let i = picked_there (first_size ds) o in
    let rest = picks_there c w xs (other_sizes ds) b.1 in (
      i.0 ∷ rest.0,
      ap (λ h. option_and_then (λ i. option_map (λ is. i ∷ is) (picks c w (other_sizes ds) xs)) (picked (first_size ds) h o)) b.0
          ∙ (ap (λ (o : Option ℕ). option_and_then (λ i. option_map (λ is. i ∷ is) (picks c w (other_sizes ds) xs)) o) i.1
          ∙ ap (λ (o : Option (List ℕ)). option_map (λ is. i.0 ∷ is) o) rest.1),
    )
