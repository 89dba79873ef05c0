-- The code of an expression does what the expression means.
use Rattle.std.proofs.Common.{◌≡◌, ℕ, suc, ◌+◌, Bool, true, false, List, [], ◌∷◌, ◌++◌, length, Option, Some, None, refl, sym, ap, ◌∙◌, subst, arith}
use Rattle.std.specs.Prelude.{if◌then◌else◌, pos, slice_get, slice_index, option_and_then, option_map, unwrap_or, is_some, map, take}
use Rattle.std.proofs.lemmas.Bool.{false≢true}
use Rattle.cse_value.specs.declared.number.Num.{Num}
use Rattle.cse_value.specs.declared.number.Num.TheVariants.{Whole, Undef}
use Rattle.cse_value.specs.Occurrences.{most_occurrences}
use Rattle.cse_image_parts.specs.declared.instruction.Op.TheVariants as ops
use Rattle.cse_image_parts.specs.declared.entries.Local.{Local}
use Rattle.cse_image_parts.specs.Image.{ArrayLists}
use Rattle.cse_dict.specs.Dictionary.{DictionaryText, shape_of}
use Rattle.cse_case.specs.Case.{CaseText}
use Rattle.cse_decks.specs.declared.global.GlobalValue.{GlobalValue}
use Rattle.cse_decks.specs.declared.global.GlobalValue.TheVariants as values
use Rattle.cse_decks.specs.Store.{number_in, text_in}
use Rattle.cse_code_typing.specs.Code.{code_of}
use Rattle.cse_code_typing.specs.declared.kind.Kind.{Kind}
use Rattle.cse_code_typing.specs.declared.kind.Kind.TheVariants as kind
use Rattle.cse_code_typing.specs.Kinds.{local_kind}
use Rattle.cse_code_typing.specs.Order.{is_run}
use Rattle.cse_code_typing.specs.Signature.{global_at}
use Rattle.cse_logic_tree.specs.declared.tree.Variable.{Variable}
use Rattle.cse_logic_tree.specs.declared.tree.Variable.TheVariants as v
use Rattle.cse_logic_tree.specs.declared.tree.Pick.{Pick}
use Rattle.cse_logic_tree.specs.Typed as tree
use Rattle.cse_logic_tree.specs.Typed.{Numbers, Operations, no_number, number_and, no_operation, operation_and}
use Rattle.cse_compile.specs.Wide as wide
use Rattle.cse_compile.specs.Wide.{Wide, bare, with_a, with_b, with_c, jump, undefined, pops}
use Rattle.cse_compile.specs.Setting.{Setting, size_at, result_local}
use Rattle.cse_compile.specs.Expressions.{can_fail, deepest, picks_size, picks_code, deck_size, deck_code, load, present_size, number_of_item, number_size, number_code, words_size, words_code, operations_size, operations_code, indexes_size, indexes_code, numbers_size, numbers_code, count, behind}
use Rattle.cse_meaning.specs.Fit.{IsDeck, IsNumberVariable, numbers_kinds, NumberFits, WordsFit, NumbersFit, OperationsFit}
use Rattle.cse_meaning.proofs.Lengths.{picks_length, item_length, pops_length, indexes_length, numbers_length, number_length, words_length}
use Rattle.cse_steps.specs.Cell.{Cell, Number, Words, Index}
use Rattle.cse_steps.specs.State.{Call, World}
use Rattle.cse_steps.specs.Step.{acts, or_to}
use Rattle.cse_steps.specs.Fits.{FitsWorld}
use Rattle.cse_steps.specs.Laws.{RunsCompose}
use Rattle.cse_steps.proofs.Calls.{case_for_callee}
use Rattle.cse_meaning.specs.Setting.{Context, Locals, Functions}
use Rattle.cse_meaning.specs.Reading as reading
use Rattle.cse_meaning.specs.Reading.{deck_place, sizes_of, cell, one_if, operated, variable, many, found, number_of_one, number_in as number_there, words_in, number_here, words_here, row, text}
use Rattle.cse_meaning.specs.Expressions.{number_of, words_of, numbers_of, indexes_of, index_and, chained, most}
use Rattle.cse_meaning.specs.Runs.{Goes, Spot, at, HasCode}
use Rattle.cse_meaning.specs.Laid.{IsLaid, KeepsRows, Gives, place_in}
use Rattle.cse_meaning.specs.Follows.{Follows, AreNumbers}
use Rattle.cse_meaning.specs.Plain.{IsOwn, IsPlain, ArePlain, EachPlain, AllPlain}
use Rattle.cse_meaning.specs.Values.{NumbersGo, WordsGo}
use Rattle.cse_meaning.proofs.Facts.{global_number, global_text, parameter_held}
use Rattle.cse_meaning.proofs.Going.{left, stand_front, stand_back, stays, plain_at, named, then_goes, constant_goes, chars_goes, special_goes, local_goes, global_goes, compared_goes, texts_compared_goes, operated_goes, special_tested}
use Rattle.cse_meaning.proofs.Arguments.{pushed, call_goes}
use Rattle.cse_meaning.proofs.Arrays.{on_top, LedBy, Led, sizes_are, cell_goes, pops_go, led_on, pops_behind, size_is, behind_is}
use Rattle.cse_meaning.proofs.Decks.{picks_go, picks_there}
use Rattle.cse_meaning.proofs.Present.{undefined_goes, number_present_goes, words_present_goes, number_at_goes, words_at_goes, total_here, occurrence_here, in_set_goes}
use Rattle.cse_meaning.proofs.Items.{same_within, is_within_from}

-- a run leads from one place to the other, with numbers more on the stack
pub record Pushed (s : Spot) (first : Option CaseText) (p q : ℕ) (cells : List Cell) (w : World) (xs : List Num) (next : World) : Type 0 where
  pub goes : Goes s.program (at s p cells w) (at s q (pushed xs cells) next)
  pub fits : FitsWorld s.program first next

abbrev first_kind : List Kind → Kind
first_kind [] = kind.Number
first_kind (k ∷ ks) = k

abbrev other_kinds : List Kind → List Kind
other_kinds [] = []
other_kinds (k ∷ ks) = ks

-- operations lead from the number on top to another one
pub record Chained (s : Spot) (first : Option CaseText) (p q : ℕ) (n : Num) (cells : List Cell) (w : World) (m : Num) (next : World) : Type 0 where
  pub goes : Goes s.program (at s p (Number n ∷ cells) w) (at s q (Number m ∷ cells) next)
  pub fits : FitsWorld s.program first next

module _ (compose : RunsCompose) (e : Setting) (s : Spot) (fn : Functions) (c : Context) (first : Option CaseText) (ls : Locals) (laid : IsLaid e s c first ls) (keeps : KeepsRows s.program.dictionary) (follows : Follows s.program first fn s.number) where
  -- ---- what stands behind an expression

  front : (p : ℕ) (x : tree.Number) (ws : List Wide) → HasCode s p (number_code e p x ++ ws) → HasCode s p (number_code e p x)
  front p x ws has = stand_front s.program.image.lists (code_of s.program.image s.number) p (number_code e p x) ws has

  back : (p : ℕ) (x : tree.Number) (ws : List Wide) → HasCode s p (number_code e p x ++ ws) → HasCode s (p + number_size x) ws
  back p x ws has = stand_back s.program.image.lists (code_of s.program.image s.number) p (number_size x) (number_code e p x) ws (number_length e p x) has

  front_words : (p : ℕ) (x : tree.Words) (ws : List Wide) → HasCode s p (words_code e p x ++ ws) → HasCode s p (words_code e p x)
  front_words p x ws has = stand_front s.program.image.lists (code_of s.program.image s.number) p (words_code e p x) ws has

  back_words : (p : ℕ) (x : tree.Words) (ws : List Wide) → HasCode s p (words_code e p x ++ ws) → HasCode s (p + words_size x) ws
  back_words p x ws has = stand_back s.program.image.lists (code_of s.program.image s.number) p (words_size x) (words_code e p x) ws (words_length e p x) has

  -- ---- variables

  variable_goes : (x : Variable) (p : ℕ) (cells : List Cell) (w : World) → FitsWorld s.program first w → IsOwn (length ls.parameters) x → IsNumberVariable (place_in e s c) x → HasCode s p (load e x ∷ []) → Goes s.program (at s p cells w) (at s (p + 1) (Number (variable w ls x) ∷ cells) w)
  variable_goes (v.Global g) p cells w fits own fit has =
      let n = global_number s.program first w fits g fit in
      subst (λ x. Goes s.program (at s p cells w) (at s (p + 1) (Number x ∷ cells) w)) (sym (ap (λ (o : Option GlobalValue). unwrap_or (option_and_then number_in o) Undef) n.1))
      (global_goes compose s laid.there p g (values.Number n.0) cells w n.1 has)
  variable_goes (v.Parameter k) p cells w fits own fit has = local_goes compose s laid.there p k _ cells w (parameter_held e s c first ls laid w fits k own) has
  variable_goes v.Result p cells w fits own fit has = local_goes compose s laid.there p (result_local e) _ cells w (laid.result fit) has

  text_goes : (g p : ℕ) (cells : List Cell) (w : World) → FitsWorld s.program first w → global_at s.program.image.lists g ≡ Some kind.Text → HasCode s p (with_c ops.LoadGlobal g ∷ []) → Goes s.program (at s p cells w) (at s (p + 1) (Words (text w g) ∷ cells) w)
  text_goes g p cells w fits fit has =
      let t = global_text s.program first w fits g fit in
      subst (λ x. Goes s.program (at s p cells w) (at s (p + 1) (Words x ∷ cells) w)) (sym (ap (λ (o : Option GlobalValue). unwrap_or (option_and_then text_in o) []) t.1))
      (global_goes compose s laid.there p g (values.Words (record { items = t.0 })) cells w t.1 has)

  -- ---- arguments

  pub are_numbers : (xs : Numbers) (parameters : List Local) (w : World) → map local_kind parameters ≡ numbers_kinds xs → AreNumbers parameters (numbers_of fn c xs ls w).0
  unfolding numbers_of
  are_numbers no_number [] w e = tt
  are_numbers no_number (l ∷ parameters) w e = cc
  are_numbers (number_and x xs) [] w e = cc
  are_numbers (number_and x xs) (l ∷ parameters) w e = (ap (λ ks. first_kind ks) e, are_numbers xs parameters (number_of fn c x ls w).1 (ap (λ ks. other_kinds ks) e))

  -- ---- indexes

  -- what follows an index, by whether it is there
  index_by : (x : tree.Number) (xs : Numbers) (ds : List ℕ) (d drops p m : ℕ) (done : List (ℕ × ℕ)) (cells : List Cell) (w : World)
      → Gives s first p (p + number_size x) (on_top done cells) w (Number (number_of fn c x ls w).0) (number_of fn c x ls w).1
      → (o : Option ℕ) → number_of_one d (number_of fn c x ls w).0 ≡ o
      → HasCode s (p + number_size x) (wide.Plain ops.Index 0 d (drops + count xs) ∷ []) → HasCode s drops (pops m) → length done + count xs ≡ m
      → ((i : ℕ) → Led s first drops m (p + number_size x + 1) (p + number_size x + 1 + indexes_size xs) ((i, d) ∷ done) ds cells (number_of fn c x ls w).1 (indexes_of fn c ds xs ls (number_of fn c x ls w).1))
      → Led s first drops m p (p + (number_size x + (indexes_size xs + 1))) done (d ∷ ds) cells w (index_and o (number_of fn c x ls w).1 (indexes_of fn c ds xs ls))
  unfolding acts
  index_by x xs ds d drops p m done cells w g None is has out long rest =
      let n = (number_of fn c x ls w).0 in
      let w1 = (number_of fn c x ls w).1 in
      let q = p + number_size x in
      let k : Call = record { routine = s.number; place = q; locals = s.locals; cells = Number n ∷ on_top done cells; opens = s.opens } in
      let i = plain_at compose s laid.there q ops.Index 0 d (drops + count xs) (Number n ∷ on_top done cells) w1 _ has
      (ap (λ o. left s.below (or_to k w1 (drops + count xs) (on_top done cells) (option_map (λ i. Index i d) o))) (sym (same_within d n) ∙ is)) in
      let y : count xs + length done ≡ m = omega arith in
      let ends = stand_back s.program.image.lists (code_of s.program.image s.number) drops (count xs) (pops (count xs)) (pops (length done)) (pops_length (count xs)) (subst (HasCode s drops) (ap pops (sym y) ∙ pops_behind (count xs) (length done)) out) in
      let o = pops_go compose e s c first ls laid done (drops + count xs) cells w1 ends in
      let z : drops + count xs + length done ≡ drops + m = omega arith in
      record { goes = named compose s laid.there _ _ _ _ _ z (then_goes compose s laid.there _ _ _ g.goes (then_goes compose s laid.there _ _ _ i o)); fits = g.fits }
  index_by x xs ds d drops p m done cells w g (Some j) is has out long rest =
      let n = (number_of fn c x ls w).0 in
      let w1 = (number_of fn c x ls w).1 in
      let q = p + number_size x in
      let k : Call = record { routine = s.number; place = q; locals = s.locals; cells = Number n ∷ on_top done cells; opens = s.opens } in
      let i = plain_at compose s laid.there q ops.Index 0 d (drops + count xs) (Number n ∷ on_top done cells) w1 _ has
      (ap (λ o. left s.below (or_to k w1 (drops + count xs) (on_top done cells) (option_map (λ i. Index i d) o))) (sym (same_within d n) ∙ is)) in
      let r = rest j in
      let z : q + 1 + indexes_size xs ≡ p + (number_size x + (indexes_size xs + 1)) = omega arith in
      record {
        goes = led_on compose e s c first ls laid (indexes_of fn c ds xs ls w1).0 drops m p (q + 1) _ _ j d ds done cells w w1 (indexes_of fn c ds xs ls w1).1 (is_within_from d n j (sym (same_within d n) ∙ is)) z (then_goes compose s laid.there _ _ _ g.goes i) r.goes;
        fits = r.fits;
      }

  -- the cell by the indexes, or `default`
  cell_by : (o : Option (List ℕ)) (array n m p : ℕ) (cells : List Cell) (w next : World) (a : ArrayLists) → slice_get s.program.image.lists.arrays array ≡ Some a → FitsWorld s.program first next
      → LedBy s (p + n + 2) m p (p + n) [] a.dimensions cells w o next
      → HasCode s (p + n) (with_c ops.LoadCell array ∷ []) → HasCode s (p + n + 1) (jump (p + n + (m + 3)) ∷ []) → HasCode s (p + n + 2 + m) (undefined ∷ [])
      → Goes s.program (at s p cells w) (at s (p + (n + (m + 3))) (Number (cell c next array o) ∷ cells) next)
  unfolding acts
  cell_by None array n m p cells w next a is fits g load jumps last =
      let u = undefined_goes compose e s c first ls laid next (p + n + 2 + m) cells last in
      let z : p + n + 2 + m + 1 ≡ p + (n + (m + 3)) = omega arith in
      named compose s laid.there _ _ _ _ _ z (then_goes compose s laid.there _ _ _ g u)
  cell_by (Some is) array n m p cells w next a there fits g load jumps last =
      let l = cell_goes compose e s c first ls laid array a is (p + n) cells next there fits g.0 load in
      let j = plain_at compose s laid.there (p + n + 1) ops.Jump 0 0 (p + n + (m + 3)) (Number (cell c next array (Some is)) ∷ cells) next _ jumps refl in
      let z : p + n + (m + 3) ≡ p + (n + (m + 3)) = omega arith in
      named compose s laid.there _ _ _ _ _ z (then_goes compose s laid.there _ _ _ g.1 (then_goes compose s laid.there _ _ _ l j))

  -- the cell of a hot deck
  deck_goes : (b : Bool) (array : ℕ) (picks : List Pick) (p : ℕ) (cells : List Cell) (w : World) → can_fail picks ≡ b → FitsWorld s.program first w → IsDeck (place_in e s c) array picks
      → HasCode s p (picks_code (p + picks_size picks + 2) p picks ++ deck_code array (p + picks_size picks) picks)
      → Goes s.program (at s p cells w) (at s (p + (picks_size picks + deck_size picks)) (Number (cell c w array (deck_place c w array picks)) ∷ cells) w)
  deck_goes true array picks p cells w can fits fit has =
      let n = picks_size picks in
      let m = deepest picks in
      let a = fit.0 in
      let size : deck_size picks ≡ m + 3 = ap (λ b. if b then m + 3 else 1) can in
      let code : deck_code array (p + n) picks ≡ with_c ops.LoadCell array ∷ jump (p + n + m + 3) ∷ (pops m ++ undefined ∷ []) = ap (λ b. if b then with_c ops.LoadCell array ∷ jump (p + n + m + 3) ∷ (pops m ++ undefined ∷ []) else with_c ops.LoadCell array ∷ []) can in
      let hp = stand_front s.program.image.lists (code_of s.program.image s.number) p (picks_code (p + n + 2) p picks) _ has in
      let h = subst (HasCode s (p + n)) code (stand_back s.program.image.lists (code_of s.program.image s.number) p n (picks_code (p + n + 2) p picks) _ (picks_length (p + n + 2) p picks) has) in
      let y : p + n + 1 + 1 ≡ p + n + 2 = omega arith in
      let ends = subst (λ r. HasCode s r (pops m ++ undefined ∷ [])) y h.1.1 in
      let drops = stand_front s.program.image.lists (code_of s.program.image s.number) (p + n + 2) (pops m) _ ends in
      let last = stand_back s.program.image.lists (code_of s.program.image s.number) (p + n + 2) m (pops m) _ (pops_length m) ends in
      let to : p + n + m + 3 ≡ p + n + (m + 3) = omega arith in
      let jumps = subst (λ r. HasCode s (p + n + 1) (jump r ∷ [])) to (h.1.0, tt) in
      let same = sizes_are compose e s c first ls laid array a fit.1 in
      let zero_more : m + 0 ≡ m = omega arith in
      let g = picks_go compose e s c first ls laid keeps picks a.dimensions (p + n + 2) p m [] cells w fits fit.2 hp (λ yes. (zero_more, drops)) in
      let g : LedBy s (p + n + 2) m p (p + n) [] a.dimensions cells w (deck_place c w array picks) w = subst (λ l. LedBy s (p + n + 2) m p (p + n) [] a.dimensions cells w (reading.picks c w l picks) w) (sym same) g in
      let z : p + (n + (m + 3)) ≡ p + (n + deck_size picks) = omega (arith, size) in
      named compose s laid.there _ _ _ _ _ z (cell_by (deck_place c w array picks) array n m p cells w w a fit.1 fits g (h.0, tt) jumps last)
  deck_goes false array picks p cells w can fits fit has =
      let n = picks_size picks in
      let m = deepest picks in
      let a = fit.0 in
      let size : deck_size picks ≡ 1 = ap (λ b. if b then m + 3 else 1) can in
      let code : deck_code array (p + n) picks ≡ with_c ops.LoadCell array ∷ [] = ap (λ b. if b then with_c ops.LoadCell array ∷ jump (p + n + m + 3) ∷ (pops m ++ undefined ∷ []) else with_c ops.LoadCell array ∷ []) can in
      let hp = stand_front s.program.image.lists (code_of s.program.image s.number) p (picks_code (p + n + 2) p picks) _ has in
      let h = subst (HasCode s (p + n)) code (stand_back s.program.image.lists (code_of s.program.image s.number) p n (picks_code (p + n + 2) p picks) _ (picks_length (p + n + 2) p picks) has) in
      let same = sizes_are compose e s c first ls laid array a fit.1 in
      let g = picks_go compose e s c first ls laid keeps picks a.dimensions (p + n + 2) p m [] cells w fits fit.2 hp (λ yes. absurd (false≢true (sym can ∙ yes))) in
      let is = picks_there c w picks a.dimensions can in
      let g : LedBy s (p + n + 2) m p (p + n) [] a.dimensions cells w (Some is.0) w = subst (λ o. LedBy s (p + n + 2) m p (p + n) [] a.dimensions cells w o w) is.1 g in
      let l = cell_goes compose e s c first ls laid array a is.0 (p + n) cells w fit.1 fits g.0 h in
      let place : deck_place c w array picks ≡ Some is.0 = ap (λ l. reading.picks c w l picks) same ∙ is.1 in
      let z : p + n + 1 ≡ p + (n + deck_size picks) = omega (arith, size) in
      subst (λ o. Goes s.program (at s p cells w) (at s (p + (n + deck_size picks)) (Number (cell c w array o) ∷ cells) w)) (sym place)
      (named compose s laid.there _ _ _ _ _ z (then_goes compose s laid.there _ _ _ g.1 l))

  -- ---- all of them

  mutual
    unfolding number_size number_code words_size words_code numbers_size numbers_code operations_size operations_code indexes_size indexes_code number_of words_of numbers_of indexes_of chained acts

    pub number_goes : (x : tree.Number) (p : ℕ) (cells : List Cell) (w : World) → FitsWorld s.program first w → IsPlain (length ls.parameters) x → NumberFits (place_in e s c) x → HasCode s p (number_code e p x) → Gives s first p (p + number_size x) cells w (Number (number_of fn c x ls w).0) (number_of fn c x ls w).1
    number_goes (tree.Constant digits value) p cells w fits plain fit has = record { goes = constant_goes compose s laid.there p value cells w has; fits = fits }
    number_goes (tree.Special' token value) p cells w fits plain fit has = record { goes = special_goes compose s laid.there p value cells w has; fits = fits }
    number_goes (tree.Variable' name x) p cells w fits plain fit has = record { goes = variable_goes x p cells w fits plain fit has; fits = fits }
    number_goes (tree.Item name item) p cells w fits plain fit has = record { goes = number_present_goes compose e s c first ls laid item p cells w fits fit has; fits = fits }
    number_goes (tree.ItemAt name field x) p cells w fits plain fit has =
        let g = number_goes x p cells w fits plain fit.1 (front p x _ has) in
        let h = number_at_goes compose e s c first ls laid field (number_of fn c x ls w).0 (p + number_size x) cells (number_of fn c x ls w).1 g.fits fit.0 (back p x _ has) in
        let z : p + number_size x + 4 ≡ p + (number_size x + 4) = omega arith in
        record { goes = named compose s laid.there _ _ _ _ _ z (then_goes compose s laid.there _ _ _ g.goes h); fits = g.fits }
    number_goes (tree.Group x) p cells w fits plain fit has = number_goes x p cells w fits plain fit has
    number_goes (tree.Int x) p cells w fits plain fit has = number_goes x p cells w fits plain fit has
    number_goes (tree.IsSpecial x) p cells w fits plain fit has =
        let g = number_goes x p cells w fits plain fit (front p x _ has) in
        let h = special_tested compose s laid.there (p + number_size x) (number_of fn c x ls w).0 cells (number_of fn c x ls w).1 (back p x _ has) in
        let z : p + number_size x + 1 ≡ p + (number_size x + 1) = omega arith in
        record { goes = named compose s laid.there _ _ _ _ _ z (then_goes compose s laid.there _ _ _ g.goes h); fits = g.fits }
    number_goes (tree.TotOcc name of) p cells w fits plain fit has = record { goes = total_here compose e s c first ls laid of p cells w fits fit has; fits = fits }
    number_goes (tree.MaxOcc name of) p cells w fits plain fit has =
        let m : most_occurrences e.records of ≡ most c of = ap (λ r. most_occurrences r of) laid.records ∙ ap (λ (d : DictionaryText). most_occurrences (shape_of d).records of) (sym laid.dictionary) in
        record { goes = subst (λ n. Goes s.program (at s p cells w) (at s (p + 1) (Number (Whole (pos n)) ∷ cells) w)) m (constant_goes compose s laid.there p (pos (most_occurrences e.records of)) cells w has); fits = fits }
    number_goes (tree.CurOcc name of x) p cells w fits plain fit has = record { goes = occurrence_here compose e s c first ls laid of x p cells w fits fit.0 fit.1 has; fits = fits }
    number_goes (tree.InSet name item set_name set) p cells w fits plain fit has =
        let g = number_present_goes compose e s c first ls laid item p cells w fits fit.0 (stand_front s.program.image.lists (code_of s.program.image s.number) p (number_of_item p item) _ has) in
        let h = in_set_goes compose e s c first ls laid set fit.1.0 (p + present_size item) (number_here c w item) cells w fit.1.1 (stand_back s.program.image.lists (code_of s.program.image s.number) p (present_size item) (number_of_item p item) _ (item_length p item) has) in
        let z : p + present_size item + 1 ≡ p + (present_size item + 1) = omega arith in
        record { goes = named compose s laid.there _ _ _ _ _ z (then_goes compose s laid.there _ _ _ g h); fits = fits }
    number_goes (tree.Minus x) p cells w fits plain fit has =
        let g = number_goes x p cells w fits plain fit (front p x _ has) in
        let h = plain_at compose s laid.there (p + number_size x) ops.Negate 0 0 0 (Number (number_of fn c x ls w).0 ∷ cells) (number_of fn c x ls w).1 _ (back p x _ has) refl in
        let z : p + number_size x + 1 ≡ p + (number_size x + 1) = omega arith in
        record { goes = named compose s laid.there _ _ _ _ _ z (then_goes compose s laid.there _ _ _ g.goes h); fits = g.fits }
    number_goes (tree.Not x) p cells w fits plain fit has =
        let g = number_goes x p cells w fits plain fit (front p x _ has) in
        let h = plain_at compose s laid.there (p + number_size x) ops.Not 0 0 0 (Number (number_of fn c x ls w).0 ∷ cells) (number_of fn c x ls w).1 _ (back p x _ has) refl in
        let z : p + number_size x + 1 ≡ p + (number_size x + 1) = omega arith in
        record { goes = named compose s laid.there _ _ _ _ _ z (then_goes compose s laid.there _ _ _ g.goes h); fits = g.fits }
    number_goes (tree.Compare relation x y) p cells w fits plain fit has =
        let w1 = (number_of fn c x ls w).1 in
        let q = p + number_size x in
        let b = back p x _ has in
        let g = number_goes x p cells w fits plain.0 fit.0 (front p x _ has) in
        let h = number_goes y q (Number (number_of fn c x ls w).0 ∷ cells) w1 g.fits plain.1 fit.1 (front q y _ b) in
        let k = compared_goes compose s laid.there relation (q + number_size y) (number_of fn c x ls w).0 (number_of fn c y ls w1).0 cells (number_of fn c y ls w1).1 (back q y _ b) in
        let z : p + number_size x + number_size y + 1 ≡ p + (number_size x + (number_size y + 1)) = omega arith in
        record { goes = named compose s laid.there _ _ _ _ _ z (then_goes compose s laid.there _ _ _ g.goes (then_goes compose s laid.there _ _ _ h.goes k)); fits = h.fits }
    number_goes (tree.CompareTexts relation x y) p cells w fits plain fit has =
        let w1 = (words_of fn c x ls w).1 in
        let q = p + words_size x in
        let b = back_words p x _ has in
        let g = words_goes x p cells w fits plain.0 fit.0 (front_words p x _ has) in
        let h = words_goes y q (Words (words_of fn c x ls w).0 ∷ cells) w1 g.fits plain.1 fit.1 (front_words q y _ b) in
        let k = texts_compared_goes compose s laid.there relation (q + words_size y) (words_of fn c x ls w).0 (words_of fn c y ls w1).0 cells (words_of fn c y ls w1).1 (back_words q y _ b) in
        let z : p + words_size x + words_size y + 1 ≡ p + (words_size x + (words_size y + 1)) = omega arith in
        record { goes = named compose s laid.there _ _ _ _ _ z (then_goes compose s laid.there _ _ _ g.goes (then_goes compose s laid.there _ _ _ h.goes k)); fits = h.fits }
    number_goes (tree.Chain x xs) p cells w fits plain fit has =
        let w1 = (number_of fn c x ls w).1 in
        let g = number_goes x p cells w fits plain.0 fit.0 (front p x _ has) in
        let h = chain_goes xs (number_of fn c x ls w).0 (p + number_size x) cells w1 g.fits plain.1 fit.1 (back p x _ has) in
        let z : p + number_size x + operations_size xs ≡ p + (number_size x + operations_size xs) = omega arith in
        record { goes = named compose s laid.there _ _ _ _ _ z (then_goes compose s laid.there _ _ _ g.goes h.goes); fits = h.fits }
    number_goes (tree.Cell name array xs) p cells w fits plain fit has =
        let n = indexes_size xs in
        let m = behind xs in
        let q = p + n in
        let a = fit.0.0 in
        let hi = stand_front s.program.image.lists (code_of s.program.image s.number) p (indexes_code e array (p + n + 2) 0 p xs) _ has in
        let h = stand_back s.program.image.lists (code_of s.program.image s.number) p n (indexes_code e array (p + n + 2) 0 p xs) _ (indexes_length e array (p + n + 2) 0 p xs) has in
        let y : q + 1 + 1 ≡ p + n + 2 = omega arith in
        let ends = subst (λ r. HasCode s r (pops m ++ undefined ∷ [])) y h.1.1 in
        let drops = stand_front s.program.image.lists (code_of s.program.image s.number) (p + n + 2) (pops m) _ ends in
        let last = stand_back s.program.image.lists (code_of s.program.image s.number) (p + n + 2) m (pops m) _ (pops_length m) ends in
        let same = sizes_are compose e s c first ls laid array a fit.0.1 in
        let g = indexes_go xs a.dimensions array (p + n + 2) 0 p m [] cells w fits plain fit.1 (λ k. size_is e array a.dimensions k fit.0.2) fit.0.3 (behind_is xs fit.0.4) hi drops in
        let g : Led s first (p + n + 2) m p q [] a.dimensions cells w (indexes_of fn c (sizes_of c array) xs ls w) = subst (λ l. Led s first (p + n + 2) m p q [] a.dimensions cells w (indexes_of fn c l xs ls w)) (sym same) g in
        record { goes = cell_by (indexes_of fn c (sizes_of c array) xs ls w).0 array n m p cells w (indexes_of fn c (sizes_of c array) xs ls w).1 a fit.0.1 g.fits g.goes (h.0, tt) (h.1.0, tt) last; fits = g.fits }
    number_goes (tree.Call name function xs) p cells w fits plain fit has =
        let n = numbers_size xs in
        let y = fit.0.0 in
        let args = (numbers_of fn c xs ls w).0 in
        let w1 = (numbers_of fn c xs ls w).1 in
        let g = numbers_go xs p cells w fits plain fit.1 (stand_front s.program.image.lists (code_of s.program.image s.number) p (numbers_code e p xs) _ has) in
        let h = stand_back s.program.image.lists (code_of s.program.image s.number) p n (numbers_code e p xs) _ (numbers_length e p xs) has in
        let may = case_for_callee s.program.image.lists.routines s.number function (is_run s.routine.ambient) (is_some first) y fit.0.4 fit.0.1 in
        let are = are_numbers xs (take y.parameters y.locals) w fit.0.3 in
        let k = call_goes compose s laid.there first fn follows function (p + n) y args cells w1 may.0 fit.0.1 fit.0.2 are (may.1 laid.ambient) g.fits (h.0, tt) in
        let z : p + n + 1 ≡ p + (n + 1) = omega arith in
        record {
          goes = named compose s laid.there _ _ _ _ _ z (then_goes compose s laid.there _ _ _ g.goes k);
          fits = follows.fits function y args w1 may.0 fit.0.1 fit.0.2 are (may.1 laid.ambient) g.fits;
        }
    number_goes (tree.Deck name array picks) p cells w fits plain fit has = record { goes = deck_goes (can_fail picks) array picks p cells w refl fits fit has; fits = fits }

    -- one after the other
    pub numbers_go : (xs : Numbers) (p : ℕ) (cells : List Cell) (w : World) → FitsWorld s.program first w → EachPlain (length ls.parameters) xs → NumbersFit (place_in e s c) xs → HasCode s p (numbers_code e p xs)
        → Pushed s first p (p + numbers_size xs) cells w (numbers_of fn c xs ls w).0 (numbers_of fn c xs ls w).1
    numbers_go no_number p cells w fits plain fit has =
        let z : p ≡ p + 0 = omega arith in
        record { goes = named compose s laid.there _ _ _ _ _ z (stays s.program _ _ refl); fits = fits }
    numbers_go (number_and x xs) p cells w fits plain fit has =
        let g = number_goes x p cells w fits plain.0 fit.0 (front p x _ has) in
        let h = numbers_go xs (p + number_size x) (Number (number_of fn c x ls w).0 ∷ cells) (number_of fn c x ls w).1 g.fits plain.1 fit.1 (back p x _ has) in
        let z : p + number_size x + numbers_size xs ≡ p + (number_size x + numbers_size xs) = omega arith in
        record { goes = named compose s laid.there _ _ _ _ _ z (then_goes compose s laid.there _ _ _ g.goes h.goes); fits = h.fits }

    -- indexes of an array, from a direction on; where one isn't there, all are dropped
    pub indexes_go : (xs : Numbers) (ds : List ℕ) (array drops j p m : ℕ) (done : List (ℕ × ℕ)) (cells : List Cell) (w : World) → FitsWorld s.program first w → EachPlain (length ls.parameters) xs → NumbersFit (place_in e s c) xs
        → ((k : ℕ) → size_at e array (j + k) ≡ slice_index ds k) → length ds ≡ count xs → length done + count xs ≡ m + 1
        → HasCode s p (indexes_code e array drops j p xs) → HasCode s drops (pops m) → Led s first drops m p (p + indexes_size xs) done ds cells w (indexes_of fn c ds xs ls w)
    indexes_go no_number [] array drops j p m done cells w fits plain fit sizes long all has out =
        let z : p ≡ p + 0 = omega arith in
        record { goes = (tt, named compose s laid.there _ _ _ _ _ z (stays s.program _ _ refl)); fits = fits }
    indexes_go no_number (d ∷ ds) array drops j p m done cells w fits plain fit sizes long all has out = absurd (omega arith)
    indexes_go (number_and x xs) [] array drops j p m done cells w fits plain fit sizes long all has out = absurd (omega arith)
    indexes_go (number_and x xs) (d ∷ ds) array drops j p m done cells w fits plain fit sizes long all has out =
        let g = number_goes x p (on_top done cells) w fits plain.0 fit.0 (front p x _ has) in
        let b = back p x _ has in
        let n = (number_of fn c x ls w).0 in
        let w1 = (number_of fn c x ls w).1 in
        let z : j ≡ j + 0 = omega arith in
        let size : size_at e array j ≡ d = ap (size_at e array) z ∙ sizes 0 in
        let i = subst (λ d. HasCode s (p + number_size x) (wide.Plain ops.Index 0 d (drops + count xs) ∷ [])) size (b.0, tt) in
        let rest = λ (i : ℕ). indexes_go xs ds array drops (j + 1) (p + number_size x + 1) m ((i, d) ∷ done) cells w1 g.fits plain.1 fit.1
        (λ k. (let y : j + 1 + k ≡ j + suc k = omega arith in ap (size_at e array) y ∙ sizes (suc k))) (omega arith) (omega arith) b.1 out in
        index_by x xs ds d drops p m done cells w g (number_of_one d n) refl i out (omega arith) rest

    pub words_goes : (x : tree.Words) (p : ℕ) (cells : List Cell) (w : World) → FitsWorld s.program first w → ArePlain (length ls.parameters) x → WordsFit (place_in e s c) x → HasCode s p (words_code e p x) → Gives s first p (p + words_size x) cells w (Words (words_of fn c x ls w).0) (words_of fn c x ls w).1
    words_goes (tree.Quoted x) p cells w fits plain fit has = record { goes = chars_goes compose s laid.there p _ cells w has; fits = fits }
    words_goes (tree.TextGlobal name g) p cells w fits plain fit has = record { goes = text_goes g p cells w fits fit has; fits = fits }
    words_goes (tree.TextItem name item) p cells w fits plain fit has = record { goes = words_present_goes compose e s c first ls laid item p cells w fits fit has; fits = fits }
    words_goes (tree.TextItemAt name field x) p cells w fits plain fit has =
        let g = number_goes x p cells w fits plain fit.1 (front p x _ has) in
        let h = words_at_goes compose e s c first ls laid field (number_of fn c x ls w).0 (p + number_size x) cells (number_of fn c x ls w).1 g.fits fit.0 (back p x _ has) in
        let z : p + number_size x + 4 ≡ p + (number_size x + 4) = omega arith in
        record { goes = named compose s laid.there _ _ _ _ _ z (then_goes compose s laid.there _ _ _ g.goes h); fits = g.fits }
    words_goes (tree.TextGroup x) p cells w fits plain fit has = words_goes x p cells w fits plain fit has

    pub chain_goes : (xs : Operations) (n : Num) (p : ℕ) (cells : List Cell) (w : World) → FitsWorld s.program first w → AllPlain (length ls.parameters) xs → OperationsFit (place_in e s c) xs → HasCode s p (operations_code e p xs)
        → Chained s first p (p + operations_size xs) n cells w (chained fn c xs ls n w).0 (chained fn c xs ls n w).1
    chain_goes no_operation n p cells w fits plain fit has =
        let z : p ≡ p + 0 = omega arith in
        record { goes = named compose s laid.there _ _ _ _ _ z (stays s.program _ _ refl); fits = fits }
    chain_goes (operation_and operator x xs) n p cells w fits plain fit has =
        let w1 = (number_of fn c x ls w).1 in
        let q = p + number_size x in
        let b = back p x _ has in
        let g = number_goes x p (Number n ∷ cells) w fits plain.0 fit.0 (front p x _ has) in
        let h = operated_goes compose s laid.there operator q n (number_of fn c x ls w).0 cells w1 (b.0, tt) in
        let k = chain_goes xs (operated operator n (number_of fn c x ls w).0) (q + 1) cells w1 g.fits plain.1 fit.1 b.1 in
        let z : p + number_size x + 1 + operations_size xs ≡ p + (number_size x + (operations_size xs + 1)) = omega arith in
        record { goes = named compose s laid.there _ _ _ _ _ z (then_goes compose s laid.there _ _ _ g.goes (then_goes compose s laid.there _ _ _ h k.goes)); fits = k.fits }

pub each_goes : RunsCompose → NumbersGo
each_goes compose e s fn c first ls x p cells w laid keeps follows fits plain fit has = number_goes compose e s fn c first ls laid keeps follows x p cells w fits plain fit has

pub all_words_go : RunsCompose → WordsGo
all_words_go compose e s fn c first ls x p cells w laid keeps follows fits plain fit has = words_goes compose e s fn c first ls laid keeps follows x p cells w fits plain fit has
