-- The code of expressions fits, where their names stand for entries of tables and their places are below 4,000,000.
use Rattle.std.proofs.Common.{◌≤◌, ◌<◌, ◌^◌, ℕ, zero, suc, ◌+◌, Bool, true, false, List, [], ◌∷◌, ◌++◌, length, arith}
use Rattle.std.specs.Prelude.{if◌then◌else◌, ◌==◌}
use Rattle.std.proofs.lemmas.Option.{slice_get_within}
use Rattle.cse_lemmas.proofs.Lists.{AllByRecursion-append}
use Rattle.cse_logic_tree.specs.declared.tree.Found.{Found}
use Rattle.cse_logic_tree.specs.declared.tree.Found.TheVariants as h
use Rattle.cse_logic_tree.specs.declared.tree.Present.{Present}
use Rattle.cse_logic_tree.specs.declared.tree.Present.TheVariants as p
use Rattle.cse_logic_tree.specs.declared.tree.Pick.{Pick}
use Rattle.cse_logic_tree.specs.Typed.{Number, Words, Numbers, Operations, Constant, Special', Variable', Item, ItemAt, Cell, Call, Group, Int, IsSpecial, Deck, TotOcc, MaxOcc, CurOcc, InSet, Minus, Not, Compare, CompareTexts, Chain}
use Rattle.cse_logic_tree.specs.Typed.{Quoted, TextGlobal, TextItem, TextItemAt, TextGroup, no_number, number_and, no_operation, operation_and}
use Rattle.cse_value.specs.Occurrences.{most_occurrences}
use Rattle.cse_image_parts.specs.declared.instruction.Op.TheVariants as ops
use Rattle.cse_code_typing.specs.declared.kind.Kind.TheVariants as kind
use Rattle.cse_compile.specs.Wide as w
use Rattle.cse_compile.specs.Wide.{Wide, with_a, with_c, jump, undefined, pops, jump_over}
use Rattle.cse_compile.specs.Setting.{size_at}
use Rattle.cse_compile.specs.Expressions.{special_number, relation_number, guarded, here_size, here_code, present_size, number_of_item, text_of_item, can_fail, deepest, row, picks_size, picks_code, deck_code, count, behind, number_size, words_size, numbers_size, indexes_size, operations_size, number_code, words_code, numbers_code, indexes_code, operations_code}
use Rattle.cse_compile.proofs.Small.{deepest_small}
use Rattle.cse_meaning.specs.Fit.{Spot, IsNumberPresent, IsTextPresent, IsArray, ArePicks, IsDeck, IsFunction, NumberFits, WordsFit, NumbersFit, OperationsFit}
use Rattle.cse_meaning.proofs.SoundSizes.{picks_many}
use Rattle.cse_meaning.proofs.RoomPlain.{current_fits, number_of_fits, total_fits, occurrence_fits, load_local, load_global, load_cell, jump_fits, id_number_fits, id_text_fits, item_number, item_text, call_fits, row_or_place, row_or_leftover, in_set, index_fits, special_fits, pop_fits, compare_fits, compare_text_fits, negate_fits, not_fits, is_special_fits, operation_fits, relation_small, special_small}
use Rattle.cse_meaning.proofs.Pooled.{WideFits, CodeFits}
use Rattle.cse_meaning.proofs.Leaves.{NumberHolds, WordsHold, NumbersHold, OperationsHold}
use Rattle.cse_meaning.proofs.RoomFacts.{IsRoomy, mapped_within, item_within, set_within, small_number, no_text, load_fits, record_small, size_fits}

pub joined : (xs ys : List Wide) → CodeFits xs → CodeFits ys → CodeFits (xs ++ ys)
joined xs ys f g = AllByRecursion-append WideFits xs ys f g

pub either_fits : (b : Bool) (xs ys : List Wide) → CodeFits xs → CodeFits ys → CodeFits (if b then xs else ys)
either_fits true xs ys f g = f
either_fits false xs ys f g = g

pub undefined_fits : WideFits undefined
undefined_fits = special_fits 2 (omega arith)

pub pops_fit : (n : ℕ) → CodeFits (pops n)
pops_fit zero = tt
pops_fit (suc n) = (pop_fits 2 (omega arith), pops_fit n)

pub jump_over_fits : (end n : ℕ) → end < 2 ^ 32 → CodeFits (jump_over end n)
jump_over_fits end n small = either_fits (n == 0) [] (jump end ∷ []) tt (jump_fits end small, tt)

pub count_behind : (xs : Numbers) → behind xs ≤ count xs
count_behind no_number = omega arith
count_behind (number_and x xs) = omega arith

-- ---- items

module _ (taken none : Wide) (of : ℕ) (there : of < 256) (fits : WideFits taken) (empty : WideFits none) where
  pub guarded_fits : (q : ℕ) → q ≤ 4000000 → CodeFits (guarded taken none of q)
  guarded_fits q le = (occurrence_fits of there (q + 3) (omega (arith, le)), (fits, (jump_fits (q + 4) (omega (arith, le)), (empty, tt))))

  pub here_fits : (q : ℕ) (found : Found) → q + here_size found ≤ 4000000 → CodeFits (here_code taken none of q found)
  here_fits q h.Loop le = (current_fits of there, (fits, tt))
  here_fits q h.Event le = (load_local 0 (omega arith), (fits, tt))
  here_fits q h.First le = (small_number 1 (omega arith), guarded_fits (q + 1) (omega (arith, le)))

module _ (s : Spot) (m : IsRoomy s.scene s.setting) where
  number_item_fits : (q : ℕ) (x : Present) → IsNumberPresent s x → q + present_size x ≤ 4000000 → CodeFits (number_of_item q x)
  number_item_fits q (p.Id item) f le = (id_number_fits item (omega (arith, m.items, item_within _ s.scene.shape.items item f.1.0 f.1.1)), tt)
  number_item_fits q (p.Here field found) f le =
      let lt = item_within _ s.scene.shape.items field.item f.0.1.0 f.0.1.1 in
      here_fits (with_c ops.ItemNumber field.item) undefined field.owner (record_small s m field.owner f.0.0.1) (item_number field.item (omega (arith, m.items, lt))) undefined_fits q found le

  text_item_fits : (q : ℕ) (x : Present) → IsTextPresent s x → q + present_size x ≤ 4000000 → CodeFits (text_of_item q x)
  text_item_fits q (p.Id item) f le = (id_text_fits item (omega (arith, m.items, item_within _ s.scene.shape.items item f.1.0 f.1.1)), tt)
  text_item_fits q (p.Here field found) f le =
      let lt = item_within _ s.scene.shape.items field.item f.0.1.0 f.0.1.1 in
      here_fits (with_c ops.ItemText field.item) (w.Chars []) field.owner (record_small s m field.owner f.0.0.1) (item_text field.item (omega (arith, m.items, lt))) no_text q found le

  -- ---- hot decks

  row_fits : (x : Pick) (fail : ℕ) → x.set < 65536 → fail < 2 ^ 32 → WideFits (row x fail)
  row_fits x fail there small = by x.has_leftover
    where
      by : (b : Bool) → WideFits (if b then w.Plain ops.Row 1 x.set 0 else w.Plain ops.Row 0 x.set fail)
      by true = row_or_leftover x.set there
      by false = row_or_place x.set there fail small

  pub picks_fit : (ds : List ℕ) (drops q : ℕ) (xs : List Pick) → ArePicks s ds xs → q + picks_size xs ≤ 4000000 → drops + length xs ≤ 4000100 → CodeFits (picks_code drops q xs)
  picks_fit ds drops q [] f le lt = tt
  picks_fit [] drops q (x ∷ xs) f le lt = absurd f
  picks_fit (d ∷ ds) drops q (x ∷ xs) f le lt =
      joined (number_of_item q x.item) _ (number_item_fits q x.item f.0 (omega (arith, le))) (
        row_fits x (drops + deepest (x ∷ xs)) (omega (arith, m.sets, set_within s.scene.shape x.set f.1.0 f.1.1)) (let e = deepest_small (x ∷ xs) in omega (arith, e, lt)),
        picks_fit ds drops (q + present_size x.item + 1) xs f.2 (omega (arith, le)) (omega (arith, lt)),
      )

  tail_fits : (array end n : ℕ) → array < 2 ^ 32 → end < 2 ^ 32 → CodeFits (with_c ops.LoadCell array ∷ jump end ∷ (pops n ++ undefined ∷ []))
  tail_fits array end n there small = (load_cell array there, (jump_fits end small, joined (pops n) (undefined ∷ []) (pops_fit n) (undefined_fits, tt)))

  deck_fits : (array q : ℕ) (xs : List Pick) → array < 2 ^ 32 → q + length xs ≤ 4000100 → CodeFits (deck_code array q xs)
  deck_fits array q xs there le =
      either_fits (can_fail xs) (with_c ops.LoadCell array ∷ jump (q + deepest xs + 3) ∷ (pops (deepest xs) ++ undefined ∷ [])) (with_c ops.LoadCell array ∷ [])
      (tail_fits array (q + deepest xs + 3) (deepest xs) there (let e = deepest_small xs in omega (arith, e, le)))
      (load_cell array there, tt)

  -- ---- entries

  pub cell_within : (array n : ℕ) → IsArray s array n → array < length s.scene.lists.arrays
  cell_within array n f = slice_get_within s.scene.lists.arrays array f.0 f.1

  pub deck_within : (array : ℕ) (picks : List Pick) → IsDeck s array picks → array < length s.scene.lists.arrays
  deck_within array picks f = slice_get_within s.scene.lists.arrays array f.0 f.1

  pub function_within : (function : ℕ) (xs : Numbers) → IsFunction s function xs → function < length s.scene.lists.routines
  function_within function xs f = slice_get_within s.scene.lists.routines function f.0 f.1

  -- ---- expressions

  mutual
    unfolding number_size words_size numbers_size indexes_size operations_size number_code words_code numbers_code indexes_code operations_code

    pub number_fits : (q : ℕ) (x : Number) → NumberFits s x → NumberHolds x → q + number_size x ≤ 4000000 → CodeFits (number_code s.setting q x)
    number_fits q (Constant digits value) f l le = (l, tt)
    number_fits q (Special' token value) f l le = (special_fits (special_number value) (special_small value), tt)
    number_fits q (Variable' name variable) f l le = (load_fits s m variable f, tt)
    number_fits q (Item name item) f l le = number_item_fits q item f le
    number_fits q (ItemAt name field x) f l le =
        let lt = item_within _ s.scene.shape.items field.item f.0.1.0 f.0.1.1 in
        joined (number_code s.setting q x) _ (number_fits q x f.1 l (omega (arith, le)))
        (guarded_fits (with_c ops.ItemNumber field.item) undefined field.owner (record_small s m field.owner f.0.0.1) (item_number field.item (omega (arith, m.items, lt))) undefined_fits (q + number_size x) (omega (arith, le)))
    number_fits q (Cell name array xs) f l le =
        joined (indexes_code s.setting array (q + indexes_size xs + 2) 0 q xs) _
        (indexes_fit array (q + indexes_size xs + 2) 0 q xs (λ k lt. size_fits s m array (count xs) k f.0 (omega (arith, lt))) f.1 l (omega (arith, le)) (omega (arith, le)))
        (tail_fits array (q + indexes_size xs + (behind xs + 3)) (behind xs) (let lt = m.arrays in let e = cell_within array (count xs) f.0 in omega (arith, lt, e)) (omega (arith, le)))
    number_fits q (Call name function xs) f l le =
        let lt = m.routines in
        let e = function_within function xs f.0 in
        joined (numbers_code s.setting q xs) _ (numbers_fit q xs f.1 l (omega (arith, le))) (call_fits function (omega (arith, lt, e)), tt)
    number_fits q (Group x) f l le = number_fits q x f l le
    number_fits q (Int x) f l le = number_fits q x f l le
    number_fits q (IsSpecial x) f l le = joined (number_code s.setting q x) _ (number_fits q x f l (omega (arith, le))) (is_special_fits, tt)
    number_fits q (Deck name array picks) f l le =
        let few = (m.sizes array f.0 f.1).0 in
        let same = picks_many s f.0.dimensions picks f.2 in
        let lt = m.arrays in
        let e = deck_within array picks f in
        joined (picks_code (q + picks_size picks + 2) q picks) _
        (picks_fit f.0.dimensions (q + picks_size picks + 2) q picks f.2 (omega (arith, le)) (omega (arith, le, few, same)))
        (deck_fits array (q + picks_size picks) picks (omega (arith, lt, e)) (omega (arith, le, few, same)))
    number_fits q (TotOcc name of) f l le = (total_fits of (record_small s m of f.1), tt)
    number_fits q (MaxOcc name of) f l le = (small_number (most_occurrences s.setting.records of) (m.occurrences of), tt)
    number_fits q (CurOcc name of found) f l le =
        let there = record_small s m of f.0.1 in
        here_fits (with_a ops.OccurrenceNumber of) undefined of there (number_of_fits of there) undefined_fits q found le
    number_fits q (InSet name item set_name set) f l le =
        joined (number_of_item q item) _ (number_item_fits q item f.0 (omega (arith, le))) (in_set set (omega (arith, m.sets, set_within s.scene.shape set f.1.0 f.1.1)), tt)
    number_fits q (Minus x) f l le = joined (number_code s.setting q x) _ (number_fits q x f l (omega (arith, le))) (negate_fits, tt)
    number_fits q (Not x) f l le = joined (number_code s.setting q x) _ (number_fits q x f l (omega (arith, le))) (not_fits, tt)
    number_fits q (Compare relation x y) f l le =
        joined (number_code s.setting q x) _ (number_fits q x f.0 l.0 (omega (arith, le)))
        (joined (number_code s.setting (q + number_size x) y) _ (number_fits (q + number_size x) y f.1 l.1 (omega (arith, le)))
        (compare_fits (relation_number relation) (relation_small relation), tt))
    number_fits q (CompareTexts relation x y) f l le =
        joined (words_code s.setting q x) _ (words_fit q x f.0 l.0 (omega (arith, le)))
        (joined (words_code s.setting (q + words_size x) y) _ (words_fit (q + words_size x) y f.1 l.1 (omega (arith, le)))
        (compare_text_fits (relation_number relation) (relation_small relation), tt))
    number_fits q (Chain x xs) f l le =
        joined (number_code s.setting q x) _ (number_fits q x f.0 l.0 (omega (arith, le))) (operations_fit (q + number_size x) xs f.1 l.1 (omega (arith, le)))

    pub words_fit : (q : ℕ) (x : Words) → WordsFit s x → WordsHold x → q + words_size x ≤ 4000000 → CodeFits (words_code s.setting q x)
    words_fit q (Quoted text) f l le = (l, tt)
    words_fit q (TextGlobal name variable) f l le = (load_global variable (omega (arith, m.globals, mapped_within _ s.scene.lists.globals variable kind.Text f)), tt)
    words_fit q (TextItem name item) f l le = text_item_fits q item f le
    words_fit q (TextItemAt name field x) f l le =
        let lt = item_within _ s.scene.shape.items field.item f.0.1.0 f.0.1.1 in
        joined (number_code s.setting q x) _ (number_fits q x f.1 l (omega (arith, le)))
        (guarded_fits (with_c ops.ItemText field.item) (w.Chars []) field.owner (record_small s m field.owner f.0.0.1) (item_text field.item (omega (arith, m.items, lt))) no_text (q + number_size x) (omega (arith, le)))
    words_fit q (TextGroup x) f l le = words_fit q x f l le

    pub numbers_fit : (q : ℕ) (xs : Numbers) → NumbersFit s xs → NumbersHold xs → q + numbers_size xs ≤ 4000000 → CodeFits (numbers_code s.setting q xs)
    numbers_fit q no_number f l le = tt
    numbers_fit q (number_and x xs) f l le =
        joined (number_code s.setting q x) _ (number_fits q x f.0 l.0 (omega (arith, le))) (numbers_fit (q + number_size x) xs f.1 l.1 (omega (arith, le)))

    pub indexes_fit : (array drops j q : ℕ) (xs : Numbers) → ((k : ℕ) → k < j + count xs → (0 < size_at s.setting array k) × (size_at s.setting array k < 65536)) → NumbersFit s xs → NumbersHold xs → q + indexes_size xs ≤ 4000000 → drops + behind xs ≤ 4000100 → CodeFits (indexes_code s.setting array drops j q xs)
    indexes_fit array drops j q no_number d f l le lt = tt
    indexes_fit array drops j q (number_and x xs) d f l le lt =
        let here = d j (omega arith) in
        let e = count_behind xs in
        joined (number_code s.setting q x) _ (number_fits q x f.0 l.0 (omega (arith, le))) (
          index_fits (size_at s.setting array j) (drops + count xs) here.0 here.1 (omega (arith, lt)),
          indexes_fit array drops (j + 1) (q + number_size x + 1) xs (λ k few. d k (omega (arith, few))) f.1 l.1 (omega (arith, le)) (omega (arith, lt, e)),
        )

    pub operations_fit : (q : ℕ) (xs : Operations) → OperationsFit s xs → OperationsHold xs → q + operations_size xs ≤ 4000000 → CodeFits (operations_code s.setting q xs)
    operations_fit q no_operation f l le = tt
    operations_fit q (operation_and operator x xs) f l le =
        joined (number_code s.setting q x) _ (number_fits q x f.0 l.0 (omega (arith, le)))
        (operation_fits operator, operations_fit (q + number_size x + 1) xs f.1 l.1 (omega (arith, le)))
