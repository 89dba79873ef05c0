-- Instructions that write no item leave the case as it is.
use Rattle.std.proofs.Common.{◌≡◌, ℕ, ◌+◌, zero, suc, Bool, true, false, List, [], ◌∷◌, length, reverse, Option, Some, None, refl}
use Rattle.std.specs.Prelude.{ℤ, pos, slice_get, slice_set, option_map, option_and_then, if◌then◌else◌, nat_lt, ◌&&◌, ◌==◌, not, is_some}
use Rattle.std.specs.Str.{chars}
use Rattle.cse_value.specs.declared.number.Num.{Num}
use Rattle.cse_value.specs.declared.number.Num.TheVariants.{Whole}
use Rattle.cse_value.specs.declared.shape.ItemShape.{ItemShape}
use Rattle.cse_value.specs.Number.{is_condition, negative_of}
use Rattle.cse_image_parts.specs.declared.instruction.Op.{Op}
use Rattle.cse_image_parts.specs.declared.instruction.Op.TheVariants as ops
use Rattle.cse_image_parts.specs.declared.instruction.Instr.{Instr}
use Rattle.cse_image_parts.specs.declared.entries.Local.{Local}
use Rattle.cse_image_parts.specs.Image.{Lists, ArrayLists, MessageLists, RoutineLists}
use Rattle.cse_image_parts.specs.Placeholders.{message_kinds}
use Rattle.cse_image_parts.specs.Turns.{limit_of}
use Rattle.cse_dict.specs.Dictionary.{shape_of, row_in, spans_at}
use Rattle.cse_decks.specs.declared.global.GlobalValue.{GlobalValue}
use Rattle.cse_decks.specs.Store.{with_global, with_cell, cells_of}
use Rattle.cse_case.specs.Case.{CaseText, place_of, number_at, text_at}
use Rattle.cse_code_typing.specs.Signature.{id_number, id_text, number_item, text_item, is_record, rows_of}
use Rattle.cse_verify.specs.Verified.{VerifiedProgram}
use Rattle.cse_steps.specs.Cell.{Cell, Number, Words, Index, Occurrence}
use Rattle.cse_steps.specs.State.{Open, Call, World, with_given, in_store}
use Rattle.cse_steps.specs.Operands.{provided, with_number, with_text, with_occurrence, flag, is_within, is_special, special_value, whole_within, row_within, turns_of, combined, texts_compared, cell_of, kept_by_global, kept_by_local, cell_place, args_onto, popped}
use Rattle.cse_steps.specs.Step.{Left, acts, at, on, or_to, two, one, many, read, stored_local, stored_global, loaded_cell, stored_cell, entered, again, turned, ends_at, broken, current, rowed}
use Rattle.cse_steps.specs.Columns.{is_write}

-- what is left has this case, if anything is left
abbrev pub SameCase : Option CaseText → Left → Type 0
SameCase old None = Unit {0}
SameCase old (Some r) = r.1.case ≡ old

-- ---- the parts that instructions are put together of

module _ (old : Option CaseText) where
  bound : {X : Type 0} (f : X → Left) (o : Option X) → ((x : X) → SameCase old (f x)) → SameCase old (option_and_then f o)
  bound f None h = tt
  bound f (Some x) h = h x

  either : (b : Bool) (l m : Left) → SameCase old l → SameCase old m → SameCase old (if b then l else m)
  either true l m f g = f
  either false l m f g = g

  number : (cells : List Cell) (f : Num → List Cell → Left) → ((x : Num) (rest : List Cell) → SameCase old (f x rest)) → SameCase old (with_number cells f)
  number [] f h = tt
  number (Number x ∷ rest) f h = h x rest
  number (Words t ∷ rest) f h = tt
  number (Index i n ∷ rest) f h = tt
  number (Occurrence o r ∷ rest) f h = tt

  text : (cells : List Cell) (f : List ℕ → List Cell → Left) → ((t : List ℕ) (rest : List Cell) → SameCase old (f t rest)) → SameCase old (with_text cells f)
  text [] f h = tt
  text (Number x ∷ rest) f h = tt
  text (Words t ∷ rest) f h = h t rest
  text (Index i n ∷ rest) f h = tt
  text (Occurrence o r ∷ rest) f h = tt

  occurrence : (r many : ℕ) (cells : List Cell) (f : ℕ → List Cell → Left) → ((o : ℕ) (rest : List Cell) → SameCase old (f o rest)) → SameCase old (with_occurrence r many cells f)
  occurrence r many [] f h = tt
  occurrence r many (Number x ∷ rest) f h = tt
  occurrence r many (Words t ∷ rest) f h = tt
  occurrence r many (Index i n ∷ rest) f h = tt
  occurrence r many (Occurrence o s ∷ rest) f h = either ((s == r) && is_within many o) (f o rest) None (h o rest) tt

module _ (c : Call) (w : World) where
  abbrev Same : Left → Type 0
  Same = SameCase w.case

  or_goes : (place : ℕ) (rest : List Cell) (x : Option Cell) → Same (or_to c w place rest x)
  or_goes place rest None = refl
  or_goes place rest (Some x) = refl

  one_goes : (f : Num → Num) → Same (one c w f)
  one_goes f = number w.case c.cells (λ x rest. on c w (Number (f x) ∷ rest)) (λ x rest. refl)

  two_goes : (op : Op) (a : ℕ) → Same (two c w op a)
  two_goes op a =
      number w.case c.cells (λ y below. with_number below (λ x rest. option_and_then (λ n. on c w (Number n ∷ rest)) (combined op a x y)))
      (λ y below. number w.case below (λ x rest. option_and_then (λ n. on c w (Number n ∷ rest)) (combined op a x y)) (λ x rest. bound w.case (λ n. on c w (Number n ∷ rest)) (combined op a x y) (λ n. refl)))

  texts_go : (a : ℕ) → Same (with_text c.cells (λ t below. with_text below (λ s rest. option_and_then (λ n. on c w (Number n ∷ rest)) (texts_compared a s t))))
  texts_go a =
      text w.case c.cells (λ t below. with_text below (λ s rest. option_and_then (λ n. on c w (Number n ∷ rest)) (texts_compared a s t)))
      (λ t below. text w.case below (λ s rest. option_and_then (λ n. on c w (Number n ∷ rest)) (texts_compared a s t)) (λ s rest. bound w.case (λ n. on c w (Number n ∷ rest)) (texts_compared a s t) (λ n. refl)))

  reads : (item : Option ItemShape) (value : CaseText → ℕ → ℕ → Cell) → Same (read c w item value)
  reads item value =
      bound w.case (λ x. option_and_then (λ t. with_occurrence x.owner (many t x.owner) c.cells (λ o rest. on c w (value t x.owner o ∷ rest))) w.case) item
      (λ x. bound w.case (λ t. with_occurrence x.owner (many t x.owner) c.cells (λ o rest. on c w (value t x.owner o ∷ rest))) w.case
      (λ t. occurrence w.case x.owner (many t x.owner) c.cells (λ o rest. on c w (value t x.owner o ∷ rest)) (λ o rest. refl)))

  keeps_local : (k : ℕ) (rest : List Cell) (x : Option Cell) → Same (option_map (λ y. (record c { place = c.place + 1; cells = rest; locals = slice_set c.locals k y }, w)) x)
  keeps_local k rest None = tt
  keeps_local k rest (Some x) = refl

  stores_local : (k : ℕ) (l : Option Local) (cells : List Cell) → Same (stored_local c w k l cells)
  stores_local k None cells = tt
  stores_local k (Some l) [] = tt
  stores_local k (Some l) (x ∷ rest) = keeps_local k rest (kept_by_local l.kind l.length x)

  stores_global : (x : Lists) (k : ℕ) (cells : List Cell) → Same (stored_global x c w k cells)
  stores_global x k [] = tt
  stores_global x k (y ∷ rest) =
      bound w.case (λ g. option_and_then (λ v. on c (in_store w (with_global w.store k v)) rest) (kept_by_global g.kind g.length y)) (slice_get x.globals k)
      (λ g. bound w.case (λ v. on c (in_store w (with_global w.store k v)) rest) (kept_by_global g.kind g.length y) (λ v. refl))

  loads_cell : (k : ℕ) (a : ArrayLists) → Same (loaded_cell c w k a)
  loads_cell k a =
      bound w.case (λ p. option_and_then (λ v. on c w (Number v ∷ p.1)) (slice_get (cells_of w.store k) p.0)) (cell_place a.dimensions c.cells)
      (λ p. bound w.case (λ v. on c w (Number v ∷ p.1)) (slice_get (cells_of w.store k) p.0) (λ v. refl))

  stores_cell : (k : ℕ) (a : ArrayLists) → Same (stored_cell c w k a)
  stores_cell k a =
      number w.case c.cells (λ v below. option_and_then (λ p. provided (nat_lt p.0 (length (cells_of w.store k))) (on c (in_store w (with_cell w.store k p.0 v)) p.1)) (cell_place a.dimensions below))
      (λ v below. bound w.case (λ p. provided (nat_lt p.0 (length (cells_of w.store k))) (on c (in_store w (with_cell w.store k p.0 v)) p.1)) (cell_place a.dimensions below)
      (λ p. either w.case (nat_lt p.0 (length (cells_of w.store k))) (on c (in_store w (with_cell w.store k p.0 v)) p.1) None refl tt))

  gives : (k : ℕ) (m : MessageLists) → Same (option_and_then (λ r. on c (with_given w k r.0) r.1) (args_onto (reverse (message_kinds m.text)) c.cells []))
  gives k m = bound w.case (λ r. on c (with_given w k r.0) r.1) (args_onto (reverse (message_kinds m.text)) c.cells []) (λ r. refl)

  enters : (rest : List Cell) (over : Option (ℕ × ℕ)) (turns e : ℕ) → Same (entered c w rest over turns e)
  enters rest over zero e = refl
  enters rest over (suc left) e = refl

  goes_again : (o : Open) (opens : List Open) (left : ℕ) → Same (again c w o opens left)
  goes_again o opens zero = refl
  goes_again o opens (suc left) = refl

  turns : (s : ℕ) (opens : List Open) → Same (turned c w s opens)
  turns s [] = tt
  turns s (o ∷ opens) = either w.case (o.opener == s) (again c w o opens o.left) None (goes_again o opens o.left) tt

  breaks : (code : List Instr) (e : ℕ) (opens : List Open) → Same (broken code c w e opens)
  breaks code e [] = tt
  breaks code e (o ∷ opens) = either w.case (ends_at e (slice_get code o.opener)) (Some (record c { place = e + 1; opens = opens }, w)) None refl tt

  rows : (a k : ℕ) (rest : List Cell) (n : ℕ) (row : Option ℕ) → Same (rowed c w a k rest n row)
  rows a k rest n row = either w.case (a == 0) _ _ (or_goes k rest (option_map (λ i. Index (i + 1) n) row)) refl

-- ---- by instruction

pub inner_same : (v : VerifiedProgram) (y : RoutineLists) (code : List Instr) (c : Call) (w : World) (op : Op) (a b k : ℕ) → is_write op ≡ false → SameCase w.case (acts v y code c w op a b k)
unfolding acts
inner_same v y code c w ops.Number a b k h = bound w.case (λ (z : ℤ). on c w (Number (Whole z) ∷ c.cells)) (slice_get v.image.lists.constants k) (λ z. refl)
inner_same v y code c w ops.Special a b k h = bound w.case (λ (x : Num). on c w (Number x ∷ c.cells)) (special_value a) (λ x. refl)
inner_same v y code c w ops.Text a b k h = bound w.case (λ (t : List ℕ). on c w (Words (chars t) ∷ c.cells)) (slice_get v.image.lists.texts k) (λ t. refl)
inner_same v y code c w ops.LoadLocal a b k h = bound w.case (λ (x : Cell). on c w (x ∷ c.cells)) (slice_get c.locals k) (λ x. refl)
inner_same v y code c w ops.StoreLocal a b k h = stores_local c w k (slice_get y.locals k) c.cells
inner_same v y code c w ops.LoadGlobal a b k h = bound w.case (λ (g : GlobalValue). on c w (cell_of g ∷ c.cells)) (slice_get w.store.globals k) (λ g. refl)
inner_same v y code c w ops.StoreGlobal a b k h = stores_global c w v.image.lists k c.cells
inner_same v y code c w ops.Negate a b k h = one_goes c w negative_of
inner_same v y code c w ops.Not a b k h = one_goes c w (λ x. flag (not (is_condition x)))
inner_same v y code c w ops.IsSpecial a b k h = one_goes c w (λ x. flag (is_special x))
inner_same v y code c w ops.CompareText a b k h = texts_go c w a
inner_same v y code c w ops.Jump a b k h = refl
inner_same v y code c w ops.JumpUnless a b k h = number w.case c.cells (λ x rest. Some (at c (if is_condition x then c.place + 1 else k) rest, w)) (λ x rest. refl)
inner_same v y code c w ops.Index a b k h =
    number w.case c.cells (λ x rest. or_to c w k rest (option_map (λ i. Index i b) (whole_within b x))) (λ x rest. or_goes c w k rest (option_map (λ i. Index i b) (whole_within b x)))
inner_same v y code c w ops.Occurrence a b k h =
    bound w.case (λ t. provided (is_record (shape_of v.dictionary) a) (with_number c.cells (λ x rest. or_to c w k rest (option_map (λ o. Occurrence o a) (whole_within (many t a) x))))) w.case
    (λ t. either w.case (is_record (shape_of v.dictionary) a) (with_number c.cells (λ x rest. or_to c w k rest (option_map (λ o. Occurrence o a) (whole_within (many t a) x)))) None
    (number w.case c.cells (λ x rest. or_to c w k rest (option_map (λ o. Occurrence o a) (whole_within (many t a) x))) (λ x rest. or_goes c w k rest (option_map (λ o. Occurrence o a) (whole_within (many t a) x)))) tt)
inner_same v y code c w ops.Row a b k h =
    bound w.case (λ n. with_number c.cells (λ x rest. rowed c w a k rest n (row_within n (row_in x (spans_at v.dictionary b))))) (rows_of (shape_of v.dictionary) b)
    (λ n. number w.case c.cells (λ x rest. rowed c w a k rest n (row_within n (row_in x (spans_at v.dictionary b)))) (λ x rest. rows c w a k rest n (row_within n (row_in x (spans_at v.dictionary b)))))
inner_same v y code c w ops.CurrentOccurrence a b k h =
    bound w.case (λ t. option_and_then (λ o. on c w (Occurrence o a ∷ c.cells)) (current a c.opens)) w.case (λ t. bound w.case (λ o. on c w (Occurrence o a ∷ c.cells)) (current a c.opens) (λ o. refl))
inner_same v y code c w ops.OccurrenceNumber a b k h =
    bound w.case (λ t. with_occurrence a (many t a) c.cells (λ o rest. on c w (Number (Whole (pos o)) ∷ rest))) w.case
    (λ t. occurrence w.case a (many t a) c.cells (λ o rest. on c w (Number (Whole (pos o)) ∷ rest)) (λ o rest. refl))
inner_same v y code c w ops.TotalOccurrences a b k h =
    bound w.case (λ t. provided (is_record (shape_of v.dictionary) a) (on c w (Number (Whole (pos (many t a))) ∷ c.cells))) w.case
    (λ t. either w.case (is_record (shape_of v.dictionary) a) (on c w (Number (Whole (pos (many t a))) ∷ c.cells)) None refl tt)
inner_same v y code c w ops.IdNumber a b k h =
    bound w.case (λ t. option_and_then (λ x. on c w (Number (number_at t 0 k) ∷ c.cells)) (id_number (shape_of v.dictionary) k)) w.case
    (λ t. bound w.case (λ (x : ItemShape). on c w (Number (number_at t 0 k) ∷ c.cells)) (id_number (shape_of v.dictionary) k) (λ x. refl))
inner_same v y code c w ops.IdText a b k h =
    bound w.case (λ t. option_and_then (λ x. on c w (Words (text_at t 0 k) ∷ c.cells)) (id_text (shape_of v.dictionary) k)) w.case
    (λ t. bound w.case (λ (x : ItemShape). on c w (Words (text_at t 0 k) ∷ c.cells)) (id_text (shape_of v.dictionary) k) (λ x. refl))
inner_same v y code c w ops.ItemNumber a b k h = reads c w (number_item (shape_of v.dictionary) k) (λ t r o. Number (number_at t (place_of t r o) k))
inner_same v y code c w ops.ItemText a b k h = reads c w (text_item (shape_of v.dictionary) k) (λ t r o. Words (text_at t (place_of t r o) k))
inner_same v y code c w ops.StoreNumber a b k h = cc
inner_same v y code c w ops.StoreText a b k h = cc
inner_same v y code c w ops.LoadCell a b k h = bound w.case (loaded_cell c w k) (slice_get v.image.lists.arrays k) (loads_cell c w k)
inner_same v y code c w ops.StoreCell a b k h = bound w.case (stored_cell c w k) (slice_get v.image.lists.arrays k) (stores_cell c w k)
inner_same v y code c w ops.InSet a b k h =
    bound w.case (λ n. one c w (λ x. flag (is_some (row_in x (spans_at v.dictionary b))))) (rows_of (shape_of v.dictionary) b) (λ n. one_goes c w (λ x. flag (is_some (row_in x (spans_at v.dictionary b)))))
inner_same v y code c w ops.Message a b k h =
    bound w.case (λ m. option_and_then (λ r. on c (with_given w k r.0) r.1) (args_onto (reverse (message_kinds m.text)) c.cells [])) (slice_get v.image.lists.messages k) (gives c w k)
inner_same v y code c w ops.Impute a b k h = cc
inner_same v y code c w ops.LoopCount a b k h =
    bound w.case (λ m. with_number c.cells (λ x rest. entered c w rest None (turns_of m x) k)) (limit_of v.image.lists.limits b)
    (λ m. number w.case c.cells (λ x rest. entered c w rest None (turns_of m x) k) (λ x rest. enters c w rest None (turns_of m x) k))
inner_same v y code c w ops.LoopOccurrences a b k h =
    bound w.case (λ t. provided (is_record (shape_of v.dictionary) a) (entered c w c.cells (Some (a, 1)) (many t a) k)) w.case
    (λ t. either w.case (is_record (shape_of v.dictionary) a) (entered c w c.cells (Some (a, 1)) (many t a) k) None (enters c w c.cells (Some (a, 1)) (many t a) k) tt)
inner_same v y code c w ops.End a b k h = turns c w k c.opens
inner_same v y code c w ops.Break a b k h = breaks c w code k c.opens
inner_same v y code c w ops.Pop a b k h = bound w.case (λ rest. on c w rest) (popped a c.cells) (λ rest. refl)
inner_same v y code c w ops.Call a b k h = tt
inner_same v y code c w ops.Return a b k h = tt
inner_same v y code c w op a b k h = two_goes c w op a
