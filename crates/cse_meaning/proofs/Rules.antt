-- Where each instruction of expressions and statements leads.
use Rattle.std.proofs.Common.{◌≡◌, ℕ, ◌+◌, true, List, [], ◌∷◌, ◌++◌, Option, Some, None, refl, ap, ◌∙◌}
use Rattle.std.specs.Prelude.{slice_get, nat_eq, if◌then◌else◌, option_and_then}
use Rattle.std.proofs.lemmas.Bool.{eq-eqb, and_from}
use Rattle.cse_value.specs.declared.shape.ItemShape.{ItemShape}
use Rattle.cse_image_parts.specs.Image.{ArrayLists, MessageLists, RoutineLists}
use Rattle.cse_image_parts.specs.declared.entries.Gift.TheVariants as gifts
use Rattle.cse_image_parts.specs.declared.instruction.Op.TheVariants as ops
use Rattle.cse_code_typing.specs.declared.kind.Kind.{Kind}
use Rattle.cse_code_typing.specs.declared.kind.Kind.TheVariants as k
use Rattle.cse_code_typing.specs.declared.control.Control.TheVariants as c
use Rattle.cse_code_typing.specs.Kinds.{below, top_of, gift_kinds}
use Rattle.cse_code_typing.specs.Skeleton.{control_by}
use Rattle.cse_code_typing.specs.Signature.{Scene, Signature, ◌⇒◌, provided, signature_by, is_record, rows_of, id_number, id_text, number_item, text_item, global_at, local_at, storable, indexes_of, parameters_of, arguments_of}
use Rattle.cse_code_typing.specs.Rule.{Edge, exits}
use Rattle.cse_code_typing.proofs.Merges.{same_kind-refl}
use Rattle.cse_logic_tree.specs.declared.tree.Variable.{Variable}
use Rattle.cse_logic_tree.specs.declared.tree.Variable.TheVariants as v
use Rattle.cse_compile.specs.Wide as w
use Rattle.cse_compile.specs.Wide.{Wide, with_a, with_b, with_c, occurrence}
use Rattle.cse_compile.specs.Setting.{result_local}
use Rattle.cse_compile.specs.Expressions.{load, store}
use Rattle.cse_meaning.specs.Fit.{Spot, IsNumberVariable, IsEntry}
use Rattle.cse_meaning.proofs.WideRule.{Stack, wide_control, wide_signature, wide_rule, wide_in_loop, field_a}

same : (n : ℕ) → nat_eq n n ≡ true
same n = eq-eqb n n refl

pub below_one : (kind : Kind) (takes st : Stack) → below (kind ∷ takes) (kind ∷ st) ≡ below takes st
below_one kind takes st = ap (λ b. if b then below takes st else None) (same_kind-refl kind)

-- kinds laid down one after the other, and taken again from the top
abbrev pub piled : List Kind → Stack → Stack
piled [] st = st
piled (x ∷ xs) st = piled xs (x ∷ st)

module _ (s : Spot) (ws : List Wide) where
  abbrev pub sc : Scene
  sc = s.scene

  abbrev pub rule : ℕ → Wide → Stack → Option (List Edge)
  rule q i st = wide_rule sc ws q i st

  pub ruled : (q : ℕ) (i : Wide) (st takes leaves rest : Stack) → wide_signature sc (wide_in_loop sc.lists ws q (field_a i)) (top_of st) i ≡ takes ⇒ leaves → below takes st ≡ Some rest → rule q i st ≡ exits q (wide_control sc.lists i) rest (leaves ++ rest)
  ruled q i st takes leaves rest e f =
      ap (option_and_then (λ (x : Signature). option_and_then (λ (rest : Stack). exits q (wide_control sc.lists i) rest (x.leaves ++ rest)) (below x.takes st))) e
      ∙ ap (option_and_then (λ (rest : Stack). exits q (wide_control sc.lists i) rest (leaves ++ rest))) f

  pub load_local : (q n : ℕ) (kind : Kind) (st : Stack) → local_at sc.routine n ≡ Some kind → rule q (with_c ops.LoadLocal n) st ≡ Some ((q + 1, kind ∷ st) ∷ [])
  unfolding signature_by control_by
  load_local q n kind st h = ruled q (with_c ops.LoadLocal n) st [] (kind ∷ []) st (ap (option_and_then (λ k. [] ⇒ k ∷ [])) h) refl

  pub load_global : (q n : ℕ) (kind : Kind) (st : Stack) → global_at sc.lists n ≡ Some kind → rule q (with_c ops.LoadGlobal n) st ≡ Some ((q + 1, kind ∷ st) ∷ [])
  unfolding signature_by control_by
  load_global q n kind st h = ruled q (with_c ops.LoadGlobal n) st [] (kind ∷ []) st (ap (option_and_then (λ k. [] ⇒ k ∷ [])) h) refl

  pub store_global : (q n : ℕ) (kind : Kind) (st : Stack) → global_at sc.lists n ≡ Some kind → rule q (with_c ops.StoreGlobal n) (kind ∷ st) ≡ Some ((q + 1, st) ∷ [])
  unfolding signature_by control_by
  store_global q n kind st h = ruled q (with_c ops.StoreGlobal n) (kind ∷ st) (kind ∷ []) [] st (ap (option_and_then (λ k. k ∷ [] ⇒ [])) h) (below_one kind [] st)

  pub store_local : (q n : ℕ) (st : Stack) → local_at sc.routine n ≡ Some k.Number → rule q (with_c ops.StoreLocal n) (k.Number ∷ st) ≡ Some ((q + 1, st) ∷ [])
  unfolding signature_by control_by
  store_local q n st h = ruled q (with_c ops.StoreLocal n) (k.Number ∷ st) (k.Number ∷ []) [] st (ap (option_and_then (λ k. k ∷ [] ⇒ [])) (ap (option_and_then storable) h)) refl

  pub load_rule : (q : ℕ) (x : Variable) (st : Stack) → IsNumberVariable s x → rule q (load s.setting x) st ≡ Some ((q + 1, k.Number ∷ st) ∷ [])
  load_rule q (v.Global g) st h = load_global q g k.Number st h
  load_rule q (v.Parameter n) st h = load_local q n k.Number st h
  load_rule q v.Result st h = load_local q (result_local s.setting) k.Number st h

  pub store_rule : (q : ℕ) (x : Variable) (st : Stack) → IsNumberVariable s x → rule q (store s.setting x) (k.Number ∷ st) ≡ Some ((q + 1, st) ∷ [])
  store_rule q (v.Global g) st h = store_global q g k.Number st h
  store_rule q (v.Parameter n) st h = store_local q n st h
  store_rule q v.Result st h = store_local q (result_local s.setting) st h

  pub load_steps : (x : Variable) → wide_control sc.lists (load s.setting x) ≡ c.Step
  unfolding control_by
  load_steps (v.Global g) = refl
  load_steps (v.Parameter n) = refl
  load_steps v.Result = refl

  pub store_steps : (x : Variable) → wide_control sc.lists (store s.setting x) ≡ c.Step
  unfolding control_by
  store_steps (v.Global g) = refl
  store_steps (v.Parameter n) = refl
  store_steps v.Result = refl

  -- ---- items

  pub occurrence_rule : (q of fail : ℕ) (st : Stack) → is_record sc.shape of ≡ true → rule q (occurrence of fail) (k.Number ∷ st) ≡ Some ((fail, st) ∷ (q + 1, k.Occurrence of ∷ st) ∷ [])
  unfolding signature_by control_by
  occurrence_rule q of fail st h = ruled q (occurrence of fail) (k.Number ∷ st) (k.Number ∷ []) (k.Occurrence of ∷ []) st (ap (λ b. provided b (k.Number ∷ [] ⇒ k.Occurrence of ∷ [])) h) refl

  pub current_rule : (q of : ℕ) (st : Stack) → is_record sc.shape of ≡ true → wide_in_loop sc.lists ws q of ≡ true → rule q (with_a ops.CurrentOccurrence of) st ≡ Some ((q + 1, k.Occurrence of ∷ st) ∷ [])
  unfolding signature_by control_by
  current_rule q of st h l = ruled q (with_a ops.CurrentOccurrence of) st [] (k.Occurrence of ∷ []) st (ap (λ b. provided b ([] ⇒ k.Occurrence of ∷ [])) (and_from _ _ h l)) refl

  pub number_rule : (q of : ℕ) (st : Stack) → is_record sc.shape of ≡ true → rule q (with_a ops.OccurrenceNumber of) (k.Occurrence of ∷ st) ≡ Some ((q + 1, k.Number ∷ st) ∷ [])
  unfolding signature_by control_by
  number_rule q of st h = ruled q (with_a ops.OccurrenceNumber of) (k.Occurrence of ∷ st) (k.Occurrence of ∷ []) (k.Number ∷ []) st (ap (λ b. provided b (k.Occurrence of ∷ [] ⇒ k.Number ∷ [])) h) (below_one (k.Occurrence of) [] st)

  pub total_rule : (q of : ℕ) (st : Stack) → is_record sc.shape of ≡ true → rule q (with_a ops.TotalOccurrences of) st ≡ Some ((q + 1, k.Number ∷ st) ∷ [])
  unfolding signature_by control_by
  total_rule q of st h = ruled q (with_a ops.TotalOccurrences of) st [] (k.Number ∷ []) st (ap (λ b. provided b ([] ⇒ k.Number ∷ [])) h) refl

  pub id_number_rule : (q item : ℕ) (x : ItemShape) (st : Stack) → id_number sc.shape item ≡ Some x → rule q (with_c ops.IdNumber item) st ≡ Some ((q + 1, k.Number ∷ st) ∷ [])
  unfolding signature_by control_by
  id_number_rule q item x st h = ruled q (with_c ops.IdNumber item) st [] (k.Number ∷ []) st (ap (option_and_then (λ x. [] ⇒ k.Number ∷ [])) h) refl

  pub id_text_rule : (q item : ℕ) (x : ItemShape) (st : Stack) → id_text sc.shape item ≡ Some x → rule q (with_c ops.IdText item) st ≡ Some ((q + 1, k.Text ∷ st) ∷ [])
  unfolding signature_by control_by
  id_text_rule q item x st h = ruled q (with_c ops.IdText item) st [] (k.Text ∷ []) st (ap (option_and_then (λ x. [] ⇒ k.Text ∷ [])) h) refl

  pub item_number_rule : (q item of : ℕ) (st : Stack) → IsEntry (number_item sc.shape item) of → rule q (with_c ops.ItemNumber item) (k.Occurrence of ∷ st) ≡ Some ((q + 1, k.Number ∷ st) ∷ [])
  unfolding signature_by control_by
  item_number_rule q item of st h = ruled q (with_c ops.ItemNumber item) (k.Occurrence of ∷ st) (k.Occurrence of ∷ []) (k.Number ∷ []) st (ap (option_and_then (λ (x : ItemShape). k.Occurrence x.owner ∷ [] ⇒ k.Number ∷ [])) h.1 ∙ ap (λ o. k.Occurrence o ∷ [] ⇒ k.Number ∷ []) h.2) (below_one (k.Occurrence of) [] st)

  pub item_text_rule : (q item of : ℕ) (st : Stack) → IsEntry (text_item sc.shape item) of → rule q (with_c ops.ItemText item) (k.Occurrence of ∷ st) ≡ Some ((q + 1, k.Text ∷ st) ∷ [])
  unfolding signature_by control_by
  item_text_rule q item of st h = ruled q (with_c ops.ItemText item) (k.Occurrence of ∷ st) (k.Occurrence of ∷ []) (k.Text ∷ []) st (ap (option_and_then (λ (x : ItemShape). k.Occurrence x.owner ∷ [] ⇒ k.Text ∷ [])) h.1 ∙ ap (λ o. k.Occurrence o ∷ [] ⇒ k.Text ∷ []) h.2) (below_one (k.Occurrence of) [] st)

  pub put_number_rule : (q item of : ℕ) (st : Stack) → IsEntry (number_item sc.shape item) of → rule q (with_c ops.StoreNumber item) (k.Number ∷ k.Occurrence of ∷ st) ≡ Some ((q + 1, st) ∷ [])
  unfolding signature_by control_by
  put_number_rule q item of st h = ruled q (with_c ops.StoreNumber item) (k.Number ∷ k.Occurrence of ∷ st) (k.Number ∷ k.Occurrence of ∷ []) [] st (ap (option_and_then (λ (x : ItemShape). k.Number ∷ k.Occurrence x.owner ∷ [] ⇒ [])) h.1 ∙ ap (λ o. k.Number ∷ k.Occurrence o ∷ [] ⇒ []) h.2) (below_one (k.Occurrence of) [] st)

  pub put_text_rule : (q item of : ℕ) (st : Stack) → IsEntry (text_item sc.shape item) of → rule q (with_c ops.StoreText item) (k.Text ∷ k.Occurrence of ∷ st) ≡ Some ((q + 1, st) ∷ [])
  unfolding signature_by control_by
  put_text_rule q item of st h = ruled q (with_c ops.StoreText item) (k.Text ∷ k.Occurrence of ∷ st) (k.Text ∷ k.Occurrence of ∷ []) [] st (ap (option_and_then (λ (x : ItemShape). k.Text ∷ k.Occurrence x.owner ∷ [] ⇒ [])) h.1 ∙ ap (λ o. k.Text ∷ k.Occurrence o ∷ [] ⇒ []) h.2) (below_one (k.Occurrence of) [] st)

  pub impute_rule : (q item of : ℕ) (st : Stack) → IsEntry (number_item sc.shape item) of → rule q (with_c ops.Impute item) (k.Number ∷ k.Occurrence of ∷ st) ≡ Some ((q + 1, st) ∷ [])
  unfolding signature_by control_by
  impute_rule q item of st h = ruled q (with_c ops.Impute item) (k.Number ∷ k.Occurrence of ∷ st) (k.Number ∷ k.Occurrence of ∷ []) [] st (ap (option_and_then (λ (x : ItemShape). k.Number ∷ k.Occurrence x.owner ∷ [] ⇒ [])) h.1 ∙ ap (λ o. k.Number ∷ k.Occurrence o ∷ [] ⇒ []) h.2) (below_one (k.Occurrence of) [] st)

  pub set_rule : (q set n : ℕ) (st : Stack) → rows_of sc.shape set ≡ Some n → rule q (with_b ops.InSet set) (k.Number ∷ st) ≡ Some ((q + 1, k.Number ∷ st) ∷ [])
  unfolding signature_by control_by
  set_rule q set n st h = ruled q (with_b ops.InSet set) (k.Number ∷ st) (k.Number ∷ []) (k.Number ∷ []) st (ap (option_and_then (λ n. k.Number ∷ [] ⇒ k.Number ∷ [])) h) refl

  pub row_rule : (q set fail n : ℕ) (st : Stack) → rows_of sc.shape set ≡ Some n → rule q (w.Plain ops.Row 0 set fail) (k.Number ∷ st) ≡ Some ((fail, st) ∷ (q + 1, k.Index n ∷ st) ∷ [])
  unfolding signature_by control_by
  row_rule q set fail n st h = ruled q (w.Plain ops.Row 0 set fail) (k.Number ∷ st) (k.Number ∷ []) (k.Index n ∷ []) st (ap (option_and_then (λ n. k.Number ∷ [] ⇒ k.Index n ∷ [])) h) refl

  pub leftover_rule : (q set n : ℕ) (st : Stack) → rows_of sc.shape set ≡ Some n → rule q (w.Plain ops.Row 1 set 0) (k.Number ∷ st) ≡ Some ((q + 1, k.Index (n + 1) ∷ st) ∷ [])
  unfolding signature_by control_by
  leftover_rule q set n st h = ruled q (w.Plain ops.Row 1 set 0) (k.Number ∷ st) (k.Number ∷ []) (k.Index (n + 1) ∷ []) st (ap (option_and_then (λ n. k.Number ∷ [] ⇒ k.Index (n + 1) ∷ [])) h) refl

  pub pop_rule : (q n : ℕ) (st : Stack) → rule q (with_a ops.Pop 2) (k.Index n ∷ st) ≡ Some ((q + 1, st) ∷ [])
  unfolding signature_by control_by
  pop_rule q n st = ruled q (with_a ops.Pop 2) (k.Index n ∷ st) (k.Index n ∷ []) [] st refl (below_one (k.Index n) [] st)

  -- ---- arrays, routines, messages: of what lies there

  pub load_cell_rule : (q array : ℕ) (x : ArrayLists) (st after : Stack) → slice_get sc.lists.arrays array ≡ Some x → below (indexes_of x) after ≡ Some st → rule q (with_c ops.LoadCell array) after ≡ Some ((q + 1, k.Number ∷ st) ∷ [])
  unfolding signature_by control_by
  load_cell_rule q array x st after h b = ruled q (with_c ops.LoadCell array) after (indexes_of x) (k.Number ∷ []) st (ap (option_and_then (λ x. indexes_of x ⇒ k.Number ∷ [])) h) b

  pub store_cell_rule : (q array : ℕ) (x : ArrayLists) (st after : Stack) → slice_get sc.lists.arrays array ≡ Some x → below (indexes_of x) after ≡ Some st → rule q (with_c ops.StoreCell array) (k.Number ∷ after) ≡ Some ((q + 1, st) ∷ [])
  unfolding signature_by control_by
  store_cell_rule q array x st after h b = ruled q (with_c ops.StoreCell array) (k.Number ∷ after) (k.Number ∷ indexes_of x) [] st (ap (option_and_then (λ x. k.Number ∷ indexes_of x ⇒ [])) h) b

  pub call_rule : (q function : ℕ) (x : RoutineLists) (st after : Stack) → slice_get sc.lists.routines function ≡ Some x → x.gives ≡ gifts.Number → below (parameters_of x) after ≡ Some st → rule q (with_c ops.Call function) after ≡ Some ((q + 1, k.Number ∷ st) ∷ [])
  unfolding signature_by control_by
  call_rule q function x st after h g b = ruled q (with_c ops.Call function) after (parameters_of x) (k.Number ∷ []) st (ap (option_and_then (λ x. parameters_of x ⇒ gift_kinds x.gives)) h ∙ ap (λ g. parameters_of x ⇒ gift_kinds g) g) b

  pub message_rule : (q message : ℕ) (x : MessageLists) (st after : Stack) → slice_get sc.lists.messages message ≡ Some x → below (arguments_of x) after ≡ Some st → rule q (with_c ops.Message message) after ≡ Some ((q + 1, st) ∷ [])
  unfolding signature_by control_by
  message_rule q message x st after h b = ruled q (with_c ops.Message message) after (arguments_of x) [] st (ap (option_and_then (λ x. arguments_of x ⇒ [])) h) b
