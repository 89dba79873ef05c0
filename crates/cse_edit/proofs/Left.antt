-- What events leave of a case: all columns but those of the items that are named.
use Rattle.std.proofs.Common.{◌≡◌, ℕ, zero, suc, ◌<◌, ◌≤◌, List, [], ◌∷◌, length, get_or, Option, Some, None, refl, sym, ap, ◌∙◌, subst, arith}
use Rattle.std.specs.Prelude.{slice_get}
use Rattle.std.specs.Option.{option_map, option_map_or}
use Rattle.std.proofs.lemmas.Option.{slice_get-map, slice_get_within}
use Rattle.cse_value.specs.declared.shape.ItemKind.{ItemKind}
use Rattle.cse_value.specs.declared.shape.ItemKind.TheVariants as kind
use Rattle.cse_value.specs.declared.shape.ItemShape.{ItemShape}
use Rattle.cse_dict.specs.Dictionary.{DictionaryText, ItemText, shape_of}
use Rattle.cse_dict.specs.Sound.{IsSound}
use Rattle.cse_case.specs.Columns.{LineText, no_line}
use Rattle.cse_case.specs.Run.{line_at}
use Rattle.cse_case.specs.Field.{HasColumn, IsItem, item_at, no_item}
use Rattle.cse_case.specs.Case.{CaseText, IsOccurrence, items_of, place_of, places_of, types_of, with_number, with_text}
use Rattle.cse_case.specs.Fit.{IsFit}
use Rattle.cse_case.specs.Writes.{HasSameOccurrences, LeavesColumns, LeavesIdsAndTypes, MaySet}
use Rattle.cse_case.proofs.SetLaws.{stay-occurrences, stay-columns, stay-fit, stay-ids-and-types}
use Rattle.cse_case.proofs.SightLaws.{occurrence_own}
use Rattle.cse_logic_tree.specs.declared.tree.Field.{Field}
use Rattle.cse_steps.specs.Columns.{LinesStay}
use Rattle.cse_steps.proofs.Columns.{case_then, lines_written}
use Rattle.cse_edit.proofs.Keeps.{Keeps}

-- ---- an item of the dictionary

-- the item of this number is there, of this record and this kind
pub record IsThere (d : DictionaryText) (k : ItemKind) (f : Field) : Type 0 where
  pub item : ItemText
  pub there : slice_get d.items f.item ≡ Some item
  pub owner : item.shape.owner ≡ f.owner
  pub kind : item.shape.kind ≡ k

module _ (d : DictionaryText) (k : ItemKind) (f : Field) (is : IsThere d k f) where
  shape_is : slice_get (shape_of d).items f.item ≡ Some is.item.shape
  shape_is = slice_get-map (λ (i : ItemText). i.shape) d.items f.item ∙ ap (option_map (λ (i : ItemText). i.shape)) is.there

  item_is : item_at (shape_of d).items f.item ≡ is.item.shape
  item_is = ap (λ o. option_map_or (λ (x : ItemShape). x) o no_item) shape_is

  owner_is : (item_at (shape_of d).items f.item).owner ≡ f.owner
  owner_is = ap (λ (x : ItemShape). x.owner) item_is ∙ is.owner

  is_item : IsItem (shape_of d).items f.owner k f.item
  is_item = record { there = slice_get_within (shape_of d).items f.item is.item.shape shape_is; owns = owner_is; is_of_kind = ap (λ (x : ItemShape). x.kind) item_is ∙ is.kind }

-- ---- an item written into the line at a place

-- the record of the line at a place
record_at : (lines : List LineText) (k : ℕ) → get_or (types_of lines) k None ≡ (get_or lines k no_line).record_number
record_at [] k = refl
record_at (x ∷ xs) zero = refl
record_at (x ∷ xs) (suc k) = record_at xs k

-- ---- the case that events leave

module _ (d : DictionaryText) (sound : IsSound d) (M : ℕ → Type 0) (t : CaseText) (same_dictionary : t.dictionary ≡ d) where
  -- a named item of the line's record has the column
  pub record Named (place column : ℕ) : Type 0 where
    pub item : ℕ
    pub there : item < length d.items
    pub named : M item
    pub record_is : (line_at t.run place).record_number ≡ Some (item_at (shape_of d).items item).owner
    pub covers : HasColumn (item_at (shape_of d).items item) column

  -- which items may be written, and what stays so
  abbrev pub Allowed : ItemKind → Field → Type 0
  Allowed k f = IsThere d k f × M f.item

  pub record Leaves (c : CaseText) : Type 0 where
    pub fit : IsFit c
    pub lines : LinesStay Named t c

  abbrev pub IsLeft : Option CaseText → Type 0
  IsLeft None = ⊥
  IsLeft (Some c) = Leaves c

  many_left : (o : Option CaseText) (of : ℕ) → IsLeft o → option_map_or (λ (c : CaseText). length (places_of c of)) o 0 ≡ length (places_of t of)
  many_left None of q = absurd q
  many_left (Some c) of q = ap length (q.lines.same.places of)

  module _ (c : CaseText) (q : Leaves c) (k : ItemKind) (f : Field) (o : ℕ) (a : Allowed k f) (low : 1 ≤ o) (high : o ≤ length (places_of t f.owner)) where
    dictionary_is : c.dictionary ≡ d
    dictionary_is = q.lines.same.dictionary ∙ same_dictionary

    there : IsOccurrence c f.owner o
    there = let many = ap length (q.lines.same.places f.owner) in (omega arith, omega arith)

    may : MaySet c f.owner o k f.item
    may = record {
      fits = q.fit;
      sound = subst (λ (e : DictionaryText). IsSound e) (sym dictionary_is) sound;
      occurrence = there;
      is_item = subst (λ (e : DictionaryText). IsItem (shape_of e).items f.owner k f.item) (sym dictionary_is) (is_item d k f a.0);
    }

    own : (line_at t.run (place_of c f.owner o)).record_number ≡ Some (item_at (shape_of d).items f.item).owner
    own =
        let place = place_of c f.owner o in
        sym (record_at t.run.lines place)
        ∙ (ap (λ l. get_or l place None) (sym q.lines.same.types)
        ∙ (record_at c.run.lines place
        ∙ (occurrence_own c f.owner o there ∙ ap Some (sym (owner_is d k f a.0)))))

    leaves : (new : CaseText) → HasSameOccurrences c new → LeavesColumns c new (place_of c f.owner o) (item_at (items_of c) f.item) → LeavesIdsAndTypes c new → IsFit new → Leaves new
    leaves new same columns others fit =
        let item : item_at (items_of c) f.item ≡ item_at (shape_of d).items f.item = ap (λ (e : DictionaryText). item_at (shape_of e).items f.item) dictionary_is in
        record {
          fit = fit;
          lines = case_then Named Named Named (λ p j w. w) (λ p j w. w) (Some t) (Some c) (Some new) q.lines
              (lines_written Named c new (place_of c f.owner o) (item_at (shape_of d).items f.item) same (subst (LeavesColumns c new (place_of c f.owner o)) item columns) others
              (λ j has. record { item = f.item; there = slice_get_within d.items f.item a.0.item a.0.there; named = a.1; record_is = own; covers = has }));
        }

  pub left_keeps : Keeps Allowed IsLeft
  left_keeps = record {
    count = λ of. length (places_of t of);
    many_are = λ w of q. many_left w.case of q;
    number_put = λ c f o x a q low high.
        let m = may c q kind.Number f o a low high in
        leaves c q kind.Number f o a low high (with_number c f.owner o f.item x) ((stay-occurrences c f.owner o f.item).0 x) ((stay-columns c f.owner o f.item).0 x m) ((stay-ids-and-types c f.owner o f.item).0 x m) ((stay-fit c f.owner o f.item).0 x m);
    text_put = λ c f o x a q low high.
        let m = may c q kind.Text f o a low high in
        leaves c q kind.Text f o a low high (with_text c f.owner o f.item x) ((stay-occurrences c f.owner o f.item).1 x) ((stay-columns c f.owner o f.item).1 x m) ((stay-ids-and-types c f.owner o f.item).1 x m) ((stay-fit c f.owner o f.item).1 x m);
  }
