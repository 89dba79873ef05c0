-- Worked rows: whole edits by small sources, as their logic means them. The dictionary is that of households of persons: type in column 1, HH
-- in 2 to 4, SEX in 5, REL in 6, AGE in 7 to 9.
use Rattle.std.specs.Prelude.{◌≡◌, ℕ, ℤ, pos, Bool, true, false, List, [], ◌∷◌, map, codes, Option, Some, None, Ok}
use Rattle.std.specs.List.{flat_map}
use Rattle.cse_value.specs.declared.shape.ItemKind.TheVariants as kinds
use Rattle.cse_value.specs.Gathering.{line}
use Rattle.cse_dict.specs.Dictionary.{DictionaryText, ItemText}
use Rattle.cse_logic_tree.specs.declared.tree.Owner.TheVariants as owners
use Rattle.cse_logic_tree.specs.declared.tree.Variable.TheVariants as v
use Rattle.cse_logic_tree.specs.Typed.{Array', Body, Both, Declaration, Do, Fixed, Minus, Number, Numeric, Plain, Postproc, Preproc, Procedure, Sized, Statement, Tree, Variable', statements}
use Rattle.cse_decks.specs.Store.{Kept}
use Rattle.cse_meaning.specs.Worked.{adults, age, ages, at, becomes, eight, errmsg, imputing, item, missing, name, persons, signed, source, sums, whole}
use Rattle.cse_batch_parts.specs.Batch.{Batch}
use Rattle.cse_edit.specs.Logic.{batch_meant, first_meant, loaded_meant}

-- ---- sources

-- its messages, none of which has a number
abbrev pub with_messages : List (List ℕ) → Tree → Tree
with_messages texts t = record t { messages = map (λ text. record { number = 0; text = text; summary = false }) texts }

-- what stands behind a name alone, as a preproc
abbrev pub as_preproc : Body → Body
as_preproc (Plain xs) = Preproc xs
as_preproc (Preproc xs) = Preproc xs
as_preproc (Both xs ys) = Both xs ys
as_preproc (Postproc xs) = Postproc xs

abbrev pub before_all : Tree → Tree
before_all t = record t { procedures = map (λ (p : Procedure). record p { body = as_preproc p.body }) t.procedures }

abbrev pub no_logic : Tree
no_logic = record { globals = None; procedures = []; messages = [] }

abbrev pub tens : Declaration
tens = Array' (record { name = name; dimensions = Sized name 10 ∷ []; saved = false; cells = map signed (pos 11 ∷ pos 12 ∷ pos 13 ∷ pos 14 ∷ pos 15 ∷ pos 16 ∷ pos 17 ∷ pos 18 ∷ pos 19 ∷ pos 20 ∷ []) })

abbrev pub cells_told : Tree
cells_told = source (tens ∷ []) owners.Application (errmsg 0 (at (pos 0) ∷ at (pos 1) ∷ at (pos 10) ∷ at (pos 11) ∷ []) ∷ [])

abbrev pub counter : Number
counter = Variable' name (v.Global 0)

abbrev pub turning : ℤ → ℤ → ℤ → Statement
turning a b k = Do (record { name = name; variable = v.Global 0; start = Fixed (signed a); again = name; stop = Fixed (signed b); by = Some name; step = k }) (statements [])

abbrev pub two_loops : Tree
two_loops =
    source (Numeric (name ∷ []) ∷ []) owners.Application (turning (pos 5) (pos 4) (pos 1) ∷ errmsg 0 (counter ∷ []) ∷ turning (pos 1) (pos 10) (pos 4) ∷ errmsg 0 (counter ∷ []) ∷ [])

abbrev pub kept_deck : Declaration
kept_deck = Array' (record { name = record name { text = codes "AGE_HD" }; dimensions = Sized name 2 ∷ Sized name 4 ∷ []; saved = true; cells = [] })

abbrev pub keeping : Tree
keeping = record imputing { globals = Some (kept_deck ∷ []) }

-- ---- edits

abbrev pub named : List ℕ → ItemText → ItemText
named text i = record i { name = text }

abbrev pub with_households : DictionaryText → Bool → Option ℤ → DictionaryText
with_households d zero_fill code = record d {
  items =
      named (codes "SEX") (item 5 1 false None)
      ∷ named (codes "REL") (item 6 1 false None)
      ∷ named (codes "AGE") (item 7 3 zero_fill code)
      ∷ record { name = codes "HH"; shape = record { owner = 255; kind = kinds.Number; len = 3; start = 2 }; zero_fill = false; code = None }
      ∷ [];
}

abbrev pub households : Bool → Option ℤ → DictionaryText
households zero_fill code = with_households (persons zero_fill code) zero_fill code

abbrev pub lines : List (List ℕ) → List ℕ
lines texts = flat_map line texts

-- over sound data, whole
abbrev pub edited_with : Bool → Option ℤ → Tree → List (List ℕ) → Batch
edited_with zero_fill code t texts = batch_meant (households zero_fill code) t [] (first_meant t) (lines texts) true

abbrev pub edited : Tree → List (List ℕ) → Batch
edited t texts = edited_with false None t texts

abbrev pub edited_from : Kept → Tree → List (List ℕ) → Batch
edited_from store t texts = batch_meant (households false None) t [] store (lines texts) true

abbrev pub two_persons : Batch
two_persons = edited keeping (codes "P00111 35" ∷ codes "P00211" ∷ [])

pub record AreWorked : Type 0 where
  pub no_logic_stays : (edited no_logic (codes "P001111 2" ∷ [])).out ≡ lines (codes "P001111 2" ∷ [])
  pub undefined_is_stars : (edited (becomes age) (codes "P001111 2" ∷ [])).out ≡ lines (codes "P00111***" ∷ [])
  pub negative : (edited (becomes (Minus (whole (pos 5)))) (codes "P001111 2" ∷ [])).out ≡ lines (codes "P00111 -5" ∷ [])
  pub zero_filled : (edited_with true None (becomes (Minus (whole (pos 5)))) (codes "P001111 2" ∷ [])).out ≡ lines (codes "P00111-05" ∷ [])
  pub no_code : (edited (becomes missing) (codes "P001111 2" ∷ [])).out ≡ lines (codes "P00111***" ∷ [])
  pub code : (edited_with false (Some (pos 999)) (becomes missing) (codes "P001111 2" ∷ [])).out ≡ lines (codes "P00111999" ∷ [])
  pub sums_are_cut : (edited (with_messages (codes "%d %d %d %d" ∷ []) (before_all sums)) []).listing ≡ lines
      (codes "CSEB LISTING 1" ∷ codes "RUN" ∷ codes "M 0 DEFAULT DEFAULT -3 -1" ∷ codes "SUMMARY" ∷ codes "cases 0" ∷ codes "lines 0" ∷ codes "unseen 0"
      ∷ codes "message 0 1 %d %d %d %d" ∷ codes "END" ∷ [])
  pub cells_are_read : (edited (with_messages (codes "%d %d %d %d" ∷ []) (before_all cells_told)) []).listing ≡ lines
      (codes "CSEB LISTING 1" ∷ codes "RUN" ∷ codes "M 0 DEFAULT 11 20 DEFAULT" ∷ codes "SUMMARY" ∷ codes "cases 0" ∷ codes "lines 0" ∷ codes "unseen 0"
      ∷ codes "message 0 1 %d %d %d %d" ∷ codes "END" ∷ [])
  pub arms : (edited (with_messages (codes "child" ∷ codes "adult %d" ∷ codes "old %03d" ∷ codes "odd %d" ∷ []) ages)
      (codes "P00111  7" ∷ codes "P00211 40" ∷ codes "P00311 70" ∷ codes "P00411" ∷ [])).listing
      ≡ lines
      (codes "CSEB LISTING 1" ∷ codes "CASE [001]" ∷ codes "M 0 child" ∷ codes "CASE [002]" ∷ codes "M 0 adult 40" ∷ codes "CASE [003]" ∷ codes "M 0 old 070"
      ∷ codes "CASE [004]" ∷ codes "M 0 odd NOTAPPL" ∷ codes "SUMMARY" ∷ codes "cases 4" ∷ codes "lines 4" ∷ codes "unseen 0" ∷ codes "message 0 1 child"
      ∷ codes "message 0 1 adult %d" ∷ codes "message 0 1 old %03d" ∷ codes "message 0 1 odd %d" ∷ codes "END" ∷ [])
  pub turns : (edited (with_messages (codes "%d" ∷ []) (before_all two_loops)) []).listing ≡ lines
      (codes "CSEB LISTING 1" ∷ codes "RUN" ∷ codes "M 0 5" ∷ codes "M 0 13" ∷ codes "SUMMARY" ∷ codes "cases 0" ∷ codes "lines 0" ∷ codes "unseen 0"
      ∷ codes "message 0 2 %d" ∷ codes "END" ∷ [])
  pub imputed : two_persons.out ≡ lines (codes "P00111 35" ∷ codes "P00211 35" ∷ [])
  pub imputation_is_counted : two_persons.frequencies ≡ lines (codes "CSEB FREQUENCIES 1" ∷ codes "ITEM AGE 1" ∷ codes "35 1" ∷ codes "END" ∷ [])
  pub decks_are_saved : two_persons.decks ≡ lines
      (codes "CSEB DECKS 1" ∷ codes "ARRAY AGE_HD 2 4" ∷ codes "35" ∷ codes "0" ∷ codes "0" ∷ codes "0" ∷ codes "0" ∷ codes "0" ∷ codes "0" ∷ codes "0" ∷ codes "END" ∷ [])
  pub decks_are_loaded : loaded_meant keeping two_persons.decks ≡ Ok (eight (pos 35))
  pub imputed_again : (edited_from (eight (pos 35)) keeping (codes "P00311" ∷ [])).out ≡ lines (codes "P00311 35" ∷ [])
  pub adults_are_counted : (edited (with_messages (codes "adults %d of %d" ∷ []) adults) (codes "P00111 35" ∷ codes "P00122 30" ∷ codes "P00113  5" ∷ [])).listing ≡ lines
      (codes "CSEB LISTING 1" ∷ codes "CASE [001]" ∷ codes "M 0 adults 2 of 3" ∷ codes "SUMMARY" ∷ codes "cases 1" ∷ codes "lines 3" ∷ codes "unseen 0"
      ∷ codes "message 0 1 adults %d of %d" ∷ codes "END" ∷ [])
