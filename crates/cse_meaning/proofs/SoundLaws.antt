-- The programs of a sound source are typed, and their bounds are at most its costs.
use Rattle.std.proofs.Common.{◌≡◌, ◌≤◌, ℕ, suc, zero, List, [], ◌∷◌, ◌++◌, length, Some, sym, subst}
use Rattle.std.specs.Prelude.{slice_get, nat_le}
use Rattle.std.proofs.Math.Logic.{∥∥₁_map}
use Rattle.std.proofs.lemmas.Bool.{and_parts, leb-true}
use Rattle.std.proofs.lemmas.Option.{same_Some, none-some}
use Rattle.cse_image_parts.specs.Image.{Image, ArrayLists}
use Rattle.cse_image_parts.specs.Limits.{most_dimensions}
use Rattle.cse_image_parts.specs.Reader.{AllAfter}
use Rattle.cse_image.specs.Spelling.{ArrayFits, Fits}
use Rattle.cse_dict.specs.Dictionary.{DictionaryText, shape_of}
use Rattle.cse_dict.specs.Sound.{IsSound as IsSoundDictionary}
use Rattle.cse_syntax_tree.specs.Tree as syntax
use Rattle.cse_syntax_tree.specs.Word.{Word}
use Rattle.cse_syntax_tree.specs.Grammar.{IsSource}
use Rattle.cse_logic_tree.specs.Typed.{Tree}
use Rattle.cse_logic_tree.specs.Erase.{erase_tree}
use Rattle.cse_code_typing.specs.Order.{NamesEachOnce}
use Rattle.cse_code_typing.specs.Typed.{IsTyped}
use Rattle.cse_compile.specs.Outline.{Outline, functions_in}
use Rattle.cse_compile.specs.Routines.{routine_size}
use Rattle.cse_logic_names.specs.MessageFile.{MessageText}
use Rattle.cse_logic_names.specs.WellTyped.{IsTypedAs, all_declarations, declared_messages, typed_declarations, first_scope, with_functions}
use Rattle.cse_logic_names.proofs.ScopeLaws.{same_dictionary}
use Rattle.cse_compile.specs.Program.{IsProgramOf, declarations, setting_for, sizes}
use Rattle.cse_compile.specs.Compiled.{IsSound}
use Rattle.cse_meaning.specs.Checked.{IsCompiled}
use Rattle.cse_meaning.specs.Cost.{HasFewDimensions}
use Rattle.cse_meaning.specs.Sound.{IsOrdered, SourcesAreSound, GrammarSuffices, BoundsAreCostsWhereSpelled}
use Rattle.cse_meaning.proofs.EditOrder.{orders_name_all}
use Rattle.cse_meaning.proofs.EventsFit.{events_fit}
use Rattle.cse_meaning.proofs.Bounds.{bounds_are_costs}
use Rattle.cse_meaning.proofs.SoundWhole.{sources_are_typed}

-- ---- typed programs

module _ (d : DictionaryText) (messages : List MessageText) (named : List ℕ) (source : syntax.Tree) (words : List Word) (t : Tree) (sound : IsSoundDictionary d) (grammar : IsSource 64 source words) (typed : IsTypedAs d messages source t) (order : IsOrdered d named) where
  compiled : (x : Image) → IsProgramOf d named t x → IsCompiled d messages named source words t x
  compiled x h = record { dictionary = sound; grammar = grammar; typed = typed; shape = h.shape; program = h }

  is_typed : (x : Image) → IsProgramOf d named t x → IsTyped (shape_of d) x
  is_typed x h = record {
    shape = h.shape;
    routines = λ r y lt e. sources_are_typed d messages named source words t x (compiled x h) r y e;
    order = subst (λ o. NamesEachOnce (length (shape_of d).records) o) (sym h.order) (orders_name_all d named order);
    events =
        let s = with_functions (first_scope d messages t) (typed_declarations t.globals) in
        let size : Outline → ℕ = λ o. routine_size (setting_for (shape_of d).records (sizes t) o) o.body in
        events_fit d s (length (declared_messages (all_declarations (erase_tree t).globals))) t.procedures size x.lists (functions_in (declarations t))
        (same_dictionary (first_scope d messages t) (typed_declarations t.globals)) typed.well.procedures h.routines h.events;
  }

  pub source_is_sound : IsSound d named t
  source_is_sound x h fits = is_typed x h

pub sources_are_sound : SourcesAreSound
sources_are_sound d messages named source words t sound grammar typed order = source_is_sound d messages named source words t sound grammar typed order

pub grammar_suffices : GrammarSuffices
grammar_suffices d messages named source words t sound grammar typed order = ∥∥₁_map grammar (λ g. sources_are_sound d messages named source words t sound g typed order)

-- ---- bounds

few_at : (before xs : List ArrayLists) (a : ℕ) (y : ArrayLists) → AllAfter ArrayFits before xs → slice_get xs a ≡ Some y → length y.dimensions ≤ 3
few_at before [] a y h e = absurd (none-some y e)
few_at before (x ∷ xs) zero y h e =
    let p = and_parts (nat_le 1 (length x.dimensions)) (nat_le (length x.dimensions) most_dimensions) h.0.count in
    subst (λ (z : ArrayLists). length z.dimensions ≤ 3) (same_Some x y e) (leb-true (length x.dimensions) 3 p.1)
few_at before (x ∷ xs) (suc a) y h e = few_at (before ++ x ∷ []) xs a y h.1 e

-- arrays of a program that has a spelling have at most three dimensions
pub few_dimensions : (x : Image) → Fits x → HasFewDimensions x
few_dimensions x fits a y e = few_at [] x.lists.arrays a y fits.lists.arrays.each e

pub spelled_bounds : BoundsAreCostsWhereSpelled
spelled_bounds d messages named source words t x h fits r o e = bounds_are_costs d messages named source words t x h (few_dimensions x fits) r o e
