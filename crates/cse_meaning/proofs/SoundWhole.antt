-- Each routine of the program of a sound source is typed.
use Rattle.std.proofs.Common.{◌≡◌, ℕ, List, Option, Some, None, refl, sym, ap, ◌∙◌, subst}
use Rattle.std.specs.Prelude.{slice_get}
use Rattle.std.specs.Option.{option_map}
use Rattle.std.proofs.lemmas.Option.{same_Some, none-some, slice_get-map}
use Rattle.cse_value.specs.Shape.{ShapeLists}
use Rattle.cse_image_parts.specs.Image.{Image, RoutineLists}
use Rattle.cse_dict.specs.Dictionary.{DictionaryText, shape_of}
use Rattle.cse_syntax_tree.specs.Tree as syntax
use Rattle.cse_syntax_tree.specs.Word.{Word}
use Rattle.cse_code_typing.specs.Kinds.{local_kind}
use Rattle.cse_code_typing.specs.Typed.{IsTypedRoutine}
use Rattle.cse_code_typing.specs.Code.{code_of}
use Rattle.cse_logic_tree.specs.Typed.{Tree}
use Rattle.cse_logic_names.specs.MessageFile.{MessageText}
use Rattle.cse_compile.specs.declared.outlines.RoutineSort.{RoutineSort}
use Rattle.cse_compile.specs.declared.outlines.RoutineSort.TheVariants as sorts
use Rattle.cse_compile.specs.Outline.{Outline, gives_of, locals_of, result_at}
use Rattle.cse_compile.proofs.SectionLists.{result_there}
use Rattle.cse_compile.specs.Program.{outlines, sizes, setting_for, entry_of}
use Rattle.cse_meaning.specs.Fit.{Spot, IsExit}
use Rattle.cse_meaning.specs.Emitted.{IsRoutine}
use Rattle.cse_meaning.proofs.TypedWhole.{routine_is_typed, routine_is_counted}
use Rattle.cse_meaning.specs.Checked.{IsCompiled, spot_for, StatementsFit, RoutinesAreTyped, RoutinesAreCounted}
use Rattle.cse_meaning.proofs.SoundRoutines.{statements_fit}
use Rattle.cse_meaning.proofs.SoundParts.{routine_stands}

exit_there : (s : Spot) (sort : RoutineSort) → s.scene.routine.gives ≡ gives_of sort → s.scene.routine.locals ≡ locals_of sort → IsExit s (result_at sort)
exit_there s (sorts.Function n needs) e f = (e, ap (λ l. option_map local_kind (slice_get l n)) f ∙ ap (option_map local_kind) (result_there n))
exit_there s (sorts.Procedure owner) e f = e

module _ (d : DictionaryText) (messages : List MessageText) (named : List ℕ) (source : syntax.Tree) (words : List Word) (t : Tree) (x : Image) (h : IsCompiled d messages named source words t x) where
  is_routine : (r : ℕ) (o : Outline) → slice_get (outlines t) r ≡ Some o → IsRoutine (spot_for d t x r o) o.body (code_of x r)
  is_routine r o e = record {
    outside = refl;
    settled = record { exit = exit_there (spot_for d t x r o) o.sort refl refl; records = ap (λ (s : ShapeLists). s.records) h.shape };
    fits = statements_fit d messages named source words t x h r o e;
    stands = routine_stands x (shape_of d).records (sizes t) (outlines t) h.program.routines h.program.code r o e;
  }

  typed_by : (r : ℕ) (o : Outline) → slice_get (outlines t) r ≡ Some o → IsTypedRoutine (shape_of d) x r (entry_of (shape_of d).records (sizes t) o)
  typed_by r o e = routine_is_typed (shape_of d) x r (entry_of (shape_of d).records (sizes t) o) (setting_for (shape_of d).records (sizes t) o) o.body (is_routine r o e)

  is_typed : (r : ℕ) (y : RoutineLists) → slice_get x.lists.routines r ≡ Some y → IsTypedRoutine (shape_of d) x r y
  is_typed r y e = by (slice_get (outlines t) r) refl (sym (ap (λ l. slice_get l r) h.program.routines ∙ slice_get-map (entry_of (shape_of d).records (sizes t)) (outlines t) r) ∙ e)
    where
      by : (o : Option Outline) → slice_get (outlines t) r ≡ o → option_map (entry_of (shape_of d).records (sizes t)) (slice_get (outlines t) r) ≡ Some y → IsTypedRoutine (shape_of d) x r y
      by None f g = absurd (none-some y (sym (ap (option_map (entry_of (shape_of d).records (sizes t))) f) ∙ g))
      by (Some o) f g = subst (IsTypedRoutine (shape_of d) x r) (same_Some (entry_of (shape_of d).records (sizes t) o) y (sym (ap (option_map (entry_of (shape_of d).records (sizes t))) f) ∙ g)) (typed_by r o f)

pub sources_fit : StatementsFit
sources_fit d messages named source words t x h r o e = statements_fit d messages named source words t x h r o e

pub sources_are_typed : RoutinesAreTyped
sources_are_typed d messages named source words t x h r y e = is_typed d messages named source words t x h r y e

pub sources_are_counted : RoutinesAreCounted
sources_are_counted d messages named source words t x h r o e =
    routine_is_counted (shape_of d) x r (entry_of (shape_of d).records (sizes t) o) (setting_for (shape_of d).records (sizes t) o) o.body (is_routine d messages named source words t x h r o e)
