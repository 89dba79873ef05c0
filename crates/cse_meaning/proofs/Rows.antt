-- A row that is found in a value set of a sound dictionary is one of the set.
use Rattle.std.proofs.Common.{◌≡◌, ℕ, zero, suc, ◌<◌, Bool, true, false, not, List, [], ◌∷◌, Option, Some, None, All, refl, sym, ap, ◌∙◌, subst}
use Rattle.std.specs.Prelude.{◌&&◌, slice_get, option_map, if◌then◌else◌, IfSome}
use Rattle.std.specs.List.{AllByRecursion}
use Rattle.std.specs.Option.{option_map_or}
use Rattle.std.proofs.lemmas.List.Elements.{recursion_from_All}
use Rattle.std.proofs.lemmas.Option.{same_Some, none-some, slice_get-map}
use Rattle.cse_value.specs.declared.number.Num.{Num}
use Rattle.cse_dict.specs.Pairs.{RowsBelow}
use Rattle.cse_dict.specs.Dictionary.{DictionaryText, SetText, shape_of, row_in}
use Rattle.cse_dict.specs.Sound.{IsSound, IsSoundSet}
use Rattle.cse_dict.specs.declared.rows.NumberSpan.{NumberSpan}
use Rattle.cse_dict.proofs.RowLaws.{row_in-below}
use Rattle.cse_code_typing.specs.Signature.{is_numeric, rows_by}
use Rattle.cse_meaning.specs.Laid.{KeepsRows}

sound_at : (d : DictionaryText) (xs : List SetText) (k : ℕ) (x : SetText) → AllByRecursion (IsSoundSet d) xs → slice_get xs k ≡ Some x → IsSoundSet d x
sound_at d [] k x h is = absurd (none-some x is)
sound_at d (y ∷ ys) zero x h is = subst (IsSoundSet d) (same_Some y x is) h.0
sound_at d (y ∷ ys) (suc k) x h is = sound_at d ys k x h.1 is

found : (n i : ℕ) (x : Num) (spans : List NumberSpan) → RowsBelow n spans → row_in x spans ≡ Some i → i < n
found n i x spans h is = subst (λ o. IfSome o (λ r. r < n)) is (row_in-below n x spans h)

pub keeps_rows : (d : DictionaryText) → IsSound d → KeepsRows d
keeps_rows d sound set n i x rows row = by (slice_get d.sets set) refl
  where
    by : (o : Option SetText) → slice_get d.sets set ≡ o → i < n
    by None none = found n i x [] tt (ap (λ (o : Option SetText). row_in x (option_map_or (λ s. s.spans) o [])) (sym none) ∙ row)
    by (Some s) is =
        let shape : slice_get (shape_of d).sets set ≡ Some s.shape = slice_get-map (λ (s : SetText). s.shape) d.sets set ∙ ap (option_map (λ (s : SetText). s.shape)) is in
        let many : s.shape.rows ≡ n = taken (not s.shape.partial && is_numeric (slice_get (shape_of d).items s.shape.item)) s.shape.rows (ap (rows_by (shape_of d)) (sym shape) ∙ rows) in
        let its : IsSoundSet d s = sound_at d d.sets set s (recursion_from_All (IsSoundSet d) d.sets sound.sets) is in
        found n i x s.spans (subst (λ n. RowsBelow n s.spans) many its.rows)
        (ap (λ (o : Option SetText). row_in x (option_map_or (λ s. s.spans) o [])) (sym is) ∙ row)
      where
        taken : (b : Bool) (m : ℕ) → (if b then Some m else None) ≡ Some n → m ≡ n
        taken true m e = same_Some m n e
        taken false m e = absurd (none-some n e)
