-- The rows of a set are few.
use Rattle.std.proofs.Common.{◌≡◌, ◌≤◌, ℕ, Bool, true, false, List, Option, Some, None, refl, sym, ap, ◌∙◌, subst}
use Rattle.std.specs.Prelude.{All, slice_get, if◌then◌else◌, ◌==◌}
use Rattle.std.proofs.lemmas.Option.{slice_get_within, get_or_from_slice_get}
use Rattle.cse_dict.specs.Dictionary.{DictionaryText, SetText}
use Rattle.cse_dict.specs.Rows.{HasFewRows}
use Rattle.cse_logic_names.specs.WellTyped.{rows_of}

the_rows : (r n : ℕ) (b : Bool) → Some n ≡ (if b then None else Some r) → n ≡ r
the_rows r n true e = cc
the_rows r n false e = cc

pub few_rows : (d : DictionaryText) → HasFewRows d → (k n : ℕ) → Some n ≡ rows_of (slice_get d.sets k) → n ≤ 65534
few_rows d h k n e = by (slice_get d.sets k) refl
  where
    by : (o : Option SetText) → slice_get d.sets k ≡ o → n ≤ 65534
    by None f = cc
    by (Some x) f =
        let is : n ≡ x.shape.rows = the_rows x.shape.rows n (x.shape.rows == 0) (e ∙ ap rows_of f) in
        let few = h k x (slice_get_within d.sets k x f) in
        subst (λ m. m ≤ 65534) (sym is) (subst (λ (y : SetText). y.shape.rows ≤ 65534) (get_or_from_slice_get d.sets k x x f) few)
