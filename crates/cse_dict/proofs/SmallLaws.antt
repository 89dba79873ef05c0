-- Laws of the table of small numbers' rows.
use Rattle.std.proofs.Common.{◌≡◌, ℕ, zero, suc, ◌<◌, List, [], ◌∷◌, ◌++◌, length, Option, Some, refl, ap, sym, ◌∙◌, pos, negsuc, ℤ, ◌≤ℤ◌, nat_abs, get_or, inl, inr, ⊎_elim, arith}
use Rattle.std.specs.Prelude.{◌⊎◌}
use Rattle.std.proofs.lemmas.Int.{ints}
use Rattle.std.proofs.lemmas.List.{length_push}
use Rattle.std.proofs.lemmas.Option.{get_or_from_slice_get}
use Rattle.cse_lemmas.proofs.Lists.{slice_get_push, slice_get_push_below}
use Rattle.cse_value.specs.declared.number.Num.TheVariants.{Whole}
use Rattle.cse_dict.specs.declared.rows.NumberSpan.{NumberSpan}
use Rattle.cse_dict.specs.Dictionary.{row_in}
use Rattle.cse_dict.specs.Small.{TellsRows}

-- an empty table
pub tells_none : (spans : List NumberSpan) → TellsRows [] spans
tells_none spans number lt = absurd (omega (arith, lt))

-- the row of one number more
pub tells_more : (rows : List (Option ℕ)) (spans : List NumberSpan) (row : Option ℕ) → TellsRows rows spans → row ≡ row_in (Whole (pos (length rows))) spans → TellsRows (rows ++ row ∷ []) spans
tells_more rows spans row before is number lt =
    ⊎_elim
    (λ (front : number < length rows). slice_get_push_below rows row number front ∙ before number front)
    (λ (last : number ≡ length rows). slice_get_push rows row number last ∙ ap Some is ∙ ap (λ n. Some (row_in (Whole (pos n)) spans)) (sym last))
    (by number (length rows) (omega (arith, lt, length_push rows row)))
  where
    by : (n m : ℕ) → n < suc m → (n < m) ⊎ (n ≡ m)
    by zero zero h = inr refl
    by zero (suc m) h = inl (omega arith)
    by (suc n) zero h = absurd (omega (arith, h))
    by (suc n) (suc m) h = ⊎_elim (λ (a : n < m). inl (omega (arith, a))) (λ (b : n ≡ m). inr (ap suc b)) (by n m (omega (arith, h)))

-- the row that stands at the place of a number from 0 on
pub told_row : (rows : List (Option ℕ)) (spans : List NumberSpan) (z : ℤ) (other : Option ℕ) → TellsRows rows spans → pos 0 ≤ℤ z → nat_abs z < length rows → get_or rows (nat_abs z) other ≡ row_in (Whole z) spans
told_row rows spans (pos n) other told from_0 lt = get_or_from_slice_get rows n (row_in (Whole (pos n)) spans) other (told n lt)
told_row rows spans (negsuc n) other told from_0 lt = absurd (omega (arith, ints, from_0))
