-- The rest: the most steps that calls may still take.
use Rattle.std.specs.Prelude.{ℕ, suc, ◌+◌, ◌-◌, ◌*◌, List, [], ◌∷◌, Option, Some, slice_get, slice_index}
use Rattle.cse_image_parts.specs.Image.{Image}
use Rattle.cse_code_typing.specs.declared.control.Control.{Control}
use Rattle.cse_code_typing.specs.declared.control.Control.TheVariants.{Open, End, Call}
use Rattle.cse_code_typing.specs.Skeleton.{skeleton_of}
use Rattle.cse_verify.specs.Bound.{bounds_below}
use Rattle.cse_verify.specs.Walk.{Turning, Standing}

-- The most steps from the place p on to the end of the innermost bracket around it, or of the routine, by
-- those of the places behind it: at an opener all turns and what comes behind the end, at a call those of
-- the callee. It is no least number: what stands behind a jump, a break or a return counts too.
abbrev pub steps_from : List ℕ → (ℕ → ℕ) → ℕ → Control → ℕ
steps_from bounds behind p (Open limit e) = 1 + limit * behind (suc p) + behind (suc e)
steps_from bounds behind p (End s) = 1
steps_from bounds behind p (Call r) = 1 + slice_index bounds r + behind (suc p)
steps_from bounds behind p _ = 1 + behind (suc p)

-- the same of each place of code that begins at p, from the back
unfoldable pub tails : List ℕ → ℕ → List Control → List ℕ
tails bounds p [] = []
tails bounds p (i ∷ is) =
    steps_from bounds (λ q. slice_index (tails bounds (suc p) is) (q - suc p)) p i ∷ tails bounds (suc p) is

-- the most steps from a place of some code; 0 past its end
unfoldable pub tail : List ℕ → List Control → ℕ → ℕ
tail bounds code p = slice_index (tails bounds 0 code) p

-- the end that an opener names
abbrev pub end_in : Option Control → ℕ
end_in (Some (Open limit e)) = e
end_in _ = 0

-- of open brackets: the turns left of each, and what comes behind its end
abbrev pub rest_opens : (ℕ → ℕ) → List Control → List Turning → ℕ
rest_opens steps code [] = 0
rest_opens steps code (t ∷ outer) =
    t.left * steps (suc t.opener) + steps (suc (end_in (slice_get code t.opener))) + rest_opens steps code outer

-- of one call, by the bounds of the smaller routines
abbrev pub rest_call : Image → Standing → ℕ
rest_call x c =
    tail (bounds_below x c.routine) (skeleton_of x c.routine) c.place
    + rest_opens (tail (bounds_below x c.routine) (skeleton_of x c.routine)) (skeleton_of x c.routine) c.opens

-- of all calls
abbrev pub rest : Image → List Standing → ℕ
rest x [] = 0
rest x (c ∷ below) = rest_call x c + rest x below
