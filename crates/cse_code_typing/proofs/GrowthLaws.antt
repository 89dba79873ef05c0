-- Which routines need growth.
use Rattle.std.proofs.Common.{◌≡◌, ℕ, zero, suc, ◌+◌, ◌<◌, ◌≤◌, Bool, true, false, List, [], ◌∷◌, ◌++◌, length, get_or, Some, refl, sym, ap, ◌∙◌, ⊎_elim, arith}
use Rattle.std.specs.Prelude.{slice_get}
use Rattle.std.specs.List.{list_any}
use Rattle.std.proofs.lemmas.Bool.{cases_lt}
use Rattle.std.proofs.lemmas.List.{length_push, get_or_append_left, get_or_push}
use Rattle.std.proofs.lemmas.List.Folds.{list_any_at}
use Rattle.std.proofs.lemmas.Option.{slice_get_within, get_or_from_slice_get}
use Rattle.cse_image_parts.specs.declared.instruction.Op.{Op}
use Rattle.cse_image_parts.specs.declared.instruction.Op.TheVariants as ops
use Rattle.cse_image_parts.specs.declared.instruction.Instr.{Instr}
use Rattle.cse_image_parts.specs.Image.{Image, MessageLists}
use Rattle.cse_code_typing.specs.Code.{code_of}
use Rattle.cse_code_typing.specs.Growth.{is_listed_message, grows_by, grows, growing_below, needs_growth, ReportsGrow, GrowthIsTold}

length-growing : (x : Image) (n : ℕ) → length (growing_below x n) ≡ n
unfolding growing_below
length-growing x zero = refl
length-growing x (suc n) = let ih = length-growing x n in length_push (growing_below x n) (needs_growth x n) ∙ omega arith

growing_at : (x : Image) (n r : ℕ) → r < n → get_or (growing_below x n) r false ≡ needs_growth x r
unfolding growing_below
growing_at x zero r lt = absurd (omega arith)
growing_at x (suc n) r lt =
    let len = length-growing x n in
    ⊎_elim
    (λ (l : r < n). get_or_append_left (growing_below x n) (needs_growth x n ∷ []) false r (omega arith) ∙ growing_at x n r l)
    (λ (l : n ≤ r). let e : n ≡ r = omega arith in get_or_push (growing_below x n) (needs_growth x n) false r (omega arith) ∙ ap (needs_growth x) e)
    (cases_lt r n)

imputes : (messages : List MessageLists) (table : List Bool) (op : Op) (c : ℕ) → op ≡ ops.Impute → grows_by messages table op c ≡ true
unfolding grows_by
imputes messages table op c is = ap (λ o. grows_by messages table o c) is

lists : (messages : List MessageLists) (table : List Bool) (op : Op) (c : ℕ) → op ≡ ops.Message → is_listed_message messages c ≡ true → grows_by messages table op c ≡ true
unfolding grows_by
lists messages table op c is listed = ap (λ o. grows_by messages table o c) is ∙ listed

called : (messages : List MessageLists) (table : List Bool) (op : Op) (c : ℕ) → op ≡ ops.Call → get_or table c false ≡ true → grows_by messages table op c ≡ true
unfolding grows_by
called messages table op c is told = ap (λ o. grows_by messages table o c) is ∙ told

at_place : (x : Image) (r p : ℕ) (i : Instr) → slice_get (code_of x r) p ≡ Some i → grows x.lists.messages (growing_below x r) i ≡ true → needs_growth x r ≡ true
at_place x r p i at h =
    list_any_at (grows x.lists.messages (growing_below x r)) (code_of x r) p i (slice_get_within (code_of x r) p i at)
    (ap (grows x.lists.messages (growing_below x r)) (get_or_from_slice_get (code_of x r) p i i at) ∙ h)

pub growth_told : GrowthIsTold
growth_told = record {
  here = λ x r p i at grow.
      at_place x r p i at
      (⊎_elim (λ impute. imputes x.lists.messages (growing_below x r) i.op i.c impute)
      (λ message. lists x.lists.messages (growing_below x r) i.op i.c message.0 message.1) grow);
  calls = λ x r p i at is lt told.
      at_place x r p i at (called x.lists.messages (growing_below x r) i.op i.c is (growing_at x r i.c lt ∙ told));
}
