-- The calls of a routine whose instructions may stand in it go to smaller routines.
use Rattle.std.proofs.Common.{◌≡◌, ℕ, ◌<◌, Bool, true, false, cond, eqb, ltb, List, length, Option, Some, None, refl, sym, ap, ◌∙◌}
use Rattle.std.specs.Prelude.{slice_get, option_map, IsTrue}
use Rattle.std.proofs.lemmas.Bool.{and_parts, ltb-true}
use Rattle.std.proofs.lemmas.Option.{slice_get-map, slice_get_within, same_Some}
use Rattle.cse_image_parts.specs.declared.instruction.Op.{Op}
use Rattle.cse_image_parts.specs.declared.instruction.Op.TheVariants as ops
use Rattle.cse_image_parts.specs.declared.instruction.Instr.{Instr}
use Rattle.cse_image_parts.specs.declared.entries.Ambient.{Ambient}
use Rattle.cse_image_parts.specs.Image.{Lists, RoutineLists}
use Rattle.cse_code_typing.specs.declared.control.Control.{Control}
use Rattle.cse_code_typing.specs.declared.control.Control.TheVariants.{Branch, Call, Step}
use Rattle.cse_code_typing.specs.Skeleton.{control_by, control, skeleton}
use Rattle.cse_code_typing.specs.Order.{is_run}
use Rattle.cse_code_typing.specs.Calls.{needs_case, calls_well, may_stand, AllMayStand, may_call}
use Rattle.cse_verify.specs.Bound.{CallsBelow}

row_calls_none : (b : Bool) (c k : ℕ) → cond b (Branch c) Step ≡ Call k → ⊥
row_calls_none true c k e = cc
row_calls_none false c k e = cc

called : (lists : Lists) (routines : List RoutineLists) (r : ℕ) (run : Bool) (op : Op) (a b c k : ℕ) → control_by lists op a b c ≡ Call k → IsTrue (calls_well routines r run op c) → k < r
unfolding control_by calls_well
called lists routines r run ops.Call a b c k e well =
    let same : c ≡ k = cc in
    ltb-true k r (ap (λ n. ltb n r) (sym same) ∙ (and_parts _ _ well).0)
called lists routines r run ops.Row a b c k e well = absurd (row_calls_none (eqb a 0) c k e)
called lists routines r run op a b c k e well = cc

by_instr : (lists : Lists) (routines : List RoutineLists) (r : ℕ) (ambient : Ambient) (k : ℕ) (o : Option Instr) → option_map (control lists) o ≡ Some (Call k)
    → ((i : Instr) → o ≡ Some i → IsTrue (may_stand routines r ambient i)) → k < r
by_instr lists routines r ambient k None e stands = cc
by_instr lists routines r ambient k (Some i) e stands =
    called lists routines r (is_run ambient) i.op i.a i.b i.c k (same_Some _ _ e) (and_parts _ _ (stands i refl)).1

pub calls_below : (lists : Lists) (routines : List RoutineLists) (r : ℕ) (ambient : Ambient) (code : List Instr) → AllMayStand routines r ambient code → CallsBelow r (skeleton lists code)
calls_below lists routines r ambient code all p k at =
    by_instr lists routines r ambient k (slice_get code p) (sym (slice_get-map (control lists) code p) ∙ at) (λ i there. all p i (slice_get_within code p i there) there)
