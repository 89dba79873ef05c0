-- The open brackets of all calls are at most the frames of the routine.
use Rattle.std.proofs.Common.{◌≡◌, ℕ, zero, suc, ◌+◌, ◌<◌, ◌≤◌, List, [], ◌∷◌, length, get_or, refl, sym, ap, ◌∙◌, ⊎_elim, arith}
use Rattle.std.specs.Prelude.{slice_get, max}
use Rattle.std.proofs.lemmas.Bool.{cases_lt}
use Rattle.std.proofs.lemmas.List.{length-map, length_push, get_or_append_left, get_or_push}
use Rattle.std.proofs.lemmas.List.Sums.{sum_by-cons}
use Rattle.std.proofs.lemmas.Option.{slice_get_within}
use Rattle.cse_image_parts.specs.Image.{Image}
use Rattle.cse_code_typing.specs.declared.control.Control.{Control}
use Rattle.cse_code_typing.specs.declared.control.Control.TheVariants.{Call}
use Rattle.cse_code_typing.specs.Skeleton.{skeleton_of}
use Rattle.cse_code_typing.specs.Bracket.{around}
use Rattle.cse_code_typing.proofs.Around.{around_plain}
use Rattle.cse_verify.specs.Frames.{frames_in_call, most_frames, frames_below, frames_of}
use Rattle.cse_verify.specs.Walk.{Standing}
use Rattle.cse_verify.specs.Calls.{IsStanding, IsCaller, AreCalls, open_in}
use Rattle.cse_verify.proofs.Tails.{no_begin, no_end}

-- ---- the frames of a routine

abbrev frames_at : List ℕ → List Control → ℕ → ℕ
frames_at table code p = length (around code p) + frames_in_call table (slice_get code p)

at_most : (table : List ℕ) (code : List Control) (p n : ℕ) → p < n → frames_at table code p ≤ most_frames table code n
unfolding most_frames
at_most table code p zero lt = absurd (omega arith)
at_most table code p (suc n) lt =
    let more : most_frames table code (suc n) ≡ max (most_frames table code n) (frames_at table code n) = refl in
    ⊎_elim
    (λ (l : p < n). let ih = at_most table code p n l in omega arith)
    (λ (l : n ≤ p). let e : p ≡ n = omega arith in let k = ap (frames_at table code) e in omega arith)
    (cases_lt p n)

pub length-frames : (x : Image) (n : ℕ) → length (frames_below x n) ≡ n
unfolding frames_below
length-frames x zero = refl
length-frames x (suc n) = let ih = length-frames x n in length_push (frames_below x n) (frames_of x n) ∙ omega arith

pub frames_told : (x : Image) (n r : ℕ) → r < n → get_or (frames_below x n) r 0 ≡ frames_of x r
unfolding frames_below
frames_told x zero r lt = absurd (omega arith)
frames_told x (suc n) r lt =
    let len = length-frames x n in
    ⊎_elim
    (λ (l : r < n). get_or_append_left (frames_below x n) (frames_of x n ∷ []) 0 r (omega arith) ∙ frames_told x n r l)
    (λ (l : n ≤ r). let e : n ≡ r = omega arith in get_or_push (frames_below x n) (frames_of x n) 0 r (omega arith) ∙ ap (frames_of x) e)
    (cases_lt r n)

-- ---- calls

open_here : (x : Image) (c : Standing) → IsStanding x c → length c.opens ≡ length (around (skeleton_of x c.routine) c.place)
open_here x c good = sym (length-map c.opens (λ t. t.opener)) ∙ ap (λ (l : List ℕ). length l) good.opens

-- a caller has room for the brackets of its callee beside its own
caller_room : (x : Image) (callee : ℕ) (d : Standing) → IsStanding x d → IsCaller x callee d → length d.opens + frames_of x callee ≤ frames_of x d.routine
caller_room x callee d good caller =
    let code = skeleton_of x d.routine in
    let table = frames_below x d.routine in
    let p = caller.at in
    let one : suc p ≡ p + 1 = omega arith in
    let next = around_plain code p (no_begin code p (Call callee) caller.calls refl) (no_end code p (Call callee) caller.calls refl) in
    let own = open_here x d good ∙ ap (λ k. length (around code k)) (caller.behind ∙ sym one) ∙ ap (λ (l : List ℕ). length l) next in
    let called : frames_in_call table (slice_get code p) ≡ frames_of x callee = ap (frames_in_call table) caller.calls ∙ frames_told x d.routine callee caller.smaller in
    let most = at_most table code p (length code) (slice_get_within code p (Call callee) caller.calls) in
    omega arith

climb : (x : Image) (r above : ℕ) (c : Standing) (below : List Standing) → AreCalls x r (c ∷ below) → above + length c.opens ≤ frames_of x c.routine → above + open_in (c ∷ below) ≤ frames_of x r
climb x r above c [] are few =
    let more = sum_by-cons (λ (d : Standing). length d.opens) c [] in
    let same = ap (frames_of x) are.1 in
    omega arith
climb x r above c (d ∷ below) are few =
    let more = sum_by-cons (λ (e : Standing). length e.opens) c (d ∷ below) in
    let room = caller_room x c.routine d are.2.0 are.1 in
    let ih = climb x r (above + length c.opens) d below are.2 (omega arith) in
    omega arith

pub open_few : (x : Image) (r : ℕ) (w : List Standing) → AreCalls x r w → open_in w ≤ frames_of x r
open_few x r [] are = omega arith
open_few x r (c ∷ below) are =
    let code = skeleton_of x c.routine in
    let own = open_here x c are.0 in
    let most = at_most (frames_below x c.routine) code c.place (length code) are.0.place in
    let all = climb x r 0 c below are (omega arith) in
    omega arith
