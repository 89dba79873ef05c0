-- Tables that are read one after another.
use Rattle.std.proofs.Common.{◌≡◌, ℕ, List, map, Result, Err, IfOk, IfErr, subst}
use Rattle.std.proofs.lemmas.List.{map-id}
use Rattle.cse_image_parts.specs.declared.fault.ReadStop.{ReadStop}
use Rattle.cse_image_parts.specs.declared.limits.TheConstants.{MOST_RECORDS, MOST_ITEMS, MOST_SETS, MOST_ORDER, MOST_CONSTANTS, MOST_TEXTS, MOST_GLOBALS, MOST_ARRAYS, MOST_MESSAGES, MOST_ROUTINES, MOST_EVENTS}
use Rattle.cse_image_parts.specs.declared.version.Version.{Version}
use Rattle.cse_image_parts.specs.Fields.{instructions_in, last_event}
use Rattle.cse_image_parts.specs.Image.{Lists}
use Rattle.cse_image_parts.specs.Reader.{Reader, Gives, number, signed, then_at, counted}
use Rattle.cse_image.specs.Reading.{record_at, item_at, set_at, limits_at, text_at, global_at, array_at, message_at, routine_at, event_at, lists_at}
use Rattle.cse_image.proofs.Chains.{GoesOn, step, no_step}

-- a section whose entries are seen as they are
as_it_is : {X Z A B : Type 0} (view : Z → B × List ℕ) (final : Result Z ReadStop) (left : X → List ℕ) (r : Reader (List A)) (k : List A → Reader B) (xs : List A) (before now : Result X ReadStop)
    → IfOk before (λ x. Gives (λ y. (map (λ z. z) xs, left y)) now (r (left x))) → IfErr before (λ e. now ≡ Err e) → GoesOn view final left (k xs) now → GoesOn view final left (then_at r k) before
as_it_is {A = A} view final left r k xs before now is =
    step view final left r k xs before now (subst (λ (ys : List A). IfOk before (λ x. Gives (λ y. (ys, left y)) now (r (left x)))) (map-id xs) is)

-- each section is read from where the one before it ends
pub tables_read : {S : Type 0} (left : S → List ℕ) (version : Version) (x : Lists) (r0 r1 r2 r3 r4 r5 r6 r7 r8 r9 r10 r11 r12 : Result S ReadStop)
    → IfOk r0 (λ b. Gives (λ s. (map (λ y. y) x.records, left s)) r1 ((counted MOST_RECORDS (λ _. record_at)) (left b))) → IfErr r0 (λ e. r1 ≡ Err e)
    → IfOk r1 (λ b. Gives (λ s. (map (λ y. y) x.items, left s)) r2 ((counted MOST_ITEMS (λ _. item_at)) (left b))) → IfErr r1 (λ e. r2 ≡ Err e)
    → IfOk r2 (λ b. Gives (λ s. (map (λ y. y) x.sets, left s)) r3 ((counted MOST_SETS (λ _. set_at)) (left b))) → IfErr r2 (λ e. r3 ≡ Err e)
    → IfOk r3 (λ b. Gives (λ s. (map (λ y. y) x.order, left s)) r4 ((counted MOST_ORDER (λ _. number 4)) (left b))) → IfErr r3 (λ e. r4 ≡ Err e)
    → IfOk r4 (λ b. Gives (λ s. (map (λ y. y) x.constants, left s)) r5 ((counted MOST_CONSTANTS (λ _. signed)) (left b))) → IfErr r4 (λ e. r5 ≡ Err e)
    → IfOk r5 (λ b. Gives (λ s. (x.limits, left s)) r6 ((limits_at version) (left b))) → IfErr r5 (λ e. r6 ≡ Err e)
    → IfOk r6 (λ b. Gives (λ s. (x.texts, left s)) r7 ((counted MOST_TEXTS (λ _. text_at)) (left b))) → IfErr r6 (λ e. r7 ≡ Err e)
    → IfOk r7 (λ b. Gives (λ s. (map (λ y. y) x.globals, left s)) r8 ((counted MOST_GLOBALS (λ _. global_at)) (left b))) → IfErr r7 (λ e. r8 ≡ Err e)
    → IfOk r8 (λ b. Gives (λ s. (x.arrays, left s)) r9 ((counted MOST_ARRAYS array_at) (left b))) → IfErr r8 (λ e. r9 ≡ Err e)
    → IfOk r9 (λ b. Gives (λ s. (x.messages, left s)) r10 ((counted MOST_MESSAGES (λ _. message_at)) (left b))) → IfErr r9 (λ e. r10 ≡ Err e)
    → IfOk r10 (λ b. Gives (λ s. (x.routines, left s)) r11 ((counted MOST_ROUTINES (λ before. routine_at version (instructions_in before))) (left b))) → IfErr r10 (λ e. r11 ≡ Err e)
    → IfOk r11 (λ b. Gives (λ s. (map (λ y. y) x.events, left s)) r12 ((counted MOST_EVENTS (λ before. event_at (last_event before))) (left b))) → IfErr r11 (λ e. r12 ≡ Err e)
    → GoesOn (λ s. (x, left s)) r12 left (lists_at version) r0
unfolding lists_at
tables_read left version x r0 r1 r2 r3 r4 r5 r6 r7 r8 r9 r10 r11 r12 h_records e_records h_items e_items h_sets e_sets h_order e_order h_constants e_constants h_limits e_limits h_texts e_texts h_globals e_globals h_arrays e_arrays h_messages e_messages h_routines e_routines h_events e_events =
    as_it_is _ _ left _ _ _ r0 r1 h_records e_records (
    as_it_is _ _ left _ _ _ r1 r2 h_items e_items (
    as_it_is _ _ left _ _ _ r2 r3 h_sets e_sets (
    as_it_is _ _ left _ _ _ r3 r4 h_order e_order (
    as_it_is _ _ left _ _ _ r4 r5 h_constants e_constants (
    step _ _ left _ _ _ r5 r6 h_limits e_limits (
    step _ _ left _ _ _ r6 r7 h_texts e_texts (
    as_it_is _ _ left _ _ _ r7 r8 h_globals e_globals (
    step _ _ left _ _ _ r8 r9 h_arrays e_arrays (
    step _ _ left _ _ _ r9 r10 h_messages e_messages (
    step _ _ left _ _ _ r10 r11 h_routines e_routines (
    as_it_is _ _ left _ _ _ r11 r12 h_events e_events (
    no_step left x r12))))))))))))
