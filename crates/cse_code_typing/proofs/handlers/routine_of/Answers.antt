use Rattle.std.proofs.Common.{◌≡◌, List, Some, None, refl, sym, ap, le_refl, ◌∙◌}
use Rattle.std.proofs.lemmas.Option.{same_Some}
use Rattle.std.specs.Prelude.{slice_get}
use Rattle.cse_lemmas.proofs.Options.{none_and_some}
use Rattle.cse_image_parts.specs.declared.entries.EventEntry.{EventEntry}
use Rattle.cse_code_typing.specs.Handlers.{is_of, routine_of}
use Rattle.cse_code_typing.proofs.HandlerLaws.{events_ascend, halved_at, found_at, not_there}
use Rattle.cse_code_typing.proofs.handlers.routine_of.Goals as goal

pub place_of-place-requires : goal.place_of-place-requires
place_of-place-requires g c = (events_ascend c.args.program.now c.events-events.result.now c.tables-ascend.ensures.fits c.events-events.ensures).rises

pub returns-in_err-entry : goal.returns-in_err-entry
returns-in_err-entry g c =
    let events = c.events-events.result.now in
    let none : slice_get events c.place_of-place.result ≡ None = sym c.entry_at.ensures ∙ c.in_err-entry.was in
    c.from_residual.ensures
    ∙ not_there events c.args.event c.place_of-place.result c.place_of-place.result (events_ascend c.args.program.now events c.tables-ascend.ensures.fits c.events-events.ensures)
    (halved_at events _ _ c.event_order.ensures c.place_of-place.ensures.before c.place_of-place.ensures.after c.place_of-place.ensures.within) (le_refl c.place_of-place.result)
    (λ entry at. absurd (none_and_some (slice_get events c.place_of-place.result) entry none at))
    ∙ ap (λ (l : List EventEntry). routine_of l c.args.event) c.events-events.ensures

pub returns-then-is_of : goal.returns-then-is_of
returns-then-is_of g c =
    let events = c.events-events.result.now in
    found_at events c.args.event c.place_of-place.result c.place_of-place.result c.in_ok-entry.entry c.in_ok-entry.entry.routine
    (halved_at events _ _ c.event_order.ensures c.place_of-place.ensures.before c.place_of-place.ensures.after c.place_of-place.ensures.within)
    (sym c.entry_at.ensures ∙ c.in_ok-entry.was) (sym c.is_of.ensures ∙ c.if-is_of.true) refl
    ∙ ap (λ (l : List EventEntry). routine_of l c.args.event) c.events-events.ensures

pub returns-else-is_of : goal.returns-else-is_of
returns-else-is_of g c =
    let events = c.events-events.result.now in
    let at : slice_get events c.place_of-place.result ≡ Some c.in_ok-entry.entry = sym c.entry_at.ensures ∙ c.in_ok-entry.was in
    not_there events c.args.event c.place_of-place.result c.place_of-place.result (events_ascend c.args.program.now events c.tables-ascend.ensures.fits c.events-events.ensures)
    (halved_at events _ _ c.event_order.ensures c.place_of-place.ensures.before c.place_of-place.ensures.after c.place_of-place.ensures.within) (le_refl c.place_of-place.result)
    (λ entry also. ap (is_of c.args.event) (same_Some entry c.in_ok-entry.entry (sym also ∙ at)) ∙ sym c.is_of.ensures ∙ c.if-is_of.false)
    ∙ ap (λ (l : List EventEntry). routine_of l c.args.event) c.events-events.ensures
