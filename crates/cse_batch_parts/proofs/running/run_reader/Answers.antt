use Rattle.std.proofs.Common.{ap, refl, inl, inr, sym, ◌∙◌}
use Rattle.std.proofs.lemmas.Bool.{false≢true}
use Rattle.cse_batch_parts.proofs.CloseLaws.{appends_behind, closed, front_all, front_as, front_behind, front_first, front_now, no_front, runs_whole, stops, stops_end}
use Rattle.cse_batch_parts.proofs.running.run_reader.Goals as goal

pub returns-in-Err-clause-err : goal.returns-in-Err-clause-err
returns-in-Err-clause-err g c =
    let h = c.in-Err.ensures.err in
    let k = c.in-Err.ensures.left in
    stops _ _ _ _ _ _ _ h _ _ _ _ _ _ (closed _ _ _ _ h.written c.finish.ensures h.has_written) (closed _ _ _ _ h.listed c.finish-in-Err.ensures h.has_listed) _ _ _ _ _ _
    (ap g.F.Output.taken k.frequencies) (ap g.D.Output.taken k.decks)

pub returns-in_default-clause-err : goal.returns-in_default-clause-err
returns-in_default-clause-err g c =
    let r = c.in-Ok.ensures.ok in
    let k = c.in-Ok.ensures.left in
    let w = c.in_default.ensures _ _ _ r.written in
    stops_end _ _ _ _ _ _ _ _ _ _ _ _ r
    (record { out = w.0; listing = front_first _ _ r.listed _ _ r.listing_is (front_now _ r.listed r.has_listed); frequencies = no_front _ _ _ (ap g.F.Output.taken k.frequencies); decks = no_front _ _ _ (ap g.D.Output.taken k.decks) }) (λ works. absurd (false≢true (sym works ∙ w.1))) (inl w.1)

pub returns-in_default-finish-clause-err : goal.returns-in_default-finish-clause-err
returns-in_default-finish-clause-err g c =
    let r = c.in-Ok.ensures.ok in
    let k = c.in-Ok.ensures.left in
    let w = c.in-Ok-finish.ensures _ _ _ r.written in
    let l = c.in_default-finish.ensures _ _ _ r.has_listed in
    stops_end _ _ _ _ _ _ _ _ _ _ _ _ r
    (record { out = front_all _ _ _ _ refl w.0; listing = front_first _ _ r.listed _ _ r.listing_is l.0; frequencies = no_front _ _ _ (ap g.F.Output.taken k.frequencies); decks = no_front _ _ _ (ap g.D.Output.taken k.decks) }) (λ works. w.0) (inr (inl l.1))

pub returns-in_default-write_to-clause-err : goal.returns-in_default-write_to-clause-err
returns-in_default-write_to-clause-err g c =
    let r = c.in-Ok.ensures.ok in
    let k = c.in-Ok.ensures.left in
    let w = c.in-Ok-finish.ensures _ _ _ r.written in
    let l = c.in-Ok-finish-2.ensures _ _ _ r.has_listed in
    let e = c.in_default-write_to.ensures in
    stops_end _ _ _ _ _ _ _ _ _ _ _ _ r
    (record { out = front_all _ _ _ _ refl w.0; listing = front_behind _ _ _ r.listed _ _ r.listing_is l.0 e.bytes; frequencies = no_front _ _ _ (ap g.F.Output.taken k.frequencies); decks = no_front _ _ _ (ap g.D.Output.taken k.decks) }) (λ works. w.0) (inr (inl e.failed))

pub returns-in_default-write_to-2-clause-err : goal.returns-in_default-write_to-2-clause-err
returns-in_default-write_to-2-clause-err g c =
    let r = c.in-Ok.ensures.ok in
    let k = c.in-Ok.ensures.left in
    let w = c.in-Ok-finish.ensures _ _ _ r.written in
    let l = c.in-Ok-finish-2.ensures _ _ _ r.has_listed in
    let all = appends_behind _ _ _ r.listed _ _ r.listing_is l.0 c.in-Ok-write_to.ensures.bytes in
    let e = rw (c.dictionary.ensures, k.frequencies) at c.in_default-write_to-2.ensures.bytes in
    stops_end _ _ _ _ _ _ _ _ _ _ _ _ r
    (record { out = front_all _ _ _ _ refl w.0; listing = front_all _ _ _ _ refl all; frequencies = front_as _ _ _ _ r.frequencies_are e; decks = no_front _ _ _ (ap g.D.Output.taken k.decks) }) (λ works. w.0) (inr (inr (inl c.in_default-write_to-2.ensures.failed)))

pub returns-in_default-save-clause-err : goal.returns-in_default-save-clause-err
returns-in_default-save-clause-err g c =
    let r = c.in-Ok.ensures.ok in
    let k = c.in-Ok.ensures.left in
    let w = c.in-Ok-finish.ensures _ _ _ r.written in
    let l = c.in-Ok-finish-2.ensures _ _ _ r.has_listed in
    let all = appends_behind _ _ _ r.listed _ _ r.listing_is l.0 c.in-Ok-write_to.ensures.bytes in
    let f = rw (c.dictionary.ensures, k.frequencies) at c.in-Ok-write_to-2.ensures.bytes in
    let e = rw (c.program.ensures.program, k.decks) at c.in_default-save.ensures.bytes in
    stops_end _ _ _ _ _ _ _ _ _ _ _ _ r
    (record { out = front_all _ _ _ _ refl w.0; listing = front_all _ _ _ _ refl all; frequencies = front_all _ _ _ _ r.frequencies_are f; decks = front_as _ _ _ _ r.decks_are e }) (λ works. w.0) (inr (inr (inr c.in_default-save.ensures.failed)))

pub returns-clause-ok : goal.returns-clause-ok
returns-clause-ok g c =
    let r = c.in-Ok.ensures.ok in
    let k = c.in-Ok.ensures.left in
    let w = c.in-Ok-finish.ensures _ _ _ r.written in
    let l = c.in-Ok-finish-2.ensures _ _ _ r.has_listed in
    let all = appends_behind _ _ _ r.listed _ _ r.listing_is l.0 c.in-Ok-write_to.ensures.bytes in
    let f = rw (c.dictionary.ensures, k.frequencies) at c.in-Ok-write_to-2.ensures.bytes in
    let e = rw (c.program.ensures.program, k.decks) at c.in-Ok-save.ensures.bytes in
    runs_whole _ _ _ _ _ _ _ _ _ _ _ r (record { out = w.0; listing = all; frequencies = rw r.frequencies_are at f; decks = rw r.decks_are at e })
