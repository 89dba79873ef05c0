use Rattle.std.proofs.Common.{ℕ, List, refl, subst, sym}
use Rattle.cse_value.specs.Device.{Consumes, Given}
use Rattle.cse_value.specs.Slice.{ReadOf}
use Rattle.cse_ffi.proofs.Told.{contents_same, runs_data, stops_data}
use Rattle.cse_ffi.proofs.calls.texts_of.Goals as goal

pub returns-in-Ok-clause-whole : goal.returns-in-Ok-clause-whole
returns-in-Ok-clause-whole c =
    runs_data c.args.dictionary.now c.args.image.now c.args.decks.now c.args.input.now _ _ _ _ _ _ _ _ c.in-Ok.totals
    (rw c.new-read.ensures (c.gives.ensures c.args.input.now))
    c.new-out.ensures.none c.new-listing.ensures.none c.new-frequencies.ensures.none c.new-saved.ensures.none
    c.in-Ok.ensures.whole (contents_same _ _ _ _ _ _ _ _ c.into_bytes.ensures c.into_bytes-in-Ok.ensures c.into_bytes-in-Ok-2.ensures c.into_bytes-in-Ok-3.ensures)

pub returns-in-Err-clause-stops : goal.returns-in-Err-clause-stops
returns-in-Err-clause-stops c =
    stops_data c.args.dictionary.now c.args.image.now c.args.decks.now c.args.input.now _ _ _ _ _ _ _ _ c.in-Err.why c.in_memory.result
    (rw c.new-read.ensures (c.gives.ensures c.args.input.now))
    c.new-out.ensures.none c.new-listing.ensures.none c.new-frequencies.ensures.none c.new-saved.ensures.none
    c.in-Err.ensures.stops c.in_memory.ensures
