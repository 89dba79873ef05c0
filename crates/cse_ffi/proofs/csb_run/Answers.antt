use Rattle.std.proofs.Common.{refl, inl}
use Rattle.cse_ffi.proofs.Told.{put_of, room_of, status_is}
use Rattle.cse_ffi.proofs.csb_run.Goals as goal

pub returns-in-Ok : goal.returns-in-Ok
returns-in-Ok c = inl (
  refl,
  record {
    totals = c.in-Ok.texts.totals;
    out = c.in-Ok.texts.out.items;
    listing = c.in-Ok.texts.listing.items;
    frequencies = c.in-Ok.texts.frequencies.items;
    saved = c.in-Ok.texts.decks.items;
    runs = c.in-Ok.ensures.whole;
    totals_are = c.totals_of.ensures;
    out_put = put_of _ _ _ _ c.deref.ensures.value c.is_put-lines.ensures.put;
    listing_put = put_of _ _ _ _ c.deref-in-Ok.ensures.value c.is_put-listed.ensures.put;
    frequencies_put = put_of _ _ _ _ c.deref-in-Ok-2.ensures.value c.is_put-counted.ensures.put;
    saved_put = put_of _ _ _ _ c.deref-in-Ok-3.ensures.value c.is_put-kept.ensures.put;
    number_is = status_is _ _ _ _ _ _ _ _ _ (room_of _ _ _ _ c.deref.ensures.value c.is_put-lines.ensures.room) (room_of _ _ _ _ c.deref-in-Ok.ensures.value c.is_put-listed.ensures.room)
        (room_of _ _ _ _ c.deref-in-Ok-2.ensures.value c.is_put-counted.ensures.room) (room_of _ _ _ _ c.deref-in-Ok-3.ensures.value c.is_put-kept.ensures.room) c.status_of_all.ensures;
  },
)
