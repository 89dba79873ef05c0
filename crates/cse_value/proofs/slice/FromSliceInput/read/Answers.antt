use Rattle.cse_value.proofs.SliceLaws.{as_many, ended_at, read_more, room_before}
use Rattle.cse_value.proofs.slice.FromSliceInput.read.Goals as goal

pub returns-clause-bytes : goal.returns-clause-bytes
returns-clause-bytes c =
    let s = c.args.self.now in
    let put = c.copy_from_slice.new.self in
    let many = as_many _ _ put c.args.buf.now c.min-count.ensures c.copy_from_slice.ensures.len in (
      read_more s.bytes.now put _ s.count c.min-count.result s.ended c.is_empty-self.result c.copy_from_slice.ensures.after many,
      λ some. ended_at _ _ _ _ c.min-count.ensures (room_before _ _ put c.args.buf.now c.min-count.ensures many some) c.is_empty-self.ensures,
    )
