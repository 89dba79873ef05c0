use Rattle.std.proofs.Common.{◌≡◌, ◌+◌, ◌∙◌, ap, sym, take, length, length-take, length-take-le, arith}
use Rattle.cse_case.specs.Bytes.{columns_by, reaching}
use Rattle.cse_case.specs.Run.{with_columns}
use Rattle.cse_case.proofs.BytesLaws.{length-reaching, over_reaching, taken_reaching}
use Rattle.cse_case.proofs.filled.put_over_beside.Goals as goal

pub put_beside-requires : goal.put_beside-requires
put_beside-requires c = omega (arith, c.reach.ensures.beside, length-take c.args.len c.deref.result.now)

pub returns-clause-beside : goal.returns-clause-beside
returns-clause-beside c = omega (arith, c.reach.ensures.room, c.put_beside.ensures.capacity)

pub returns-clause-columns : goal.returns-clause-columns
returns-clause-columns c = λ before wide bytes.
    let own = c.args.own.now in
    let text = c.args.text.now in
    let at = c.args.first in
    let n = c.args.len in
    let t = take n text.bytes.items in
    let piece = take (length t) (reaching t text.beside.items) in
    let t_len : length t ≡ n = length-take-le n text.bytes.items c.requires.there in
    let piece_len : length piece ≡ length t = length-take-le (length t) (reaching t text.beside.items) (length-reaching t text.beside.items) in
    let wider = c.reach.new.self.beside.items in
    let new = with_columns at t before in
    let same : columns_by new wider ≡ columns_by new own.beside.items =
    ap (λ l. columns_by l wider) (sym bytes) ∙ ap (λ b. columns_by b.items wider) (sym c.reach.ensures.bytes) ∙ c.reach.ensures.columns ∙ ap (λ l. columns_by l own.beside.items) bytes in
    ap (λ b. columns_by b.items c.put_beside.new.beside.items) c.reach.ensures.bytes
    ∙ ap (λ l. columns_by l c.put_beside.new.beside.items) bytes
    ∙ ap (columns_by new) (c.put_beside.ensures.items
    ∙ ap (λ l. with_columns at (take (length (take n l)) (reaching (take n l) c.deref-2.result.now)) wider) c.deref.ensures.value
    ∙ ap (λ l. with_columns at (take (length t) (reaching t l)) wider) c.deref-2.ensures.value)
    ∙ over_reaching at t piece before own.beside.items wider piece_len (omega (arith, t_len, wide, c.requires.room)) (omega (arith, t_len, c.reach.ensures.beside)) same
    ∙ ap (λ k. with_columns at (columns_by t (take k (reaching t text.beside.items))) (columns_by before own.beside.items)) t_len
    ∙ ap (λ l. with_columns at l (columns_by before own.beside.items)) (taken_reaching n text.bytes.items text.beside.items c.requires.there)
