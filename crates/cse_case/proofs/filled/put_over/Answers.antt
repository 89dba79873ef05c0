use Rattle.std.proofs.Common.{◌≡◌, ◌+◌, ◌-◌, ◌≤◌, ◌∙◌, ℕ, List, ap, sym, take, length, length-take-le, arith, subst}
use Rattle.std.specs.Str.{IsAscii}
use Rattle.cse_case.proofs.LaidLaws.{length-with_columns}
use Rattle.cse_case.specs.Bytes.{columns_by}
use Rattle.cse_case.specs.NamedColumns.{padded}
use Rattle.cse_case.specs.Run.{with_columns}
use Rattle.cse_case.proofs.BytesLaws.{over_ascii, padded_wide, take-columns_by}
use Rattle.cse_case.proofs.filled.put_over.Goals as goal

-- what is written over the bytes
wrote : (at n : ℕ) (text bytes new : List ℕ) → n ≤ length text → new ≡ with_columns at (padded (at + n - at) (take n text)) bytes → new ≡ with_columns at (take n text) bytes
wrote at n text bytes new fits is =
    let len : length (take n text) ≡ n = length-take-le n text fits in
    let wide : at + n - at ≤ length (take n text) = omega (arith, len) in
    is ∙ ap (λ field. with_columns at field bytes) (sym (padded_wide (at + n - at) (take n text) wide))

over_len : (at n : ℕ) (text old new : List ℕ) → n ≤ length text → new ≡ with_columns at (take n text) old → at + n ≤ length old → length new ≡ length old
over_len at n text old new fits is room = ap length is ∙ length-with_columns at (take n text) old (omega (arith, length-take-le n text fits, room))

pub put_over_beside-requires : goal.put_over_beside-requires
put_over_beside-requires c =
    let own = c.args.own.now in
    let text = c.args.text.now in
    let at = c.args.first in
    let n = c.args.len in
    let bytes = wrote at n text.bytes.items own.bytes.items c.put_between.new.bytes.items c.requires.there (c.put_between.ensures.bytes ∙ ap (λ l. with_columns at (padded (at + n - at) (take n l)) own.bytes.items) c.deref.ensures.value) in
    let len = over_len at n text.bytes.items own.bytes.items c.put_between.new.bytes.items c.requires.there bytes c.requires.room in
    record {
      room = omega (arith, len, c.requires.room);
      beside = omega (arith, len, c.requires.beside);
      there = c.requires.there;
    }

pub returns-then-not-put_between-clause-columns : goal.returns-then-not-put_between-clause-columns
returns-then-not-put_between-clause-columns c =
    let own = c.args.own.now in
    let text = c.args.text.now in
    let at = c.args.first in
    let n = c.args.len in
    let bytes = wrote at n text.bytes.items own.bytes.items c.put_between.new.bytes.items c.requires.there (c.put_between.ensures.bytes ∙ ap (λ l. with_columns at (padded (at + n - at) (take n l)) own.bytes.items) c.deref.ensures.value) in
    c.put_over_beside.ensures.columns own.bytes.items (sym (over_len at n text.bytes.items own.bytes.items c.put_between.new.bytes.items c.requires.there bytes c.requires.room)) bytes

pub returns-else-not-put_between-clause-columns : goal.returns-else-not-put_between-clause-columns
returns-else-not-put_between-clause-columns c =
    let own = c.args.own.now in
    let text = c.args.text.now in
    let at = c.args.first in
    let n = c.args.len in
    let t = take n text.bytes.items in
    let t_len : length t ≡ n = length-take-le n text.bytes.items c.requires.there in
    let bytes = wrote at n text.bytes.items own.bytes.items c.put_between.new.bytes.items c.requires.there (c.put_between.ensures.bytes ∙ ap (λ l. with_columns at (padded (at + n - at) (take n l)) own.bytes.items) c.deref.ensures.value) in
    ap (λ l. columns_by l own.beside.items) bytes
    ∙ over_ascii at t text.beside.items own.bytes.items own.beside.items (subst IsAscii (ap (take n) c.deref.ensures.value) (c.put_between.ensures.plain c.if-not-put_between.false).ascii) (omega (arith, t_len, c.requires.room))
    ∙ ap (λ l. with_columns at l (columns_by own.bytes.items own.beside.items)) (take-columns_by n text.bytes.items text.beside.items)
