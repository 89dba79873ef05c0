use Rattle.std.proofs.Common.{◌≡◌, ◌+◌, ◌≤◌, ◌∙◌, ℕ, List, Bool, true, false, ap, length, refl, take, arith, to_z, of_z, w64}
use Rattle.std.proofs.lemmas.Int.{to_z-of_z}
use Rattle.std.specs.Prelude.{ℤ}
use Rattle.cse_value.specs.Field.{put_whole}
use Rattle.cse_value.proofs.WidthLaws.{length-put_whole}
use Rattle.cse_case.specs.Bytes.{columns_by}
use Rattle.cse_case.specs.Run.{with_columns}
use Rattle.cse_case.proofs.BytesLaws.{ascii_view, taken_len}
use Rattle.cse_case.proofs.LaidLaws.{length-with_columns}
use Rattle.cse_case.proofs.filled.Filled.put_few.Goals as goal

bytes_len : (done : Bool) (at len : ℕ) (fill : Bool) (z : ℤ) (old new : List ℕ) → (done ≡ true → new ≡ with_columns at (put_whole len fill z) old) → (done ≡ false → new ≡ old) → at + len ≤ length old → length new ≡ length old
bytes_len true at len fill z old new wrote same fits = ap length (wrote refl) ∙ length-with_columns at (put_whole len fill z) old (omega (arith, length-put_whole len fill z, fits))
bytes_len false at len fill z old new wrote same fits = ap length (same refl)

pub invariant_of-self : goal.invariant_of-self
invariant_of-self c =
    let own = c.self.inside.own in
    let here = taken_len c.self.inside.len own.bytes.items own.beside.items c.self.invariant.0 in
    let len = bytes_len c.put_few_in.result c.args.start c.args.len c.args.zero_fill (to_z w64 (of_z w64 c.args.number)) own.bytes.items c.put_few_in.new.bytes.items c.put_few_in.ensures.bytes c.put_few_in.ensures.same (omega (arith, c.requires, here, ap length c.self.view_is, c.self.invariant.0)) in
    (omega (arith, len, c.self.invariant.0), omega (arith, len, c.self.invariant.1))

pub returns-clause-columns : goal.returns-clause-columns
returns-clause-columns c done =
    let own = c.self.inside.own in
    let len = c.self.inside.len in
    let at = c.args.start in
    let n = c.args.len in
    let fill = c.args.zero_fill in
    let z = to_z w64 (of_z w64 c.args.number) in
    let same : z ≡ c.args.number = to_z-of_z w64 c.args.number c.ranges.number in
    let field = put_whole n fill z in
    let here = taken_len len own.bytes.items own.beside.items c.self.invariant.0 in
    ap (λ l. take len (columns_by l own.beside.items)) (c.put_few_in.ensures.bytes done)
    ∙ ascii_view len at field own.bytes.items own.beside.items (c.put_few_in.ensures.ascii done) (omega (arith, length-put_whole n fill z, c.requires, here, ap length c.self.view_is)) c.self.invariant.0
    ∙ ap (with_columns at field) c.self.view_is
    ∙ ap (λ y. with_columns at (put_whole n fill y) c.args.self.now) same
