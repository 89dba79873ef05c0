use Rattle.std.proofs.lemmas.Bool.{false≢true}
use Rattle.std.proofs.Common.{◌≡◌, ◌≤◌, ◌+◌, ◌-◌, ◌++◌, ◌∙◌, max, ap, sym, take, length, arith, refl}
use Rattle.cse_case.specs.Bytes.{columns_by}
use Rattle.cse_case.specs.NamedColumns.{padded}
use Rattle.cse_case.specs.Run.{with_columns}
use Rattle.cse_case.proofs.BytesLaws.{IsAscii-padded, length-columns_by, take-columns_by, take_before, take_with, with_ascii}
use Rattle.cse_case.proofs.DecodeLaws.{length-padded}
use Rattle.cse_case.proofs.filled.Filled.push_plain.Goals as goal

pub invariant_of-self : goal.invariant_of-self
invariant_of-self c = (omega (arith, c.self.invariant.0, c.fill_up.ensures.wide), c.fill_up.ensures.beside)

pub returns-then-is_plain-clause-pushed : goal.returns-then-is_plain-clause-pushed
returns-then-is_plain-clause-pushed c plain =
    let at = c.self.inside.len in
    let text = c.args.text.now in
    let width = c.args.width in
    let end : c.in-Some.end ≡ at + width = c.in-Some.ensures.1 in
    let bytes = c.fill_up.new.own.bytes.items in
    let beside = c.fill_up.new.own.beside.items in
    let all = columns_by bytes beside in
    let field = padded width text in
    let field_len : length field ≡ width = length-padded width text ∙ (let e : max (length text) width ≡ width = omega (arith, c.requires) in e) in
    let same : c.in-Some.end - at ≡ width = omega (arith, end) in
    let room : at + length field ≤ length bytes = omega (arith, c.in-Ok.ensures.room, end, field_len) in
    let is : columns_by c.put_between-is_plain.new.bytes.items beside ≡ with_columns at field all =
    ap (λ l. columns_by l beside) (c.put_between-is_plain.ensures.bytes ∙ ap (λ k. with_columns at (padded k text) bytes) same)
    ∙ with_ascii at field bytes beside (IsAscii-padded width text (c.put_between-is_plain.ensures.plain plain).ascii) room in
    ap (take c.in-Some.end) is ∙ ap (λ k. take k (with_columns at field all)) (end ∙ (let e : at + width ≡ at + length field = omega (arith, field_len) in e))
    ∙ take_with at field all (omega (arith, room, length-columns_by bytes beside))
    ∙ ap (λ l. l ++ field) (c.fill_up.ensures.same at c.self.invariant.0 ∙ c.self.view_is)

pub returns-else-is_plain-clause-same : goal.returns-else-is_plain-clause-same
returns-else-is_plain-clause-same c plain =
    let at = c.self.inside.len in
    let bytes = c.fill_up.new.own.bytes.items in
    let beside = c.fill_up.new.own.beside.items in
    let new = c.put_between-is_plain.new.bytes.items in
    sym (take-columns_by at new beside)
    ∙ ap (λ l. columns_by l beside) (ap (take at) c.put_between-is_plain.ensures.bytes ∙ take_before at _ bytes (omega (arith, c.self.invariant.0, c.fill_up.ensures.wide)))
    ∙ take-columns_by at bytes beside ∙ c.fill_up.ensures.same at c.self.invariant.0 ∙ c.self.view_is

pub returns-in_default-clause-pushed : goal.returns-in_default-clause-pushed
returns-in_default-clause-pushed c = λ e. absurd (false≢true e)

pub returns-in_default-clause-plain : goal.returns-in_default-clause-plain
returns-in_default-clause-plain c = λ e. absurd (false≢true e)

pub returns-in_default-fill_up-clause-pushed : goal.returns-in_default-fill_up-clause-pushed
returns-in_default-fill_up-clause-pushed c = λ e. absurd (false≢true e)

pub returns-in_default-fill_up-clause-plain : goal.returns-in_default-fill_up-clause-plain
returns-in_default-fill_up-clause-plain c = λ e. absurd (false≢true e)

pub returns-in_default-clause-same : goal.returns-in_default-clause-same
returns-in_default-clause-same c = λ _. refl

pub fill_up-requires : goal.fill_up-requires
fill_up-requires c = c.self.invariant.1

pub returns-in_default-fill_up-clause-same : goal.returns-in_default-fill_up-clause-same
returns-in_default-fill_up-clause-same c = λ _. c.fill_up.ensures.same c.self.inside.len c.self.invariant.0 ∙ c.self.view_is

pub put_between-is_plain-requires-clause-room : goal.put_between-is_plain-requires-clause-room
put_between-is_plain-requires-clause-room c = c.in-Ok.ensures.room
