use Rattle.std.proofs.lemmas.Result.{IfOk-from_err}
use Rattle.std.proofs.Common.{◌≡◌, ◌≤◌, ◌+◌, ◌-◌, ◌∙◌, max, ap, sym, take, length, arith}
use Rattle.std.proofs.lemmas.Str.{IsUtf8-from_ascii, chars-IsAscii, is_utf8-from_IsUtf8}
use Rattle.std.specs.Str.{chars}
use Rattle.cse_case.specs.Bytes.{columns_by}
use Rattle.cse_case.specs.NamedColumns.{padded}
use Rattle.cse_case.specs.Run.{with_columns}
use Rattle.cse_case.proofs.BytesLaws.{IsAscii-padded, length-columns_by, take_with, taken_len, with_ascii}
use Rattle.cse_case.proofs.DecodeLaws.{Holds-padded, length-padded}
use Rattle.cse_case.proofs.filled.Filled.read.Goals as goal

pub returns-then-put_between-clause-columns : goal.returns-then-put_between-clause-columns
returns-then-put_between-clause-columns c =
    let text = c.args.text.now in
    let ascii = (c.put_between.ensures.plain c.if-put_between.true).ascii in
    let n = c.self.inside.len in
    let bytes = c.self.inside.own.bytes.items in
    let beside = c.self.inside.own.beside.items in
    let all = columns_by bytes beside in
    let field = padded n text in
    let fits : length text ≤ n = omega (arith, c.in_ok-reach.ensures, ap length c.self.view_is, taken_len n bytes beside c.self.invariant.0) in
    let wide : length field ≡ n = length-padded n text ∙ (let e : max (length text) n ≡ n = omega (arith, fits) in e) in
    let room : 0 + length field ≤ length bytes = omega (arith, wide, c.self.invariant.0) in
    let is : take n (columns_by c.put_between.new.bytes.items beside) ≡ field =
    ap (λ l. take n (columns_by l beside)) (c.put_between.ensures.bytes ∙ ap (λ k. with_columns 0 (padded k text) bytes) (let e : n - 0 ≡ n = omega arith in e))
    ∙ ap (take n) (with_ascii 0 field bytes beside (IsAscii-padded n text ascii) room)
    ∙ ap (λ k. take k (with_columns 0 field all)) (let e : n ≡ 0 + length field = omega (arith, wide) in e)
    ∙ take_with 0 field all (omega (arith, room, length-columns_by bytes beside)) in
    Holds-padded _ (chars text) n (length text) (is ∙ ap (padded n) (sym (chars-IsAscii text ascii))) (ap length (sym (chars-IsAscii text ascii)))

pub returns-then-put_between-clause-utf8 : goal.returns-then-put_between-clause-utf8
returns-then-put_between-clause-utf8 c =
    is_utf8-from_IsUtf8 c.args.text.now (IsUtf8-from_ascii c.args.text.now (c.put_between.ensures.plain c.if-put_between.true).ascii)

pub put_between-requires-clause-wide : goal.put_between-requires-clause-wide
put_between-requires-clause-wide c =
    omega (arith, c.in_ok-reach.ensures, ap length c.self.view_is, taken_len c.self.inside.len c.self.inside.own.bytes.items c.self.inside.own.beside.items c.self.invariant.0)

pub put_beyond_in-requires-clause-fits : goal.put_beyond_in-requires-clause-fits
put_beyond_in-requires-clause-fits c =
    omega (arith, c.in_ok-reach.ensures, ap length c.self.view_is, taken_len c.self.inside.len c.self.inside.own.bytes.items c.self.inside.own.beside.items c.self.invariant.0)

pub returns-in_err-reach-clause-columns : goal.returns-in_err-reach-clause-columns
returns-in_err-reach-clause-columns c = IfOk-from_err c.from_residual.result _ c.from_residual.ensures.0

pub returns-in_err-reach-clause-utf8 : goal.returns-in_err-reach-clause-utf8
returns-in_err-reach-clause-utf8 c = IfOk-from_err c.from_residual.result _ c.from_residual.ensures.0

pub returns-clause-utf8 : goal.returns-clause-utf8
returns-clause-utf8 c = c.put_beyond_in.ensures.utf8

pub returns-clause-err : goal.returns-clause-err
returns-clause-err c = c.put_beyond_in.ensures.err

pub put_between-requires-clause-fits : goal.put_between-requires-clause-fits
put_between-requires-clause-fits c = omega arith

pub put_between-requires-clause-room : goal.put_between-requires-clause-room
put_between-requires-clause-room c = c.self.invariant.0
