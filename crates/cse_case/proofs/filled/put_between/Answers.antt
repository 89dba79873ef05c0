use Rattle.cse_case.proofs.CopyLaws.{put_there_in}
use Rattle.cse_case.proofs.DecodeLaws.{length-padded}
use Rattle.cse_case.specs.NamedColumns.{padded}
use Rattle.std.proofs.Common.{◌≡◌, ◌-◌, ◌∙◌, ap, arith, drop, length, length-drop, length-take-le, take, max}
use Rattle.cse_case.proofs.filled.put_between.Goals as goal

part_len : (c : goal.After-bytes-1) → length (take (c.args.end - c.args.first) (drop c.args.first c.deref_mut.result.now)) ≡ c.args.end - c.args.first
part_len c = length-take-le (c.args.end - c.args.first) (drop c.args.first c.deref_mut.result.now)
    (omega (arith, length-drop c.args.first c.deref_mut.result.now, ap length c.deref_mut.ensures.value, c.requires.fits, c.requires.room))

pub returns-clause-bytes : goal.returns-clause-bytes
returns-clause-bytes c =
    let width = c.args.end - c.args.first in
    let field = padded width c.args.text.now in
    let wide : length field ≡ width = length-padded width c.args.text.now ∙ (let e : max (length c.args.text.now) width ≡ width = omega (arith, c.requires.wide) in e) in
    put_there_in c.args.bytes.now c.args.first c.args.end c.deref_mut.result.now c.put_line.new.columns field c.deref_mut.ensures.value
    (c.put_line.ensures.columns ∙ ap (λ n. padded n c.args.text.now) (part_len c)) (omega (arith, wide, c.requires.fits)) c.requires.room

pub returns-clause-plain : goal.returns-clause-plain
returns-clause-plain c = c.put_line.ensures.plain
