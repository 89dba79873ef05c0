use Rattle.std.proofs.Common.{◌≡◌, ◌+◌, ◌≤◌, ◌∙◌, ap, arith, drop, length, sym, subst, take, length-drop, length-take-le}
use Rattle.std.specs.Str.{IsAscii}
use Rattle.std.proofs.lemmas.Str.{IsAscii-append}
use Rattle.cse_case.specs.Run.{with_columns}
use Rattle.cse_case.proofs.ShortLaws.{next_piece, with_further, with_none}
use Rattle.cse_case.proofs.beyond.put_eights.Goals as goal

pub eights-init : goal.eights-init
eights-init c = record {
  fits = omega (arith, c.requires.at);
  ascii = λ _. omega arith;
  bytes = sym (with_none c.args.len c.args.bytes.now);
}

pub eights-preserved : goal.eights-preserved
eights-preserved c =
    let text = c.args.text.now in
    let at = c.args.at in
    let count = c.eights.count in
    let done = c.eights-test.true in
    let field = take count (drop at text) in
    let next = take 8 (drop (at + count) text) in
    let within = c.put_eight.ensures.fits done in
    let long : length field ≡ count = length-take-le count (drop at text) (omega (arith, within, length-drop at text)) in
    let fits : c.args.len + length field ≤ length c.args.bytes.now = omega (arith, long, within, c.requires.len, c.requires.bytes) in
    let more = next_piece text at count in
    record {
      fits = omega (arith, within);
      ascii = subst IsAscii more (IsAscii-append field next c.eights.invariant.ascii (c.put_eight.ensures.ascii done));
      bytes = c.put_eight.ensures.bytes done
          ∙ ap (with_columns (c.args.len + count) next) c.eights.invariant.bytes
          ∙ ap (λ n. with_columns (c.args.len + n) next (with_columns c.args.len field c.args.bytes.now)) (sym long)
          ∙ with_further c.args.len field next c.args.bytes.now fits
          ∙ ap (λ l. with_columns c.args.len l c.args.bytes.now) more;
    }
