use Rattle.std.proofs.Common.{◌≡◌, ◌<◌, ◌-◌, ◌++◌, length, take, ap, sym, ◌∙◌, arith}
use Rattle.std.specs.Prelude.{encode_utf8_all}
use Rattle.std.proofs.lemmas.List.{get_or_default}
use Rattle.cse_lemmas.proofs.Texts.{encodes_take_more}
use Rattle.cse_case.specs.Bytes.{columns_lent}
use Rattle.cse_case.proofs.WriteLaws.{length-rest, put_after}
use Rattle.cse_case.proofs.write.write_utf8.Goals as goal

pub columns-preserved : goal.columns-preserved
columns-preserved c =
    let columns = (columns_lent c.args.columns) in
    let i = c.columns.i in
    let within : i < length columns = omega (arith, c.columns-test.true, c.len-i-end.ensures) in
    let bytes = c.columns.bytes in
    let new = c.write_column-n.new.bytes in
    let n = c.write_column-n.result in
    let room : length new ≡ length bytes - c.columns.n = c.write_column-n.auto.bytes ∙ length-rest bytes c.columns.n in
    record {
      few = omega (arith, c.columns.invariant.few, c.write_column-n.ensures.few);
      bytes = put_after bytes new c.columns.n (length bytes - c.columns.n) n
          (omega (arith, c.columns.invariant.few, c.requires, within, c.columns.auto.bytes))
          (omega (arith, room, c.columns.invariant.few, c.write_column-n.ensures.few, c.requires, within, c.columns.auto.bytes))
          ∙ ap (λ l. l ++ take n new) c.columns.invariant.bytes ∙ ap (λ l. encode_utf8_all (take i columns) ++ l) c.write_column-n.ensures.bytes
          ∙ sym (encodes_take_more columns i c.at.result within (c.at.ensures ∙ get_or_default columns i 0 c.at.result within));
    }
