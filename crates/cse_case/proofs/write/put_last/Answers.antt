use Rattle.std.proofs.Common.{◌≤◌, ◌-◌, ◌++◌, length, take, ap, ◌∙◌, arith}
use Rattle.std.specs.Prelude.{encode_utf8_all}
use Rattle.cse_case.specs.Bytes.{columns_lent}
use Rattle.cse_value.proofs.GatherLaws.{Puts-as}
use Rattle.cse_case.proofs.WriteLaws.{length-rest, put_after}
use Rattle.cse_case.proofs.write.put_last.Goals as goal

pub returns : goal.returns
returns g c =
    let columns = columns_lent c.args.columns in
    let n = c.write_columns-n.result in
    let end = c.write_end-end.result in
    let bytes = c.write_columns-n.new.bytes in
    let behind = c.write_end-end.new.bytes in
    let fits : n ≤ length bytes = omega (arith, c.write_columns-n.ensures.few, c.requires, c.write_columns-n.auto.bytes) in
    let end_fits : end ≤ length behind = omega (arith, c.write_end-end.ensures.few, c.write_end-end.auto.bytes, length-rest bytes n, c.write_columns-n.ensures.few, c.requires, c.write_columns-n.auto.bytes) in
    Puts-as _ _ _ _ (put_after bytes behind n (512 - n) end fits end_fits ∙ ap (λ l. l ++ take end behind) c.write_columns-n.ensures.bytes
    ∙ ap (λ l. encode_utf8_all columns ++ l) c.write_end-end.ensures.bytes) c.put.ensures
