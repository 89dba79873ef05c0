use Rattle.std.proofs.Common.{◌≡◌, ◌+◌, ◌++◌, take, drop, ap, sym, ◌∙◌, arith, length, length-drop, length-take-le, take-add}
use Rattle.std.specs.Prelude.{encode_utf8_all}
use Rattle.std.proofs.lemmas.Str.{encodes-append}
use Rattle.cse_case.specs.Bytes.{columns_lent}
use Rattle.cse_value.proofs.GatherLaws.{Puts-then, Puts-as}
use Rattle.cse_case.proofs.write.put_parts.Goals as goal

pub parts-preserved : goal.parts-preserved
parts-preserved g c =
    let columns = columns_lent c.args.columns in
    let at = c.parts.at in
    let front = encode_utf8_all (take at columns) in
    let bytes = take c.write_columns-n.result c.write_columns-n.new.bytes in
    let part : encode_utf8_all (take 127 (drop at columns)) ≡ bytes =
    ap encode_utf8_all (sym c.part.ensures) ∙ sym c.write_columns-n.ensures.bytes in
    let more : encode_utf8_all (take (at + 127) columns) ≡ front ++ bytes =
    ap encode_utf8_all (take-add at 127 columns) ∙ encodes-append (take at columns) (take 127 (drop at columns)) ∙ ap (λ l. front ++ l) part in
    record {
      low = omega (arith, c.parts-test.true);
      put = Puts-as _ _ _ _ (sym more) (Puts-then _ _ _ front bytes c.parts.invariant.put c.put.ensures);
    }

pub write_columns-n-requires : goal.write_columns-n-requires
write_columns-n-requires g c =
    let columns = columns_lent c.args.columns in
    let at = c.parts.at in
    let part = ap length c.part.ensures ∙ length-take-le 127 (drop at columns) (omega (arith, c.parts-test.true, c.len.ensures, length-drop at columns)) in
    omega (arith, part)

pub shared_ref_as_front-put : goal.shared_ref_as_front-put
shared_ref_as_front-put g c =
    let columns = columns_lent c.args.columns in
    let at = c.parts.at in
    let part = ap length c.part.ensures ∙ length-take-le 127 (drop at columns) (omega (arith, c.parts-test.true, c.len.ensures, length-drop at columns)) in
    omega (arith, part, c.write_columns-n.ensures.few)
