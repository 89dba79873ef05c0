use Rattle.std.proofs.Common.{◌≡◌, ◌-◌, ◌++◌, length, take, drop, ap, sym, ◌∙◌, arith, append_assoc}
use Rattle.std.specs.Prelude.{encode_utf8_all}
use Rattle.std.proofs.lemmas.List.{take-append-drop, take_rest}
use Rattle.std.proofs.lemmas.Str.{encodes-append}
use Rattle.cse_case.specs.Bytes.{columns_lent}
use Rattle.cse_case.specs.Laid.{laid_line}
use Rattle.cse_case.specs.Line.{end_bytes}
use Rattle.cse_case.specs.Written.{kept_columns, written_line}
use Rattle.cse_value.proofs.GatherLaws.{Puts-then, Puts-as}
use Rattle.cse_case.proofs.WriteLaws.{length-rest}
use Rattle.cse_case.proofs.write.put_line.Goals as goal

pub put_last-requires : goal.put_last-requires
put_last-requires g c =
    let kept = columns_lent c.kept-kept.result in
    let at = c.put_parts-at.result in
    let rest : columns_lent c.part-rest.result ≡ take (length kept - at) (drop at kept) = c.part-rest.ensures ∙ ap (λ k. take (k - at) (drop at kept)) c.len.ensures in
    omega (arith, ap length rest, length-rest kept at, c.put_parts-at.ensures.few)

pub returns : goal.returns
unfolding written_line
returns g c =
    let line = c.args.line in
    let kept = columns_lent c.kept-kept.result in
    let at = c.put_parts-at.result in
    let rest : columns_lent c.part-rest.result ≡ take (length kept - at) (drop at kept) = c.part-rest.ensures ∙ ap (λ k. take (k - at) (drop at kept)) c.len.ensures in
    let front = encode_utf8_all (take at kept) in
    let last = encode_utf8_all (columns_lent c.part-rest.result) in
    let columns : kept ≡ kept_columns line.len (laid_line (columns_lent c.args.columns) line).columns = c.kept-kept.ensures ∙ ap (kept_columns line.len) c.line_columns.ensures in
    let whole : encode_utf8_all kept ≡ front ++ last =
    ap encode_utf8_all (sym (take-append-drop at kept)) ∙ encodes-append (take at kept) (drop at kept)
    ∙ ap (λ l. front ++ encode_utf8_all l) (sym (take_rest kept at) ∙ sym rest) in
    Puts-as _ _ _ _ (sym (append_assoc front last (end_bytes line.ending)) ∙ ap (λ l. l ++ end_bytes line.ending) (sym whole)
    ∙ ap (λ l. encode_utf8_all l ++ end_bytes line.ending) columns)
    (Puts-then _ _ _ front _ c.put_parts-at.ensures.put c.put_last.ensures)
