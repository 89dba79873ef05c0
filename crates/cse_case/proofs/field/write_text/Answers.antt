use Rattle.std.proofs.Common.{◌+◌, ◌-◌, length, replicate, ap, ◌∙◌, arith, length-take-le, take}
use Rattle.cse_value.specs.Field.{put_text}
use Rattle.cse_case.specs.Run.{with_columns}
use Rattle.cse_case.proofs.LaidLaws.{length-with_columns}
use Rattle.cse_case.proofs.FieldLaws.{text_written}
use Rattle.cse_case.proofs.field.write_text.Goals as goal

pub put_blanks-requires : goal.put_blanks-requires
put_blanks-requires c =
    let at = c.args.start in
    let count = c.min-count.result in
    let text = take count c.as_slice-characters.result.now in
    let wide = length-take-le count c.as_slice-characters.result.now (omega (arith, c.min-count.ensures)) in
    omega (arith, c.requires.whole, c.min-count.ensures, ap length c.write_characters.ensures, length-with_columns at text c.args.columns.now (omega (arith, wide, c.requires.whole, c.min-count.ensures)))

pub returns : goal.returns
returns c =
    let old = c.args.columns.now in
    let at = c.args.start in
    let len = c.args.len in
    let count = c.min-count.result in
    record {
      columns = c.put_blanks.ensures
          ∙ ap (with_columns (at + count) (replicate (len - count) 32)) c.write_characters.ensures
          ∙ text_written at len count c.as_slice-characters.result.now old c.min-count.ensures c.requires.whole
          ∙ ap (λ t. with_columns at (put_text len t) old) c.as_slice-characters.ensures.value;
    }
