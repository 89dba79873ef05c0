use Rattle.std.proofs.Common.{take, sym, get_or, None}
use Rattle.std.proofs.lemmas.List.{get_or_default}
use Rattle.cse_case.specs.declared.line.Line.{Line}
use Rattle.cse_case.specs.declared.line.Ending.TheVariants.{FileEnd}
use Rattle.std.specs.List.{flat_map}
use Rattle.cse_case.specs.Laid.{laid_line, laid_lines}
use Rattle.cse_case.specs.Written.{written_line}
use Rattle.cse_case.proofs.LaidLaws.{laid_within, laid_fits}
use Rattle.cse_value.proofs.GatherLaws.{Puts-then, Puts-as}
use Rattle.cse_case.specs.Bytes.{columns_lent}
use Rattle.cse_case.proofs.CaseLaws.{written-more}
use Rattle.cse_case.proofs.write.put_lines.Goals as goal

abbrev no : Line
no = record { first = 0; width = 0; len = 0; ending = FileEnd; record_number = None }

pub put_line-requires-clause-within : goal.put_line-requires-clause-within
put_line-requires-clause-within g c = laid_within 0 (columns_lent c.args.columns) c.args.lines.now c.lines.line-index (get_or c.args.lines.now c.lines.line-index no) c.requires c.lines-test.true (get_or_default c.args.lines.now c.lines.line-index no (get_or c.args.lines.now c.lines.line-index no) c.lines-test.true)

pub put_line-requires-clause-padded : goal.put_line-requires-clause-padded
put_line-requires-clause-padded g c = laid_fits 0 (columns_lent c.args.columns) c.args.lines.now c.lines.line-index (get_or c.args.lines.now c.lines.line-index no) c.requires c.lines-test.true (get_or_default c.args.lines.now c.lines.line-index no (get_or c.args.lines.now c.lines.line-index no) c.lines-test.true)

pub lines-preserved : goal.lines-preserved
lines-preserved g c =
    let columns = (columns_lent c.args.columns) in
    let lines = c.args.lines.now in
    let i = c.lines.line-index in
    let line = get_or lines i no in
    Puts-as _ _ _ _ (sym (written-more columns lines i line c.lines-test.true (get_or_default lines i no line c.lines-test.true)))
    (Puts-then _ _ _ (flat_map written_line (laid_lines columns (take i lines))) (written_line (laid_line columns line)) c.lines.invariant c.put_line.ensures)
