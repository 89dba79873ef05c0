use Rattle.std.proofs.Common.{◌≡◌, ℕ, Bool, List, ap, subst, sym, ◌∙◌, rules}
use Rattle.std.specs.List.{flat_map}
use Rattle.cse_case.specs.Written.{written_line}
use Rattle.cse_case.specs.Columns.{LineText}
use Rattle.cse_case.specs.Laid.{IsLaid, laid_lines}
use Rattle.cse_case.specs.Lines.{bytes_in, columns_kept, lines_in}
use Rattle.cse_case.specs.Run.{RunText}
use Rattle.cse_case.specs.Case.{CaseText}
use Rattle.cse_case.specs.declared.seen.Table.{Table}
use Rattle.cse_case.proofs.FitLaws.{some_from, wide_from}
use Rattle.cse_case.proofs.case.Case.new.Goals as goal

pub invariant_of-result : goal.invariant_of-result
invariant_of-result c =
    let run = c.args.run in
    let columns = c.in-Some.kept.value.columns in
    let parts = c.into_parts-kept.ensures in
    let lines = ap (λ o. laid_lines (columns_kept o) (lines_in o)) (sym c.in-Some.is) ∙ parts.lines in
    let laid = subst (λ o. IsLaid 0 (columns_kept o) (lines_in o)) c.in-Some.is parts.laid in
    record {
      some = some_from run _ _ lines c.requires.some;
      wide = wide_from _ run _ _ lines laid c.requires.wide;
      laid = laid;
      came = λ _. sym (ap bytes_in c.in-Some.is) ∙ (parts.bytes ∙ ap (flat_map written_line) (sym lines));
      table = search rules;
      unseen_are = search rules;
    }

pub returns : goal.returns
returns c =
    let run = c.args.run in
    let columns = c.in-Some.kept.value.columns in
    let kept = c.in-Some.kept.value.lines.items in
    let parts = c.into_parts-kept.ensures in
    let lines : laid_lines columns kept ≡ run.lines = ap (λ o. laid_lines (columns_kept o) (lines_in o)) (sym c.in-Some.is) ∙ parts.lines in
    let ids = c.args.table.value.ids.items in
    let same : c.fill_table.new.table.ids.items ≡ ids = c.in_ok-fill_table.ensures.ids ∙ ap (λ (t : Table). t.ids.items) c.deref_mut.ensures.value in
    let made : List ℕ → RunText → CaseText = λ is r. record { dictionary = c.args.items; ids = is; run = r } in
    let gave : List LineText → Bool → ℕ → RunText = λ ls m n. record { lines = ls; marked = m; first_line = n } in
    ap (λ is. made is (gave (laid_lines columns kept) c.into_parts-kept.result.1 c.into_parts-kept.result.2)) same
    ∙ ap (λ ls. made ids (gave ls c.into_parts-kept.result.1 c.into_parts-kept.result.2)) lines
    ∙ ap (λ m. made ids (gave run.lines m c.into_parts-kept.result.2)) parts.marked
    ∙ ap (λ n. made ids (gave run.lines run.marked n)) parts.first_line
