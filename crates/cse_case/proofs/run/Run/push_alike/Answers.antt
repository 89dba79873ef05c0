use Rattle.std.proofs.Common.{◌≡◌, ap, drop, sym, ◌∙◌, subst}
use Rattle.std.proofs.lemmas.Result.{IfOk-weaker}
use Rattle.cse_case.specs.Run.{RunText}
use Rattle.cse_case.specs.Alike.{GoesOnFrom, laid_run}
use Rattle.cse_case.specs.Lines.{columns_kept, lines_in}
use Rattle.cse_case.proofs.run.Run.push_alike.Goals as goal

pub returns-clause-more : goal.returns-clause-more
returns-clause-more c =
    let run = c.self.inside in
    let kept = c.deref_mut.result.now in
    let lines : kept.lines.items ≡ lines_in run.lines = ap (λ v. v.lines.items) c.deref_mut.ensures.value ∙ sym (ap lines_in c.in-Some.is) in
    let columns : kept.columns ≡ columns_kept run.lines = ap (λ v. v.columns) c.deref_mut.ensures.value ∙ sym (ap columns_kept c.in-Some.is) in
    let old : laid_run kept.columns kept.lines.items run.marked run.first_line ≡ c.args.self.now =
    ap (λ cs. laid_run cs kept.lines.items run.marked run.first_line) columns ∙ (ap (λ ls. laid_run (columns_kept run.lines) ls run.marked run.first_line) lines ∙ c.self.view_is) in
    let now = laid_run c.push_alike.new.self.columns c.push_alike.new.self.lines.items run.marked run.first_line in
    IfOk-weaker c.push_alike.result _ _ (λ n more. subst (λ (r : RunText). GoesOnFrom c.args.width r c.args.bytes.now now (drop n c.args.bytes.now)) old (more run.marked run.first_line)) c.push_alike.ensures.more
