use Rattle.std.proofs.Common.{◌≡◌, ℕ, List, ◌++◌, ◌∷◌, [], ◌||◌, ap, sym, ◌∙◌, refl}
use Rattle.cse_case.specs.declared.line.Line.{Line}
use Rattle.cse_case.specs.declared.decode.Head.{Head}
use Rattle.cse_case.specs.Laid.{IsLaid, laid_lines, line_behind}
use Rattle.cse_case.specs.Lines.{bytes_in, columns_kept, lines_in}
use Rattle.cse_case.specs.Written.{written_line}
use Rattle.cse_case.specs.Run.{RunText, with_line}
use Rattle.cse_case.specs.Decoding.{line_with}
use Rattle.cse_case.proofs.LaidLaws.{IsLaid-push, laid_lines-push}
use Rattle.cse_case.proofs.WrittenLaws.{written-push}
use Rattle.cse_case.proofs.run.Run.push.Goals as goal
use Rattle.cse_case.proofs.run.Run.push.Goals.{then-self, else-self}

-- the lines after the push
pushed : (now : List ℕ) (all : List Line) (columns text : List ℕ) (lines : List Line) (head : Head) → now ≡ columns ++ text → all ≡ lines ++ line_behind columns text head ∷ [] → IsLaid 0 columns lines
    → laid_lines now all ≡ laid_lines columns lines ++ line_with text head ∷ []
pushed now all columns text lines head e f h =
    ap (λ cs. laid_lines cs all) e ∙ ap (laid_lines (columns ++ text)) f ∙ laid_lines-push 0 columns text lines head h

pub invariant_of-self-2 : goal.invariant_of-self-2
invariant_of-self-2 c =
    let columns = columns_kept c.self.inside.lines in
    let were : c.deref_mut.result.now.columns ≡ columns = ap (λ v. v.columns) c.deref_mut.ensures.value ∙ (sym (ap columns_kept c.in-Some.is) ∙ c.in_ok-keep_lines.ensures.same.columns) in
    let wrote : c.push.new.self.columns ≡ columns ++ c.args.columns.now = c.in_ok-push.ensures.columns ∙ ap (λ l. l ++ c.args.columns.now) were in
    let lines = lines_in c.self.inside.lines in
    let now = c.in_ok-push.ensures.lines ∙ ap (λ cs. c.deref_mut.result.now.lines.items ++ line_behind cs c.args.columns.now c.args.head ∷ []) were ∙ ap (λ ls. ls ++ line_behind columns c.args.columns.now c.args.head ∷ []) (ap (λ v. v.lines.items) c.deref_mut.ensures.value ∙ (sym (ap lines_in c.in-Some.is) ∙ c.in_ok-keep_lines.ensures.same.lines)) in
    record {
      laid = rw (wrote, now) (IsLaid-push 0 columns c.args.columns.now lines c.args.head c.requires.fits c.self.invariant.laid);
      written = written-push (laid_lines columns lines) _ (line_with c.args.columns.now c.args.head) (bytes_in c.self.inside.lines) _ c.behind_mark-bytes.result.now c.self.invariant.written
          (c.behind_mark-bytes.ensures (written_line (line_with c.args.columns.now c.args.head)) c.requires.bytes)
          (c.in_ok-push.ensures.bytes ∙ ap (λ bs. bs ++ c.behind_mark-bytes.result.now) (ap (λ v. v.bytes) c.deref_mut.ensures.value ∙ (sym (ap bytes_in c.in-Some.is) ∙ c.in_ok-keep_lines.ensures.same.bytes)))
          (pushed c.push.new.self.columns c.push.new.self.lines.items columns c.args.columns.now lines c.args.head wrote now c.self.invariant.laid);
    }

pub returns : goal.returns
returns c =
    let columns = columns_kept c.self.inside.lines in
    let were : c.deref_mut.result.now.columns ≡ columns = ap (λ v. v.columns) c.deref_mut.ensures.value ∙ (sym (ap columns_kept c.in-Some.is) ∙ c.in_ok-keep_lines.ensures.same.columns) in
    let wrote : c.push.new.self.columns ≡ columns ++ c.args.columns.now = c.in_ok-push.ensures.columns ∙ ap (λ l. l ++ c.args.columns.now) were in
    let lines = lines_in c.self.inside.lines in
    let marked : c.if-self.self ≡ c.self.inside.marked || c.args.head.marked = elim c.if-self.branch [
      | then-self w ↦ w.self-is ∙ rw w.if-self.true refl
      | else-self w ↦ w.self-is ∙ rw w.if-self.false refl
    ] in
    let now = c.in_ok-push.ensures.lines ∙ ap (λ cs. c.deref_mut.result.now.lines.items ++ line_behind cs c.args.columns.now c.args.head ∷ []) were ∙ ap (λ ls. ls ++ line_behind columns c.args.columns.now c.args.head ∷ []) (ap (λ v. v.lines.items) c.deref_mut.ensures.value ∙ (sym (ap lines_in c.in-Some.is) ∙ c.in_ok-keep_lines.ensures.same.lines)) in
    let laid = pushed c.push.new.self.columns c.push.new.self.lines.items columns c.args.columns.now lines c.args.head wrote now c.self.invariant.laid in
    let old : RunText = record { lines = laid_lines columns lines; marked = c.self.inside.marked; first_line = c.self.inside.first_line } in
    ap (λ ls. (let r : RunText = record { lines = ls; marked = c.if-self.self; first_line = c.self.inside.first_line } in r)) laid
    ∙ ap (λ m. (let r : RunText = record { lines = laid_lines columns lines ++ line_with c.args.columns.now c.args.head ∷ []; marked = m; first_line = c.self.inside.first_line } in r)) marked
    ∙ ap (λ r. with_line r c.args.head.marked (line_with c.args.columns.now c.args.head)) c.self.view_is
