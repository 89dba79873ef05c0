use Rattle.std.proofs.Common.{◌≡◌, ◌<◌, length, ap, sym, ◌∙◌, arith, refl}
use Rattle.cse_case.specs.Bytes.{columns_lent}
use Rattle.cse_case.specs.Line.{FileLine}
use Rattle.cse_case.specs.Columns.{id_of, line_text}
use Rattle.cse_case.specs.Taking.{run_id}
use Rattle.cse_case.proofs.WrittenLaws.{line-bytes}
use Rattle.cse_case.proofs.LastLaws.{begins_last, last_typed}
use Rattle.cse_case.proofs.TakeLaws.{fault_of-many, least_fits, own_ids, with_line-read}
use Rattle.cse_case.proofs.take.take_line.Goals as goal
use Rattle.cse_case.proofs.take.take_line.Goals.{else-len-gt0-via-then-len-gt0+else-has_other_ids, else-len-gt0-via-else-len-gt0}

pub decode-requires-clause-last : goal.decode-requires-clause-last
decode-requires-clause-last c = last_typed c.args.dictionary.now c.args.run.now c.last-last.result (λ l. columns_lent l.0) (λ l. l.1) c.requires.last c.last-last.ensures.some

pub has_other_ids-requires-clause-wide : goal.has_other_ids-requires-clause-wide
has_other_ids-requires-clause-wide c =
    let d = c.args.dictionary.now in
    let line : FileLine = (c.args.front, c.args.line.now) in
    let here : (columns_lent c.columns.result) ≡ (line_text d line).columns = c.columns.ensures ∙ ap (λ l. l.columns) c.in_ok-head.ensures.ok.is in
    rw here (least_fits d line)

pub has_other_ids-requires-clause-begins : goal.has_other_ids-requires-clause-begins
has_other_ids-requires-clause-begins c =
    rw c.columns.ensures (begins_last c.args.dictionary.now c.args.run.now c.last-last.result (λ l. columns_lent l.0) (λ l. l.1) c.in_ok-head.head.beginning c.decode.new.columns
    (omega (arith, c.len-len.ensures, c.if-len-gt0.true)) c.last-last.ensures.none c.last-last.ensures.some c.in_ok-head.ensures.same)

pub returns-then-has_other_ids-clause-ok : goal.returns-then-has_other_ids-clause-ok
returns-then-has_other_ids-clause-ok c =
    let d = c.args.dictionary.now in
    let line : FileLine = (c.args.front, c.args.line.now) in
    let ok = c.in_ok-head.ensures.ok in
    record {
      decoded = ok;
      some = omega (arith, c.len-len.ensures, c.if-len-gt0.true);
      other = λ e. c.has_other_ids.ensures.other c.if-has_other_ids.true (e ∙ sym (own_ids d line (columns_lent c.columns.result) c.decode.new.columns c.in_ok-head.head c.columns.ensures ok.is));
      same = refl;
    }

pub returns-then-len-eq-MOST_LINES-clause-err : goal.returns-then-len-eq-MOST_LINES-clause-err
returns-then-len-eq-MOST_LINES-clause-err c =
    let d = c.args.dictionary.now in
    let run = c.args.run.now in
    let line : FileLine = (c.args.front, c.args.line.now) in
    let full : length run.lines ≡ 10000 = sym c.len-len.ensures ∙ c.if-len-eq-MOST_LINES.true in
    let same : run_id d run ≡ id_of d line = elim c.else-len-gt0.branch [
      | else-len-gt0-via-then-len-gt0+else-has_other_ids w ↦
          w.has_other_ids.ensures.same w.if-has_other_ids.false
          ∙ own_ids d line (columns_lent w.columns.result) c.decode.new.columns c.in_ok-head.head w.columns.ensures c.in_ok-head.ensures.ok.is
      | else-len-gt0-via-else-len-gt0 w ↦ absurd (omega (arith, w.if-len-gt0.false))
    ] in
    record { same = refl; fault = fault_of-many d (run_id d run) (length run.lines) line c.in_ok-head.ensures.ok.sound full same; low = omega arith }

pub push-requires-clause-bytes : goal.push-requires-clause-bytes
push-requires-clause-bytes c =
    let d = c.args.dictionary.now in
    let line : FileLine = (c.args.front, c.args.line.now) in
    line-bytes d line c.decode.new.columns c.in_ok-head.head c.in_ok-head.ensures.ok

pub returns-clause-ok : goal.returns-clause-ok
returns-clause-ok c =
    let d = c.args.dictionary.now in
    let run = c.args.run.now in
    let line : FileLine = (c.args.front, c.args.line.now) in
    let ok = c.in_ok-head.ensures.ok in
    let same : 0 < length run.lines → run_id d run ≡ id_of d line = λ some. elim c.else-len-gt0.branch [
      | else-len-gt0-via-then-len-gt0+else-has_other_ids w ↦
          w.has_other_ids.ensures.same w.if-has_other_ids.false
          ∙ own_ids d line (columns_lent w.columns.result) c.decode.new.columns c.in_ok-head.head w.columns.ensures c.in_ok-head.ensures.ok.is
      | else-len-gt0-via-else-len-gt0 w ↦ absurd (omega (arith, w.if-len-gt0.false, c.len-len.ensures))
    ] in
    record {
      sound = ok.sound;
      same = same;
      room = omega (arith, c.len-len.ensures, c.if-len-eq-MOST_LINES.false, c.requires.few);
      is = with_line-read d run c.push.new.self line c.decode.new.columns c.decode.new.columns c.in_ok-head.head
          c.in_ok-push.ensures refl ok.is ok.marked;
    }
