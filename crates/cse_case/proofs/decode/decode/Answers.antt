use Rattle.std.proofs.Common.{◌≡◌, length, Some, false, List, ℕ, ap, sym, subst, ◌∙◌, arith}
use Rattle.std.specs.Str.{chars, is_utf8}
use Rattle.std.specs.Prelude.{◌&&◌}
use Rattle.std.proofs.lemmas.Result.{err_from_is_err_and}
use Rattle.cse_case.specs.Decoding.{Holds}
use Rattle.cse_case.specs.NamedColumns.{padded, width_of}
use Rattle.cse_case.specs.Runs.{line_fault}
use Rattle.cse_case.specs.Line.{FileLine, has_mark, text_of, without_mark}
use Rattle.cse_case.specs.Columns.{columns_of}
use Rattle.cse_case.proofs.DecodeLaws.{IfFault-more, length-padded, line_fault-long, line_fault-not_text, line_fault-wide, line_fault-none, line_text-is}
use Rattle.cse_case.proofs.decode.decode.Goals as goal

pub returns-then-text-gt-MOST_BYTES-clause-err : goal.returns-then-text-gt-MOST_BYTES-clause-err
returns-then-text-gt-MOST_BYTES-clause-err c =
    let line : FileLine = (c.args.front, c.args.line.now) in
    let text : c.split_mark-marked.result.1.now ≡ text_of line = c.split_mark-marked.ensures.text ∙ ap (without_mark c.args.front) c.split_end-ending.ensures.text in
    line_fault-long line (rw text at c.if-text-gt-MOST_BYTES.true)

pub returns-in_err-len-clause-err : goal.returns-in_err-len-clause-err
returns-in_err-len-clause-err c =
    let line : FileLine = (c.args.front, c.args.line.now) in
    let text : c.split_mark-marked.result.1.now ≡ text_of line = c.split_mark-marked.ensures.text ∙ ap (without_mark c.args.front) c.split_end-ending.ensures.text in
    let short = rw text at c.if-text-gt-MOST_BYTES.false in
    let p = err_from_is_err_and c.from_residual.result c.from_residual.ensures.1 in
    rw (p.1, p.2) (IfFault-more (λ number. (number ≡ 20) × (is_utf8 c.split_mark-marked.result.1.now ≡ false)) (λ number. line_fault line ≡ Some number) c.in_err-len.field-0.0
    (λ number h. rw h.0 (line_fault-not_text line short (ap is_utf8 (sym text) ∙ h.1))) c.in_err-len.ensures.err)

pub returns-then-len-gt-MOST_COLUMNS-clause-err : goal.returns-then-len-gt-MOST_COLUMNS-clause-err
returns-then-len-gt-MOST_COLUMNS-clause-err c =
    let line : FileLine = (c.args.front, c.args.line.now) in
    let text : c.split_mark-marked.result.1.now ≡ text_of line = c.split_mark-marked.ensures.text ∙ ap (without_mark c.args.front) c.split_end-ending.ensures.text in
    let short = rw text at c.if-text-gt-MOST_BYTES.false in
    let len : c.in_ok-len.len ≡ length (columns_of line) = c.in_ok-len.ensures.columns.count ∙ ap length (ap chars text) in
    line_fault-wide line short (ap is_utf8 (sym text) ∙ c.in_ok-len.ensures.utf8) (rw len at c.if-len-gt-MOST_COLUMNS.true)

pub returns-clause-ok : goal.returns-clause-ok
returns-clause-ok c =
    let d = c.args.dictionary.now in
    let line : FileLine = (c.args.front, c.args.line.now) in
    let text : c.split_mark-marked.result.1.now ≡ text_of line = c.split_mark-marked.ensures.text ∙ ap (without_mark c.args.front) c.split_end-ending.ensures.text in
    let short = rw text at c.if-text-gt-MOST_BYTES.false in
    let held : Holds c.read.new.self (columns_of line) c.in_ok-len.len = subst (λ (cs : List ℕ). Holds c.read.new.self cs c.in_ok-len.len) (ap chars text) c.in_ok-len.ensures.columns in
    let len : c.in_ok-len.len ≡ length (columns_of line) = held.count in
    let wide : c.widen.new.columns ≡ padded (width_of d (columns_of line)) (columns_of line) = c.in_ok-record_number.ensures.columns (columns_of line) held in
    record {
      sound = line_fault-none line short (ap is_utf8 (sym text) ∙ c.in_ok-len.ensures.utf8) (rw len at c.if-len-gt-MOST_COLUMNS.false);
      is = line_text-is d line c.widen.new.columns c.in_ok-len.len c.split_end-ending.result.1 c.in_ok-record_number.record_number c.split_end-ending.ensures.ending len
          (c.in_ok-record_number.ensures.number (columns_of line) held) wide;
      marked = c.split_mark-marked.ensures.mark ∙ ap (λ t. c.args.front && has_mark t) c.split_end-ending.ensures.text;
      fits = omega (arith, len, ap length wide, length-padded (width_of d (columns_of line)) (columns_of line));
    }
