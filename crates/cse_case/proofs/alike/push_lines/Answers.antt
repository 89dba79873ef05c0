use Rattle.std.proofs.Common.{◌≡◌, ◌+◌, ◌≤◌, ◌++◌, ◌∷◌, [], ℕ, List, ◌∙◌, ap, sym, arith, drop, length, take, take_all, take-add, append_assoc, append-nil, rules, length-drop, length-take-le}
use Rattle.std.specs.List.{flat_map}
use Rattle.cse_case.specs.Alike.{IsLike, line_like}
use Rattle.cse_case.specs.NamedColumns.{padded}
use Rattle.cse_case.specs.Laid.{laid_lines}
use Rattle.cse_case.specs.Line.{before_end}
use Rattle.cse_case.specs.Written.{written_line}
use Rattle.cse_case.proofs.AlikeLaws.{GathersOn-like, IsLastOf-push, bytes_like, keeps_front, laid_like}
use Rattle.cse_case.proofs.GatherLaws.{Gathers-none}
use Rattle.cse_case.proofs.LaidLaws.{laid_fits, laid_within}
use Rattle.cse_case.proofs.alike.push_lines.Goals as goal

pub push_like-requires-clause-lies : goal.push_like-requires-clause-lies
push_like-requires-clause-lies c = let i = c.lines.invariant in laid_within 0 c.lines.columns c.lines.lines.items _ c.lines.last i.laid (omega (arith, i.last.some)) i.last.is

pub push_like-requires-clause-fits : goal.push_like-requires-clause-fits
push_like-requires-clause-fits c = let i = c.lines.invariant in laid_fits 0 c.lines.columns c.lines.lines.items _ c.lines.last i.laid (omega (arith, i.last.some)) i.last.is

pub returns-then-not-push_like-clause-more : goal.returns-then-not-push_like-clause-more
returns-then-not-push_like-clause-more c =
    rw (c.push_like.ensures.same_columns c.if-not-push_like.true, c.push_like.ensures.same_lines c.if-not-push_like.true) c.lines.invariant.more

pub lines-preserved : goal.lines-preserved
lines-preserved c =
    let i = c.lines.invariant in
    let bytes = c.args.bytes.now in
    let line = c.piece.result.now in
    let len = c.args.last.len + length c.bytes.result.now in
    let ok = c.if-not-push_like.false in
    let like : IsLike (take c.args.width (drop c.lines.last.first c.lines.columns)) c.lines.last line = c.push_like.ensures.like ok in
    let columns : c.push_like.new.columns ≡ c.lines.columns ++ padded c.lines.last.width (before_end line) = c.push_like.ensures.columns ok in
    let lines : c.push_like.new.lines.items ≡ c.lines.lines.items ++ line_like c.lines.last (length c.lines.columns) ∷ [] = c.push_like.ensures.lines ok in
    let fits = laid_fits 0 c.lines.columns c.lines.lines.items _ c.lines.last i.laid (omega (arith, i.last.some)) i.last.is in
    let within : c.lines.at + len ≤ length bytes = omega (arith, i.fits, c.if-len-bytes.true) in
    record {
      fits = within;
      laid = rw (columns, lines) (laid_like c.lines.columns c.lines.lines.items c.lines.last line i.laid like.len fits);
      last = rw (lines, c.len-first.ensures) (IsLastOf-push c.lines.lines.items (line_like c.lines.last (length c.lines.columns)));
      wide = i.wide;
      few = i.few;
      whole = i.whole;
      some = i.some;
      written = rw (columns, lines) (bytes_like c.lines.columns c.lines.lines.items c.lines.last line i.laid like.len fits like.ending like.plain
          ∙ ap (λ l. l ++ line) i.written
          ∙ append_assoc (flat_map written_line (laid_lines c.args.columns.now c.args.lines.now.items)) (take c.lines.at bytes) line
          ∙ ap (λ l. flat_map written_line (laid_lines c.args.columns.now c.args.lines.now.items) ++ l) (ap (λ l. take c.lines.at bytes ++ l) c.piece.ensures ∙ sym (take-add c.lines.at len bytes)));
      more = rw (columns, lines) (GathersOn-like c.args.width c.args.columns.now c.args.lines.now.items bytes c.lines.columns c.lines.lines.items c.lines.last c.lines.at len line c.piece.ensures within
          i.laid i.last i.wide i.few (omega (arith, c.lines-test.true, c.len.ensures)) i.some like i.more);
      keeps_columns = rw columns (keeps_front c.args.columns.now c.lines.columns (padded c.lines.last.width (before_end line)) i.keeps_columns);
      keeps_lines = rw lines (keeps_front c.args.lines.now.items c.lines.lines.items (line_like c.lines.last (length c.lines.columns) ∷ []) i.keeps_lines);
    }

pub returns-then-last-width-clause-keeps_lines : goal.returns-then-last-width-clause-keeps_lines
returns-then-last-width-clause-keeps_lines c = take_all (length c.args.lines.now.items) c.args.lines.now.items (omega arith)

pub returns-then-bytes-len-clause-keeps_columns : goal.returns-then-bytes-len-clause-keeps_columns
returns-then-bytes-len-clause-keeps_columns c = take_all (length c.args.columns.now) c.args.columns.now (omega arith)

pub returns-then-bytes-len-clause-keeps_lines : goal.returns-then-bytes-len-clause-keeps_lines
returns-then-bytes-len-clause-keeps_lines c = take_all (length c.args.lines.now.items) c.args.lines.now.items (omega arith)

pub lines-init : goal.lines-init
lines-init c = record {
  fits = omega arith;
  laid = c.requires.laid;
  last = c.requires.last;
  wide = omega arith;
  few = omega arith;
  whole = ap (λ (l : List ℕ). c.args.last.len + length l) c.bytes.ensures;
  some = search rules;
  written = sym (append-nil (flat_map written_line (laid_lines c.args.columns.now c.args.lines.now.items)));
  more = λ marked number d first ended same gathered. Gathers-none _ _ _ _ _ gathered;
  keeps_columns = take_all (length c.args.columns.now) c.args.columns.now (omega arith);
  keeps_lines = take_all (length c.args.lines.now.items) c.args.lines.now.items (omega arith);
}

pub push_like-requires-clause-whole : goal.push_like-requires-clause-whole
push_like-requires-clause-whole c =
    let i = c.lines.invariant in
    let len = c.args.last.len + length c.bytes.result.now in
    omega (arith, i.whole, i.fits, ap length c.piece.ensures, length-take-le len (drop c.lines.at c.args.bytes.now) (omega (arith, i.fits, c.if-len-bytes.true, length-drop c.lines.at c.args.bytes.now)))

pub returns-then-last-width-clause-laid : goal.returns-then-last-width-clause-laid
returns-then-last-width-clause-laid c = c.requires.laid

pub returns-then-last-width-clause-written : goal.returns-then-last-width-clause-written
returns-then-last-width-clause-written c = sym (append-nil (flat_map written_line (laid_lines c.args.columns.now c.args.lines.now.items)))

pub returns-then-last-width-clause-more : goal.returns-then-last-width-clause-more
returns-then-last-width-clause-more c = λ marked number d first ended same gathered. Gathers-none _ _ _ _ _ gathered

pub returns-then-bytes-len-clause-laid : goal.returns-then-bytes-len-clause-laid
returns-then-bytes-len-clause-laid c = c.requires.laid

pub returns-then-bytes-len-clause-written : goal.returns-then-bytes-len-clause-written
returns-then-bytes-len-clause-written c = sym (append-nil (flat_map written_line (laid_lines c.args.columns.now c.args.lines.now.items)))

pub returns-then-bytes-len-clause-more : goal.returns-then-bytes-len-clause-more
returns-then-bytes-len-clause-more c = λ marked number d first ended same gathered. Gathers-none _ _ _ _ _ gathered

pub returns-then-last-width-clause-keeps_columns : goal.returns-then-last-width-clause-keeps_columns
returns-then-last-width-clause-keeps_columns c = take_all (length c.args.columns.now) c.args.columns.now (omega arith)

pub returns-then-not-push_like-clause-laid : goal.returns-then-not-push_like-clause-laid
returns-then-not-push_like-clause-laid c =
    rw (c.push_like.ensures.same_columns c.if-not-push_like.true, c.push_like.ensures.same_lines c.if-not-push_like.true) c.lines.invariant.laid

pub returns-then-not-push_like-clause-written : goal.returns-then-not-push_like-clause-written
returns-then-not-push_like-clause-written c =
    rw (c.push_like.ensures.same_columns c.if-not-push_like.true, c.push_like.ensures.same_lines c.if-not-push_like.true) c.lines.invariant.written

pub returns-then-not-push_like-clause-keeps_columns : goal.returns-then-not-push_like-clause-keeps_columns
returns-then-not-push_like-clause-keeps_columns c =
    rw (c.push_like.ensures.same_columns c.if-not-push_like.true) c.lines.invariant.keeps_columns

pub returns-then-not-push_like-clause-keeps_lines : goal.returns-then-not-push_like-clause-keeps_lines
returns-then-not-push_like-clause-keeps_lines c =
    rw (c.push_like.ensures.same_lines c.if-not-push_like.true) c.lines.invariant.keeps_lines

pub returns-then-not-push_like-clause-fits : goal.returns-then-not-push_like-clause-fits
returns-then-not-push_like-clause-fits c = c.lines.invariant.fits

pub returns-else-len-bytes-clause-fits : goal.returns-else-len-bytes-clause-fits
returns-else-len-bytes-clause-fits c = c.lines.invariant.fits

pub returns-else-len-bytes-clause-laid : goal.returns-else-len-bytes-clause-laid
returns-else-len-bytes-clause-laid c = c.lines.invariant.laid

pub returns-else-len-bytes-clause-written : goal.returns-else-len-bytes-clause-written
returns-else-len-bytes-clause-written c = c.lines.invariant.written

pub returns-else-len-bytes-clause-more : goal.returns-else-len-bytes-clause-more
returns-else-len-bytes-clause-more c = c.lines.invariant.more

pub returns-else-len-bytes-clause-keeps_columns : goal.returns-else-len-bytes-clause-keeps_columns
returns-else-len-bytes-clause-keeps_columns c = c.lines.invariant.keeps_columns

pub returns-else-len-bytes-clause-keeps_lines : goal.returns-else-len-bytes-clause-keeps_lines
returns-else-len-bytes-clause-keeps_lines c = c.lines.invariant.keeps_lines

pub returns-after-lines-clause-fits : goal.returns-after-lines-clause-fits
returns-after-lines-clause-fits c = c.lines.invariant.fits

pub returns-after-lines-clause-laid : goal.returns-after-lines-clause-laid
returns-after-lines-clause-laid c = c.lines.invariant.laid

pub returns-after-lines-clause-written : goal.returns-after-lines-clause-written
returns-after-lines-clause-written c = c.lines.invariant.written

pub returns-after-lines-clause-more : goal.returns-after-lines-clause-more
returns-after-lines-clause-more c = c.lines.invariant.more

pub returns-after-lines-clause-keeps_columns : goal.returns-after-lines-clause-keeps_columns
returns-after-lines-clause-keeps_columns c = c.lines.invariant.keeps_columns

pub returns-after-lines-clause-keeps_lines : goal.returns-after-lines-clause-keeps_lines
returns-after-lines-clause-keeps_lines c = c.lines.invariant.keeps_lines
