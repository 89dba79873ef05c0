use Rattle.std.proofs.lemmas.Bool.{false≢true}
use Rattle.std.proofs.Common.{rules, ◌≡◌, ◌-◌, ◌∙◌, sym, ap, ap₂, subst, length-take, length-take-le, length-append, take, take_at, drop, length, arith, refl}
use Rattle.cse_case.specs.Alike.{IsPlain}
use Rattle.cse_case.specs.NamedColumns.{padded}
use Rattle.cse_case.specs.Line.{before_end, end_bytes, ending_of}
use Rattle.cse_case.proofs.BytesLaws.{begins_columns, length-columns_by}
use Rattle.cse_case.proofs.alike.push_like.Goals as goal

pub piece-requires : goal.piece-requires
piece-requires c =
    omega (arith, c.requires.lies, c.requires.wide, c.requires.fits, ap length (sym c.columns.ensures ∙ c.bytes.ensures.1), length-columns_by c.bytes.result.now c.bytes.ensures.0)

pub returns-clause-like : goal.returns-clause-like
returns-clause-like c done =
    let line = c.args.line.now in
    let last = c.args.last in
    let columns = c.args.columns.now in
    let ending : ending_of line ≡ last.ending = search rules in
    let all : length line - length (end_bytes (ending_of line)) ≡ last.len = omega (arith, c.requires.whole, ap (λ e. length (end_bytes e)) ending) in
    let same : take last.len line ≡ before_end line = ap (λ k. take k line) (sym all) in
    let plain : IsPlain (before_end line) = subst IsPlain same (c.push_plain.ensures.plain c.if-not-push_plain.false) in
    let piece = c.piece.result.now in
    let begins : take (length piece) (take last.len line) ≡ piece = c.begins_as.ensures c.if-not-begins_as.false in
    let there : take (length (take c.args.width (drop last.first c.bytes.result.now))) (before_end line) ≡ take c.args.width (drop last.first c.bytes.result.now) =
    subst (λ p. take (length p) (before_end line) ≡ p) c.piece.ensures (subst (λ t. take (length piece) t ≡ piece) same begins) in
    record {
      ending = ending;
      len = ap length (sym same) ∙ length-take-le last.len line (omega (arith, c.requires.whole));
      begins = begins_columns last.first c.args.width c.bytes.result.now c.bytes.ensures.0 columns (before_end line) (sym c.columns.ensures ∙ c.bytes.ensures.1) there plain.ascii;
      plain = plain;
    }

pub begins_as-requires : goal.begins_as-requires
begins_as-requires c =
    omega (arith, c.requires.wide, ap length c.piece.ensures, length-take c.args.width (drop c.args.last.first c.bytes.result.now), length-take-le c.args.last.len c.args.line.now (omega (arith, c.requires.whole)))

pub truncate-requires : goal.truncate-requires
truncate-requires c =
    omega (
      arith,
      c.len-first.ensures,
      ap length (c.push_plain.ensures.pushed c.if-not-push_plain.false),
      length-append c.args.columns.now (padded c.args.last.width (take c.args.last.len c.args.line.now)),
    )

pub returns-then-is_err-clause-same_columns : goal.returns-then-is_err-clause-same_columns
returns-then-is_err-clause-same_columns c _ =
    let more = padded c.args.last.width (take c.args.last.len c.args.line.now) in
    c.truncate.ensures ∙ ap (take c.len-first.result) (c.push_plain.ensures.pushed c.if-not-push_plain.false)
    ∙ take_at c.args.columns.now more c.len-first.result (sym c.len-first.ensures)

pub returns-then-ending-last-clause-like : goal.returns-then-ending-last-clause-like
returns-then-ending-last-clause-like c = λ e. absurd (false≢true e)

pub returns-then-ending-last-clause-columns : goal.returns-then-ending-last-clause-columns
returns-then-ending-last-clause-columns c = λ e. absurd (false≢true e)

pub returns-then-ending-last-clause-lines : goal.returns-then-ending-last-clause-lines
returns-then-ending-last-clause-lines c = λ e. absurd (false≢true e)

pub returns-then-not-begins_as-clause-like : goal.returns-then-not-begins_as-clause-like
returns-then-not-begins_as-clause-like c = λ e. absurd (false≢true e)

pub returns-then-not-begins_as-clause-columns : goal.returns-then-not-begins_as-clause-columns
returns-then-not-begins_as-clause-columns c = λ e. absurd (false≢true e)

pub returns-then-not-begins_as-clause-lines : goal.returns-then-not-begins_as-clause-lines
returns-then-not-begins_as-clause-lines c = λ e. absurd (false≢true e)

pub returns-then-not-push_plain-clause-like : goal.returns-then-not-push_plain-clause-like
returns-then-not-push_plain-clause-like c = λ e. absurd (false≢true e)

pub returns-then-not-push_plain-clause-columns : goal.returns-then-not-push_plain-clause-columns
returns-then-not-push_plain-clause-columns c = λ e. absurd (false≢true e)

pub returns-then-not-push_plain-clause-lines : goal.returns-then-not-push_plain-clause-lines
returns-then-not-push_plain-clause-lines c = λ e. absurd (false≢true e)

pub returns-then-is_err-clause-like : goal.returns-then-is_err-clause-like
returns-then-is_err-clause-like c = λ e. absurd (false≢true e)

pub returns-then-is_err-clause-columns : goal.returns-then-is_err-clause-columns
returns-then-is_err-clause-columns c = λ e. absurd (false≢true e)

pub returns-then-is_err-clause-lines : goal.returns-then-is_err-clause-lines
returns-then-is_err-clause-lines c = λ e. absurd (false≢true e)

pub returns-then-ending-last-clause-same_lines : goal.returns-then-ending-last-clause-same_lines
returns-then-ending-last-clause-same_lines c = λ _. refl

pub returns-clause-same_columns : goal.returns-clause-same_columns
returns-clause-same_columns c = λ e. absurd (false≢true (sym e))

pub returns-clause-same_lines : goal.returns-clause-same_lines
returns-clause-same_lines c = λ e. absurd (false≢true (sym e))
