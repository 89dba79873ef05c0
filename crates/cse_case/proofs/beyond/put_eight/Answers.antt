use Rattle.cse_case.proofs.CopyLaws.{put_there}
use Rattle.std.proofs.lemmas.Bool.{false≢true}
use Rattle.std.specs.Str.{IsAscii}
use Rattle.std.proofs.Common.{◌+◌, ◌∙◌, arith, drop, length-drop, length-take-le, refl, subst, sym, take}
use Rattle.cse_case.proofs.beyond.put_eight.Goals as goal

pub returns-then-text-at-lt8-clause-fits : goal.returns-then-text-at-lt8-clause-fits
returns-then-text-at-lt8-clause-fits c = λ e. absurd (false≢true e)

pub returns-then-text-at-lt8-clause-ascii : goal.returns-then-text-at-lt8-clause-ascii
returns-then-text-at-lt8-clause-ascii c = λ e. absurd (false≢true e)

pub returns-then-text-at-lt8-clause-bytes : goal.returns-then-text-at-lt8-clause-bytes
returns-then-text-at-lt8-clause-bytes c = λ e. absurd (false≢true e)

pub returns-then-text-at-lt8-clause-same : goal.returns-then-text-at-lt8-clause-same
returns-then-text-at-lt8-clause-same c = λ _. refl

pub returns-then-not-are_ascii-clause-fits : goal.returns-then-not-are_ascii-clause-fits
returns-then-not-are_ascii-clause-fits c = λ e. absurd (false≢true e)

pub returns-then-not-are_ascii-clause-ascii : goal.returns-then-not-are_ascii-clause-ascii
returns-then-not-are_ascii-clause-ascii c = λ e. absurd (false≢true e)

pub returns-then-not-are_ascii-clause-bytes : goal.returns-then-not-are_ascii-clause-bytes
returns-then-not-are_ascii-clause-bytes c = λ e. absurd (false≢true e)

pub returns-then-not-are_ascii-clause-same : goal.returns-then-not-are_ascii-clause-same
returns-then-not-are_ascii-clause-same c = λ _. refl

pub returns-clause-same : goal.returns-clause-same
returns-clause-same c = λ e. absurd (false≢true (sym e))

pub returns-clause-ascii : goal.returns-clause-ascii
returns-clause-ascii c = λ _. subst IsAscii c.piece-eight.ensures (c.are_ascii.ensures c.if-not-are_ascii.false)

pub returns-clause-bytes : goal.returns-clause-bytes
returns-clause-bytes c = λ _.
    let rest = drop c.args.at c.args.text.now in
    let len = length-take-le 8 rest (omega (arith, length-drop c.args.at c.args.text.now)) in
    put_there c.args.len (c.args.len + 8) c.args.bytes.now c.put_piece.new.bytes (take 8 rest) (c.put_piece.ensures ∙ c.piece-eight.ensures) (omega (arith, len))
