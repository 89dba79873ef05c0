use Rattle.std.proofs.Common.{◌≡◌, ◌+◌, ◌++◌, ◌≤◌, ℕ, List, take, drop, subst, sym, ap, ◌∙◌, arith}
use Rattle.std.specs.Str.{IsAscii}
use Rattle.std.proofs.Math.Seq.{take-add}
use Rattle.std.proofs.lemmas.List.{take-take}
use Rattle.std.proofs.lemmas.Str.{IsAscii-append}
use Rattle.cse_case.proofs.beyond.ascii_front.Goals as goal

-- more bytes in front
further : (text piece : List ℕ) (at count : ℕ) → piece ≡ take 8 (drop at text) → count ≤ 8 → IsAscii (take at text) → IsAscii (take count piece) → IsAscii (take (at + count) text)
further text piece at count is few front more =
    let same : take count piece ≡ take count (drop at text) = ap (take count) is ∙ take-take count 8 (drop at text) few in
    subst IsAscii (ap (λ l. take at text ++ l) same ∙ sym (take-add at count text)) (IsAscii-append (take at text) (take count piece) front more)

pub eights-preserved : goal.eights-preserved
eights-preserved c =
    let text = c.args.text.now in
    let at = c.eights.at in
    let more : take 8 (drop at text) ≡ c.piece-eight.result.now = sym c.piece-eight.ensures in
    record {
      fits = omega (arith, c.eights-test.true, c.eights.invariant.fits);
      ascii = subst IsAscii (ap (λ l. take at text ++ l) (sym more) ∙ sym (take-add at 8 text)) (IsAscii-append (take at text) c.piece-eight.result.now c.eights.invariant.ascii (c.are_ascii.ensures c.if-not-are_ascii.false));
    }

pub returns-then-not-are_ascii-clause-ascii : goal.returns-then-not-are_ascii-clause-ascii
returns-then-not-are_ascii-clause-ascii c =
    further c.args.text.now c.piece-eight.result.now c.eights.at c.ascii_count.result c.piece-eight.ensures c.ascii_count.ensures.fits c.eights.invariant.ascii c.ascii_count.ensures.ascii
