use Rattle.std.proofs.Common.{◌≡◌, arith, get_or, refl, ◌∙◌}
use Rattle.std.proofs.lemmas.Bool.{ltb-true}
use Rattle.std.proofs.lemmas.List.{ext_get_or}
use Rattle.cse_case.proofs.DecodeLaws.{columns_more}
use Rattle.cse_case.proofs.AlikeLaws.{marked_byte, marked_more, marked_other, plain_below}
use Rattle.cse_case.proofs.fill.put_plain.Goals as goal
use Rattle.cse_case.proofs.fill.put_plain.Goals.{then-byte-eq10, else-byte-eq10}

pub bytes-preserved : goal.bytes-preserved
bytes-preserved c =
    let text = c.args.text.now in
    let i = c.bytes.i in
    let byte : c.if-byte-eq10.bits ≡ marked_byte (get_or text i 0) = elim c.if-byte-eq10.branch [
      | then-byte-eq10 w ↦ w.bits-is ∙ rw w.if-byte-eq10.true refl
      | else-byte-eq10 w ↦ w.bits-is ∙ marked_other (get_or text i 0) w.if-byte-eq10.false
    ] in
    record {
      same = columns_more text c.bytes.columns i (get_or text i 0) (omega (arith, c.requires, c.bytes-test.true, c.bytes.auto.columns)) refl c.bytes.invariant.same;
      low = marked_more text i c.bytes.bits c.if-byte-eq10.bits byte c.bytes.invariant.low;
    }

pub returns : goal.returns
returns c = record {
  columns = ext_get_or 0 _ _ (omega arith) (λ k h. c.bytes.invariant.same k (omega arith));
  plain = λ test. plain_below c.args.text.now c.bytes.bits (λ k h. c.bytes.invariant.low k (omega arith)) (ltb-true c.bytes.bits 128 test);
}
