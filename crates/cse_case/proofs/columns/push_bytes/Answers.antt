use Rattle.std.proofs.Common.{◌∙◌, ◌++◌, ◌∷◌, [], ap, sym, arith, get_or, length, length-append, length-take-le, take, append_assoc}
use Rattle.std.proofs.lemmas.List.{take_all, take_more}
use Rattle.cse_case.proofs.columns.push_bytes.Goals as goal

pub push_within-requires : goal.push_within-requires
push_within-requires c =
    let i = c.bytes.byte-index in
    let bytes = c.args.bytes.now in
    let before = c.args.characters.now.items in
    omega (arith, ap length c.bytes.invariant.items, length-append before (take i bytes), length-take-le i bytes (omega (arith, c.bytes-test.true)), c.bytes-test.true, c.bytes.invariant.room, c.requires)

pub bytes-preserved : goal.bytes-preserved
bytes-preserved c =
    let i = c.bytes.byte-index in
    let bytes = c.args.bytes.now in
    let before = c.args.characters.now.items in
    record {
      items = c.push_within.ensures.items ∙ ap (λ l. l ++ get_or bytes i 0 ∷ []) c.bytes.invariant.items ∙ append_assoc before (take i bytes) (get_or bytes i 0 ∷ []) ∙ ap (λ l. before ++ l) (sym (take_more bytes i 0 c.bytes-test.true));
      room = omega (arith, c.bytes.invariant.room, c.push_within.ensures.capacity);
    }

pub returns-clause-items : goal.returns-clause-items
returns-clause-items c = c.bytes.invariant.items ∙ ap (λ l. c.args.characters.now.items ++ l) (take_all c.bytes.byte-index c.args.bytes.now (omega (arith, c.bytes-test.false)))
