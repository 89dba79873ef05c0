use Rattle.std.proofs.Common.{◌++◌, ◌∷◌, [], List, ℕ, append_assoc, ap, replicate, sym, ◌∙◌}
use Rattle.std.proofs.lemmas.Grind.{replicate_next}
use Rattle.cse_report.proofs.fill.put_repeated.Goals as goal

pub bytes-preserved : goal.bytes-preserved
bytes-preserved c =
    let out = c.args.out.now.items in
    let byte = c.args.byte in
    c.in_ok-push.ensures.items ∙ ap (λ (l : List ℕ). l ++ byte ∷ []) c.bytes.invariant
    ∙ append_assoc out (replicate c.bytes._again byte) (byte ∷ []) ∙ ap (λ (l : List ℕ). out ++ l) (sym (replicate_next c.bytes._again byte))
