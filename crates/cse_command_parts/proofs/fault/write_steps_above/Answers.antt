use Rattle.std.proofs.Common.{◌∙◌, ◌++◌, ap₂, subst, ℕ, List, codes}
use Rattle.cse_value.specs.Writing.{WritesAll}
use Rattle.cse_command_parts.proofs.fault.write_steps_above.Goals as goal

pub returns-clause-bytes : goal.returns-clause-bytes
returns-clause-bytes g c =
    subst (λ (text : List ℕ). WritesAll c.write_parts.result (g.W.Output.taken c.args.out.now) (g.W.Output.taken c.write_parts.new.out) text)
    (ap₂ (λ (s a : List ℕ). codes "a case may take " ++ (s ++ (codes " steps, above the " ++ (a ++ codes " of --case-steps\n"))))
    (c.as_bytes-steps.ensures.value ∙ c.format.ensures.text) (c.as_bytes-allowed.ensures.value ∙ c.format-2.ensures.text))
    c.write_parts.ensures.bytes
