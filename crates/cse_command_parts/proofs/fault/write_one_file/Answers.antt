use Rattle.std.proofs.Common.{◌∙◌, ◌++◌, ap₂, subst, ℕ, List, codes}
use Rattle.cse_value.specs.Writing.{WritesAll}
use Rattle.cse_command_parts.proofs.fault.write_one_file.Goals as goal

pub returns-clause-bytes : goal.returns-clause-bytes
returns-clause-bytes g c =
    subst (λ (text : List ℕ). WritesAll c.write_parts.result (g.W.Output.taken c.args.out.now) (g.W.Output.taken c.write_parts.new.out) text)
    (ap₂ (λ (f s : List ℕ). codes "usage: " ++ (f ++ (codes " and " ++ (s ++ codes " are one file, which would be overwritten\n"))))
    (c.as_bytes-first.ensures.value ∙ c.word.ensures) (c.as_bytes-second.ensures.value ∙ c.word-2.ensures))
    c.write_parts.ensures.bytes
