use Rattle.std.proofs.Common.{◌∙◌, sym, arith}
use Rattle.std.proofs.lemmas.List.{take_more_set}
use Rattle.std.proofs.lemmas.Str.{encode_ascii}
use Rattle.cse_case.proofs.write.write_column.Goals as goal

pub returns-then-code-lt128-clause-bytes : goal.returns-then-code-lt128-clause-bytes
returns-then-code-lt128-clause-bytes c = take_more_set c.args.bytes.now 0 c.args.column (omega (arith, c.requires)) ∙ sym (encode_ascii c.args.column (omega arith))
