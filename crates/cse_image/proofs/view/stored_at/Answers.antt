use Rattle.std.proofs.Common.{◌∙◌, ◌*◌, arith, ap, Some, drop, List, ℕ}
use Rattle.cse_lemmas.proofs.Results.{ok_and_err}
use Rattle.cse_image_parts.specs.declared.instruction.Instr.{Instr}
use Rattle.cse_image.specs.Reading.{instr_at}
use Rattle.cse_image.specs.View.{code_in}
use Rattle.cse_image.proofs.Views.{code_len, code_at, read_same}
use Rattle.cse_image.proofs.view.stored_at.Goals as goal

pub overflow_mul-i : goal.overflow_mul-i
overflow_mul-i c = let n = code_len c.args.version (code_in c.args.version c.args.bytes.now) c.args.bytes.now c.requires.code in let h = c.requires.within in record { fits = omega arith }

pub split_at-requires : goal.split_at-requires
split_at-requires c = let h = c.requires.within in omega (arith, code_len c.args.version (code_in c.args.version c.args.bytes.now) c.args.bytes.now c.requires.code)

pub unreachable-requires : goal.unreachable-requires
unreachable-requires c =
    let t = code_at c.args.version (code_in c.args.version c.args.bytes.now) c.args.bytes.now c.args.i c.requires.code c.requires.within in
    ok_and_err (instr_at c.args.version (drop (8 * c.args.i) c.args.bytes.now)) (t.0, t.1) c.in-Err.field-0 t.3 (rw c.split_at.ensures.back at c.in-Err.ensures)

pub returns : goal.returns
returns c =
    let t = code_at c.args.version (code_in c.args.version c.args.bytes.now) c.args.bytes.now c.args.i c.requires.code c.requires.within in
    let same = read_same (instr_at c.args.version (drop (8 * c.args.i) c.args.bytes.now)) (t.0, t.1) (c.in-Ok.instr, c.in-Ok.field-0-1.now) t.3 (rw c.split_at.ensures.back at c.in-Ok.ensures) in
    t.2 ∙ ap (λ (p : Instr × List ℕ). Some p.0) same
