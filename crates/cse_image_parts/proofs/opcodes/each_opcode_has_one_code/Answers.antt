use Rattle.cse_image_parts.proofs.OpcodeLaws.{op_code_is_one}
use Rattle.cse_image_parts.proofs.opcodes.each_opcode_has_one_code.Goals as goal

pub returns : goal.returns
returns c = op_code_is_one c.args.op
