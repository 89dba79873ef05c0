use Rattle.std.proofs.Common.{ap, refl, sym, Some}
use Rattle.cse_code_typing.specs.declared.piles.Expected.TheVariants.{Free, Is}
use Rattle.cse_code_typing.specs.Piles.{stack_of}
use Rattle.cse_code_typing.specs.Rule.{rule_by}
use Rattle.cse_code_typing.specs.Tables.{scene_in}
use Rattle.cse_code_typing.proofs.TurnLaws.{turned_at}
use Rattle.cse_code_typing.proofs.PileLaws.{zero_empty}
use Rattle.cse_code_typing.proofs.pass_at.pass_at.Goals as goal

pub returns-in_ok-goes-in-Free-clause-pass_at : goal.returns-in_ok-goes-in-Free-clause-pass_at
returns-in_ok-goes-in-Free-clause-pass_at c =
    turned_at (rule_by (scene_in c.args.around) c.args.at.in_loop c.args.at.control) c.args.piles.now c.args.known.now c.args.at.place c.args.at.instr c.expected_at.result Free (stack_of c.args.piles.now 0) _
    c.expected_at.ensures c.in-Free.is (ap Some (sym (zero_empty c.args.piles.now))) c.in_ok-goes-in-Free.ensures.pass_at

pub returns-in_ok-agrees-in-Is-clause-pass_at : goal.returns-in_ok-agrees-in-Is-clause-pass_at
returns-in_ok-agrees-in-Is-clause-pass_at c =
    turned_at (rule_by (scene_in c.args.around) c.args.at.in_loop c.args.at.control) c.args.piles.now c.args.known.now c.args.at.place c.args.at.instr c.expected_at.result (Is c.in-Is.stack) (stack_of c.args.piles.now c.in-Is.stack) _
    c.expected_at.ensures c.in-Is.is refl c.in_ok-agrees-in-Is.ensures.pass_at
