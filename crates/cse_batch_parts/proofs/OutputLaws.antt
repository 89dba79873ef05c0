-- Laws of the outputs of a run.
use Rattle.std.proofs.Common.{◌∙◌}
use Rattle.cse_batch_parts.specs.declared.outputs.Outputs.{Outputs}
use Rattle.cse_batch_parts.specs.Outputs.{AreSame, LeavesEnd}

-- one after the other
pub same_then : {O L F D : Type 0} (a b c : Outputs O L F D) → AreSame a b → AreSame b c → AreSame a c
same_then a b c first second = record {
  out = second.out ∙ first.out;
  listing = second.listing ∙ first.listing;
  frequencies = second.frequencies ∙ first.frequencies;
  decks = second.decks ∙ first.decks;
}

pub left_then : {O L F D : Type 0} (a b c : Outputs O L F D) → LeavesEnd a b → LeavesEnd b c → LeavesEnd a c
left_then a b c first second = record { frequencies = second.frequencies ∙ first.frequencies; decks = second.decks ∙ first.decks }
