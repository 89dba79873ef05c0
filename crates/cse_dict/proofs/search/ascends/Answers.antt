use Rattle.std.proofs.Common.{ap, sym, ◌∙◌, arith}
use Rattle.std.proofs.lemmas.List.{nil_from_length}
use Rattle.cse_dict.specs.Dictionary.{ascends}
use Rattle.cse_dict.proofs.search.ascends.Goals as goal

pub returns : goal.returns
returns c = ap ascends (sym (nil_from_length c.spans.rest.now (omega (arith, c.in_default.len_below)))) ∙ c.spans.invariant
