use Rattle.cse_dict.specs.Dictionary.{shape_of}
use Rattle.cse_verify.proofs.ChainLaws.{chain_keeps}
use Rattle.cse_verify.proofs.verified.Verified.calls_keep_to_depth.Goals as goal

pub returns : goal.returns
returns g c = λ calls d chain depth. chain_keeps (shape_of c.args.self.now.dictionary) c.args.self.now.image d calls c.program-may_run.ensures.may_run.typed depth chain
