use Rattle.cse_value.proofs.SliceLaws.{read_of}
use Rattle.cse_value.proofs.slice.FromSlice.gives.Goals as goal

pub returns : goal.returns
returns c bytes read more = read_of bytes c.args.self.now.bytes.now read c.args.self.now.count c.args.self.now.ended c.args.self.now.within c.args.self.now.whole more
