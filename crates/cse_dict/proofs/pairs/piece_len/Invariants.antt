use Rattle.std.proofs.Common.{◌≡◌, ◌+◌, drop, false}
use Rattle.cse_dict.specs.Pairs.{piece_len}
use Rattle.cse_dict.proofs.pairs.piece_len.Given as goal

abbrev pub invariant-bytes : goal.invariant-bytes
invariant-bytes l = (l.len ≡ l.b-index) × (l.len + piece_len l.is_open (drop l.b-index l.text) ≡ piece_len false l.text)
