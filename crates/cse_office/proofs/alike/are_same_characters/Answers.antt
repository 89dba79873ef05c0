use Rattle.std.proofs.lemmas.Bool.Decides.{Decides-eqb}
use Rattle.std.proofs.lemmas.Slice.Eq.{slice_eq-Decides}
use Rattle.cse_office.proofs.alike.are_same_characters.Goals as goal

pub returns : goal.returns
returns c = (slice_eq-Decides Decides-eqb _ _ _ c.eq.ensures).0
