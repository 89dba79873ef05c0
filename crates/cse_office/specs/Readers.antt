-- Readers of runs.
use Rattle.std.specs.Prelude.{◌≡◌, false, [], None}
use Rattle.cse_case.specs.Reader.{ReaderText, held_of}

-- one that has read nothing
pub record IsNew (r : ReaderText) : Type 0 where
  pub held : held_of r ≡ []
  pub reads : r.reads ≡ 0
  pub lines : r.lines ≡ 0
  pub error : r.error ≡ None
  pub ended : r.ended ≡ false
