-- What a run keeps of its lines: how they lie, their bytes and their columns; none where nothing is kept.
use Rattle.std.specs.Prelude.{◌≡◌, ℕ, List, [], Option, None, Some}
use Rattle.std.specs.Global.{Box}
use Rattle.cse_case.specs.declared.line.Line.{Line}
use Rattle.cse_case.specs.declared.run.Lines.{Lines}

abbrev pub lines_in : Option (Box Lines) → List Line
lines_in None = []
lines_in (Some kept) = kept.value.lines.items

abbrev pub bytes_in : Option (Box Lines) → List ℕ
bytes_in None = []
bytes_in (Some kept) = kept.value.bytes

abbrev pub columns_kept : Option (Box Lines) → List ℕ
columns_kept None = []
columns_kept (Some kept) = kept.value.columns

-- the same lines with the same bytes and columns
pub record AreSame (old new : Option (Box Lines)) : Type 0 where
  pub lines : lines_in new ≡ lines_in old
  pub bytes : bytes_in new ≡ bytes_in old
  pub columns : columns_kept new ≡ columns_kept old
