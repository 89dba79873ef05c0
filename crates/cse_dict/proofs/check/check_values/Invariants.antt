use Rattle.std.proofs.Common.{◌≡◌, drop, fold, List, Option}
use Rattle.cse_sections.specs.Sections.{EntryText}
use Rattle.cse_dict.specs.Faults.{filled_after, note_all, value_faults}
use Rattle.cse_dict.specs.declared.keys.DataType.{DataType}
use Rattle.cse_dict.specs.declared.seen.Filled.{Filled}
use Rattle.cse_dict.specs.declared.fault.DictError.{DictError}
use Rattle.cse_dict.proofs.check.check_values.Given as goal

-- the first lines are checked, and those of `behind` are not
pub record Checked (data_type : DataType) (entries behind : List EntryText) (filled first : Filled) (found start : Option DictError) : Type 0 where
  pub filled_so_far : fold (filled_after data_type) filled behind ≡ fold (filled_after data_type) first entries
  pub found_so_far : note_all found (value_faults data_type filled behind) ≡ note_all start (value_faults data_type first entries)

abbrev pub invariant-entries : goal.invariant-entries
invariant-entries l = Checked l.data_type l.entries (drop l.entry-index l.entries) l.filled (record { rows = 0; pairs = l.pairs }) l.found l.fn.found
