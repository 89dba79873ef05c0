-- Faults as values, and as the definitions have them.
use Rattle.cse_logic_names.specs.declared.faults.Fault as rust
use Rattle.cse_logic_faults.specs.Faults.{Fault, fault, Sort, ANumber, AText, NoSort}
use Rattle.cse_logic_faults.specs.declared.kind.Kind.{Kind}
use Rattle.cse_logic_faults.specs.declared.kind.Kind.TheVariants as k

abbrev pub listed : rust.Fault → Fault
listed x = fault x.number x.token

abbrev pub sort : Kind → Sort
sort k.Number = ANumber
sort k.Text = AText
sort k.Unknown = NoSort
