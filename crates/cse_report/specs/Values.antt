-- Values as they are looked up.
use Rattle.std.specs.Prelude.{ℕ, List, map}
use Rattle.cse_value.specs.declared.number.Num.{Num}
use Rattle.cse_value.specs.declared.number.Num.TheVariants as nums
use Rattle.cse_report.specs.declared.counts.Value.{Value}
use Rattle.cse_report.specs.declared.counts.Value.TheVariants as values
use Rattle.cse_report.specs.Frequency.{Table}

abbrev pub num_of : Value → Num
num_of (values.Whole z) = nums.Whole z
num_of values.NotAppl = nums.NotAppl
num_of values.Missing = nums.Missing
num_of values.Undef = nums.Undef

abbrev pub key_of : Num → Value
key_of (nums.Whole z) = values.Whole z
key_of nums.NotAppl = values.NotAppl
key_of nums.Missing = values.Missing
key_of nums.Undef = values.Undef

abbrev pub table_of : List (Value × ℕ) → Table
table_of entries = map (λ e. (num_of e.0, e.1)) entries
