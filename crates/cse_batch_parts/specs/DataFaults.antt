-- Faults of the bytes of a data file, after which it has ended or breaks off.
use Rattle.std.specs.Prelude.{◌≡◌, ◌+◌, ℕ, Bool, true, false, List, None, Some}
use Rattle.cse_dict.specs.Dictionary.{DictionaryText}
use Rattle.cse_case.specs.Runs.{fault_in}
use Rattle.cse_batch_parts.specs.declared.totals.RunFault.{RunFault}

-- the fault is that of the first faulty line
pub record IsDataFault (d : DictionaryText) (ended : Bool) (bytes : List ℕ) (fault : RunFault) : Type 0 where
  pub place : ℕ
  pub first : fault_in d true ended bytes ≡ Some (place, fault.number)
  pub line : fault.line ≡ place + 1

-- the bytes break off before their end, and have no faulty line as far as they go
pub record BreaksOff (d : DictionaryText) (ended : Bool) (bytes : List ℕ) : Type 0 where
  pub unended : ended ≡ false
  pub sound : fault_in d true ended bytes ≡ None
