-- Why a file was not read, by why its device was not.
use Rattle.std.proofs.Common.{◌≡◌, ◌∙◌, ◌+◌, ap, refl, ℕ, List}
use Rattle.std.specs.Borrow.{Bor}
use Rattle.cse_value.specs.Device.{Given}
use Rattle.cse_value.specs.declared.device.Reads.{Reads}
use Rattle.cse_files.specs.declared.fault.ReadFault.{ReadFault}
use Rattle.cse_files.specs.declared.fault.ReadFault.TheVariants.{NotOpened, NotRead, Memory}
use Rattle.cse_files.specs.declared.opened.OpenedInput.{OpenedInput}
use Rattle.cse_files.specs.Whole.{IsUnread, StopsReading}

pub unread_of : {F : Type 0} (given : Reads F → Given) (path : Bor (List ℕ)) (device : Reads F) (before : Given) (fault : ReadFault) → before.failures ≡ 0
    → StopsReading before (given device) fault → IsUnread given path.now fault
unread_of given path device before NotOpened none stops = tt
unread_of given path device before NotRead none stops =
    record { file = record { path = path; device = device }; opened = refl; failed = stops ∙ ap (λ n. n + 1) none }
unread_of given path device before Memory none stops = tt
