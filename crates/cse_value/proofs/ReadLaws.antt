-- Laws of reading in steps.
use Rattle.std.proofs.Common.{◌≡◌, ◌+◌, ℕ, Bool, false, List, [], ◌++◌, refl, ap, sym, ◌∙◌, append_assoc, append-nil}
use Rattle.cse_value.specs.Device.{Given, Consumes, IsAtEnd, Keeps, IsUnfailing, FailsOnce}

pub Consumes-nil : (a : Given) → Consumes a a []
Consumes-nil a = record { more = sym (append-nil a.bytes) }

pub Consumes-trans : (a b c : Given) (bs cs : List ℕ) → Consumes a b bs → Consumes b c cs → Consumes a c (bs ++ cs)
Consumes-trans a b c bs cs p q = record { more = q.more ∙ ap (λ l. l ++ cs) p.more ∙ append_assoc a.bytes bs cs }

pub Consumes-kept : (a b c : Given) (bs : List ℕ) → Consumes a b bs → Keeps b c → Consumes a c bs
Consumes-kept a b c bs p k = record { more = k.bytes ∙ p.more }

pub Keeps-refl : (a : Given) → Keeps a a
Keeps-refl a = record { bytes = refl; ended = refl }

pub Fails-after : (a b c : Given) → IsUnfailing a b → FailsOnce b c → FailsOnce a c
Fails-after a b c p q = q ∙ ap (λ n. n + 1) p
