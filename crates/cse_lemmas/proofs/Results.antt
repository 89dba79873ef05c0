-- What is known of a result.
use Rattle.std.proofs.Common.{◌≡◌, Result, Ok, Err, OnOk}

pub OnOk_from : {T E : Type 0} (r : Result T E) (P : Type 0) → P → OnOk r P
OnOk_from (Ok x) P p = p
OnOk_from (Err e) P p = tt

pub ok_and_err : {T E : Type 0} (r : Result T E) (x : T) (e : E) → r ≡ Ok x → r ≡ Err e → ⊥
ok_and_err (Ok y) x e h k = absurd cc
ok_and_err (Err d) x e h k = absurd cc
