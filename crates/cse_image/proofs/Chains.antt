-- Readers one after the other: what the first gives is read on from, and where one stops, the whole does.
use Rattle.std.proofs.Common.{◌≡◌, List, ℕ, Result, Ok, Err, IfOk, IfErr, refl, sym, ap, subst, ◌∙◌}
use Rattle.cse_image_parts.specs.declared.fault.FieldFault.{FieldFault}
use Rattle.cse_image_parts.specs.declared.fault.ReadStop.{ReadStop}
use Rattle.cse_image_parts.specs.declared.fault.ReadStop.TheVariants as stops
use Rattle.cse_image_parts.specs.Reader.{Reader, Fails, Gives, and_then, then_at, done}

-- what is left to read is read
pub on : {A B : Type 0} (r : Reader A) (k : A → Reader B) (bytes : List ℕ) (a : A) (rest : List ℕ) (all : Result (B × List ℕ) FieldFault)
    → r bytes ≡ Ok (a, rest) → k a rest ≡ all → then_at r k bytes ≡ all
unfolding then_at
on r k bytes a rest all is so = ap (λ x. and_then x k) is ∙ so

-- what is left to read stops
pub later : {A B : Type 0} (e : ReadStop) (r : Reader A) (k : A → Reader B) (bytes : List ℕ) (a : A) (rest : List ℕ)
    → r bytes ≡ Ok (a, rest) → Fails e (k a rest) → Fails e (then_at r k bytes)
later stops.Memory r k bytes a rest is fails = tt
later (stops.Fault f) r k bytes a rest is fails = on r k bytes a rest (Err f) is fails

-- the first stops
pub here : {A B : Type 0} (e : ReadStop) (r : Reader A) (k : A → Reader B) (bytes : List ℕ) → Fails e (r bytes) → Fails e (then_at r k bytes)
unfolding then_at
here stops.Memory r k bytes fails = tt
here (stops.Fault f) r k bytes fails = ap (λ x. and_then x k) fails

-- the same of a function that takes no memory
pub first : {A B : Type 0} (f : FieldFault) (r : Reader A) (k : A → Reader B) (bytes : List ℕ) → r bytes ≡ Err f → then_at r k bytes ≡ Err f
unfolding then_at
first f r k bytes fails = ap (λ x. and_then x k) fails

-- nothing is left to read
pub ends : {A : Type 0} (a : A) (bytes : List ℕ) → done a bytes ≡ Ok (a, bytes)
unfolding done
ends a bytes = refl

-- What a function returned at the end, seen by view, is what k reads from where an earlier one left off; or it stopped with that one.
abbrev pub GoesOn : {X Z B : Type 0} → (Z → B × List ℕ) → Result Z ReadStop → (X → List ℕ) → Reader B → Result X ReadStop → Type 0
GoesOn view final left k (Ok x) = Gives view final (k (left x))
GoesOn view final left k (Err e) = final ≡ Err e

read_on : {X Z A B : Type 0} (view : Z → B × List ℕ) (final : Result Z ReadStop) (left : X → List ℕ) (r : Reader A) (k : A → Reader B) (bytes : List ℕ) (a : A) (now : Result X ReadStop)
    → Gives (λ x. (a, left x)) now (r bytes) → GoesOn view final left (k a) now → Gives view final (then_at r k bytes)
read_on view final left r k bytes a (Ok x) is goes = subst (λ read. Gives view final read) (sym (on r k bytes a (left x) (k a (left x)) is refl)) goes
read_on view final left r k bytes a (Err e) fails goes = subst (λ stopped. Gives view stopped (then_at r k bytes)) (sym goes) (here e r k bytes fails)

-- one reader more before the others
pub step : {X Z A B : Type 0} (view : Z → B × List ℕ) (final : Result Z ReadStop) (left : X → List ℕ) (r : Reader A) (k : A → Reader B) (a : A) (before now : Result X ReadStop)
    → IfOk before (λ x. Gives (λ y. (a, left y)) now (r (left x))) → IfErr before (λ e. now ≡ Err e) → GoesOn view final left (k a) now → GoesOn view final left (then_at r k) before
step view final left r k a (Ok x) now is stopped goes = read_on view final left r k (left x) a now is goes
step view final left r k a (Err e) now is stopped goes = subst (λ stopped. GoesOn view final left (k a) stopped) stopped goes

-- no reader more
pub no_step : {X B : Type 0} (left : X → List ℕ) (b : B) (final : Result X ReadStop) → GoesOn (λ x. (b, left x)) final left (done b) final
no_step left b (Ok x) = ends b (left x)
no_step left b (Err e) = refl
