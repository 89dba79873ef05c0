-- Reading entries one after the other, as a loop does: what is left to read, after those before, gives the whole result. And writing them.
use Rattle.std.proofs.Common.{◌≡◌, ℕ, suc, ◌-◌, ◌+◌, ◌≤◌, ◌<◌, List, [], ◌∷◌, ◌++◌, Result, Ok, Err, refl, sym, ap, ◌∙◌, arith, length, take, get_or}
use Rattle.std.specs.List.{flat_map}
use Rattle.std.proofs.lemmas.List.{flat_map_more, take_all, take_more}
use Rattle.std.proofs.Math.Seq.{take-append_seam}
use Rattle.cse_image_parts.specs.declared.fault.FieldFault.{FieldFault}
use Rattle.cse_image_parts.specs.declared.fault.ReadStop.{ReadStop}
use Rattle.cse_image_parts.specs.declared.fault.ReadStop.TheVariants as stops
use Rattle.cse_image_parts.specs.Reader.{Reader, Fails, many}

pub many_step : {A : Type 0} (item : List A → Reader A) (before : List A) (n i : ℕ) (bytes : List ℕ) (a : A) (rest : List ℕ) (all : Result (List A × List ℕ) FieldFault)
    → i < n → item before bytes ≡ Ok (a, rest) → many item before (n - i) bytes ≡ all → many item (before ++ a ∷ []) (n - (i + 1)) rest ≡ all
unfolding many
many_step item before n i bytes a rest all lt h so_far =
    let k : n - i ≡ suc (n - (i + 1)) = omega arith in
    let one : many item before (n - i) bytes ≡ many item (before ++ a ∷ []) (n - (i + 1)) rest = rw (k, h) refl in
    sym one ∙ so_far

pub many_ends : {A : Type 0} (item : List A → Reader A) (before : List A) (n i : ℕ) (bytes : List ℕ) (e : ReadStop) (all : Result (List A × List ℕ) FieldFault)
    → i < n → Fails e (item before bytes) → many item before (n - i) bytes ≡ all → Fails e all
unfolding many
many_ends item before n i bytes stops.Memory all lt h so_far = tt
many_ends item before n i bytes (stops.Fault f) all lt h so_far =
    let k : n - i ≡ suc (n - (i + 1)) = omega arith in
    let one : many item before (n - i) bytes ≡ Err f = rw (k, h) refl in
    sym so_far ∙ one

pub many_done : {A : Type 0} (item : List A → Reader A) (before : List A) (n i : ℕ) (bytes : List ℕ) (all : Result (List A × List ℕ) FieldFault)
    → n ≤ i → many item before (n - i) bytes ≡ all → all ≡ Ok (before, bytes)
unfolding many
many_done item before n i bytes all le so_far =
    let k : n - i ≡ 0 = omega arith in
    let one : many item before (n - i) bytes ≡ Ok (before, bytes) = rw k refl in
    sym so_far ∙ one

pub many_faults : {A : Type 0} (item : List A → Reader A) (before : List A) (n i : ℕ) (bytes : List ℕ) (f : FieldFault) (all : Result (List A × List ℕ) FieldFault)
    → i < n → item before bytes ≡ Err f → many item before (n - i) bytes ≡ all → all ≡ Err f
unfolding many
many_faults item before n i bytes f all lt h so_far =
    let k : n - i ≡ suc (n - (i + 1)) = omega arith in
    let one : many item before (n - i) bytes ≡ Err f = rw (k, h) refl in
    sym so_far ∙ one

-- a loop that writes one entry more
pub put_more : {X : Type 0} (entry : X → List ℕ) (old : List ℕ) (xs : List X) (i : ℕ) (d : X) (so_far new : List ℕ)
    → i < length xs → new ≡ so_far ++ entry (get_or xs i d) → so_far ≡ old ++ flat_map entry (take i xs) → new ≡ old ++ flat_map entry (take (i + 1) xs)
put_more {X} entry old xs i d so_far new lt is before =
    is ∙ ap (λ (z : List ℕ). z ++ entry (get_or xs i d)) before ∙ flat_map_more entry old (take i xs) (get_or xs i d)
    ∙ ap (λ (ys : List X). old ++ flat_map entry ys) (sym (take_more xs i d lt))

-- a loop that has written all entries, and one that takes back what it has written
pub put_all : {X : Type 0} (entry : X → List ℕ) (old : List ℕ) (xs : List X) (i : ℕ) (so_far : List ℕ)
    → length xs ≤ i → so_far ≡ old ++ flat_map entry (take i xs) → so_far ≡ old ++ flat_map entry xs
put_all {X} entry old xs i so_far past before = before ∙ ap (λ (ys : List X). old ++ flat_map entry ys) (take_all i xs past)

pub taken_back : (old more so_far after : List ℕ) (len : ℕ) → len ≡ length old → after ≡ so_far → so_far ≡ old ++ more → take len after ≡ old
taken_back old more so_far after len is same before =
    ap (λ (n : ℕ). take n after) is ∙ ap (take (length old)) (same ∙ before) ∙ take-append_seam old more
