-- Instructions read in place, by the rules of a version.
use Rattle.std.proofs.Common.{◌≡◌, ℕ, zero, suc, ◌+◌, ◌-◌, ◌*◌, ◌/◌, ◌<◌, ◌≤◌, List, [], ◌∷◌, ◌++◌, length, map, take, drop, Some, Result, Ok, Err, refl, sym, ap, subst, ◌∙◌, arith}
use Rattle.std.specs.List.{flat_map, AllByRecursion, slice_get}
use Rattle.std.proofs.lemmas.List.{append-nil, take_at, length-append, length-map, drop-drop}
use Rattle.std.proofs.lemmas.List.Concat.{flat_map-cons}
use Rattle.cse_image_parts.specs.declared.fault.FieldFault.{FieldFault}
use Rattle.cse_image_parts.specs.declared.instruction.Instr.{Instr}
use Rattle.cse_image_parts.specs.declared.version.Version.{Version}
use Rattle.cse_image_parts.specs.declared.version.Version.TheVariants as versions
use Rattle.cse_image_parts.specs.Upgrade.{upgrade_instr}
use Rattle.cse_image_parts.specs.Reader.{Reader, IsBytes, and_then, many, each}
use Rattle.cse_image.specs.Reading.{instr_at}
use Rattle.cse_image.specs.Spelling.{instr, InstrFits}
use Rattle.cse_image.specs.View.{value_of, code_in, IsCodeOf, program_instr, program_code}
use Rattle.cse_image_parts.proofs.Algebra.{and_then_ok, each_laws}
use Rattle.cse_image.proofs.Entries.{instr_laws}

size : (xs : List Instr) → length (flat_map instr xs) ≡ 8 * length xs
size [] = refl
size (x ∷ xs) = omega (arith, ap length (flat_map-cons instr x xs), length-append (instr x) (flat_map instr xs), size xs)

pub code_len : (version : Version) (xs : List Instr) (bytes : List ℕ) → IsCodeOf version xs bytes → length bytes ≡ 8 * length xs
code_len version xs bytes code = ap length code.bytes_are ∙ size xs

pub code_is : (version : Version) (xs : List Instr) (bytes : List ℕ) → IsCodeOf version xs bytes → code_in version bytes ≡ xs
unfolding code_in
code_is version xs bytes code =
    let count : length bytes / 8 ≡ length xs = omega (arith, code_len version xs bytes code) in
    let read : each (instr_at version) (length xs) (flat_map instr xs ++ []) ≡ Ok (xs, []) = (each_laws (length xs) (instr_laws version)).again xs [] (code.fit, refl) in
    let same : bytes ≡ flat_map instr xs ++ [] = code.bytes_are ∙ sym (append-nil (flat_map instr xs)) in
    ap (λ (n : ℕ). value_of (each (instr_at version) n bytes)) count ∙ ap (λ (b : List ℕ). value_of (each (instr_at version) (length xs) b)) same ∙ ap value_of read

-- the instruction at a place of the bytes is the list's member
found_at : (version : Version) (xs : List Instr) (i : ℕ) → AllByRecursion (InstrFits version) xs → i < length xs
    → (x : Instr) × (rest : List ℕ) × (slice_get xs i ≡ Some x) × (instr_at version (drop (8 * i) (flat_map instr xs)) ≡ Ok (x, rest))
found_at version [] i fit lt = absurd (omega arith)
found_at version (y ∷ ys) zero fit lt = (y, flat_map instr ys, refl, rw flat_map-cons ((instr_laws version).again y (flat_map instr ys) fit.0))
found_at version (y ∷ ys) (suc i) fit lt =
    let t = found_at version ys i fit.1 (omega arith) in
    let k : 8 * suc i ≡ 8 + 8 * i = omega arith in
    let on : drop (8 * suc i) (flat_map instr (y ∷ ys)) ≡ drop (8 * i) (flat_map instr ys) =
    ap (drop (8 * suc i)) (flat_map-cons instr y ys) ∙ ap (λ (n : ℕ). drop n (instr y ++ flat_map instr ys)) k ∙ sym (drop-drop (8 * i) 8 (instr y ++ flat_map instr ys)) in
    (t.0, t.1, t.2, ap (instr_at version) on ∙ t.3)

pub code_at : (version : Version) (xs : List Instr) (bytes : List ℕ) (i : ℕ) → IsCodeOf version xs bytes → i < length xs
    → (x : Instr) × (rest : List ℕ) × (slice_get xs i ≡ Some x) × (instr_at version (drop (8 * i) bytes) ≡ Ok (x, rest))
code_at version xs bytes i code lt =
    let t = found_at version xs i code.fit lt in
    (t.0, t.1, t.2, ap (λ (b : List ℕ). instr_at version (drop (8 * i) b)) code.bytes_are ∙ t.3)

-- ---- a loop that reads and keeps nothing

-- one more
pub many_snoc : {A : Type 0} (item : List A → Reader A) (before : List A) (n : ℕ) (bytes : List ℕ) (xs : List A) (rest : List ℕ) (a : A) (after : List ℕ)
    → many item before n bytes ≡ Ok (xs, rest) → item xs rest ≡ Ok (a, after) → many item before (suc n) bytes ≡ Ok (xs ++ a ∷ [], after)
unfolding many
many_snoc {A} item before zero bytes xs rest a after e f =
    let same : ◌≡◌ {A = List A × List ℕ} (before, bytes) (xs, rest) = cc in
    subst (λ (p : List A × List ℕ). and_then (item p.0 p.1) (λ a rest. Ok (p.0 ++ a ∷ [], rest)) ≡ Ok (xs ++ a ∷ [], after)) (sym same) (rw f refl)
many_snoc {A} item before (suc n) bytes xs rest a after e f =
    let p = and_then_ok (item before bytes) (λ b rest. many item (before ++ b ∷ []) n rest) (xs, rest) e in
    ap (λ (r : Result (A × List ℕ) FieldFault). and_then r (λ b rest. many item (before ++ b ∷ []) (suc n) rest)) p.1 ∙ many_snoc item (before ++ p.0.0 ∷ []) n p.0.1 xs rest a after p.2 f

-- the next one is not there
pub many_stop : {A : Type 0} (item : List A → Reader A) (before : List A) (n m : ℕ) (bytes : List ℕ) (xs : List A) (rest : List ℕ) (f : FieldFault)
    → n < m → many item before n bytes ≡ Ok (xs, rest) → item xs rest ≡ Err f → many item before m bytes ≡ Err f
unfolding many
many_stop item before n zero bytes xs rest f lt e g = absurd (omega arith)
many_stop {A} item before zero (suc m) bytes xs rest f lt e g =
    let same : ◌≡◌ {A = List A × List ℕ} (before, bytes) (xs, rest) = cc in
    subst (λ (p : List A × List ℕ). and_then (item p.0 p.1) (λ a rest. many item (p.0 ++ a ∷ []) m rest) ≡ Err f) (sym same) (rw g refl)
many_stop {A} item before (suc n) (suc m) bytes xs rest f lt e g =
    let p = and_then_ok (item before bytes) (λ b rest. many item (before ++ b ∷ []) n rest) (xs, rest) e in
    ap (λ (r : Result (A × List ℕ) FieldFault). and_then r (λ b rest. many item (before ++ b ∷ []) m rest)) p.1 ∙ many_stop item (before ++ p.0.0 ∷ []) n m p.0.1 xs rest f (omega arith) p.2 g

-- the bytes that were read are their spelling
pub was_code : (version : Version) (n : ℕ) (bytes : List ℕ) (xs : List Instr) (rest : List ℕ) → IsBytes bytes → each (instr_at version) n bytes ≡ Ok (xs, rest) → IsCodeOf version xs (take (length bytes - length rest) bytes)
was_code version n bytes xs rest fits e =
    let t = (each_laws n (instr_laws version)).takes bytes (xs, rest) fits e in
    let text : List ℕ = flat_map instr xs in
    let k : length bytes - length rest ≡ length text = omega (arith, ap length t.0.parts, length-append text rest) in
    record { fit = t.1.0; bytes_are = rw k (ap (take (length text)) t.0.parts ∙ take_at text rest (length text) refl) }

pub read_same : {A : Type 0} (read : Result A FieldFault) (x y : A) → read ≡ Ok x → read ≡ Ok y → x ≡ y
read_same (Ok z) x y e f = cc
read_same (Err g) x y e f = absurd cc

pub rest_shorter : (version : Version) (n : ℕ) (bytes : List ℕ) (xs : List Instr) (rest : List ℕ) → IsBytes bytes → each (instr_at version) n bytes ≡ Ok (xs, rest) → length rest ≤ length bytes
rest_shorter version n bytes xs rest fits e =
    let t = (each_laws n (instr_laws version)).takes bytes (xs, rest) fits e in
    omega (arith, ap length t.0.parts, length-append (flat_map instr xs) rest)

-- ---- what the instructions stand for

pub program_length : (version : Version) (xs : List Instr) → length (program_code version xs) ≡ length xs
program_length versions.One xs = length-map xs upgrade_instr
program_length versions.Two xs = refl

upgraded_at : (xs : List Instr) (i : ℕ) (x : Instr) → slice_get xs i ≡ Some x → slice_get (map upgrade_instr xs) i ≡ Some (upgrade_instr x)
upgraded_at [] i x e = absurd cc
upgraded_at (y ∷ ys) zero x e = let same : y ≡ x = cc in ap (λ (z : Instr). Some (upgrade_instr z)) same
upgraded_at (y ∷ ys) (suc i) x e = upgraded_at ys i x e

pub program_at : (version : Version) (xs : List Instr) (i : ℕ) (x : Instr) → slice_get xs i ≡ Some x → slice_get (program_code version xs) i ≡ Some (program_instr version x)
program_at versions.One xs i x e = upgraded_at xs i x e
program_at versions.Two xs i x e = e
