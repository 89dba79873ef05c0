-- What is read of all bytes is spelled so, and what is spelled so is read.
use Rattle.std.proofs.Common.{◌≡◌, ℕ, Bool, true, false, cond, eqb, List, [], ◌++◌, length, Result, Ok, Err, refl, sym, ap, ◌∙◌, inl}
use Rattle.std.proofs.lemmas.Bool.{eqb-true}
use Rattle.std.proofs.lemmas.List.{append-nil, nil_from_length}
use Rattle.cse_lemmas.proofs.Results.{ok_and_err}
use Rattle.cse_image_parts.specs.declared.fault.FieldFault.{FieldFault}
use Rattle.cse_image_parts.specs.declared.fault.Rule.TheVariants.{LeftOver}
use Rattle.cse_image_parts.specs.declared.fault.ReadStop.{ReadStop}
use Rattle.cse_image_parts.specs.declared.fault.ReadStop.TheVariants as stops
use Rattle.cse_image.specs.declared.error.ImageError.{ImageError}
use Rattle.cse_image.specs.Place.{error_of, Answers}
use Rattle.cse_image_parts.specs.Image.{Image}
use Rattle.cse_image_parts.specs.Reader.{fault, without_rest, Fails}
use Rattle.cse_image_parts.specs.declared.version.Version.{Version}
use Rattle.cse_image.specs.Reading.{Edition, edition, edition_at, whole_edition, programs, reading}
use Rattle.cse_image.specs.Spelling.{spelling_in, SpellsIn, program_in, StandFor}
use Rattle.cse_image_parts.specs.Reader.{IsBytes}
use Rattle.cse_image.proofs.ImageLaws.{edition_laws}

ended_ok : {A : Type 0} (b : Bool) (f : FieldFault) (x y : A) → cond b (Ok x) (Err f) ≡ Ok y → (b ≡ true) × (x ≡ y)
ended_ok true f x y e = (refl, cc)
ended_ok false f x y e = absurd cc

all_ok : {A : Type 0} (r : Result (A × List ℕ) FieldFault) (a : A) → without_rest r ≡ Ok a → r ≡ Ok (a, [])
all_ok (Ok x) a e =
    let p = ended_ok (eqb (length x.1) 0) (fault LeftOver x.1) x.0 a e in
    let nothing : x.1 ≡ [] = nil_from_length x.1 (eqb-true (length x.1) 0 p.0) in
    rw (← p.1, ← nothing) refl
all_ok (Err f) a e = absurd cc

pub edition_found : (bytes : List ℕ) (e : Edition) → IsBytes bytes → whole_edition bytes ≡ Ok e → SpellsIn e.version e.image bytes
unfolding whole_edition
edition_found bytes e fits read =
    let t = edition_laws.takes bytes (e, []) fits (all_ok (edition_at bytes) e read) in
    record { fits = t.1; bytes_are = t.0.parts ∙ append-nil (spelling_in e.version e.image) }

pub edition_only : (bytes : List ℕ) (version : Version) (x : Image) → SpellsIn version x bytes → whole_edition bytes ≡ Ok (edition version x)
unfolding whole_edition
edition_only bytes version x spells =
    let one = edition_laws.again (edition version x) [] spells.fits in
    let e : bytes ≡ spelling_in version x ++ [] = spells.bytes_are ∙ sym (append-nil (spelling_in version x)) in
    rw (e, one) refl

programs_ok : (r : Result Edition FieldFault) (x : Image) → programs r ≡ Ok x → (e : Edition) × (r ≡ Ok e) × (x ≡ program_in e.version e.image)
programs_ok (Ok e) x h = (e, refl, cc)
programs_ok (Err f) x h = absurd cc

pub reading_found : (bytes : List ℕ) (x : Image) → IsBytes bytes → reading bytes ≡ Ok x → StandFor x bytes
unfolding reading
reading_found bytes x fits read =
    let p = programs_ok (whole_edition bytes) x read in
    record { version = p.0.version; image = p.0.image; spells = edition_found bytes p.0 fits p.1; stands = p.2 }

pub reading_only : (bytes : List ℕ) (x : Image) → StandFor x bytes → reading bytes ≡ Ok x
unfolding reading
reading_only bytes x stands = ap programs (edition_only bytes stands.version stands.image stands.spells) ∙ ap (λ (y : Image). Ok y) (sym stands.stands)

-- where reading gives a value, a function that stopped ran out of memory
pub stopped_only : {X Y : Type 0} (view : X → Y) (stop : ReadStop) (len : ℕ) (e : ImageError) (read : Result Y FieldFault) (x : Y)
    → Fails stop read → read ≡ Ok x → e ≡ error_of stop len → Answers view (Err e) (Ok x)
stopped_only view stops.Memory len e read x fails reads same = inl same
stopped_only view (stops.Fault f) len e read x fails reads same = absurd (ok_and_err read x f reads fails)

pub spelled_once : (version : Version) (x : Image) (a b : List ℕ) → SpellsIn version x a → SpellsIn version x b → a ≡ b
spelled_once version x a b p q = p.bytes_are ∙ sym q.bytes_are

ok_parts : {A B : Type 0} (x y : A) (r s : B) → ◌≡◌ {A = Result (A × B) FieldFault} (Ok (x, r)) (Ok (y, s)) → (x ≡ y) × (r ≡ s)
ok_parts {A} {B} x y r s e = let both : ◌≡◌ {A = A × B} (x, r) (y, s) = cc in (ap (λ (p : A × B). p.0) both, ap (λ (p : A × B). p.1) both)

pub begins_none : (v w : Version) (x y : Image) (a b rest : List ℕ) → SpellsIn v x a → SpellsIn w y b → a ++ rest ≡ b → (v ≡ w) × (x ≡ y) × (rest ≡ [])
begins_none v w x y a b rest p q e =
    let one : edition_at (spelling_in v x ++ rest) ≡ Ok (edition v x, rest) = edition_laws.again (edition v x) rest p.fits in
    let two : edition_at (spelling_in w y ++ []) ≡ Ok (edition w y, []) = edition_laws.again (edition w y) [] q.fits in
    let same : spelling_in v x ++ rest ≡ spelling_in w y ++ [] = ap (λ (t : List ℕ). t ++ rest) (sym p.bytes_are) ∙ e ∙ q.bytes_are ∙ sym (append-nil (spelling_in w y)) in
    let both = ok_parts (edition v x) (edition w y) rest [] (sym one ∙ ap edition_at same ∙ two) in
    (ap (λ (e : Edition). e.version) both.0, ap (λ (e : Edition). e.image) both.0, both.1)
