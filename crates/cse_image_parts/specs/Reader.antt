-- Readers of a binary format: each takes a value from the front of the bytes, or tells the first fault.
-- A fault's place is told by the bytes from its field to the end.
use Rattle.std.specs.Prelude.{◌≡◌, ℕ, ℤ, zero, suc, Bool, List, [], ◌∷◌, ◌++◌, length, take, drop, Option, Some, None, Result, Ok, Err, nat_lt, nat_le, ◌==◌, ◌<◌, slice_index, if◌then◌else◌}
use Rattle.std.specs.Int.{w64, cast_signed}
use Rattle.byteorder.specs.Endian.{little_number}
use Rattle.cse_image_parts.specs.declared.fault.Rule.{Rule}
use Rattle.cse_image_parts.specs.declared.fault.Rule.TheVariants.{Ended, LeftOver, Limit}
use Rattle.cse_image_parts.specs.declared.fault.FieldFault.{FieldFault}
use Rattle.cse_image_parts.specs.declared.fault.ReadStop.{ReadStop}
use Rattle.cse_image_parts.specs.declared.fault.ReadStop.TheVariants as stops

abbrev pub Reader : Type 0 → Type 0
Reader A = List ℕ → Result (A × List ℕ) FieldFault

-- The field at the front of these bytes breaks the rule. Its place is told by the bytes from there to the end.
abbrev pub fault : Rule → List ℕ → FieldFault
fault rule field = record { rule = rule; left = length field }

-- A field is not whole: the place is the end.
abbrev pub ended : FieldFault
ended = record { rule = Ended; left = 0 }

-- Each is a byte.
abbrev pub IsBytes : List ℕ → Type 0
IsBytes bytes = (i : ℕ) → slice_index bytes i < 256

-- Why a function stopped is what reading gives, unless memory ran out.
abbrev pub Fails : {Y : Type 0} → ReadStop → Result Y FieldFault → Type 0
Fails stops.Memory read = Unit {0}
Fails (stops.Fault f) read = read ≡ Err f

-- What a function returned, seen by view, is what reading gives, unless memory ran out.
abbrev pub Gives : {X Y : Type 0} → (X → Y) → Result X ReadStop → Result Y FieldFault → Type 0
Gives view (Ok x) read = read ≡ Ok (view x)
Gives view (Err e) read = Fails e read

-- The same of a function that takes no memory.
abbrev pub GivesFault : {X Y : Type 0} → (X → Y) → Result X FieldFault → Result Y FieldFault → Type 0
GivesFault view (Ok x) read = read ≡ Ok (view x)
GivesFault view (Err f) read = read ≡ Err f

abbrev pub and_then : {A B : Type 0} → Result (A × List ℕ) FieldFault → (A → Reader B) → Result (B × List ℕ) FieldFault
and_then (Ok x) k = k x.0 x.1
and_then (Err e) k = Err e

unfoldable pub then_at : {A B : Type 0} → Reader A → (A → Reader B) → Reader B
then_at r k bytes = and_then (r bytes) k

infixl 10 ◌>>=◌
abbrev pub ◌>>=◌ : {A B : Type 0} → Reader A → (A → Reader B) → Reader B
r >>= k = then_at r k

unfoldable pub done : {A : Type 0} → A → Reader A
done a bytes = Ok (a, bytes)

unfoldable pub some_bytes : ℕ → Reader (List ℕ)
some_bytes n bytes = if nat_lt (length bytes) n then Err ended else Ok (take n bytes, drop n bytes)

-- a number of n bytes
unfoldable pub number : ℕ → Reader ℕ
number n bytes = and_then (some_bytes n bytes) (λ front rest. Ok (little_number n front, rest))

-- eight bytes in two's complement
unfoldable pub signed : Reader ℤ
signed bytes = and_then (some_bytes 8 bytes) (λ front rest. Ok (cast_signed w64 (little_number 8 front), rest))

-- The field at the front keeps a rule, or breaks it at its first byte.
unfoldable pub checked : {A : Type 0} → Rule → (A → Bool) → Reader A → Reader A
checked rule ok r bytes = and_then (r bytes) (λ a rest. if ok a then Ok (a, rest) else Err (fault rule bytes))

abbrev pub kept : {A B : Type 0} → Option A → B → FieldFault → Result (A × B) FieldFault
kept None rest f = Err f
kept (Some a) rest f = Ok (a, rest)

-- The field at the front names a value.
unfoldable pub decoded : {A B : Type 0} → Rule → (A → Option B) → Reader A → Reader B
decoded rule value r bytes = and_then (r bytes) (λ a rest. kept (value a) rest (fault rule bytes))

-- count values, each read with those before it in sight; the result has those before it too
unfoldable pub many : {A : Type 0} → (List A → Reader A) → List A → ℕ → Reader (List A)
many item before zero bytes = Ok (before, bytes)
many item before (suc n) bytes = and_then (item before bytes) (λ a rest. many item (before ++ a ∷ []) n rest)

-- Each of these holds of the entries before it and the entry.
abbrev pub AllAfter : {A : Type 0} → (List A → A → Type 0) → List A → List A → Type 0
AllAfter P before [] = Unit {0}
AllAfter P before (x ∷ xs) = P before x × AllAfter P (before ++ x ∷ []) xs

-- count values, which know nothing of each other
abbrev pub each : {A : Type 0} → Reader A → ℕ → Reader (List A)
each item n = many (λ _. item) [] n

-- a count, which has a limit, and so many entries
unfoldable pub counted : {A : Type 0} → ℕ → (List A → Reader A) → Reader (List A)
counted limit item = do
  n ← checked Limit (λ n. nat_le n limit) (number 4)
  many item [] n

-- a reader that wants n bytes to be there before it looks at any
unfoldable pub whole : {A : Type 0} → ℕ → Reader A → Reader A
whole n r bytes = if nat_lt (length bytes) n then Err ended else r bytes

-- all of the bytes
abbrev pub without_rest : {A : Type 0} → Result (A × List ℕ) FieldFault → Result A FieldFault
without_rest (Ok x) = if length x.1 == 0 then Ok x.0 else Err (fault LeftOver x.1)
without_rest (Err e) = Err e
