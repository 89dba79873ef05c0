-- Bytes that are gathered before they are written, and what becomes of them where the device fails.
use Rattle.std.specs.Prelude.{◌≡◌, ℕ, Bool, true, List, [], ◌∷◌, ◌++◌, Result, MatchBool}
use Rattle.cse_value.specs.Device.{Appends}
use Rattle.cse_value.specs.Writing.{AppendsFront, WritesAll, FailsAtErr}
use Rattle.cse_value.specs.declared.gatherer.Gatherer.{Gatherer}

-- a device's bytes and whether it has failed, the bytes that wait, and whether writing was given up
pub record Going : Type 0 where
  pub contents : List ℕ
  pub has_failed : Bool
  pub waiting : List ℕ
  pub gave_up : Bool

abbrev pub going : List ℕ → Bool → List ℕ → Bool → Going
going contents has_failed waiting gave_up = record { contents = contents; has_failed = has_failed; waiting = waiting; gave_up = gave_up }

-- a device, by what it tells of itself, and a buffer before it
abbrev pub behind : {W : Type 0} → (W → List ℕ) → (W → Bool) → W → Gatherer → Going
behind taken has_failed out gatherer = going (taken out) (has_failed out) gatherer.waiting.items gatherer.gave_up

-- a front of the text was written, and the rest waits
pub record Gathered (start : List ℕ) (sound : Bool) (g : Going) (text : List ℕ) : Type 0 where
  pub written : List ℕ
  pub appends : Appends start g.contents written
  pub is : text ≡ written ++ g.waiting
  pub same : g.has_failed ≡ sound

-- the device failed after a front of the text
pub record GaveUp (start : List ℕ) (g : Going) (text : List ℕ) : Type 0 where
  pub front : AppendsFront start g.contents text
  pub failed : g.has_failed ≡ true

-- what has become of the text that was put since the device held start
abbrev pub Gathering : List ℕ → Bool → Going → List ℕ → Type 0
Gathering start sound g text = MatchBool g.gave_up (GaveUp start g text) (Gathered start sound g text)

-- these bytes were put, whatever was put before
abbrev pub Puts : Going → Going → List ℕ → Type 0
Puts old new bytes = (start : List ℕ) (sound : Bool) (text : List ℕ) → Gathering start sound old text → Gathering start sound new (text ++ bytes)

-- the answer after all that was put was written, or a front of it
abbrev pub Finishes : {T E : Type 0} → Result T E → Going → List ℕ → Bool → Type 0
Finishes r old contents has_failed = (start : List ℕ) (sound : Bool) (text : List ℕ) → Gathering start sound old text → WritesAll r start contents text × FailsAtErr r sound has_failed

-- a line with its LF
abbrev pub line : List ℕ → List ℕ
line text = text ++ 10 ∷ []
