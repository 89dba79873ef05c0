-- Which code the tables and the routines of an image have room for.
use Rattle.std.specs.Prelude.{◌≡◌, ◌≤◌, ◌<◌, ◌+◌, ◌^◌, ℕ, Bool, List, [], ◌++◌, length, map, nat_eq, IsTrue}
use Rattle.std.specs.List.{AllByRecursion, IsDistinct}
use Rattle.std.specs.Ordering.{int_eq}
use Rattle.std.specs.Set.{is_member}
use Rattle.std.specs.Str.{IsUtf8, bytes_eq}
use Rattle.cse_value.specs.declared.shape.RecordShape.{RecordShape}
use Rattle.cse_image_parts.specs.Image.{Image}
use Rattle.cse_image_parts.specs.Limits.{most_constants, most_instructions, most_limits, most_texts}
use Rattle.cse_image.specs.Spelling.{Fits, TextFits}
use Rattle.cse_compile.specs.Outline.{Outline, parameters_of}
use Rattle.cse_compile.specs.Pools.{PoolLists, PoolsFit, with_constant, with_limit, with_text}
use Rattle.cse_compile.specs.Wide.{Wide, Constant, Chars, Turns, Plain}
use Rattle.cse_compile.specs.Routines.{routine_size}
use Rattle.cse_compile.specs.Program.{all_code, entry_of, pools_of, setting_for}
use Rattle.cse_compile.specs.Stands.{AllStand}

-- ---- tables

-- the tables with what the instruction names
abbrev pub with_entry : PoolLists → Wide → PoolLists
with_entry p (Constant z) = with_constant p z
with_entry p (Chars text) = with_text p text
with_entry p (Turns limit end) = with_limit p limit
with_entry p (Plain op a b c) = p

-- no image has the instruction, or the table with what it names is longer than that of an image
abbrev pub LacksRoom : PoolLists → Wide → Type 0
LacksRoom p (Constant z) = most_constants < length (with_constant p z).constants
LacksRoom p (Chars text) = IsUtf8 text → TextFits text → most_texts < length (with_text p text).texts
LacksRoom p (Turns limit end) = 0 < limit → end < 2 ^ 32 → most_limits < length (with_limit p limit).limits
LacksRoom p (Plain op a b c) = 2 ^ 32 ≤ c

-- the tables have what the instruction names, and its place is below 2^32
abbrev pub IsHeld : PoolLists → Wide → Type 0
IsHeld p (Constant z) = IsTrue (is_member int_eq p.constants z)
IsHeld p (Chars text) = IsTrue (is_member bytes_eq p.texts text)
IsHeld p (Turns limit end) = IsTrue (is_member nat_eq p.limits limit) × (end < 2 ^ 32)
IsHeld p (Plain op a b c) = c < 2 ^ 32

-- the tables fit an image, and have all that the code names
pub record Hold (p : PoolLists) (code : List Wide) : Type 0 where
  pub fit : PoolsFit p
  pub each : AllByRecursion (IsHeld p) code

-- xs has each of its entries once, and ys has them all
pub record IsPart {A : Type 0} (eq : A → A → Bool) (xs ys : List A) : Type 0 where
  pub distinct : IsDistinct eq xs
  pub there : (x : A) → IsTrue (is_member eq xs x) → IsTrue (is_member eq ys x)

pub record AreParts (p q : PoolLists) : Type 0 where
  pub constants : IsPart int_eq p.constants q.constants
  pub limits : IsPart nat_eq p.limits q.limits
  pub texts : IsPart bytes_eq p.texts q.texts

-- no tables that fit an image have these entries, and what the code names
abbrev pub CannotHold : PoolLists → List Wide → Type 0
CannotHold old code = (p : PoolLists) → Hold p code → AreParts old p → ⊥

-- ---- routines

-- a routine has at most 255 parameters, and not more instructions than a whole image may have
pub record IsSmall (records : List RecordShape) (arrays : List (List ℕ)) (o : Outline) : Type 0 where
  pub parameters : parameters_of o.sort < 256
  pub size : routine_size (setting_for records arrays o) o.body ≤ most_instructions

-- behind this code, an image has room for that of these routines
pub record AreSmall (before : List Wide) (records : List RecordShape) (arrays : List (List ℕ)) (os : List Outline) : Type 0 where
  pub each : AllByRecursion (IsSmall records arrays) os
  pub together : length (before ++ all_code records arrays os) ≤ most_instructions

-- the image has these routines, and its instructions stand for their code
pub record HasCodeOf (records : List RecordShape) (arrays : List (List ℕ)) (os : List Outline) (x : Image) : Type 0 where
  pub routines : x.lists.routines ≡ map (entry_of records arrays) os
  pub code : AllStand (pools_of x.lists) x.code (all_code records arrays os)

-- no image with the code of these routines has a spelling
abbrev pub NoCodeFits : List RecordShape → List (List ℕ) → List Outline → Type 0
NoCodeFits records arrays os = (x : Image) → HasCodeOf records arrays os x → Fits x → ⊥
