-- The versions of the image format, and how they differ.
use Rattle.std.specs.Prelude.{ℕ, Bool, true, false, [], ◌∷◌, Option}
use Rattle.cse_image_parts.specs.Codes.{named}
use Rattle.cse_image_parts.specs.declared.entries.Gift.{Gift}
use Rattle.cse_image_parts.specs.declared.entries.Gift.TheVariants as gifts
use Rattle.cse_image_parts.specs.declared.instruction.Op.{Op}
use Rattle.cse_image_parts.specs.declared.instruction.Op.TheVariants as ops
use Rattle.cse_image_parts.specs.declared.version.Version.{Version}
use Rattle.cse_image_parts.specs.declared.version.Version.TheVariants as versions

abbrev pub version_code : Version → ℕ
version_code versions.One = 1
version_code versions.Two = 2

abbrev pub version_of : ℕ → Option Version
version_of = named version_code (versions.One ∷ versions.Two ∷ [])

-- a routine gives a text from version 2 on
abbrev pub may_give : Version → Gift → Bool
may_give versions.One gifts.Nothing = true
may_give versions.One gifts.Number = true
may_give versions.One gifts.Text = false
may_give versions.Two gives = true

-- the opener of a counting loop
abbrev pub is_counting : Op → Bool
is_counting ops.LoopCount = true
is_counting op = false

-- b is the limit of a loop itself; in version 2 it is the limit's place in the table
abbrev pub holds_limit : Version → Op → Bool
holds_limit versions.One op = is_counting op
holds_limit versions.Two op = false
