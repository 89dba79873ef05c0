-- When two programs are one for the verifier, whatever the dictionary.
use Rattle.std.specs.Prelude.{◌≡◌, ◌≤◌, ◌<◌, ℕ, Some, ◌↔◌}
use Rattle.cse_value.specs.Shape.{ShapeLists}
use Rattle.cse_image_parts.specs.declared.version.Version.TheVariants as versions
use Rattle.cse_image_parts.specs.Image.{Image, RoutineLists}
use Rattle.cse_image_parts.specs.Turns.{limit_of}
use Rattle.cse_image_parts.specs.Upgrade.{upgrade, as_it_stands}
use Rattle.cse_image.specs.Spelling.{FitsIn}
use Rattle.cse_code_typing.specs.Code.{code_of}
use Rattle.cse_code_typing.specs.Skeleton.{skeleton_of}
use Rattle.cse_code_typing.specs.Rule.{rule}
use Rattle.cse_code_typing.specs.Typing.{Stacks, IsTypingBelow}
use Rattle.cse_code_typing.specs.Typed.{scene_of, IsTyped}
use Rattle.cse_verify.specs.Bound.{bound}
use Rattle.cse_verify.specs.EventBound.{case_bound}
use Rattle.cse_verify.specs.declared.depth.Depth.{Depth}
use Rattle.cse_verify.specs.Depths.{IsDepthOf}

pub record MeansSame (x y : Image) : Type 0 where
  pub skeletons : (r : ℕ) → skeleton_of x r ≡ skeleton_of y r
  pub typings : (s : ShapeLists) (r n : ℕ) (z : RoutineLists) (t : Stacks)
      → IsTypingBelow (rule (scene_of s x z) (code_of x r)) (code_of x r) n t ↔ IsTypingBelow (rule (scene_of s y z) (code_of y r)) (code_of y r) n t
  pub typed : (s : ShapeLists) → IsTyped s x ↔ IsTyped s y
  pub bounds : (r : ℕ) → bound x r ≡ bound y r
  pub cases : case_bound x ≡ case_bound y
  pub depths : (s : ShapeLists) (d : Depth) → IsDepthOf s x d ↔ IsDepthOf s y d

-- the upgrade of a program that fits version 1 is, for the verifier, the program whose code stands as it is
abbrev pub UpgradeMeansSame : Type 0
UpgradeMeansSame = (x : Image) → FitsIn versions.One x → MeansSame (upgrade x) (as_it_stands x)

-- each b that version 1 allows, from 1 to 65,535, names the limit b there: the loop may take b turns, as version 1 says
abbrev pub LimitsAreTheirOwn : Type 0
LimitsAreTheirOwn = (x : Image) (b : ℕ) → 1 ≤ b → b < 65536 → limit_of (as_it_stands x).lists.limits b ≡ Some b
