-- What the format says of a program's routines.
use Rattle.std.proofs.Common.{◌≡◌, ℕ, ◌+◌, ◌≤◌, leb, length, Some, subst, arith}
use Rattle.std.specs.Prelude.{slice_get, take}
use Rattle.std.proofs.lemmas.Bool.{and_parts, leb-true}
use Rattle.std.proofs.lemmas.Option.{slice_get_within, get_or_from_slice_get}
use Rattle.cse_image_parts.specs.Fields.{instructions_in}
use Rattle.cse_image_parts.specs.declared.version.Version.TheVariants as versions
use Rattle.cse_image_parts.specs.Image.{Image, RoutineLists}
use Rattle.cse_image_parts.proofs.Places.{at_place_plain}
use Rattle.cse_image.specs.Spelling.{Fits, RoutineFits}

-- a routine has at most 255 locals and 1,000,000 instructions
pub record IsSmall (y : RoutineLists) : Type 0 where
  pub locals : length y.locals ≤ 255
  pub size : y.instructions ≤ 1000000

pub routine_small : (x : Image) (r : ℕ) (y : RoutineLists) → Fits x → slice_get x.lists.routines r ≡ Some y → IsSmall y
routine_small x r y fits there =
    let f : RoutineFits versions.Two (instructions_in (take r x.lists.routines)) y =
    subst (RoutineFits versions.Two (instructions_in (take r x.lists.routines))) (get_or_from_slice_get x.lists.routines r y y there)
    (at_place_plain (λ before. RoutineFits versions.Two (instructions_in before)) x.lists.routines fits.lists.routines.each r y (slice_get_within x.lists.routines r y there))
    in
    let few = f.locals.count in
    let before = instructions_in (take r x.lists.routines) in
    let room : before + y.instructions ≤ 1000000 = leb-true (before + y.instructions) 1000000 (and_parts (leb 1 y.instructions) (leb (before + y.instructions) 1000000) f.room).1 in
    record { locals = omega arith; size = omega arith }
