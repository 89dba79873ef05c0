-- A program that may run with a dictionary.
use Rattle.std.specs.Prelude.{◌≡◌, ℕ, List, length}
use Rattle.cse_dict.specs.Dictionary.{DictionaryText, shape_of}
use Rattle.cse_image_parts.specs.Image.{Image}
use Rattle.cse_code_typing.specs.Typed.{IsTyped}
use Rattle.cse_verify.specs.Bound.{bounds_below}
use Rattle.cse_verify.specs.EventBound.{case_bound, run_bound}
use Rattle.cse_verify.specs.Bounded.{IsBounded}
use Rattle.cse_verify.specs.declared.depth.Depth.{Depth}
use Rattle.cse_verify.specs.Depths.{IsDepthOf}

-- what callers see: the dictionary and the program that were handed in
pub record VerifiedProgram : Type 0 where
  pub dictionary : DictionaryText
  pub image : Image

-- the program is typed for the dictionary, and bounded
pub record MayRun (v : VerifiedProgram) : Type 0 where
  pub typed : IsTyped (shape_of v.dictionary) v.image
  pub bounded : IsBounded v.image

-- what is kept beside: the bounds of the routines, those of a case and of the application, and the depth
pub record IsKept (v : VerifiedProgram) (bounds : List ℕ) (case run : ℕ) (depth : Depth) : Type 0 where
  pub may_run : MayRun v
  pub bounds_are : bounds ≡ bounds_below v.image (length v.image.lists.routines)
  pub case_is : case ≡ case_bound v.image
  pub run_is : run ≡ run_bound v.image
  pub depth_is : IsDepthOf (shape_of v.dictionary) v.image depth
