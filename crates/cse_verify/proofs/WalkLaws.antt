-- A typed program keeps the rules of brackets, and its calls go to smaller routines.
use Rattle.cse_lemmas.proofs.Lists.{slice_get_some}
use Rattle.cse_value.specs.Shape.{ShapeLists}
use Rattle.cse_image_parts.specs.Image.{Image}
use Rattle.cse_code_typing.specs.Code.{code_of}
use Rattle.cse_code_typing.specs.Typed.{IsTyped}
use Rattle.cse_verify.specs.Calls.{AllKeepRules, AllCallSmaller}
use Rattle.cse_verify.proofs.CallLaws.{calls_below}

pub all_keep : (s : ShapeLists) (x : Image) → IsTyped s x → AllKeepRules x
all_keep s x typed r lt = let y = slice_get_some x.lists.routines r lt in (typed.routines r y.0 lt y.1).brackets

pub all_smaller : (s : ShapeLists) (x : Image) → IsTyped s x → AllCallSmaller x
all_smaller s x typed r lt =
    let y = slice_get_some x.lists.routines r lt in
    calls_below x.lists x.lists.routines r y.0.ambient (code_of x r) (typed.routines r y.0 lt y.1).calls
