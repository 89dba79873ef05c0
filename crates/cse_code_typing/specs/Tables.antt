-- What stands around the instructions of a routine, as lists.
use Rattle.cse_value.specs.Shape.{shape_lists}
use Rattle.cse_image_parts.specs.Image.{lists_of, routine_lists}
use Rattle.cse_code_typing.specs.declared.pass_at.Surroundings.{Surroundings}
use Rattle.cse_code_typing.specs.Signature.{Scene}

abbrev pub scene_in : Surroundings → Scene
scene_in s = record { shape = shape_lists s.shape.now; lists = lists_of s.tables.now; routine = routine_lists s.routine.now }
