use Rattle.std.proofs.Common.{refl}
use Rattle.std.specs.Str.{chars, is_utf8}
use lib.Utf8.{encode}
use Rattle.cse_value.specs.Field.{put}
use Rattle.cse_case.specs.Columns.{line_text, id_of}
use Rattle.cse_case.specs.NamedColumns.{ids_of, least_width, record_of, width_of}
use Rattle.cse_case.specs.Line.{lines_in}
use Rattle.cse_case.specs.Runs.{line_fault, given_of, fault_in}
use Rattle.cse_case.specs.Written.{written_line}
use Rattle.cse_case.specs.Case.{places_of, place_of, with_number}
use Rattle.cse_case.specs.Seen.{occurrence_places, unseen_of, is_case}
use Rattle.cse_code_typing.specs.Bracket.{around, around_below}
use Rattle.cse_code_typing.specs.Code.{code_of}
use Rattle.cse_code_typing.specs.Skeleton.{control_by}
use Rattle.cse_verify.specs.Bound.{partial}
use Rattle.cse_steps.specs.Run.{first}
use Rattle.cse_steps.specs.Step.{acts}
use Rattle.cse_batch_parts.specs.Events.{final, edited}
use Rattle.cse_batch_parts.specs.Batch.{after_application, after_run, batch, begun, stopped, whole}
use Rattle.cse_batch_parts.proofs.untouched.worked_edit.Goals as goal

pub returns : goal.returns
unfolding partial around around_below control_by batch begun after_application after_run edited stopped whole final first acts code_of given_of fault_in line_fault lines_in line_text id_of ids_of least_width record_of width_of written_line places_of place_of occurrence_places unseen_of is_case with_number put chars is_utf8 encode
returns c = refl
