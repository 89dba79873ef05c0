use Rattle.cse_value.proofs.FieldLaws.{field-put}
use Rattle.cse_value.proofs.field.round_trip.Goals as goal

pub returns : goal.returns
returns c = field-put
