-- What an instruction takes and leaves, told by where its kinds are listed.
use Rattle.std.specs.Prelude.{List, [], ◌++◌, map, take, reverse, Option, None, Some, slice_get}
use Rattle.std.specs.Option.{option_to_list}
use Rattle.cse_image_parts.specs.Image.{Lists, ArrayLists, MessageLists, RoutineLists}
use Rattle.cse_image_parts.specs.Placeholders.{message_kinds}
use Rattle.cse_code_typing.specs.declared.kind.Kind.{Kind}
use Rattle.cse_code_typing.specs.declared.kind.Kind.TheVariants.{Index}
use Rattle.cse_code_typing.specs.declared.need.Listed.{Listed}
use Rattle.cse_code_typing.specs.declared.need.Listed.TheVariants.{Nothing, Dimensions, Arguments, Parameters}
use Rattle.cse_code_typing.specs.declared.need.Need.{Need}
use Rattle.cse_code_typing.specs.Kinds.{argument_kind, local_kind}
use Rattle.cse_code_typing.specs.Signature.{Signature}

abbrev pub dimensions_by : Option ArrayLists → List Kind
dimensions_by None = []
dimensions_by (Some x) = map Index x.dimensions

abbrev pub arguments_by : Option MessageLists → List Kind
arguments_by None = []
arguments_by (Some x) = map argument_kind (message_kinds x.text)

abbrev pub parameters_by : Option RoutineLists → List Kind
parameters_by None = []
parameters_by (Some x) = map local_kind (take x.parameters x.locals)

-- the listed kinds, the topmost last
abbrev pub listed_kinds : Lists → Listed → List Kind
listed_kinds x Nothing = []
listed_kinds x (Dimensions c) = dimensions_by (slice_get x.arrays c)
listed_kinds x (Arguments c) = arguments_by (slice_get x.messages c)
listed_kinds x (Parameters c) = parameters_by (slice_get x.routines c)

-- all kinds that are taken, the topmost first
abbrev pub takes_of : Lists → Need → List Kind
takes_of x n = option_to_list n.first ++ (option_to_list n.second ++ reverse (listed_kinds x n.listed))

abbrev pub signature_of : Lists → Need → Signature
signature_of x n = record { takes = takes_of x n; leaves = option_to_list n.leaves }
