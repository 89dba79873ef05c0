use Rattle.std.proofs.Common.{Option, sym, ap}
use Rattle.std.specs.Option.{option_map_or}
use Rattle.cse_image_parts.specs.Image.{RoutineLists, routine_lists}
use Rattle.cse_code_typing.proofs.ListedLaws.{got, lacks, got_of, lacks_of}
use Rattle.cse_code_typing.proofs.place_depth.parameters_at.Goals as goal

pub returns-in-None : goal.returns-in-None
returns-in-None c =
    let all = c.args.tables.now.routines.items in
    let none = lacks c.deref.result.now all c.args.routine c.deref.ensures.value c.in-None.ensures.lookup.0 in
    sym (ap (λ (o : Option RoutineLists). option_map_or (λ x. x.parameters) o 0) (lacks_of routine_lists all c.args.routine none))

pub returns-in-Some : goal.returns-in-Some
returns-in-Some c =
    let all = c.args.tables.now.routines.items in
    let there = got c.deref.result.now all c.args.routine c.in-Some.found.now c.deref.ensures.value c.in-Some.ensures.lookup.0 c.in-Some.ensures.lookup.1 in
    sym (ap (λ (o : Option RoutineLists). option_map_or (λ x. x.parameters) o 0) (got_of routine_lists all c.args.routine c.in-Some.found.now there))
