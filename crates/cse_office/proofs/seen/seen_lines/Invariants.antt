use Rattle.std.proofs.Common.{◌≡◌, ◌+◌, ◌≤◌, length, take}
use Rattle.cse_case.specs.Seen.{places_from as own_places}
use Rattle.cse_office.specs.Changes.{types_of}
use Rattle.cse_office.proofs.ChangeLaws.{left}
use Rattle.cse_office.proofs.seen.seen_lines.Given as goal

abbrev pub invariant-lines : goal.invariant-lines
invariant-lines l =
    record {
      occurs : l.seen + length (left l.most l.seen l.owner l.place (types_of l.lines)) ≡ length (take l.most (own_places 0 l.owner (types_of l.lines)));
      few : l.seen ≤ l.place;
    }
