use Rattle.std.proofs.Common.{◌≡◌, ◌-◌, map}
use Rattle.cse_image_parts.specs.Reader.{many}
use Rattle.cse_image.proofs.read_entries.entries_of.Given as goal

abbrev pub invariant-loop : goal.invariant-loop
invariant-loop g l =
    let E = g.E.Readable in
    many E.reader (map E.seen l.entries.items) (l.count - l.counter) l.rest ≡ many E.reader (map E.seen l.fn.entries.items) l.count l.bytes
