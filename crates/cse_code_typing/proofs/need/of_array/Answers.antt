use Rattle.std.proofs.Common.{refl}
use Rattle.cse_image_parts.specs.Image.{array_lists}
use Rattle.cse_code_typing.proofs.ListedLaws.{got, lacks, got_of, lacks_of}
use Rattle.cse_code_typing.proofs.need.of_array.Goals as goal

pub returns-in-None : goal.returns-in-None
returns-in-None c =
    let all = c.args.tables.now.arrays.items in
    let n = c.args.array in
    let none = lacks c.deref.result.now all n c.deref.ensures.value c.in-None.ensures.lookup.0 in
    rw (lacks_of array_lists all n none) refl

pub returns-in-Some : goal.returns-in-Some
returns-in-Some c =
    let all = c.args.tables.now.arrays.items in
    let n = c.args.array in
    let there = got c.deref.result.now all n _ c.deref.ensures.value c.in-Some.ensures.lookup.0 c.in-Some.ensures.lookup.1 in
    rw (got_of array_lists all n _ there) refl
