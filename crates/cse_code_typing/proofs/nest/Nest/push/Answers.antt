use Rattle.std.proofs.Common.{◌∙◌, arith}
use Rattle.std.proofs.lemmas.List.{length-set}
use Rattle.cse_code_typing.proofs.NestLaws.{height, shown_push}
use Rattle.cse_code_typing.proofs.nest.Nest.push.Goals as goal

pub listed : goal.listed
listed g c =
    let le = c.self.invariant.0 in
    let size = c.self.invariant.1 in
    let count = height c.self.inside.entries c.args.self.now c.self.inside.len c.self.view_is (omega arith) in
    let few = c.requires in
    omega arith

pub bounds-self-inside-self-inside : goal.bounds-self-inside-self-inside
bounds-self-inside-self-inside g c =
    let le = c.self.invariant.0 in
    let size = c.self.invariant.1 in
    let count = height c.self.inside.entries c.args.self.now c.self.inside.len c.self.view_is (omega arith) in
    let few = c.requires in
    omega arith

pub invariant_of-self : goal.invariant_of-self
invariant_of-self g c =
    let le = c.self.invariant.0 in
    let size = c.self.invariant.1 in
    let count = height c.self.inside.entries c.args.self.now c.self.inside.len c.self.view_is (omega arith) in
    let few = c.requires in
    (omega arith, length-set c.self.inside.entries c.self.inside.len c.args.entry ∙ size)

pub returns : goal.returns
returns g c =
    let le = c.self.invariant.0 in
    let size = c.self.invariant.1 in
    let count = height c.self.inside.entries c.args.self.now c.self.inside.len c.self.view_is (omega arith) in
    let few = c.requires in
    shown_push c.self.inside.entries c.args.self.now c.self.inside.len c.args.entry c.self.view_is (omega arith)
