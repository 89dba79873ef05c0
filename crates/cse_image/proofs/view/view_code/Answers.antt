use Rattle.std.proofs.Common.{◌≡◌, ◌++◌, ◌∷◌, [], arith, refl, add-one}
use Rattle.std.proofs.lemmas.Result.{err_from_is_err_and}
use Rattle.cse_image_parts.specs.Reader.{many}
use Rattle.cse_image.specs.Reading.{instr_at}
use Rattle.cse_image.proofs.Views.{many_snoc, many_stop, was_code, code_is, rest_shorter}
use Rattle.cse_image.proofs.view.view_code.Goals as goal

pub loop-init : goal.loop-init
unfolding many
loop-init c = ([], refl)

pub returns-in_err-after : goal.returns-in_err-after
returns-in_err-after c =
    let p = err_from_is_err_and c.from_residual.result c.from_residual.ensures.1 in
    rw (p.1, p.2) (record { exact = many_stop (λ _. instr_at c.args.version) [] c.loop.counter c.args.count c.args.bytes.now c.loop.invariant.0 c.loop.rest.now c.in_err-after.field-0.0 c.loop-test.true c.loop.invariant.1 c.in_err-after.ensures; code = tt })

pub loop-preserved : goal.loop-preserved
loop-preserved c =
    let x = c.in_ok-after.field-0-0 in
    (c.loop.invariant.0 ++ x ∷ [], rw add-one (many_snoc (λ _. instr_at c.args.version) [] c.loop.counter c.args.bytes.now c.loop.invariant.0 c.loop.rest.now x c.in_ok-after.after.now c.loop.invariant.1 c.in_ok-after.ensures))

pub bytes_before-requires : goal.bytes_before-requires
bytes_before-requires c = rest_shorter c.args.version c.loop.counter c.args.bytes.now c.loop.invariant.0 c.loop.rest.now (λ i. omega (arith, c.type_inv.bytes i)) c.loop.invariant.1

pub returns-clause-exact : goal.returns-clause-exact
returns-clause-exact c =
    let code = was_code c.args.version c.loop.counter c.args.bytes.now c.loop.invariant.0 c.loop.rest.now (λ i. omega (arith, c.type_inv.bytes i)) c.loop.invariant.1 in
    let k : c.args.count ≡ c.loop.counter = omega arith in
    rw (c.bytes_before.ensures, code_is c.args.version _ _ code, k) c.loop.invariant.1

pub returns-clause-code : goal.returns-clause-code
returns-clause-code c =
    let code = was_code c.args.version c.loop.counter c.args.bytes.now c.loop.invariant.0 c.loop.rest.now (λ i. omega (arith, c.type_inv.bytes i)) c.loop.invariant.1 in
    rw (c.bytes_before.ensures, code_is c.args.version _ _ code) code
