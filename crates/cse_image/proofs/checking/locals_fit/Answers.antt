use Rattle.std.proofs.Common.{◌≡◌, ℕ, Bool, length, take, arith, sym, subst}
use Rattle.std.specs.Bool.{Decides}
use Rattle.std.proofs.lemmas.List.{get_or_default, length-take}
use Rattle.cse_image_parts.specs.declared.entries.Local.{Local}
use Rattle.cse_image.specs.Spelling.{LocalFits}
use Rattle.cse_image_parts.proofs.Places.{grow_plain, refuse_plain}
use Rattle.cse_image.proofs.checking.locals_fit.Goals as goal

-- the place is how many locals stand before
shift : (parameters i k : ℕ) {x : Local} (r : Bool) → k ≡ i → Decides r (LocalFits parameters i x) → Decides r (LocalFits parameters k x)
shift parameters i k {x} r e h = subst (λ (n : ℕ). Decides r (LocalFits parameters n x)) (sym e) h

pub returns-then-not-local_fits : goal.returns-then-not-local_fits
returns-then-not-local_fits c =
    let xs = c.args.locals.now in
    let i = c.loop-i.i in
    let place : length (take i xs) ≡ i = omega (arith, length-take i xs) in
    refuse_plain (λ before. LocalFits c.args.parameters (length before)) xs i _ c.local_fits.result c.loop-i-test.true (get_or_default xs i _ _ c.loop-i-test.true) (shift c.args.parameters i (length (take i xs)) c.local_fits.result place c.local_fits.ensures) c.if-not-local_fits.true

pub loop-i-preserved : goal.loop-i-preserved
loop-i-preserved c =
    let xs = c.args.locals.now in
    let i = c.loop-i.i in
    let place : length (take i xs) ≡ i = omega (arith, length-take i xs) in
    let h = shift c.args.parameters i (length (take i xs)) c.local_fits.result place c.local_fits.ensures in
    grow_plain (λ before. LocalFits c.args.parameters (length before)) xs i _ c.loop-i-test.true (get_or_default xs i _ _ c.loop-i-test.true) c.loop-i.invariant (h.0 c.if-not-local_fits.false)
