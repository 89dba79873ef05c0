use Rattle.std.proofs.Common.{◌≡◌, drop}
use Rattle.std.specs.Prelude.{slice_get}
use Rattle.std.specs.List.{list_any}
use Rattle.cse_code_typing.specs.Code.{part}
use Rattle.cse_code_typing.specs.Signature.{loops_over}
use Rattle.cse_code_typing.proofs.in_loop.is_in_loop.Given as goal

-- the openers so far begin no such loop
abbrev pub invariant-openers : goal.invariant-openers
invariant-openers g l =
    list_any (λ opener. loops_over l.number (slice_get (part l.start l.size (g.C.Code.list l.code)) opener)) l.openers
    ≡ list_any (λ opener. loops_over l.number (slice_get (part l.start l.size (g.C.Code.list l.code)) opener)) (drop l.i l.openers)
