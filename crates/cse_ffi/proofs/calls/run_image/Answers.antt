use Rattle.cse_ffi.proofs.Told.{is_of, stops_of}
use Rattle.cse_ffi.proofs.calls.run_image.Goals as goal

pub returns-in-Ok-clause-stops : goal.returns-in-Ok-clause-stops
returns-in-Ok-clause-stops g c =
    stops_of _ _ _ c.in-Ok.verified _ _ _ _ _ c.run_verified.result
    (is_of _ _ c.in-Ok.verified c.in_ok-dictionary.dictionary c.in-Ok.ensures.dictionary c.in_ok-dictionary.ensures.read c.in-Ok.ensures.accepted)
    c.run_verified.ensures.stops
