use Rattle.cse_meaning.proofs.building.spelled.Goals as goal

pub returns-in-Ok-clause-bytes : goal.returns-in-Ok-clause-bytes
returns-in-Ok-clause-bytes c = record { fits = c.tables-fits.ensures.fits; bytes_are = c.in-Ok.ensures.spelling }
