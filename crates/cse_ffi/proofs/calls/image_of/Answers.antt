use Rattle.std.proofs.Common.{inr}
use Rattle.cse_ffi.proofs.calls.image_of.Goals as goal

pub returns-clause-fault : goal.returns-clause-fault
returns-clause-fault c = inr (record {
  dictionary = c.in_ok-dictionary.dictionary;
  read = c.in_ok-dictionary.ensures.read;
  error = c.in-Err.error;
  first = c.in-Err.ensures.fault;
  tells = c.fault_at.ensures;
})
