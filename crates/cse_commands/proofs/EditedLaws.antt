-- What the files of a run took, by what the texts mean that its program was built to.
use Rattle.std.proofs.Common.{◌≡◌, ℕ, Bool, List, [], Option, Result, Ok, Err, subst}
use Rattle.cse_value.specs.Device.{Given}
use Rattle.cse_image.specs.Spelling.{StandFor}
use Rattle.cse_meaning.specs.Build.{IsBuilt}
use Rattle.cse_verify.specs.Verified.{VerifiedProgram}
use Rattle.cse_decks.specs.Store.{Kept, StoreFits}
use Rattle.cse_batch_parts.specs.declared.totals.Totals.{Totals}
use Rattle.cse_batch_parts.specs.RunClauses.{Contents, Failures}
use Rattle.cse_edit.specs.Edit.{IsRead, IsStartOf, devices}
use Rattle.cse_edit.specs.Laws.{BatchesMean}
use Rattle.cse_edit.proofs.Edits.{edits, stops}
use Rattle.cse_value.specs.declared.gathered.Gathered.{Gathered}
use Rattle.cse_command_parts.specs.declared.outcome.Stop.{Stop}
use Rattle.cse_commands.specs.Ran.{Tells, none_taken, unread}
use Rattle.cse_command_parts.specs.Told.{Told}
use Rattle.cse_commands.specs.declared.ran.RanFrom.{RanFrom}
use Rattle.cse_commands.specs.Edited.{EditsFrom, TellsEdit}

pub tells_edit : (v : VerifiedProgram) → BatchesMean v → (text logic messages order image : List ℕ) (decks : Option (List ℕ)) → IsRead text v.dictionary → StandFor v.image image
    → IsBuilt v.dictionary logic messages order image → (store : Kept) → IsStartOf v.image decks store → StoreFits v.image store
    → (after : Given) (taken : List ℕ → Contents) (failed : Bool → Failures) (told : Result (Totals × Gathered) Stop)
    → Tells v store after taken failed told → TellsEdit text logic messages order decks after taken failed told
tells_edit v law text logic messages order image decks read stands built store is fits after taken failed (Ok ran) tells = record {
  dictionary = v.dictionary;
  read = read;
  edits = edits v law logic messages order image stands built decks store is fits (devices unread after (none_taken []) (taken ran.1.bytes.items)) ran.0 tells;
}
tells_edit v law text logic messages order image decks read stands built store is fits after taken failed (Err stop) tells = record {
  fault = tells.fault;
  gathered = tells.gathered;
  lacked = tells.lacked;
  stops = record {
    dictionary = v.dictionary;
    read = read;
    stops =
        stops v law logic messages order image stands built decks store is fits (devices unread after (none_taken []) (taken tells.gathered)) (failed tells.lacked) tells.fault tells.stops;
  };
  tells = tells.tells;
}

-- the same texts
pub edits_same : {F : Type 0} (t : Told F) (text text' logic logic' messages messages' order order' : List ℕ) (ran : RanFrom F) → text ≡ text' → logic ≡ logic' → messages ≡ messages' → order ≡ order'
    → EditsFrom t text logic messages order ran → EditsFrom t text' logic' messages' order' ran
edits_same t text text' logic logic' messages messages' order order' ran a b c d edits =
    subst (λ (x : List ℕ). EditsFrom t x logic' messages' order' ran) a
    (subst (λ (x : List ℕ). EditsFrom t text x messages' order' ran) b
    (subst (λ (x : List ℕ). EditsFrom t text logic x order' ran) c
    (subst (λ (x : List ℕ). EditsFrom t text logic messages x ran) d edits)))
