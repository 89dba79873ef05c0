-- From texts to texts.
use Rattle.std.specs.Prelude.{◌≡◌, ℕ, Bool, true, List, ◌++◌}
use Rattle.cse_image.specs.Spelling.{StandFor}
use Rattle.cse_case.specs.Line.{FileLine}
use Rattle.cse_case.specs.Runs.{given_runs}
use Rattle.cse_logic_tree.specs.Typed.{Tree}
use Rattle.cse_verify.specs.Verified.{VerifiedProgram}
use Rattle.cse_decks.specs.Loading.{loaded}
use Rattle.cse_decks.specs.Store.{Kept, StoreFits, first_kept}
use Rattle.cse_batch_parts.specs.Batch.{after_runs, batch, begun}
use Rattle.cse_meaning.specs.Build.{IsBuilt}
use Rattle.cse_edit.specs.Logic.{after_runs_meant, batch_meant, begun_meant, first_meant, loaded_meant}

-- The batch of a program is what the logic means, folded over the data: whatever bytes it reads, to their end or not, from whatever store that
-- fits; and so are the lines that it has written after some of the runs. What a new run keeps is what the declarations say, and a deck text
-- says the same of both.
pub record IsMeant (v : VerifiedProgram) (t : Tree) (named : List ℕ) : Type 0 where
  pub batch_is : (store : Kept) (bytes : List ℕ) (ended : Bool) → StoreFits v.image store → batch v store bytes ended ≡ batch_meant v.dictionary t named store bytes ended
  pub runs_are : (store : Kept) (bytes : List ℕ) (ended : Bool) (runs more : List (List FileLine)) → StoreFits v.image store
      → given_runs v.dictionary true ended bytes ≡ runs ++ more
      → after_runs v (begun v store) runs ≡ after_runs_meant v.dictionary t named (begun_meant v.dictionary t store) runs
  pub first_is : first_kept v.image ≡ first_meant t
  pub loaded_is : (text : List ℕ) → loaded v.image text ≡ loaded_meant t text

-- So it is of a program that three texts are built to, where it was read from the image, or from one of the version before that stands for it.
abbrev pub BatchesMean : VerifiedProgram → Type 0
BatchesMean v = (logic messages order image : List ℕ) → StandFor v.image image → (built : IsBuilt v.dictionary logic messages order image)
    → IsMeant v built.texts.tree built.texts.named
