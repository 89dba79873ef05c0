-- What a run of a kept image writes: bytes that `build` gave, which `check_image` accepted with the same dictionary.
use Rattle.std.specs.Prelude.{◌≡◌, ℕ, Bool, List}
use Rattle.cse_dict.specs.Dictionary.{shape_of}
use Rattle.cse_logic_tree.specs.Typed.{Tree}
use Rattle.cse_verify.specs.Verified.{VerifiedProgram}
use Rattle.cse_decks.specs.Loading.{loaded}
use Rattle.cse_decks.specs.Store.{Kept, StoreFits, first_kept}
use Rattle.cse_meaning.specs.Build.{IsBuilt}
use Rattle.cse_batch_parts.specs.declared.totals.Totals.{Totals}
use Rattle.cse_batch_parts.specs.declared.totals.RunFault.{RunFault}
use Rattle.cse_verify.specs.Checked.{IsAccepted}
use Rattle.cse_batch_parts.specs.RunClauses.{Failures, RunStops, RunsWhole}
use Rattle.cse_edit.specs.Logic.{batch_meant, first_meant, loaded_meant}
use Rattle.cse_edit.specs.Edit.{Devices, RunsBatch, StopsBatch, written_meant}

-- A run of the image that ends well gave its outputs the texts of the batch that the logic means, and one that stops fronts of these, from
-- whatever store that fits; and it starts with what the declarations or a deck text say.
pub record WritesWhatIsMeant (v : VerifiedProgram) (t : Tree) (named : List ℕ) : Type 0 where
  pub whole : (store : Kept) (on : Devices) (totals : Totals) → StoreFits v.image store → RunsWhole v store on.before on.after on.old on.new totals
      → RunsBatch v.dictionary (batch_meant v.dictionary t named store) on totals
  pub stops : (store : Kept) (on : Devices) (failed : Failures) (fault : RunFault) → StoreFits v.image store
      → RunStops v store on.before on.after on.old on.new failed fault
      → StopsBatch v.dictionary (batch_meant v.dictionary t named store) (written_meant v.dictionary t named store) on failed fault
  pub first_is : first_kept v.image ≡ first_meant t
  pub loaded_is : (text : List ℕ) → loaded v.image text ≡ loaded_meant t text

abbrev pub BuiltImagesMean : VerifiedProgram → Type 0
BuiltImagesMean v = (logic messages order image : List ℕ) → IsAccepted (shape_of v.dictionary) image v.image → (built : IsBuilt v.dictionary logic messages order image)
    → WritesWhatIsMeant v built.texts.tree built.texts.named
