use Rattle.std.specs.Prelude.{Option, Some, None}
use Rattle.std.proofs.Common.{◌≡◌, true, refl, ap, ◌∙◌, sym}
use Rattle.std.proofs.lemmas.Bool.{false≢true}
use Rattle.cse_logic_tree.specs.Typed.{Tree}
use Rattle.cse_logic_names.specs.Walk.{is_there}
use Rattle.cse_types.proofs.Truths.{none, empty_where_none}
use Rattle.cse_types.specs.JudgeTree.{typed_of}
use Rattle.cse_types.proofs.JudgedTrees.{typed_right, typed_only}
use Rattle.cse_types.proofs.SourcesTold.{source_told}
use Rattle.cse_types.proofs.judged_laws.unsound_sources_have_faults.Goals as goal

the_one : (o : Option Tree) → is_there o ≡ true → (t : Tree) × (o ≡ Some t)
the_one None h = absurd (false≢true h)
the_one (Some t) h = (t, refl)

pub returns : goal.returns
returns c = record {
  no_fault_where_sound = λ d messages x t h. empty_where_none _ (sym (source_told d messages x) ∙ ap is_there (typed_only d messages x t h));
  sound_where_no_fault = λ d messages x h.
      let found = the_one (typed_of d messages x) (source_told d messages x ∙ ap none h) in
      (found.0, typed_right d messages x found.0 found.1);
}
