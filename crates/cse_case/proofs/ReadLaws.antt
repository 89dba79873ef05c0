-- Laws of reading cases.
use Rattle.std.proofs.Common.{◌≡◌, ℕ, ◌+◌, ◌<◌, List, [], ◌++◌, length, Bool, Option, Some, Ok, ap, sym, ◌∙◌, subst}
use Rattle.cse_value.specs.Device.{Given}
use Rattle.cse_dict.specs.Dictionary.{DictionaryText}
use Rattle.cse_case.specs.declared.error.DataError.{DataError}
use Rattle.cse_case.specs.NamedColumns.{ids_of}
use Rattle.cse_case.specs.Run.{RunText, line_at, run_text}
use Rattle.cse_case.specs.Reader.{ReaderText, GivesRun, Next, held_of, is_front}
use Rattle.cse_case.specs.Case.{CaseText}
use Rattle.cse_case.specs.Fit.{IsFit, line_width}
use Rattle.cse_case.specs.Reading.{NextCase}
use Rattle.cse_case.proofs.FitLaws.{fits_read}

-- the case of a run that is given fits
case_fits : (d source : DictionaryText) (bytes held : List ℕ) (front ended : Bool) (number : ℕ) (run : RunText) (ids : List ℕ) → GivesRun d bytes held front ended number run → d ≡ source
    → IsFit (record { dictionary = source; ids = ids; run = run })
case_fits d source bytes held front ended number run ids gives same =
    let is : run ≡ run_text source number gives.lines = gives.is ∙ ap (λ x. run_text x number gives.lines) same in
    subst (λ (r : RunText). IsFit (record { dictionary = source; ids = ids; run = r })) (sym is) (fits_read source ids number gives.lines gives.some)

-- and the lines of the run have their widths
pub run_wide : (d source : DictionaryText) (bytes held : List ℕ) (front ended : Bool) (number : ℕ) (run : RunText) → GivesRun d bytes held front ended number run → d ≡ source
    → (place : ℕ) → place < length run.lines → length (line_at run place).columns ≡ line_width source (line_at run place)
run_wide d source bytes held front ended number run gives same = (case_fits d source bytes held front ended number run [] gives same).widths

of_run : RunText → DictionaryText → CaseText
of_run run d = record { dictionary = d; ids = ids_of d (line_at run 0).columns; run = run }

of_run_in : DictionaryText → RunText → CaseText
of_run_in d run = of_run run d

-- a run that is given is given as its case
pub next_case : (before after : Given) (old new : ReaderText) (e e' : Option DataError) (run : RunText) (c : CaseText) (source : DictionaryText) → Next before after old new (Ok (Some run))
    → old.dictionary ≡ source → c ≡ record { dictionary = source; ids = ids_of source (line_at run 0).columns; run = run }
    → NextCase before after (record old { error = e }) (record new { error = e' }) (Ok (Some c))
unfolding of_run of_run_in
next_case before after old new e e' run c source n same is =
    let made : CaseText = record { dictionary = source; ids = ids_of source (line_at run 0).columns; run = run } in
    subst (λ (x : CaseText). NextCase before after (record old { error = e }) (record new { error = e' }) (Ok (Some x))) (sym is) (record {
      taken = n.taken;
      consumes = n.consumes;
      rises = n.rises;
      counted = n.counted;
      stays = n.stays;
      dictionary = n.dictionary;
      lines = n.lines;
      answers = record {
        run = n.answers;
        is = ap (of_run run) (sym same) ∙ ap (of_run_in old.dictionary) n.answers.is;
        fits = case_fits old.dictionary source (held_of old ++ n.taken) (held_of new) (is_front old) new.ended (old.lines + 1) run made.ids n.answers same;
      };
    })
