-- The run of a preproc, by what the calls of `try` answer.
use Rattle.std.proofs.Common.{◌≡◌, ℕ, List, [], ◌∷◌, ◌++◌, None, sym, ap, ◌∙◌, subst, append_assoc, append-nil}
use Rattle.std.specs.Prelude.{map}
use Rattle.std.proofs.lemmas.Bool.{false≢true}
use Rattle.std.proofs.lemmas.List.Concat.{flat_map-cons}
use Rattle.cse_value.specs.Device.{Appends}
use Rattle.cse_dict.specs.Dictionary.{DictionaryText, shape_of}
use Rattle.cse_verify.specs.Verified.{VerifiedProgram}
use Rattle.cse_decks.specs.Store.{Kept, StoreFits, first_kept}
use Rattle.cse_report.specs.declared.argument.Arg.{Arg}
use Rattle.cse_report.specs.declared.reports.Reports.{Reports}
use Rattle.cse_report.specs.Listing.{Gives}
use Rattle.cse_report.specs.Held.{Held, begun, reported, texts_of}
use Rattle.cse_report.specs.AllReported.{all_reported}
use Rattle.cse_steps.specs.Fits.{FitsFirst}
use Rattle.cse_steps.specs.Results.{RunsTo}
use Rattle.cse_verify.specs.Checked.{IsAccepted}
use Rattle.cse_command_parts.specs.Printed.{listed}
use Rattle.cse_command_images.specs.Tried.{Goes, Runs, empty_text, preproc, text_of, tried}
use Rattle.cse_command_parts.specs.Vetted.{IsReadAs}

-- what is held after messages: those held before, and the texts of these
all_texts : (h : Held) (given : List (ℕ × List Arg)) → (all_reported h (map (λ g. Gives g.0 g.1) given)).texts ≡ h.texts ++ listed h.messages given
all_texts h [] = sym (append-nil h.texts)
all_texts h (g ∷ given) =
    all_texts (reported h (Gives g.0 g.1)) given
    ∙ (append_assoc h.texts (texts_of h.messages (Gives g.0 g.1)) (listed h.messages given)
    ∙ ap (λ l. h.texts ++ l) (sym (flat_map-cons (λ (m : ℕ × List Arg). texts_of h.messages (Gives m.0 m.1)) g given)))

-- the application's preproc may begin
pub preproc_fits : (v : VerifiedProgram) (store : Kept) → StoreFits v.image store → FitsFirst v preproc None store
preproc_fits v store fits = record { present = λ e. absurd (false≢true (sym e)); there = tt; case_fits = tt; dictionary = tt; store_fits = fits }

-- it went so
pub goes_so : (v : VerifiedProgram) (first after : Kept) (before told : Reports) (n : ℕ) → first ≡ first_kept v.image → before.listing ≡ begun v.image.lists.messages
    → RunsTo v preproc None first before n None after told → Goes v n told.listing.texts
goes_so v first after before told n is empty ran = record {
  store = after;
  told = ran.told;
  ends = rw (← is) ran.ends;
  texts_are = ap (λ (h : Held). h.texts) (ran.tells.listing ∙ ap (λ (h : Held). all_reported h (map (λ g. Gives g.0 g.1) ran.told.given)) empty) ∙ all_texts (begun v.image.lists.messages) ran.told.given;
}

-- with the empty dictionary
abbrev pub runs_so : (bytes : List ℕ) (d : DictionaryText) (v : VerifiedProgram) (n : ℕ) (texts : List (List ℕ)) → IsReadAs empty_text d → v.dictionary ≡ d → IsAccepted (shape_of d) bytes v.image
    → Goes v n texts → Runs bytes n
runs_so bytes d v n texts read same accepted goes =
    let is : v ≡ tried v.image = ap (λ (w : DictionaryText). let x : VerifiedProgram = record { dictionary = w; image = v.image } in x) (same ∙ read.is) in
    record {
      program = v.image;
      accepted = subst (λ (w : DictionaryText). IsAccepted (shape_of w) bytes v.image) read.is accepted;
      texts = texts;
      goes = subst (λ (w : VerifiedProgram). Goes w n texts) is goes;
    }

-- the same bytes, and what was printed of these
pub trial_same : (bytes bytes' : List ℕ) (n : ℕ) (old new : List ℕ) → bytes ≡ bytes' → ((r : Runs bytes n) × Appends old new (text_of r))
    → ((r : Runs bytes' n) × Appends old new (text_of r))
trial_same bytes bytes' n old new a printed = subst (λ (x : List ℕ). (r : Runs x n) × Appends old new (text_of r)) a printed
