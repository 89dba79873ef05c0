-- The texts of batches over more and more runs.
use Rattle.std.proofs.Common.{◌≡◌, ℕ, Bool, true, false, List, [], ◌∷◌, ◌++◌, Option, Some, None, refl, sym, ap, ◌∙◌, subst, append_assoc, append-nil}
use Rattle.std.specs.Prelude.{not, is_some, ◌&&◌}
use Rattle.cse_image_parts.specs.Image.{MessageLists}
use Rattle.cse_image_parts.specs.declared.entries.EventCode.{EventCode}
use Rattle.cse_image_parts.specs.declared.entries.EventCode.TheVariants.{ApplicationPostproc}
use Rattle.cse_case.specs.Line.{FileLine}
use Rattle.cse_case.specs.Runs.{given_runs, fault_in}
use Rattle.cse_verify.specs.Verified.{VerifiedProgram}
use Rattle.cse_decks.specs.Store.{Kept}
use Rattle.cse_report.specs.Listing.{Report, first_line, lines_from}
use Rattle.cse_report.specs.Unended.{Begins, unended}
use Rattle.cse_report.proofs.ToldLaws.{grows}
use Rattle.cse_batch_parts.specs.declared.totals.Totals.{Totals}
use Rattle.cse_batch_parts.specs.Totals.{totals_of}
use Rattle.cse_batch_parts.specs.Batch.{Batch, Progress, after_application, after_run, after_runs, batch, begun, is_whole, stopped, told_after, whole}
use Rattle.cse_batch_parts.specs.Laws.{FrontsStay}

-- runs in two parts
pub runs_later : (v : VerifiedProgram) (p : Progress) (runs more : List (List FileLine)) → after_runs v p (runs ++ more) ≡ after_runs v (after_runs v p runs) more
runs_later v p [] more = refl
runs_later v p (run ∷ runs) more = runs_later v (after_run v p run) runs more

-- what was written and reported stands at the front of what is later
pub record IsBefore (p q : Progress) : Type 0 where
  pub written : List ℕ
  pub out : q.out ≡ p.out ++ written
  pub told : List Report
  pub reports : q.reports ≡ p.reports ++ told

before_same : (p : Progress) → IsBefore p p
before_same p = record { written = []; out = sym (append-nil p.out); told = []; reports = sym (append-nil p.reports) }

before_then : (p q r : Progress) → IsBefore p q → IsBefore q r → IsBefore p r
before_then p q r a b = record {
  written = a.written ++ b.written;
  out = b.out ∙ (ap (λ l. l ++ b.written) a.out ∙ append_assoc p.out a.written b.written);
  told = a.told ++ b.told;
  reports = b.reports ∙ (ap (λ l. l ++ b.told) a.reports ∙ append_assoc p.reports a.told b.told);
}

before_run : (v : VerifiedProgram) (p : Progress) (run : List FileLine) → IsBefore p (after_run v p run)
unfolding after_run
before_run v p run = record { written = _; out = refl; told = _; reports = refl }

before_application : (v : VerifiedProgram) (code : EventCode) (p : Progress) → IsBefore p (after_application v code p)
unfolding after_application
before_application v code p = record { written = []; out = sym (append-nil p.out); told = _; reports = refl }

pub before_runs : (v : VerifiedProgram) (p : Progress) (runs : List (List FileLine)) → IsBefore p (after_runs v p runs)
before_runs v p [] = before_same p
before_runs v p (run ∷ runs) = before_then p (after_run v p run) (after_runs v (after_run v p run) runs) (before_run v p run) (before_runs v (after_run v p run) runs)

-- ---- texts

begins_then : (a b more : List ℕ) → Begins a b → Begins a (b ++ more)
begins_then a b more g = record { rest = g.rest ++ more; is = ap (λ l. l ++ more) g.is ∙ append_assoc a g.rest more }

unended_before : (m : List MessageLists) (rs more all : List Report) → all ≡ rs ++ more → Begins (unended m rs) (unended m all)
unended_before m rs more all e =
    let g = grows m [] rs more in
    record { rest = g.rest; is = ap (unended m) e ∙ (ap (λ (l : List ℕ). first_line ++ l) g.is ∙ sym (append_assoc first_line (lines_from m [] rs) g.rest)) }

-- the texts of a batch that has come so far begin with what was written and listed before
record HasFrontAt (v : VerifiedProgram) (p : Progress) (b : Batch) : Type 0 where
  out : Begins p.out b.out
  listing : Begins (unended v.image.lists.messages p.reports) b.listing

front_at : (v : VerifiedProgram) (ends : Bool) (p q : Progress) (n : Totals) → IsBefore p q → HasFrontAt v p (told_after v ends q n)
unfolding stopped whole
front_at v false p q n before = record {
  out = record { rest = before.written; is = before.out };
  listing = unended_before v.image.lists.messages p.reports before.told q.reports before.reports;
}
front_at v true p q n before =
    let r = after_application v ApplicationPostproc q in
    let all = before_then p q r before (before_application v ApplicationPostproc q) in
    record {
      out = record { rest = all.written; is = all.out };
      listing = begins_then _ _ _ (unended_before v.image.lists.messages p.reports all.told r.reports all.reports);
    }

pub fronts_stay : FrontsStay
unfolding batch
fronts_stay v store bytes ended runs more e =
    let first = begun v store in
    let p = after_runs v first runs in
    let is : after_runs v first (given_runs v.dictionary true ended bytes) ≡ after_runs v p more = ap (after_runs v first) e ∙ runs_later v first runs more in
    let g = front_at v (is_whole v.dictionary ended bytes) p (after_runs v first (given_runs v.dictionary true ended bytes)) (totals_of v.dictionary (given_runs v.dictionary true ended bytes))
    (subst (IsBefore p) (sym is) (before_runs v p more)) in
    record { out = g.out; listing = g.listing }

-- ---- where it was stopped, and where it went to the end

batch_is : (v : VerifiedProgram) (store : Kept) (bytes : List ℕ) (ended ends : Bool) (runs : List (List FileLine)) → is_whole v.dictionary ended bytes ≡ ends → given_runs v.dictionary true ended bytes ≡ runs
    → batch v store bytes ended ≡ told_after v ends (after_runs v (begun v store) runs) (totals_of v.dictionary runs)
unfolding batch
batch_is v store bytes ended ends runs e g =
    ap (λ b. told_after v b (after_runs v (begun v store) (given_runs v.dictionary true ended bytes)) (totals_of v.dictionary (given_runs v.dictionary true ended bytes))) e
    ∙ ap (λ rs. told_after v ends (after_runs v (begun v store) rs) (totals_of v.dictionary rs)) g

not_whole : (ended : Bool) → ended && false ≡ false
not_whole true = refl
not_whole false = refl

pub batch_faulty : (v : VerifiedProgram) (store : Kept) (bytes : List ℕ) (ended : Bool) (runs : List (List FileLine)) (f : ℕ × ℕ) → fault_in v.dictionary true ended bytes ≡ Some f → given_runs v.dictionary true ended bytes ≡ runs
    → batch v store bytes ended ≡ stopped v (after_runs v (begun v store) runs) (totals_of v.dictionary runs)
batch_faulty v store bytes ended runs f e g = batch_is v store bytes ended false runs (ap (λ (o : Option (ℕ × ℕ)). ended && not (is_some o)) e ∙ not_whole ended) g

pub batch_broken : (v : VerifiedProgram) (store : Kept) (bytes : List ℕ) (ended : Bool) (runs : List (List FileLine)) → ended ≡ false → given_runs v.dictionary true ended bytes ≡ runs
    → batch v store bytes ended ≡ stopped v (after_runs v (begun v store) runs) (totals_of v.dictionary runs)
batch_broken v store bytes ended runs e g = batch_is v store bytes ended false runs (ap (λ b. b && not (is_some (fault_in v.dictionary true ended bytes))) e) g

pub batch_whole : (v : VerifiedProgram) (store : Kept) (bytes : List ℕ) (runs : List (List FileLine)) → fault_in v.dictionary true true bytes ≡ None → given_runs v.dictionary true true bytes ≡ runs
    → batch v store bytes true ≡ whole v (after_application v ApplicationPostproc (after_runs v (begun v store) runs)) (totals_of v.dictionary runs)
batch_whole v store bytes runs e g = batch_is v store bytes true true runs (ap (λ (o : Option (ℕ × ℕ)). true && not (is_some o)) e) g
