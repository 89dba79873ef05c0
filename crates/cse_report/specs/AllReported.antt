-- Many reports, one after the other.
use Rattle.std.specs.Prelude.{◌≡◌, ℕ, List, [], ◌∷◌, ◌++◌}
use Rattle.cse_value.specs.declared.number.Num.{Num}
use Rattle.cse_report.specs.Listing.{Report}
use Rattle.cse_report.specs.Held.{Held, reported, flushed, Step, Lists, Progress, after_steps}
use Rattle.cse_report.specs.Frequency.{Table, all_imputed}

abbrev pub all_reported : Held → List Report → Held
all_reported h [] = h
all_reported h (r ∷ rs) = all_reported (reported h r) rs

-- these lines and texts stand before those that are held
abbrev pub behind : List ℕ → List (List ℕ) → Held → Held
behind lines texts h = record { messages = h.messages; counts = h.counts; heading = h.heading; lines = lines ++ h.lines; texts = texts ++ h.texts }

-- A flush between reports changes nothing but what is held: the later ones are listed behind the lines that it took.
abbrev pub FlushesBetween : Type 0
FlushesBetween = (h : Held) (rs later : List Report)
    → all_reported h (rs ++ later) ≡ behind (all_reported h rs).lines (all_reported h rs).texts (all_reported (flushed (all_reported h rs)) later)

abbrev pub as_steps : List Report → List Step
as_steps [] = []
as_steps (r ∷ rs) = Lists r ∷ as_steps rs

-- Reports without a flush between them are what they are one after the other.
abbrev pub ListsAll : Type 0
ListsAll = (p : Progress) (rs : List Report) → after_steps p (as_steps rs) ≡ record { written = p.written; held = all_reported p.held rs }

-- Imputations in two parts are what they are in one.
abbrev pub ImputesAll : Type 0
ImputesAll = (tables : List Table) (xs later : List (ℕ × Num)) → all_imputed tables (xs ++ later) ≡ all_imputed (all_imputed tables xs) later
