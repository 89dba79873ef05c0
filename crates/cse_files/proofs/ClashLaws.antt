-- Files of which none clashes with one before it.
use Rattle.std.proofs.Common.{◌≡◌, ◌∙◌, ap, sym, ℕ, List, Option, None, Some, take, length, slice_index_or, ◌<◌, ◌≤◌, ◌+◌, ⊎_elim, arith}
use Rattle.std.proofs.lemmas.Bool.{cases_lt}
use Rattle.std.proofs.lemmas.List.{get_or_default}
use Rattle.cse_files.specs.declared.clashing.Named.{Named}
use Rattle.std.proofs.lemmas.List.{length-take}
use Rattle.std.proofs.lemmas.List.Quantifiers.{position-Some}
use Rattle.cse_files.specs.Clashes.{clash_before, clashes}

same_at_other_default : (files : List Named) (i : ℕ) (d e : Named) (answer : Option ℕ) → i < length files
    → answer ≡ clash_before (take i files) (slice_index_or files i d) → answer ≡ clash_before (take i files) (slice_index_or files i e)
same_at_other_default files i d e answer below is = is ∙ ap (λ file. clash_before (take i files) file) (get_or_default files i d e below)

pub answer_at : (files : List Named) (i : ℕ) (d e : Named) (answer other : Option ℕ) → i < length files → answer ≡ other
    → answer ≡ clash_before (take i files) (slice_index_or files i d) → clash_before (take i files) (slice_index_or files i e) ≡ other
answer_at files i d e answer other below is found = sym (same_at_other_default files i d e answer below found) ∙ is

pub answer_within : (files : List Named) (i : ℕ) (e : Named) (answer : Option ℕ) (n : ℕ) → i < length files → answer ≡ Some n
    → answer ≡ clash_before (take i files) (slice_index_or files i e) → (n < i) × (i < length files)
answer_within files i e answer n below is found =
    let at = (position-Some (λ other. clashes other (slice_index_or files i e)) (take i files) n e (sym found ∙ is)).0 in
    let many = length-take i files in
    (omega (arith, at, many, below), below)

pub none_to_next : (files : List Named) (i : ℕ) (d : Named) (answer : Option ℕ) → i < length files → answer ≡ None
    → answer ≡ clash_before (take i files) (slice_index_or files i d)
    → ((e : Named) (n : ℕ) → n < i → clash_before (take n files) (slice_index_or files n e) ≡ None)
    → (e : Named) (n : ℕ) → n < i + 1 → clash_before (take n files) (slice_index_or files n e) ≡ None
none_to_next files i d answer below is found before e n less =
    ⊎_elim (λ (lower : n < i). before e n lower)
    (λ (l : i ≤ n).
    let same : n ≡ i = omega arith in
    ap (λ k. clash_before (take k files) (slice_index_or files k e)) same ∙ answer_at files i d e answer None below is found) (cases_lt n i)
