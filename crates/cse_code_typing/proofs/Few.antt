-- Depths are small: a stack has no more values than there are stacks, and each place makes one at most.
use Rattle.std.proofs.Common.{◌≡◌, ℕ, zero, suc, ◌+◌, ◌*◌, ◌≤◌, eqb, List, [], ◌∷◌, ◌++◌, length, Option, Some, None, refl, sym, ap, ◌∙◌, subst, ⊎_elim, arith}
use Rattle.std.specs.Prelude.{slice_get}
use Rattle.std.proofs.lemmas.Bool.{cond-false, ne_eqb, cases_eq, cases_lt}
use Rattle.std.proofs.lemmas.List.{length_push}
use Rattle.std.proofs.lemmas.Option.{same_Some, slice_get_within}
use Rattle.cse_lemmas.proofs.Lists.{slice_get_push}
use Rattle.cse_code_typing.specs.declared.kind.Kind.{Kind}
use Rattle.cse_code_typing.specs.declared.kind.Kind.TheVariants.{Number, Text, Index, Occurrence}
use Rattle.cse_code_typing.specs.declared.depth.Depth.{Depth}
use Rattle.cse_code_typing.specs.declared.piles.PileEntry.{PileEntry}
use Rattle.cse_code_typing.specs.Piles.{stack_of}
use Rattle.cse_code_typing.specs.Depth.{no_depth, ◌⊕◌, greater, one_of, count_of, or_none, depth_at, most_kept, IsAtMost, KeepFew}
use Rattle.cse_code_typing.proofs.PileLaws.{newest}

pub none_few : (n : ℕ) → IsAtMost n no_depth
none_few n = (omega arith, omega arith, omega arith)

pub one_few : (k : Kind) → IsAtMost 1 (one_of k)
one_few Number = (omega arith, omega arith, omega arith)
one_few Text = (omega arith, omega arith, omega arith)
one_few (Index n) = (omega arith, omega arith, omega arith)
one_few (Occurrence r) = (omega arith, omega arith, omega arith)

pub counted_few : (k : Kind) (d : Depth) → d ≡ one_of k → IsAtMost 1 d
counted_few k d is = subst (IsAtMost 1) (sym is) (one_few k)

pub more_few : (d : Depth) (m n : ℕ) → m ≤ n → IsAtMost m d → IsAtMost n d
more_few d m n le few = (omega arith, omega arith, omega arith)

pub sum_few : (a b d : Depth) (m n : ℕ) → d ≡ a ⊕ b → IsAtMost m a → IsAtMost n b → IsAtMost (m + n) d
sum_few a b d m n is p q = subst (IsAtMost (m + n)) (sym is) (omega arith, omega arith, omega arith)

pub greater_few : (a b d : Depth) (n : ℕ) → d ≡ greater a b → IsAtMost n a → IsAtMost n b → IsAtMost n d
greater_few a b d n is p q = subst (IsAtMost n) (sym is) (omega arith, omega arith, omega arith)

pub count_few : (kinds : List Kind) → IsAtMost (length kinds) (count_of kinds)
count_few [] = none_few 0
count_few (k ∷ kinds) =
    more_few (one_of k ⊕ count_of kinds) (1 + length kinds) (length (k ∷ kinds)) (omega arith)
    (sum_few (one_of k) (count_of kinds) (one_of k ⊕ count_of kinds) 1 (length kinds) refl (one_few k) (count_few kinds))

-- ---- stacks by number

other_stack : (e : PileEntry) (older : List PileEntry) (n : ℕ) → (n ≡ length older + 1 → ⊥) → stack_of (e ∷ older) n ≡ stack_of older n
unfolding stack_of
other_stack e older n ne = cond-false (eqb n (length older + 1)) _ _ (ne_eqb n (length older + 1) ne)

no_stack : (n : ℕ) → stack_of [] n ≡ []
unfolding stack_of
no_stack n = refl

stack_short : (table : List PileEntry) (n : ℕ) → length (stack_of table n) ≤ length table
stack_short [] n = let is = ap (λ (l : List Kind). length l) (no_stack n) in omega arith
stack_short (e ∷ older) n =
    ⊎_elim
    (λ (same : n ≡ length older + 1).
    let is = ap (λ (l : List Kind). length l) (newest e older n same) in
    let ih = stack_short older e.below in
    omega arith)
    (λ (ne : n ≡ length older + 1 → ⊥).
    let is = ap (λ (l : List Kind). length l) (other_stack e older n ne) in
    let ih = stack_short older n in
    omega arith)
    (cases_eq n (length older + 1))

pub pile_few : (table : List PileEntry) (n : ℕ) (d : Depth) → d ≡ count_of (stack_of table n) → IsAtMost (length table) d
pile_few table n d is =
    subst (IsAtMost (length table)) (sym is)
    (more_few (count_of (stack_of table n)) (length (stack_of table n)) (length table) (stack_short table n) (count_few (stack_of table n)))

-- ---- tables of depths

by_option : (o : Option Depth) (n : ℕ) → ((d : Depth) → o ≡ Some d → IsAtMost n d) → IsAtMost n (or_none o)
by_option None n few = none_few n
by_option (Some d) n few = few d refl

pub entry_few : (depths : List Depth) (r : ℕ) (d : Depth) → KeepFew depths → d ≡ depth_at depths r → IsAtMost (most_kept * length depths) d
entry_few depths r d few is = subst (IsAtMost (most_kept * length depths)) (sym is) (by_option (slice_get depths r) (most_kept * length depths) (few r))

pub none_kept : KeepFew []
none_kept r d at = cc

at_left : {X : Type 0} (xs ys : List X) (i : ℕ) → i ≤ length xs → (i ≡ length xs → ⊥) → slice_get (xs ++ ys) i ≡ slice_get xs i
at_left [] ys i le ne = absurd (ne (omega arith))
at_left (x ∷ xs) ys zero le ne = refl
at_left (x ∷ xs) ys (suc i) le ne = at_left xs ys i (omega arith) (λ e. ne (omega arith))

pub few_more : (depths next : List Depth) (d : Depth) → KeepFew depths → IsAtMost (most_kept * (length depths + 1)) d → next ≡ depths ++ d ∷ [] → KeepFew next
few_more depths next d few small pushed r e at =
    let told : slice_get (depths ++ d ∷ []) r ≡ Some e = ap (λ (l : List Depth). slice_get l r) (sym pushed) ∙ at in
    let lt = slice_get_within (depths ++ d ∷ []) r e told in
    let len = length_push depths d in
    let count : length next ≡ length depths + 1 = ap (λ (l : List Depth). length l) pushed ∙ len in
    ⊎_elim
    (λ (last : r ≡ length depths).
    let same : d ≡ e = same_Some d e (sym (slice_get_push depths d r last) ∙ told) in
    subst (IsAtMost (most_kept * length next)) same (more_few d (most_kept * (length depths + 1)) (most_kept * length next) (omega arith) small))
    (λ (ne : r ≡ length depths → ⊥).
    more_few e (most_kept * length depths) (most_kept * length next) (omega arith)
    (few r e (sym (at_left depths (d ∷ []) r (omega arith) ne) ∙ told)))
    (cases_eq r (length depths))
