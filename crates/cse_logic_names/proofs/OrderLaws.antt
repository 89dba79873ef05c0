-- Order files, line by line.
use Rattle.std.proofs.Common.{◌≡◌, ◌⊎◌, inl, inr, ◌≤◌, ◌<◌, ◌+◌, suc, ℕ, Bool, true, false, List, [], ◌∷◌, ◌++◌, length, refl, sym, ap, ◌∙◌, subst, arith, Some, None}
use Rattle.std.specs.Prelude.{Result, Ok, Err, IfOk, map, nat_eq, ◌||◌, unwrap_or, Option, is_some, if◌then◌else◌}
use Rattle.std.specs.List.{filter, list_any, IsDistinct, AllByRecursion}
use Rattle.std.proofs.lemmas.List.{map-append, append-nil, length_push}
use Rattle.std.proofs.lemmas.List.Elements.{filter-append}
use Rattle.std.proofs.lemmas.Bool.{true≢false}
use Rattle.cse_dict.specs.Dictionary.{DictionaryText}
use Rattle.cse_sections.specs.Sections.{lines_of}
use Rattle.cse_sections.proofs.SectionLaws.{no_lines}
use Rattle.cse_logic_names.specs.declared.error.TypeError.{TypeError}
use Rattle.cse_logic_names.specs.declared.error.FileStop.{FileStop}
use Rattle.cse_logic_names.specs.declared.error.FileStop.TheVariants.{Memory, Fault}
use Rattle.cse_logic_names.specs.Fault.{at_line, error_of, out_of_memory}
use Rattle.cse_logic_names.specs.OrderFile.{IsOrder, IsOrderOf, ReadsOrder, FirstFaulty, TakesRecord, is_there, order_line, record_in, with_record}

-- ---- one line more

-- the lines that aren't empty, and the records that they name
abbrev named : DictionaryText → List (List ℕ) → List (Option ℕ)
named d lines = map (record_in d) (filter is_there lines)

named_both : (d : DictionaryText) (before after : List (List ℕ)) → named d (before ++ after) ≡ named d before ++ named d after
named_both d before after = ap (map (record_in d)) (filter-append is_there before after) ∙ map-append (record_in d) (filter is_there before) (filter is_there after)

named_first : (d : DictionaryText) (line : List ℕ) (more : List (List ℕ)) → is_there line ≡ true → named d (line ∷ more) ≡ record_in d line ∷ named d more
named_first d line more e = rw e refl

named_empty : (d : DictionaryText) (line : List ℕ) (more : List (List ℕ)) → is_there line ≡ false → named d (line ∷ more) ≡ named d more
named_empty d line more e = rw e refl

joined : {X : Type 0} (xs : List X) (x : X) (ys : List X) → xs ++ x ∷ ys ≡ (xs ++ x ∷ []) ++ ys
joined [] x ys = refl
joined (z ∷ xs) x ys = ap (λ l. z ∷ l) (joined xs x ys)

-- ---- distinct records

all_after : (x r : ℕ) (found : List ℕ) → AllByRecursion (λ y. nat_eq x y ≡ false) found → nat_eq x r ≡ false → AllByRecursion (λ y. nat_eq x y ≡ false) (found ++ r ∷ [])
all_after x r [] k e = (e, tt)
all_after x r (y ∷ ys) k e = (k.0, all_after x r ys k.1 e)

distinct_after : (r : ℕ) (found : List ℕ) → IsDistinct nat_eq found → list_any (λ x. nat_eq x r) found ≡ false → IsDistinct nat_eq (found ++ r ∷ [])
unfolding IsDistinct
distinct_after r [] k h = (tt, tt)
distinct_after r (x ∷ found) k h = by (distinct_after r found k.1) (nat_eq x r) refl
  where
    by : (list_any (λ y. nat_eq y r) found ≡ false → IsDistinct nat_eq (found ++ r ∷ [])) → (b : Bool) → nat_eq x r ≡ b → IsDistinct nat_eq ((x ∷ found) ++ r ∷ [])
    by rest true e = absurd (true≢false (sym (ap (λ (b : Bool). b || list_any (λ y. nat_eq y r) found) e) ∙ h))
    by rest false e = (all_after x r found k.0 e, rest (sym (ap (λ (b : Bool). b || list_any (λ y. nat_eq y r) found) e) ∙ h))

none_equal : (x r : ℕ) (found more : List ℕ) → AllByRecursion (λ y. nat_eq x y ≡ false) (found ++ r ∷ more) → nat_eq x r ≡ false
none_equal x r [] more k = k.0
none_equal x r (y ∷ ys) more k = none_equal x r ys more k.1

-- a record that stands there again
not_distinct : (r : ℕ) (found more : List ℕ) → list_any (λ x. nat_eq x r) found ≡ true → IsDistinct nat_eq (found ++ r ∷ more) → ⊥
unfolding IsDistinct
not_distinct r [] more h k = true≢false (sym h)
not_distinct r (x ∷ found) more h k = by (λ again. not_distinct r found more again k.1) (nat_eq x r) refl
  where
    by : (list_any (λ y. nat_eq y r) found ≡ true → ⊥) → (b : Bool) → nat_eq x r ≡ b → ⊥
    by rest true e = true≢false (sym e ∙ none_equal x r found more k.0)
    by rest false e = rest (sym (ap (λ (b : Bool). b || list_any (λ y. nat_eq y r) found) e) ∙ h)

-- ---- what follows the records so far

record Follows (o : Option ℕ) (found others : List ℕ) : Type 0 where
  r : ℕ
  more : List ℕ
  first : o ≡ Some r
  all : others ≡ found ++ r ∷ more

head_of : Option ℕ → List (Option ℕ) → Option ℕ
head_of d [] = d
head_of d (o ∷ os) = o

tail_of : List (Option ℕ) → List (Option ℕ)
tail_of [] = []
tail_of (o ∷ os) = os

follows : (o : Option ℕ) (rest : List (Option ℕ)) (found others : List ℕ) → map Some found ++ o ∷ rest ≡ map Some others → Follows o found others
unfolding head_of tail_of
follows o rest [] [] e = absurd cc
follows o rest [] (r ∷ more) e = record { r = r; more = more; first = ap (head_of o) e; all = refl }
follows o rest (x ∷ found) [] e = absurd cc
follows o rest (x ∷ found) (y ∷ others) e =
    let k : Follows o found others = follows o rest found others (ap tail_of e) in
    let same : y ≡ x = ap (λ (p : Option ℕ). unwrap_or p x) (sym (ap (head_of None) e)) in
    record { r = k.r; more = k.more; first = k.first; all = ap (λ l. y ∷ l) k.all ∙ ap (λ n. n ∷ found ++ k.r ∷ k.more) same }

-- ---- one line more

module _ (d : DictionaryText) (before : List (List ℕ)) (found : List ℕ) (line : List ℕ) (is : IsOrder d before found) where
  -- what is named when the line stands behind
  abbrev picks : Bool → Option (List ℕ)
  picks b = if b then with_record found (record_in d line) else Some found

  empty_on : is_there line ≡ false → IsOrder d (before ++ line ∷ []) found
  empty_on e = record {
    named = named_both d before (line ∷ []) ∙ ap (λ l. named d before ++ l) (named_empty d line [] e) ∙ append-nil (named d before) ∙ is.named;
    once = is.once;
  }

  record_on : (r : ℕ) → is_there line ≡ true → record_in d line ≡ Some r → list_any (λ x. nat_eq x r) found ≡ false → IsOrder d (before ++ line ∷ []) (found ++ r ∷ [])
  record_on r e o n = record {
    named = named_both d before (line ∷ []) ∙ ap (λ l. named d before ++ l) (named_first d line [] e) ∙ ap (λ l. l ++ record_in d line ∷ []) is.named
        ∙ ap (λ p. map Some found ++ p ∷ []) o ∙ sym (map-append Some found (r ∷ []));
    once = distinct_after r found is.once n;
  }

  what_follows : is_there line ≡ true → (more : List (List ℕ)) (others : List ℕ) → IsOrder d (before ++ line ∷ more) others → Follows (record_in d line) found others
  what_follows e more others k = follows (record_in d line) (named d more) found others
      (ap (λ l. l ++ record_in d line ∷ named d more) (sym is.named)
      ∙ sym (named_both d before (line ∷ more) ∙ ap (λ l. named d before ++ l) (named_first d line more e))
      ∙ k.named)

  no_record : is_there line ≡ true → record_in d line ≡ None → (more : List (List ℕ)) (others : List ℕ) → IsOrder d (before ++ line ∷ more) others → ⊥
  no_record e o more others k = true≢false (sym (ap is_some (sym o ∙ (what_follows e more others k).first)))

  named_before : (r : ℕ) → is_there line ≡ true → record_in d line ≡ Some r → list_any (λ x. nat_eq x r) found ≡ true
      → (more : List (List ℕ)) (others : List ℕ) → IsOrder d (before ++ line ∷ more) others → ⊥
  named_before r e o n more others k =
      let w : Follows (record_in d line) found others = what_follows e more others k in
      let same : w.r ≡ r = ap (λ (p : Option ℕ). unwrap_or p r) (sym w.first ∙ o) in
      not_distinct r found w.more n (subst (IsDistinct nat_eq) (w.all ∙ ap (λ x. found ++ x ∷ w.more) same) k.once)

  -- the line is taken
  order_on : (new : List ℕ) → order_line d found line ≡ Some new → IsOrder d (before ++ line ∷ []) new
  unfolding order_line
  order_on new h = by_there (is_there line) refl
    where
      by_any : (r : ℕ) → is_there line ≡ true → record_in d line ≡ Some r → (b : Bool) → list_any (λ x. nat_eq x r) found ≡ b
          → (if b then None else Some (found ++ r ∷ [])) ≡ Some new → IsOrder d (before ++ line ∷ []) new
      by_any r e o true n k = absurd cc
      by_any r e o false n k = subst (IsOrder d (before ++ line ∷ [])) (ap (λ (p : Option (List ℕ)). unwrap_or p found) k) (record_on r e o n)

      by_record : is_there line ≡ true → (p : Option ℕ) → record_in d line ≡ p → with_record found p ≡ Some new → IsOrder d (before ++ line ∷ []) new
      by_record e None o k = absurd cc
      by_record e (Some r) o k = by_any r e o (list_any (λ x. nat_eq x r) found) refl k

      by_there : (b : Bool) → is_there line ≡ b → IsOrder d (before ++ line ∷ []) new
      by_there false e = subst (IsOrder d (before ++ line ∷ [])) (ap (λ (p : Option (List ℕ)). unwrap_or p found) (sym (ap picks e) ∙ h)) (empty_on e)
      by_there true e = by_record e (record_in d line) refl (sym (ap picks e) ∙ h)

  -- no order file begins with it
  order_off : order_line d found line ≡ None → (more : List (List ℕ)) (others : List ℕ) → IsOrder d (before ++ line ∷ more) others → ⊥
  unfolding order_line
  order_off h more others k = by_there (is_there line) refl
    where
      by_any : (r : ℕ) → is_there line ≡ true → record_in d line ≡ Some r → (b : Bool) → list_any (λ x. nat_eq x r) found ≡ b
          → (if b then None else Some (found ++ r ∷ [])) ≡ None → ⊥
      by_any r e o true n g = named_before r e o n more others k
      by_any r e o false n g = cc

      by_record : is_there line ≡ true → (p : Option ℕ) → record_in d line ≡ p → with_record found p ≡ None → ⊥
      by_record e None o g = no_record e o more others k
      by_record e (Some r) o g = by_any r e o (list_any (λ x. nat_eq x r) found) refl g

      by_there : (b : Bool) → is_there line ≡ b → ⊥
      by_there false e = true≢false (ap is_some (sym (ap picks e) ∙ h))
      by_there true e = by_record e (record_in d line) refl (sym (ap picks e) ∙ h)

-- ---- all lines

-- the lines of a text that were read, and those that are left
pub record Cut (d : DictionaryText) (found : List ℕ) (number : ℕ) (rest text : List ℕ) : Type 0 where
  pub before : List (List ℕ)
  pub lines_are : lines_of text ≡ before ++ lines_of rest
  pub number_is : number ≡ length before
  pub fine : IsOrder d before found
  pub room : number + length rest ≤ length text

pub cut_first : (d : DictionaryText) (text : List ℕ) → Cut d [] 0 text text
unfolding IsDistinct
cut_first d text = record { before = []; lines_are = refl; number_is = refl; fine = record { named = refl; once = tt }; room = omega arith }

pub cut_on : (d : DictionaryText) (found new : List ℕ) (number : ℕ) (rest text line more : List ℕ) → Cut d found number rest text
    → lines_of rest ≡ line ∷ lines_of more → length more < length rest → order_line d found line ≡ Some new → Cut d new (number + 1) more text
cut_on d found new number rest text line more c l s h = record {
  before = c.before ++ line ∷ [];
  lines_are = c.lines_are ∙ ap (λ ls. c.before ++ ls) l ∙ joined c.before line (lines_of more);
  number_is = ap (λ n. n + 1) c.number_is ∙ sym (length_push c.before line);
  fine = order_on d c.before found line c.fine new h;
  room = let r : number + length rest ≤ length text = c.room in omega (arith, r, s);
}

pub cut_off : (d : DictionaryText) (found : List ℕ) (number : ℕ) (rest text line more : List ℕ) → Cut d found number rest text
    → lines_of rest ≡ line ∷ lines_of more → order_line d found line ≡ None → FirstFaulty d (lines_of text) (number + 1)
cut_off d found number rest text line more c l h = record {
  before = c.before;
  faulty = line;
  after = lines_of more;
  lines_are = c.lines_are ∙ ap (λ ls. c.before ++ ls) l;
  number_is = ap (λ n. n + 1) c.number_is;
  records = found;
  fine = c.fine;
  wrong = order_off d c.before found line c.fine h;
}

pub cut_last : (d : DictionaryText) (found : List ℕ) (number : ℕ) (rest text : List ℕ) → Cut d found number rest text → length rest ≡ 0 → IsOrder d (lines_of text) found
cut_last d found number [] text c e = subst (λ ls. IsOrder d ls found) (sym (c.lines_are ∙ ap (λ ls. c.before ++ ls) no_lines ∙ append-nil c.before)) c.fine
cut_last d found number (b ∷ rest) text c e = absurd (omega (arith, e))

-- the fault that is told
pub cut_told : (d : DictionaryText) (found new : List ℕ) (number : ℕ) (rest text line more : List ℕ) (stop : FileStop) (e : TypeError) → Cut d found number rest text
    → lines_of rest ≡ line ∷ lines_of more → TakesRecord (Err stop) found new d line → e ≡ error_of stop (number + 1)
    → (e ≡ out_of_memory) ⊎ ((e ≡ at_line 40 e.line) × FirstFaulty d (lines_of text) e.line)
cut_told d found new number rest text line more Memory e c l k s = inl s
cut_told d found new number rest text line more (Fault n) e c l k s =
    let here : e.line ≡ number + 1 = ap (λ (x : TypeError). x.line) s in
    inr (s ∙ ap (λ m. at_line m (number + 1)) k.0 ∙ ap (at_line 40) (sym here), subst (FirstFaulty d (lines_of text)) (sym here) (cut_off d found number rest text line more c l k.1))

pub ordered : (d : DictionaryText) (r : Result (List ℕ) TypeError) (lines : List (List ℕ)) → ReadsOrder d r lines → IfOk r (λ records. IsOrderOf d records)
ordered d (Ok records) lines h = (lines, h)
ordered d (Err e) lines h = tt
