-- One table of words in place of one for each part of the language.
use Rattle.std.proofs.Common.{◌≡◌, ℕ, Bool, true, false, List, [], ◌∷◌, ◌++◌, map, Option, Some, None, refl, ap, ◌∙◌, cond, if◌then◌else◌, ◌||◌, length, nat_le}
use Rattle.std.specs.Option.{option_map}
use Rattle.std.specs.Str.{str_eq_ignore_ascii_case}
use Rattle.cse_syntax_tree.specs.declared.token.Kind.{Kind}
use Rattle.cse_syntax_tree.specs.declared.token.Kind.TheVariants as k
use Rattle.cse_syntax_tree.specs.declared.token.Mark.{Mark}
use Rattle.cse_syntax_tree.specs.declared.tree.Special.{Special}
use Rattle.cse_syntax_tree.specs.declared.tree.Jump.{Jump}
use Rattle.cse_syntax_tree.specs.Leaf.{looked_up, first_of, or_else, is_listed, heads, blocks, commands, values, specials, jumps, left_out, mark_of, reserved, is_left_out, word_kind}
use Rattle.cse_syntax.specs.declared.word.TheConstants.{WORDS}

-- the entries of a list, each as such a kind
abbrev of_kind : {A : Type 0} → (A → Kind) → List (List ℕ × A) → List (List ℕ × Kind)
of_kind kind [] = []
of_kind kind (entry ∷ entries) = (entry.0, kind entry.1) ∷ of_kind kind entries

-- words that are all left out
abbrev all_left_out : List (List ℕ) → List (List ℕ × Kind)
all_left_out [] = []
all_left_out (word ∷ words) = (word, k.LeftOut) ∷ all_left_out words

looked_up_joined : {A : Type 0} (xs ys : List (List ℕ × A)) (text : List ℕ) → looked_up (xs ++ ys) text ≡ first_of (looked_up xs text) (looked_up ys text)
looked_up_joined [] ys text = refl
looked_up_joined {A} (entry ∷ xs) ys text =
    let rest = looked_up_joined xs ys text in
    let by : (b : Bool) → cond b (Some entry.1) (looked_up (xs ++ ys) text) ≡ first_of (cond b (Some entry.1) (looked_up xs text)) (looked_up ys text) = λ b. elim b as (λ b. cond b (Some entry.1) (looked_up (xs ++ ys) text) ≡ first_of (cond b (Some entry.1) (looked_up xs text)) (looked_up ys text)) [
      | true ↦ refl
      | false ↦ rest
    ] in by (str_eq_ignore_ascii_case text entry.0)

looked_up_kind : {A : Type 0} (kind : A → Kind) (xs : List (List ℕ × A)) (text : List ℕ) → looked_up (of_kind kind xs) text ≡ option_map kind (looked_up xs text)
looked_up_kind kind [] text = refl
looked_up_kind kind (entry ∷ xs) text =
    let rest = looked_up_kind kind xs text in
    let by : (b : Bool) → cond b (Some (kind entry.1)) (looked_up (of_kind kind xs) text) ≡ option_map kind (cond b (Some entry.1) (looked_up xs text)) = λ b. elim b as (λ b. cond b (Some (kind entry.1)) (looked_up (of_kind kind xs) text) ≡ option_map kind (cond b (Some entry.1) (looked_up xs text))) [
      | true ↦ refl
      | false ↦ rest
    ] in by (str_eq_ignore_ascii_case text entry.0)

looked_up_left_out : (words : List (List ℕ)) (text : List ℕ) → looked_up (all_left_out words) text ≡ (if is_listed words text then Some k.LeftOut else None)
looked_up_left_out [] text = refl
looked_up_left_out (word ∷ words) text =
    let rest = looked_up_left_out words text in
    let by : (b : Bool) → cond b (Some k.LeftOut) (looked_up (all_left_out words) text) ≡ cond (b || is_listed words text) (Some k.LeftOut) None = λ b. elim b as (λ b. cond b (Some k.LeftOut) (looked_up (all_left_out words) text) ≡ cond (b || is_listed words text) (Some k.LeftOut) None) [
      | true ↦ refl
      | false ↦ rest
    ] in by (str_eq_ignore_ascii_case text word)

-- the table is that of the parts of the language, one after another
table_is : map (λ e. (e.0.now, e.1)) WORDS ≡ of_kind k.Mark (heads ++ (blocks ++ (commands ++ values))) ++ (of_kind k.Special specials ++ (of_kind k.Jump jumps ++ all_left_out left_out))
table_is = refl

marks : (text : List ℕ) → looked_up (heads ++ (blocks ++ (commands ++ values))) text ≡ mark_of text
unfolding mark_of
marks text =
    looked_up_joined heads (blocks ++ (commands ++ values)) text
    ∙ ap (first_of (looked_up heads text)) (looked_up_joined blocks (commands ++ values) text ∙ ap (first_of (looked_up blocks text)) (looked_up_joined commands values text))

first_of_first : {A : Type 0} (x y z : Option A) → first_of x (first_of y z) ≡ first_of (first_of x y) z
first_of_first None y z = refl
first_of_first (Some x) y z = refl

-- what a table of all of them gives
joined : (marks : List (List ℕ × Mark)) (values : List (List ℕ × Special)) (leaps : List (List ℕ × Jump)) (out : List (List ℕ)) (text : List ℕ)
    → looked_up (of_kind k.Mark marks ++ (of_kind k.Special values ++ (of_kind k.Jump leaps ++ all_left_out out))) text
    ≡ first_of (first_of (option_map k.Mark (looked_up marks text)) (first_of (option_map k.Special (looked_up values text)) (option_map k.Jump (looked_up leaps text)))) (if is_listed out text then Some k.LeftOut else None)
joined marks values leaps out text =
    let m = option_map k.Mark (looked_up marks text) in
    let v = option_map k.Special (looked_up values text) in
    let j = option_map k.Jump (looked_up leaps text) in
    let o : Option Kind = if is_listed out text then Some k.LeftOut else None in
    let last : looked_up (of_kind k.Jump leaps ++ all_left_out out) text ≡ first_of j o =
    looked_up_joined (of_kind k.Jump leaps) (all_left_out out) text ∙ rw (looked_up_kind k.Jump leaps text, looked_up_left_out out text) refl in
    let later : looked_up (of_kind k.Special values ++ (of_kind k.Jump leaps ++ all_left_out out)) text ≡ first_of v (first_of j o) =
    looked_up_joined (of_kind k.Special values) (of_kind k.Jump leaps ++ all_left_out out) text ∙ rw (looked_up_kind k.Special values text, last) refl in
    let all : looked_up (of_kind k.Mark marks ++ (of_kind k.Special values ++ (of_kind k.Jump leaps ++ all_left_out out))) text ≡ first_of m (first_of v (first_of j o)) =
    looked_up_joined (of_kind k.Mark marks) (of_kind k.Special values ++ (of_kind k.Jump leaps ++ all_left_out out)) text ∙ rw (looked_up_kind k.Mark marks text, later) refl in
    all ∙ ap (first_of m) (first_of_first v j o) ∙ first_of_first m (first_of v j) o

table_gives : (text : List ℕ) → looked_up (map (λ e. (e.0.now, e.1)) WORDS) text ≡ first_of (reserved text) (if is_left_out text then Some k.LeftOut else None)
unfolding reserved is_left_out
table_gives text =
    ap (λ (es : List (List ℕ × Kind)). looked_up es text) table_is
    ∙ joined (heads ++ (blocks ++ (commands ++ values))) specials jumps left_out text
    ∙ ap (λ (o : Option Mark). first_of (first_of (option_map k.Mark o) (first_of (option_map k.Special (looked_up specials text)) (option_map k.Jump (looked_up jumps text)))) (if is_listed left_out text then Some k.LeftOut else None)) (marks text)

-- what the table gives, and what is told where it gives nothing
behind : (r : Option Kind) (b : Bool) (z : Kind) → or_else (first_of r (cond b (Some k.LeftOut) None)) (λ kind. kind) z ≡ or_else r (λ kind. kind) (cond b k.LeftOut z)
behind None true z = refl
behind None false z = refl
behind (Some kind) b z = refl

pub kind_is : (text : List ℕ) (found : Option Kind) → found ≡ looked_up (map (λ e. (e.0.now, e.1)) WORDS) text → or_else found (λ kind. kind) (if nat_le (length text) 32 then k.Name else k.LongWord) ≡ word_kind text
kind_is text found e =
    ap (λ (o : Option Kind). or_else o (λ kind. kind) (if nat_le (length text) 32 then k.Name else k.LongWord)) (e ∙ table_gives text)
    ∙ behind (reserved text) (is_left_out text) (if nat_le (length text) 32 then k.Name else k.LongWord)
