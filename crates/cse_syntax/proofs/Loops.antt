-- A loop of the code beside the loop that reads.
use Rattle.std.proofs.Common.{◌≡◌, ℕ, zero, suc, ◌≤◌, ◌<◌, Bool, true, false, List, [], ◌∷◌, length, Option, Some, None, Result, Ok, Err, refl, sym, subst, ◌∙◌, arith}
use Rattle.std.proofs.Common.{drop, ap, ◌++◌}
use Rattle.cse_syntax_tree.specs.declared.token.Token.{Token}
use Rattle.cse_syntax.specs.declared.error.ReadError.{ReadError}
use Rattle.cse_syntax.specs.declared.error.ReadError.TheVariants as errors
use Rattle.cse_syntax_tree.specs.declared.token.Mark.{Mark}
use Rattle.cse_syntax_tree.specs.declared.token.Mark.TheVariants as m
use Rattle.cse_syntax_tree.specs.declared.tree.Operator.{Operator}
use Rattle.cse_syntax_tree.specs.Word.{Word, words}
use Rattle.cse_syntax_tree.specs.Tree.{Expr}
use Rattle.cse_syntax.specs.Reading.{Parser, Fails, Makes, Gives, sees, after, expect, after_comma, others_from, listed, operator_at, is_some, operation, operations_from}
use Rattle.cse_syntax.specs.Loop.{◌>>=◌, Reader, loop, snoc}

-- From here on, with turns enough, the whole is read.
pub record Within {S A : Type 0} (go : ℕ → Reader S A) (ws : List S) (reading : Option (A × List S)) : Type 0 where
  pub turns : ℕ
  pub enough : length ws ≤ turns
  pub same : go turns ws ≡ reading

module _ {S A B : Type 0} (starts : List S → Bool) (item : Reader S B) (add : A → B → A) (reading : Option (A × List S)) where
  abbrev Going : A → List S → Type 0
  Going found ws = Within (λ n. loop starts item add n found) ws reading

  pub begins : (found : A) (ws : List S) → reading ≡ loop starts item add (length ws) found ws → Going found ws
  begins found ws e = record { turns = length ws; enough = omega arith; same = sym e }

  goes_on_at : (n : ℕ) (found : A) (ws : List S) (x : B) (after : List S) → starts ws ≡ true → item ws ≡ Some (x, after) → length after < length ws → length ws ≤ n → loop starts item add n found ws ≡ reading → Going (add found x) after
  goes_on_at zero found ws x after s i lt enough same = absurd (omega arith)
  goes_on_at (suc n) found ws x after s i lt enough same =
      let one : loop starts item add (suc n) found ws ≡ loop starts item add n (add found x) after = rw (s, i) refl in
      record { turns = n; enough = omega arith; same = sym one ∙ same }

  pub goes_on : (found : A) (ws : List S) (x : B) (after : List S) → starts ws ≡ true → item ws ≡ Some (x, after) → length after < length ws → Going found ws → Going (add found x) after
  goes_on found ws x after s i lt w = goes_on_at w.turns found ws x after s i lt w.enough w.same

  pub goes_on_as : (found all : A) (ws : List S) (x : B) (after : List S) → starts ws ≡ true → item ws ≡ Some (x, after) → length after < length ws → all ≡ add found x → Going found ws → Going all after
  goes_on_as found all ws x after s i lt e w = subst (λ (a : A). Going a after) (sym e) (goes_on found ws x after s i lt w)

  ends_at : (n : ℕ) (found : A) (ws : List S) → starts ws ≡ false → loop starts item add n found ws ≡ reading → reading ≡ Some (found, ws)
  ends_at zero found ws s same = sym same
  ends_at (suc n) found ws s same = let one : loop starts item add (suc n) found ws ≡ Some (found, ws) = rw s refl in sym same ∙ one

  pub ends : (found : A) (ws : List S) → starts ws ≡ false → Going found ws → reading ≡ Some (found, ws)
  ends found ws s w = ends_at w.turns found ws s w.same

  fails_at : (n : ℕ) (found : A) (ws : List S) → starts ws ≡ true → item ws ≡ None → 0 < length ws → length ws ≤ n → loop starts item add n found ws ≡ reading → reading ≡ None
  fails_at zero found ws s i lt enough same = absurd (omega arith)
  fails_at (suc n) found ws s i lt enough same = let one : loop starts item add (suc n) found ws ≡ None = rw (s, i) refl in sym same ∙ one

  pub fails : (found : A) (ws : List S) → starts ws ≡ true → item ws ≡ None → 0 < length ws → Going found ws → reading ≡ None
  fails found ws s i lt w = fails_at w.turns found ws s i lt w.enough w.same

pub length_words : (ts : List Token) → length (words ts) ≡ length ts
length_words [] = refl
length_words (t ∷ ts) = ap suc (length_words ts)

-- one more item of a list
pub one_item : {B : Type 0} (starts : List Word → Bool) (item : Parser B) (reading : Option (List B × List Word)) (found all : List B) (x : B) (ts after : List Token)
    → starts (words ts) ≡ true → item (words ts) ≡ Some (x, words after) → all ≡ found ++ x ∷ [] → length after < length ts
    → Within (λ n. loop starts item snoc n found) (words ts) reading → Within (λ n. loop starts item snoc n all) (words after) reading
one_item {B} starts item reading found all x ts after s i b lt w =
    let go = goes_on starts item snoc reading found (words ts) x (words after) s i (omega (arith, length_words ts, length_words after)) w in
    subst (λ (xs : List B). Within (λ n. loop starts item snoc n xs) (words after) reading) (sym b) go

-- one more operation of a chain
pub one_operation : (operator : Mark → Option Operator) (operand : Parser Expr) (reading : Option (List (Operator × Expr) × List Word)) (found all : List (Operator × Expr)) (right : Expr) (op : Operator) (ts mid after : List Token)
    → operator_at operator (words ts) ≡ Some op → words mid ≡ drop 1 (words ts) → operand (words mid) ≡ Some (right, words after) → all ≡ found ++ (op, right) ∷ [] → length mid < length ts → length after ≤ length mid
    → Within (λ n. operations_from operator operand n found) (words ts) reading → Within (λ n. operations_from operator operand n all) (words after) reading
one_operation operator operand reading found all right op ts mid after o m r b lt le w =
    let item : operation operator operand (words ts) ≡ Some ((op, right), words after) = rw (o, ← m, r) refl in
    let starts : is_some (operator_at operator (words ts)) ≡ true = rw o refl in
    one_item (λ ws. is_some (operator_at operator ws)) (operation operator operand) reading found all (op, right) ts after starts item b (omega (arith, lt, le)) w

pub after_is : (mark : Mark) (ws : List Word) → sees mark ws ≡ true → after mark ws ≡ drop 1 ws
after_is mark ws e = rw e refl

-- what stands after a mark
pub after_mark : {B : Type 0} (mark : Mark) (p : Parser B) (ws mid : List Word) (r : Option (B × List Word)) → sees mark ws ≡ true → mid ≡ after mark ws → p mid ≡ r → (expect mark ws >>= p) ≡ r
after_mark mark p ws mid r s e h = let m : mid ≡ drop 1 ws = e ∙ after_is mark ws s in rw (s, ← m) h

-- a tree that was made is what was read
pub made_gives : {A B : Type 0} (view : A → B) (r : Result A ReadError) (made : B) (reading : Option (B × List Word)) (behind : List Word) → Makes view r made → reading ≡ Some (made, behind) → Gives view r reading behind
made_gives {A} {B} view (Ok x) made reading behind h e = e ∙ ap (λ (t : B). Some (t, behind)) (sym h)
made_gives view (Err e) made reading behind h i = subst (λ (k : ReadError). Fails k reading) (sym h) tt

-- what fails at a step fails as a whole
pub step_fails : {A B : Type 0} (e : ReadError) (o : Option A) (f : A → Option B) → Fails e o → Fails e (o >>= f)
step_fails errors.Memory o f h = tt
step_fails (errors.Found fault) o f h = rw h refl

pub after_not : (mark : Mark) (ws : List Word) → sees mark ws ≡ false → after mark ws ≡ ws
after_not mark ws e = rw e refl

-- no further item comes
pub list_ends : {B : Type 0} (starts : List Word → Bool) (item : Parser B) (reading : Option (List B × List Word)) (found : List B) (ts behind : List Token)
    → starts (words ts) ≡ false → words behind ≡ words ts → Within (λ n. loop starts item snoc n found) (words ts) reading → reading ≡ Some (found, words behind)
list_ends {B} starts item reading found ts behind s e w = let h = ends starts item snoc reading found (words ts) s w in h ∙ rw e refl

-- ---- lists with commas

-- An item of a list comes next: from here on, with turns enough, the whole is read.
pub record Awaits {B : Type 0} (item : Parser B) (found : List B) (ws : List Word) (reading : Option (List B × List Word)) : Type 0 where
  pub turns : List Word → ℕ
  pub enough : (rest : List Word) → length rest ≤ length ws → length rest ≤ turns rest
  pub same : (item ws >>= λ x. others_from item (turns x.1) (snoc found x.0) x.1) ≡ reading

behind_comma : (mid : List Word) → sees m.Comma mid ≡ true → suc (length (drop 1 mid)) ≤ length mid
behind_comma [] s = absurd cc
behind_comma (w ∷ ws) s = omega arith

module _ {B : Type 0} (item : Parser B) where
  pub awaits_first : (ws : List Word) (found : List B) → found ≡ [] → Awaits item found ws (listed item ws)
  unfolding listed
  awaits_first ws found e = rw e (record { turns = length; enough = λ rest h. omega arith; same = refl })

  module _ (reading : Option (List B × List Word)) (found : List B) where
    awaits_at : (n : ℕ) (mid : List Word) → sees m.Comma mid ≡ true → length mid ≤ n → others_from item n found mid ≡ reading → Awaits item found (drop 1 mid) reading
    awaits_at zero mid s enough same = absurd (omega (arith, behind_comma mid s))
    awaits_at (suc n) mid s enough same =
        let one : others_from item (suc n) found mid ≡ (item (drop 1 mid) >>= λ y. others_from item n (snoc found y.0) y.1) = rw s refl in
        record { turns = λ rest. n; enough = λ rest h. omega (arith, h, behind_comma mid s); same = sym one ∙ same }

    -- from here on, behind one more item
    behind_item : (x : B) (ts mid : List Token) → item (words ts) ≡ Some (x, words mid) → length mid ≤ length ts → Awaits item found (words ts) reading → Within (λ n. others_from item n (snoc found x)) (words mid) reading
    behind_item x ts mid i le w =
        let turns : ℕ = w.turns (words mid) in
        let one : (item (words ts) >>= λ y. others_from item (w.turns y.1) (snoc found y.0) y.1) ≡ others_from item turns (snoc found x) (words mid) = rw i refl in
        record { turns = turns; enough = w.enough (words mid) (omega (arith, length_words ts, length_words mid, le)); same = sym one ∙ w.same }

  module _ (reading : Option (List B × List Word)) (found all : List B) (x : B) (ts mid behind : List Token) (i : item (words ts) ≡ Some (x, words mid)) (le : length mid ≤ length ts) (b : all ≡ snoc found x) where
    pub awaits_next : sees m.Comma (words mid) ≡ true → words behind ≡ after m.Comma (words mid) → Awaits item found (words ts) reading → Awaits item all (words behind) reading
    awaits_next s e w =
        let one = behind_item reading found x ts mid i le w in
        let go = awaits_at reading (snoc found x) one.turns (words mid) s one.enough one.same in
        let behind_is : words behind ≡ drop 1 (words mid) = e ∙ after_is m.Comma (words mid) s in
        rw (b, behind_is) go

    pub awaits_last : sees m.Comma (words mid) ≡ false → words behind ≡ after m.Comma (words mid) → Awaits item found (words ts) reading → reading ≡ Some (all, words behind)
    awaits_last s e w =
        rw b (list_ends (sees m.Comma) (after_comma item) reading (snoc found x) mid behind s (e ∙ after_not m.Comma (words mid) s) (behind_item reading found x ts mid i le w))
