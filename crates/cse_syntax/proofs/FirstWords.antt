-- What comes next, by the kind of the first token.
use Rattle.std.proofs.Common.{◌≡◌, ℕ, Bool, true, false, List, [], ◌∷◌, drop, slice_get, ◌≤◌, length, Option, Some, None, Result, arith, refl, sym, ap, ◌∙◌}
use Rattle.std.proofs.lemmas.Option.{same_Some}
use Rattle.cse_syntax_tree.specs.declared.token.Kind.{Kind}
use Rattle.cse_syntax_tree.specs.declared.token.Kind.TheVariants as k
use Rattle.cse_syntax_tree.specs.declared.token.Mark.{Mark}
use Rattle.cse_syntax_tree.specs.declared.token.Token.{Token}
use Rattle.cse_syntax_tree.specs.declared.tree.Special.{Special}
use Rattle.cse_syntax_tree.specs.declared.tree.Jump.{Jump}
use Rattle.cse_syntax_tree.specs.Word.{Word, Name, Digits, Quoted, Value, Leave, Sign, Stray, Spelling, word, word_of, words}
use Rattle.cse_syntax.specs.declared.error.ReadError.{ReadError}
use Rattle.cse_syntax.specs.Reading.{Parser, Reads, sees, operator_at}
use Rattle.cse_syntax.specs.ReadingSource.{starts_declaration}

pub words_none : (ts : List Token) → ◌≡◌ {A = Option Token} None (slice_get ts 0) → words ts ≡ []
words_none [] e = refl
words_none (t ∷ ts) e = absurd cc

words_some : (ts : List Token) (t : Token) → Some t ≡ slice_get ts 0 → words ts ≡ word_of t ∷ drop 1 (words ts)
words_some [] t e = absurd cc
words_some (x ∷ xs) t e = ap (λ (y : Token). word_of y ∷ words xs) (sym (same_Some _ _ e))

-- a mark
pub sign_first : (ts : List Token) (t : Token) (mark : Mark) → Some t ≡ slice_get ts 0 → t.kind ≡ k.Mark mark → words ts ≡ Sign mark ∷ drop 1 (words ts)
sign_first ts t mark there is = words_some ts t there ∙ ap (λ (kind : Kind). word t.index kind t.text.now ∷ drop 1 (words ts)) is

-- what says the same of each word that is no mark
no_sign : {A : Type 0} (f : Word → A) (x : A) → ((s : Spelling) → f (Name s) ≡ x) → ((s : Spelling) → f (Digits s) ≡ x) → ((s : Spelling) → f (Quoted s) ≡ x)
    → ((n : ℕ) (v : Special) → f (Value n v) ≡ x) → ((n : ℕ) (j : Jump) → f (Leave n j) ≡ x) → f Stray ≡ x
    → (n : ℕ) (kind : Kind) (text : List ℕ) → ((mark : Mark) → kind ≡ k.Mark mark → ⊥) → f (word n kind text) ≡ x
no_sign f x a b c d e g n k.Name text not_mark = a _
no_sign f x a b c d e g n k.Number text not_mark = b _
no_sign f x a b c d e g n k.Text text not_mark = c _
no_sign f x a b c d e g n (k.Special v) text not_mark = d n v
no_sign f x a b c d e g n (k.Jump j) text not_mark = e n j
no_sign f x a b c d e g n (k.Mark mark) text not_mark = absurd (not_mark mark refl)
no_sign f x a b c d e g n k.LeftOut text not_mark = g
no_sign f x a b c d e g n k.LongWord text not_mark = g

-- a method that goes on behind the first word
pub reads_behind : {A B : Type 0} (view : A → B) (read behind : Parser B) (r : Result A ReadError) (old mid new : List Token) (w : Word)
    → words old ≡ w ∷ words mid → length mid ≤ length old → ((ws : List Word) → read (w ∷ ws) ≡ behind ws) → Reads view behind r mid new → Reads view read r old new
reads_behind view read behind r old mid new w first le same h = record {
  value = rw (first, same (words mid)) h.value;
  shorter = omega (arith, le, h.shorter);
}

pub taken_sign : (old : List Word) (mid : List Word) (t : Token) (mark : Mark) → old ≡ word_of t ∷ mid → t.kind ≡ k.Mark mark → old ≡ Sign mark ∷ mid
taken_sign old mid t mark e is = e ∙ ap (λ (kind : Kind). word t.index kind t.text.now ∷ mid) is

module _ (ts : List Token) (t : Token) (there : Some t ≡ slice_get ts 0) (not_mark : (mark : Mark) → t.kind ≡ k.Mark mark → ⊥) where
  pub sees_none : (mark : Mark) → false ≡ sees mark (words ts)
  sees_none mark = sym (ap (sees mark) (words_some ts t there) ∙ no_sign (λ w. sees mark (w ∷ drop 1 (words ts))) false (λ s. refl) (λ s. refl) (λ s. refl) (λ n v. refl) (λ n j. refl) refl t.index t.kind t.text.now not_mark)

  pub operator_none : {A : Type 0} (operator : Mark → Option A) → ◌≡◌ {A = Option A} None (operator_at operator (words ts))
  operator_none operator = sym (ap (operator_at operator) (words_some ts t there) ∙ no_sign (λ w. operator_at operator (w ∷ drop 1 (words ts))) None (λ s. refl) (λ s. refl) (λ s. refl) (λ n v. refl) (λ n j. refl) refl t.index t.kind t.text.now not_mark)

  pub declares_none : false ≡ starts_declaration (words ts)
  declares_none = sym (ap starts_declaration (words_some ts t there) ∙ no_sign (λ w. starts_declaration (w ∷ drop 1 (words ts))) false (λ s. refl) (λ s. refl) (λ s. refl) (λ n v. refl) (λ n j. refl) refl t.index t.kind t.text.now not_mark)
