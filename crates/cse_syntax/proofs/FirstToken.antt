-- The longest token at the front, by the first byte.
use Rattle.std.proofs.Common.{◌≡◌, ℕ, ◌-◌, ◌≤◌, ◌<◌, ◌⊎◌, Bool, true, false, ◌||◌, ◌==◌, List, [], ◌∷◌, length, take, drop, slice_get, slice_index, Option, Some, None, refl, sym, ap, ◌∙◌, subst, inl, inr}
use Rattle.std.specs.Prelude.{IfSome}
use Rattle.std.specs.List.{prefix_len}
use Rattle.std.specs.Char.{is_ascii_alphabetic, is_ascii_digit}
use Rattle.std.proofs.lemmas.Bool.{ne_eqb, eq-eqb, or_left, or_right, or_from}
use Rattle.cse_syntax_tree.specs.declared.token.Kind.{Kind}
use Rattle.cse_syntax_tree.specs.declared.token.Kind.TheVariants as k
use Rattle.cse_syntax_tree.specs.declared.token.Mark.{Mark}
use Rattle.cse_syntax.specs.Loop.{◌>>=◌}
use Rattle.cse_syntax.specs.Text.{is_word_byte, word_kind, text_len, symbol_at, token_at}
use Rattle.cse_syntax.proofs.Text.{whole}

pub none_first : (bytes : List ℕ) → ◌≡◌ {A = Option ℕ} None (slice_get bytes 0) → None ≡ token_at bytes
unfolding token_at
none_first [] e = refl
none_first (b ∷ bs) e = absurd cc

-- what a result that is none says of itself
pub if_none : {X : Type 0} (o : Option X) (P : X → Type 0) → o ≡ None → IfSome o P
if_none None P e = tt
if_none (Some x) P e = absurd cc

word_at : (b : ℕ) (bs : List ℕ) (n : ℕ) (kind : Kind) → true ≡ is_ascii_alphabetic b
    → n ≡ prefix_len is_word_byte (b ∷ bs) → kind ≡ word_kind (take n (b ∷ bs)) → Some (n, kind) ≡ token_at (b ∷ bs)
unfolding token_at
word_at b bs n kind letter n_is kind_is = rw (kind_is, n_is, ← letter) refl

pub word_first : (b : ℕ) (bytes : List ℕ) (n : ℕ) (kind : Kind) → Some b ≡ slice_get bytes 0 → true ≡ is_ascii_alphabetic b
    → n ≡ prefix_len is_word_byte bytes → kind ≡ word_kind (take n bytes) → Some (n, kind) ≡ token_at bytes
word_first b bytes n kind there letter =
    subst (λ (bs : List ℕ). n ≡ prefix_len is_word_byte bs → kind ≡ word_kind (take n bs) → Some (n, kind) ≡ token_at bs)
    (whole b bytes there) (λ n_is kind_is. word_at b (take (length bytes - 1) (drop 1 bytes)) n kind letter n_is kind_is)

digits_at : (b : ℕ) (bs : List ℕ) (n : ℕ) → false ≡ is_ascii_alphabetic b → true ≡ is_ascii_digit b
    → n ≡ prefix_len is_ascii_digit (b ∷ bs) → Some (n, k.Number) ≡ token_at (b ∷ bs)
unfolding token_at
digits_at b bs n letter digit n_is = rw (n_is, ← letter, ← digit) refl

pub digits_first : (b : ℕ) (bytes : List ℕ) (n : ℕ) → Some b ≡ slice_get bytes 0 → false ≡ is_ascii_alphabetic b → true ≡ is_ascii_digit b
    → n ≡ prefix_len is_ascii_digit bytes → Some (n, k.Number) ≡ token_at bytes
digits_first b bytes n there letter digit =
    subst (λ (bs : List ℕ). n ≡ prefix_len is_ascii_digit bs → Some (n, k.Number) ≡ token_at bs)
    (whole b bytes there) (λ n_is. digits_at b (take (length bytes - 1) (drop 1 bytes)) n letter digit n_is)

quote_is : (b : ℕ) → (b ≡ 39) ⊎ ((b ≡ 39 → ⊥) × (b ≡ 34)) → (b == 39 || b == 34) ≡ true
quote_is b (inl e) = or_left (b == 39) (b == 34) (eq-eqb b 39 e)
quote_is b (inr p) = or_right (b == 39) (b == 34) (eq-eqb b 34 p.1)

text_at : (b : ℕ) (bs : List ℕ) (r : Option ℕ) → false ≡ is_ascii_alphabetic b → false ≡ is_ascii_digit b → (b == 39 || b == 34) ≡ true
    → r ≡ text_len b bs → (r >>= λ n. Some (n, k.Text)) ≡ token_at (b ∷ bs)
unfolding token_at
text_at b bs r letter digit quote r_is = rw (← letter, ← digit, quote, r_is) refl

-- a text, or none where it has no end
pub text_first : (b : ℕ) (bytes : List ℕ) (r : Option ℕ) → Some b ≡ slice_get bytes 0 → false ≡ is_ascii_alphabetic b → false ≡ is_ascii_digit b
    → (b ≡ 39) ⊎ ((b ≡ 39 → ⊥) × (b ≡ 34)) → r ≡ text_len b (take (length bytes - 1) (drop 1 bytes)) → (r >>= λ n. Some (n, k.Text)) ≡ token_at bytes
text_first b bytes r there letter digit quote r_is =
    subst (λ (bs : List ℕ). (r >>= λ n. Some (n, k.Text)) ≡ token_at bs) (whole b bytes there)
    (text_at b (take (length bytes - 1) (drop 1 bytes)) r letter digit (quote_is b quote) r_is)

mark_at : (b : ℕ) (bs : List ℕ) (r : Option (ℕ × Mark)) → false ≡ is_ascii_alphabetic b → false ≡ is_ascii_digit b → (b == 39 || b == 34) ≡ false
    → r ≡ symbol_at b bs → (r >>= λ found. Some (found.0, k.Mark found.1)) ≡ token_at (b ∷ bs)
unfolding token_at
mark_at b bs r letter digit quote r_is = rw (← letter, ← digit, quote, r_is) refl

-- a symbol, or none
pub mark_first : (b : ℕ) (bytes : List ℕ) (r : Option (ℕ × Mark)) → Some b ≡ slice_get bytes 0 → false ≡ is_ascii_alphabetic b → false ≡ is_ascii_digit b
    → (b ≡ 39 → ⊥) → (b ≡ 34 → ⊥) → r ≡ symbol_at b (take (length bytes - 1) (drop 1 bytes)) → (r >>= λ found. Some (found.0, k.Mark found.1)) ≡ token_at bytes
mark_first b bytes r there letter digit one two r_is =
    subst (λ (bs : List ℕ). (r >>= λ found. Some (found.0, k.Mark found.1)) ≡ token_at bs) (whole b bytes there)
    (mark_at b (take (length bytes - 1) (drop 1 bytes)) r letter digit (or_from (b == 39) (b == 34) (ne_eqb b 39 one) (ne_eqb b 34 two)) r_is)

-- the byte before the end of a token that is cut off by its first byte
pub last_ascii : (b : ℕ) (bytes : List ℕ) (n : ℕ) → Some b ≡ slice_get bytes 0 → slice_index (b ∷ take (length bytes - 1) (drop 1 bytes)) (n - 1) < 128
    → slice_index bytes (n - 1) < 128
last_ascii b bytes n there = subst (λ (bs : List ℕ). slice_index bs (n - 1) < 128) (whole b bytes there)
