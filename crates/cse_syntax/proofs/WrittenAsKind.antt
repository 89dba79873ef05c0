-- A token is written as its kind wants.
use Rattle.std.proofs.Common.{◌≡◌, ℕ, suc, ◌+◌, ◌-◌, ◌≤◌, ◌<◌, Bool, true, false, cond, ◌||◌, ◌&&◌, ◌==◌, List, [], ◌∷◌, length, take, drop, Option, Some, None, refl, sym, ap, subst, ◌∙◌, arith, inl, inr, length-drop}
use Rattle.std.specs.Prelude.{nat_le, IfSome}
use Rattle.std.specs.List.{prefix_len, count_by, list_all}
use Rattle.std.specs.Option.{option_map}
use Rattle.std.specs.Char.{is_ascii_alphabetic, is_ascii_digit}
use Rattle.std.proofs.lemmas.Bool.{le-leb, and_parts}
use Rattle.std.proofs.lemmas.List.{take-take, drop-take, length-take-le}
use Rattle.std.proofs.lemmas.Option.{same_Some}
use Rattle.cse_lemmas.proofs.Lists.{list_all-prefix}
use Rattle.cse_syntax_tree.specs.declared.token.Kind.{Kind}
use Rattle.cse_syntax_tree.specs.declared.token.Kind.TheVariants as kinds
use Rattle.cse_syntax_tree.specs.declared.token.Mark.{Mark}
use Rattle.cse_syntax_tree.specs.declared.tree.Special.{Special}
use Rattle.cse_syntax_tree.specs.declared.tree.Jump.{Jump}
use Rattle.cse_syntax_tree.specs.Leaf.{or_else, begins, first_of, mark_of, looked_up, specials, jumps, reserved, is_left_out, word_kind, is_word_byte, is_name, starts_with_letter, is_digits, is_inside, is_start, is_quote, is_text, is_token}
use Rattle.cse_syntax.specs.Text.{symbol_at, text_len, token_at}
use Rattle.cse_syntax.proofs.Steps.{bind_some, if_some, test_some}
use Rattle.cse_syntax.proofs.Spans.{letter_is, begins_some, begins_one}

run_take : (p : ℕ → Bool) (b : ℕ) (bs : List ℕ) → p b ≡ true → take (prefix_len p (b ∷ bs)) (b ∷ bs) ≡ b ∷ take (prefix_len p bs) bs
run_take p b bs h =
    let one : prefix_len p (b ∷ bs) ≡ 1 + prefix_len p bs = rw h refl in
    let two : prefix_len p (b ∷ bs) ≡ suc (prefix_len p bs) = omega (arith, one) in
    ap (λ (n : ℕ). take n (b ∷ bs)) two

-- ---- words

reserved_from : (a : Option Mark) (b : Option Special) (c : Option Jump) (kind : Kind) (text : List ℕ)
    → first_of (option_map kinds.Mark a) (first_of (option_map kinds.Special b) (option_map kinds.Jump c)) ≡ Some kind → is_token kind text ≡ true
reserved_from (Some a) b c kind text e = subst (λ (v : Kind). is_token v text ≡ true) (same_Some _ _ e) refl
reserved_from None (Some b) c kind text e = subst (λ (v : Kind). is_token v text ≡ true) (same_Some _ _ e) refl
reserved_from None None (Some c) kind text e = subst (λ (v : Kind). is_token v text ≡ true) (same_Some _ _ e) refl
reserved_from None None None kind text e = absurd cc

reserved_is : (text : List ℕ) (kind : Kind) → reserved text ≡ Some kind → is_token kind text ≡ true
unfolding reserved
reserved_is text kind e = reserved_from (mark_of text) (looked_up specials text) (looked_up jumps text) kind text e

abbrev unreserved : List ℕ → Kind
unreserved text = cond (is_left_out text) kinds.LeftOut (cond (nat_le (length text) 32) kinds.Name kinds.LongWord)

unreserved_is : (text : List ℕ) → starts_with_letter text ≡ true → list_all is_word_byte text ≡ true → reserved text ≡ None → is_token (unreserved text) text ≡ true
unfolding is_name
unreserved_is text s w e =
    let short : (x : Bool) → nat_le (length text) 32 ≡ x → is_left_out text ≡ false → is_token (cond x kinds.Name kinds.LongWord) text ≡ true = λ x. elim x as (λ x. nat_le (length text) 32 ≡ x → is_left_out text ≡ false → is_token (cond x kinds.Name kinds.LongWord) text ≡ true) [
      | true ↦ λ h i. rw (s, w, h, e, i) refl
      | false ↦ λ h i. refl
    ] in
    let by : (x : Bool) → is_left_out text ≡ x → is_token (cond x kinds.LeftOut (cond (nat_le (length text) 32) kinds.Name kinds.LongWord)) text ≡ true = λ x. elim x as (λ x. is_left_out text ≡ x → is_token (cond x kinds.LeftOut (cond (nat_le (length text) 32) kinds.Name kinds.LongWord)) text ≡ true) [
      | true ↦ λ h. refl
      | false ↦ λ h. short (nat_le (length text) 32) refl h
    ] in by (is_left_out text) refl

word_is : (text : List ℕ) → starts_with_letter text ≡ true → list_all is_word_byte text ≡ true → is_token (word_kind text) text ≡ true
word_is text s w =
    let by : (r : Option Kind) → reserved text ≡ r → is_token (or_else r (λ (kind : Kind). kind) (unreserved text)) text ≡ true = λ r. elim r as (λ r. reserved text ≡ r → is_token (or_else r (λ (kind : Kind). kind) (unreserved text)) text ≡ true) [
      | None ↦ λ e. unreserved_is text s w e
      | Some kind ↦ λ e. reserved_is text kind e
    ] in by (reserved text) refl

word_at : (b : ℕ) (bs : List ℕ) → is_ascii_alphabetic b ≡ true → is_token (word_kind (take (prefix_len is_word_byte (b ∷ bs)) (b ∷ bs))) (take (prefix_len is_word_byte (b ∷ bs)) (b ∷ bs)) ≡ true
word_at b bs h = word_is (take (prefix_len is_word_byte (b ∷ bs)) (b ∷ bs)) (ap starts_with_letter (run_take is_word_byte b bs (letter_is b h)) ∙ h) (list_all-prefix is_word_byte (b ∷ bs))

-- ---- numbers and texts

digits_are : (b : ℕ) (bs : List ℕ) → is_ascii_digit b ≡ true → is_digits (take (prefix_len is_ascii_digit (b ∷ bs)) (b ∷ bs)) ≡ true
unfolding is_digits
digits_are b bs h =
    let one : nat_le 1 (suc (length (take (prefix_len is_ascii_digit bs) bs))) ≡ true = le-leb 1 (suc (length (take (prefix_len is_ascii_digit bs) bs))) (omega arith) in
    let all : is_digits (b ∷ take (prefix_len is_ascii_digit bs) bs) ≡ true = rw (one, h) (list_all-prefix is_ascii_digit bs) in
    subst (λ (t : List ℕ). is_digits t ≡ true) (sym (run_take is_ascii_digit b bs h)) all

text_is : (q : ℕ) (bs : List ℕ) (n : ℕ) → is_quote q ≡ true → text_len q bs ≡ Some n → is_text (take n (q ∷ bs)) ≡ true
unfolding is_text
text_is q bs n h e =
    let k = prefix_len (is_inside q) bs in
    let t = test_some (begins q (drop k bs) && nat_le (count_by is_start (take k bs)) 255) (k + 2) n e in
    let b = and_parts (begins q (drop k bs)) (nat_le (count_by is_start (take k bs)) 255) t.0 in
    let some : 0 < length (drop k bs) = begins_some q (drop k bs) b.0 in
    let le : k + 1 ≤ length bs = omega (arith, length-drop k bs, some) in
    let taken : length (take (k + 1) bs) ≡ k + 1 = length-take-le (k + 1) bs le in
    let len : length (take (k + 1) bs) - 1 ≡ k = omega (arith, taken) in
    let mid : take (length (take (k + 1) bs) - 1) (take (k + 1) bs) ≡ take k bs = ap (λ (m : ℕ). take m (take (k + 1) bs)) len ∙ take-take k (k + 1) bs (omega arith) in
    let last : begins q (drop (length (take (k + 1) bs) - 1) (take (k + 1) bs)) ≡ true = ap (λ (m : ℕ). begins q (drop m (take (k + 1) bs))) len ∙ ap (begins q) (drop-take k 1 bs) ∙ begins_one q (drop k bs) ∙ b.0 in
    let two : n ≡ suc (k + 1) = omega (arith, same_Some _ _ t.1) in
    let whole : take n (q ∷ bs) ≡ q ∷ take (k + 1) bs = ap (λ (m : ℕ). take m (q ∷ bs)) two in
    let inside : list_all (is_inside q) (take k bs) ≡ true = list_all-prefix (is_inside q) bs in
    let all : is_text (q ∷ take (k + 1) bs) ≡ true = rw (h, last, mid, inside, b.1) refl in
    subst (λ (s : List ℕ). is_text s ≡ true) (sym whole) all

-- a token is of its kind
pub kind_is : (bs : List ℕ) (found : ℕ × Kind) → token_at bs ≡ Some found → is_token found.1 (take found.0 bs) ≡ true
unfolding token_at
kind_is [] found e = absurd cc
kind_is (b ∷ bs) found e =
    let as_found : (t : ℕ × Kind) → Some t ≡ Some found → is_token t.1 (take t.0 (b ∷ bs)) ≡ true → is_token found.1 (take found.0 (b ∷ bs)) ≡ true = λ t i f. subst (λ (t : ℕ × Kind). is_token t.1 (take t.0 (b ∷ bs)) ≡ true) (same_Some _ _ i) f in
    elim (if_some (is_ascii_alphabetic b) _ _ _ e) [
      | inl h ↦ as_found _ h.1 (word_at b bs h.0)
      | inr h ↦
          elim (if_some (is_ascii_digit b) _ _ _ h.1) [
            | inl i ↦ as_found _ i.1 (digits_are b bs i.0)
            | inr i ↦
                elim (if_some (b == 39 || b == 34) _ _ _ i.1) [
                  | inl t ↦ let n = bind_some (text_len b bs) _ _ t.1 in as_found _ n.2 (text_is b bs n.0 t.0 n.1)
                  | inr t ↦ let n = bind_some (symbol_at b bs) _ _ t.1 in as_found _ n.2 refl
                ]
          ]
    ]

pub kind_clause : (bs : List ℕ) (o : Option (ℕ × Kind)) → o ≡ token_at bs → IfSome o (λ t. is_token t.1 (take t.0 bs) ≡ true)
kind_clause bs None e = tt
kind_clause bs (Some t) e = kind_is bs t (sym e)
