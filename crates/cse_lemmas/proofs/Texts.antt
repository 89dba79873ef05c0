-- Bytes that are ASCII or UTF-8.
use Rattle.std.proofs.Common.{◌≡◌, ℕ, zero, suc, ◌+◌, ◌<◌, ◌≤◌, false, List, [], ◌∷◌, ◌++◌, length, get_or, take, replicate, ap, sym, ◌∙◌, inl, inr, append-nil, arith}
use Rattle.std.specs.Prelude.{encode_utf8, encode_utf8_all}
use Rattle.std.specs.Str.{IsAscii, IsUtf8, is_utf8}
use Rattle.std.proofs.lemmas.Bool.{cases_lt, false_from_ne_true}
use Rattle.std.proofs.lemmas.List.{get_or_past, take_more}
use Rattle.std.proofs.lemmas.Str.{IsUtf8-from_is_utf8, encodes-append}

pub IsAscii-replicate : (n c : ℕ) → c < 128 → IsAscii (replicate n c)
IsAscii-replicate zero c h i = omega arith
IsAscii-replicate (suc n) c h zero = h
IsAscii-replicate (suc n) c h (suc i) = IsAscii-replicate n c h i

pub IsAscii-from_bound : (bs : List ℕ) (bound : ℕ) → ((k : ℕ) → k < length bs → get_or bs k 0 ≤ bound) → bound < 128 → IsAscii bs
IsAscii-from_bound bs bound low ascii k =
    elim (cases_lt k (length bs)) [
      | inl h ↦ let at = low k h in omega arith
      | inr h ↦ rw (get_or_past bs k 0 (omega arith)) (omega arith)
    ]

pub encodes_take_more : (cs : List ℕ) (i c : ℕ) → i < length cs → c ≡ get_or cs i c → encode_utf8_all (take (i + 1) cs) ≡ encode_utf8_all (take i cs) ++ encode_utf8 c
encodes_take_more cs i c within is =
    ap encode_utf8_all (take_more cs i c within) ∙ encodes-append (take i cs) (get_or cs i c ∷ [])
    ∙ ap (λ l. encode_utf8_all (take i cs) ++ l) (append-nil (encode_utf8 (get_or cs i c)) ∙ ap encode_utf8 (sym is))

pub is_utf8_false : (bs : List ℕ) → (IsUtf8 bs → ⊥) → is_utf8 bs ≡ false
is_utf8_false bs h = false_from_ne_true _ (λ e. h (IsUtf8-from_is_utf8 bs e))
