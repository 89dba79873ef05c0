-- What stands between the quotes of a text in UTF-8 is a text of the format.
use Rattle.std.proofs.Common.{◌≡◌, ◌≤◌, ◌<◌, ◌^◌, ℕ, ◌+◌, ◌-◌, ◌*◌, ◌/◌, Bool, true, false, cond, ◌&&◌, not, List, [], ◌∷◌, length, drop, refl, sym, ap, subst, ◌∙◌, arith, IsUtf8, length-append}
use Rattle.std.specs.Prelude.{nat_le, nat_lt, ◌==◌}
use Rattle.std.specs.List.{count_by, list_all}
use Rattle.std.specs.Str.{is_utf8, chars}
use Rattle.std.proofs.Math.Utf8.{encode, encodes, next}
use Rattle.std.proofs.lemmas.Bool.{and_parts, and_from, leb-true, ltb-true}
use Rattle.std.proofs.lemmas.Bool.Decides.{nat_tests}
use Rattle.std.proofs.lemmas.List.Folds.{list_all-append}
use Rattle.std.proofs.lemmas.List.Sums.{sum_by-cons, sum_by-append}
use Rattle.std.proofs.lemmas.Str.{IsUtf8-from_is_utf8, is_utf8-from_IsUtf8, IsUtf8-between, encodes-chars, encode_ascii}
use Rattle.cse_image_parts.specs.Texts.{is_text, is_short}
use Rattle.cse_image.specs.Spelling.{TextFits}
use Rattle.cse_syntax_tree.specs.Leaf as leaf
use Rattle.cse_syntax_tree.specs.Leaf.{begins, is_inside, is_start, is_quote, text_of}
use Rattle.cse_syntax.proofs.QuotedText.{quotes, first_cut, last_cut, inside_is}

-- ---- one character

begins_one : (b : ℕ) → 192 ≤ b → is_start b ≡ true
begins_one b h = grind (arith, nat_tests)

begins_none : (b : ℕ) → 128 ≤ b → b < 192 → is_start b ≡ false
begins_none b h k = grind (arith, nat_tests)

small_one : (b : ℕ) → b < 128 → is_start b ≡ true
small_one b h = grind (arith, nat_tests)

abbrev starts : List ℕ → ℕ
starts bs = count_by is_start bs

starts_more : (b : ℕ) (bs : List ℕ) → is_start b ≡ true → starts (b ∷ bs) ≡ 1 + starts bs
starts_more b bs e = sum_by-cons (λ (x : ℕ). cond (is_start x) 1 0) b bs ∙ ap (λ t. cond t 1 0 + starts bs) e

starts_same : (b : ℕ) (bs : List ℕ) → is_start b ≡ false → starts (b ∷ bs) ≡ starts bs
starts_same b bs e = let f = sum_by-cons (λ (x : ℕ). cond (is_start x) 1 0) b bs ∙ ap (λ t. cond t 1 0 + starts bs) e in omega (arith, f)

goes_on : (n : ℕ) (bs : List ℕ) → starts (next n ∷ bs) ≡ starts bs
goes_on n bs = starts_same (next n) bs (begins_none (next n) (omega arith) (omega arith))

opens : (b : ℕ) (bs : List ℕ) → 192 ≤ b → starts bs ≡ 0 → starts (b ∷ bs) ≡ 1
opens b bs le e = let f = starts_more b bs (begins_one b le) in omega (arith, e, f)

one_start : (c : ℕ) → starts (encode c) ≡ 1
unfolding encode
one_start c = by (nat_lt c 128) (nat_lt c 2048) (nat_lt c 65536) refl
  where
    by : (x y z : Bool) → nat_lt c 128 ≡ x → starts (cond x (c ∷ []) (cond y ((192 + c / 64) ∷ next c ∷ []) (cond z ((224 + c / 4096) ∷ next (c / 64) ∷ next c ∷ []) ((240 + c / 262144) ∷ next (c / 4096) ∷ next (c / 64) ∷ next c ∷ [])))) ≡ 1
    by true y z e = starts_more c [] (small_one c (ltb-true c 128 e))
    by false true z e = opens (192 + c / 64) (next c ∷ []) (omega arith) (goes_on c [])
    by false false true e = opens (224 + c / 4096) (next (c / 64) ∷ next c ∷ []) (omega arith) (goes_on (c / 64) (next c ∷ []) ∙ goes_on c [])
    by false false false e = opens (240 + c / 262144) (next (c / 4096) ∷ next (c / 64) ∷ next c ∷ []) (omega arith) (goes_on (c / 4096) (next (c / 64) ∷ next c ∷ []) ∙ goes_on (c / 64) (next c ∷ []) ∙ goes_on c [])

four_bytes : (c : ℕ) → length (encode c) ≤ 4
unfolding encode
four_bytes c = by (nat_lt c 128) (nat_lt c 2048) (nat_lt c 65536)
  where
    by : (x y z : Bool) → length (cond x (c ∷ []) (cond y ((192 + c / 64) ∷ next c ∷ []) (cond z ((224 + c / 4096) ∷ next (c / 64) ∷ next c ∷ []) ((240 + c / 262144) ∷ next (c / 4096) ∷ next (c / 64) ∷ next c ∷ [])))) ≤ 4
    by true y z = omega arith
    by false true z = omega arith
    by false false true = omega arith
    by false false false = omega arith

abbrev plain : List ℕ → Bool
plain bs = list_all (λ b. nat_le 32 b) bs

plain_one : (c : ℕ) → plain (encode c) ≡ true → nat_le 32 c ≡ true
plain_one c h = by (nat_lt c 128) refl
  where
    by : (x : Bool) → nat_lt c 128 ≡ x → nat_le 32 c ≡ true
    by true e = (and_parts (nat_le 32 c) true (subst (λ bs. plain bs ≡ true) (encode_ascii c (ltb-true c 128 e)) h)).0
    by false e = grind (arith, nat_tests)

-- ---- texts

all_starts : (cs : List ℕ) → starts (encodes cs) ≡ length cs
all_starts [] = refl
all_starts (c ∷ cs) = let e = sum_by-append (λ (x : ℕ). cond (is_start x) 1 0) (encode c) (encodes cs) in let f = one_start c in let ih = all_starts cs in omega (arith, e, f, ih)

all_bytes : (cs : List ℕ) → length (encodes cs) ≤ 4 * length cs
all_bytes [] = omega arith
all_bytes (c ∷ cs) = let e = length-append (encode c) (encodes cs) in let f = four_bytes c in let ih = all_bytes cs in omega (arith, e, f, ih)

all_plain : (cs : List ℕ) → plain (encodes cs) ≡ true → plain cs ≡ true
all_plain [] h = refl
all_plain (c ∷ cs) h =
    let p = and_parts (plain (encode c)) (plain (encodes cs)) (sym (list_all-append (λ b. nat_le 32 b) (encode c) (encodes cs)) ∙ h) in
    and_from (nat_le 32 c) (plain cs) (plain_one c p.0) (all_plain cs p.1)

-- a short text has few bytes
pub short_size : (text : List ℕ) → is_text text ≡ true → is_short text ≡ true → length text < 2 ^ 16
unfolding is_text is_short
short_size text form short =
    let u = IsUtf8-from_is_utf8 text (and_parts (is_utf8 text) (list_all (λ c. nat_le 32 c) (chars text)) form).0 in
    let n = all_bytes (chars text) in
    let e = ap (λ (bs : List ℕ). length bs) (encodes-chars text u) in
    let few = leb-true (length (chars text)) 255 short in
    omega (arith, n, e, few)

inside_plain : (q : ℕ) (bs : List ℕ) → list_all (is_inside q) bs ≡ true → plain bs ≡ true
inside_plain q [] h = refl
inside_plain q (b ∷ bs) h =
    let p = and_parts (is_inside q b) (list_all (is_inside q) bs) h in
    and_from (nat_le 32 b) (plain bs) (and_parts (nat_le 32 b) (not (b == q)) p.0).0 (inside_plain q bs p.1)

record IsInner (text : List ℕ) : Type 0 where
  all : plain (text_of text) ≡ true
  few : nat_le (starts (text_of text)) 255 ≡ true

inner : (text : List ℕ) → leaf.is_text text ≡ true → IsInner text
unfolding leaf.is_text
inner [] h = absurd cc
inner (q ∷ bs) h =
    let inside = list_all (is_inside q) (text_of (q ∷ bs)) in
    let few = nat_le (starts (text_of (q ∷ bs))) 255 in
    let a = and_parts (is_quote q) (begins q (drop (length bs - 1) bs) && (inside && few)) h in
    let b = and_parts (begins q (drop (length bs - 1) bs)) (inside && few) a.1 in
    let c = and_parts inside few b.1 in
    record { all = inside_plain q (text_of (q ∷ bs)) c.0; few = c.1 }

between : (text : List ℕ) → is_utf8 text ≡ true → leaf.is_text text ≡ true → IsUtf8 (text_of text)
between text utf8 h =
    let u = IsUtf8-from_is_utf8 text utf8 in
    subst IsUtf8 (inside_is text h) (IsUtf8-between text 1 (length text - 1) u (let q = (quotes text h).0 in omega (arith, q)) (first_cut text u h) (last_cut text h))

pub text_fits : (text : List ℕ) → is_utf8 text ≡ true → leaf.is_text text ≡ true → TextFits (text_of text)
unfolding is_text is_short
text_fits text utf8 h =
    let u = between text utf8 h in
    let e = encodes-chars (text_of text) u in
    let i = inner text h in
    let form : is_text (text_of text) ≡ true = and_from (is_utf8 (text_of text)) (plain (chars (text_of text))) (is_utf8-from_IsUtf8 (text_of text) u) (all_plain (chars (text_of text)) (ap plain e ∙ i.all)) in
    let n : length (chars (text_of text)) ≡ starts (text_of text) = sym (all_starts (chars (text_of text))) ∙ ap starts e in
    let short : is_short (text_of text) ≡ true = ap (λ k. nat_le k 255) n ∙ i.few in
    record { size = short_size (text_of text) form short; form = form; short = short }
