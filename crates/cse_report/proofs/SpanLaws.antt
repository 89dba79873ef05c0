-- Texts between places stay where they are as bytes are added.
use Rattle.std.proofs.Common.{◌≡◌, ℕ, zero, suc, ◌+◌, ◌-◌, ◌<◌, ◌≤◌, List, [], ◌∷◌, ◌++◌, length, drop, take, get_or, refl, ap, sym, ◌∙◌, subst, arith}
use Rattle.std.specs.Str.{IsUtf8}
use Rattle.std.proofs.Math.Seq.{drop-append-add}
use Rattle.std.proofs.lemmas.List.{take-append-le, drop-append-le, length-drop, length-append}
use Rattle.cse_report.specs.declared.spans.TextSpan.{TextSpan}
use Rattle.cse_report.specs.Spans.{text_at, texts_at, IsText, AreTexts, moved}

pub text_at-append : (bytes more : List ℕ) (s : TextSpan) → s.start ≤ s.end → s.end ≤ length bytes → text_at (bytes ++ more) s ≡ text_at bytes s
text_at-append bytes more s ordered inside =
    let from : s.start ≤ length bytes = omega arith in
    let room : s.end - s.start ≤ length (drop s.start bytes) = omega (arith, length-drop s.start bytes) in
    ap (λ (l : List ℕ). take (s.end - s.start) l) (drop-append-le s.start bytes more from) ∙ take-append-le (s.end - s.start) (drop s.start bytes) more room

pub text_at-moved : (bytes more : List ℕ) (s : TextSpan) → text_at (bytes ++ more) (moved (length bytes) s) ≡ text_at more s
text_at-moved bytes more s =
    let width : (length bytes + s.end) - (length bytes + s.start) ≡ s.end - s.start = omega arith in
    ap (λ (l : List ℕ). take ((length bytes + s.end) - (length bytes + s.start)) l) (drop-append-add bytes more s.start) ∙ ap (λ n. take n (drop s.start more)) width

IsText-append : (bytes more : List ℕ) (s : TextSpan) → IsText bytes s → IsText (bytes ++ more) s
IsText-append bytes more s t = record {
  ordered = t.ordered;
  inside = omega (arith, length-append bytes more, t.inside);
  utf8 = subst (λ (l : List ℕ). IsUtf8 l) (sym (text_at-append bytes more s t.ordered t.inside)) t.utf8;
}

IsText-moved : (bytes more : List ℕ) (s : TextSpan) → IsText more s → IsText (bytes ++ more) (moved (length bytes) s)
IsText-moved bytes more s t = record {
  ordered = omega (arith, t.ordered);
  inside = omega (arith, length-append bytes more, t.inside);
  utf8 = subst (λ (l : List ℕ). IsUtf8 l) (sym (text_at-moved bytes more s)) t.utf8;
}

pub AreTexts-append : (bytes more : List ℕ) (spans : List TextSpan) → AreTexts bytes spans → AreTexts (bytes ++ more) spans
AreTexts-append bytes more [] t = tt
AreTexts-append bytes more (s ∷ spans) t = (IsText-append bytes more s t.0, AreTexts-append bytes more spans t.1)

pub texts_at-append : (bytes more : List ℕ) (spans : List TextSpan) → AreTexts bytes spans → texts_at (bytes ++ more) spans ≡ texts_at bytes spans
texts_at-append bytes more [] t = refl
texts_at-append bytes more (s ∷ spans) t =
    ap (λ (l : List ℕ). l ∷ texts_at (bytes ++ more) spans) (text_at-append bytes more s t.0.ordered t.0.inside) ∙ ap (λ (ls : List (List ℕ)). text_at bytes s ∷ ls) (texts_at-append bytes more spans t.1)

-- a text more
pub AreTexts-more : (bytes more : List ℕ) (spans : List TextSpan) (s : TextSpan) → AreTexts bytes spans → IsText more s → AreTexts (bytes ++ more) (spans ++ moved (length bytes) s ∷ [])
AreTexts-more bytes more [] s t u = (IsText-moved bytes more s u, tt)
AreTexts-more bytes more (x ∷ spans) s t u = (IsText-append bytes more x t.0, AreTexts-more bytes more spans s t.1 u)

pub texts_at-more : (bytes more : List ℕ) (spans : List TextSpan) (s : TextSpan) → AreTexts bytes spans → texts_at (bytes ++ more) (spans ++ moved (length bytes) s ∷ []) ≡ texts_at bytes spans ++ text_at more s ∷ []
texts_at-more bytes more [] s t = ap (λ (l : List ℕ). l ∷ []) (text_at-moved bytes more s)
texts_at-more bytes more (x ∷ spans) s t =
    ap (λ (l : List ℕ). l ∷ texts_at (bytes ++ more) (spans ++ moved (length bytes) s ∷ [])) (text_at-append bytes more x t.0.ordered t.0.inside)
    ∙ ap (λ (ls : List (List ℕ)). text_at bytes x ∷ ls) (texts_at-more bytes more spans s t.1)

-- the text of a number
pub IsText-at : (bytes : List ℕ) (spans : List TextSpan) (i : ℕ) (d : TextSpan) → AreTexts bytes spans → i < length spans → IsText bytes (get_or spans i d)
IsText-at bytes [] i d t h = absurd (omega arith)
IsText-at bytes (x ∷ spans) zero d t h = t.0
IsText-at bytes (x ∷ spans) (suc i) d t h = IsText-at bytes spans i d t.1 (omega arith)
