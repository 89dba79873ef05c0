use Rattle.std.proofs.Common.{◌<◌, ◌∙◌, ◌≤◌, List, arith, inr, length, subst, sym, ℕ}
use Rattle.cse_command_parts.proofs.FileLaws.{all_of}
use Rattle.cse_command_parts.proofs.files.file_text.Goals as goal

no_more : (most n : ℕ) → n ≤ most → most < n → ⊥
no_more most n p q = omega arith

pub returns-clause-all : goal.returns-clause-all
returns-clause-all g c =
    all_of _ _ _ c.in_ok-text.ensures.whole
    (no_more 268435456 (length c.in_ok-text.text.bytes.items) (subst (λ (l : List ℕ). length l ≤ 268435456) c.bytes.ensures c.if-bytes-gt-MOST_TEXT.false))

pub returns-then-bytes-gt-MOST_TEXT-clause-no_text : goal.returns-then-bytes-gt-MOST_TEXT-clause-no_text
returns-then-bytes-gt-MOST_TEXT-clause-no_text g c =
    inr
    (record {
      file = c.in_ok-text.text;
      opened = c.in_ok-text.ensures.path;
      long =
          subst (λ (l : List ℕ). 268435456 < length l) (c.bytes.ensures ∙ sym c.in_ok-text.ensures.whole.gave) c.if-bytes-gt-MOST_TEXT.true;
      tells = c.of_number.ensures;
    })
