-- The messages of a source, one after the other.
use Rattle.std.proofs.Common.{◌≡◌, ℕ, ◌+◌, ◌<◌, ◌≤◌, Bool, true, false, zero, suc, List, [], ◌∷◌, ◌++◌, length, map, drop, drop-cons, get_or, refl, sym, ap, ◌∙◌, append_assoc, arith}
use Rattle.std.specs.Prelude.{◌&&◌}
use Rattle.std.proofs.lemmas.List.{append-nil, drop_all}
use Rattle.std.proofs.lemmas.Bool.{and_parts}
use Rattle.cse_syntax_tree.specs.Tree as syntax
use Rattle.cse_logic_tree.specs.Typed.{MessageEntry}
use Rattle.cse_types.specs.declared.told.Told.{Told}
use Rattle.cse_types.specs.Told.{told_of}
use Rattle.cse_types.specs.Entries.{is_said, are_said}
use Rattle.cse_logic_names.specs.MessageFile.{MessageText}
use Rattle.cse_logic_names.specs.WellTyped.{entry_of}

-- the member at a place is said
pub said_at : (items : List Told) (i : ℕ) (d : Told) → i < length items → are_said (map told_of items) ≡ true → is_said (told_of (get_or items i d)).0 ≡ true
said_at [] i d lt h = absurd (omega (arith, lt))
said_at (x ∷ xs) zero d lt h = (and_parts (is_said (told_of x).0) (are_said (map told_of xs)) h).0
said_at (x ∷ xs) (suc i) d lt h = said_at xs i d (omega (arith, lt)) (and_parts (is_said (told_of x).0) (are_said (map told_of xs)) h).1

module _ (messages : List MessageText) (items : List Told) (i : ℕ) where
  pub entries_turn : (d : Told) → i < length items → (found found' total : List MessageEntry) → found ++ map (entry_of messages) (map told_of (drop i items)) ≡ total → found' ≡ found ++ entry_of messages (told_of (get_or items i d)) ∷ []
      → found' ++ map (entry_of messages) (map told_of (drop (i + 1) items)) ≡ total
  entries_turn d lt found found' total inv e =
      let one : suc i ≡ i + 1 = omega arith in
      let next : drop i items ≡ get_or items i d ∷ drop (i + 1) items = drop-cons items i d lt ∙ ap (λ n. get_or items i d ∷ drop n items) one in
      ap (λ l. l ++ map (entry_of messages) (map told_of (drop (i + 1) items))) e
      ∙ append_assoc found (entry_of messages (told_of (get_or items i d)) ∷ []) (map (entry_of messages) (map told_of (drop (i + 1) items)))
      ∙ ap (λ l. found ++ map (entry_of messages) (map told_of l)) (sym next)
      ∙ inv

  pub entries_end : length items ≤ i → (found total : List MessageEntry) → found ++ map (entry_of messages) (map told_of (drop i items)) ≡ total → found ≡ total
  entries_end le found total inv = sym (append-nil found) ∙ ap (λ l. found ++ map (entry_of messages) (map told_of l)) (sym (drop_all i items le)) ∙ inv
