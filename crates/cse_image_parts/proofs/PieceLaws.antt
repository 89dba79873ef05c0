-- The pieces of a text come one after the other, within the text.
use Rattle.std.proofs.Common.{◌≡◌, ℕ, zero, suc, ◌-◌, ◌≤◌, List, [], ◌∷◌, length, take, drop, Option, Some, None, option_map, refl, ap, arith}
use Rattle.std.specs.List.{filter_map}
use Rattle.std.proofs.lemmas.List.{take_rest}
use Rattle.cse_image_parts.specs.declared.placeholders.Piece.{Piece}
use Rattle.cse_image_parts.specs.Placeholders.{pieces_after, pieces_of, piece_at, argument_of}

-- bytes of the piece before are passed over
skipped : (skip : ℕ) (text : List ℕ) → pieces_after skip text ≡ pieces_of (drop skip text)
unfolding pieces_after
skipped zero [] = refl
skipped (suc skip) [] = refl
skipped zero (c ∷ rest) = refl
skipped (suc skip) (c ∷ rest) = skipped skip rest

pub next_piece : (c : ℕ) (rest : List ℕ) → pieces_of (c ∷ rest) ≡ (piece_at c rest).0 ∷ pieces_of (drop (piece_at c rest).1 rest)
unfolding pieces_after
next_piece c rest = ap (λ (ps : List Piece). (piece_at c rest).0 ∷ ps) (skipped (piece_at c rest).1 rest)

pub no_pieces : (text : List ℕ) → length text ≡ 0 → pieces_of text ≡ []
unfolding pieces_after
no_pieces [] e = refl
no_pieces (c ∷ rest) e = absurd (omega (arith, e))

-- ---- how many there are

pub few_pieces : (skip : ℕ) (text : List ℕ) → length (pieces_after skip text) ≤ length text
unfolding pieces_after
few_pieces skip [] = omega arith
few_pieces zero (c ∷ rest) = omega (arith, few_pieces (piece_at c rest).1 rest)
few_pieces (suc skip) (c ∷ rest) = omega (arith, few_pieces skip rest)

mapped_step : {X Y : Type 0} (h : X → Option Y) (x : X) (xs : List X) (y : Option Y) → h x ≡ y → length (filter_map h xs) ≤ length xs → length (filter_map h (x ∷ xs)) ≤ length (x ∷ xs)
mapped_step h x xs None e le = rw e (omega (arith, le))
mapped_step h x xs (Some y) e le = rw e (omega (arith, le))

pub few_mapped : {X Y : Type 0} (h : X → Option Y) (xs : List X) → length (filter_map h xs) ≤ length xs
few_mapped h [] = omega arith
few_mapped h (x ∷ xs) = mapped_step h x xs (h x) refl (few_mapped h xs)

-- ---- what calls return

pub first_found : (text : List ℕ) (c : ℕ) (rest : List ℕ) (found : Piece × ℕ) → text ≡ c ∷ rest → found ≡ piece_at c rest → pieces_of text ≡ found.0 ∷ pieces_of (take (length rest - found.1) (drop found.1 rest))
first_found text c rest found e is =
    let whole : take (length rest - found.1) (drop found.1 rest) ≡ drop found.1 rest = take_rest rest found.1 in
    rw (e, whole, is) (next_piece c rest)

pub few_kinds : (text : List ℕ) → length (filter_map argument_of (pieces_of text)) ≤ length text
few_kinds text = omega (arith, few_mapped argument_of (pieces_of text), few_pieces 0 text)

pub unmapped : {X : Type 0} (o : Option X) → option_map (λ (x : X). x) o ≡ o
unmapped None = refl
unmapped (Some x) = refl
