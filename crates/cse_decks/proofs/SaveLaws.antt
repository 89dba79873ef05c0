-- Lines of one array, or one cell, more.
use Rattle.std.proofs.Common.{◌≡◌, ℕ, zero, suc, ◌+◌, ◌<◌, List, [], ◌∷◌, ◌++◌, length, take, get_or, ap, sym, ◌∙◌, append_assoc, append-nil, add-one, arith}
use Rattle.std.specs.Prelude.{map}
use Rattle.std.specs.List.{flat_map}
use Rattle.cse_value.specs.declared.number.Num.{Num}
use Rattle.cse_image_parts.specs.declared.entries.Array.{Array}
use Rattle.cse_image_parts.specs.Image.{array_lists}
use Rattle.cse_decks.specs.Deck.{blocks, saved_block}

flat_map_suc : {A : Type 0} (f : A → List ℕ) (xs : List A) (i : ℕ) (x : A) → i < length xs → x ≡ get_or xs i x → flat_map f (take (suc i) xs) ≡ flat_map f (take i xs) ++ f x
flat_map_suc f [] i x h e = absurd (omega arith)
flat_map_suc f (y ∷ xs) zero x h e = append-nil (f y) ∙ ap f (sym e)
flat_map_suc f (y ∷ xs) (suc i) x h e = ap (λ l. f y ++ l) (flat_map_suc f xs i x (omega arith) e) ∙ sym (append_assoc (f y) (flat_map f (take i xs)) (f x))

pub flat_map_more : {A : Type 0} (f : A → List ℕ) (xs : List A) (i : ℕ) (x : A) → i < length xs → x ≡ get_or xs i x → flat_map f (take i xs) ++ f x ≡ flat_map f (take (i + 1) xs)
flat_map_more f xs i x h e = sym (rw add-one (flat_map_suc f xs i x h e))

blocks_suc : (arrays : List Array) (cells : List (List Num)) (i : ℕ) (a : Array) (c : List Num) → i < length arrays → i < length cells → a ≡ get_or arrays i a → c ≡ get_or cells i c
    → blocks (map array_lists (take (suc i) arrays)) (take (suc i) cells) ≡ blocks (map array_lists (take i arrays)) (take i cells) ++ saved_block (array_lists a) c
blocks_suc [] cells i a c h k e f = absurd (omega arith)
blocks_suc (x ∷ xs) [] i a c h k e f = absurd (omega arith)
blocks_suc (x ∷ xs) (y ∷ ys) zero a c h k e f = append-nil (saved_block (array_lists x) y) ∙ (ap (λ (v : Array). saved_block (array_lists v) y) (sym e) ∙ ap (λ (l : List Num). saved_block (array_lists a) l) (sym f))
blocks_suc (x ∷ xs) (y ∷ ys) (suc i) a c h k e f =
    ap (λ l. saved_block (array_lists x) y ++ l) (blocks_suc xs ys i a c (omega arith) (omega arith) e f)
    ∙ sym (append_assoc (saved_block (array_lists x) y) (blocks (map array_lists (take i xs)) (take i ys)) (saved_block (array_lists a) c))

pub blocks_more : (arrays : List Array) (cells : List (List Num)) (i : ℕ) (a : Array) (c : List Num) → i < length arrays → i < length cells → a ≡ get_or arrays i a → c ≡ get_or cells i c
    → blocks (map array_lists (take i arrays)) (take i cells) ++ saved_block (array_lists a) c ≡ blocks (map array_lists (take (i + 1) arrays)) (take (i + 1) cells)
blocks_more arrays cells i a c h k e f = sym (rw (add-one) (blocks_suc arrays cells i a c h k e f))
