-- The pieces of a `Value` line as a list.
use Rattle.std.proofs.Common.{◌≡◌, ◌<◌, ◌+◌, suc, ℕ, Bool, true, false, List, [], ◌∷◌, length, take, drop, get_or, refl, sym, ap, ◌∙◌, arith}
use Rattle.std.specs.Prelude.{◌==◌, if◌then◌else◌}
use Rattle.std.specs.List.{onto_first}
use Rattle.std.proofs.lemmas.Bool.Decides.{nat_tests}
use Rattle.std.proofs.Math.Seq.{drop-cons, drop-length}
use Rattle.std.proofs.lemmas.List.{take_all}
use Rattle.cse_dict.specs.Pairs.{open_after, piece_len, pieces_from, pieces_of}

-- the pieces behind a first one, by the byte that ends it
abbrev pub behind : List ℕ → List (List ℕ)
behind [] = []
behind (b ∷ bs) = if b == 32 then pieces_from false bs else []

module _ (b : ℕ) (bs : List ℕ) where
  end_first : b == 59 ≡ true → pieces_from false (b ∷ bs) ≡ [] ∷ []
  end_first e = rw e refl

  end_len : b == 59 ≡ true → piece_len false (b ∷ bs) ≡ 0
  end_len e = rw e refl

  end_behind : b == 59 ≡ true → behind (b ∷ bs) ≡ []
  end_behind e = let d : b == 32 ≡ false = grind (arith, nat_tests, e) in rw d refl

  blank_first : b == 59 ≡ false → b == 32 ≡ true → pieces_from false (b ∷ bs) ≡ [] ∷ pieces_from false bs
  blank_first e d = rw (e, d) refl

  blank_len : b == 59 ≡ false → b == 32 ≡ true → piece_len false (b ∷ bs) ≡ 0
  blank_len e d = rw (e, d) refl

  blank_behind : b == 32 ≡ true → behind (b ∷ bs) ≡ pieces_from false bs
  blank_behind d = rw d refl

  other_first : b == 59 ≡ false → b == 32 ≡ false → pieces_from false (b ∷ bs) ≡ onto_first b (pieces_from (open_after false b) bs)
  other_first e d = rw (e, d) refl

  other_len : b == 59 ≡ false → b == 32 ≡ false → piece_len false (b ∷ bs) ≡ suc (piece_len (open_after false b) bs)
  other_len e d = rw (e, d) refl

abbrev Cuts : Bool → List ℕ → ℕ → Type 0
Cuts q bs n = pieces_from q bs ≡ take n bs ∷ behind (drop n bs)

cut_more : (q : Bool) (b : ℕ) (bs : List ℕ) → (0 < length bs → Cuts q bs (piece_len q bs))
    → onto_first b (pieces_from q bs) ≡ take (suc (piece_len q bs)) (b ∷ bs) ∷ behind (drop (suc (piece_len q bs)) (b ∷ bs))
cut_more q b [] rest = refl
cut_more q b (c ∷ cs) rest = ap (onto_first b) (rest (omega arith))

-- the first piece of a text that isn't empty
pieces_first : (bs : List ℕ) (q : Bool) → 0 < length bs → Cuts q bs (piece_len q bs)
pieces_first [] q h = absurd (omega (arith, h))
pieces_first (b ∷ bs) true h = cut_more (open_after true b) b bs (pieces_first bs (open_after true b))
pieces_first (b ∷ bs) false h = by (cut_more (open_after false b) b bs (pieces_first bs (open_after false b))) (b == 59) (b == 32) refl refl
  where
    by : onto_first b (pieces_from (open_after false b) bs) ≡ take (suc (piece_len (open_after false b) bs)) (b ∷ bs) ∷ behind (drop (suc (piece_len (open_after false b) bs)) (b ∷ bs))
        → (u v : Bool) → b == 59 ≡ u → b == 32 ≡ v → Cuts false (b ∷ bs) (piece_len false (b ∷ bs))
    by more true v e d =
        end_first b bs e ∙ ap (λ ps. [] ∷ ps) (sym (end_behind b bs e)) ∙ ap (λ n. take n (b ∷ bs) ∷ behind (drop n (b ∷ bs))) (sym (end_len b bs e))
    by more false true e d =
        blank_first b bs e d ∙ ap (λ ps. [] ∷ ps) (sym (blank_behind b bs d)) ∙ ap (λ n. take n (b ∷ bs) ∷ behind (drop n (b ∷ bs))) (sym (blank_len b bs e d))
    by more false false e d =
        other_first b bs e d ∙ more ∙ ap (λ n. take n (b ∷ bs) ∷ behind (drop n (b ∷ bs))) (sym (other_len b bs e d))

behind_at : (x : ℕ) (bs : List ℕ) (v : Bool) → x == 32 ≡ v → behind (x ∷ bs) ≡ (if v then pieces_from false bs else [])
behind_at x bs v e = rw e refl

module _ (bs : List ℕ) (n : ℕ) (is : n ≡ piece_len false bs) where
  cut_at : 0 < length bs → pieces_of bs ≡ take n bs ∷ behind (drop n bs)
  unfolding pieces_of
  cut_at h = pieces_first bs false h ∙ ap (λ k. take k bs ∷ behind (drop k bs)) (sym is)

  -- a piece that ends at a blank
  pub pieces_of-blank : n < length bs → (get_or bs n 0 == 32) ≡ true → pieces_of bs ≡ take n bs ∷ pieces_of (drop (n + 1) bs)
  unfolding pieces_of
  pieces_of-blank h e =
      let next : suc n ≡ n + 1 = omega arith in
      cut_at (omega (arith, h)) ∙ ap (λ cs. take n bs ∷ behind cs) (drop-cons bs n 0 h)
      ∙ ap (λ ps. take n bs ∷ ps) (behind_at (get_or bs n 0) (drop (suc n) bs) true e)
      ∙ ap (λ k. take n bs ∷ pieces_from false (drop k bs)) next

  -- a piece that ends at a `;`
  pub pieces_of-end : n < length bs → (get_or bs n 0 == 32) ≡ false → pieces_of bs ≡ take n bs ∷ pieces_of []
  unfolding pieces_of
  pieces_of-end h e =
      cut_at (omega (arith, h)) ∙ ap (λ cs. take n bs ∷ behind cs) (drop-cons bs n 0 h)
      ∙ ap (λ ps. take n bs ∷ ps) (behind_at (get_or bs n 0) (drop (suc n) bs) false e)

  -- a piece that ends with the text
  pub pieces_of-whole : 0 < length bs → n ≡ length bs → pieces_of bs ≡ bs ∷ pieces_of []
  unfolding pieces_of
  pieces_of-whole h e =
      cut_at h ∙ ap (λ k. take k bs ∷ behind (drop k bs)) e ∙ ap (λ p. p ∷ behind (drop (length bs) bs)) (take_all (length bs) bs (omega arith)) ∙ ap (λ cs. bs ∷ behind cs) (drop-length bs)
