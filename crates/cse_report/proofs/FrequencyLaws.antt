-- The table of an item counts the values imputed to it in a run.
use Rattle.std.proofs.Common.{◌≡◌, ℕ, ◌+◌, ◌<◌, ◌≤◌, true, false, Bool, eqb, cond, ◌||◌, List, [], ◌∷◌, ◌++◌, length, get_or, replicate, refl, ap, sym, ◌∙◌, subst, append_assoc, append-nil, inl, inr, arith}
use Rattle.std.specs.Prelude.{map}
use Rattle.std.specs.List.{list_any}
use Rattle.std.proofs.lemmas.List.{get_or-set_other, length-set, length-replicate, get_or-replicate, map-append}
use Rattle.std.proofs.lemmas.Grind.{get_or-set_at}
use Rattle.std.proofs.lemmas.Bool.{cases_Bool, cases_eq, eq-eqb, ne_eqb, false≢true, false_from_ne_true, or_parts, or_from, or_left, or_right, or_cases}
use Rattle.std.proofs.lemmas.Bool.Decides.{Decides-int_eq}
use Rattle.cse_value.specs.declared.number.Num.{Num}
use Rattle.cse_value.specs.declared.number.Num.TheVariants.{Whole, NotAppl, Missing, Undef}
use Rattle.cse_value.specs.Number.{is_same}
use Rattle.cse_report.specs.Counts.{most_count, capped, one_more}
use Rattle.cse_report.specs.Frequency.{Table, tallied, imputed, values_of, times_of, first_ones, all_imputed, CountsTheRun}

-- ---- the same value

same_refl : (v : Num) → is_same v v ≡ true
same_refl (Whole z) = (Decides-int_eq z z).1 refl
same_refl NotAppl = refl
same_refl Missing = refl
same_refl Undef = refl

same_eq : (v w : Num) → is_same v w ≡ true → v ≡ w
same_eq (Whole x) (Whole y) e = ap Whole ((Decides-int_eq x y).0 e)
same_eq (Whole x) NotAppl e = absurd (false≢true e)
same_eq (Whole x) Missing e = absurd (false≢true e)
same_eq (Whole x) Undef e = absurd (false≢true e)
same_eq NotAppl (Whole y) e = absurd (false≢true e)
same_eq NotAppl NotAppl e = refl
same_eq NotAppl Missing e = absurd (false≢true e)
same_eq NotAppl Undef e = absurd (false≢true e)
same_eq Missing (Whole y) e = absurd (false≢true e)
same_eq Missing NotAppl e = absurd (false≢true e)
same_eq Missing Missing e = refl
same_eq Missing Undef e = absurd (false≢true e)
same_eq Undef (Whole y) e = absurd (false≢true e)
same_eq Undef NotAppl e = absurd (false≢true e)
same_eq Undef Missing e = absurd (false≢true e)
same_eq Undef Undef e = refl

same_back : (v w : Num) → is_same v w ≡ true → is_same w v ≡ true
same_back v w e = subst (λ (x : Num). is_same x v ≡ true) (same_eq v w e) (same_refl v)

other_back : (v w : Num) → is_same v w ≡ false → is_same w v ≡ false
other_back v w e = false_from_ne_true (is_same w v) (λ t. false≢true (sym e ∙ same_back w v t))

-- ---- values that are known

abbrev known : Num → List Num → Bool
known v ks = list_any (is_same v) ks

abbrev keys : Table → List Num
keys t = map (λ e. e.0) t

known_left : (v : Num) (ks ls : List Num) → known v ks ≡ true → known v (ks ++ ls) ≡ true
known_left v [] ls e = absurd (false≢true e)
known_left v (k ∷ ks) ls e = elim (or_cases (is_same v k) (known v ks) e) as (λ _. (is_same v k || known v (ks ++ ls)) ≡ true) [
  | inl h ↦ or_left (is_same v k) (known v (ks ++ ls)) h
  | inr h ↦ or_right (is_same v k) (known v (ks ++ ls)) (known_left v ks ls h)
]

known_last : (v : Num) (ks : List Num) → known v (ks ++ v ∷ []) ≡ true
known_last v [] = or_left (is_same v v) false (same_refl v)
known_last v (k ∷ ks) = or_right (is_same v k) (known v (ks ++ v ∷ [])) (known_last v ks)

unknown_more : (v w : Num) (ks : List Num) → known v ks ≡ false → is_same v w ≡ false → known v (ks ++ w ∷ []) ≡ false
unknown_more v w [] e h = or_from (is_same v w) false h refl
unknown_more v w (k ∷ ks) e h = let p = or_parts (is_same v k) (known v ks) e in or_from (is_same v k) (known v (ks ++ w ∷ [])) p.0 (unknown_more v w ks p.1 h)

-- ---- tables of different values

abbrev Different : List Num → Type 0
Different [] = Unit {0}
Different (k ∷ ks) = (known k ks ≡ false) × Different ks

different_more : (v : Num) (ks : List Num) → Different ks → known v ks ≡ false → Different (ks ++ v ∷ [])
different_more v [] d e = (refl, tt)
different_more v (k ∷ ks) d e = let p = or_parts (is_same v k) (known v ks) e in (unknown_more k v ks d.0 (other_back v k p.0), different_more v ks d.1 p.1)

abbrev Small : Table → Type 0
Small [] = Unit {0}
Small (e ∷ es) = (e.1 ≤ most_count) × Small es

small_step : (b : Bool) (v : Num) (e : Num × ℕ) (es : Table) → Small (e ∷ es) → Small (tallied v es) → Small (cond b ((e.0, one_more e.1) ∷ es) (e ∷ tallied v es))
small_step true v e es s t = (omega arith, s.1)
small_step false v e es s t = (s.0, t)

small_tallied : (v : Num) (t : Table) → Small t → Small (tallied v t)
small_tallied v [] s = (omega arith, tt)
small_tallied v (e ∷ es) s = small_step (is_same v e.0) v e es s (small_tallied v es s.1)

-- ---- a value more

rest : (b c : Bool) → b ≡ false → (b || c) ≡ true → c ≡ true
rest true c e h = absurd (false≢true (sym e))
rest false c e h = h

keys_step : (b : Bool) (v : Num) (e : Num × ℕ) (es : Table) → (b ≡ false → keys (tallied v es) ≡ keys es) → keys (cond b ((e.0, one_more e.1) ∷ es) (e ∷ tallied v es)) ≡ keys (e ∷ es)
keys_step true v e es h = refl
keys_step false v e es h = ap (λ (l : List Num). e.0 ∷ l) (h refl)

keys_stay : (v : Num) (t : Table) → known v (keys t) ≡ true → keys (tallied v t) ≡ keys t
keys_stay v [] h = absurd (false≢true h)
keys_stay v (e ∷ es) h = keys_step (is_same v e.0) v e es (λ n. keys_stay v es (rest (is_same v e.0) (known v (keys es)) n h))

tallied_new : (v : Num) (t : Table) → known v (keys t) ≡ false → tallied v t ≡ t ++ (v, 1) ∷ []
tallied_new v [] h = refl
tallied_new v (e ∷ es) h = let p = or_parts (is_same v e.0) (known v (keys es)) h in rw p.0 (ap (λ (l : Table). e ∷ l) (tallied_new v es p.1))

-- ---- the counts in the end

abbrev later : List Num → Num × ℕ → Num × ℕ
later vs e = (e.0, capped (e.1 + times_of e.0 vs))

abbrev fresh : List Num → Num → Num × ℕ
fresh vs v = (v, capped (times_of v vs))

later_other : (v : Num) (vs : List Num) (e : Num × ℕ) → is_same v e.0 ≡ false → later vs e ≡ later (v ∷ vs) e
later_other v vs e h =
    let none : capped (e.1 + times_of e.0 vs) ≡ capped (e.1 + (0 + times_of e.0 vs)) = omega arith in
    ap (λ n. (e.0, n)) (none ∙ ap (λ (b : Bool). capped (e.1 + ((cond b 1 0) + times_of e.0 vs))) (sym (other_back v e.0 h)))

later_here : (v : Num) (vs : List Num) (e : Num × ℕ) → is_same v e.0 ≡ true → later vs (e.0, one_more e.1) ≡ later (v ∷ vs) e
later_here v vs e h =
    let more : capped (one_more e.1 + times_of e.0 vs) ≡ capped (e.1 + (1 + times_of e.0 vs)) = omega arith in
    ap (λ n. (e.0, n)) (more ∙ ap (λ (b : Bool). capped (e.1 + ((cond b 1 0) + times_of e.0 vs))) (sym (same_back v e.0 h)))

later_others : (v : Num) (vs : List Num) (t : Table) → known v (keys t) ≡ false → map (later vs) t ≡ map (later (v ∷ vs)) t
later_others v vs [] h = refl
later_others v vs (e ∷ es) h =
    let p = or_parts (is_same v e.0) (known v (keys es)) h in
    ap (λ (x : Num × ℕ). x ∷ map (later vs) es) (later_other v vs e p.0) ∙ ap (λ (l : Table). later (v ∷ vs) e ∷ l) (later_others v vs es p.1)

later_step : (b : Bool) (v : Num) (vs : List Num) (e : Num × ℕ) (es : Table) → is_same v e.0 ≡ b → known e.0 (keys es) ≡ false → (b ≡ false → map (later vs) (tallied v es) ≡ map (later (v ∷ vs)) es)
    → map (later vs) (cond b ((e.0, one_more e.1) ∷ es) (e ∷ tallied v es)) ≡ map (later (v ∷ vs)) (e ∷ es)
later_step true v vs e es s d h =
    let out : known v (keys es) ≡ false = subst (λ (x : Num). known x (keys es) ≡ false) (sym (same_eq v e.0 s)) d in
    ap (λ (x : Num × ℕ). x ∷ map (later vs) es) (later_here v vs e s) ∙ ap (λ (l : Table). later (v ∷ vs) e ∷ l) (later_others v vs es out)
later_step false v vs e es s d h =
    ap (λ (x : Num × ℕ). x ∷ map (later vs) (tallied v es)) (later_other v vs e s) ∙ ap (λ (l : Table). later (v ∷ vs) e ∷ l) (h refl)

later_tallied : (v : Num) (vs : List Num) (t : Table) → known v (keys t) ≡ true → Different (keys t) → map (later vs) (tallied v t) ≡ map (later (v ∷ vs)) t
later_tallied v vs [] h d = absurd (false≢true h)
later_tallied v vs (e ∷ es) h d = later_step (is_same v e.0) v vs e es refl d.0 (λ n. later_tallied v vs es (rest (is_same v e.0) (known v (keys es)) n h) d.1)

later_none : (t : Table) → Small t → map (later []) t ≡ t
later_none [] s = refl
later_none (e ∷ es) s =
    let same : capped (e.1 + 0) ≡ e.1 = omega (arith, s.0) in
    ap (λ n. (e.0, n) ∷ map (later []) es) same ∙ ap (λ (l : Table). e ∷ l) (later_none es s.1)

-- ---- values that come first later

fresh_other : (v w : Num) (vs : List Num) → is_same w v ≡ false → fresh vs w ≡ fresh (v ∷ vs) w
fresh_other v w vs h =
    let none : capped (times_of w vs) ≡ capped (0 + times_of w vs) = omega arith in
    ap (λ n. (w, n)) (none ∙ ap (λ (b : Bool). capped ((cond b 1 0) + times_of w vs)) (sym h))

fresh_step : (b : Bool) (v w : Num) (all ws ks : List Num) → known w ks ≡ b → known v ks ≡ true
    → (b ≡ true → map (fresh all) (first_ones ks ws) ≡ map (fresh (v ∷ all)) (first_ones ks ws))
    → (b ≡ false → map (fresh all) (first_ones (ks ++ w ∷ []) ws) ≡ map (fresh (v ∷ all)) (first_ones (ks ++ w ∷ []) ws))
    → map (fresh all) (cond b (first_ones ks ws) (w ∷ first_ones (ks ++ w ∷ []) ws)) ≡ map (fresh (v ∷ all)) (cond b (first_ones ks ws) (w ∷ first_ones (ks ++ w ∷ []) ws))
fresh_step true v w all ws ks e k at_true at_false = at_true refl
fresh_step false v w all ws ks e k at_true at_false =
    let other : is_same w v ≡ false = false_from_ne_true (is_same w v) (λ s. false≢true (sym e ∙ subst (λ (x : Num). known x ks ≡ true) (sym (same_eq w v s)) k)) in
    ap (λ (x : Num × ℕ). x ∷ map (fresh all) (first_ones (ks ++ w ∷ []) ws)) (fresh_other v w all other) ∙ ap (λ (l : Table). fresh (v ∷ all) w ∷ l) (at_false refl)

fresh_others : (v : Num) (all ws ks : List Num) → known v ks ≡ true → map (fresh all) (first_ones ks ws) ≡ map (fresh (v ∷ all)) (first_ones ks ws)
fresh_others v all [] ks k = refl
fresh_others v all (w ∷ ws) ks k = fresh_step (known w ks) v w all ws ks refl k (λ e. fresh_others v all ws ks k) (λ e. fresh_others v all ws (ks ++ w ∷ []) (known_left v ks (w ∷ []) k))

-- ---- all values of an item

abbrev tallies : Table → List Num → Table
tallies t [] = t
tallies t (v ∷ vs) = tallies (tallied v t) vs

abbrev end_of : Table → List Num → Table
end_of t vs = map (later vs) t ++ map (fresh vs) (first_ones (keys t) vs)

known_case : (v : Num) (vs : List Num) (t : Table) → known v (keys t) ≡ true → Different (keys t) → end_of (tallied v t) vs ≡ end_of t (v ∷ vs)
known_case v vs t k d =
    ap (λ (l : Table). l ++ map (fresh vs) (first_ones (keys (tallied v t)) vs)) (later_tallied v vs t k d)
    ∙ (ap (λ (ks : List Num). map (later (v ∷ vs)) t ++ map (fresh vs) (first_ones ks vs)) (keys_stay v t k)
    ∙ (ap (λ (l : Table). map (later (v ∷ vs)) t ++ l) (fresh_others v vs vs (keys t) k)
    ∙ ap (λ (b : Bool). map (later (v ∷ vs)) t ++ map (fresh (v ∷ vs)) (cond b (first_ones (keys t) vs) (v ∷ first_ones (keys t ++ v ∷ []) vs))) (sym k)))

keys_more : (v : Num) (t : Table) → keys (t ++ (v, 1) ∷ []) ≡ keys t ++ v ∷ []
keys_more v t = map-append (λ (e : Num × ℕ). e.0) t ((v, 1) ∷ [])

new_case : (v : Num) (vs : List Num) (t : Table) → known v (keys t) ≡ false → end_of (tallied v t) vs ≡ end_of t (v ∷ vs)
new_case v vs t k =
    let now : end_of (t ++ (v, 1) ∷ []) vs ≡ (map (later vs) t ++ later vs (v, 1) ∷ []) ++ map (fresh vs) (first_ones (keys t ++ v ∷ []) vs) =
    ap (λ (l : Table). l ++ map (fresh vs) (first_ones (keys (t ++ (v, 1) ∷ [])) vs)) (map-append (later vs) t ((v, 1) ∷ []))
    ∙ ap (λ (ks : List Num). (map (later vs) t ++ later vs (v, 1) ∷ []) ++ map (fresh vs) (first_ones ks vs)) (keys_more v t) in
    let one : later vs (v, 1) ≡ fresh (v ∷ vs) v = ap (λ (b : Bool). (v, capped ((cond b 1 0) + times_of v vs))) (sym (same_refl v)) in
    ap (λ (l : Table). end_of l vs) (tallied_new v t k)
    ∙ (now
    ∙ (append_assoc (map (later vs) t) (later vs (v, 1) ∷ []) (map (fresh vs) (first_ones (keys t ++ v ∷ []) vs))
    ∙ (ap (λ (l : Table). l ++ later vs (v, 1) ∷ map (fresh vs) (first_ones (keys t ++ v ∷ []) vs)) (later_others v vs t k)
    ∙ (ap (λ (x : Num × ℕ). map (later (v ∷ vs)) t ++ x ∷ map (fresh vs) (first_ones (keys t ++ v ∷ []) vs)) one
    ∙ (ap (λ (l : Table). map (later (v ∷ vs)) t ++ fresh (v ∷ vs) v ∷ l) (fresh_others v vs vs (keys t ++ v ∷ []) (known_last v (keys t)))
    ∙ ap (λ (b : Bool). map (later (v ∷ vs)) t ++ map (fresh (v ∷ vs)) (cond b (first_ones (keys t) vs) (v ∷ first_ones (keys t ++ v ∷ []) vs))) (sym k))))))

tallies_are : (vs : List Num) (t : Table) → Different (keys t) → Small t → tallies t vs ≡ end_of t vs
tallies_are [] t d s = sym (append-nil (map (later []) t) ∙ later_none t s)
tallies_are (v ∷ vs) t d s = elim (cases_Bool (known v (keys t))) as (λ _. tallies (tallied v t) vs ≡ end_of t (v ∷ vs)) [
  | inl k ↦ tallies_are vs (tallied v t) (subst (λ (ks : List Num). Different ks) (sym (keys_stay v t k)) d) (small_tallied v t s) ∙ known_case v vs t k d
  | inr k ↦
      let more : keys (tallied v t) ≡ keys t ++ v ∷ [] = ap keys (tallied_new v t k) ∙ keys_more v t in
      tallies_are vs (tallied v t) (subst (λ (ks : List Num). Different ks) (sym more) (different_more v (keys t) d k)) (small_tallied v t s) ∙ new_case v vs t k
]

-- ---- the tables of all items

abbrev with_value : Bool → Num → List Num → List Num
with_value b v vs = cond b (v ∷ vs) vs

table_of_item : (tables : List Table) (run : List (ℕ × Num)) (item : ℕ) → item < length tables → get_or (all_imputed tables run) item [] ≡ tallies (get_or tables item []) (values_of item run)
table_of_item tables [] item h = refl
table_of_item tables (x ∷ xs) item h =
    let next = imputed tables x.0 x.1 in
    let within : item < length next = omega (arith, length-set tables x.0 (tallied x.1 (get_or tables x.0 []))) in
    table_of_item next xs item within ∙ elim (cases_eq x.0 item) as (λ _. tallies (get_or next item []) (values_of item xs) ≡ tallies (get_or tables item []) (with_value (eqb x.0 item) x.1 (values_of item xs))) [
      | inl e ↦
          let inside : x.0 < length tables = omega arith in
          let at : get_or next item [] ≡ tallied x.1 (get_or tables item []) =
          get_or-set_at tables x.0 item (tallied x.1 (get_or tables x.0 [])) [] (sym e) inside ∙ ap (λ n. tallied x.1 (get_or tables n [])) e in
          ap (λ (t : Table). tallies t (values_of item xs)) at ∙ ap (λ (b : Bool). tallies (get_or tables item []) (with_value b x.1 (values_of item xs))) (sym (eq-eqb x.0 item e))
      | inr other ↦
          let at : get_or next item [] ≡ get_or tables item [] = get_or-set_other tables x.0 item (tallied x.1 (get_or tables x.0 [])) [] (λ q. other (sym q)) in
          ap (λ (t : Table). tallies t (values_of item xs)) at ∙ ap (λ (b : Bool). tallies (get_or tables item []) (with_value b x.1 (values_of item xs))) (sym (ne_eqb x.0 item other))
    ]

pub counts_the_run : CountsTheRun
counts_the_run count run item h =
    let empty : List Table = replicate count [] in
    let within : item < length empty = omega (arith, length-replicate {A = Table} count []) in
    let none : get_or empty item [] ≡ [] = get_or-replicate count item [] [] h in
    table_of_item empty run item within ∙ (ap (λ (t : Table). tallies t (values_of item run)) none ∙ tallies_are (values_of item run) [] tt tt)
