-- Tables that grow at their end: what stood for an instruction stands for it still.
use Rattle.std.proofs.Common.{◌≡◌, ℕ, ◌+◌, ◌<◌, Bool, true, false, if◌then◌else◌, List, [], ◌∷◌, ◌++◌, map, length, take, get_or, Some, slice_get, nat_eq, refl, sym, ap, subst, ◌∙◌, ℤ}
use Rattle.std.specs.List.{list_any}
use Rattle.std.specs.Ordering.{int_eq}
use Rattle.std.specs.Str.{bytes_eq}
use Rattle.std.proofs.lemmas.List.{append-nil, take_more, map_push}
use Rattle.indexmap.specs.IndexSet.{insert_key}
use Rattle.cse_lemmas.proofs.Lists.{slice_get_append_left}
use Rattle.cse_image_parts.specs.declared.instruction.Instr.{Instr}
use Rattle.cse_compile.specs.Pools.{PoolLists, with_constant, with_limit, with_text}
use Rattle.cse_compile.specs.Wide.{Wide, Constant, Chars, Turns, Plain, wide}
use Rattle.cse_compile.specs.declared.wide.Wide as rust
use Rattle.cse_compile.specs.Stands.{Stands, AllStand, Begins, IsMore}

-- ---- growth

same : {A : Type 0} (xs : List A) → Begins xs xs
same xs = ([], sym (append-nil xs))

added : {A : Type 0} (eq : A → A → Bool) (xs : List A) (x : A) → Begins xs (insert_key eq xs x)
added {A} eq xs x = by (list_any (eq x) xs)
  where
    by : (b : Bool) → Begins xs (if b then xs else xs ++ x ∷ [])
    by true = same xs
    by false = (x ∷ [], refl)

pub more_none : (p q : PoolLists) → q ≡ p → IsMore p q
more_none p q e = subst (IsMore p) (sym e) (record { constants = same p.constants; limits = same p.limits; texts = same p.texts })

pub more_constant : (p q : PoolLists) (z : ℤ) → q ≡ with_constant p z → IsMore p q
more_constant p q z e = subst (IsMore p) (sym e) (record { constants = added int_eq p.constants z; limits = same p.limits; texts = same p.texts })

pub more_limit : (p q : PoolLists) (n : ℕ) → q ≡ with_limit p n → IsMore p q
more_limit p q n e = subst (IsMore p) (sym e) (record { constants = same p.constants; limits = added nat_eq p.limits n; texts = same p.texts })

pub more_text : (p q : PoolLists) (t : List ℕ) → q ≡ with_text p t → IsMore p q
more_text p q t e = subst (IsMore p) (sym e) (record { constants = same p.constants; limits = same p.limits; texts = added bytes_eq p.texts t })

-- ---- what stands in a table stands in a longer one

begun : {A : Type 0} (xs ys : List A) (i : ℕ) (x : A) → Begins xs ys → slice_get xs i ≡ Some x → slice_get ys i ≡ Some x
begun xs ys i x m h = subst (λ zs. slice_get zs i ≡ Some x) (sym m.1) (slice_get_append_left xs m.0 i x h)

stands_still : (p q : PoolLists) (i : Instr) (w : Wide) → IsMore p q → Stands p i w → Stands q i w
stands_still p q i (Constant z) m h = (h.0, begun p.constants q.constants i.c z m.constants h.1)
stands_still p q i (Chars text) m h = (h.0, begun p.texts q.texts i.c text m.texts h.1)
stands_still p q i (Turns limit end) m h = (h.0, begun p.limits q.limits i.b limit m.limits h.1)
stands_still p q i (Plain op a b c) m h = h

-- one instruction more
all_and : (p q : PoolLists) (is : List Instr) (i : Instr) (ws : List Wide) (w : Wide) → IsMore p q → AllStand p is ws → Stands q i w → AllStand q (is ++ i ∷ []) (ws ++ w ∷ [])
all_and p q [] i [] w m h s = (s, tt)
all_and p q (x ∷ xs) i (y ∷ ys) w m h s = (stands_still p q x y m h.0, all_and p q xs i ys w m h.1 s)
all_and p q [] i (y ∷ ys) w m h s = absurd h
all_and p q (x ∷ xs) i [] w m h s = absurd h

pub stands_more : (p q : PoolLists) (is js : List Instr) (ws : List rust.Wide) (k : ℕ) (w d : rust.Wide) (x : Instr) → IsMore p q → AllStand p is (map wide (take k ws)) → k < length ws → w ≡ get_or ws k d → Stands q x (wide w) → js ≡ is ++ x ∷ [] → AllStand q js (map wide (take (k + 1) ws))
stands_more p q is js ws k w d x m h lt same_w s e =
    let more : take (k + 1) ws ≡ take k ws ++ w ∷ [] = subst (λ (y : rust.Wide). take (k + 1) ws ≡ take k ws ++ y ∷ []) (sym same_w) (take_more ws k d lt) in
    subst (λ (ys : List Instr). AllStand q ys (map wide (take (k + 1) ws))) (sym e)
    (subst (λ (ys : List Wide). AllStand q (is ++ x ∷ []) ys) (sym (ap (map wide) more ∙ map_push wide (take k ws) w)) (all_and p q is x (map wide (take k ws)) (wide w) m h s))
