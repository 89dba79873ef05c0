-- Lines that are put one after the other.
use Rattle.std.proofs.Common.{◌≡◌, ℕ, zero, suc, ◌+◌, ◌<◌, ◌≤◌, min, List, [], ◌∷◌, ◌++◌, length, take, get_or, Option, Some, None, option_map, refl, ap, sym, ◌∙◌, append_assoc, append-nil, add-one, arith}
use Rattle.std.specs.Prelude.{map, slice_get}
use Rattle.std.specs.List.{flat_map, sum_by}
use Rattle.std.specs.Option.{unwrap_or, option_map_or}
use Rattle.std.proofs.lemmas.Option.{get_or_from_slice_get, slice_get-map, unwrap_or-slice_get}
use Rattle.std.proofs.lemmas.List.{take_more}
use Rattle.std.proofs.lemmas.List.Sums.{fold_more}
use Rattle.std.proofs.lemmas.Grind.{flat_map-append}
use Rattle.cse_dict.specs.Dictionary.{DictionaryText, ItemText, item_names, item_name_at}
use Rattle.cse_image_parts.specs.declared.entries.Message.{Message}
use Rattle.cse_image_parts.specs.Image.{message_lists}
use Rattle.cse_report.specs.Listing.{count_line, count_lines}
use Rattle.cse_value.specs.Gathering.{Going, Puts, line}
use Rattle.cse_value.proofs.GatherLaws.{Puts-then, Puts-as}
use Rattle.cse_value.specs.declared.number.Num.{Num}
use Rattle.cse_report.specs.Counts.{most_count, capped}
use Rattle.cse_report.specs.Frequency.{Table, total, item_lines, items_lines}

pub Puts-line : (a b c : Going) (x y : List ℕ) → Puts a b x → Puts b c (line y) → Puts a c (line (x ++ y))
Puts-line a b c x y p q = Puts-as a c (x ++ line y) (line (x ++ y)) (sym (append_assoc x y (10 ∷ []))) (Puts-then a b c x (line y) p q)

-- an element more
pub flat_map-next : {A : Type 0} (f : A → List ℕ) (xs : List A) (i : ℕ) (x : A) → i < length xs → slice_get xs i ≡ Some x → flat_map f (take i xs) ++ f x ≡ flat_map f (take (i + 1) xs)
flat_map-next f xs i x h e =
    let at = get_or_from_slice_get xs i x x e in
    sym
    (ap (flat_map f) (take_more xs i x h)
    ∙ (flat_map-append f (take i xs) (get_or xs i x ∷ []) ∙ (ap (λ (l : List ℕ). flat_map f (take i xs) ++ l) (append-nil (f (get_or xs i x))) ∙ ap (λ y. flat_map f (take i xs) ++ f y) at)))

total_step : (s n : ℕ) → min (min s most_count + n) most_count ≡ min (s + n) most_count
total_step s n = omega arith

pub total-next : (xs : Table) (i n : ℕ) (v : Num) → i < length xs → slice_get xs i ≡ Some (v, n) → min (total (take i xs) + n) most_count ≡ total (take (i + 1) xs)
total-next xs i n v h e =
    let at = get_or_from_slice_get xs i (v, n) (v, n) e in
    total_step (sum_by (λ p. p.1) (take i xs)) n
    ∙ ap capped (sym (fold_more (λ a p. a + p.1) 0 xs i (v, n) h ∙ ap (λ p. sum_by (λ q. q.1) (take i xs) + p.1) at))

-- ---- the items of a dictionary

items_suc : (names : List (List ℕ)) (tables : List Table) (i : ℕ) (name : List ℕ) (table : Table) → i < length names → i < length tables → name ≡ get_or names i [] → table ≡ get_or tables i table
    → items_lines (take (suc i) names) (take (suc i) tables) ≡ items_lines (take i names) (take i tables) ++ item_lines name table
items_suc [] tables i name table h k e f = absurd (omega arith)
items_suc (x ∷ names) [] i name table h k e f = absurd (omega arith)
items_suc (x ∷ names) (t ∷ tables) zero name table h k e f = append-nil (item_lines x t) ∙ (ap (λ (l : List ℕ). item_lines l t) (sym e) ∙ ap (λ (l : Table). item_lines name l) (sym f))
items_suc (x ∷ names) (t ∷ tables) (suc i) name table h k e f =
    ap (λ (l : List ℕ). item_lines x t ++ l) (items_suc names tables i name table (omega arith) (omega arith) e f)
    ∙ sym (append_assoc (item_lines x t) (items_lines (take i names) (take i tables)) (item_lines name table))

pub items-next : (names : List (List ℕ)) (tables : List Table) (i : ℕ) (name : List ℕ) (table : Table) → i < length names → i < length tables → name ≡ get_or names i [] → table ≡ get_or tables i table
    → items_lines (take i names) (take i tables) ++ item_lines name table ≡ items_lines (take (i + 1) names) (take (i + 1) tables)
items-next names tables i name table h k e f = sym (rw add-one (items_suc names tables i name table h k e f))

-- where names or tables end, so do the lines
pub items-all : (names : List (List ℕ)) (tables : List Table) (i : ℕ) → min (length names) (length tables) ≤ i → items_lines (take i names) (take i tables) ≡ items_lines names tables
items-all [] tables zero h = refl
items-all [] tables (suc i) h = refl
items-all (x ∷ names) [] zero h = refl
items-all (x ∷ names) [] (suc i) h = refl
items-all (x ∷ names) (t ∷ tables) zero h = absurd (omega arith)
items-all (x ∷ names) (t ∷ tables) (suc i) h = ap (λ (l : List ℕ). item_lines x t ++ l) (items-all names tables i (omega arith))

named : {A B : Type 0} (f : A → B) (o : Option A) (d : B) → unwrap_or (option_map f o) d ≡ option_map_or f o d
named f None d = refl
named f (Some x) d = refl

pub name-at : (d : DictionaryText) (i : ℕ) → item_name_at d i ≡ get_or (item_names d) i []
name-at d i =
    sym
    (sym (unwrap_or-slice_get (item_names d) i [])
    ∙ (ap (λ (o : Option (List ℕ)). unwrap_or o []) (slice_get-map (λ (x : ItemText). x.name) d.items i) ∙ named (λ (x : ItemText). x.name) (slice_get d.items i) []))

-- ---- the messages of a program

counts_suc : (messages : List Message) (counts : List ℕ) (i : ℕ) (m : Message) → i < length messages → i < length counts → m ≡ get_or messages i m
    → count_lines (map message_lists (take (suc i) messages)) (take (suc i) counts) ≡ count_lines (map message_lists (take i messages)) (take i counts) ++ count_line (message_lists m) (get_or counts i 0)
counts_suc [] counts i m h k e = absurd (omega arith)
counts_suc (x ∷ messages) [] i m h k e = absurd (omega arith)
counts_suc (x ∷ messages) (n ∷ counts) zero m h k e = append-nil (count_line (message_lists x) n) ∙ ap (λ (y : Message). count_line (message_lists y) n) (sym e)
counts_suc (x ∷ messages) (n ∷ counts) (suc i) m h k e =
    ap (λ (l : List ℕ). count_line (message_lists x) n ++ l) (counts_suc messages counts i m (omega arith) (omega arith) e)
    ∙ sym (append_assoc (count_line (message_lists x) n) (count_lines (map message_lists (take i messages)) (take i counts)) (count_line (message_lists m) (get_or counts i 0)))

pub counts-next : (messages : List Message) (counts : List ℕ) (i : ℕ) (m : Message) → i < length messages → i < length counts → m ≡ get_or messages i m
    → count_lines (map message_lists (take i messages)) (take i counts) ++ count_line (message_lists m) (get_or counts i 0) ≡ count_lines (map message_lists (take (i + 1) messages)) (take (i + 1) counts)
counts-next messages counts i m h k e = sym (rw add-one (counts_suc messages counts i m h k e))
