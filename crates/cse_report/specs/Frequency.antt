-- How often which values were imputed, item by item.
use Rattle.std.specs.Prelude.{◌≡◌, ℕ, ◌+◌, ◌<◌, ◌==◌, List, [], ◌∷◌, ◌++◌, map, codes, replicate, slice_set, if◌then◌else◌}
use Rattle.std.specs.List.{flat_map, list_any, slice_index_or, sum_by}
use Rattle.std.specs.Fmt.{decimal}
use Rattle.cse_value.specs.declared.number.Num.{Num}
use Rattle.cse_value.specs.Number.{is_same}
use Rattle.cse_value.specs.Field.{shown}
use Rattle.cse_value.specs.Gathering.{line}
use Rattle.cse_report.specs.Counts.{capped, one_more}

-- the values imputed to an item in order of first imputation, and how often each was
abbrev pub Table : Type 0
Table = List (Num × ℕ)

-- a value once more: a new one comes last
abbrev pub tallied : Num → Table → Table
tallied v [] = (v, 1) ∷ []
tallied v (e ∷ es) = if is_same v e.0 then (e.0, one_more e.1) ∷ es else e ∷ tallied v es

-- the tables of the items, with a value more at one of them
abbrev pub imputed : List Table → ℕ → Num → List Table
imputed tables item v = slice_set tables item (tallied v (slice_index_or tables item []))

-- ---- the text

abbrev pub value_line : Num × ℕ → List ℕ
value_line e = line ((shown e.0 ++ (32 ∷ [])) ++ decimal e.1)

-- how often values were imputed in all
abbrev pub total : Table → ℕ
total table = capped (sum_by (λ e. e.1) table)

abbrev pub item_line : List ℕ → Table → List ℕ
item_line name table = line (((codes "ITEM " ++ name) ++ (32 ∷ [])) ++ decimal (total table))

-- an item imputed at least once
unfoldable pub item_lines : List ℕ → Table → List ℕ
item_lines name [] = []
item_lines name (e ∷ es) = item_line name (e ∷ es) ++ flat_map value_line (e ∷ es)

-- the items of a dictionary, in its order
abbrev pub items_lines : List (List ℕ) → List Table → List ℕ
items_lines [] tables = []
items_lines (name ∷ names) [] = []
items_lines (name ∷ names) (table ∷ tables) = item_lines name table ++ items_lines names tables

unfoldable pub frequencies_text : List (List ℕ) → List Table → List ℕ
frequencies_text names tables = (line (codes "CSEB FREQUENCIES 1") ++ items_lines names tables) ++ line (codes "END")

-- ---- a whole run

-- the values imputed to an item, among imputations of items and values in order
abbrev pub values_of : ℕ → List (ℕ × Num) → List Num
values_of item [] = []
values_of item (x ∷ xs) = if x.0 == item then x.1 ∷ values_of item xs else values_of item xs

-- how often a value comes
abbrev pub times_of : Num → List Num → ℕ
times_of v [] = 0
times_of v (w ∷ ws) = (if is_same v w then 1 else 0) + times_of v ws

-- the different values in the order in which they first come, without those known already
abbrev pub first_ones : List Num → List Num → List Num
first_ones known [] = []
first_ones known (v ∷ vs) = if list_any (is_same v) known then first_ones known vs else v ∷ first_ones (known ++ v ∷ []) vs

-- each of them with how often it comes
abbrev pub frequencies_of : List Num → Table
frequencies_of vs = map (λ v. (v, capped (times_of v vs))) (first_ones [] vs)

abbrev pub all_imputed : List Table → List (ℕ × Num) → List Table
all_imputed tables [] = tables
all_imputed tables (x ∷ xs) = all_imputed (imputed tables x.0 x.1) xs

-- The table of an item has the values imputed to it in order of first imputation, each with its count.
abbrev pub CountsTheRun : Type 0
CountsTheRun = (count : ℕ) (run : List (ℕ × Num)) (item : ℕ) → item < count
    → slice_index_or (all_imputed (replicate count []) run) item [] ≡ frequencies_of (values_of item run)
