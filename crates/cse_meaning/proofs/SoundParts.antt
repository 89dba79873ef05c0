-- The instructions of each routine of a program stand for the routine's code.
use Rattle.std.proofs.Common.{◌≡◌, ℕ, suc, zero, ◌+◌, List, [], ◌∷◌, ◌++◌, length, map, take, drop, Some, sym, ap, ◌∙◌, subst}
use Rattle.std.specs.Prelude.{slice_get}
use Rattle.std.specs.Option.{option_map, option_map_or}
use Rattle.std.proofs.lemmas.List.{drop-drop}
use Rattle.std.proofs.lemmas.List.Sums.{sum_by-cons}
use Rattle.std.proofs.lemmas.Option.{same_Some, none-some, slice_get-map}
use Rattle.cse_value.specs.declared.shape.RecordShape.{RecordShape}
use Rattle.cse_image_parts.specs.declared.instruction.Instr.{Instr}
use Rattle.cse_image_parts.specs.Image.{Lists, Image, RoutineLists}
use Rattle.cse_compile.specs.Outline.{Outline}
use Rattle.cse_code_typing.specs.Code.{start_of, size_of, code_of}
use Rattle.cse_compile.specs.Wide.{Wide, Constant, Chars, Turns, Plain}
use Rattle.cse_compile.specs.Routines.{routine_size}
use Rattle.cse_compile.specs.Stands as pooled
use Rattle.cse_compile.specs.Program.{setting_for, code_of as wide_code, all_code, entry_of, pools_of}
use Rattle.cse_meaning.specs.Stands.{Stands, AllStand}
use Rattle.cse_meaning.proofs.TypedBlocks.{routine_length}

-- ---- by the pools, and by the lists of the image

stands_there : (x : Lists) (i : Instr) (w : Wide) → pooled.Stands (pools_of x) i w → Stands x i w
stands_there x i (Constant z) h = (ap (λ (i : Instr). i.op) h.0, h.1)
stands_there x i (Chars text) h = (ap (λ (i : Instr). i.op) h.0, h.1)
stands_there x i (Turns limit end) h = (ap (λ (i : Instr). i.op) h.0, h.1, ap (λ (i : Instr). i.c) h.0)
stands_there x i (Plain op a b c) h = h

pub all_stand_there : (x : Lists) (is : List Instr) (ws : List Wide) → pooled.AllStand (pools_of x) is ws → AllStand x is ws
all_stand_there x [] [] h = tt
all_stand_there x [] (w ∷ ws) h = absurd h
all_stand_there x (i ∷ is) [] h = absurd h
all_stand_there x (i ∷ is) (w ∷ ws) h = (stands_there x i w h.0, all_stand_there x is ws h.1)

-- ---- routine after routine

cut : (x : Lists) (is : List Instr) (ws vs : List Wide) → AllStand x is (ws ++ vs) → AllStand x (take (length ws) is) ws × AllStand x (drop (length ws) is) vs
cut x is [] vs h = (tt, h)
cut x [] (w ∷ ws) vs h = absurd h
cut x (i ∷ is) (w ∷ ws) vs h = let c = cut x is ws vs h.1 in ((h.0, c.0), c.1)

module _ (x : Lists) (records : List RecordShape) (arrays : List (List ℕ)) where
  abbrev size : Outline → ℕ
  size o = routine_size (setting_for records arrays o) o.body

  abbrev before : ℕ → List Outline → ℕ
  before r os = start_of (map (entry_of records arrays) os) r

  part_stands : (os : List Outline) (is : List Instr) → AllStand x is (all_code records arrays os) → (r : ℕ) (o : Outline) → slice_get os r ≡ Some o → AllStand x (take (size o) (drop (before r os) is)) (wide_code records arrays o)
  part_stands [] is h r o e = absurd (none-some o e)
  part_stands (y ∷ os) is h zero o e =
      let c = cut x is (wide_code records arrays y) (all_code records arrays os) h in
      let here = subst (λ n. AllStand x (take n is) (wide_code records arrays y)) (routine_length (setting_for records arrays y) y.body) c.0 in
      subst (λ o. AllStand x (take (size o) is) (wide_code records arrays o)) (same_Some y o e) here
  part_stands (y ∷ os) is h (suc r) o e =
      let c = cut x is (wide_code records arrays y) (all_code records arrays os) h in
      let behind = part_stands os (drop (length (wide_code records arrays y)) is) c.1 r o e in
      let n : length (wide_code records arrays y) + before r os ≡ before (suc r) (y ∷ os) =
      ap (λ n. n + before r os) (routine_length (setting_for records arrays y) y.body)
      ∙ sym (sum_by-cons (λ (z : RoutineLists). z.instructions) (entry_of records arrays y) (take r (map (entry_of records arrays) os)))
      in
      let same : drop (before r os) (drop (length (wide_code records arrays y)) is) ≡ drop (before (suc r) (y ∷ os)) is =
      drop-drop (before r os) (length (wide_code records arrays y)) is ∙ ap (λ n. drop n is) n
      in
      subst (λ l. AllStand x (take (size o) l) (wide_code records arrays o)) same behind

-- the code of a routine of an image
pub routine_stands : (x : Image) (records : List RecordShape) (arrays : List (List ℕ)) (os : List Outline) → x.lists.routines ≡ map (entry_of records arrays) os → pooled.AllStand (pools_of x.lists) x.code (all_code records arrays os) → (r : ℕ) (o : Outline) → slice_get os r ≡ Some o → AllStand x.lists (code_of x r) (wide_code records arrays o)
unfolding code_of
routine_stands x records arrays os e h r o there =
    let entry = entry_of records arrays in
    let all = part_stands x.lists records arrays os x.code (all_stand_there x.lists x.code (all_code records arrays os) h) r o there in
    let n : size_of x.lists.routines r ≡ routine_size (setting_for records arrays o) o.body =
    ap (λ l. option_map_or (λ (y : RoutineLists). y.instructions) (slice_get l r) 0) e
    ∙ ap (λ o. option_map_or (λ (y : RoutineLists). y.instructions) o 0) (slice_get-map entry os r ∙ ap (option_map entry) there)
    in
    let m : start_of x.lists.routines r ≡ start_of (map entry os) r = ap (λ l. start_of l r) e in
    subst (λ n. AllStand x.lists (take n (drop (start_of x.lists.routines r) x.code)) (wide_code records arrays o)) (sym n)
    (subst (λ m. AllStand x.lists (take (routine_size (setting_for records arrays o) o.body) (drop m x.code)) (wide_code records arrays o)) (sym m) all)
