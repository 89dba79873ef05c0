-- What an image that has a spelling has room for, and that its pools may be others.
use Rattle.std.proofs.Common.{◌≡◌, ◌≤◌, ◌<◌, ◌^◌, ℕ, zero, suc, ◌+◌, Bool, true, false, ◌||◌, ◌&&◌, leb, List, [], ◌∷◌, ◌++◌, map, length, Some, slice_get, nat_eq, refl, sym, ap, subst, ◌∙◌, arith}
use Rattle.std.specs.Cmp.{IsEquivalence}
use Rattle.std.specs.List.{AllByRecursion, list_any}
use Rattle.std.specs.Set.{is_member}
use Rattle.std.proofs.lemmas.Bool.{le-leb, leb-true}
use Rattle.std.proofs.lemmas.Cmp.{int_eq_equiv, nat_eq_equiv, nat_list_eq_equiv}
use Rattle.std.proofs.lemmas.List.{length-append, length-map}
use Rattle.std.proofs.lemmas.Option.{none-some, same_Some, slice_get_within}
use Rattle.cse_value.specs.declared.shape.RecordShape.{RecordShape}
use Rattle.cse_value.specs.Shape.{ShapeLists}
use Rattle.cse_image_parts.specs.declared.instruction.Op.{Op}
use Rattle.cse_image_parts.specs.declared.instruction.Op.TheVariants as ops
use Rattle.cse_image_parts.specs.declared.instruction.Instr.{Instr}
use Rattle.cse_image_parts.specs.declared.version.Version.TheVariants as versions
use Rattle.cse_image_parts.specs.Fields.{instructions_in, last_event}
use Rattle.cse_image_parts.specs.Image.{Image, Lists, RoutineLists}
use Rattle.cse_image_parts.specs.Limits.{most_routines}
use Rattle.cse_image_parts.specs.Opcodes.{shape}
use Rattle.cse_image_parts.specs.Reader.{AllAfter}
use Rattle.cse_image_parts.specs.Spelling.{SectionFits}
use Rattle.cse_image.specs.Spelling.{RoutineFits, InstrFits, ListsFit, Fits, RecordFits, ItemFits, SetFits, OrderFits, GlobalFits, ArrayFits, MessageFits, EventFits}
use Rattle.cse_image.proofs.Totals.{total_small, room_left}
use Rattle.cse_dict.specs.Dictionary.{DictionaryText, shape_of}
use Rattle.cse_code_typing.specs.Shapes as shapes
use Rattle.cse_logic_tree.specs.Typed.{Tree}
use Rattle.cse_compile.specs.Pools.{PoolLists, PoolsFit, no_pools}
use Rattle.cse_compile.specs.Outline.{Outline, Handler, functions_in}
use Rattle.cse_compile.specs.Wide.{Wide, Constant, Chars, Turns, Plain}
use Rattle.cse_compile.specs.Program.{IsProgramOf, all_code, declarations, entry_of, handlers, outlines, pools_of, sizes}
use Rattle.cse_compile.specs.Room.{AreSmall, HasCodeOf, Hold, IsHeld, IsSmall, CannotHold, NoCodeFits}
use Rattle.cse_compile.specs.Stands.{Stands, AllStand, instr}
use Rattle.cse_compile.proofs.Room.{parts_none}

-- ---- what an image has

member_at : {A : Type 0} {eq : A → A → Bool} (laws : IsEquivalence eq) (ys : List A) (k : ℕ) (x : A) → slice_get ys k ≡ Some x → is_member eq ys x ≡ true
member_at laws [] k x e = absurd (none-some x e)
member_at {eq = eq} laws (y ∷ ys) zero x e = ap (λ b. b || list_any (eq x) ys) (subst (λ z. eq z y ≡ true) (same_Some y x e) (laws.refl y))
member_at {eq = eq} laws (y ∷ ys) (suc k) x e = by (eq x y) (member_at laws ys k x e)
  where
    by : (b : Bool) → list_any (eq x) ys ≡ true → (b || list_any (eq x) ys) ≡ true
    by true ih = refl
    by false ih = ih

below : (i : Instr) (c : ℕ) → i.c ≡ c → InstrFits versions.Two i → c < 2 ^ 32
below i c e fits = subst (λ n. n < 2 ^ 32) e fits.c_size

held_by : (p : PoolLists) (i : Instr) (w : Wide) → Stands p i w → InstrFits versions.Two i → IsHeld p w
held_by p i (Constant z) s fits = member_at int_eq_equiv p.constants i.c z s.1
held_by p i (Chars text) s fits = member_at nat_list_eq_equiv p.texts i.c text s.1
held_by p i (Turns limit end) s fits = (member_at nat_eq_equiv p.limits i.b limit s.1, below i end (ap (λ (j : Instr). j.c) s.0) fits)
held_by p i (Plain op a b c) s fits = below i c (ap (λ (j : Instr). j.c) s) fits

all_held : (p : PoolLists) (is : List Instr) (ws : List Wide) → AllStand p is ws → AllByRecursion (InstrFits versions.Two) is → AllByRecursion (IsHeld p) ws
all_held p [] [] s fits = tt
all_held p (i ∷ is) (w ∷ ws) s fits = (held_by p i w s.0 fits.0, all_held p is ws s.1 fits.1)
all_held p [] (w ∷ ws) s fits = absurd s
all_held p (i ∷ is) [] s fits = absurd s

pools_fit : (x : Image) → Fits x → PoolsFit (pools_of x.lists)
pools_fit x fits = record { constants = fits.lists.constants; limits = fits.lists.limits; texts = fits.lists.texts }

pub stand_length : (p : PoolLists) (is : List Instr) (ws : List Wide) → AllStand p is ws → length is ≡ length ws
stand_length p [] [] s = refl
stand_length p (i ∷ is) (w ∷ ws) s = ap suc (stand_length p is ws s.1)
stand_length p [] (w ∷ ws) s = absurd s
stand_length p (i ∷ is) [] s = absurd s

module _ (records : List RecordShape) (arrays : List (List ℕ)) where
  small_from : (before : List RoutineLists) (os : List Outline) → AllAfter (λ before. RoutineFits versions.Two (instructions_in before)) before (map (entry_of records arrays) os) → AllByRecursion (IsSmall records arrays) os
  small_from before [] h = tt
  small_from before (o ∷ os) h =
      let few = h.0.parameters in
      let room = room_left (instructions_in before) (entry_of records arrays o).instructions h.0.room in
      (record { parameters = omega (arith, few); size = omega (arith, room) }, small_from (before ++ entry_of records arrays o ∷ []) os h.1)

  pub small_routines : (os : List Outline) (x : Image) → HasCodeOf records arrays os x → Fits x → AreSmall [] records arrays os
  small_routines os x code fits =
      let a = stand_length (pools_of x.lists) x.code (all_code records arrays os) code.code in
      let b = fits.count in
      let c = total_small versions.Two x.lists fits.lists in
      record {
        each = small_from [] os (subst (AllAfter (λ before. RoutineFits versions.Two (instructions_in before)) []) code.routines fits.lists.routines.each);
        together = omega (arith, a, b, c);
      }

  pub held_code : (os : List Outline) (x : Image) → HasCodeOf records arrays os x → Fits x → Hold (pools_of x.lists) (all_code records arrays os)
  held_code os x code fits = record { fit = pools_fit x fits; each = all_held (pools_of x.lists) x.code (all_code records arrays os) code.code fits.code }

  pub cannot_fit : (os : List Outline) (code : List Wide) → code ≡ all_code records arrays os → CannotHold no_pools code → NoCodeFits records arrays os
  cannot_fit os code same never x has fits = never (pools_of x.lists) (subst (Hold (pools_of x.lists)) (sym same) (held_code os x has fits)) (parts_none (pools_of x.lists))

  pub few_routines : (os : List Outline) (x : Image) → HasCodeOf records arrays os x → Fits x → length os ≤ most_routines
  few_routines os x code fits =
      let a = ap (λ (l : List RoutineLists). length l) code.routines in
      let b = length-map os (entry_of records arrays) in
      let c = leb-true (length x.lists.routines) 4096 fits.lists.routines.count in
      omega (arith, a, b, c)

pub few_both : (records : List RecordShape) (arrays : List (List ℕ)) (fs : List Outline) (hs : List Handler) (x : Image) → HasCodeOf records arrays (fs ++ map (λ (h : Handler). h.outline) hs) x → Fits x → (length fs ≤ most_routines) × (length hs ≤ most_routines)
few_both records arrays fs hs x code fits =
    let a = few_routines records arrays (fs ++ map (λ (h : Handler). h.outline) hs) x code fits in
    let b = length-append fs (map (λ (h : Handler). h.outline) hs) in
    let c = length-map hs (λ (h : Handler). h.outline) in
    (omega (arith, a, b, c), omega (arith, a, b, c))

-- ---- other pools

-- a place in a table of at most 65,536 entries
place_below : {A : Type 0} (n : ℕ) (xs : List A) (k : ℕ) (x : A) → leb (length xs) n ≡ true → slice_get xs k ≡ Some x → k < n
place_below n xs k x few there = let a = leb-true (length xs) n few in let b = slice_get_within xs k x there in omega (arith, a, b)

any_place : (k : ℕ) → k < 2 ^ 32 → (leb 0 k && leb k 4294967295) ≡ true
any_place k small = ap (λ b. b && leb k 4294967295) (le-leb 0 k (omega arith)) ∙ le-leb k 4294967295 (omega (arith, small))

limit_place : (k : ℕ) → k < 65536 → (leb 0 k && leb k 65535) ≡ true
limit_place k small = ap (λ b. b && leb k 65535) (le-leb 0 k (omega arith)) ∙ le-leb k 65535 (omega (arith, small))

pub constant_fits : (k : ℕ) → k < 65536 → InstrFits versions.Two (instr ops.Number 0 0 k)
unfolding shape
constant_fits k small = record { a_size = omega arith; a = refl; b_size = omega arith; b = refl; c_size = omega (arith, small); c = any_place k (omega (arith, small)) }

pub text_fits : (k : ℕ) → k < 65536 → InstrFits versions.Two (instr ops.Text 0 0 k)
unfolding shape
text_fits k small = record { a_size = omega arith; a = refl; b_size = omega arith; b = refl; c_size = omega (arith, small); c = any_place k (omega (arith, small)) }

pub turns_fit : (k end : ℕ) → k < 65536 → end < 2 ^ 32 → InstrFits versions.Two (instr ops.LoopCount 0 k end)
unfolding shape
turns_fit k end small short = record { a_size = omega arith; a = refl; b_size = omega (arith, small); b = ap (λ b. b && true) (limit_place k small); c_size = short; c = any_place end short }

-- an instruction that stands for the same by tables that fit, fits
one_fits : (p q : PoolLists) (i j : Instr) (w : Wide) → PoolsFit p → Stands p i w → Stands q j w → InstrFits versions.Two j → InstrFits versions.Two i
one_fits p q i j (Constant z) fit s r fits = subst (InstrFits versions.Two) (sym s.0) (constant_fits i.c (place_below 65536 p.constants i.c z fit.constants.count s.1))
one_fits p q i j (Chars text) fit s r fits = subst (InstrFits versions.Two) (sym s.0) (text_fits i.c (place_below 65536 p.texts i.c text fit.texts.count s.1))
one_fits p q i j (Turns limit end) fit s r fits =
    subst (InstrFits versions.Two) (sym s.0) (turns_fit i.b end (place_below 65536 p.limits i.b limit fit.limits.count s.1) (below j end (ap (λ (k : Instr). k.c) r.0) fits))
one_fits p q i j (Plain op a b c) fit s r fits = subst (InstrFits versions.Two) (r ∙ sym s) fits

all_fit : (p q : PoolLists) (is js : List Instr) (ws : List Wide) → PoolsFit p → AllStand p is ws → AllStand q js ws → AllByRecursion (InstrFits versions.Two) js → AllByRecursion (InstrFits versions.Two) is
all_fit p q [] js ws fit s r fits = tt
all_fit p q (i ∷ is) js [] fit s r fits = absurd s
all_fit p q (i ∷ is) [] (w ∷ ws) fit s r fits = absurd r
all_fit p q (i ∷ is) (j ∷ js) (w ∷ ws) fit s r fits = (one_fits p q i j w fit s.0 r.0 fits.0, all_fit p q is js ws fit s.1 r.1 fits.1)

module _ (d : DictionaryText) (named : List ℕ) (t : Tree) (x y : Image) (is_x : IsProgramOf d named t x) (is_y : IsProgramOf d named t y) where
  abbrev shape_same : shapes.shape_of y ≡ shapes.shape_of x
  shape_same = sym is_y.shape ∙ is_x.shape

  lists_fit : PoolsFit (pools_of x.lists) → ListsFit versions.Two y.lists → ListsFit versions.Two x.lists
  lists_fit pools fits = record {
    records = subst (λ (s : ShapeLists). SectionFits 200 (λ _. RecordFits) s.records) shape_same fits.records;
    items = subst (λ (s : ShapeLists). SectionFits 10000 (λ _. ItemFits) s.items) shape_same fits.items;
    sets = subst (λ (s : ShapeLists). SectionFits 10000 (λ _. SetFits) s.sets) shape_same fits.sets;
    order = subst (SectionFits 200 (λ _. OrderFits)) (is_y.order ∙ sym is_x.order) fits.order;
    constants = pools.constants;
    limits = pools.limits;
    texts = pools.texts;
    globals = subst (SectionFits 65536 (λ _. GlobalFits)) (is_y.globals ∙ sym is_x.globals) fits.globals;
    arrays = subst (SectionFits 4096 ArrayFits) (is_y.arrays ∙ sym is_x.arrays) fits.arrays;
    messages = subst (SectionFits 65536 (λ _. MessageFits)) (is_y.messages ∙ sym is_x.messages) fits.messages;
    routines = subst (SectionFits 4096 (λ before. RoutineFits versions.Two (instructions_in before))) (is_y.routines ∙ sym is_x.routines) fits.routines;
    events = subst (SectionFits 50000 (λ before. EventFits (last_event before))) (is_y.events ∙ sym is_x.events) fits.events;
  }

  -- where a program of the source has a spelling, each has one whose pools fit
  pub same_fit : PoolsFit (pools_of x.lists) → Fits y → Fits x
  same_fit pools fits =
      let ws = all_code (shape_of d).records (sizes t) (outlines t) in
      let a = stand_length (pools_of x.lists) x.code ws is_x.code in
      let b = stand_length (pools_of y.lists) y.code ws is_y.code in
      let c = fits.count in
      let e = ap instructions_in (is_y.routines ∙ sym is_x.routines) in
      record {
        lists = lists_fit pools fits.lists;
        code = all_fit (pools_of x.lists) (pools_of y.lists) x.code y.code ws pools is_x.code is_y.code fits.code;
        count = omega (arith, a, b, c, e);
      }
