-- The two laws of each entry: what is read is spelled so and fits, and what fits is read from its spelling.
use Rattle.std.proofs.Common.{◌≡◌, ℕ, ◌^◌, ◌<◌, Bool, true, not, ◌||◌, eqb, List, [], ◌∷◌, ◌++◌, length, Option, refl, sym, subst, arith, append_assoc, length-append}
use Rattle.std.specs.List.{flat_map, AllByRecursion}
use Rattle.std.proofs.lemmas.Bool.{eqb-true, eq-eqb, ne_eqb, or_right, or_left, not_from_false}
use Rattle.byteorder.specs.Endian.{little_bytes}
use Rattle.cse_value.specs.declared.shape.RecordShape.{RecordShape}
use Rattle.cse_value.specs.declared.shape.ItemShape.{ItemShape}
use Rattle.cse_value.specs.declared.shape.SetShape.{SetShape}
use Rattle.cse_image_parts.specs.declared.entries.GlobalVariable.{GlobalVariable}
use Rattle.cse_image_parts.specs.declared.entries.Local.{Local}
use Rattle.cse_image_parts.specs.declared.entries.EventEntry.{EventEntry}
use Rattle.cse_image_parts.specs.declared.instruction.Instr.{Instr}
use Rattle.cse_image_parts.specs.declared.version.Version.{Version}
use Rattle.cse_image_parts.specs.declared.version.Version.TheVariants as versions
use Rattle.cse_image_parts.specs.Versions.{may_give}
use Rattle.cse_image_parts.specs.Image.{ArrayLists, MessageLists, RoutineLists}
use Rattle.cse_image_parts.specs.Texts.{is_text, is_short, is_name, is_new}
use Rattle.cse_image_parts.specs.Placeholders.{has_few_placeholders}
use Rattle.cse_image_parts.specs.Fields.{fits_global_length, fits_local_length, fits_owner, fits_kind, are_locals, is_limit, is_dimension_count, is_dimension, cells_in, is_room_for_cells, fits_cells, is_room_for_code, is_after}
use Rattle.cse_image_parts.specs.Opcodes.{fits_a, fits_b, fits_c}
use Rattle.cse_image_parts.specs.declared.fault.Rule.TheVariants.{Form, Limit}
use Rattle.cse_image_parts.specs.Reader.{many, AllAfter}
use Rattle.cse_image_parts.specs.Spelling.{u16, u32}
use Rattle.cse_image_parts.proofs.Algebra.{Laws, field, finish, last, refit, counted_laws, checked_laws, bytes_laws, number_laws, signed_laws, many_laws, each_laws}
use Rattle.cse_image.specs.Reading.{limit_at, limits_at, zero_at, record_at, item_at, set_at, characters_at, text_at, global_at, has_room_at_last, dimension_at, name_at, array_at, message_at, local_at, routine_at, event_at, instr_at}
use Rattle.cse_image.specs.Spelling.{record_shape, item_shape, set_shape, limits, text, global, array, message, local, routine, event, instr, RecordFits, ItemFits, SetFits, LimitFits, LimitsFit, TextFits, GlobalFits, DimensionFits, ArrayFits, MessageFits, LocalFits, LocalsFit, RoutineFits, EventFits, InstrFits}
use Rattle.cse_image.proofs.Codes.{flag_laws, item_kind_laws, global_kind_laws, local_kind_laws, ambient_laws, gift_laws, event_code_laws, op_laws}
use Rattle.cse_image.proofs.Sizes.{some_rank, small_rank, name_size}

pub zero_laws : (width : ℕ) → 0 < 256 ^ width → Laws (zero_at width) (little_bytes width) (λ n. 0 ≡ n)
unfolding zero_at
zero_laws width some = refit (λ n. 0 ≡ n) (checked_laws Form (λ n. eqb n 0) (number_laws width)) (λ n h. sym (eqb-true n 0 h.1)) (λ n h. (subst (λ (m : ℕ). m < 256 ^ width) h some, eq-eqb n 0 (sym h)))

-- ---- the shape

pub record_laws : Laws record_at record_shape RecordFits
unfolding record_at
record_laws =
    field (λ x. x.max_records) RecordFits (number_laws 2) (λ x h. h.max_records) (λ max_records m.
    field (λ x. 0) _ (zero_laws 2 (omega arith)) (λ x h. refl) (λ zero z.
    last (λ n. record { max_records = max_records; record_len = n }) (λ x. x.record_len) _ (number_laws 4)
    (λ n n_fits. (let fits : RecordFits (record { max_records = max_records; record_len = n }) = record { max_records = assumption; record_len = assumption } in assumption fits))
    (λ x h. (assumption, (let whole : ◌≡◌ {A = RecordShape} (record { max_records = x.max_records; record_len = x.record_len }) x = refl in cc)))))

pub item_laws : Laws item_at item_shape ItemFits
unfolding item_at
item_laws =
    field (λ x. x.owner) ItemFits (number_laws 1) (λ x h. h.owner) (λ owner o.
    field (λ x. x.kind) _ item_kind_laws (λ x h. tt) (λ kind k.
    field (λ x. x.len) _ (number_laws 2) (λ x h. assumption) (λ len l.
    last (λ n. record { owner = owner; kind = kind; len = len; start = n }) (λ x. x.start) _ (number_laws 4)
    (λ n n_fits. (let fits : ItemFits (record { owner = owner; kind = kind; len = len; start = n }) = record { owner = assumption; len = assumption; start = assumption } in assumption fits))
    (λ x h. (assumption, (let whole : ◌≡◌ {A = ItemShape} (record { owner = x.owner; kind = x.kind; len = x.len; start = x.start }) x = refl in cc))))))

pub set_laws : Laws set_at set_shape SetFits
unfolding set_at
set_laws =
    field (λ x. x.item) SetFits (number_laws 2) (λ x h. h.item) (λ item i.
    field (λ x. x.rows) _ (number_laws 2) (λ x h. assumption) (λ rows r.
    field (λ x. x.partial) _ flag_laws (λ x h. tt) (λ partial p.
    last (λ n. record { item = item; rows = rows; partial = partial }) (λ x. 0) _ (zero_laws 3 (omega arith))
    (λ n n_fits. (let fits : SetFits (record { item = item; rows = rows; partial = partial }) = record { item = assumption; rows = assumption } in (assumption fits, n_fits)))
    (λ x h. (refl, (let whole : ◌≡◌ {A = SetShape} (record { item = x.item; rows = x.rows; partial = x.partial }) x = refl in cc))))))

-- ---- values

limit_laws : Laws limit_at u32 LimitFits
unfolding limit_at
limit_laws = refit LimitFits (checked_laws Form is_limit (number_laws 4)) (λ n h. record { size = h.0; some = h.1 }) (λ n h. (h.size, h.some))

pub limits_laws : (version : Version) → Laws (limits_at version) (limits version) (LimitsFit version)
unfolding limits_at
limits_laws versions.One = finish [] (λ xs. xs ≡ []) refl (λ xs h. h)
limits_laws versions.Two = counted_laws 65536 (omega arith) (λ before. limit_laws)

record CharactersFit (len : ℕ) (t : List ℕ) : Type 0 where
  size : length t ≡ len
  form : is_text t ≡ true
  short : is_short t ≡ true

characters_laws : (len : ℕ) → Laws (characters_at len) (λ t. t) (CharactersFit len)
unfolding characters_at
characters_laws len = refit (CharactersFit len) (checked_laws Limit is_short (checked_laws Form is_text (bytes_laws len)))
    (λ t h. record { size = h.0.0; form = h.0.1; short = h.1 }) (λ t h. ((h.size, h.form), h.short))

pub text_laws : Laws text_at text TextFits
unfolding text_at
text_laws = field length TextFits (number_laws 2) (λ t h. h.size) (λ len lt.
    last (λ t. t) (λ t. t) (λ t. TextFits t × (length t ≡ len)) (characters_laws len)
    (λ t h. ((record { size = subst (λ (n : ℕ). n < 2 ^ 16) (sym h.size) lt; form = h.form; short = h.short }, h.size), refl))
    (λ t h. (record { size = h.1; form = h.0.form; short = h.0.short }, refl)))

pub global_laws : Laws global_at global GlobalFits
unfolding global_at
global_laws =
    field (λ x. x.kind) GlobalFits global_kind_laws (λ x h. tt) (λ kind k.
    field (λ x. 0) _ (zero_laws 1 (omega arith)) (λ x h. refl) (λ zero z.
    last (λ n. record { kind = kind; length = n }) (λ x. x.length) _ (checked_laws Form (fits_global_length kind) (number_laws 2))
    (λ n n_fits. (let fits : GlobalFits (record { kind = kind; length = n }) = record { size = assumption; length = assumption } in assumption fits))
    (λ x h. ((assumption, (let r : fits_global_length x.kind x.length ≡ true = assumption in let e : x.kind ≡ kind = assumption in cc)), (let whole : ◌≡◌ {A = GlobalVariable} (record { kind = x.kind; length = x.length }) x = refl in cc)))))

pub message_laws : Laws message_at message MessageFits
unfolding message_at
message_laws =
    field (λ x. x.number) MessageFits (number_laws 4) (λ x h. h.number) (λ own o.
    field (λ x. x.summary) _ flag_laws (λ x h. tt) (λ summary s.
    field (λ x. 0) _ (zero_laws 1 (omega arith)) (λ x h. refl) (λ zero z.
    field (λ x. length x.text) _ (number_laws 2) (λ x h. h.0.0.0.text.size) (λ len l.
    last (λ t. record { number = own; summary = summary; text = t }) (λ x. x.text) _ (checked_laws Limit has_few_placeholders (characters_laws len))
    (λ t t_fits. (let size : length t < 2 ^ 16 = subst (λ (n : ℕ). n < 2 ^ 16) (sym t_fits.0.size) l in
    let fits : MessageFits (record { number = own; summary = summary; text = t }) = record { number = assumption; text = record { size = size; form = t_fits.0.form; short = t_fits.0.short }; few = t_fits.1 } in
    let same : length t ≡ len = t_fits.0.size in assumption (fits, same)))
    (λ x h. ((record { size = assumption; form = assumption; short = assumption }, assumption), (let whole : ◌≡◌ {A = MessageLists} (record { number = x.number; summary = x.summary; text = x.text }) x = refl in cc)))))))

-- ---- arrays

-- a dimension as it is read, with those before it in sight
record DimensionReads (cells rank : ℕ) (before : List ℕ) (d : ℕ) : Type 0 where
  size : d < 2 ^ 16
  some : is_dimension d ≡ true
  room : has_room_at_last cells rank (before ++ d ∷ []) ≡ true

dimension_laws : (cells rank : ℕ) (before : List ℕ) → Laws (dimension_at cells rank before) u16 (DimensionReads cells rank before)
unfolding dimension_at
dimension_laws cells rank before = refit (DimensionReads cells rank before) (checked_laws Limit (λ d. has_room_at_last cells rank (before ++ d ∷ [])) (checked_laws Form is_dimension (number_laws 2)))
    (λ d h. record { size = h.0.0; some = h.0.1; room = h.1 }) (λ d h. ((h.size, h.some), h.room))

at_last : (room same : Bool) → same ≡ true → (not same || room) ≡ true → room ≡ true
at_last room same e h = subst (λ (b : Bool). (not b || room) ≡ true) e h

-- dimensions that were read have room together
dimensions_there : (cells rank : ℕ) (before xs : List ℕ) → AllAfter (DimensionReads cells rank) before xs → length (before ++ xs) ≡ rank → 0 < length xs
    → AllByRecursion DimensionFits xs × (is_room_for_cells cells (before ++ xs) ≡ true)
dimensions_there cells rank before [] h len some = absurd (omega arith)
dimensions_there cells rank before (x ∷ []) h len some =
    ((record { size = h.0.size; some = h.0.some }, tt), at_last (is_room_for_cells cells (before ++ x ∷ [])) (eqb (length (before ++ x ∷ [])) rank) (eq-eqb _ _ len) h.0.room)
dimensions_there cells rank before (x ∷ y ∷ ys) h len some =
    let regrouped : (before ++ x ∷ []) ++ y ∷ ys ≡ before ++ x ∷ y ∷ ys = append_assoc before (x ∷ []) (y ∷ ys) in
    let t = dimensions_there cells rank (before ++ x ∷ []) (y ∷ ys) h.1 (rw regrouped len) (omega arith) in
    ((record { size = h.0.size; some = h.0.some }, t.0), subst (λ (zs : List ℕ). is_room_for_cells cells zs ≡ true) regrouped t.1)

-- dimensions that fit, with room together, are read
dimensions_back : (cells rank : ℕ) (before xs : List ℕ) → AllByRecursion DimensionFits xs → is_room_for_cells cells (before ++ xs) ≡ true → length (before ++ xs) ≡ rank
    → AllAfter (DimensionReads cells rank) before xs
dimensions_back cells rank before [] h room len = tt
dimensions_back cells rank before (x ∷ []) h room len =
    (record { size = h.0.size; some = h.0.some; room = or_right (not (eqb (length (before ++ x ∷ [])) rank)) (is_room_for_cells cells (before ++ x ∷ [])) room }, tt)
dimensions_back cells rank before (x ∷ y ∷ ys) h room len =
    let regrouped : (before ++ x ∷ []) ++ y ∷ ys ≡ before ++ x ∷ y ∷ ys = append_assoc before (x ∷ []) (y ∷ ys) in
    let short : length (before ++ x ∷ []) < rank = omega (arith, len, length-append before (x ∷ []), length-append before (x ∷ y ∷ ys)) in
    (record { size = h.0.size; some = h.0.some; room = or_left (not (eqb (length (before ++ x ∷ [])) rank)) (is_room_for_cells cells (before ++ x ∷ [])) (not_from_false (eqb (length (before ++ x ∷ [])) rank) (ne_eqb _ _ (λ e. omega (arith, e, short)))) }, dimensions_back cells rank (before ++ x ∷ []) (y ∷ ys) h.1 (rw regrouped room) (rw regrouped len))

record DimensionsFit (cells rank : ℕ) (xs : List ℕ) : Type 0 where
  size : length xs ≡ rank
  each : AllByRecursion DimensionFits xs
  room : is_room_for_cells cells xs ≡ true

dimensions_laws : (cells rank : ℕ) → 0 < rank → Laws (many (dimension_at cells rank) [] rank) (flat_map u16) (DimensionsFit cells rank)
dimensions_laws cells rank some = refit (DimensionsFit cells rank) (many_laws rank (dimension_laws cells rank))
    (λ xs h. let t = dimensions_there cells rank [] xs h.0 h.1 (omega (arith, h.1)) in record { size = h.1; each = t.0; room = t.1 })
    (λ xs h. (dimensions_back cells rank [] xs h.each h.room h.size, h.size))

record NameFits (before : List ArrayLists) (len : ℕ) (name : List ℕ) : Type 0 where
  size : length name ≡ len
  form : is_name name ≡ true
  new : is_new before name ≡ true

name_laws : (before : List ArrayLists) (len : ℕ) → Laws (name_at before len) (λ name. name) (NameFits before len)
unfolding name_at
name_laws before len = refit (NameFits before len) (checked_laws Form (is_new before) (checked_laws Form is_name (bytes_laws len)))
    (λ name h. record { size = h.0.0; form = h.0.1; new = h.1 }) (λ name h. ((h.size, h.form), h.new))

pub array_laws : (before : List ArrayLists) → Laws (array_at before) array (ArrayFits before)
unfolding array_at
array_laws before =
    field (λ x. x.saved) (ArrayFits before) flag_laws (λ x h. tt) (λ saved u.
    field (λ x. length x.dimensions) _ (checked_laws Limit is_dimension_count (number_laws 1)) (λ x h. (small_rank (length x.dimensions) h.0.count, h.0.count)) (λ rank rank_fits.
    field (λ x. length x.name) _ (number_laws 1) (λ x h. omega (arith, name_size x.name h.0.0.name)) (λ len len_fits.
    field (λ x. 0) _ (zero_laws 1 (omega arith)) (λ x h. refl) (λ zero zero_fits.
    field (λ x. x.dimensions) _ (dimensions_laws (cells_in before) rank (some_rank rank rank_fits.1)) (λ x h. record { size = assumption; each = assumption; room = assumption }) (λ dimensions dimensions_fit.
    field (λ x. x.name) _ (name_laws before len) (λ x h. record { size = assumption; form = assumption; new = assumption }) (λ name name_fits.
    field (λ x. length x.cells) _ (checked_laws Limit (fits_cells dimensions) (number_laws 4)) (λ x h. (assumption, (let r : fits_cells x.dimensions (length x.cells) ≡ true = assumption in let e : x.dimensions ≡ dimensions = assumption in cc))) (λ count count_fits.
    last (λ cells. record { saved = saved; dimensions = dimensions; name = name; cells = cells }) (λ x. x.cells) _ (each_laws count signed_laws)
    (λ cells cells_fit. (let fits : ArrayFits before (record { saved = saved; dimensions = dimensions; name = name; cells = cells })
    = record { count = cc; dimensions = assumption; room = assumption; name = assumption; new = assumption; cell_count = cc; size = omega arith; cells = assumption } in assumption fits))
    (λ x h. (assumption, (let whole : ◌≡◌ {A = ArrayLists} (record { saved = x.saved; dimensions = x.dimensions; name = x.name; cells = x.cells }) x = refl in cc))))))))))

-- ---- routines and events

pub local_laws : (parameters index : ℕ) → Laws (local_at parameters index) local (LocalFits parameters index)
unfolding local_at
local_laws parameters index =
    field (λ x. x.kind) (LocalFits parameters index) (checked_laws Form (fits_kind parameters index) local_kind_laws) (λ x h. (tt, h.kind)) (λ kind k.
    field (λ x. x.owner) _ (checked_laws Form (fits_owner kind) (number_laws 1)) (λ x h. (assumption, (let r : fits_owner x.kind x.owner ≡ true = assumption in let e : x.kind ≡ kind = assumption in cc))) (λ owner o.
    last (λ n. record { kind = kind; owner = owner; length = n }) (λ x. x.length) _ (checked_laws Form (fits_local_length kind) (number_laws 2))
    (λ n n_fits. (let fits : LocalFits parameters index (record { kind = kind; owner = owner; length = n }) = record { kind = assumption; owner_size = assumption; owner = assumption; length_size = assumption; length = assumption } in assumption fits))
    (λ x h. ((assumption, (let r : fits_local_length x.kind x.length ≡ true = assumption in let e : x.kind ≡ kind = assumption in cc)), (let whole : ◌≡◌ {A = Local} (record { kind = x.kind; owner = x.owner; length = x.length }) x = refl in cc)))))

pub routine_laws : (version : Version) (before : ℕ) → Laws (routine_at version before) routine (RoutineFits version before)
unfolding routine_at
routine_laws version before =
    field (λ x. x.ambient) (RoutineFits version before) ambient_laws (λ x h. tt) (λ ambient a.
    field (λ x. x.gives) _ (checked_laws Form (may_give version) gift_laws) (λ x h. (tt, h.0.gives)) (λ gives g.
    field (λ x. x.parameters) _ (number_laws 1) (λ x h. assumption) (λ parameters p.
    field (λ x. length x.locals) _ (checked_laws Form (are_locals parameters) (number_laws 1)) (λ x h. (assumption, (let r : are_locals x.parameters (length x.locals) ≡ true = assumption in let e : x.parameters ≡ parameters = assumption in cc))) (λ count c.
    field (λ x. x.locals) _ (many_laws count (λ before. local_laws parameters (length before)))
    (λ x h. (let r : AllAfter (λ before. LocalFits x.parameters (length before)) [] x.locals = assumption in let e : x.parameters ≡ parameters = assumption in subst (λ (n : ℕ). AllAfter (λ before. LocalFits n (length before)) [] x.locals) e r, assumption)) (λ locals locals_fit.
    last (λ n. record { ambient = ambient; gives = gives; parameters = parameters; locals = locals; instructions = n }) (λ x. x.instructions) _ (checked_laws Limit (is_room_for_code before) (number_laws 4))
    (λ n n_fits. (let all : LocalsFit parameters locals = record { count = omega arith; among = cc; each = assumption } in
    let fits : RoutineFits version before (record { ambient = ambient; gives = gives; parameters = parameters; locals = locals; instructions = n })
    = record { gives = assumption; parameters = assumption; locals = all; size = assumption; room = assumption } in assumption fits))
    (λ x h. (assumption, (let whole : ◌≡◌ {A = RoutineLists} (record { ambient = x.ambient; gives = x.gives; parameters = x.parameters; locals = x.locals; instructions = x.instructions }) x = refl in cc))))))))

pub event_laws : (last : Option EventEntry) → Laws (event_at last) event (EventFits last)
unfolding event_at
event_laws before =
    field (λ x. x.code) (EventFits before) event_code_laws (λ x h. tt) (λ code u.
    field (λ x. 0) _ (zero_laws 1 (omega arith)) (λ x h. refl) (λ zero zero_fits.
    field (λ x. x.index) _ (checked_laws Form (is_after before code) (number_laws 2))
    (λ x h. (assumption, (let r : is_after before x.code x.index ≡ true = assumption in let e : x.code ≡ code = assumption in cc))) (λ index index_fits.
    last (λ n. record { code = code; index = index; routine = n }) (λ x. x.routine) _ (number_laws 4)
    (λ n n_fits. (let fits : EventFits before (record { code = code; index = index; routine = n })
    = record { index = assumption; after = assumption; routine = assumption } in assumption fits))
    (λ x h. (assumption, (let whole : ◌≡◌ {A = EventEntry} (record { code = x.code; index = x.index; routine = x.routine }) x = refl in cc))))))

-- ---- instructions

pub instr_laws : (version : Version) → Laws (instr_at version) instr (InstrFits version)
unfolding instr_at
instr_laws version =
    field (λ x. x.op) (InstrFits version) op_laws (λ x h. tt) (λ op u.
    field (λ x. x.a) _ (checked_laws Form (fits_a op) (number_laws 1))
    (λ x h. (assumption, (let r : fits_a x.op x.a ≡ true = assumption in let e : x.op ≡ op = assumption in cc))) (λ a a_fits.
    field (λ x. x.b) _ (checked_laws Form (fits_b version op) (number_laws 2))
    (λ x h. (assumption, (let r : fits_b version x.op x.b ≡ true = assumption in let e : x.op ≡ op = assumption in cc))) (λ b b_fits.
    last (λ c. record { op = op; a = a; b = b; c = c }) (λ x. x.c) _ (checked_laws Form (fits_c op a) (number_laws 4))
    (λ c c_fits. (let fits : InstrFits version (record { op = op; a = a; b = b; c = c })
    = record { a_size = assumption; a = assumption; b_size = assumption; b = assumption; c_size = assumption; c = assumption } in assumption fits))
    (λ x h. ((assumption, (let r : fits_c x.op x.a x.c ≡ true = assumption in let e : x.op ≡ op = assumption in let f : x.a ≡ a = assumption in cc)), (let whole : ◌≡◌ {A = Instr} (record { op = x.op; a = x.a; b = x.b; c = x.c }) x = refl in cc))))))
