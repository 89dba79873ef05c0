-- The two laws of the header, of the sections together, and of the whole image.
use Rattle.std.proofs.Common.{◌≡◌, ◌++◌, length, refl, sym, ap, subst, arith}
use Rattle.std.specs.List.{flat_map, AllByRecursion}
use Rattle.std.proofs.lemmas.Slice.Eq.{bytes_eq-Decides}
use Rattle.std.specs.Str.{bytes_eq}
use Rattle.cse_image_parts.specs.declared.version.Version.{Version}
use Rattle.cse_image_parts.specs.Image.{Lists}
use Rattle.cse_image_parts.specs.Fields.{instructions_in, last_event}
use Rattle.cse_image_parts.specs.declared.fault.Rule.TheVariants.{Header}
use Rattle.cse_image_parts.proofs.Algebra.{field, last, respell, Laws, checked_laws, bytes_laws, number_laws, signed_laws, each_laws, counted_laws, whole_laws}
use Rattle.cse_image.specs.Reading.{Edition, edition, header_at, lists_at, instr_at, edition_at}
use Rattle.cse_image.specs.Spelling.{magic, header, lists, instr, spelling_in, ListsFit, InstrFits, FitsIn}
use Rattle.cse_image_parts.specs.Reader.{then_at, done, each}
use Rattle.cse_image.proofs.Codes.{version_laws}
use Rattle.cse_image.proofs.Entries.{limits_laws, zero_laws, record_laws, item_laws, set_laws, text_laws, global_laws, array_laws, message_laws, routine_laws, event_laws, instr_laws}

pub lists_laws : (version : Version) → Laws (lists_at version) (lists version) (ListsFit version)
unfolding lists_at
lists_laws version =
    field (λ x. x.records) (ListsFit version) (counted_laws 200 (omega arith) (λ before. record_laws)) (λ x h. h.records) (λ records records_fit.
    field (λ x. x.items) _ (counted_laws 10000 (omega arith) (λ before. item_laws)) (λ x h. assumption) (λ items items_fit.
    field (λ x. x.sets) _ (counted_laws 10000 (omega arith) (λ before. set_laws)) (λ x h. assumption) (λ sets sets_fit.
    field (λ x. x.order) _ (counted_laws 200 (omega arith) (λ before. number_laws 4)) (λ x h. assumption) (λ order order_fit.
    field (λ x. x.constants) _ (counted_laws 65536 (omega arith) (λ before. signed_laws)) (λ x h. assumption) (λ constants constants_fit.
    field (λ x. x.limits) _ (limits_laws version) (λ x h. assumption) (λ limits limits_fit.
    field (λ x. x.texts) _ (counted_laws 65536 (omega arith) (λ before. text_laws)) (λ x h. assumption) (λ texts texts_fit.
    field (λ x. x.globals) _ (counted_laws 65536 (omega arith) (λ before. global_laws)) (λ x h. assumption) (λ globals globals_fit.
    field (λ x. x.arrays) _ (counted_laws 4096 (omega arith) array_laws) (λ x h. assumption) (λ arrays arrays_fit.
    field (λ x. x.messages) _ (counted_laws 65536 (omega arith) (λ before. message_laws)) (λ x h. assumption) (λ messages messages_fit.
    field (λ x. x.routines) _ (counted_laws 4096 (omega arith) (λ before. routine_laws version (instructions_in before))) (λ x h. assumption) (λ routines routines_fit.
    last (λ events. record { records = records; items = items; sets = sets; order = order; constants = constants; limits = limits; texts = texts; globals = globals; arrays = arrays; messages = messages; routines = routines; events = events }) (λ x. x.events) _ (counted_laws 50000 (omega arith) (λ before. event_laws (last_event before)))
    (λ events events_fit. (let fits : ListsFit version (record { records = records; items = items; sets = sets; order = order; constants = constants; limits = limits; texts = texts; globals = globals; arrays = arrays; messages = messages; routines = routines; events = events })
    = record { records = assumption; items = assumption; sets = assumption; order = assumption; constants = assumption; limits = assumption; texts = assumption; globals = assumption; arrays = assumption; messages = assumption; routines = assumption; events = assumption } in assumption fits))
    (λ x h. (assumption, (let whole : ◌≡◌ {A = Lists} (record { records = x.records; items = x.items; sets = x.sets; order = x.order; constants = x.constants; limits = x.limits; texts = x.texts; globals = x.globals; arrays = x.arrays; messages = x.messages; routines = x.routines; events = x.events }) x = refl in cc))))))))))))))

header_laws : Laws header_at header (λ version. Unit {0})
unfolding header_at
header_laws = whole_laws 8 (
    field (λ version. magic) (λ version. Unit {0}) (checked_laws Header (λ xs. bytes_eq xs magic) (bytes_laws 4)) (λ version h. (refl, refl)) (λ m m_fits.
    field (λ version. version) _ version_laws (λ version h. tt) (λ version version_fits.
    last (λ zero. version) (λ n. 0) _ (zero_laws 2 (omega arith)) (λ zero zero_fits. (((tt, sym ((bytes_eq-Decides m magic).0 m_fits.1)), refl), zero_fits)) (λ n h. (refl, sym h.1)))))
    (λ version. omega arith)

-- the sections and the code, in a version that is known
body_laws : (version : Version) → Laws (then_at (lists_at version) (λ tables. then_at (each (instr_at version) (instructions_in tables.routines)) (λ code. done (edition version (record { lists = tables; code = code })))))
    (λ e. lists version e.image.lists ++ flat_map instr e.image.code) (λ e. FitsIn e.version e.image × (e.version ≡ version))
body_laws version =
    field (λ e. e.image.lists) (λ e. FitsIn e.version e.image × (e.version ≡ version)) (lists_laws version) (λ e h. subst (λ (v : Version). ListsFit v e.image.lists) h.1 h.0.lists) (λ tables tables_fit.
    last (λ code. edition version (record { lists = tables; code = code })) (λ e. e.image.code) _ (each_laws (instructions_in tables.routines) (instr_laws version))
    (λ code code_fits. (let fits : FitsIn version (record { lists = tables; code = code }) = record { lists = assumption; code = assumption; count = assumption } in assumption (fits, refl)))
    (λ e h. (
      (subst (λ (v : Version). AllByRecursion (InstrFits v) e.image.code) h.0.1 h.0.0.code, (let n : length e.image.code ≡ instructions_in e.image.lists.routines = h.0.0.count in let same : e.image.lists ≡ tables = h.1 in cc)),
      (let whole : ◌≡◌ {A = Edition} (edition e.version (record { lists = e.image.lists; code = e.image.code })) e = refl in let v : e.version ≡ version = h.0.1 in let same : e.image.lists ≡ tables = h.1 in cc),
    )))

pub edition_laws : Laws edition_at (λ e. spelling_in e.version e.image) (λ e. FitsIn e.version e.image)
unfolding edition_at
edition_laws =
    field (λ e. e.version) (λ e. FitsIn e.version e.image) header_laws (λ e h. tt) (λ version version_fits.
    respell (λ e. lists e.version e.image.lists ++ flat_map instr e.image.code) (body_laws version) (λ e h. ap (λ (v : Version). lists v e.image.lists ++ flat_map instr e.image.code) (sym h.1)))
