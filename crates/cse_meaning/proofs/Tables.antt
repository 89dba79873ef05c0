-- The compiler's table of events says of each event what the meaning says.
use Rattle.std.proofs.Common.{◌≡◌, ℕ, Bool, true, false, not, cond, List, [], ◌∷◌, ◌++◌, Option, Some, None, refl, sym, ap, ◌∙◌, append_assoc}
use Rattle.std.specs.Prelude.{◌&&◌, if◌then◌else◌, map, find, option_map}
use Rattle.std.proofs.lemmas.Bool.{false≢true}
use Rattle.cse_image_parts.specs.declared.entries.Event.{Event}
use Rattle.cse_image_parts.specs.declared.entries.EventCode.{EventCode}
use Rattle.cse_image_parts.specs.declared.entries.EventCode.TheVariants as codes
use Rattle.cse_logic_tree.specs.declared.tree.Owner.{Owner}
use Rattle.cse_logic_tree.specs.declared.tree.Owner.TheVariants as owners
use Rattle.cse_logic_tree.specs.Typed.{Statement, Statements, no_statement, statement_and, Body, Plain, Preproc, Both, Postproc, Procedure}
use Rattle.cse_compile.specs.declared.outlines.RoutineSort.TheVariants as sorts
use Rattle.cse_compile.specs.Outline.{Handler, is_empty, is_idle, event_of, handler_of, handlers_of_body, handlers_in}
use Rattle.cse_meaning.specs.Meaning.{before, after, is_before, is_after, part, is_semicolon, is_silent}
use Rattle.cse_meaning.specs.Tables.{TablesAgree, is_same_event}

-- ---- events of owners

before_is : (owner : Owner) (c : EventCode) (i : ℕ) → is_same_event (event_of owner false) (record { code = c; index = i }) ≡ is_before c i owner
before_is owners.Application codes.ApplicationPreproc i = refl
before_is owners.Application c i = refl
before_is owners.Level codes.LevelPreproc i = refl
before_is owners.Level c i = refl
before_is (owners.Record r) codes.RecordPreproc i = refl
before_is (owners.Record r) c i = refl
before_is (owners.Item f) codes.ItemPreproc i = refl
before_is (owners.Item f) c i = refl

after_is : (owner : Owner) (c : EventCode) (i : ℕ) → is_same_event (event_of owner true) (record { code = c; index = i }) ≡ is_after c i owner
after_is owners.Application codes.ApplicationPostproc i = refl
after_is owners.Application c i = refl
after_is owners.Level codes.LevelPostproc i = refl
after_is owners.Level c i = refl
after_is (owners.Record r) codes.RecordPostproc i = refl
after_is (owners.Record r) c i = refl
after_is (owners.Item f) codes.ItemPostproc i = refl
after_is (owners.Item f) c i = refl

-- none comes before and after
apart : (c : EventCode) (i : ℕ) (owner : Owner) → is_before c i owner ≡ true → is_after c i owner ≡ false
apart codes.ApplicationPostproc i owners.Application h = absurd (false≢true h)
apart codes.LevelPostproc i owners.Level h = absurd (false≢true h)
apart codes.RecordPostproc i (owners.Record r) h = absurd (false≢true h)
apart codes.ItemPostproc i (owners.Item f) h = absurd (false≢true h)
apart c i owner h = refl

-- ---- statements

same_semicolon : (x : Statement) → is_semicolon x ≡ is_empty x
same_semicolon x = refl

silence : (xs : Statements) → is_silent xs ≡ is_idle xs
silence no_statement = refl
silence (statement_and x xs) = ap (λ b. b && is_silent xs) (same_semicolon x) ∙ ap (λ b. is_empty x && b) (silence xs)

-- the statements, where they say something, else others
abbrev chosen : Statements → Option Statements → Option Statements
chosen xs o = cond (not (is_silent xs)) (Some xs) o

-- the same by the compiler's words, where they are of the event
abbrev pick : Bool → Bool → Statements → Option Statements → Option Statements
pick idle same xs o = if idle then o else (if same then Some xs else o)

none : (idle : Bool) (xs : Statements) (o : Option Statements) → pick idle false xs o ≡ o
none true xs o = refl
none false xs o = refl

some : (xs : Statements) (o : Option Statements) → pick (is_idle xs) true xs o ≡ chosen xs o
some xs o = ap (λ i. pick i true xs o) (sym (silence xs)) ∙ by (is_silent xs)
  where
    by : (i : Bool) → pick i true xs o ≡ cond (not i) (Some xs) o
    by true = refl
    by false = refl

-- ---- procedures

module _ (e : Event) where
  abbrev said : List Handler → Option Statements
  said xs = option_map (λ (x : Handler). x.outline.body) (find (λ (x : Handler). is_same_event x.event e) xs)

  one : (owner : Owner) (k : Bool) (xs : Statements) (rest : List Handler) → said (handler_of owner k xs ++ rest) ≡ pick (is_idle xs) (is_same_event (event_of owner k) e) xs (said rest)
  one owner k xs rest = by (is_idle xs) (is_same_event (event_of owner k) e) refl
    where
      first : Handler
      first = record { event = event_of owner k; outline = record { sort = sorts.Procedure owner; body = xs } }

      by : (idle same : Bool) → is_same_event (event_of owner k) e ≡ same → said ((if idle then [] else first ∷ []) ++ rest) ≡ pick idle same xs (said rest)
      by true same is = refl
      by false true is = ap (λ s. option_map (λ (x : Handler). x.outline.body) (cond s (Some first) (find (λ (x : Handler). is_same_event x.event e) rest))) is
      by false false is = ap (λ s. option_map (λ (x : Handler). x.outline.body) (cond s (Some first) (find (λ (x : Handler). is_same_event x.event e) rest))) is

  module _ (owner : Owner) where
    early : (same : Bool) → is_before e.code e.index owner ≡ same → (xs : Statements) (rest : List Handler) → said (handler_of owner false xs ++ rest) ≡ pick (is_idle xs) same xs (said rest)
    early same is xs rest = one owner false xs rest ∙ ap (λ s. pick (is_idle xs) s xs (said rest)) (before_is owner e.code e.index ∙ is)

    late : (same : Bool) → is_after e.code e.index owner ≡ same → (xs : Statements) (rest : List Handler) → said (handler_of owner true xs ++ rest) ≡ pick (is_idle xs) same xs (said rest)
    late same is xs rest = one owner true xs rest ∙ ap (λ s. pick (is_idle xs) s xs (said rest)) (after_is owner e.code e.index ∙ is)

    no_early : is_before e.code e.index owner ≡ false → (xs : Statements) (rest : List Handler) → said (handler_of owner false xs ++ rest) ≡ said rest
    no_early is xs rest = early false is xs rest ∙ none (is_idle xs) xs (said rest)

    no_late : is_after e.code e.index owner ≡ false → (xs : Statements) (rest : List Handler) → said (handler_of owner true xs ++ rest) ≡ said rest
    no_late is xs rest = late false is xs rest ∙ none (is_idle xs) xs (said rest)

    joined : (xs ys : Statements) (rest : List Handler) → said ((handler_of owner false xs ++ handler_of owner true ys) ++ rest) ≡ said (handler_of owner false xs ++ (handler_of owner true ys ++ rest))
    joined xs ys rest = ap said (append_assoc (handler_of owner false xs) (handler_of owner true ys) rest)

    body_by : (rest : List Handler) (x y : Bool) → is_before e.code e.index owner ≡ x → is_after e.code e.index owner ≡ y → (body : Body)
        → said (handlers_of_body owner body ++ rest) ≡ chosen (if x then before body else (if y then after body else no_statement)) (said rest)
    body_by rest true true p q body = absurd (false≢true (sym (apart e.code e.index owner p) ∙ q))
    body_by rest true false p q (Plain xs) = no_late q xs rest
    body_by rest true false p q (Preproc xs) = early true p xs rest ∙ some xs (said rest)
    body_by rest true false p q (Both xs ys) = joined xs ys rest ∙ (early true p xs (handler_of owner true ys ++ rest) ∙ (some xs (said (handler_of owner true ys ++ rest)) ∙ ap (chosen xs) (no_late q ys rest)))
    body_by rest true false p q (Postproc xs) = no_late q xs rest
    body_by rest false true p q (Plain xs) = late true q xs rest ∙ some xs (said rest)
    body_by rest false true p q (Preproc xs) = no_early p xs rest
    body_by rest false true p q (Both xs ys) = joined xs ys rest ∙ (no_early p xs (handler_of owner true ys ++ rest) ∙ (late true q ys rest ∙ some ys (said rest)))
    body_by rest false true p q (Postproc xs) = late true q xs rest ∙ some xs (said rest)
    body_by rest false false p q (Plain xs) = no_late q xs rest
    body_by rest false false p q (Preproc xs) = no_early p xs rest
    body_by rest false false p q (Both xs ys) = joined xs ys rest ∙ (no_early p xs (handler_of owner true ys ++ rest) ∙ no_late q ys rest)
    body_by rest false false p q (Postproc xs) = no_late q xs rest

    body_is : (rest : List Handler) (body : Body) → said (handlers_of_body owner body ++ rest) ≡ chosen (part e owner body) (said rest)
    body_is rest body = body_by rest (is_before e.code e.index owner) (is_after e.code e.index owner) refl refl body

  all_are : (ps : List Procedure) → find (λ xs. not (is_silent xs)) (map (λ (x : Procedure). part e x.owner x.body) ps) ≡ said (handlers_in ps)
  all_are [] = refl
  all_are (p ∷ ps) = ap (chosen (part e p.owner p.body)) (all_are ps) ∙ sym (body_is p.owner (handlers_in ps) p.body)

pub tables_agree : TablesAgree
tables_agree t e = all_are e t.procedures
