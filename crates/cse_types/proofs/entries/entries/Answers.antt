use Rattle.std.proofs.Common.{◌≡◌, ◌+◌, ◌++◌, ◌∷◌, [], drop, ap, ◌∙◌, sym, subst, ◌≤◌, length, map, List, true}
use Rattle.std.proofs.lemmas.List.{map_push}
use Rattle.cse_logic_tree.specs.Typed as typed
use Rattle.cse_types.specs.declared.told.Told.{Told}
use Rattle.cse_types.specs.Entries.{are_said}
use Rattle.cse_types.specs.Told.{told_of}
use Rattle.cse_logic_names.specs.WellTyped.{entry_of}
use Rattle.cse_types.proofs.EntryLaws.{said_at, entries_turn, entries_end}
use Rattle.cse_types.proofs.entries.entries.Goals as goal

pub entry-requires : goal.entry-requires
entry-requires c = said_at c.deref-x-items.result.now c.all.x-index _ c.all-test.true (subst (λ (xs : List Told). are_said (map told_of xs) ≡ true) (sym c.deref-x-items.ensures.value) c.requires)

pub all-preserved : goal.all-preserved
all-preserved c =
    let messages = c.args.messages.now in
    let items = c.args.told.now.items in
    let whole = c.deref-x-items.ensures.value in
    let old = map typed.entry c.all.found.items in
    subst (λ (xs : List Told). map typed.entry c.push.new.self.items ++ map (entry_of messages) (map told_of (drop (c.all.x-index + 1) xs)) ≡ map (entry_of messages) (map told_of items)) whole
    (entries_turn messages c.deref-x-items.result.now c.all.x-index _ c.all-test.true old _ _
    (subst (λ (xs : List Told). old ++ map (entry_of messages) (map told_of (drop c.all.x-index xs)) ≡ map (entry_of messages) (map told_of items)) (sym whole) c.all.invariant)
    (ap (map typed.entry) c.in_ok-push.ensures.items ∙ map_push typed.entry c.all.found.items c.entry.result ∙ ap (λ y. old ++ y ∷ []) c.entry.ensures))

pub returns : goal.returns
returns c =
    let items = c.args.told.now.items in
    let le : length items ≤ c.all.x-index = subst (λ (xs : List Told). length xs ≤ c.all.x-index) c.deref-x-items.ensures.value c.all-test.false in
    entries_end c.args.messages.now items c.all.x-index le _ _ c.all.invariant
