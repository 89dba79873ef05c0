use Rattle.std.proofs.Common.{◌≤◌, length, sym, ap, ◌∙◌, map, arith, ℕ, List}
use Rattle.std.specs.Str.{bytes_eq}
use Rattle.std.proofs.lemmas.Bool.{leb-true}
use Rattle.std.proofs.lemmas.List.{length-map}
use Rattle.std.proofs.lemmas.Grind.{common_steps}
use Rattle.cse_image_parts.specs.Limits.{most_texts}
use Rattle.cse_image.specs.Spelling.{TextFits}
use Rattle.cse_compile.proofs.Entries.{section_added, texts_added, text_longer, text_there}
use Rattle.cse_compile.proofs.pools.text_place.Goals as goal

pub returns-in-Ok-clause-at : goal.returns-in-Ok-clause-at
returns-in-Ok-clause-at c =
    let s = c.in-Ok.ensures.stored in
    text_there c.insert_full.new.self.keys c.in-Ok.at s.0 c.args.value s.1 s.2

pub returns-in-Ok-clause-keys : goal.returns-in-Ok-clause-keys
returns-in-Ok-clause-keys c = ap (map (λ t. t.now)) c.in-Ok.ensures.keys ∙ texts_added c.args.table.now.keys c.args.value

pub returns-in-Ok-clause-fit : goal.returns-in-Ok-clause-fit
returns-in-Ok-clause-fit c =
    let old : List (List ℕ) = map (λ t. t.now) c.args.table.now.keys in
    let new : List (List ℕ) = map (λ t. t.now) c.insert_full.new.self.keys in
    let few : length c.args.table.now.keys ≤ most_texts = omega (arith, leb-true _ _ c.requires.fit.count, length-map c.args.table.now.keys (λ t. t.now)) in
    let room : length c.insert_full.new.self.keys ≤ most_texts = grind (arith, common_steps) in
    section_added most_texts TextFits bytes_eq old new c.args.value.now
    (ap (map (λ t. t.now)) c.in-Ok.ensures.keys ∙ texts_added c.args.table.now.keys c.args.value)
    (omega (arith, room, length-map c.insert_full.new.self.keys (λ t. t.now)))
    c.requires.entry
    c.requires.fit

pub returns-then-not-contains-clause-full : goal.returns-then-not-contains-clause-full
returns-then-not-contains-clause-full c =
    let room : most_texts ≤ length c.args.table.now.keys = omega (arith, c.if-len-ge-MOST_TEXTS.true, c.len.ensures.len) in
    λ _. text_longer most_texts c.args.table.now.keys c.args.value room (sym c.contains.ensures ∙ c.if-not-contains.true)
