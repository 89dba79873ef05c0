use Rattle.std.proofs.Common.{◌≡◌, ◌+◌, ◌++◌, ◌∷◌, [], length, take, drop, ap, sym, ◌∙◌, append_assoc, append-nil, arith, subst, refl, add-zero, replicate, rules, None}
use Rattle.cse_case.specs.declared.line.Line.{Line}
use Rattle.cse_case.specs.declared.line.Ending.TheVariants.{FileEnd}
use Rattle.std.specs.Vec.{with_items}
use Rattle.std.proofs.lemmas.List.{drop_all, length-map, take_all, with_items_is}
use Rattle.cse_case.specs.Seen.{onto_unseen, unseen_from, unseen_of}
use Rattle.cse_case.proofs.SeenLaws.{AreCounts-none, take-types, unseen_from-next}
use Rattle.cse_case.specs.Table.{AreCounts, types_in}
use Rattle.cse_case.proofs.seen.count_lines.Goals as goal
use Rattle.cse_case.proofs.seen.count_lines.Goals.{in-Some+in_ok-push-in-Some, in-None}

pub lines-init : goal.lines-init
unfolding unseen_of
lines-init c =
    let zeros : c.resize.new.self.items ≡ replicate (length c.args.records.now) 0 = search rules in
    record {
      counts = rw zeros (AreCounts-none c.args.records.now (length c.args.records.now) refl);
      unseen = rw (c.clear-2.ensures.items, add-zero) refl;
    }

pub lines-preserved : goal.lines-preserved
lines-preserved c =
    let no : Line = record { first = 0; width = 0; len = 0; ending = FileEnd; record_number = None } in
    let types = types_in c.args.lines.now in
    let i = c.lines.i in
    let before = take i types in
    let are = rw (← c.deref_mut.ensures.value) at c.lines.invariant.counts in
    let new = c.count_line.ensures.counts before are in
    let why = c.count_line.ensures.why before are in
    let next = unseen_from-next c.args.records.now c.args.number c.args.lines.now i no c.lines-test.true in
    let items : (with_items c.lines.counts c.count_line.new.counts).items ≡ c.count_line.new.counts = with_items_is c.lines.counts c.count_line.new.counts (c.count_line.auto.counts ∙ c.deref_mut.ensures.len) in
    let rest = unseen_from c.args.records.now (c.args.number + (i + 1)) (take (i + 1) types) (drop (i + 1) types) in
    record {
      counts = rw (items, take-types c.args.lines.now i no c.lines-test.true) new;
      unseen = elim c.match-count_line.branch [
        | in-Some+in_ok-push-in-Some w ↦
            let own = sym why ∙ w.in-Some.is in
            ap (λ v. v.items ++ rest) w.unseen-is ∙ (ap (λ l. l ++ rest) w.in_ok-push-in-Some.ensures.items
            ∙ (append_assoc c.lines.unseen.items ((c.args.number + i, w.in-Some.why) ∷ []) rest
            ∙ (ap (λ o. c.lines.unseen.items ++ onto_unseen (c.args.number + i) o rest) (sym own) ∙ (ap (λ l. c.lines.unseen.items ++ l) (sym next) ∙ c.lines.invariant.unseen))))
        | in-None w ↦
            let own = sym why ∙ w.in-None.is in
            ap (λ v. v.items ++ rest) w.unseen-is
            ∙ (ap (λ o. c.lines.unseen.items ++ onto_unseen (c.args.number + i) o rest) (sym own) ∙ (ap (λ l. c.lines.unseen.items ++ l) (sym next) ∙ c.lines.invariant.unseen))
      ];
    }

pub returns-clause-counts : goal.returns-clause-counts
returns-clause-counts c =
    subst (λ l. AreCounts c.args.records.now l c.lines.counts.items)
    (take_all c.lines.i (types_in c.args.lines.now) (omega (arith, c.lines-test.false, length-map c.args.lines.now (λ l. l.record_number)))) c.lines.invariant.counts

pub returns-clause-unseen : goal.returns-clause-unseen
returns-clause-unseen c =
    let types = types_in c.args.lines.now in
    let unseen = c.lines.unseen.items in
    let none = drop_all c.lines.i types (omega (arith, c.lines-test.false, length-map c.args.lines.now (λ l. l.record_number))) in
    sym (append-nil unseen) ∙ ap (λ l. unseen ++ unseen_from c.args.records.now (c.args.number + c.lines.i) (take c.lines.i types) l) (sym none) ∙ c.lines.invariant.unseen
