use Rattle.std.proofs.Common.{length, refl, add-zero, arith, ◌+◌, ◌++◌, ◌∷◌, [], None, take, drop, ap, sym, ◌∙◌, append_assoc, append-nil}
use Rattle.std.proofs.lemmas.List.{drop_all, length-map}
use Rattle.cse_case.specs.declared.line.Line.{Line}
use Rattle.cse_case.specs.declared.line.Ending.TheVariants.{FileEnd}
use Rattle.cse_case.proofs.SeenLaws.{type_is, unseen_from-next}
use Rattle.cse_case.specs.Seen.{onto_unseen, unseen_after, unseen_from, unseen_of}
use Rattle.cse_case.specs.Table.{types_in}
use Rattle.cse_case.proofs.TableLaws.{AreSeen-none, IsTable-seen}
use Rattle.cse_case.proofs.seen.see_lines.Goals as goal

pub lines-init : goal.lines-init
unfolding unseen_of
lines-init c = record {
  seen = rw (c.clear.ensures.items, c.in_ok-clear_spans.ensures) (AreSeen-none c.args.records.now c.args.lines.now (length c.args.records.now) refl);
  unseen = rw (c.clear-2.ensures.items, add-zero) refl;
}

pub returns-clause-table : goal.returns-clause-table
returns-clause-table c = λ _. IsTable-seen c.args.records.now c.args.lines.now c.lines.firsts.items c.lines.spans.items c.lines.place (omega (arith, c.lines-test.false)) c.lines.invariant.seen

pub lines-preserved : goal.lines-preserved
lines-preserved c =
    let no : Line = record { first = 0; width = 0; len = 0; ending = FileEnd; record_number = None } in
    let records = c.args.records.now in
    let lines = c.args.lines.now in
    let place = c.lines.place in
    let number = c.args.number + place in
    let types = types_in lines in
    let unseen = c.lines.unseen.items in
    let rest = unseen_from records (c.args.number + (place + 1)) (take (place + 1) types) (drop (place + 1) types) in
    let found = rw c.in-Unseen.is at c.in_ok-next.ensures in
    let own = ap (unseen_after records (take place types)) (sym (type_is lines place no c.lines-test.true)) ∙ found.0 in
    record {
      seen = found.1;
      unseen = ap (λ l. l ++ rest) c.in_ok-push-in-Unseen.ensures.items ∙ append_assoc unseen ((number, c.in-Unseen.why) ∷ []) rest
          ∙ ap (λ o. unseen ++ onto_unseen number o rest) (sym own) ∙ ap (λ l. unseen ++ l) (sym (unseen_from-next records c.args.number lines place no c.lines-test.true))
          ∙ c.lines.invariant.unseen;
    }

pub returns-clause-unseen : goal.returns-clause-unseen
returns-clause-unseen c _ =
    let types = types_in c.args.lines.now in
    let unseen = c.lines.unseen.items in
    let none = drop_all c.lines.place types (omega (arith, c.lines-test.false, length-map c.args.lines.now (λ l. l.record_number))) in
    sym (append-nil unseen) ∙ ap (λ l. unseen ++ unseen_from c.args.records.now (c.args.number + c.lines.place) (take c.lines.place types) l) (sym none) ∙ c.lines.invariant.unseen
