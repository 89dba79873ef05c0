use Rattle.std.proofs.Common.{◌≡◌, ◌+◌, List, None, length, replicate, refl, ap, sym, ◌∙◌, arith, subst}
use Rattle.std.proofs.lemmas.Bool.{false≢true}
use Rattle.std.proofs.lemmas.List.{length-replicate}
use Rattle.cse_value.specs.declared.shape.ItemShape.{ItemShape}
use Rattle.cse_value.specs.declared.shape.RecordShape.{RecordShape}
use Rattle.cse_dict.specs.Dictionary.{shape_of}
use Rattle.cse_office.specs.Changes.{AreChanges, AreFew, AreSeen, counts_so_far, first_apart, no_count}
use Rattle.cse_office.specs.Files.{IsApartIn}
use Rattle.cse_office.proofs.CompareLaws.{Comparing-more, Comparing-none, IsAdded, apart_here, compared, ended_first, ended_second, if_seen_apart, same_counts, stops_ended, stops_read, stops_written}
use Rattle.cse_office.proofs.CountLaws.{none_few, put_is, so_far_at, so_far_len, so_far_more, so_far_none}
use Rattle.cse_office.proofs.compared.count_runs.Goals as goal

pub runs-init : goal.runs-init
runs-init g c =
    let d = c.args.reader.now.dictionary in
    let items = (shape_of d).items in
    let records = (shape_of d).records in
    let reader = c.requires.reader in
    let other = c.requires.other in
    let seen = c.args.seen.now in
    let counts = c.args.counts.now in
    let are : counts ≡ replicate (length items) no_count = c.requires.counts ∙ ap (λ (l : List ItemShape). replicate (length l) no_count) c.requires.items in
    let none : seen ≡ replicate (length records) 0 = c.requires.seen ∙ ap (λ (l : List RecordShape). replicate (length l) 0) c.requires.records in
    let so_far : counts_so_far seen 0 items counts ≡ replicate (length items) no_count =
    ap (λ s. counts_so_far s 0 items counts) none ∙ (ap (λ l. counts_so_far (replicate (length records) 0) 0 items l) are ∙ so_far_none (length records) items) in
    record {
      comparing = Comparing-none d _ _ c.args.reader.now c.args.other.now (counts_so_far seen 0 items counts) refl reader.held reader.reads reader.lines
          c.requires.same other.held other.reads other.lines so_far (ap length so_far ∙ length-replicate (length items) no_count);
      len_seen = ap length none ∙ length-replicate (length records) 0;
      len_counts = ap length are ∙ length-replicate (length items) no_count;
      are_few = subst (λ s. AreFew s counts 0) (sym none) (subst (λ l. AreFew (replicate (length records) 0) l 0) (sym are) (none_few (length records) (length items)));
      sound = reader.error;
      sound_other = other.error;
      end = λ e. absurd (false≢true (sym reader.ended ∙ e));
      end_other = λ e. absurd (false≢true (sym other.ended ∙ e));
      few = omega arith;
    }

pub returns-in-Ok-None-next-clause-ok : goal.returns-in-Ok-None-next-clause-ok
returns-in-Ok-None-next-clause-ok g c =
    let d = c.args.reader.now.dictionary in
    let inv = c.runs.invariant in
    let next = rw c.in-Ok-None.field-0-is at (c.in-Ok-None.ensures.next inv.sound) in
    let other = rw c.in-Ok-None-next.field-0-is at (c.in-Ok-None-next.ensures.next inv.sound_other) in
    let all = compared _ _ _ _ _ _ _ _ _ _ _ _ _ inv.comparing next other c.in-Ok-None.ensures.works c.in-Ok-None-next.ensures.works in
    let new = c.put_occurrences.new.counts in
    let so_len = so_far_len c.runs.seen c.runs.lines (shape_of d).items c.runs.counts inv.len_counts in
    same_counts d _ _ _ _ _ new all (c.put_occurrences.ensures.len ∙ (inv.len_counts ∙ sym so_len)) (λ n low.
    put_is (shape_of d).items c.args.items.now c.runs.seen c.runs.seen c.runs.lines c.runs.counts c.runs.counts new c.requires.items refl refl n low (c.put_occurrences.ensures.each n)
    ∙ sym (so_far_at c.runs.seen c.runs.lines (shape_of d).items c.runs.counts n inv.len_counts low))

pub returns-in-Ok-Some-next-clause-stops : goal.returns-in-Ok-Some-next-clause-stops
returns-in-Ok-Some-next-clause-stops g c =
    let inv = c.runs.invariant in
    let next = rw c.in-Ok-None.field-0-is at (c.in-Ok-None.ensures.next inv.sound) in
    let other = rw c.in-Ok-Some-next.field-0-is at (c.in-Ok-Some-next.ensures.next inv.sound_other) in
    ended_first _ _ _ _ _ _ _ _ _ _ _ _ _ inv.comparing _ next other c.in-Ok-None.ensures.works c.in-Ok-Some-next.ensures.works c.in-Ok-Some-next.ensures.end

pub returns-in-Ok-None-next-2-clause-stops : goal.returns-in-Ok-None-next-2-clause-stops
returns-in-Ok-None-next-2-clause-stops g c =
    let inv = c.runs.invariant in
    let next = rw c.in-Ok-Some.field-0-is at (c.in-Ok-Some.ensures.next inv.sound) in
    let other = rw c.in-Ok-None-next-2.field-0-is at (c.in-Ok-None-next-2.ensures.next inv.sound_other) in
    ended_second _ _ _ _ _ _ _ _ _ _ _ _ _ inv.comparing _ next other c.in-Ok-Some.ensures.works c.in-Ok-None-next-2.ensures.works c.in-Ok-Some.ensures.end

pub returns-in-Err-added-clause-stops : goal.returns-in-Err-added-clause-stops
returns-in-Err-added-clause-stops g c =
    let d = c.args.reader.now.dictionary in
    let inv = c.runs.invariant in
    let next = rw c.in-Ok-Some.field-0-is at (c.in-Ok-Some.ensures.next inv.sound) in
    let other = rw c.in-Ok-Some-next-2.field-0-is at (c.in-Ok-Some-next-2.ensures.next inv.sound_other) in
    if_seen_apart d _ _ _ _ _ _ (λ line h. apart_here d _ _ _ _ _ _ _ _ _ _ _ _ inv.comparing _ _ next other c.in-Ok-Some.ensures.works c.in-Ok-Some-next-2.ensures.works c.in-Ok-Some.ensures.end c.in-Ok-Some-next-2.ensures.end line
    (subst (λ l. IsApartIn l c.in-Ok-Some.before.lines c.in-Ok-Some-next-2.after.lines c.runs.lines line) c.requires.items h)) c.in-Err-added.ensures.apart

pub runs-preserved : goal.runs-preserved
runs-preserved g c =
    let d = c.args.reader.now.dictionary in
    let records = (shape_of d).records in
    let items = (shape_of d).items in
    let inv = c.runs.invariant in
    let next = rw c.in-Ok-Some.field-0-is at (c.in-Ok-Some.ensures.next inv.sound) in
    let other = rw c.in-Ok-Some-next-2.field-0-is at (c.in-Ok-Some-next-2.ensures.next inv.sound_other) in
    let seen = c.runs.seen in
    let counts = c.runs.counts in
    let before = c.in-Ok-Some.before.lines in
    let after = c.in-Ok-Some-next-2.after.lines in
    let new = c.see_runs-added.new.counts in
    let new_seen = c.see_runs-added.new.seen in
    let said = c.in-Ok.ensures in
    let seen_are = subst (λ rs. AreSeen rs before seen new_seen) c.requires.records said.seen in
    let changes_first = subst (λ rs. AreChanges rs c.args.items.now before after counts new) c.requires.records said.changes in
    let changes = subst (λ is. AreChanges records is before after counts new) c.requires.items changes_first in
    let so_new = counts_so_far new_seen (c.runs.lines + length before) items new in
    let added : IsAdded records items before after c.runs.lines (counts_so_far seen c.runs.lines items counts) so_new = record {
      pair = subst (λ is. first_apart is 0 before after ≡ None) c.requires.items said.pairs;
      len = so_far_len new_seen (c.runs.lines + length before) items new (said.len ∙ inv.len_counts) ∙ sym (so_far_len seen c.runs.lines items counts inv.len_counts);
      each = so_far_more records items before after c.runs.lines seen new_seen counts new inv.len_seen said.len_seen inv.len_counts said.len seen_are changes;
    } in
    let more = Comparing-more d _ _ _ _ _ _ _ _ _ _ _ _ inv.comparing _ _ next other so_new c.in-Ok-Some.ensures.works c.in-Ok-Some-next-2.ensures.works added in
    record {
      comparing = rw (said.lines, said.reader, said.other) more;
      len_seen = said.len_seen ∙ inv.len_seen;
      len_counts = said.len ∙ inv.len_counts;
      are_few = rw said.lines said.few;
      sound = rw said.reader c.in-Ok-Some.ensures.ok;
      sound_other = rw said.other c.in-Ok-Some-next-2.ensures.ok;
      end = rw said.reader c.in-Ok-Some.ensures.end;
      end_other = rw said.other c.in-Ok-Some-next-2.ensures.end;
      few = omega (arith, said.lines, more.lines_are, c.in-Ok-Some.ensures.few);
    }

pub returns-in-Err-clause-stops : goal.returns-in-Err-clause-stops
returns-in-Err-clause-stops g c =
    let inv = c.runs.invariant in
    stops_read _ _ _ _ _ _ (g.S.Input.given c.runs.written) _ _ _ c.runs.other _ _ inv.comparing c.in-Err.error (c.in-Err.ensures.next inv.sound) c.in-Err.ensures.end (c.in-Err.ensures.failed inv.sound) c.in-Err.ensures.sound inv.end_other

pub returns-in-Err-next-clause-stops : goal.returns-in-Err-next-clause-stops
returns-in-Err-next-clause-stops g c =
    let inv = c.runs.invariant in
    let next = rw c.in-Ok-None.field-0-is at (c.in-Ok-None.ensures.next inv.sound) in
    stops_ended _ _ _ _ _ _ _ _ _ _ _ _ _ inv.comparing c.in-Err-next.error next (c.in-Err-next.ensures.next inv.sound_other) c.in-Ok-None.ensures.works c.in-Err-next.ensures.end
    (c.in-Err-next.ensures.failed inv.sound_other) c.in-Err-next.ensures.sound

pub returns-in-Err-next-2-clause-stops : goal.returns-in-Err-next-2-clause-stops
returns-in-Err-next-2-clause-stops g c =
    let inv = c.runs.invariant in
    let next = rw c.in-Ok-Some.field-0-is at (c.in-Ok-Some.ensures.next inv.sound) in
    stops_written _ _ _ _ _ _ _ _ _ _ _ _ _ inv.comparing _ c.in-Err-next-2.error next (c.in-Err-next-2.ensures.next inv.sound_other) c.in-Ok-Some.ensures.works c.in-Ok-Some.ensures.end
    c.in-Err-next-2.ensures.end (c.in-Err-next-2.ensures.failed inv.sound_other) c.in-Err-next-2.ensures.sound

pub next-requires : goal.next-requires
next-requires g c = c.runs.invariant.end

pub next-requires-in-Ok-None : goal.next-requires-in-Ok-None
next-requires-in-Ok-None g c = c.runs.invariant.end_other

pub next-requires-in-Ok-Some : goal.next-requires-in-Ok-Some
next-requires-in-Ok-Some g c = c.runs.invariant.end_other

pub see_runs-added-requires-clause-few : goal.see_runs-added-requires-clause-few
see_runs-added-requires-clause-few g c = c.runs.invariant.are_few
