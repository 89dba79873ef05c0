use Rattle.std.proofs.Common.{◌≡◌, ℕ, ◌+◌, ◌<◌, ◌≤◌, Bool, List, cond, length, get_or, ap, sym, ◌∙◌, arith}
use Rattle.std.specs.Prelude.{◌&&◌, count_by, nat_lt}
use Rattle.std.proofs.lemmas.List.{length-map}
use Rattle.cse_lemmas.proofs.Booleans.{cond-le-one}
use Rattle.cse_case.specs.Columns.{no_line}
use Rattle.cse_case.specs.Field.{item_at}
use Rattle.cse_case.specs.Seen.{is_of}
use Rattle.cse_office.specs.declared.count.Count.{Count}
use Rattle.cse_office.specs.Changes.{is_changed_own_at, no_count, types_of}
use Rattle.cse_office.proofs.ChangeLaws.{count_next, left, left_none, left_passed, left_seen}
use Rattle.cse_office.proofs.sums.add_record.Goals as goal
use Rattle.cse_office.proofs.sums.add_record.Goals.{then-is_next, else-is_next}

pub add_place-requires-clause-few : goal.add_place-requires-clause-few
add_place-requires-clause-few c n within own =
    omega (arith, c.requires.few n within own, c.lines.invariant.few n within, c.lines-test.true, c.len-place-end.ensures)

pub lines-preserved : goal.lines-preserved
lines-preserved c =
    let i = c.lines.place in
    let before = c.args.before.now in
    let owner = c.args.owner in
    let most = c.args.most in
    let now = c.lines.counts in
    let low : i < length before = omega (arith, c.lines-test.true, c.len-place-end.ensures) in
    let test : c.is_next.result ≡ (is_of owner (get_or before i no_line).record_number && nat_lt c.lines.seen most) =
    c.is_next.ensures ∙ ap (λ t. is_of owner t && nat_lt c.lines.seen most) c.record.ensures in
    let changes : ℕ → ℕ → Bool = λ k. is_changed_own_at owner (item_at c.args.items.now k) before c.args.after.now in
    let later : ℕ → List ℕ = λ seen. left most seen owner (i + 1) (types_of before) in
    elim c.if-is_next.branch [
      | then-is_next w ↦
          let next = left_seen most c.lines.seen owner i before low (sym test ∙ w.if-is_next.true) in
          let each : (k : ℕ) → k < length c.args.items.now → (get_or c.if-is_next.counts k no_count).changed ≡ (get_or now k no_count).changed + cond (changes k i) 1 0 =
          λ k within. ap (λ (l : List Count). (get_or l k no_count).changed) w.counts-is ∙ ap (λ (x : Count). x.changed) (w.add_place.ensures.each k within) in
          record {
            occurrences = λ k within. ap (λ (l : List Count). (get_or l k no_count).occurrences) w.counts-is
                ∙ (ap (λ (x : Count). x.occurrences) (w.add_place.ensures.each k within) ∙ c.lines.invariant.occurrences k within);
            changed = λ k within. rw w.seen-is (ap (λ n. n + count_by (changes k) (later (c.lines.seen + 1))) (each k within)
                ∙ count_next (changes k) i (get_or now k no_count).changed _ _ _ next (c.lines.invariant.changed k within));
            few = λ k within. omega (arith, each k within, cond-le-one (changes k i), c.lines.invariant.few k within);
          }
      | else-is_next w ↦
          let next = left_passed most c.lines.seen owner i before low (sym test ∙ w.if-is_next.false) in
          record {
            occurrences = λ k within. ap (λ (l : List Count). (get_or l k no_count).occurrences) w.counts-is ∙ c.lines.invariant.occurrences k within;
            changed = λ k within. rw (w.seen-is, w.counts-is) (ap (λ l. (get_or now k no_count).changed + count_by (changes k) l) (sym next) ∙ c.lines.invariant.changed k within);
            few = λ k within. omega (arith, ap (λ (l : List Count). (get_or l k no_count).changed) w.counts-is, c.lines.invariant.few k within);
          }
    ]

pub returns-clause-changed : goal.returns-clause-changed
returns-clause-changed c n within =
    let types = types_of c.args.before.now in
    let len : length types ≡ length c.args.before.now = length-map c.args.before.now (λ line. line.record_number) in
    let end : length types ≤ c.lines.place = omega (arith, len, c.lines-test.false, c.len-place-end.ensures) in
    let changes : ℕ → Bool = is_changed_own_at c.args.owner (item_at c.args.items.now n) c.args.before.now c.args.after.now in
    let none : count_by changes (left c.args.most c.lines.seen c.args.owner c.lines.place types) ≡ 0 =
    ap (count_by changes) (left_none c.args.most c.lines.seen c.args.owner c.lines.place types end) in
    omega (arith, none, c.lines.invariant.changed n within)
