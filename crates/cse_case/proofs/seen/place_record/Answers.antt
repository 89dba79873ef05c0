use Rattle.std.proofs.Common.{◌≡◌, ◌≤◌, ◌+◌, ◌++◌, ◌∷◌, [], length, map, take, get_or, ap, sym, ◌∙◌, arith, append_assoc, append-nil, length-append, None, true, false, refl}
use Rattle.std.proofs.lemmas.List.{take_all, length-take, map-append}
use Rattle.cse_case.specs.declared.line.Line.{Line}
use Rattle.cse_case.specs.declared.line.Ending.TheVariants.{FileEnd}
use Rattle.cse_case.specs.Seen.{places_from, is_of}
use Rattle.cse_case.specs.Table.{first_at, types_in}
use Rattle.cse_case.proofs.SeenLaws.{enough, places_from-next}
use Rattle.cse_case.proofs.TableLaws.{first_here}
use Rattle.cse_case.proofs.seen.place_record.Goals as goal
use Rattle.cse_case.proofs.seen.place_record.Goals.{then-is_of+in_ok-push, else-is_of}

pub returns-then-left-eq0 : goal.returns-then-left-eq0
returns-then-left-eq0 c =
    c.lines.invariant.firsts
    ∙ ap (λ l. c.args.firsts.now.items ++ map (first_at c.args.lines.now) l) (sym (enough c.args.number c.args.count c.lines.line-index (types_in c.args.lines.now) (omega arith)))

pub lines-preserved : goal.lines-preserved
lines-preserved c =
    let no : Line = record { first = 0; width = 0; len = 0; ending = FileEnd; record_number = None } in
    let lines = c.args.lines.now in
    let types = types_in lines in
    let r = c.args.number in
    let i = c.lines.line-index in
    let count = c.args.count in
    let before = places_from 0 r (take i types) in
    let next = places_from-next r lines i no c.lines-test.true in
    let first = first_here lines i no c.lines-test.true in
    let few : length (take count before) + 1 ≤ count = omega arith in
    let short : length before + 1 ≤ count = omega (arith, length-take count before) in
    elim c.if-is_of.branch [
      | then-is_of+in_ok-push w ↦
          let here : is_of r (get_or lines i no).record_number ≡ true = sym c.is_of.ensures ∙ w.if-is_of.true in
          let more : places_from 0 r (take (i + 1) types) ≡ before ++ i ∷ [] = next ∙ rw here refl in
          let all : take count (before ++ i ∷ []) ≡ before ++ i ∷ [] = take_all count (before ++ i ∷ []) (omega (arith, length-append before (i ∷ []))) in
          let had : take count before ≡ before = take_all count before (omega arith) in
          let firsts : map (first_at lines) (before ++ i ∷ []) ≡ map (first_at lines) before ++ (get_or lines i no).first ∷ [] =
          map-append (first_at lines) before (i ∷ []) ∙ ap (λ n. map (first_at lines) before ++ n ∷ []) first in
          record {
            firsts = ap (λ v. v.items) w.firsts-is ∙ (w.in_ok-push.ensures.items ∙ (ap (λ l. l ++ (get_or lines i no).first ∷ []) c.lines.invariant.firsts
                ∙ (append_assoc c.args.firsts.now.items (map (first_at lines) (take count before)) ((get_or lines i no).first ∷ [])
                ∙ (ap (λ l. c.args.firsts.now.items ++ (map (first_at lines) l ++ (get_or lines i no).first ∷ [])) had
                ∙ (ap (λ l. c.args.firsts.now.items ++ l) (sym firsts) ∙ ap (λ l. c.args.firsts.now.items ++ map (first_at lines) l) (sym (ap (take count) more ∙ all)))))));
            left = rw (more, all) (omega (arith, w.left-is, length-append before (i ∷ []), ap length had));
          }
      | else-is_of w ↦
          let here : is_of r (get_or lines i no).record_number ≡ false = sym c.is_of.ensures ∙ w.if-is_of.false in
          let more : places_from 0 r (take (i + 1) types) ≡ before = next ∙ (rw here (append-nil before)) in
          record {
            firsts = ap (λ v. v.items) w.firsts-is ∙ (c.lines.invariant.firsts ∙ ap (λ l. c.args.firsts.now.items ++ map (first_at lines) (take count l)) (sym more));
            left = rw more (omega (arith, w.left-is));
          }
    ]
