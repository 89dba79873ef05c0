use Rattle.std.proofs.Common.{◌≡◌, ap, ◌∙◌, sym, ◌<◌, ◌≤◌, ◌+◌, ◌++◌, length, get_or, map}
use Rattle.std.specs.Prelude.{◌||◌, not}
use Rattle.std.proofs.lemmas.List.{append-nil, drop_all}
use Rattle.cse_syntax_tree.specs.Tree as syntax
use Rattle.cse_logic_tree.specs.Typed as typed
use Rattle.cse_logic_names.specs.WellTyped.{procedure_messages}
use Rattle.cse_types.specs.JudgeTree as spec
use Rattle.cse_types.specs.Told.{told_of}
use Rattle.cse_logic_names.specs.Walk.{is_there}
use Rattle.cse_types.proofs.MadeLaws.{made_end}
use Rattle.cse_types.proofs.ProcedureLaws.{procedures_head, procedures_told, judged_turn}
use Rattle.cse_types.proofs.procedure.procedures.Goals as goal

pub all-preserved : goal.all-preserved
all-preserved c =
    let items = c.args.all.now in
    let x = c.x-item.result in
    let lt : c.all.x-index < length items = c.all-test.true in
    let is : x ≡ get_or items c.all.x-index x = c.x-item.is in
    let e = c.in_ok-is_there.ensures in
    record {
      value = judged_turn typed.procedure c.all.is_sound _ c.in_ok-is_there.is_there c.all.found.items _ _ _ _ _ c.all.invariant.value
          (procedures_head items c.all.x-index x lt is c.all.scope _ c.all.told.items _ e.same e.told) e.found e.there c.both_hold-is_sound.ensures;
      same = e.same ∙ c.all.invariant.same;
      told = procedures_told items c.all.x-index x lt is c.all.told.items _ _ e.told c.all.invariant.told;
    }

pub returns-then-is_sound-clause-value : goal.returns-then-is_sound-clause-value
returns-then-is_sound-clause-value c =
    let items = c.args.all.now in
    let le : length items ≤ c.all.x-index = c.all-test.false in
    let none = ap (map syntax.procedure) (drop_all c.all.x-index items le) in
    let n = length c.all.told.items in
    let e = made_end typed.procedure c.all.is_sound c.all.found.items _ _ (ap (spec.procedures_judged c.all.scope n) none) c.all.invariant.value in
    sym (e.0 c.if-is_sound.true)

pub returns-then-is_sound-clause-told : goal.returns-then-is_sound-clause-told
returns-then-is_sound-clause-told c =
    let items = c.args.all.now in
    let le : length items ≤ c.all.x-index = c.all-test.false in
    let none = ap (map syntax.procedure) (drop_all c.all.x-index items le) in
    let n = length c.all.told.items in
    sym (append-nil (map told_of c.all.told.items)) ∙ ap (λ ds. map told_of c.all.told.items ++ procedure_messages ds) (sym none) ∙ c.all.invariant.told

pub returns-clause-value : goal.returns-clause-value
returns-clause-value c =
    let items = c.args.all.now in
    let le : length items ≤ c.all.x-index = c.all-test.false in
    let none = ap (map syntax.procedure) (drop_all c.all.x-index items le) in
    let n = length c.all.told.items in
    let e = made_end typed.procedure c.all.is_sound c.all.found.items _ _ (ap (spec.procedures_judged c.all.scope n) none) c.all.invariant.value in
    sym (e.1 c.if-is_sound.false)

pub returns-clause-told : goal.returns-clause-told
returns-clause-told c =
    let items = c.args.all.now in
    let le : length items ≤ c.all.x-index = c.all-test.false in
    let none = ap (map syntax.procedure) (drop_all c.all.x-index items le) in
    let n = length c.all.told.items in
    sym (append-nil (map told_of c.all.told.items)) ∙ ap (λ ds. map told_of c.all.told.items ++ procedure_messages ds) (sym none) ∙ c.all.invariant.told
