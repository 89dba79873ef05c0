use Rattle.std.proofs.Common.{IfSome, List, Result, Err, refl, ap, ◌∙◌, subst, inl, inr}
use Rattle.cse_code_typing.specs.declared.control.Control.{Control}
use Rattle.cse_code_typing.specs.Code.{part}
use Rattle.cse_code_typing.specs.Bracket.{KeepsRules, BreaksFirst}
use Rattle.cse_code_typing.specs.Tables.{scene_in}
use Rattle.cse_code_typing.specs.declared.depth.Depth.{Depth}
use Rattle.cse_code_typing.specs.declared.walk.WalkFault.{WalkFault}
use Rattle.cse_code_typing.specs.Judged.{Judges, fault_in}
use Rattle.cse_code_typing.proofs.Checks.{told_none}
use Rattle.cse_code_typing.proofs.whole.check_routine.Goals as goal

pub returns-in-Some-clause-fails : goal.returns-in-Some-clause-fails
returns-in-Some-clause-fails g c =
    let code = part c.args.start c.args.around.routine.now.instructions (g.C.Code.list c.args.code.now) in
    let skel = c.new-skeleton.ensures in
    inr (inl (record { number = refl; routine = refl; at = subst (λ (k : List Control). BreaksFirst k c.in-Some.at) skel (subst (λ o. IfSome o (BreaksFirst c.new-skeleton.result)) c.in-Some.is c.in_ok-at.ensures.first) }))

pub judge-requires-clause-brackets : goal.judge-requires-clause-brackets
judge-requires-clause-brackets g c =
    let code = part c.args.start c.args.around.routine.now.instructions (g.C.Code.list c.args.code.now) in
    let skel = c.new-skeleton.ensures in
    subst KeepsRules skel (told_none c.in_ok-at.field-0 (KeepsRules c.new-skeleton.result) c.in_ok-at.ensures.all c.in_default.not-Some)

pub returns-in-Ok-clause-sound : goal.returns-in-Ok-clause-sound
returns-in-Ok-clause-sound g c =
    let code = part c.args.start c.args.around.routine.now.instructions (g.C.Code.list c.args.code.now) in
    let skel = c.new-skeleton.ensures in
    let judged = subst (λ (v : Result Depth WalkFault). Judges (scene_in c.args.around) c.args.number code (fault_in v)) c.in-Ok.is c.in_ok-depth.ensures.judges in
    record { brackets = subst KeepsRules skel (told_none c.in_ok-at.field-0 (KeepsRules c.new-skeleton.result) c.in_ok-at.ensures.all c.in_default.not-Some); calls = judged.0; typing = judged.1 }

pub returns-in-Err-MayNotStand-clause-fails : goal.returns-in-Err-MayNotStand-clause-fails
returns-in-Err-MayNotStand-clause-fails g c =
    let code = part c.args.start c.args.around.routine.now.instructions (g.C.Code.list c.args.code.now) in
    let skel = c.new-skeleton.ensures in
    let judged = subst (λ (v : Result Depth WalkFault). Judges (scene_in c.args.around) c.args.number code (fault_in v)) (c.in-Err-MayNotStand.is ∙ ap Err c.in-Err-MayNotStand.field-0-is) c.in_ok-depth.ensures.judges in
    inr (inr (inl (record { number = refl; routine = refl; brackets = subst KeepsRules skel (told_none c.in_ok-at.field-0 (KeepsRules c.new-skeleton.result) c.in_ok-at.ensures.all c.in_default.not-Some); at = judged })))

pub returns-in-Err-NoStack-clause-fails : goal.returns-in-Err-NoStack-clause-fails
returns-in-Err-NoStack-clause-fails g c =
    let code = part c.args.start c.args.around.routine.now.instructions (g.C.Code.list c.args.code.now) in
    let skel = c.new-skeleton.ensures in
    let judged = subst (λ (v : Result Depth WalkFault). Judges (scene_in c.args.around) c.args.number code (fault_in v)) (c.in-Err-NoStack.is ∙ ap Err c.in-Err-NoStack.field-0-is) c.in_ok-depth.ensures.judges in
    inr (inr (inr (record { number = refl; routine = refl; brackets = subst KeepsRules skel (told_none c.in_ok-at.field-0 (KeepsRules c.new-skeleton.result) c.in_ok-at.ensures.all c.in_default.not-Some); at = judged })))
