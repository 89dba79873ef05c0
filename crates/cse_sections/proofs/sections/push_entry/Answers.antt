use Rattle.std.proofs.Common.{List, ◌∙◌, ◌∷◌, ◌++◌, [], sym, ap}
use Rattle.cse_sections.specs.Sections.{SectionText, with_entry}
use Rattle.cse_sections.proofs.SectionLaws.{with_entry-last}
use Rattle.cse_sections.proofs.sections.push_entry.Goals as goal

pub returns-in_ok-push-2 : goal.returns-in_ok-push-2
returns-in_ok-push-2 c =
    let popped : List SectionText = c.pop.new.self.items in
    let section : SectionText = c.in-Some.section in
    c.in_ok-push-2.ensures.items
    ∙ ap (λ entries. popped ++ record { line = c.section.inside.line; heading = c.section.inside.heading.now; entries = entries } ∷ []) c.in_ok-push.ensures.items
    ∙ ap (λ (s : SectionText). popped ++ record s { entries = s.entries ++ c.args.pair ∷ [] } ∷ []) c.section.view_is
    ∙ sym (with_entry-last popped section c.args.pair)
    ∙ ap (λ ss. with_entry ss c.args.pair) (sym c.in-Some.ensures.items)
