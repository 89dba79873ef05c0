use Rattle.cse_case.specs.NamedColumns.{padded}
use Rattle.std.proofs.Common.{◌≡◌, ◌-◌, ◌++◌, ◌∙◌, ℕ, List, ap, ap₂, drop, length, replicate}
use Rattle.cse_case.proofs.fill.put_line.Goals as goal

-- the text, and blanks behind it
parts : (text blanked columns new rest : List ℕ) → drop (length text) blanked ≡ replicate (length columns - length text) 32 → rest ≡ drop (length text) blanked → new ≡ text
    → new ++ rest ≡ padded (length columns) text
parts text blanked columns new rest blanks back is = ap (λ l. l ++ rest) is ∙ ap (λ l. text ++ l) (back ∙ blanks)

pub returns-then-text-lt8-clause-columns : goal.returns-then-text-lt8-clause-columns
returns-then-text-lt8-clause-columns c = parts c.args.text.now c.put_blanks_from.new.columns c.args.columns.now c.put_plain.new.columns c.split_at_mut-front.result.1.now c.put_blanks_from.ensures.blanks c.split_at_mut-front.ensures.back c.put_plain.ensures.columns

pub returns-then-text-lt8-clause-plain : goal.returns-then-text-lt8-clause-plain
returns-then-text-lt8-clause-plain c = c.put_plain.ensures.plain

pub returns-then-text-lt16-clause-columns : goal.returns-then-text-lt16-clause-columns
returns-then-text-lt16-clause-columns c = parts c.args.text.now c.put_blanks_from.new.columns c.args.columns.now c.put_two_eights.new.columns c.split_at_mut-front.result.1.now c.put_blanks_from.ensures.blanks c.split_at_mut-front.ensures.back c.put_two_eights.ensures.columns

pub returns-then-text-lt16-clause-plain : goal.returns-then-text-lt16-clause-plain
returns-then-text-lt16-clause-plain c = c.put_two_eights.ensures.plain

pub returns-else-text-lt16-clause-columns : goal.returns-else-text-lt16-clause-columns
returns-else-text-lt16-clause-columns c = parts c.args.text.now c.put_blanks_from.new.columns c.args.columns.now c.put_sixteens.new.columns c.split_at_mut-front.result.1.now c.put_blanks_from.ensures.blanks c.split_at_mut-front.ensures.back c.put_sixteens.ensures.columns

pub returns-else-text-lt16-clause-plain : goal.returns-else-text-lt16-clause-plain
returns-else-text-lt16-clause-plain c = c.put_sixteens.ensures.plain
