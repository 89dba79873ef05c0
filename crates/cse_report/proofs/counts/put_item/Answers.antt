use Rattle.std.proofs.Common.{◌≡◌, List, ℕ, [], ◌∷◌, ◌++◌, length, refl, sym, ◌∙◌, arith}
use Rattle.std.specs.List.{flat_map}
use Rattle.cse_value.proofs.GatherLaws.{Puts-then, Puts-as, Puts-nothing}
use Rattle.cse_report.specs.Frequency.{Table, item_lines, item_line, value_line}
use Rattle.cse_report.proofs.counts.put_item.Goals as goal

no_lines : (name : List ℕ) (t : Table) → length t ≡ 0 → [] ≡ item_lines name t
unfolding item_lines
no_lines name [] e = refl
no_lines name (x ∷ xs) e = absurd (omega (arith, e))

some_lines : (name : List ℕ) (t : Table) → (length t ≡ 0 → ⊥) → item_line name t ++ flat_map value_line t ≡ item_lines name t
unfolding item_lines
some_lines name [] other = absurd (other refl)
some_lines name (x ∷ xs) other = refl

pub returns-then-len-eq0 : goal.returns-then-len-eq0
returns-then-len-eq0 g c = Puts-as _ _ _ _ (no_lines c.args.name.now c.args.counts.now (sym c.len.ensures ∙ c.if-len-eq0.true)) (Puts-nothing _)

pub returns : goal.returns
returns g c =
    Puts-as _ _ _ _ (some_lines c.args.name.now c.args.counts.now (λ e. c.if-len-eq0.false (c.len.ensures ∙ e)))
    (Puts-then _ _ _ (item_line c.args.name.now c.args.counts.now) (flat_map value_line c.args.counts.now) c.put_item_line.ensures c.put_values.ensures)
