-- The numbers of messages, as digits write them.
use Rattle.std.specs.Prelude.{true, ◌&&◌, nat_le, if◌then◌else◌}
use Rattle.std.proofs.Common.{◌≡◌, ℕ, List, Some, None, ap, sym, ◌∙◌}
use Rattle.std.proofs.lemmas.Bool.{and_parts}
use Rattle.cse_syntax_tree.specs.Leaf.{is_within, is_digits, number_of, MOST}
use Rattle.cse_logic_names.specs.WellTyped.{message_number}
use Rattle.cse_logic_expressions.specs.JudgeStatement.{ranged}

pub number_is : (d : List ℕ) (v : ℕ) → is_within 0 MOST d ≡ true → v ≡ number_of d → ranged v ≡ message_number d
unfolding is_within
number_is d v h e =
    let n = number_of d in
    let digits = (and_parts (is_digits d) _ h).0 in
    ap ranged e ∙ sym (ap (λ g. if g && (nat_le 1 n && nat_le n 999999999) then Some n else None) digits)
