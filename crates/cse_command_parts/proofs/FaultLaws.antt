-- The line of a fault: its words, and the end of the line behind them.
use Rattle.std.proofs.Common.{◌≡◌, ℕ, List, [], ◌∷◌, ◌++◌, Some, Result, refl, ap, sym, ◌∙◌, subst, append_assoc}
use Rattle.std.specs.Prelude.{codes}
use Rattle.cse_value.specs.Device.{Appends}
use Rattle.cse_value.specs.Writing.{AppendsFront, WritesAll}
use Rattle.cse_value.proofs.WriteLaws.{AppendsFront-more, WritesAll-after}
use Rattle.cse_command_parts.specs.FaultLine.{told, fault_text}
use Rattle.cse_command_parts.specs.declared.fault.Fault.{Fault}

-- the words of a fault whose number is told as this one
abbrev pub words_of : ℕ → Fault → List ℕ
words_of number fault =
    told (codes "refused ") (Some number) ++ (told (codes " line ") fault.line ++ (told (codes " column ") fault.column
    ++ (told (codes " byte ") fault.byte ++ (told (codes " routine ") fault.routine ++ (told (codes " place ") fault.place ++ [])))))

behind : (a r z s : List ℕ) → r ++ z ≡ s → (a ++ r) ++ z ≡ a ++ s
behind a r z s e = append_assoc a r z ∙ ap (λ l. a ++ l) e

ended : (a b c d e g z : List ℕ) → (a ++ (b ++ (c ++ (d ++ (e ++ (g ++ [])))))) ++ z ≡ a ++ b ++ c ++ d ++ e ++ g ++ z
ended a b c d e g z =
    behind a _ z _ (behind b _ z _ (behind c _ z _ (behind d _ z _ (behind e _ z _ (behind g [] z z refl)))))
    ∙ sym
    (append_assoc (a ++ b ++ c ++ d ++ e) g z
    ∙ (append_assoc (a ++ b ++ c ++ d) e (g ++ z)
    ∙ (append_assoc (a ++ b ++ c) d (e ++ (g ++ z)) ∙ (append_assoc (a ++ b) c (d ++ (e ++ (g ++ z))) ∙ append_assoc a b (c ++ (d ++ (e ++ (g ++ z))))))))

words_ended : (number : ℕ) (fault : Fault) → number ≡ fault.number → words_of number fault ++ 10 ∷ [] ≡ fault_text fault
words_ended number fault e =
    ended (told (codes "refused ") (Some number)) (told (codes " line ") fault.line) (told (codes " column ") fault.column) (told (codes " byte ") fault.byte)
    (told (codes " routine ") fault.routine) (told (codes " place ") fault.place) (10 ∷ [])
    ∙ ap
    (λ n. told (codes "refused ") (Some n) ++ told (codes " line ") fault.line ++ told (codes " column ") fault.column ++ told (codes " byte ") fault.byte
    ++ told (codes " routine ") fault.routine ++ told (codes " place ") fault.place ++ 10 ∷ [])
    e

pub words_front : (number : ℕ) (fault : Fault) (a b : List ℕ) → number ≡ fault.number → AppendsFront a b (words_of number fault) → AppendsFront a b (fault_text fault)
words_front number fault a b e front = subst (λ l. AppendsFront a b l) (words_ended number fault e) (AppendsFront-more a b (words_of number fault) (10 ∷ []) front)

pub words_whole : {T E : Type 0} (r : Result T E) (number : ℕ) (fault : Fault) (a b c : List ℕ) → number ≡ fault.number → Appends a b (words_of number fault)
    → WritesAll r b c (10 ∷ []) → WritesAll r a c (fault_text fault)
words_whole r number fault a b c e h w = subst (λ l. WritesAll r a c l) (words_ended number fault e) (WritesAll-after r a b c (words_of number fault) (10 ∷ []) h w)
