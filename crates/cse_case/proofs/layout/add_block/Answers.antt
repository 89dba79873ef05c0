use Rattle.std.proofs.Common.{◌≡◌, ◌++◌, ◌∷◌, [], List, ap, sym, ◌∙◌, append_assoc}
use Rattle.cse_case.specs.declared.layout.ColumnSpan.{ColumnSpan}
use Rattle.cse_case.proofs.NamedColumnLaws.{HaveSame-behind, HaveSame-refl, HaveSame-trans}
use Rattle.cse_case.proofs.layout.add_block.Goals as goal

pub returns-in-Some-join : goal.returns-in-Some-join
returns-in-Some-join c =
    let front = c.pop.new.self.items in
    let last = c.in-Some.last in
    let both = c.in-Some-join.both in
    let two : List ColumnSpan = last ∷ c.args.span ∷ [] in
    let old : c.args.blocks.now.items ≡ front ++ last ∷ [] = c.in-Some.ensures.items in
    let whole : front ++ two ≡ c.args.blocks.now.items ++ c.args.span ∷ [] =
    sym (append_assoc front (last ∷ []) (c.args.span ∷ [])) ∙ ap (λ (l : List ColumnSpan). l ++ c.args.span ∷ []) (sym old) in
    HaveSame-trans _ _ _ (HaveSame-refl _ (front ++ both ∷ []) c.in_ok-push.ensures.items)
    (HaveSame-trans _ _ _ (HaveSame-behind front (both ∷ []) two c.in-Some-join.ensures) (HaveSame-refl _ _ whole))
