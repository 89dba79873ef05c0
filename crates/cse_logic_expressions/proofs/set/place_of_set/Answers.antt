use Rattle.std.proofs.Common.{◌≡◌, ◌∙◌, ap, ◌≤◌, ◌<◌, length, map, ℕ, arith, Option, Some, None}
use Rattle.std.specs.Prelude.{IfSome, nat_eq, position}
use Rattle.std.proofs.lemmas.List.{length-map}
use Rattle.cse_value.specs.declared.shape.SetShape.{SetShape}
use Rattle.cse_dict.specs.Dictionary.{SetText}
use Rattle.cse_logic_expressions.proofs.set.place_of_set.Goals as goal
use Rattle.cse_logic_names.proofs.Sets.{first_set_is}

few : (o : Option ℕ) (n : ℕ) → IfSome o (λ k. k < n) → n ≤ 10000 → IfSome o (λ k. k ≤ 10000)
few None n h le = tt
few (Some k) n h le = omega (arith, h, le)

pub returns : goal.returns
returns c =
    let d = c.args.dictionary.now in
    let sets : c.deref.result.now ≡ map (λ (s : SetText). s.shape) d.sets = c.deref.ensures.value ∙ ap (λ s. s.sets) c.shape.ensures.shape in
    let many : length c.deref.result.now ≡ length d.sets = ap length sets ∙ length-map d.sets (λ (s : SetText). s.shape) in
    record {
      place = c.place_among.ensures.place ∙ ap (position (λ (x : SetShape). nat_eq x.item c.args.item)) sets ∙ first_set_is d c.args.item;
      there = few c.place_among.result (length c.deref.result.now) c.place_among.ensures.there (omega (arith, many, c.shape.ensures.small.sets));
    }
