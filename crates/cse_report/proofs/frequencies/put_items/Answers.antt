use Rattle.std.proofs.Common.{◌<◌, ◌≤◌, length, min, take, ap, ◌∙◌, arith}
use Rattle.std.proofs.lemmas.List.{length-map}
use Rattle.cse_value.specs.Shape.{ShapeLists}
use Rattle.cse_dict.specs.Dictionary.{item_names}
use Rattle.cse_value.proofs.GatherLaws.{Puts-then, Puts-as}
use Rattle.cse_report.specs.Frequency.{items_lines, item_lines}
use Rattle.cse_report.proofs.PutLaws.{items-next, items-all, name-at}
use Rattle.cse_report.proofs.frequencies.put_items.Goals as goal

pub items-preserved : goal.items-preserved
items-preserved g c =
    let d = c.args.dictionary.now in
    let shapes = ap (λ (s : ShapeLists). length s.items) c.shape.ensures.shape in
    let known : c.items.item < length d.items = omega (arith, shapes, length-map d.items (λ i. i.shape), c.shape.result.now.items.ok.0) in
    let named : c.items.item < length (item_names d) = omega (arith, length-map d.items (λ i. i.name)) in
    let within : c.items.item < length c.args.items.now = omega arith in
    Puts-as _ _ _ _ (items-next (item_names d) c.args.items.now c.items.item c.item_name.result.now c.index-items-item.result named within (c.item_name.ensures ∙ name-at d c.items.item) c.index-items-item.is)
    (Puts-then _ _ _ (items_lines (take c.items.item (item_names d)) (take c.items.item c.args.items.now)) (item_lines c.item_name.result.now c.index-items-item.result) c.items.invariant c.put_item.ensures)

pub returns : goal.returns
returns g c =
    let d = c.args.dictionary.now in
    let shapes = ap (λ (s : ShapeLists). length s.items) c.shape.ensures.shape in
    let all : min (length (item_names d)) (length c.args.items.now) ≤ c.items.item =
    omega (arith, shapes, length-map d.items (λ i. i.shape), length-map d.items (λ i. i.name), c.shape.result.now.items.ok.0) in
    Puts-as _ _ _ _ (items-all (item_names d) c.args.items.now c.items.item all) c.items.invariant
