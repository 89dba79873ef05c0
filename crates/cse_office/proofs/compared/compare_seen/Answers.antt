use Rattle.std.proofs.Common.{◌≡◌, List, length, replicate, ap, sym, ◌∙◌, arith, subst}
use Rattle.std.specs.Vec.{with_items}
use Rattle.std.proofs.lemmas.List.{with_items_is}
use Rattle.cse_value.specs.Device.{Given}
use Rattle.cse_value.specs.Shape.{ShapeLists, shape_lists}
use Rattle.cse_dict.specs.Dictionary.{DictionaryText, shape_of}
use Rattle.cse_office.specs.Changes.{no_count}
use Rattle.cse_office.specs.Files.{IsCompared, StopsSeen}
use Rattle.cse_office.specs.declared.count.Count.{Count}
use Rattle.cse_office.specs.declared.fault.SeenFault.{SeenFault}
use Rattle.cse_office.proofs.compared.compare_seen.Goals as goal

compared_by : (d d' : DictionaryText) (before after before' after' : Given) (counts : List Count) → d ≡ d' → IsCompared d before after before' after' counts → IsCompared d' before after before' after' counts
compared_by d d' before after before' after' counts same all = subst (λ x. IsCompared x before after before' after' counts) same all

stops_by : {E : Type 0} (d d' : DictionaryText) (before after before' after' : Given) (fault : SeenFault E) → d ≡ d' → StopsSeen d before after before' after' fault → StopsSeen d' before after before' after' fault
stops_by d d' before after before' after' fault same stops = subst (λ x. StopsSeen x before after before' after' fault) same stops

pub count_runs-outcome-requires-clause-reader : goal.count_runs-outcome-requires-clause-reader
count_runs-outcome-requires-clause-reader g c =
    let new = c.new-reader.ensures in
    record { held = new.held; reads = new.reads; lines = new.lines; error = new.error; ended = new.ended }

pub count_runs-outcome-requires-clause-other : goal.count_runs-outcome-requires-clause-other
count_runs-outcome-requires-clause-other g c =
    let new = c.new-other.ensures in
    record { held = new.held; reads = new.reads; lines = new.lines; error = new.error; ended = new.ended }

pub count_runs-outcome-requires-clause-same : goal.count_runs-outcome-requires-clause-same
count_runs-outcome-requires-clause-same g c = c.new-other.ensures.dictionary ∙ sym c.new-reader.ensures.dictionary

pub count_runs-outcome-requires-clause-records : goal.count_runs-outcome-requires-clause-records
count_runs-outcome-requires-clause-records g c =
    let shape : shape_lists c.shape-shape.result.now ≡ shape_of c.args.dictionary.now = c.shape-shape.ensures.shape in
    c.deref.ensures.value ∙ (ap (λ (s : ShapeLists). s.records) shape ∙ ap (λ (d : DictionaryText). (shape_of d).records) (sym c.new-reader.ensures.dictionary))

pub count_runs-outcome-requires-clause-items : goal.count_runs-outcome-requires-clause-items
count_runs-outcome-requires-clause-items g c =
    let shape : shape_lists c.shape-shape.result.now ≡ shape_of c.args.dictionary.now = c.shape-shape.ensures.shape in
    c.deref-2.ensures.value ∙ (ap (λ (s : ShapeLists). s.items) shape ∙ ap (λ (d : DictionaryText). (shape_of d).items) (sym c.new-reader.ensures.dictionary))

pub count_runs-outcome-requires-clause-seen : goal.count_runs-outcome-requires-clause-seen
count_runs-outcome-requires-clause-seen g c =
    let many : c.len-2.result ≡ length c.deref.result.now = omega (arith, c.len-2.ensures, c.shape-shape.result.now.records.ok.0, ap length c.deref.ensures.value) in
    c.deref_mut.ensures.value ∙ (c.in_ok-seen.ensures ∙ ap (λ n. replicate n 0) many)

pub count_runs-outcome-requires-clause-counts : goal.count_runs-outcome-requires-clause-counts
count_runs-outcome-requires-clause-counts g c =
    let many : c.len.result ≡ length c.deref-2.result.now = omega (arith, c.len.ensures, c.shape-shape.result.now.items.ok.0, ap length c.deref-2.ensures.value) in
    c.deref_mut-2.ensures.value ∙ (c.in_ok-counts.ensures ∙ ap (λ n. replicate n no_count) many)

pub returns-in-Ok-clause-ok : goal.returns-in-Ok-clause-ok
returns-in-Ok-clause-ok g c =
    let counts = c.in_ok-counts.counts in
    let new = c.count_runs-outcome.new.counts in
    let kept : (with_items counts new).items ≡ new = with_items_is counts new (c.count_runs-outcome.auto.counts ∙ c.deref_mut-2.ensures.len) in
    subst (IsCompared c.args.dictionary.now _ _ _ _) (sym kept) (compared_by _ _ _ _ _ _ new c.new-reader.ensures.dictionary c.in-Ok.ensures.ok)

pub returns-in-Err-clause-stops : goal.returns-in-Err-clause-stops
returns-in-Err-clause-stops g c = stops_by _ _ _ _ _ _ c.in-Err.fault c.new-reader.ensures.dictionary c.in-Err.ensures.stops
