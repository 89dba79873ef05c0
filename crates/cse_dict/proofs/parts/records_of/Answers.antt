use Rattle.std.proofs.Common.{List, ◌++◌, ap, refl}
use Rattle.cse_dict.specs.Dictionary.{RecordText, record_in, records_of}
use Rattle.cse_dict.proofs.Gathering.{no_value, none_more, one_more}
use Rattle.cse_dict.proofs.parts.records_of.Goals as goal

pub sections-init : goal.sections-init
sections-init c = ap (λ (l : List RecordText). l ++ records_of c.args.len c.args.read.now) c.new-records.ensures.items

pub returns-in_err-add_record : goal.returns-in_err-add_record
returns-in_err-add_record c = no_value _ c.from_residual.result c.from_residual.ensures.0

pub sections-preserved : goal.sections-preserved
sections-preserved c =
    one_more (λ len _. len) record_in records_of (λ _ _ _. refl) (records_of c.args.len c.args.read.now) c.sections.records.items c.add_record.new.records.items
    c.args.len c.args.len c.args.read.now c.sections.section-index c.section-item.result
    c.sections-test.true c.section-item.is c.sections.invariant c.in_ok-add_record.ensures refl

pub returns : goal.returns
returns c =
    none_more records_of (records_of c.args.len c.args.read.now) c.sections.records.items c.args.len c.args.read.now c.sections.section-index
    c.sections-test.false refl c.sections.invariant
