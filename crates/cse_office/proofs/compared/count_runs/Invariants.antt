use Rattle.std.proofs.Common.{◌≡◌, ◌≤◌, ◌-◌, ◌*◌, ◌^◌, None, true, length}
use Rattle.cse_dict.specs.Dictionary.{shape_of}
use Rattle.cse_office.specs.Changes.{AreFew, counts_so_far}
use Rattle.cse_value.specs.Device.{IsAtEnd}
use Rattle.cse_office.proofs.CompareLaws.{Comparing}
use Rattle.cse_office.proofs.compared.count_runs.Given as goal

abbrev pub invariant-runs : goal.invariant-runs
invariant-runs g l = record {
  comparing : Comparing l.fn.reader.dictionary (g.R.Input.given l.fn.read) (g.R.Input.given l.read) l.reader (g.S.Input.given l.fn.written) (g.S.Input.given l.written) l.other (counts_so_far l.seen l.lines (shape_of l.fn.reader.dictionary).items l.counts) l.lines;
  len_seen : length l.seen ≡ length (shape_of l.fn.reader.dictionary).records;
  len_counts : length l.counts ≡ length (shape_of l.fn.reader.dictionary).items;
  are_few : AreFew l.seen l.counts l.lines;
  sound : l.reader.error ≡ None;
  sound_other : l.other.error ≡ None;
  end : l.reader.ended ≡ true → IsAtEnd (g.R.Input.given l.read);
  end_other : l.other.ended ≡ true → IsAtEnd (g.S.Input.given l.written);
  few : l.lines ≤ 2 ^ 40 * 65536;
}

abbrev pub decreases-runs : goal.decreases-runs
decreases-runs g l = 2 ^ 40 * 65536 - l.lines
