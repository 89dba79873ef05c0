use Rattle.cse_office.proofs.compared.see_lines.Goals as goal

pub add_runs-requires-clause-seen : goal.add_runs-requires-clause-seen
add_runs-requires-clause-seen g c = c.requires.seen

pub add_runs-requires-clause-counts : goal.add_runs-requires-clause-counts
add_runs-requires-clause-counts g c = c.requires.counts

pub add_runs-requires-clause-room : goal.add_runs-requires-clause-room
add_runs-requires-clause-room g c = c.requires.room

pub add_runs-requires-clause-few : goal.add_runs-requires-clause-few
add_runs-requires-clause-few g c = c.requires.few

pub see_runs-requires-clause-as_many : goal.see_runs-requires-clause-as_many
see_runs-requires-clause-as_many g c = c.in-Ok.ensures.as_many

pub returns-in-Err-clause-len_seen : goal.returns-in-Err-clause-len_seen
returns-in-Err-clause-len_seen g c = c.add_runs.ensures.len_seen

pub returns-in-Err-clause-len : goal.returns-in-Err-clause-len
returns-in-Err-clause-len g c = c.add_runs.ensures.len

pub returns-in-Err-clause-apart : goal.returns-in-Err-clause-apart
returns-in-Err-clause-apart g c = c.in-Err.ensures.apart

pub returns-in-Err-see_runs-clause-len_seen : goal.returns-in-Err-see_runs-clause-len_seen
returns-in-Err-see_runs-clause-len_seen g c = c.add_runs.ensures.len_seen

pub returns-in-Err-see_runs-clause-len : goal.returns-in-Err-see_runs-clause-len
returns-in-Err-see_runs-clause-len g c = c.add_runs.ensures.len

pub returns-in-Ok-see_runs-clause-len_seen : goal.returns-in-Ok-see_runs-clause-len_seen
returns-in-Ok-see_runs-clause-len_seen g c = c.add_runs.ensures.len_seen

pub returns-in-Ok-see_runs-clause-len : goal.returns-in-Ok-see_runs-clause-len
returns-in-Ok-see_runs-clause-len g c = c.add_runs.ensures.len

pub returns-in-Ok-see_runs-clause-lines : goal.returns-in-Ok-see_runs-clause-lines
returns-in-Ok-see_runs-clause-lines g c = c.in-Ok.ensures.lines

pub returns-in-Ok-see_runs-clause-pairs : goal.returns-in-Ok-see_runs-clause-pairs
returns-in-Ok-see_runs-clause-pairs g c = c.in-Ok.ensures.pairs

pub returns-in-Ok-see_runs-clause-seen : goal.returns-in-Ok-see_runs-clause-seen
returns-in-Ok-see_runs-clause-seen g c = c.in-Ok.ensures.seen

pub returns-in-Ok-see_runs-clause-changes : goal.returns-in-Ok-see_runs-clause-changes
returns-in-Ok-see_runs-clause-changes g c = c.in-Ok.ensures.changes

pub returns-in-Ok-see_runs-clause-few : goal.returns-in-Ok-see_runs-clause-few
returns-in-Ok-see_runs-clause-few g c = c.in-Ok.ensures.few
