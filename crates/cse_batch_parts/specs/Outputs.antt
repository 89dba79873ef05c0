-- Where a run writes, and what it came to by its input and outputs.
use Rattle.std.specs.Prelude.{◌≡◌}
use Rattle.cse_value.specs.declared.device.Input.{Ghosts as Gives}
use Rattle.cse_value.specs.declared.device.Output.{Ghosts as Takes}
use Rattle.cse_case.specs.Reader.{ReaderText}
use Rattle.cse_case.specs.declared.reader.CaseReader.{CaseReader}
use Rattle.cse_decks.specs.Store.{Kept, StoreFits}
use Rattle.cse_value.specs.Gathering.{Going, behind}
use Rattle.cse_report.specs.Reports.{ReportsFit}
use Rattle.cse_report.specs.declared.reports.Reports.{Reports}
use Rattle.cse_verify.specs.Verified.{VerifiedProgram}
use Rattle.cse_batch_parts.specs.declared.handled.HandledEvents.{HandledEvents}
use Rattle.cse_batch_parts.specs.declared.outputs.Outputs.{Outputs}
use Rattle.cse_batch_parts.specs.declared.totals.RunFault.{RunFault}
use Rattle.cse_batch_parts.specs.declared.totals.Totals.{Totals}
use Rattle.cse_batch_parts.specs.Handled.{AreHandled}
use Rattle.cse_batch_parts.specs.RunClauses.{Contents, Failures, RunStops, RunsWhole, contents, failures}
use Rattle.cse_batch_parts.specs.RunState.{CasesRan, Device, Halts, IsFresh, IsUnread, IsUnreported, Ran, device}

-- a run of the program may begin: its events were found, what runs them runs this program, nothing was read, and nothing reported
pub record MayBegin (v p : VerifiedProgram) (r : ReaderText) (s : Kept) (t : Reports) (h : HandledEvents) : Type 0 where
  pub handled : AreHandled v h
  pub machine : p ≡ v
  pub reader : IsUnread v r
  pub store : StoreFits v.image s
  pub reports : ReportsFit v.image t
  pub unreported : IsUnreported v t

-- nothing was put before the lines and the listing
pub record AreFresh {O L F D : Type 0} (x : Outputs O L F D) : Type 0 where
  pub written : IsFresh x.written.waiting.items x.written.gave_up
  pub listed : IsFresh x.listed.waiting.items x.listed.gave_up

-- each output is that of before
pub record AreSame {O L F D : Type 0} (old new : Outputs O L F D) : Type 0 where
  pub out : new.out.ghost_name ≡ old.out.ghost_name
  pub listing : new.listing.ghost_name ≡ old.listing.ghost_name
  pub frequencies : new.frequencies.ghost_name ≡ old.frequencies.ghost_name
  pub decks : new.decks.ghost_name ≡ old.decks.ghost_name

-- what is written at the end alone was left as it was
pub record LeavesEnd {O L F D : Type 0} (old new : Outputs O L F D) : Type 0 where
  pub frequencies : new.frequencies.now ≡ old.frequencies.now
  pub decks : new.decks.now ≡ old.decks.now

-- how far the lines are, and the listing
abbrev pub lines_so_far : {O L F D : Type 0} → Takes O → Outputs O L F D → Going
lines_so_far o x = behind o.taken o.has_failed x.out.now x.written

abbrev pub listing_so_far : {O L F D : Type 0} → Takes L → Outputs O L F D → Going
listing_so_far l x = behind l.taken l.has_failed x.listing.now x.listed

-- the same, from where their outputs stood
abbrev pub lines_from : {O L F D : Type 0} → Takes O → Outputs O L F D → Outputs O L F D → Device
lines_from o old new = device (o.taken old.out.now) (o.has_failed old.out.now) (lines_so_far o new)

abbrev pub listing_from : {O L F D : Type 0} → Takes L → Outputs O L F D → Outputs O L F D → Device
listing_from l old new = device (l.taken old.listing.now) (l.has_failed old.listing.now) (listing_so_far l new)

-- what the four outputs took, and whether they have failed
abbrev pub taken_by : {O L F D : Type 0} → Takes O → Takes L → Takes F → Takes D → Outputs O L F D → Contents
taken_by o l f d x = contents (o.taken x.out.now) (l.taken x.listing.now) (f.taken x.frequencies.now) (d.taken x.decks.now)

abbrev pub failures_of : {O L F D : Type 0} → Takes O → Takes L → Takes F → Takes D → Outputs O L F D → Failures
failures_of o l f d x = failures (o.has_failed x.out.now) (l.has_failed x.listing.now) (f.has_failed x.frequencies.now) (d.has_failed x.decks.now)

-- ---- what a run came to, by what its input gave and its outputs took

abbrev pub CasesRanBy : {R O L F D : Type 0} {g : _} → Gives R → Takes O → Takes L → VerifiedProgram → Kept → CaseReader R g → CaseReader R g → Kept → Reports → Outputs O L F D → Outputs O L F D → Totals → Type 0
CasesRanBy r o l v first before after store reports old new totals =
    CasesRan v first (r.given before.input.now) (r.given after.input.now) store reports (lines_from o old new) (listing_from l old new) totals

abbrev pub RanBy : {R O L F D : Type 0} {g : _} → Gives R → Takes O → Takes L → VerifiedProgram → Kept → CaseReader R g → CaseReader R g → Kept → Reports → Outputs O L F D → Outputs O L F D → Totals → Type 0
RanBy r o l v first before after store reports old new totals =
    Ran v first (r.given before.input.now) (r.given after.input.now) store reports (lines_from o old new) (listing_from l old new) totals

abbrev pub HaltsBy : {R O L F D : Type 0} {g : _} → Gives R → Takes O → Takes L → VerifiedProgram → Kept → CaseReader R g → CaseReader R g → Outputs O L F D → Outputs O L F D → RunFault → Type 0
HaltsBy r o l v first before after old new fault =
    Halts v first (r.given before.input.now) (r.given after.input.now) (lines_from o old new) (listing_from l old new) fault

abbrev pub RunsWholeBy : {R O L F D : Type 0} {g : _} → Gives R → Takes O → Takes L → Takes F → Takes D → VerifiedProgram → Kept → CaseReader R g → CaseReader R g → Outputs O L F D → Outputs O L F D → Totals → Type 0
RunsWholeBy r o l f d v first before after old new totals =
    RunsWhole v first (r.given before.input.now) (r.given after.input.now) (taken_by o l f d old) (taken_by o l f d new) totals

abbrev pub RunStopsBy : {R O L F D : Type 0} {g : _} → Gives R → Takes O → Takes L → Takes F → Takes D → VerifiedProgram → Kept → CaseReader R g → CaseReader R g → Outputs O L F D → Outputs O L F D → RunFault → Type 0
RunStopsBy r o l f d v first before after old new fault =
    RunStops v first (r.given before.input.now) (r.given after.input.now) (taken_by o l f d old) (taken_by o l f d new) (failures_of o l f d new) fault
