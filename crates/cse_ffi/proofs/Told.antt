-- What is told of a run, from what the calls beneath say.
use Rattle.std.proofs.Common.{◌≡◌, ◌∙◌, ap, inr, sym, subst, ℕ, Bool, ◌&&◌, List, [], Result, Ok, Err, IfErr}
use Rattle.cse_value.specs.Device.{Consumes, Given}
use Rattle.cse_value.specs.Slice.{ReadOf}
use Rattle.cse_dict.specs.Dictionary.{DictionaryText, shape_of}
use Rattle.cse_verify.specs.Verified.{VerifiedProgram}
use Rattle.cse_batch_parts.specs.declared.totals.Totals.{Totals}
use Rattle.cse_verify.specs.Checked.{IsAccepted}
use Rattle.cse_batch_parts.specs.RunClauses.{Contents, Failures, contents}
use Rattle.cse_ffi.specs.declared.fault.CsbFault.{CsbFault}
use Rattle.cse_ffi.specs.Fault.{status_of}
use Rattle.cse_ffi.specs.Calls.{IsOf, IsRead, RunsData, RunsImage, StopsData, StopsFrom, StopsImage, empty, in_memory}
use Rattle.cse_ffi.specs.Buffers.{has_room, put_in}

pub is_of : (text image : List ℕ) (v : VerifiedProgram) (d : DictionaryText) → v.dictionary ≡ d → IsRead text d → IsAccepted (shape_of d) image v.image → IsOf text image v
is_of text image v d same read accepted = record {
  read = subst (λ (x : DictionaryText). IsRead text x) (sym same) read;
  accepted = subst (λ (x : DictionaryText). IsAccepted (shape_of x) image v.image) (sym same) accepted;
}

pub stops_of : (text image decks : List ℕ) (v : VerifiedProgram) (before after : Given) (old new : Contents) (failed : Failures) (r : Result Totals CsbFault)
    → IsOf text image v → IfErr r (StopsFrom v decks before after old new failed) → IfErr r (StopsImage text image decks before after old new failed)
stops_of text image decks v before after old new failed (Ok totals) is stops = stops
stops_of text image decks v before after old new failed (Err f) is stops = inr (record { program = v; is = is; stops = stops })

-- ---- over memory

pub empty_of : (out listing frequencies saved : List ℕ) → out ≡ [] → listing ≡ [] → frequencies ≡ [] → saved ≡ []
    → contents out listing frequencies saved ≡ empty
empty_of out listing frequencies saved o l f s = rw o (rw l (rw f (rw s)))

-- the same texts
pub contents_same : (a a' b b' c c' d d' : List ℕ) → a' ≡ a → b' ≡ b → c' ≡ c → d' ≡ d → contents a b c d ≡ contents a' b' c' d'
contents_same a a' b b' c c' d d' p q r s =
    ap (λ (x : List ℕ). contents x b c d) (sym p) ∙ (ap (λ (x : List ℕ). contents a' x c d) (sym q)
    ∙ (ap (λ (x : List ℕ). contents a' b' x d) (sym r) ∙ ap (λ (x : List ℕ). contents a' b' c' x) (sym s)))

-- a run over data in memory, to outputs that have nothing yet
pub runs_data : (text image decks data_ : List ℕ) (before after : Given) (out listing frequencies saved : List ℕ) (new texts : Contents) (totals : Totals)
    → ((read : List ℕ) → Consumes before after read → ReadOf data_ read after) → out ≡ [] → listing ≡ [] → frequencies ≡ [] → saved ≡ []
    → RunsImage text image decks before after (contents out listing frequencies saved) new totals → new ≡ texts
    → RunsData text image decks data_ totals texts
runs_data text image decks data_ before after out listing frequencies saved new texts totals reads o l f s runs same =
    let ran : RunsImage text image decks before after empty texts totals =
    subst (λ (x : Contents). RunsImage text image decks before after empty x totals) same
    (subst (λ (x : Contents). RunsImage text image decks before after x new totals) (empty_of out listing frequencies saved o l f s) runs) in
    record {
      before = before;
      after = after;
      runs = ran;
      all = (reads ran.runs.runs.bytes ran.runs.runs.reads).end ran.runs.runs.end;
    }

pub stops_data : (text image decks data_ : List ℕ) (before after : Given) (out listing frequencies saved : List ℕ) (new : Contents) (failed : Failures) (why told : CsbFault)
    → ((read : List ℕ) → Consumes before after read → ReadOf data_ read after) → out ≡ [] → listing ≡ [] → frequencies ≡ [] → saved ≡ []
    → StopsImage text image decks before after (contents out listing frequencies saved) new failed why → told ≡ in_memory why
    → StopsData text image decks data_ told
stops_data text image decks data_ before after out listing frequencies saved new failed why told reads o l f s stops tells = record {
  before = before;
  after = after;
  new = new;
  failed = failed;
  fault = why;
  stops = subst (λ (x : Contents). StopsImage text image decks before after x new failed why) (empty_of out listing frequencies saved o l f s) stops;
  front = reads;
  tells = tells;
}

-- ---- buffers

pub room_of : (bytes items old : List ℕ) (room : Bool) → bytes ≡ items → room ≡ has_room bytes old → room ≡ has_room items old
room_of bytes items old room same is = is ∙ ap (λ (x : List ℕ). has_room x old) same

pub put_of : (bytes items old new : List ℕ) → bytes ≡ items → new ≡ put_in bytes old → new ≡ put_in items old
put_of bytes items old new same put = put ∙ ap (λ (x : List ℕ). put_in x old) same

pub status_is : (a b c d a' b' c' d' : Bool) (number : ℕ) → a ≡ a' → b ≡ b' → c ≡ c' → d ≡ d' → number ≡ status_of (a && (b && (c && d)))
    → number ≡ status_of (a' && (b' && (c' && d')))
status_is a b c d a' b' c' d' number ia ib ic id told =
    told ∙ (ap (λ (x : Bool). status_of (x && (b && (c && d)))) ia ∙ (ap (λ (x : Bool). status_of (a' && (x && (c && d)))) ib
    ∙ (ap (λ (x : Bool). status_of (a' && (b' && (x && d)))) ic ∙ ap (λ (x : Bool). status_of (a' && (b' && (c' && x)))) id)))
