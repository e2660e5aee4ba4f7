-- HOW AN INPUT IS FED, piece by piece and up to its end, to what takes it.
use Rattle.std.specs.Prelude.{◌≡◌, ◌⊎◌, ℕ, ◌<◌, ◌≤◌, Bool, true, false, List, [], ◌++◌, length, Option, None, Result, Ok, Err}
use Rattle.std.specs.Io.KnownBytes.{Consumes, IsAtEnd}
use Rattle.jpg_base.specs.Desk.{DeskState, Rose}
use Rattle.jpg_base.specs.declared.stop.Stop.{Stop}
use Rattle.jpg_base.specs.declared.stop.Stop.TheVariants as stop
use Rattle.jpg_spec.specs.Segments.{standard_limits}
use Rattle.jpg_spec_words.specs.declared.answers.Why.{Why}
use Rattle.jpg_spec_words.specs.declared.answers.Why.TheVariants as why
use Rattle.jpg_spec_words.specs.declared.answers.Which.TheVariants as which
use Rattle.jpg_desk.specs.Judging.{IsAllRead, Judging, NoValueTaken, TakesPieces, done_as}
use Rattle.jpg_desk.specs.Reading.{rest_of}
use Rattle.jpg_desk.specs.Stays.{OnlyReads}

-- A READ of an open input: these bytes, a piece of it

pub record ReadsPiece (old : DeskState) (piece : List ℕ) (new : DeskState) : Type 0 where
  pub some : 0 < length piece
  pub few : length piece ≤ 16384
  pub kept : OnlyReads old new
  pub opened : new.input_open ≡ true
  pub read : Consumes old.left new.left piece

-- none, since it has ended
pub record ReadsEnd (old new : DeskState) : Type 0 where
  pub kept : OnlyReads old new
  pub ended : IsAtEnd old.left
  pub left : new.left ≡ old.left

-- none, since it failed
pub record ReadsNothing (old new : DeskState) : Type 0 where
  pub kept : OnlyReads old new
  pub rose : Rose old.counts.reads new.counts.reads
  pub left : new.left ≡ old.left

-- WHAT STATES MEAN, those of what takes the pieces, each with its desk: what holds since one of them, from these bytes
-- on, while more are taken; and the result, once no more are, with the number of bytes if the input ended early. And how
-- many bytes may be fed in all.
pub record FedKind (S : Type 0) : Type 1 where
  pub most : S → ℕ
  pub fed : S × DeskState → List ℕ → S × DeskState → Type 0
  pub ended : S × DeskState → Result (Option ℕ) Why → S × DeskState → Type 0

-- these bytes were fed, fewer than may be
pub record IsFed (S : Type 0) (k : FedKind S) (from : S × DeskState) (bytes : List ℕ) (now : S × DeskState) : Type 0 where
  pub short : length bytes < k.most now.0
  pub fed : k.fed from bytes now

-- and then a piece was read
pub record BeforePiece (S : Type 0) (k : FedKind S) (from : S × DeskState) (bytes piece : List ℕ) (now : S × DeskState) : Type 0 where
  pub desk : DeskState
  pub fed : IsFed S k from bytes (now.0, desk)
  pub reads : ReadsPiece desk piece now.1
  pub most : length (bytes ++ piece) ≤ k.most now.0

-- or the input has ended
pub record BeforeEnd (S : Type 0) (k : FedKind S) (from : S × DeskState) (bytes : List ℕ) (now : S × DeskState) : Type 0 where
  pub desk : DeskState
  pub fed : IsFed S k from bytes (now.0, desk)
  pub ended : ReadsEnd desk now.1

-- A PIECE: more is taken, or no more; or why it ends.
abbrev pub AfterFeed : {S : Type 0} → FedKind S → S × DeskState → List ℕ → Result Bool Why → S × DeskState → Type 0
AfterFeed {S} k from bytes (Ok false) now = IsFed S k from bytes now × (now.1.input_open ≡ true)
AfterFeed k from bytes (Ok true) now = k.ended from (Ok None) now
AfterFeed k from bytes (Err w) now = k.ended from (Err w) now

abbrev pub CanFeed : {S : Type 0} → FedKind S → List ℕ → S × DeskState → Type 0
CanFeed {S} k piece now = (from : S × DeskState) × (bytes : List ℕ) × BeforePiece S k from bytes piece now

abbrev pub Feeds : {S : Type 0} → FedKind S → List ℕ → S × DeskState → Result Bool Why → S × DeskState → Type 0
Feeds {S} k piece old answer new = (from : S × DeskState) (bytes : List ℕ) → BeforePiece S k from bytes piece old → AfterFeed k from (bytes ++ piece) answer new

-- THE END of the input
abbrev pub CanEnd : {S : Type 0} → FedKind S → S × DeskState → Type 0
CanEnd {S} k now = (from : S × DeskState) × (bytes : List ℕ) × BeforeEnd S k from bytes now

abbrev pub Ends : {S : Type 0} → FedKind S → S × DeskState → Result (Option ℕ) Why → S × DeskState → Type 0
Ends {S} k old answer new = (from : S × DeskState) (bytes : List ℕ) → BeforeEnd S k from bytes old → k.ended from answer new

-- ALL PIECES, after this many bytes: they end as what takes them does; or a read failed, and nothing has changed since.
pub record IsUnread (S : Type 0) (k : FedKind S) (from : S × DeskState) (answer : Result (Option ℕ) Why) (now : S × DeskState) : Type 0 where
  pub is : answer ≡ Err (why.ReadFault which.Input)
  pub bytes : List ℕ
  pub desk : DeskState
  pub fed : IsFed S k from bytes (now.0, desk)
  pub failed : ReadsNothing desk now.1

abbrev pub EndsAll : {S : Type 0} → FedKind S → S × DeskState → Result (Option ℕ) Why → S × DeskState → Type 0
EndsAll {S} k from answer now = k.ended from answer now ⊎ IsUnread S k from answer now

abbrev pub CanPump : {S : Type 0} → FedKind S → ℕ → S × DeskState → Type 0
CanPump {S} k taken now = (from : S × DeskState) × (bytes : List ℕ) × (length bytes ≡ taken) × IsFed S k from bytes now

abbrev pub Pumps : {S : Type 0} → FedKind S → ℕ → S × DeskState → Result (Option ℕ) Why → S × DeskState → Type 0
Pumps {S} k taken old answer new = (from : S × DeskState) (bytes : List ℕ) → length bytes ≡ taken → IsFed S k from bytes old → EndsAll k from answer new

-- WHAT ONLY READS, and writes nothing: what holds of it since a state, from these bytes on, while more are taken; what it
-- has once it takes no more, or where the input ended early, after bytes that have this rest; what is judged of them; and
-- whether others may take more then.
pub record ReaderKind (S V : Type 0) : Type 1 where
  pub fed : S → List ℕ → S → Type 0
  pub holds : S → Option ℕ → List ℕ → List ℕ → S → Type 0
  pub judging : S → Judging V
  pub more : S → Type 0

-- these bytes of the input were read
pub record HasTaken (S V : Type 0) (k : ReaderKind S V) (from : S × DeskState) (bytes : List ℕ) (now : S × DeskState) : Type 0 where
  pub fed : k.fed from.0 bytes now.0
  pub kept : OnlyReads from.1 now.1
  pub read : Consumes from.1.left now.1.left bytes

abbrev pub ReadsAs : {S V : Type 0} → ReaderKind S V → S × DeskState → Result (Option ℕ) Why → S × DeskState → Type 0
ReadsAs k from (Ok early) now = TakesPieces (λ bytes. k.holds from.0 early (rest_of now.1.left) bytes now.0) from.1 now.1 × IsAllRead early now.1 × (k.more now.0 → now.1.input_open ≡ true)
ReadsAs k from (Err w) now = NoValueTaken (k.judging from.0) from.1 w now.1

pub record ReadsInput (S V : Type 0) (k : ReaderKind S V) (from : S × DeskState) (answer : Result (Option ℕ) Why) (now : S × DeskState) : Type 0 where
  pub kept : OnlyReads from.1 now.1
  pub reads : ReadsAs k from answer now

abbrev pub of_reader : {S V : Type 0} → ReaderKind S V → FedKind S
of_reader {S} {V} k = record { most = λ s. standard_limits.input; fed = HasTaken S V k; ended = ReadsInput S V k }

-- a piece, whatever is left of the input after it
abbrev pub AfterTaking : {S V : Type 0} → ReaderKind S V → S → List ℕ → Result Bool Why → S → Type 0
AfterTaking k from bytes (Ok false) now = k.fed from bytes now × (length bytes < standard_limits.input)
AfterTaking k from bytes (Ok true) now = (rest : List ℕ) → k.holds from None rest bytes now
AfterTaking k from bytes (Err (why.Refused f)) now = (rest : List ℕ) → (k.judging from).refused f rest bytes
AfterTaking k from bytes (Err why.NoMemory) now = (k.judging from).short bytes
AfterTaking k from bytes (Err other) now = ⊥

abbrev pub TakesPiece : {S V : Type 0} → ReaderKind S V → S → List ℕ → Result Bool Why → S → Type 0
TakesPiece {S} k old piece answer new = (from : S) (bytes : List ℕ) → k.fed from bytes old → length (bytes ++ piece) ≤ standard_limits.input → AfterTaking k from (bytes ++ piece) answer new

-- where the input ends
abbrev pub AfterInput : {S V : Type 0} → ReaderKind S V → S → List ℕ → Result (Option ℕ) Why → S → Type 0
AfterInput k from bytes (Ok early) now = k.holds from early [] bytes now
AfterInput k from bytes (Err (why.Refused f)) now = (k.judging from).refused f [] bytes
AfterInput k from bytes (Err why.NoMemory) now = (k.judging from).short bytes
AfterInput k from bytes (Err other) now = ⊥

abbrev pub TakesEnd : {S V : Type 0} → ReaderKind S V → S → Result (Option ℕ) Why → S → Type 0
TakesEnd {S} k old answer new = (from : S) (bytes : List ℕ) → k.fed from bytes old → length bytes < standard_limits.input → AfterInput k from bytes answer new

-- why the reading ends where a reader stops
abbrev pub why_stopped : Stop → Why
why_stopped (stop.Fault f) = why.Refused f
why_stopped stop.NoMemory = why.NoMemory

-- how a command ends whose work is done where its input is read
abbrev pub ended_as : Result (Option ℕ) Why → Why
ended_as (Ok early) = done_as early
ended_as (Err w) = w
