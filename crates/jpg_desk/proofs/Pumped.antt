-- Pieces of an input that are fed, over the states of a desk.
use Rattle.std.proofs.Common.{◌≡◌, ℕ, ◌+◌, ◌-◌, ◌<◌, ◌≤◌, Bool, true, false, List, [], ◌++◌, length, take, Option, None, Some, Result, Ok, Err, refl, sym, ap, ◌∙◌, subst, arith, inl, inr}
use Rattle.std.specs.Io.KnownBytes.{Consumes}
use Rattle.std.proofs.lemmas.List.{length-append, length-take}
use Rattle.jpg_base.specs.declared.names.Got.{Got}
use Rattle.jpg_base.specs.declared.names.Got.TheVariants as got
use Rattle.jpg_base.specs.Desk.{DeskState, Reads}
use Rattle.jpg_base.specs.Laws.{Consumes-then}
use Rattle.jpg_spec.specs.Segments.{standard_limits}
use Rattle.jpg_spec_words.specs.declared.answers.Why.{Why}
use Rattle.jpg_spec_words.specs.declared.answers.Why.TheVariants as why
use Rattle.jpg_spec_words.specs.declared.answers.Which.TheVariants as which
use Rattle.jpg_desk.specs.Pump.{AfterInput, AfterFeed, AfterTaking, BeforeEnd, BeforePiece, CanPump, EndsAll, Ends, Feeds, FedKind, ReadsInput, IsFed, IsUnread, ReaderKind, ReadsAs, ReadsEnd, ReadsNothing, ReadsPiece, TakesEnd, TakesPiece, of_reader}
use Rattle.jpg_desk.specs.Reading.{rest_of}
use Rattle.jpg_desk.specs.Stays.{OnlyReads}
use Rattle.jpg_desk.proofs.Input.{none_left}
use Rattle.jpg_desk.proofs.PiecesRead.{left_still, none_read, reads_none, reads_then, some_taken, within_room}

-- A READ

only_reads : {old new : DeskState} (answer : Got) (buf : List ℕ) → Reads old answer buf new → OnlyReads old new
only_reads answer buf h = record {
  copies = record { works = record { stays = record { counts = h.counts; files = h.files }; said = h.said }; asked = h.asked; output_created = h.output_created };
  outputs = h.outputs;
}

pub piece_read : {old new : DeskState} (n : ℕ) (buf : List ℕ) → length buf ≤ 16384 → old.input_open ≡ true → Reads old (got.Bytes n) buf new → ReadsPiece old (take n buf) new
piece_read n buf few opened h = record {
  some = some_taken n buf h.after.0 h.after.1;
  few = (let l = length-take n buf in omega (arith, l, few));
  kept = only_reads (got.Bytes n) buf h;
  opened = h.input_open ∙ opened;
  read = h.after.2;
}

pub end_read : {old new : DeskState} (buf : List ℕ) → Reads old got.End buf new → ReadsEnd old new
end_read buf h = record { kept = only_reads got.End buf h; ended = h.after.0; left = h.after.1 }

pub nothing_read : {old new : DeskState} (buf : List ℕ) → Reads old got.Failed buf new → ReadsNothing old new
nothing_read buf h = record { kept = only_reads got.Failed buf h; rose = h.after.0; left = h.after.1 }

-- WHAT ONLY READS

module _ (S V : Type 0) (k : ReaderKind S V) where
  -- a piece
  pub feeds : (old new : S) (desk : DeskState) (piece : List ℕ) (answer : Result Bool Why) → TakesPiece k old piece answer new → Feeds (of_reader k) piece (old, desk) answer (new, desk)
  feeds old new desk piece answer takes from bytes b = by answer (takes from.0 bytes b.fed.fed.fed b.most)
    where
      kept : OnlyReads from.1 desk
      kept = reads_then b.fed.fed.kept b.reads.kept

      read : Consumes from.1.left desk.left (bytes ++ piece)
      read = Consumes-then from.1.left b.desk.left desk.left bytes piece b.fed.fed.read b.reads.read

      by : (answer : Result Bool Why) → AfterTaking k from.0 (bytes ++ piece) answer new → AfterFeed (of_reader k) from (bytes ++ piece) answer (new, desk)
      by (Ok false) h = (record { short = h.1; fed = record { fed = h.0; kept = kept; read = read } }, b.reads.opened)
      by (Ok true) h = record { kept = kept; reads = ((bytes ++ piece, read, b.most, h (rest_of desk.left)), tt, λ more. b.reads.opened) }
      by (Err (why.Refused f)) h = record { kept = kept; reads = (bytes ++ piece, read, b.most, h (rest_of desk.left)) }
      by (Err why.NoMemory) h = record { kept = kept; reads = (bytes ++ piece, read, b.most, h) }
      by (Err other) h = absurd h

  -- the end, where no more may be taken then
  abbrev pub Closes : Result (Option ℕ) Why → S → Type 0
  Closes (Ok early) new = k.more new → ⊥
  Closes (Err w) new = Unit {0}

  pub ends_closed : (old new : S) (desk : DeskState) (answer : Result (Option ℕ) Why) → TakesEnd k old answer new → ((from : S) (bytes : List ℕ) → k.fed from bytes old → length bytes < standard_limits.input → Closes answer new) → Ends (of_reader k) (old, desk) answer (new, desk)
  ends_closed old new desk answer takes closed from bytes b = by answer (takes from.0 bytes b.fed.fed.fed b.fed.short) (closed from.0 bytes b.fed.fed.fed b.fed.short)
    where
      kept : OnlyReads from.1 desk
      kept = reads_then b.fed.fed.kept b.ended.kept

      read : Consumes from.1.left desk.left bytes
      read = left_still b.desk desk bytes from.1 b.ended.left b.fed.fed.read

      most : length bytes ≤ standard_limits.input
      most = (let s = b.fed.short in omega (arith, s))

      none : rest_of desk.left ≡ []
      none = ap rest_of b.ended.left ∙ none_left b.desk.left b.ended.ended

      all : (early : Option ℕ) → (k.more new → ⊥) → k.holds from.0 early [] bytes new → ReadsAs k from (Ok early) (new, desk)
      all None over h = ((bytes, read, most, subst (λ (rest : List ℕ). k.holds from.0 None rest bytes new) (sym none) h), tt, λ more. absurd (over more))
      all (Some n) over h = ((bytes, read, most, subst (λ (rest : List ℕ). k.holds from.0 (Some n) rest bytes new) (sym none) h), none, λ more. absurd (over more))

      by : (answer : Result (Option ℕ) Why) → AfterInput k from.0 bytes answer new → Closes answer new → ReadsInput S V k from answer (new, desk)
      by (Ok early) h over = record { kept = kept; reads = all early over h }
      by (Err (why.Refused f)) h over = record { kept = kept; reads = (bytes, read, most, subst (λ (rest : List ℕ). (k.judging from.0).refused f rest bytes) (sym none) h) }
      by (Err why.NoMemory) h over = record { kept = kept; reads = (bytes, read, most, h) }
      by (Err other) h over = absurd h

  pub ends : (old new : S) (desk : DeskState) (answer : Result (Option ℕ) Why) → (k.more new → ⊥) → TakesEnd k old answer new → Ends (of_reader k) (old, desk) answer (new, desk)
  ends old new desk answer over takes = ends_closed old new desk answer takes (λ from bytes h short. closes answer)
    where
      closes : (a : Result (Option ℕ) Why) → Closes a new
      closes (Ok early) = over
      closes (Err w) = tt

  -- before the first byte
  pub fed_none : (s : S) (desk : DeskState) → k.fed s [] s → IsFed S (of_reader k) (s, desk) [] (s, desk)
  fed_none s desk h = record { short = omega arith; fed = record { fed = h; kept = reads_none desk; read = none_read desk.left } }

  -- all
  pub all_read : (from now : S × DeskState) (answer : Result (Option ℕ) Why) → ((bytes : List ℕ) → k.fed from.0 bytes now.0 → length bytes < standard_limits.input → (k.judging from.0).unfinished bytes) → EndsAll (of_reader k) from answer now → ReadsInput S V k from answer now
  all_read from now answer unfinished (inl h) = h
  all_read from now answer unfinished (inr h) = subst (λ (a : Result (Option ℕ) Why). ReadsInput S V k from a now) (sym h.is) unread
    where
      unread : ReadsInput S V k from (Err (why.ReadFault which.Input)) now
      unread = record {
        kept = reads_then h.fed.fed.kept h.failed.kept;
        reads = (
          (h.bytes, left_still h.desk now.1 h.bytes from.1 h.failed.left h.fed.fed.read, (let s = h.fed.short in omega (arith, s)), unfinished h.bytes h.fed.fed.fed h.fed.short),
          (let f = h.fed.fed.kept.copies.works.stays.counts.reads in let r = h.failed.rose in omega (arith, r, f)),
        );
      }

-- BYTE BY BYTE: so many bytes were fed, and so many now

abbrev pub GoesOn : {S : Type 0} → FedKind S → ℕ → S × DeskState → ℕ → S × DeskState → Type 0
GoesOn {S} k taken old count now = (from : S × DeskState) (bytes : List ℕ) → length bytes ≡ taken → IsFed S k from bytes old → (more : List ℕ) × (length more ≡ count) × IsFed S k from more now

module _ {S : Type 0} (k : FedKind S) where
  -- a read of no more than there is room for
  pub before_piece : {from : S × DeskState} {bytes : List ℕ} {s : S} {old new : DeskState} (n : ℕ) (buf : List ℕ) (room : ℕ) → IsFed S k from bytes (s, old) → room + length bytes ≡ k.most s → (1 ≤ room → n ≤ room) → length buf ≤ 16384
      → old.input_open ≡ true → Reads old (got.Bytes n) buf new → BeforePiece S k from bytes (take n buf) (s, new)
  before_piece {bytes} {s} {old} n buf room f left fits few opened h = record { desk = old; fed = f; reads = piece_read n buf few opened h; most = within_room bytes buf n room (k.most s) left f.short fits }

  pub before_end : {from : S × DeskState} {bytes : List ℕ} {s : S} {old new : DeskState} (buf : List ℕ) → IsFed S k from bytes (s, old) → Reads old got.End buf new → BeforeEnd S k from bytes (s, new)
  before_end {old} buf f h = record { desk = old; fed = f; ended = end_read buf h }

  pub unread_now : {from : S × DeskState} {bytes : List ℕ} {s : S} {old new : DeskState} (buf : List ℕ) → IsFed S k from bytes (s, old) → Reads old got.Failed buf new → IsUnread S k from (Err (why.ReadFault which.Input)) (s, new)
  unread_now {bytes} {old} buf f h = record { is = refl; bytes = bytes; desk = old; fed = f; failed = nothing_read buf h }

  -- as the loop has it
  pub before_next : {from : S × DeskState} {bytes : List ℕ} {s : S} {old new : DeskState} (n taken : ℕ) (buf : List ℕ) (most : ℕ) → most ≡ k.most s → taken < most → length buf ≡ 16384 → length bytes ≡ taken → IsFed S k from bytes (s, old)
      → (1 ≤ most - taken → n ≤ most - taken) → old.input_open ≡ true → Reads old (got.Bytes n) buf new → BeforePiece S k from bytes (take n buf) (s, new)
  before_next {bytes} n taken buf most is few all long f fits opened h = before_piece n buf (most - taken) f (omega (arith, long, few, is)) fits (omega (arith, all)) opened h

  -- with one more piece
  pub goes_on_next : {taken count : ℕ} {old : S × DeskState} {s t : S} {before after done : DeskState} (n most : ℕ) (piece : List ℕ) (answer : Bool) → length piece ≡ n
      → ((from : S × DeskState) (bytes : List ℕ) → length bytes ≡ count → IsFed S k from bytes (s, before) → BeforePiece S k from bytes piece (s, after)) → Feeds k piece (s, after) (Ok answer) (t, done) → answer ≡ false → most ≡ k.most s → k.most t ≡ k.most s
      → GoesOn k taken old count (s, before) → CanPump k taken old → GoesOn k taken old (count + n) (t, done) × (done.input_open ≡ true) × (count + n < most)
  goes_on_next {taken} {count} {old} {s} {t} {before} {after} {done} n most piece answer long can feeds more is same h c = (all, now.1, (let has = counted so.0 so.1 in let few = now.0.short in omega (arith, has, few, is, same)))
    where
      next : (from : S × DeskState) (bytes : List ℕ) → length bytes ≡ count → IsFed S k from bytes (s, before) → IsFed S k from (bytes ++ piece) (t, done) × (done.input_open ≡ true)
      next from bytes has fed = subst (λ (whole : Bool). AfterFeed k from (bytes ++ piece) (Ok whole) (t, done)) more (feeds from bytes (can from bytes has fed))

      counted : (bytes : List ℕ) → length bytes ≡ count → length (bytes ++ piece) ≡ count + n
      counted bytes has = omega (arith, has, long, length-append bytes piece)

      all : GoesOn k taken old (count + n) (t, done)
      all from bytes has fed = (let so = h from bytes has fed in (so.0 ++ piece, counted so.0 so.1, (next from so.0 so.1 so.2).0))

      so : (more : List ℕ) × (length more ≡ count) × IsFed S k c.0 more (s, before)
      so = h c.0 c.1 c.2 c.3

      now : IsFed S k c.0 (so.0 ++ piece) (t, done) × (done.input_open ≡ true)
      now = next c.0 so.0 so.1 so.2
