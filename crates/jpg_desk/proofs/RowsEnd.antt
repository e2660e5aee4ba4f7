-- A picture whose MCU rows are transformed as they are read: a further piece, and the end of its file.
use Rattle.std.proofs.Common.{◌≡◌, ℕ, ◌+◌, ◌*◌, ◌<◌, ◌≤◌, List, [], ◌++◌, length, Some, Result, Err, refl, sym, ap, ◌∙◌, subst, arith, inl, inr}
use Rattle.std.specs.List.{All}
use Rattle.std.proofs.lemmas.List.{append-nil}
use Rattle.jpg_base.specs.declared.stop.Stop.{Stop}
use Rattle.jpg_base.specs.declared.stop.Stop.TheVariants as stop
use Rattle.jpg_spec.specs.Early.{MeansEarly}
use Rattle.jpg_spec.specs.Geometry.{Frame}
use Rattle.jpg_spec.specs.InForce.{frame_of}
use Rattle.jpg_spec.specs.Meaning.{real_blocks}
use Rattle.jpg_spec.specs.RowsParsed.{TellsRows}
use Rattle.jpg_spec.specs.Scan.{Blocks}
use Rattle.jpg_spec.specs.Segments.{standard_limits}
use Rattle.jpg_spec.specs.UnfinishedFile.{UnfinishedFile}
use Rattle.jpg_spec.specs.declared.fault.FaultAt.{FaultAt}
use Rattle.jpg_spec.specs.declared.frame.Limits.{Limits}
use Rattle.jpg_spec.proofs.McuRows.RowsOnce.{rows_stay}
use Rattle.jpg_coefs.specs.Picture.{Picture as Coefs, map_of}
use Rattle.jpg_file.specs.Read.File.{keeping_of}
use Rattle.jpg_file.specs.Read.ReadFile.{IsRefusal, ReaderState, StopsAt, AfterEndRow, AgreeInRows, EndsDoneRow, FeedsKeeping, HasReadAll, HasReadSoFar, IsEarlyByRows, KeepsMarkersOf, LendsRow}
use Rattle.jpg_file.specs.Read.InData.{unfinished}
use Rattle.jpg_file.specs.declared.read.ends.End.TheVariants as ends
use Rattle.jpg_file.specs.declared.read.pieces.FedRow.{FedRow}
use Rattle.jpg_file.proofs.ByRow.RowsGiven.{head_of_early}
use Rattle.jpg_seq.specs.Reader.{rows_in_mcu}
use Rattle.jpg_transform.specs.RowsMoved.{mcu_rows}
use Rattle.jpg_desk.specs.Pump.{AfterInput, why_stopped}
use Rattle.jpg_desk.specs.ReadPicture.{IsOpenRead, IsRefusedRead, IsShortRead, Coefficients}
use Rattle.jpg_desk.specs.RowsRead.{HasRows, IsInPiece, IsPutInPiece, IsRowsFed, KeepsReading, frame_at, rows_reader}
use Rattle.jpg_desk.specs.RowsTo.{CanEndRows, EndsRows, HaveAll, HavePut, IsSameGoal}
use Rattle.jpg_desk.specs.declared.rows_read.RowsRead.{RowsRead}
use Rattle.jpg_desk.specs.declared.rows_to.RowsTo.{RowsTo}
use Rattle.jpg_desk.proofs.PictureBytes.{fault_at_end}
use Rattle.jpg_desk.proofs.RowsRead.{IsFedOn, answered, begins_in, no_plain, put_more, real_once, rows_at, same_frame}
use Rattle.jpg_desk.proofs.RowsTo.{goal_then, put_agree}

-- BYTES THAT ARE OPEN

pub rows_open : {from s : RowsRead} {bytes : List ℕ} → IsRowsFed from bytes s → IsOpenRead Coefficients bytes
rows_open {bytes = bytes} h = record {
  short = subst (λ (l : Limits). length bytes < l.input) h.put.keeps.keeps.limits h.read.short;
  stands = subst (λ (l : Limits). UnfinishedFile l bytes) h.put.keeps.keeps.limits h.read.stands;
  wanted = λ f k. k;
}

-- as after their last piece
pub short_open : {from s : RowsRead} {bytes : List ℕ} → IsRowsFed from bytes s → IsShortRead Coefficients bytes
short_open {bytes = bytes} h = record { front = bytes; piece = []; cut = sym (append-nil bytes); few = omega arith; before = rows_open h }

-- as the reader is seen
pub read_before : {from s : RowsRead} {bytes : List ℕ} {old : ReaderState} → (h : IsRowsFed from bytes s) → old ≡ (s.reader).value → HasReadAll bytes h.count old
read_before {bytes = bytes} h is = subst (λ (r : ReaderState). HasReadAll bytes h.count r) (sym is) (inr h.read)

-- A FURTHER PIECE

module _ {from s : RowsRead} {bytes : List ℕ} (piece : List ℕ) {old new : ReaderState} (answer : Result FedRow Stop) (h : IsRowsFed from bytes s) (few : length piece ≤ 16384) (small : All (λ b. b < 256) (bytes ++ piece)) (is : old ≡ (s.reader).value)
    (feeds : FeedsKeeping old piece answer new) (done : EndsDoneRow answer new) (on : IsFedOn old new) where
  record Here : Type 0 where
    pub keeps : KeepsReading (from.reader).value new
    pub at : IsInPiece h.head (bytes ++ piece) h.count piece answer new

  here : Here
  here = record {
    keeps = record { limits = limits; in_rows = on.in_rows; keeping = on.keeping ∙ ap (λ (r : ReaderState). keeping_of r.file) is ∙ h.put.keeps.keeps.keeping };
    at = record {
      fed = bytes;
      cut = refl;
      few = few;
      begins = begins_in standard_limits piece refl h.begins;
      after = answered bytes h.count piece answer new limits h.begins (feeds bytes h.count before);
      done = done;
      small = small;
      short = record { front = bytes; piece = piece; cut = refl; few = omega (arith, few); before = rows_open h };
    };
  }
    where
      limits : new.limits ≡ standard_limits
      limits = on.limits ∙ ap (λ (r : ReaderState). r.limits) is ∙ h.put.keeps.keeps.limits

      before : HasReadSoFar bytes h.count old
      before = subst (λ (r : ReaderState). HasReadSoFar bytes h.count r) (sym is) (inr (inl h.read))

  pub piece_begins : {after : RowsRead} → (after.reader).value ≡ new → after.to ≡ s.to → (after.head).now ≡ (s.head).now → IsPutInPiece from (bytes ++ piece) piece answer after
  piece_begins {after} same goal head = record {
    head = h.head;
    count = h.count;
    at = subst (λ (r : ReaderState). IsInPiece h.head (bytes ++ piece) h.count piece answer r) (sym same) here.at;
    put = record {
      keeps = record {
        keeps = subst (λ (r : ReaderState). KeepsReading (from.reader).value r) (sym same) here.keeps;
        goal = subst (λ (t : RowsTo). IsSameGoal from.to t) (sym goal) h.put.keeps.goal;
        head = head ∙ h.put.keeps.head;
      };
      told = h.put.told;
      blocks = h.put.blocks;
      rows = rows_stay standard_limits bytes piece h.count h.put.blocks h.put.rows;
      put = subst (λ (t : RowsTo). HavePut (frame_at h.head) h.count h.put.blocks t) (sym goal) h.put.put;
    };
  }

-- THE END of the input

-- with a fault
pub refused_end : (bytes : List ℕ) (f : FaultAt) → IsOpenRead Coefficients bytes → IsRefusal standard_limits bytes f → IsRefusedRead Coefficients f [] bytes
refused_end bytes f so is =
    let at = fault_at_end bytes f.fault f.at so.stands so.short is in
    record { refused = inl (subst (λ (l : List ℕ). IsRefusal standard_limits l f) (sym (append-nil bytes)) is, λ g x. absurd x); within = omega (arith, at); last = omega (arith, at) }

pub end_stopped : {from s : RowsRead} {bytes : List ℕ} (new : RowsRead) (limits : Limits) (e : Stop) → IsRowsFed from bytes s → limits ≡ standard_limits → StopsAt limits bytes e → AfterInput rows_reader from bytes (Err (why_stopped e)) new
end_stopped {bytes = bytes} new limits (stop.Fault f) h e x = refused_end bytes f (rows_open h) (subst (λ (l : Limits). IsRefusal l bytes f) e x)
end_stopped new limits stop.NoMemory h e x = absurd x

-- early: the rows that are missing can be put
module _ {from s : RowsRead} {bytes : List ℕ} {r : ReaderState} (h : IsRowsFed from bytes s) (limits : r.limits ≡ standard_limits) (e : IsEarlyByRows bytes h.count r) where
  abbrev f : Frame
  f = frame_at h.head

  whole : bytes ++ [] ≡ bytes
  whole = append-nil bytes

  framed : frame_of r.limits (e.begun).before ≡ frame_at h.head
  framed = same_frame [] limits whole h.begins (e.begun).begins

  count : h.count + unfinished (e.begun).rows ≡ mcu_rows (frame_at h.head)
  count = e.rows ∙ rows_at [] limits whole h.begins (e.begun).begins

  rest_there : {row : Coefs} → row ≡ ((e.begun).rows).coefs → CanEndRows (frame_at h.head) h.count (e.meaning).blocks row s.to
  rest_there {row} lent = record {
    put = put_agree f h.count e.blocks (e.meaning).blocks s.to (put_more h.begins (omega arith) (subst (λ (l : Limits). TellsRows l bytes h.count e.blocks) limits e.completed.0) h.put)
        (subst (λ (g : Frame). AgreeInRows g h.count e.blocks (e.meaning).blocks) framed e.given);
    work = λ low.
        (let c = count in subst (λ (q : Coefs). LendsRow f h.count q (e.meaning).blocks) (sym lent) (subst (λ (g : Frame). LendsRow g h.count ((e.begun).rows).coefs (e.meaning).blocks) framed (e.work (omega (arith, low, c)))));
    later = λ i x y low. e.later i x y (subst (λ (g : Frame). (h.count + 1) * rows_in_mcu g i ≤ y) (sym framed) low);
  }

  own : frame_of r.limits (e.begun).before ≡ ((from.head).now).frame
  own = framed ∙ sym h.put.told.0

  early : MeansEarly standard_limits bytes e.meaning
  early = subst (λ (l : Limits). MeansEarly l bytes e.meaning) limits e.early

  -- and then they are all there
  pub ends_early : {new : RowsRead} (n : ℕ) {row : Coefs} → n ≡ length bytes → row ≡ ((e.begun).rows).coefs → EndsRows s.to row new.to → (new.reader).value ≡ r → KeepsReading (from.reader).value r → (new.head).now ≡ (s.head).now → HasRows from (Some n) bytes new
  ends_early {new} n {row} is lent ends here keeps head = record {
    keeps = record { keeps = subst (λ (q : ReaderState). KeepsReading (from.reader).value q) (sym here) keeps; goal = goal_then from.to s.to new.to h.put.keeps.goal ends.same; head = head ∙ h.put.keeps.head };
    done = ap (λ (q : ReaderState). q.done) here ∙ e.done;
    meaning = e.meaning;
    read = record { early = early; count = is; small = h.small; wanted = refl };
    short = short_open h;
    head = head_of_early standard_limits bytes h.head.before h.head.contents h.begins (Some (from.head).now) e.meaning h.put.told early;
    kept = subst (λ (q : ReaderState). KeepsMarkersOf e.meaning q) (sym here) e.kept;
    real = real_once ((from.head).now).frame (map_of e.all.all) (e.all.real ∙ ap (λ (g : Frame). real_blocks g (map_of e.all.all)) own);
    all = subst (λ (g : Frame). HaveAll g (e.meaning).blocks new.to) (sym h.put.told.0) (ends.ends f h.count (e.meaning).blocks (rest_there lent));
  }

  pub can_end : {row : Coefs} → row ≡ ((e.begun).rows).coefs → (g : Frame) × (m : ℕ) × (blocks : Blocks) × CanEndRows g m blocks row s.to
  can_end lent = (f, h.count, (e.meaning).blocks, rest_there lent)

-- which it is
pub early_there : {from s : RowsRead} {bytes : List ℕ} {n : ℕ} {r : ReaderState} → (h : IsRowsFed from bytes s) → r.limits ≡ standard_limits → AfterEndRow bytes h.count (ends.Early n) r → (n ≡ length bytes) × IsEarlyByRows bytes h.count r
early_there h e (is, inl (p, none)) = absurd (no_plain e h.begins p.plain)
early_there h e (is, inr p) = (is, p)
