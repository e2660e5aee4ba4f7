-- A picture that is read MCU row by MCU row, and transformed at once.
use Rattle.std.proofs.Common.{◌≡◌, ℕ, ◌+◌, ◌<◌, ◌≤◌, true, false, List, [], ◌++◌, length, take, drop, Option, None, Some, Result, Ok, Err, refl, sym, ap, ◌∙◌, subst, arith, inl, inr}
use Rattle.std.proofs.lemmas.List.{append_assoc, append-nil, length-append, length-drop, take-append-drop}
use Rattle.std.proofs.Math.Seq.{take-append-add}
use Rattle.jpg_base.specs.declared.stop.Stop.{Stop}
use Rattle.jpg_base.specs.declared.stop.Stop.TheVariants as stop
use Rattle.jpg_spec.specs.Geometry.{Frame}
use Rattle.jpg_spec.specs.InForce.{frame_of}
use Rattle.jpg_spec.specs.Markers.{Segment}
use Rattle.jpg_spec.specs.Meaning.{real_blocks}
use Rattle.jpg_spec.specs.RowsParsed.{BeginsScanOfAll, TellsRows}
use Rattle.jpg_spec.specs.Scan.{Blocks}
use Rattle.jpg_spec.specs.Segments.{standard_limits}
use Rattle.jpg_spec.specs.UnfinishedFile.{IsWholeFile}
use Rattle.jpg_spec.specs.declared.fault.FaultAt.{FaultAt}
use Rattle.jpg_spec.specs.declared.frame.Limits.{Limits}
use Rattle.jpg_spec.proofs.EndsEarly.EarlySoFar.{real_twice}
use Rattle.jpg_spec.proofs.McuRows.RowsHeader.{begun_once}
use Rattle.jpg_spec.proofs.McuRows.RowsOnce.{rows_stay}
use Rattle.jpg_spec.proofs.Writing.WrittenFront.{standard_are_limits}
use Rattle.jpg_coefs.specs.Picture.{Picture as Coefs, map_of}
use Rattle.jpg_file.specs.Read.File.{keeping_of}
use Rattle.jpg_file.specs.Read.ReadFile.{IsStopOf, ReaderState, AfterFeedKeeping, AgreeInRows, EndsDoneRow, FeedsKeeping, HasGivenRow, HasReadRows, HasReadSoFar, IsDoneByRows, LendsRow}
use Rattle.jpg_file.specs.Read.InData.{unfinished}
use Rattle.jpg_file.specs.Read.Strips.{rows_of_scan, HasNoRows}
use Rattle.jpg_file.specs.declared.read.pieces.FedRow.{FedRow}
use Rattle.jpg_file.specs.declared.read.pieces.FedRow.TheVariants as fed
use Rattle.jpg_file.specs.declared.read.rows.RowWork.{RowWork}
use Rattle.jpg_file.proofs.ByRow.RowsGiven.{rows_agree, rows_begun, begun_on, head_of_whole}
use Rattle.jpg_transform.specs.RowsMoved.{mcu_rows}
use Rattle.jpg_desk.specs.Pump.{AfterTaking, why_stopped}
use Rattle.jpg_desk.specs.ReadPicture.{IsRefusedRead, Coefficients}
use Rattle.jpg_desk.specs.RowsRead.{AnsweredRows, BeginsAt, HavePutRows, Head, IsInPiece, IsPutInPiece, HasRows, KeepsReading, frame_at, rows_due, rows_reader, rows_to_give}
use Rattle.jpg_desk.specs.RowsTo.{CanPut, HaveAll, HavePut, Puts}
use Rattle.jpg_desk.specs.declared.rows_read.RowsRead.{RowsRead}
use Rattle.jpg_desk.proofs.PictureBytes.{stop_within}
use Rattle.jpg_desk.proofs.RowsTo.{all_put, goal_then, put_agree}

-- THE ANSWER of a reader whose rows had begun

-- the scan began in a first part of the bytes
pub begins_in : {front : List ℕ} {before : List Segment} {contents : List ℕ} (limits : Limits) (rest : List ℕ) {all : List ℕ} → front ++ rest ≡ all → BeginsScanOfAll limits front before contents → BeginsScanOfAll limits all before contents
begins_in {front} {before} {contents} limits rest cut b = subst (λ (l : List ℕ). BeginsScanOfAll limits l before contents) cut (begun_on limits front rest before contents b)

-- so it isn't so that none did
pub no_plain : {bytes : List ℕ} {before : List Segment} {contents : List ℕ} {limits : Limits} → limits ≡ standard_limits → BeginsScanOfAll standard_limits bytes before contents → HasNoRows limits bytes → ⊥
no_plain {bytes} {before} {contents} e b none = none before contents (subst (λ (l : Limits). BeginsScanOfAll l bytes before contents) (sym e) b)

pub answered : (bytes : List ℕ) (m : ℕ) (piece : List ℕ) (answer : Result FedRow Stop) {h : Head} (r : ReaderState) → r.limits ≡ standard_limits → BeginsAt h bytes → AfterFeedKeeping bytes m piece answer r → AnsweredRows bytes m piece answer r
answered bytes m piece (Ok fed.More) {h} r e b (inl p) = absurd (no_plain e (begins_in {before = h.before} {contents = h.contents} standard_limits piece refl b) (p.0).plain)
answered bytes m piece (Ok fed.More) r e b (inr p) = p
answered bytes m piece (Ok (fed.Row used)) r e b a = (a.0, a.1)
answered bytes m piece (Ok (fed.Done used)) {h} r e b (inl p, some, within) = absurd (no_plain e (begins_in {before = h.before} {contents = h.contents} standard_limits (take used piece) refl b) p.plain)
answered bytes m piece (Ok (fed.Done used)) r e b (inr p, some, within) = (p, within)
answered bytes m piece (Err (stop.Fault f)) r e b a = (subst (λ (l : Limits). IsStopOf l (bytes ++ piece) f) e a.0, a.1)
answered bytes m piece (Err stop.NoMemory) r e b a = tt

-- THE HEAD is one, wherever the rows are read
module _ {h : Head} {all front : List ℕ} (rest : List ℕ) {before : List Segment} {contents : List ℕ} {limits : Limits} (e : limits ≡ standard_limits) (cut : front ++ rest ≡ all) (at : BeginsAt h all) (b : BeginsScanOfAll limits front before contents) where
  begun_there : BeginsScanOfAll standard_limits front before contents
  begun_there = subst (λ (l : Limits). BeginsScanOfAll l front before contents) e b

  pub one_head : (h.before ≡ before) × (h.contents ≡ contents)
  one_head = begun_once standard_limits all h.before before h.contents contents at (begins_in standard_limits rest cut begun_there)

  pub same_frame : frame_of limits before ≡ frame_at h
  same_frame = ap (λ (l : Limits). frame_of l before) e ∙ sym (ap (frame_of standard_limits) one_head.0)

  -- it begins there
  pub head_there : BeginsAt h front
  head_there = subst (λ (c : List ℕ). BeginsScanOfAll standard_limits front h.before c) (sym one_head.1) (subst (λ (s : List Segment). BeginsScanOfAll standard_limits front s contents) (sym one_head.0) begun_there)

  -- how many MCU rows it has
  pub rows_at : rows_of_scan limits before contents ≡ mcu_rows (frame_at h)
  rows_at = rows_begun limits front before contents b ∙ ap mcu_rows same_frame

-- ROWS THAT WERE PUT, for the blocks that more bytes encode
pub put_more : {h : Head} {from : RowsRead} {all : List ℕ} {m n : ℕ} {s : RowsRead} {others : Blocks} → BeginsAt h all → m ≤ n → TellsRows standard_limits all n others → (k : HavePutRows h from all m s) → HavePut (frame_at h) m others s.to
put_more {h} {from} {all} {m} {n} {s} {others} begins few told k =
    let more = subst (λ (l : List ℕ). TellsRows standard_limits l n others) (sym (append-nil all)) told in
    put_agree (frame_at h) m k.blocks others s.to k.put (rows_agree standard_limits all [] h.before h.contents m n k.blocks others standard_are_limits begins few k.rows more)

-- A ROW that is complete in a piece
pub record IsRowThere (h : Head) (all : List ℕ) (m used : ℕ) (piece : List ℕ) (r : ReaderState) : Type 0 where
  pub front : List ℕ
  pub cut : front ++ drop used piece ≡ all
  pub given : HasGivenRow front (m + 1) r
  pub within : used ≤ length piece
  pub limits : r.limits ≡ standard_limits
  pub begins : BeginsAt h all

pub row_there : {h : Head} {all : List ℕ} {m : ℕ} (used : ℕ) {piece : List ℕ} {r : ReaderState} → r.limits ≡ standard_limits → IsInPiece h all m piece (Ok (fed.Row used)) r → IsRowThere h all m used piece r
row_there used {piece} e i = record {
  front = i.fed ++ take used piece;
  cut = append_assoc i.fed (take used piece) (drop used piece) ∙ ap (λ l. i.fed ++ l) (take-append-drop used piece) ∙ sym i.cut;
  given = i.after.0;
  within = i.after.1;
  limits = e;
  begins = i.begins;
}

module _ {h : Head} {all : List ℕ} {m used : ℕ} {piece : List ℕ} {r : ReaderState} (t : IsRowThere h all m used piece r) where
  rest : List ℕ
  rest = drop used piece

  abbrev g : HasGivenRow t.front (m + 1) r
  g = t.given

  -- what the bytes encode
  row_told : TellsRows standard_limits all (m + 1) g.blocks
  row_told =
      subst (λ (l : List ℕ). TellsRows standard_limits l (m + 1) g.blocks) t.cut
      (rows_stay standard_limits t.front (drop used piece) (m + 1) g.blocks (subst (λ (l : Limits). TellsRows l t.front (m + 1) g.blocks) t.limits g.told))

  row_frame : frame_of r.limits (g.begun).before ≡ frame_at h
  row_frame = same_frame (drop used piece) t.limits t.cut t.begins (g.begun).begins

  row_count : (m + 1) + unfinished (g.begun).rows ≡ mcu_rows (frame_at h)
  row_count = g.rows ∙ rows_at (drop used piece) t.limits t.cut t.begins (g.begun).begins

  -- it is lent
  row_lent : {row : RowWork} → r.rows ≡ Some row → LendsRow (frame_at h) m row.coefs g.blocks
  row_lent {row} has = subst (λ (w : RowWork). LendsRow (frame_at h) m w.coefs g.blocks) (same_row (sym (g.begun).has ∙ has)) there
    where
      same_row : {a b : RowWork} → (let x : Option RowWork = Some a in x) ≡ Some b → a ≡ b
      same_row {a} e = ap (λ (o : Option RowWork). row_or a o) e
        where
          row_or : RowWork → Option RowWork → RowWork
          row_or a None = a
          row_or a (Some b) = b

      last : g.last ≡ m
      last = (let c = g.count in omega (arith, c))

      there : LendsRow (frame_at h) m ((g.begun).rows).coefs g.blocks
      there = subst (λ (f : Frame). LendsRow f m ((g.begun).rows).coefs g.blocks) row_frame
          (subst (λ (n : ℕ). LendsRow (frame_of r.limits (g.begun).before) n ((g.begun).rows).coefs g.blocks) last (record { framed = g.framed; range = g.range; row = g.row }))

  -- and can be put
  pub row_put : {from s : RowsRead} {row : RowWork} → r.rows ≡ Some row → HavePutRows h from all m s → CanPut (frame_at h) m g.blocks row.coefs s.to
  row_put has k = record {
    put = put_more t.begins (omega arith) row_told k;
    next = (let c = row_count in omega (arith, c));
    lends = row_lent has;
  }

-- AS THE LOOP HAS IT

-- by the answer that was found
pub at_answer : {from s : RowsRead} {all piece : List ℕ} {a b : Result FedRow Stop} → a ≡ b → IsPutInPiece from all piece a s → IsPutInPiece from all piece b s
at_answer {from} {s} {all} {piece} e p = subst (λ (x : Result FedRow Stop). IsPutInPiece from all piece x s) e p

pub as_ok : {a : Result FedRow Stop} {f g : FedRow} → a ≡ Ok f → f ≡ g → a ≡ Ok g
as_ok e same = e ∙ ap (λ (x : FedRow). (let r : Result FedRow Stop = Ok x in r)) same

-- a row that can be put
pub record RowDue (s : RowsRead) (used : ℕ) (piece : List ℕ) : Type 0 where
  pub row : RowWork
  pub has : ((s.reader).value).rows ≡ Some row
  pub frame : Frame
  pub count : ℕ
  pub blocks : Blocks
  pub can : CanPut frame count blocks row.coefs s.to
  pub within : used ≤ length piece
  pub undone : ((s.reader).value).done ≡ false
  pub in_rows : ((s.reader).value).in_rows ≡ true

pub row_due : {from s : RowsRead} {all : List ℕ} {used : ℕ} {piece : List ℕ} → IsPutInPiece from all piece (Ok (fed.Row used)) s → RowDue s used piece
row_due {used = used} p =
    let t = row_there used p.put.keeps.keeps.limits p.at in
    record {
      row = ((t.given).begun).rows;
      has = ((t.given).begun).has;
      frame = frame_at p.head;
      count = p.count;
      blocks = (t.given).blocks;
      can = row_put t ((t.given).begun).has p.put;
      within = t.within;
      undone = p.at.done;
      in_rows = p.put.keeps.keeps.in_rows;
    }

-- what doesn't change of a reader that is fed
pub record IsFedOn (old new : ReaderState) : Type 0 where
  pub limits : new.limits ≡ old.limits
  pub in_rows : new.in_rows ≡ true
  pub keeping : keeping_of new.file ≡ keeping_of old.file

-- AFTER IT, at the answer to what is left
module _ {from s : RowsRead} {all : List ℕ} {used : ℕ} {piece left : List ℕ} {old new : ReaderState} (answer : Result FedRow Stop) (p : IsPutInPiece from all piece (Ok (fed.Row used)) s) (is : old ≡ (s.reader).value) (rest : left ≡ drop used piece)
    (feeds : FeedsKeeping old left answer new) (done : EndsDoneRow answer new) (on : IsFedOn old new) where
  there : IsRowThere p.head all p.count used piece (s.reader).value
  there = row_there used p.put.keeps.keeps.limits p.at

  limits_on : new.limits ≡ standard_limits
  limits_on = on.limits ∙ ap (λ (r : ReaderState). r.limits) is ∙ p.put.keeps.keeps.limits

  keeps_on : KeepsReading (from.reader).value new
  keeps_on = record { limits = limits_on; in_rows = on.in_rows; keeping = on.keeping ∙ ap (λ (r : ReaderState). keeping_of r.file) is ∙ p.put.keeps.keeps.keeping }

  next_at : IsInPiece p.head all (p.count + 1) left answer new
  next_at = record {
    fed = there.front;
    cut = sym (ap (λ l. there.front ++ l) rest ∙ there.cut);
    few = (let few = p.at.few in let l = length-drop used piece in let n = ap length rest in omega (arith, few, l, n));
    begins = p.at.begins;
    after = answered there.front (p.count + 1) left answer new limits_on (head_there (drop used piece) p.put.keeps.keeps.limits there.cut p.at.begins ((there.given).begun).begins) (feeds there.front (p.count + 1) before);
    done = done;
    small = p.at.small;
    short = p.at.short;
  }
    where
      before : HasReadSoFar there.front (p.count + 1) old
      before = subst (λ (r : ReaderState). HasReadSoFar there.front (p.count + 1) r) (sym is) (inr (inr there.given))

  -- fewer rows may be given
  pub fewer_due : rows_to_give answer new < rows_due ((s.reader).value).rows + 1
  fewer_due = by answer next_at
    where
      by : (a : Result FedRow Stop) → IsInPiece p.head all (p.count + 1) left a new → rows_to_give a new < rows_due ((s.reader).value).rows + 1
      by (Ok fed.More) q = omega arith
      by (Ok (fed.Row more)) q =
          let n = row_there more limits_on q in
          let a = row_count there in
          let b = row_count n in
          let x : rows_due ((s.reader).value).rows ≡ unfinished ((there.given).begun).rows = ap rows_due ((there.given).begun).has in
          let y : rows_due new.rows ≡ unfinished ((n.given).begun).rows = ap rows_due ((n.given).begun).has in
          omega (arith, a, b, x, y)
      by (Ok (fed.Done more)) q = omega arith
      by (Err x) q = omega arith

  -- and the same holds
  pub row_next : {row : Coefs} {after : RowsRead} → (after.reader).value ≡ new → ((rows : RowWork) → ((s.reader).value).rows ≡ Some rows → row ≡ rows.coefs) → Puts s.to row after.to → (after.head).now ≡ (s.head).now → IsPutInPiece from all left answer after
  row_next {row} {after} here lent puts head = record {
    head = p.head;
    count = p.count + 1;
    at = subst (λ (r : ReaderState). IsInPiece p.head all (p.count + 1) left answer r) (sym here) next_at;
    put = record {
      keeps = record { keeps = subst (λ (r : ReaderState). KeepsReading (from.reader).value r) (sym here) keeps_on; goal = goal_then from.to s.to after.to p.put.keeps.goal puts.same; head = head ∙ p.put.keeps.head };
      told = p.put.told;
      blocks = (there.given).blocks;
      rows = row_told there;
      put = puts.puts (frame_at p.head) p.count (there.given).blocks
          (subst (λ (c : Coefs). CanPut (frame_at p.head) p.count (there.given).blocks c s.to) (sym (lent ((there.given).begun).rows ((there.given).begun).has)) (row_put there ((there.given).begun).has p.put));
    };
  }

-- THE LAST ANSWER to a piece

pub ends_more : {from s : RowsRead} {all piece : List ℕ} → IsPutInPiece from all piece (Ok fed.More) s → AfterTaking rows_reader from all (Ok false) s
ends_more {s = s} {all = all} p =
    let read = subst (λ (l : List ℕ). HasReadRows l p.count (s.reader).value) (sym p.at.cut) p.at.after in
    (record { head = p.head; count = p.count; begins = p.at.begins; read = read; small = p.at.small; put = p.put }, subst (λ (l : Limits). length all < l.input) p.put.keeps.keeps.limits read.short)

-- a fault in a piece
pub refused_in : (bytes piece : List ℕ) (f : FaultAt) → length piece ≤ 16384 → IsStopOf standard_limits (bytes ++ piece) f → length bytes ≤ f.at → (rest : List ℕ) → IsRefusedRead Coefficients f rest (bytes ++ piece)
refused_in bytes piece f few stops late rest = record {
  refused = inl (stops rest, λ g k. absurd k);
  within = stop_within (bytes ++ piece) f stops;
  last = omega (arith, few, late, length-append bytes piece);
}

pub ends_stopped : {from s : RowsRead} {all piece : List ℕ} (e : Stop) → IsPutInPiece from all piece (Err e) s → AfterTaking rows_reader from all (Err (why_stopped e)) s
ends_stopped {all = all} {piece = piece} (stop.Fault f) p = λ rest. subst (λ (l : List ℕ). IsRefusedRead Coefficients f rest l) (sym p.at.cut) (refused_in p.at.fed piece f p.at.few p.at.after.0 p.at.after.1 rest)
ends_stopped stop.NoMemory p = p.at.short

-- blocks of real places alone
pub real_once : (f : Frame) {blocks : Blocks} (others : Blocks) → blocks ≡ real_blocks f others → real_blocks f blocks ≡ blocks
real_once f others is = ap (real_blocks f) is ∙ real_twice f others ∙ sym is

-- a complete file
pub ends_done : {from s : RowsRead} {all piece : List ℕ} (used : ℕ) → IsPutInPiece from all piece (Ok (fed.Done used)) s → HasRows from None all s
ends_done {from} {s} {all} {piece} used p = record {
  keeps = k.keeps;
  done = p.at.done;
  meaning = d.meaning;
  read = record {
    count = length p.at.fed + used;
    within = (let c = ap length p.at.cut in let w = p.at.after.1 in omega (arith, c, w, length-append p.at.fed piece));
    last = (let few = p.at.few in let c = ap length p.at.cut in omega (arith, few, c, length-append p.at.fed piece));
    whole = subst (λ (l : List ℕ). IsWholeFile standard_limits l d.meaning) (sym (ap (take (length p.at.fed + used)) p.at.cut ∙ take-append-add p.at.fed piece used)) whole;
    small = p.at.small;
    wanted = refl;
  };
  short = p.at.short;
  head = head_of_whole standard_limits front p.head.before p.head.contents there (Some (from.head).now) d.meaning k.told whole.0;
  kept = d.kept;
  real = real_once ((from.head).now).frame (map_of d.all.all) (d.all.real ∙ ap (λ (g : Frame). real_blocks g (map_of d.all.all)) own);
  all = subst (λ (g : Frame). HaveAll g (d.meaning).blocks s.to) (sym k.told.0) (all_put f p.count (d.meaning).blocks s.to put (omega (arith, full)));
}
  where
    k : HavePutRows p.head from all p.count s
    k = p.put

    r : ReaderState
    r = (s.reader).value

    f : Frame
    f = frame_at p.head

    front : List ℕ
    front = p.at.fed ++ take used piece

    d : IsDoneByRows (p.at.fed ++ take used piece) p.count (s.reader).value
    d = p.at.after.0

    e : ((s.reader).value).limits ≡ standard_limits
    e = (p.put).keeps.keeps.limits

    cut : front ++ drop used piece ≡ all
    cut = append_assoc p.at.fed (take used piece) (drop used piece) ∙ ap (λ l. p.at.fed ++ l) (take-append-drop used piece) ∙ sym p.at.cut

    there : BeginsAt p.head front
    there = head_there (drop used piece) e cut p.at.begins (d.begun).begins

    framed : frame_of r.limits (d.begun).before ≡ f
    framed = same_frame (drop used piece) e cut p.at.begins (d.begun).begins

    own : frame_of r.limits (d.begun).before ≡ ((from.head).now).frame
    own = framed ∙ sym k.told.0

    whole : IsWholeFile standard_limits front d.meaning
    whole = subst (λ (l : Limits). IsWholeFile l front d.meaning) e d.whole

    full : p.count ≡ mcu_rows f
    full = d.full ∙ rows_at (drop used piece) e cut p.at.begins (d.begun).begins

    told : TellsRows standard_limits all p.count d.blocks
    told = subst (λ (l : List ℕ). TellsRows standard_limits l p.count d.blocks) cut
        (rows_stay standard_limits front (drop used piece) p.count d.blocks (subst (λ (l : Limits). TellsRows l front p.count d.blocks) e d.completed.0))

    put : HavePut f p.count (d.meaning).blocks s.to
    put = put_agree f p.count d.blocks (d.meaning).blocks s.to (put_more p.at.begins (omega arith) told k) (subst (λ (g : Frame). AgreeInRows g p.count d.blocks (d.meaning).blocks) framed d.given)
