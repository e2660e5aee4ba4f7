-- One more MCU row is drawn: it is passed to the image, and the reader is asked for the next one.
use Rattle.std.proofs.Common.{◌≡◌, ℕ, ◌+◌, ◌-◌, ◌<◌, ◌≤◌, Bool, List, [], ◌++◌, length, take, drop, sym, ap, ◌∙◌, subst, arith, inr, Some, Result, Ok, Err}
use Rattle.std.proofs.lemmas.List.{append_assoc, append-nil, length-append, take-append-drop}
use Rattle.jpg_base.specs.Desk.{DeskState}
use Rattle.jpg_base.specs.declared.stop.Stop.{Stop}
use Rattle.jpg_spec.specs.Geometry.{Frame, bounds, mcu_row_frame}
use Rattle.jpg_spec.specs.InForce.{frame_of}
use Rattle.jpg_spec.specs.Meaning.{Meaning}
use Rattle.jpg_spec.specs.Ranges.{AreInRange}
use Rattle.jpg_spec.specs.RowsParsed.{BeginsScanOfAll, TellsRows}
use Rattle.jpg_spec_image.specs.RowsShown.{rows_text}
use Rattle.jpg_spec.specs.Scan.{Blocks}
use Rattle.jpg_spec.specs.Segments.{standard_limits}
use Rattle.jpg_spec_image.specs.Strips.{mcu_rows}
use Rattle.jpg_spec.specs.declared.frame.Limits.{Limits}
use Rattle.jpg_spec_image.specs.declared.image.EndKind.{EndKind}
use Rattle.jpg_spec.proofs.McuRows.RowsOnce.{rows_stay}
use Rattle.jpg_coefs.specs.Picture.{Picture as Coefs, map_of}
use Rattle.jpg_file.specs.Read.ReadFile.{ReaderState, AfterFeedRow, AreOfRow, FeedsRow, HasGivenRow}
use Rattle.jpg_file.specs.declared.read.pieces.FedRow.{FedRow}
use Rattle.jpg_file.specs.declared.read.pieces.FedRow.TheVariants as fed
use Rattle.jpg_file.specs.declared.read.rows.RowWork.{RowWork}
use Rattle.jpg_pnm_bmp.specs.EndState.{EndState}
use Rattle.jpg_color.specs.DecodeRows.{SendsImage}
use Rattle.jpg_color.specs.Shown.{Display, IsNextRowDue, IsMcuRow, all_rows}
use Rattle.jpg_color.specs.StripImage.{Drawing, DrawsMore, DrawsRow, IsDrawnTo, next_text}
use Rattle.jpg_color.specs.declared.decode.DecodeStop.{DecodeStop}
use Rattle.jpg_color.proofs.Drawn.{all_same}
use Rattle.jpg_color.proofs.DrawnLaws.{drawn_alike, texts_join}
use Rattle.jpg_cli.specs.Tools.Showing.{Showing, Shown}
use Rattle.jpg_cli.specs.Tools.ShowingRows.{CanDrawPiece, HasFedRows, Head, IsDrawing, IsHeadIn, IsShowing, Work, why_of, at_work, Run}
use Rattle.jpg_cli.proofs.ByRow.RowHeads.{one_head}
use Rattle.jpg_cli.proofs.ByRow.RowsAgree.{agree_first, row_shown, same_text}
use Rattle.jpg_cli.proofs.ByRow.RowsDesk.{created_more}
use Rattle.jpg_cli.proofs.ByRow.RowsEnd.{cut_used, told_stopped}
use Rattle.jpg_cli.proofs.ByRow.RowsRead.{work_stays}
use Rattle.jpg_cli.proofs.ByRow.RowsWhole.{few_told, goes_on, so_far}

-- THE ROW that the reader gave

pub record IsNextRow (h : Head) (all : List ℕ) (m : ℕ) (q : Coefs) : Type 0 where
  pub blocks : Blocks
  pub told : TellsRows standard_limits all (m + 1) blocks
  pub frame : q.frame ≡ mcu_row_frame (frame_of standard_limits h.before)
  pub range : AreInRange (bounds (frame_of standard_limits h.before)) (map_of q)
  pub row : AreOfRow (frame_of standard_limits h.before) m q blocks

-- the bytes that it was fed up to that row
abbrev up_to : List ℕ → List ℕ → ℕ → List ℕ
up_to before piece used = before ++ take used piece

module _ {gray : Bool} {h : Head} {all : List ℕ} {m : ℕ} {piece : List ℕ} {used : ℕ} {r : ReaderState} where
  pub begun_row : HasFedRows gray h all m piece (Ok (fed.Row used)) r → (rows : RowWork) × (r.rows ≡ Some rows)
  begun_row k = (((k.after).0).begun.rows, ((k.after).0).begun.has)

  -- its scan began before the end of the row
  begins_row : (k : HasFedRows gray h all m piece (Ok (fed.Row used)) r)
      → BeginsScanOfAll standard_limits (up_to k.fed piece used) h.before h.contents
  begins_row k =
      let b = ((k.after).0).begun in
      let front = up_to k.fed piece used in
      let begins = subst (λ (l : Limits). BeginsScanOfAll l front b.before b.contents) k.limits b.begins in
      let one = one_head front all (drop used piece) [] b.before h.before b.contents h.contents (sym (cut_used k.fed piece used k.cut) ∙ sym (append-nil all)) begins (k.head).begins in
      subst (λ c. BeginsScanOfAll standard_limits front h.before c) one.1 (subst (λ s. BeginsScanOfAll standard_limits front s b.contents) one.0 begins)

  pub next_row : {q : Coefs} → (k : HasFedRows gray h all m piece (Ok (fed.Row used)) r)
      → ((rows : RowWork) → r.rows ≡ Some rows → q ≡ rows.coefs) → IsNextRow h all m q
  next_row {q} k lent =
      let g : HasGivenRow (up_to k.fed piece used) (m + 1) r = (k.after).0 in
      let b = g.begun in
      let front = up_to k.fed piece used in
      let cut = cut_used k.fed piece used k.cut in
      let begins = subst (λ (l : Limits). BeginsScanOfAll l front b.before b.contents) k.limits b.begins in
      let one = one_head front all (drop used piece) [] b.before h.before b.contents h.contents (sym cut ∙ sym (append-nil all)) begins (k.head).begins in
      let f : frame_of r.limits b.before ≡ frame_of standard_limits h.before = ap (λ (l : Limits). frame_of l b.before) k.limits ∙ ap (frame_of standard_limits) one.0 in
      let same : q ≡ (b.rows).coefs = lent b.rows b.has in
      let last : g.last ≡ m = (let c = g.count in omega (arith, c)) in
      record {
        blocks = g.blocks;
        told =
            subst (λ l. TellsRows standard_limits l (m + 1) g.blocks) (sym cut)
            (rows_stay standard_limits front (drop used piece) (m + 1) g.blocks (subst (λ (l : Limits). TellsRows l front (m + 1) g.blocks) k.limits g.told));
        frame = ap (λ (c : Coefs). c.frame) same ∙ g.framed ∙ ap mcu_row_frame f;
        range = subst (λ (c : Coefs). AreInRange (bounds (frame_of standard_limits h.before)) (map_of c)) (sym same) (subst (λ (x : Frame). AreInRange (bounds x) (map_of (b.rows).coefs)) f g.range);
        row =
            subst (λ (c : Coefs). AreOfRow (frame_of standard_limits h.before) m c g.blocks) (sym same)
            (subst (λ n. AreOfRow (frame_of standard_limits h.before) n (b.rows).coefs g.blocks) last (subst (λ (x : Frame). AreOfRow x g.last (b.rows).coefs g.blocks) f g.row));
      }

-- BEFORE IT IS DRAWN

-- it is one that the image waits for
pub row_due : {s : Showing} {h : Head} {all : List ℕ} {m : ℕ} {written : List ℕ} {q : Coefs} {d : Drawing} {e : EndState} → IsHeadIn s.gray h all → IsNextRow h all m q → IsDrawing s h all m written d e → IsNextRowDue d.strips
row_due {s} {h} {all} {m} {d} head k w =
    let few : m + 1 ≤ mcu_rows (so_far h w.blocks) = few_told h all (m + 1) k.blocks w.blocks head.begins k.told in
    let all_are = all_same d (so_far h w.blocks) s.gray s.smooth (w.drawn).image in
    let pushed = (w.drawn).pushed in
    record { given = w.given; missing = omega (arith, few, all_are, pushed) }

pub row_framed : {s : Showing} {h : Head} {all : List ℕ} {m : ℕ} {written : List ℕ} {q : Coefs} {d : Drawing} {e : EndState} → IsNextRow h all m q → IsDrawing s h all m written d e → IsMcuRow d.strips.display.frame q
row_framed {q} k w = record { frame = k.frame ∙ ap mcu_row_frame (sym w.framed); range = subst (λ (x : Frame). AreInRange (bounds x) (map_of q)) (sym w.framed) k.range }

-- WHAT IT ADDS, of the picture that has its blocks as well

pub record IsMoreDrawn (s : Showing) (h : Head) (all : List ℕ) (m : ℕ) (written : List ℕ) (q : Coefs) (d : Drawing) (e : EndState) (s0 : DeskState) (result : Result (Unit {0}) DecodeStop) (new : Drawing) (new_end : EndState) (s1 : DeskState) : Type 0 where
  pub next : IsNextRow h all m q
  pub due : List ℕ
  pub more : DrawsMore s0 d e (so_far h next.blocks) s.gray s.smooth m result new new_end s1
  pub sent : SendsImage s0 d.out due result new.out s1
  pub text : written ++ (d.out ++ due) ≡ rows_text s.kind (so_far h next.blocks) s.gray s.smooth (m + 1)

module _ {s : Showing} {h : Head} {all : List ℕ} {m : ℕ} {written : List ℕ} {q : Coefs} {d : Drawing} {e : EndState} where
  pub more_drawn : {s0 : DeskState} {result : Result (Unit {0}) DecodeStop} {new : Drawing} {new_end : EndState} {s1 : DeskState} → IsHeadIn s.gray h all → IsNextRow h all m q → IsDrawing s h all m written d e → DrawsRow s0 d e q result new new_end s1 → IsMoreDrawn s h all m written q d e s0 result new new_end s1
  more_drawn {s0} {result} {new} {new_end} {s1} head k w draws = record { next = k; due = next; more = more; sent = sent; text = text }
    where
      P : Meaning
      P = so_far h k.blocks

      drawn : IsDrawnTo d e P s.gray s.smooth m
      drawn =
          drawn_alike (so_far h w.blocks) (so_far h k.blocks) s.gray s.smooth m (agree_first head (omega arith) w.told k.told) d e w.drawn

      more : DrawsMore s0 d e P s.gray s.smooth m result new new_end s1
      more = draws.drawn P s.gray s.smooth m drawn (row_shown h (drawn.image).showable w.framed head.begins k.row)

      next : List ℕ
      next = next_text s.kind P s.gray s.smooth m

      sent : SendsImage s0 d.out next result new.out s1
      sent = subst (λ (kind : EndKind). SendsImage s0 d.out (next_text kind P s.gray s.smooth m) result new.out s1) w.kind more.sent

      few : m + 1 ≤ mcu_rows P
      few = few_told h all (m + 1) k.blocks k.blocks head.begins k.told

      text : written ++ (d.out ++ next) ≡ rows_text s.kind P s.gray s.smooth (m + 1)
      text =
          sym (append_assoc written d.out next)
          ∙ ap (λ l. l ++ next) (w.text ∙ same_text s.smooth s.kind head (omega arith) w.told k.told)
          ∙ (texts_join d P s.gray s.smooth s.kind drawn.image).more m (omega (arith, few))

module _ {s : Showing} {run : Run} {work : Work} {m : ℕ} {piece : List ℕ} {used : ℕ} where
  -- IT WASN'T WRITTEN
  pub row_stopped : {q : Coefs} {new : Drawing} {new_end : EndState} {ended : DecodeStop} {s1 : DeskState} → ((rows : RowWork) → (work.reader).rows ≡ Some rows → q ≡ rows.coefs) → DrawsRow work.now work.image work.end q (Err ended) new new_end s1 → IsShowing s run m piece (Ok (fed.Row used)) work → Shown s run.old (why_of (Err ended)) s1
  row_stopped {ended} lent draws k =
      let w = more_drawn (k.read).head (next_row k.read lent) k.drawing draws in
      told_stopped s ended k.read (w.next).told w.text k.early k.desk w.sent

  -- IT WAS DRAWN, and the reader was asked for the next one
  pub row_drawn : {answer : Result FedRow Stop} {after : ReaderState} {q : Coefs} {new : Drawing} {new_end : EndState} {s1 : DeskState} → ((rows : RowWork) → (work.reader).rows ≡ Some rows → q ≡ rows.coefs) → DrawsRow work.now work.image work.end q (Ok tt) new new_end s1 → FeedsRow work.reader (drop used piece) answer after → after.limits ≡ (work.reader).limits → IsShowing s run m piece (Ok (fed.Row used)) work
      → IsShowing s run (m + 1) (drop used piece) answer (at_work after new new_end s1)
  row_drawn {answer} {after} {q} {new} {new_end} {s1} lent draws feeds limits k = record {
    written = k.written ++ gone;
    read = record {
      fed = up_to (k.read).fed piece used;
      cut = cut_used (k.read).fed piece used (k.read).cut;
      few = (let few = (k.read).few in omega (arith, few, ap length (take-append-drop used piece), length-append (take used piece) (drop used piece)));
      limits = limits ∙ (k.read).limits;
      after = fed_next;
      begun = work_stays (drop used piece) (m + 1) answer after (limits ∙ (k.read).limits) (begins_row k.read) fed_next;
      most = (k.read).most;
      small = (k.read).small;
      short = (k.read).short;
      head = (k.read).head;
    };
    drawing = record {
      kind = (draws.goes_on).kind ∙ (k.drawing).kind;
      framed = ap (λ (x : Display). x.frame) draws.display ∙ (k.drawing).framed;
      given = (draws.goes_on).given;
      end = (draws.goes_on).end;
      blocks = (w.next).blocks;
      told = (w.next).told;
      drawn = (w.more).drawn;
      text = text;
      enough = λ n x few told.
          (let on = goes_on s.gray s.smooth s.kind run.head run.all n (m + 1) x (w.next).blocks (k.read).head few told (w.next).told in
          let longer = ap length on.1 in
          let size = ap length text in
          omega (arith, longer, size, length-append (rows_text s.kind (so_far run.head x) s.gray s.smooth n) on.0));
    };
    desk = created_more gone k.desk (w.sent).only ((w.sent).bytes).1;
    early = λ front rest other cut many due. (let l = k.early front rest other cut many due in omega (arith, l, length-append k.written gone));
  }
    where
      next : IsNextRow run.head run.all m q
      next = next_row k.read lent

      w : IsMoreDrawn s run.head run.all m k.written q work.image work.end work.now (Ok tt) new new_end s1
      w = more_drawn (k.read).head next k.drawing draws

      gone : List ℕ
      gone = ((w.sent).bytes).0

      text : (k.written ++ gone) ++ new.out ≡ rows_text s.kind (so_far run.head (w.next).blocks) s.gray s.smooth (m + 1)
      text = append_assoc k.written gone new.out ∙ ap (λ l. k.written ++ l) (sym ((w.sent).bytes).2) ∙ w.text

      fed_next : AfterFeedRow (up_to (k.read).fed piece used) (m + 1) (drop used piece) answer after
      fed_next = feeds (up_to (k.read).fed piece used) (m + 1) (inr (inr ((k.read).after).0))

-- BY THE ANSWER
pub row_here : {s : Showing} {run : Run} {work : Work} {m : ℕ} {piece : List ℕ} {answer : Result FedRow Stop} {used : ℕ} → answer ≡ Ok (fed.Row used)
    → IsShowing s run m piece answer work → IsShowing s run m piece (Ok (fed.Row used)) work
row_here {s} {run} {work} {m} {piece} is k = subst (λ (a : Result FedRow Stop). IsShowing s run m piece a work) is k

-- Whatever was read and drawn before, the image shows what is left of the piece as well.
abbrev StillShows : List ℕ → Result FedRow Stop → Work → List ℕ → Result FedRow Stop → Work → Type 0
StillShows piece answer w rest next v = (s : Showing) (run : Run) (m : ℕ) → IsShowing s run m piece answer w → (n : ℕ) × IsShowing s run n rest next v

pub draws_still : {piece rest : List ℕ} {answer next : Result FedRow Stop} {w v : Work} → CanDrawPiece piece answer w → StillShows piece answer w rest next v → CanDrawPiece rest next v
draws_still k shows =
    let a = shows k.asked k.run k.rows k.showing in
    record { asked = k.asked; run = k.run; rows = a.0; showing = a.1 }

-- at a row
pub row_waits : {piece rest : List ℕ} {answer next : Result FedRow Stop} {w v : Work} {used : ℕ} → CanDrawPiece piece answer w → StillShows piece answer w rest next v → next ≡ Ok (fed.Row used)
    → CanDrawPiece rest (Ok (fed.Row used)) v
row_waits {rest} {v} k shows is = subst (λ (a : Result FedRow Stop). CanDrawPiece rest a v) is (draws_still k shows)

-- a row that waits at this answer, and its place in the piece
pub record IsAtRow (piece : List ℕ) (used : ℕ) (q : Coefs) (d : Drawing) : Type 0 where
  pub due : IsNextRowDue d.strips
  pub row : IsMcuRow d.strips.display.frame q
  pub within : used ≤ length piece

pub at_row : {s : Showing} {run : Run} {work : Work} {m : ℕ} {piece : List ℕ} {used : ℕ} {q : Coefs} → ((rows : RowWork) → (work.reader).rows ≡ Some rows → q ≡ rows.coefs)
    → IsShowing s run m piece (Ok (fed.Row used)) work → IsAtRow piece used q work.image
at_row lent k =
    let next = next_row k.read lent in
    record { due = row_due (k.read).head next k.drawing; row = row_framed next k.drawing; within = ((k.read).after).1 }

module _ {s : Showing} {run : Run} {work : Work} {m : ℕ} {piece : List ℕ} {used : ℕ} {rest : List ℕ} where
  pub row_then : {result : Result (Unit {0}) DecodeStop} {u : Unit {0}} {answer : Result FedRow Stop} {after : ReaderState} {q : Coefs} {new : Drawing} {new_end : EndState} {s1 : DeskState} → rest ≡ drop used piece → result ≡ Ok u → ((rows : RowWork) → (work.reader).rows ≡ Some rows → q ≡ rows.coefs) → DrawsRow work.now work.image work.end q result new new_end s1 → FeedsRow work.reader rest answer after → after.limits ≡ (work.reader).limits
      → IsShowing s run m piece (Ok (fed.Row used)) work → IsShowing s run (m + 1) rest answer (at_work after new new_end s1)
  row_then {answer} {after} {q} {new} {new_end} {s1} same done lent draws feeds limits k =
      subst (λ l. IsShowing s run (m + 1) l answer (at_work after new new_end s1)) (sym same)
      (row_drawn lent (subst (λ (x : Result (Unit {0}) DecodeStop). DrawsRow work.now work.image work.end q x new new_end s1) done draws)
      (subst (λ l. FeedsRow work.reader l answer after) same feeds) limits k)

module _ {d new : Drawing} {e new_end : EndState} {q : Coefs} where
  -- the image waits for one fewer row
  pub less_rows : {result : Result (Unit {0}) DecodeStop} {u : Unit {0}} {s0 s1 : DeskState} → IsNextRowDue d.strips → result ≡ Ok u → DrawsRow s0 d e q result new new_end s1
      → all_rows new.strips.display - new.strips.pushed < all_rows d.strips.display - d.strips.pushed
  less_rows {s0} {s1} due done draws =
      let so = subst (λ (x : Result (Unit {0}) DecodeStop). DrawsRow s0 d e q x new new_end s1) done draws in
      let pushed = (so.goes_on).pushed in
      let same = ap all_rows so.display in
      let missing = due.missing in
      omega (arith, pushed, same, missing)
