-- What follows from a reader's answer, if no further MCU row is complete and all that waited is written.
use Rattle.std.proofs.Common.{◌≡◌, ℕ, ◌≤◌, Bool, List, [], ◌∷◌, ◌++◌, length, take, drop, refl, sym, ap, ◌∙◌, subst, arith, inl, inr, Some, Result, Ok, Err}
use Rattle.std.proofs.lemmas.List.{append_assoc, append-nil, length-append, length-take-le, take-append-drop}
use Rattle.jpg_base.specs.Desk.{AppendsLast, DeskState}
use Rattle.jpg_base.specs.declared.stop.Stop.{Stop}
use Rattle.jpg_base.specs.declared.stop.Stop.TheVariants as stop
use Rattle.jpg_spec.specs.UnfinishedFile.{IsWholeFile}
use Rattle.jpg_spec.specs.Meaning.{Meaning}
use Rattle.jpg_spec.specs.RowsParsed.{BeginsScanOfAll, CompletesRows, TellsRows, picture_so_far}
use Rattle.jpg_spec_image.specs.RowsShown.{rows_text}
use Rattle.jpg_spec.specs.Scan.{Blocks}
use Rattle.jpg_spec.specs.Markers.{Segment}
use Rattle.jpg_spec.specs.InForce.{colours_after, factors_after, frame_of}
use Rattle.jpg_spec_image.specs.Pixels.{out_fault_of}
use Rattle.jpg_spec.proofs.McuRows.RowsOnce.{rows_once, rows_stay}
use Rattle.jpg_spec.specs.Segments.{standard_limits}
use Rattle.jpg_spec.specs.declared.fault.FaultAt.{FaultAt}
use Rattle.jpg_spec_words.specs.declared.answers.Why.TheVariants as why
use Rattle.jpg_spec.specs.declared.frame.Limits.{Limits}
use Rattle.jpg_spec_image.specs.declared.image.ImageInfo.{ImageInfo}
use Rattle.jpg_file.specs.Read.ReadFile.{IsStopOf, ReaderState, AfterFeedRow, HasReadRows, StopsKnownRows as StopsRows}
use Rattle.jpg_file.specs.Read.Strips.{HasNoRows}
use Rattle.jpg_file.specs.declared.read.pieces.FedRow.{FedRow}
use Rattle.jpg_file.specs.declared.read.pieces.FedRow.TheVariants as fed
use Rattle.jpg_pnm_bmp.specs.EndState.{EndState}
use Rattle.jpg_color.specs.DecodeRows.{SendsImage}
use Rattle.jpg_color.specs.declared.decode.DecodeStop.{DecodeStop}
use Rattle.jpg_color.specs.Shown.{IsShowable, ShownState as Strips, RepresentsPicture, picture_of, rows_made_ready}
use Rattle.jpg_color.specs.StripImage.{Drawing, IsDrawnTo, IsEndOf}
use Rattle.jpg_desk.specs.Endings.{Added}
use Rattle.jpg_desk.specs.Reading.{rest_of}
use Rattle.jpg_desk.specs.ReadPicture.{IsRefusedRead, IsUnwanted, Image}
use Rattle.jpg_cli.specs.Outcome.{bytes_before}
use Rattle.jpg_cli.specs.Tools.Showing.{IsInTime, IsRowsText, IsShownByRows, IsShownUpTo, Showing, Shown}
use Rattle.jpg_cli.specs.Tools.ShowingRows.{AfterLast, HasCreated, HasFedRows, HasShown, HasShownAll, Head, IsDrawing, IsHeadIn, IsLastPiece, IsShowing, why_of, at_work, Run, Work}
use Rattle.jpg_cli.proofs.Pieces.FirstRead.{HasBegun, IsPlainOrBegun, not_shown, plain_or, plain_whole}
use Rattle.jpg_desk.proofs.PictureBytes.{stop_within}
use Rattle.jpg_cli.proofs.ByRow.RowHeads.{begins_more, one_head}
use Rattle.jpg_cli.proofs.ByRow.RowsDesk.{created_added, created_more, created_read}
use Rattle.jpg_cli.proofs.ByRow.RowsStopped.{rows_stopped}
use Rattle.jpg_cli.proofs.ByRow.RowsWhole.{fits_whole}

-- WHAT WAITED IS WRITTEN

-- an image that differs only in what waits draws the same
pub drawn_still : {d : Drawing} (new : Drawing) {e : EndState} {M : Meaning} {gray smooth : Bool} {m : ℕ} → new.strips ≡ d.strips → new.info ≡ d.info → IsDrawnTo d e M gray smooth m → IsDrawnTo new e M gray smooth m
drawn_still new {M} x i h = record {
  image = record {
    showable = subst (λ (t : Strips). IsShowable t.display) (sym x) (h.image).showable;
    picture = (h.image).picture ∙ sym (ap (λ (t : Strips). (let N : Meaning = record (picture_of t.display M.blocks) { kept = M.kept } in N)) x);
    colour = ap (λ (t : Strips). t.display.colour) x ∙ (h.image).colour;
    as_gray = ap (λ (t : Strips). t.display.gray) x ∙ (h.image).as_gray;
    as_smooth = ap (λ (t : Strips). t.display.smooth) x ∙ (h.image).as_smooth;
    info = i ∙ (h.image).info;
  };
  pushed = ap (λ (t : Strips). t.pushed) x ∙ h.pushed;
  given = ap (λ (t : Strips). t.given) x ∙ h.given;
  stands = subst (λ (t : Strips). RepresentsPicture t M.blocks) (sym x) h.stands;
  end = h.end;
}

pub end_still : {d : Drawing} (new : Drawing) {e : EndState} → new.strips ≡ d.strips → new.info ≡ d.info → IsEndOf d e → IsEndOf new e
end_still new x i h = record { told = h.told ∙ ap (λ (j : ImageInfo). Some j) (sym i); taken = h.taken ∙ sym (ap (λ (t : Strips). t.given) x); parts = h.parts; unfinished = h.unfinished }

-- all that waited
pub drawing_written : {s : Showing} {h : Head} {all : List ℕ} {m : ℕ} {written : List ℕ} {d : Drawing} (new : Drawing) {e : EndState} → new.strips ≡ d.strips → new.info ≡ d.info → new.out ≡ [] → IsDrawing s h all m written d e
    → IsDrawing s h all m (written ++ d.out) new e
drawing_written {written} {d} new x i none k =
    let same : (written ++ d.out) ++ new.out ≡ written ++ d.out = ap (λ l. (written ++ d.out) ++ l) none ∙ append-nil (written ++ d.out) in
    record {
      kind = k.kind;
      framed = ap (λ (t : Strips). t.display.frame) x ∙ k.framed;
      given = ap (λ (t : Strips). t.given) x ∙ k.given ∙ sym (ap (λ (t : Strips). rows_made_ready t.display t.pushed) x);
      end = end_still new x i k.end;
      blocks = k.blocks;
      told = k.told;
      drawn = drawn_still new x i k.drawn;
      text = same ∙ k.text;
      enough = λ n y few told. (let l = k.enough n y few told in let size = ap length same in omega (arith, l, size));
    }

-- THE ANSWER

abbrev pub shown_head : {gray : Bool} {h : Head} {all : List ℕ} → IsHeadIn gray h all → IsShownByRows gray all
shown_head {h} k = record { before = h.before; contents = h.contents; begins = k.begins; shown = k.shown }

-- nothing is unwanted, whatever follows
pub none_unwanted : {gray : Bool} {h : Head} {all : List ℕ} (rest : List ℕ) (g : FaultAt) → IsHeadIn gray h all → IsUnwanted (Image gray) (all ++ rest) g → ⊥
none_unwanted {gray} {h} {all} rest g k u = not_shown gray (all ++ rest) g u (record { before = h.before; contents = h.contents; begins = begins_more all rest h.before h.contents k.begins; shown = k.shown })

-- a piece in two, after this many bytes
pub cut_used : {all : List ℕ} (front piece : List ℕ) (used : ℕ) → all ≡ front ++ piece → all ≡ (front ++ take used piece) ++ drop used piece
cut_used front piece used cut = cut ∙ ap (λ l. front ++ l) (sym (take-append-drop used piece)) ∙ sym (append_assoc front (take used piece) (drop used piece))

refused_rows : {gray : Bool} {h : Head} {all : List ℕ} (fed piece : List ℕ) (f : FaultAt) → all ≡ fed ++ piece → length piece ≤ 16384 → IsHeadIn gray h all → IsStopOf standard_limits all f → length fed ≤ f.at → (rest : List ℕ) → IsRefusedRead (Image gray) f rest all
refused_rows {all} fed piece f cut few k stops late rest = record {
  refused = inl (stops rest, λ g u. absurd (none_unwanted rest g k u));
  within = stop_within all f stops;
  last = omega (arith, late, few, ap length cut, length-append fed piece);
}

not_plain : {h : Head} {all : List ℕ} {gray : Bool} {limits : Limits} → limits ≡ standard_limits → IsHeadIn gray h all → HasNoRows limits all → ⊥
not_plain {h} {all} e k none = none h.before h.contents (subst (λ (l : Limits). BeginsScanOfAll l all h.before h.contents) (sym e) k.begins)

-- the rows that a prefix of the bytes completes
record CompletesFront (bytes : List ℕ) (m : ℕ) : Type 0 where
  pub before : List Segment
  pub contents : List ℕ
  pub begins : BeginsScanOfAll standard_limits bytes before contents
  pub blocks : Blocks
  pub completed : CompletesRows standard_limits bytes m blocks

stopped_front : {bytes : List ℕ} {m : ℕ} {r : ReaderState} → r.limits ≡ standard_limits → StopsRows bytes m r → CompletesFront bytes m
stopped_front {bytes} {m} e k = record {
  before = (k.begun).before;
  contents = (k.begun).contents;
  begins = subst (λ (l : Limits). BeginsScanOfAll l bytes (k.begun).before (k.begun).contents) e (k.begun).begins;
  blocks = k.blocks;
  completed = subst (λ (l : Limits). CompletesRows l bytes m k.blocks) e k.completed;
}

-- are those that were decoded, of the same scan
shown_front : (s : Showing) {h : Head} {all : List ℕ} (n : ℕ) {m : ℕ} {blocks : Blocks} → IsHeadIn s.gray h all → TellsRows standard_limits all m blocks → CompletesFront (take n all) m
    → IsShownByRows s.gray (take n all) × IsRowsText s (take n all) (rows_text s.kind (picture_so_far standard_limits h.before h.contents blocks) s.gray s.smooth m)
shown_front s {h} {all} n {m} {blocks} head told k =
    let cut : all ≡ take n all ++ drop n all = sym (take-append-drop n all) in
    let there : TellsRows standard_limits all m k.blocks =
    subst (λ l. TellsRows standard_limits l m k.blocks) (sym cut) (rows_stay standard_limits (take n all) (drop n all) m k.blocks (k.completed).0) in
    let one = one_head (take n all) all (drop n all) [] k.before h.before k.contents h.contents (sym cut ∙ sym (append-nil all)) k.begins head.begins in
    let blocks_are : blocks ≡ k.blocks = rows_once standard_limits all m blocks k.blocks told there in (
      record {
        before = k.before;
        contents = k.contents;
        begins = k.begins;
        shown = ap (λ (b : List Segment). out_fault_of (frame_of standard_limits b).precision (colours_after standard_limits b) s.gray (factors_after standard_limits b)) one.0 ∙ head.shown;
      },
      record {
        before = k.before;
        contents = k.contents;
        begins = k.begins;
        rows = m;
        blocks = k.blocks;
        completed = k.completed;
        same =
            ap (λ (b : Blocks). rows_text s.kind (picture_so_far standard_limits h.before h.contents b) s.gray s.smooth m) blocks_are
            ∙ ap (λ (b : List Segment). rows_text s.kind (picture_so_far standard_limits b h.contents k.blocks) s.gray s.smooth m) (sym one.0)
            ∙ ap (λ (c : List ℕ). rows_text s.kind (picture_so_far standard_limits k.before c k.blocks) s.gray s.smooth m) (sym one.1);
      },
    )

module _ {s : Showing} {run : Run} {m : ℕ} {piece : List ℕ} where
  pub rows_ended : (answer : Result FedRow Stop) {r : ReaderState} {d : Drawing} {e : EndState} {written : List ℕ} {now : DeskState} → IsLastPiece answer → HasFedRows s.gray run.head run.all m piece answer r → IsDrawing s run.head run.all m written d e → d.out ≡ [] → HasCreated s run.old run.start run.all written now → IsInTime s run.all written → AfterLast s run answer (at_work r d e now)
  rows_ended (Ok fed.More) {r} {d} {e} {written} {now} last k drawing out desk early = by k.after
    where
      by : AfterFeedRow k.fed m piece (Ok fed.More) r → (n : ℕ) × HasShown s run n (at_work r d e now)
      by (inl plain) = absurd (not_plain k.limits k.head (subst (λ l. HasNoRows r.limits l) (sym k.cut) (plain.0).plain))
      by (inr read) = (
        m,
        record { written = written; limits = k.limits; read = subst (λ l. HasReadRows l m r) (sym k.cut) read; small = k.small; head = k.head; drawing = drawing; desk = desk; out = out },
      )
  rows_ended (Ok (fed.Row used)) last k drawing out desk early = absurd last
  rows_ended (Ok (fed.Done used)) {r} {d} {e} {written} {now} last k drawing out desk early = by k.after
    where
      cut : run.all ≡ (k.fed ++ take used piece) ++ drop used piece
      cut = cut_used k.fed piece used k.cut

      by : AfterFeedRow k.fed m piece (Ok (fed.Done used)) r → (n : ℕ) × HasShownAll s run n (at_work r d e now)
      by (inl plain, some, within) =
          let front = k.fed ++ take used piece in
          let done = plain.done in
          let none =
          plain_whole front (drop used piece) done.meaning (subst (λ (l : Limits). IsWholeFile l front done.meaning) k.limits done.whole)
          (subst (λ (l : Limits). HasNoRows l front) k.limits plain.plain) in
          absurd (subst (λ l. HasNoRows standard_limits l) (sym cut) none (run.head).before (run.head).contents (k.head).begins)
      by (inr done, some, within) = (
        m,
        record {
          written = written;
          front = k.fed ++ take used piece;
          rest = drop used piece;
          cut = cut;
          some = (let size = length-take-le used piece within in omega (arith, some, size, length-append k.fed (take used piece)));
          few = (let few = k.few in omega (arith, few, ap length (take-append-drop used piece), length-append (take used piece) (drop used piece)));
          limits = k.limits;
          done = done;
          most = k.most;
          small = k.small;
          short = k.short;
          head = k.head;
          drawing = drawing;
          desk = desk;
          early = early;
        },
      )
  rows_ended (Err (stop.Fault f)) {r} {written} {now} last k drawing out desk early = by k.after
    where
      text : List ℕ
      text = rows_text s.kind (picture_so_far standard_limits (run.head).before (run.head).contents drawing.blocks) s.gray s.smooth m

      same : written ≡ text
      same = sym (append-nil written) ∙ ap (λ l. written ++ l) (sym out) ∙ drawing.text

      by : AfterFeedRow k.fed m piece (Err (stop.Fault f)) r → Shown s run.old (why.Refused f) now
      by (stops, late, keeps, inl plain) = absurd (k.begun plain.0)
      by (stops, late, keeps, inr so) =
          let stopped = subst (λ l. IsStopOf standard_limits l f) (sym k.cut) (subst (λ (l : Limits). IsStopOf l (k.fed ++ piece) f) k.limits stops) in
          let front : CompletesFront (take f.at run.all) m = subst (λ l. CompletesFront (take f.at l) m) (sym k.cut) (stopped_front k.limits so) in
          let shown = shown_front s f.at k.head drawing.told front in
          let rest = rest_of now.left in
          inr (record {
            text = text;
            read =
                created_read (IsShownUpTo s (bytes_before f) (IsRefusedRead (Image s.gray) f rest) text) desk k.most
                (refused_rows k.fed piece f k.cut k.few k.head stopped late rest, shown.0, shown.1);
            wrote = subst (λ t. Added (s.input ∷ []) s.output t run.old now) same (created_added desk);
          })
  rows_ended (Err stop.NoMemory) last k drawing out desk early = absurd (k.begun (k.after).1)

-- and before it all that waited is written
all_gone : (out gone rest : List ℕ) → rest ≡ [] → out ++ [] ≡ gone ++ rest → gone ≡ out
all_gone out gone rest none e = sym (append-nil gone) ∙ ap (λ l. gone ++ l) (sym none) ∙ sym e ∙ append-nil out

pub rows_written : {s : Showing} {run : Run} {work : Work} {m : ℕ} {piece : List ℕ} {answer : Result FedRow Stop} (new : Drawing) {s1 : DeskState}
    → IsLastPiece answer → new.strips ≡ (work.image).strips → new.info ≡ (work.image).info → new.out ≡ [] → SendsImage work.now (work.image).out [] (Ok tt) new.out s1 → IsShowing s run m piece answer work → AfterLast s run answer (at_work work.reader new work.end s1)
rows_written {work = work} {answer} new {s1} last x i none sent k =
    let gone = (sent.bytes).0 in
    let same = all_gone (work.image).out gone new.out none (sent.bytes).2 in
    let desk =
    created_more (work.image).out k.desk sent.only (subst (λ l. AppendsLast (work.now).outputs l s1.outputs) same (sent.bytes).1) in
    rows_ended answer last k.read (drawing_written new x i none k.drawing) none desk
    (λ front rest text cut many due. (let l = k.early front rest text cut many due in omega (arith, l, length-append k.written (work.image).out)))

module _ (s : Showing) {run : Run} {m n : ℕ} {piece written out : List ℕ} where
  -- or it isn't run.all: the text of these rows
  pub told_stopped : {due new : List ℕ} {answer : Result FedRow Stop} {r : ReaderState} {blocks : Blocks} (ended : DecodeStop) {s0 s1 : DeskState} → HasFedRows s.gray run.head run.all m piece answer r → TellsRows standard_limits run.all n blocks → written ++ (out ++ due) ≡ rows_text s.kind (picture_so_far standard_limits (run.head).before (run.head).contents blocks) s.gray s.smooth n → IsInTime s run.all written
      → HasCreated s run.old run.start run.all written s0 → SendsImage s0 out due (Err ended) new s1 → Shown s run.old (why_of (Err ended)) s1
  told_stopped {blocks} ended k told same early desk sent =
      rows_stopped ended (record { most = k.most; short = k.short; told = record { begun = shown_head k.head; rows = n; blocks = blocks; told = told; same = refl }; same = same; early = early })
      (fits_whole s run.head run.all n blocks k.head told) desk sent

module _ {s : Showing} {run : Run} {work : Work} where
  pub rows_unwritten : {m : ℕ} {piece : List ℕ} {answer : Result FedRow Stop} {new : List ℕ} {ended : DecodeStop} {s1 : DeskState} → SendsImage work.now (work.image).out [] (Err ended) new s1 → IsShowing s run m piece answer work → Shown s run.old (why_of (Err ended)) s1
  rows_unwritten {ended} sent k =
      told_stopped s ended k.read (k.drawing).told (ap (λ l. k.written ++ l) (append-nil (work.image).out) ∙ (k.drawing).text) k.early k.desk sent

-- THE SCAN that began in the bytes, whatever the answer
pub rows_begun : {gray : Bool} {h : Head} {all : List ℕ} {m : ℕ} {piece : List ℕ} {answer : Result FedRow Stop} {r : ReaderState} → HasFedRows gray h all m piece answer r → HasBegun all r
rows_begun {all} {m} {piece} {answer} {r} k = by (plain_or k.fed piece m answer r k.after)
  where
    by : IsPlainOrBegun (k.fed ++ piece) r → HasBegun all r
    by (inl none) = absurd (k.begun none)
    by (inr begun) = subst (λ l. HasBegun l r) (sym k.cut) begun
