-- The case that the output of rows is created and its image begun, over the states of a desk.
use Rattle.std.proofs.Common.{◌≡◌, ℕ, ◌+◌, ◌≤◌, Bool, List, [], ◌∷◌, ◌++◌, length, take, drop, refl, sym, ap, ◌∙◌, subst, arith, inl, inr, Option, None, Some, Result, Ok, Err}
use Rattle.std.proofs.lemmas.List.{append-nil, length-append, take_all, take-append-drop, take-append-le}
use Rattle.jpg_base.specs.declared.names.Name.{Name}
use Rattle.jpg_base.specs.declared.names.Put.{Put}
use Rattle.jpg_base.specs.declared.names.Put.TheVariants as put
use Rattle.jpg_base.specs.declared.stop.Stop.{Stop}
use Rattle.jpg_base.specs.declared.stop.Stop.TheVariants as stop
use Rattle.jpg_base.specs.Desk.{AddsOutput, Creates, DeskState, NotesName}
use Rattle.jpg_base.specs.Laws.{Grows}
use Rattle.jpg_spec.specs.FileMeaning.{no_blocks}
use Rattle.jpg_spec.specs.Geometry.{Frame}
use Rattle.jpg_spec_image.specs.ImageText.{first_piece}
use Rattle.jpg_spec.specs.InForce.{colours_after, frame_of}
use Rattle.jpg_spec.specs.Markers.{Segment}
use Rattle.jpg_spec.specs.Meaning.{Meaning}
use Rattle.jpg_spec_image.specs.Pixels.{info, out_fault_of, pixels}
use Rattle.jpg_spec.specs.RowLaws.{TellsMore, first_blocks}
use Rattle.jpg_spec.specs.RowsParsed.{BeginsScanOfAll, TellsRows, picture_so_far}
use Rattle.jpg_spec_image.specs.RowsShown.{rows_text}
use Rattle.jpg_spec.specs.Scan.{Blocks}
use Rattle.jpg_spec.specs.Segments.{standard_limits}
use Rattle.jpg_spec_words.specs.declared.answers.Why.TheVariants as why
use Rattle.jpg_spec.specs.declared.frame.Colour.{Colour}
use Rattle.jpg_spec.specs.declared.frame.Limits.{Limits}
use Rattle.jpg_spec_image.specs.declared.image.EndKind.{EndKind}
use Rattle.jpg_spec_image.specs.declared.image.ImageInfo.{ImageInfo}
use Rattle.jpg_spec.proofs.Headers.ColoursKept.{picture_colours}
use Rattle.jpg_spec_image.proofs.RowsAlike.{colours_stay}
use Rattle.jpg_spec.proofs.McuRows.RowsOnce.{first_told, rows_stay}
use Rattle.jpg_file.specs.Read.ReadFile.{ReaderState, AfterFeedRow, HasBegunRows, picture_read}
use Rattle.jpg_file.specs.Read.Strips.{TellsStrip}
use Rattle.jpg_file.specs.Read.PictureKept.{IsHeadOfPicture}
use Rattle.jpg_file.specs.declared.read.pieces.FedRow.{FedRow}
use Rattle.jpg_file.specs.declared.read.pieces.FedRow.TheVariants as fed
use Rattle.jpg_file.specs.declared.read.strip_head.StripHead.{StripHead}
use Rattle.jpg_pnm_bmp.specs.EndState.{EndState, new_end}
use Rattle.jpg_pnm_bmp.proofs.SomeBytes.{text_some}
use Rattle.jpg_color.specs.Shown.{Display, ShownState as Strips, display_fault, display_of, factors_of}
use Rattle.jpg_color.specs.StripImage.{BeginsDrawing, Drawing, DrawsImage, IsDrawnTo, IsNewOf}
use Rattle.jpg_color.proofs.DrawnLaws.{texts_join}
use Rattle.jpg_desk.specs.ReadPicture.{IsShortRead, Image}
use Rattle.jpg_cli.specs.Tools.Showing.{IsInTime, IsToldText, Showing, Shown}
use Rattle.jpg_cli.specs.Tools.ShowingRows.{BeginsShownRows, HasCreated, HasFedRows, HasOpened, Head, IsHeadIn, IsShowing, at_work}
use Rattle.jpg_desk.proofs.PiecesRead.{left_still, works_then}
use Rattle.jpg_cli.proofs.Pieces.FirstRead.{HasBegun}
use Rattle.jpg_cli.proofs.ByRow.RowHeads.{begins_still, one_head}
use Rattle.jpg_cli.proofs.ByRow.RowsDesk.{created_added, created_read}
use Rattle.jpg_cli.proofs.ByRow.RowsEnd.{cut_used, rows_begun, shown_head}
use Rattle.jpg_cli.proofs.ByRow.RowsWhole.{goes_on, so_far}

-- THE HEAD that the reader gives

pub record IsStripOf (h : Head) (x : StripHead) : Type 0 where
  pub frame : x.frame ≡ frame_of standard_limits h.before
  pub picture : (blocks : Blocks) → IsHeadOfPicture x (so_far h blocks)

module _ {gray : Bool} {h : Head} {all : List ℕ} {m : ℕ} {piece : List ℕ} {answer : Result FedRow Stop} {r : ReaderState} where
  pub strip_told : {o : Option StripHead} {x : StripHead} → HasFedRows gray h all m piece answer r → o ≡ Some x
      → ((bytes : List ℕ) (b : HasBegunRows bytes r) → TellsStrip o (frame_of r.limits b.before) (picture_read bytes r b)) → IsStripOf h x
  strip_told {x} k is tells = record { frame = told.0; picture = told.1 }
    where
      b : HasBegun all r
      b = rows_begun k

      Is : Limits → List Segment → List ℕ → Type 0
      Is l s c = (x.frame ≡ frame_of l s) × ((blocks : Blocks) → IsHeadOfPicture x (picture_so_far l s c blocks))

      here : Is r.limits (b.begun).before (b.begun).contents
      here = subst (λ (y : Option StripHead). TellsStrip y (frame_of r.limits (b.begun).before) (picture_read b.front r b.begun)) is (tells b.front b.begun)

      one : ((b.begun).before ≡ h.before) × ((b.begun).contents ≡ h.contents)
      one =
          one_head b.front all b.rest [] (b.begun).before h.before (b.begun).contents h.contents (sym b.cut ∙ sym (append-nil all))
          (subst (λ (l : Limits). BeginsScanOfAll l b.front (b.begun).before (b.begun).contents) k.limits (b.begun).begins) (k.head).begins

      told : Is standard_limits h.before h.contents
      told =
          subst (λ c. Is standard_limits h.before c) one.1
          (subst (λ (s : List Segment). Is standard_limits s (b.begun).contents) one.0 (subst (λ (l : Limits). Is l (b.begun).before (b.begun).contents) k.limits here))

-- is that of a picture that can be displayed
pub strip_shown : {gray : Bool} (smooth : Bool) {h : Head} {all : List ℕ} {x : StripHead} → IsHeadIn gray h all → IsStripOf h x → display_fault (display_of x gray smooth) ≡ None
strip_shown {gray} smooth {h} {all} {x} head k =
    let after : List Segment = (0xda, h.contents) ∷ h.before in
    let colour : x.colour ≡ colours_after standard_limits h.before =
    (k.picture no_blocks).colour ∙ picture_colours standard_limits after no_blocks ∙ colours_stay standard_limits all h.before h.contents head.begins in
    ap (λ (c : Colour). out_fault_of x.frame.precision c gray (factors_of x.frame)) colour
    ∙ ap (λ (f : Frame). out_fault_of f.precision (colours_after standard_limits h.before) gray (factors_of f)) k.frame ∙ head.shown

-- THE OUTPUT was created, and nothing is in it

adds_none : (a b : Option (List (Name × List ℕ))) (name : Name) → AddsOutput a name b → Grows a (name, []) b
adds_none None b name h = tt
adds_none (Some a) None name h = absurd h
adds_none (Some a) (Some b) name h = h

created_first : {s : Showing} {old start : DeskState} {all : List ℕ} {now new : DeskState} → HasOpened s old start all now → Creates now s.output put.Done new → HasCreated s old start all [] new
created_first {s} {start} {all} {now} {new} h made = record {
  opened = h.opened;
  works = works_then ((h.reads).copies).works (record { stays = record { counts = made.counts; files = made.files }; said = made.said });
  left = left_still now new all start made.left h.left;
  asked = (let P : Option (List (Name × Put)) → Type 0 = λ a. NotesName a (s.output, put.Done) new.asked in subst P ((h.reads).copies).asked made.asked);
  outputs = (let P : Option (List (Name × List ℕ)) → Type 0 = λ a. Grows a (s.output, []) new.outputs in subst P (h.reads).outputs (adds_none now.outputs new.outputs s.output made.after.1));
  created = made.after.0;
}

-- NOTHING IS PENDING YET: before the piece in which the scan began there was nothing to write

none_due : (s : Showing) {all : List ℕ} {piece : List ℕ} {answer : Result FedRow Stop} {r : ReaderState} → BeginsShownRows s.gray all piece answer r → IsInTime s all []
none_due s {piece} k front rest text cut many due =
    let bytes = (k.rows).fed in
    let few = (k.rows).few in
    let size : length front + length rest ≡ length bytes + length piece = sym (length-append front rest) ∙ ap length (sym cut ∙ (k.rows).cut) ∙ length-append bytes piece in
    let short : length front ≤ length bytes = omega (arith, size, many, few) in
    let first : take (length front) bytes ≡ front =
    sym (take-append-le (length front) bytes piece short) ∙ ap (take (length front)) (sym (k.rows).cut ∙ cut) ∙ take-append-le (length front) front rest (omega arith) ∙ take_all (length front) front (omega arith) in
    let other = drop (length front) bytes in
    let same : bytes ≡ front ++ other = sym (take-append-drop (length front) bytes) ∙ ap (λ l. l ++ other) first in
    absurd (k.none due.before due.contents (begins_still front other bytes due.before due.contents same due.begins))

-- NO MCU ROWS of it are decoded at first

told_at : {limits : Limits} {all front : List ℕ} (rest : List ℕ) {m : ℕ} {blocks : Blocks} → limits ≡ standard_limits → all ≡ front ++ rest → TellsRows limits front m blocks → (x : Blocks) × TellsRows standard_limits all 0 x
told_at {all} {front} rest {m} {blocks} e cut told =
    let more : TellsRows standard_limits all m blocks =
    subst (λ l. TellsRows standard_limits l m blocks) (sym cut) (rows_stay standard_limits front rest m blocks (subst (λ (l : Limits). TellsRows l front m blocks) e told)) in
    let w : TellsMore standard_limits all 0 = record { all = m; blocks = blocks; enough = omega arith; told = more } in
    (first_blocks standard_limits all 0 w, first_told standard_limits all 0 w)

pub none_told_yet : {gray : Bool} {h : Head} {all : List ℕ} {m : ℕ} {piece : List ℕ} (answer : Result FedRow Stop) {r : ReaderState} → HasFedRows gray h all m piece answer r → (x : Blocks) × TellsRows standard_limits all 0 x
none_told_yet {all} {m} {piece} (Ok fed.More) {r} k = by k.after
  where
    by : AfterFeedRow k.fed m piece (Ok fed.More) r → (x : Blocks) × TellsRows standard_limits all 0 x
    by (inl plain) = absurd (k.begun (plain.0).none)
    by (inr read) = told_at [] k.limits (k.cut ∙ sym (append-nil (k.fed ++ piece))) (read.completed).0
none_told_yet {piece} (Ok (fed.Row used)) k =
    told_at (drop used piece) k.limits (cut_used k.fed piece used k.cut) ((k.after).0).told
none_told_yet {all} {m} {piece} (Ok (fed.Done used)) {r} k = by k.after
  where
    by : AfterFeedRow k.fed m piece (Ok (fed.Done used)) r → (x : Blocks) × TellsRows standard_limits all 0 x
    by (inl plain, some, within) = absurd (k.begun plain.none)
    by (inr done, some, within) = told_at (drop used piece) k.limits (cut_used k.fed piece used k.cut) (done.completed).0
none_told_yet {all} {m} {piece} (Err (stop.Fault f)) {r} k = by k.after
  where
    by : AfterFeedRow k.fed m piece (Err (stop.Fault f)) r → (x : Blocks) × TellsRows standard_limits all 0 x
    by (stops, late, keeps, inl plain) = absurd (k.begun plain.0)
    by (stops, late, keeps, inr so) =
        told_at (drop f.at (k.fed ++ piece)) k.limits (k.cut ∙ sym (take-append-drop f.at (k.fed ++ piece))) (so.completed).0
none_told_yet (Err stop.NoMemory) k = absurd (k.begun (k.after).1)

module _ {s : Showing} {old start : DeskState} {all : List ℕ} {piece : List ℕ} {answer : Result FedRow Stop} {r : ReaderState} where
  -- NO MEMORY for what its text begins with
  pub not_started : {now new : DeskState} → BeginsShownRows s.gray all piece answer r → HasOpened s old start all now → Creates now s.output put.Done new
      → Shown s old why.NoMemory new
  not_started k h made =
      let desk = created_first h made in
      let x = none_told_yet answer k.rows in
      let text = rows_text s.kind (so_far k.head x.0) s.gray s.smooth 0 in
      inr (inr (record {
        part = record {
          text = text;
          count = 0;
          read =
              created_read (λ bytes. IsShortRead (Image s.gray) bytes × IsToldText s bytes text) desk (k.rows).most
              ((k.rows).short, record { begun = shown_head (k.rows).head; rows = 0; blocks = x.0; told = x.1; same = refl });
          wrote = created_added desk;
        };
        left = λ M whole. text_some s.kind (info M s.gray) (pixels M s.gray s.smooth);
      }))

  -- IT IS BEGUN
  pub rows_started : {x : StripHead} {image d : Drawing} {first e : EndState} {now new : DeskState} → (k : BeginsShownRows s.gray all piece answer r)
      → HasOpened s old start all now → Creates now s.output put.Done new → IsStripOf k.head x → IsNewOf x s.gray s.smooth image → first ≡ new_end s.kind → BeginsDrawing image first d e → IsShowing s (record { old = old; start = start; head = k.head; all = all }) 0 piece answer (at_work r d e new)
  rows_started {image} {d} {first} {e} k h made strip made_image first_is begins = record {
    written = [];
    read = k.rows;
    drawing = record {
      kind = begins.kind ∙ kind;
      framed = ap (λ (t : Strips). t.display.frame) begins.strips ∙ ap (λ (y : Display). y.frame) made_image.display ∙ strip.frame;
      given = (begins.due).given;
      end = begins.end;
      blocks = told.0;
      told = told.1;
      drawn = drawn;
      text = text;
      enough = λ n y few t.
          (let on = goes_on s.gray s.smooth s.kind k.head all n 0 y told.0 (k.rows).head few t told.1 in
          let longer = ap length on.1 in
          let size = ap length text in
          omega (arith, longer, size, length-append (rows_text s.kind (so_far k.head y) s.gray s.smooth n) on.0));
    };
    desk = created_first h made;
    early = none_due s k;
  }
    where
      kind : first.kind ≡ s.kind
      kind = ap (λ (y : EndState). y.kind) first_is

      told : (y : Blocks) × TellsRows standard_limits all 0 y
      told = none_told_yet answer k.rows

      P : Meaning
      P = so_far k.head told.0

      draws : DrawsImage image P s.gray s.smooth
      draws = made_image.draws P (strip.picture told.0)

      drawn : IsDrawnTo d e P s.gray s.smooth 0
      drawn = begins.drawn P s.gray s.smooth draws

      text : [] ++ d.out ≡ rows_text s.kind P s.gray s.smooth 0
      text =
          begins.out ∙ ap (λ l. l ++ first_piece first.kind image.info) (made_image.new).out ∙ ap (λ (y : EndKind). first_piece y image.info) kind ∙ ap (λ (i : ImageInfo). first_piece s.kind i) draws.info
          ∙ sym (texts_join image P s.gray s.smooth s.kind draws).first
