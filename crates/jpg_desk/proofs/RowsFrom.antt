-- Where MCU rows begin, and what is read from there on.
use Rattle.std.proofs.Common.{◌≡◌, ◌⊎◌, ℕ, ◌-◌, ◌<◌, ◌≤◌, List, [], ◌++◌, length, take, drop, Option, None, Some, Result, Ok, Err, refl, sym, ap, ◌∙◌, subst, arith, inl, inr}
use Rattle.std.specs.Io.KnownBytes.{Consumes}
use Rattle.std.proofs.lemmas.List.{append-nil, append_assoc, take-append-drop}
use Rattle.std.proofs.lemmas.List.Elements.{All-nil}
use Rattle.jpg_base.specs.Desk.{DeskState, Opens}
use Rattle.jpg_base.specs.declared.names.Name.{Name}
use Rattle.jpg_base.specs.declared.names.Put.TheVariants as put
use Rattle.jpg_base.specs.declared.stop.Stop.{Stop}
use Rattle.jpg_spec.specs.Geometry.{Frame}
use Rattle.jpg_spec.specs.InForce.{frame_of}
use Rattle.jpg_spec.specs.Markers.{Segment}
use Rattle.jpg_spec.specs.Meaning.{Meaning}
use Rattle.jpg_spec.specs.RowLaws.{TellsMore, first_blocks}
use Rattle.jpg_spec.specs.RowsParsed.{TellsRows, picture_so_far}
use Rattle.jpg_spec.specs.Scan.{Blocks}
use Rattle.jpg_spec.specs.Segments.{standard_limits}
use Rattle.jpg_spec.specs.UnfinishedFile.{UnfinishedFile}
use Rattle.jpg_spec.specs.declared.frame.Copying.{Copying}
use Rattle.jpg_spec.specs.declared.frame.Limits.{Limits}
use Rattle.jpg_spec.proofs.McuRows.RowsOnce.{first_told, rows_stay}
use Rattle.jpg_spec_move.specs.Moved.{Choice}
use Rattle.jpg_spec_words.specs.declared.answers.Why.{Why}
use Rattle.jpg_spec_words.specs.declared.answers.Why.TheVariants as why
use Rattle.jpg_file.specs.Read.File.{keeping_of}
use Rattle.jpg_file.specs.Read.ReadFile.{ReaderState, HasBegunRows, picture_read}
use Rattle.jpg_file.specs.Read.Strips.{TellsStrip, RepresentsRows, RowsAfter, RowsInside}
use Rattle.jpg_file.specs.declared.read.file.FileState.{FileState}
use Rattle.jpg_file.specs.declared.read.pieces.FedRow.{FedRow}
use Rattle.jpg_file.specs.declared.read.pieces.FedRow.TheVariants as fed
use Rattle.jpg_file.specs.declared.read.rows.RowWork.{RowWork}
use Rattle.jpg_file.specs.declared.read.strip_head.StripHead.{StripHead}
use Rattle.jpg_desk.specs.Judging.{NoValueTaken}
use Rattle.jpg_desk.specs.MovedRead.{EndsMoved, HasAllRows, HasBegun, IsNewReader, MovedRead}
use Rattle.jpg_desk.specs.Pump.{AfterTaking, EndsAll, IsFed, ReadsInput, of_reader}
use Rattle.jpg_desk.specs.ReadPicture.{picture_judging, Coefficients}
use Rattle.jpg_desk.specs.Reading.{rest_of}
use Rattle.jpg_desk.specs.RowsRead.{BeginsAt, HasRows, Head, HasFront, HoldsPlainly, HoldsRows, IsFrontFed, IsHeadAt, IsInPiece, IsPutInPiece, IsRowsFed, KeepsReading, rows_front, rows_reader}
use Rattle.jpg_desk.specs.RowsTo.{HavePut}
use Rattle.jpg_desk.specs.Stays.{OnlyReads}
use Rattle.jpg_desk.specs.declared.moved_rows.MovedInput.{MovedInput}
use Rattle.jpg_desk.specs.declared.rows_read.RowsFront.{RowsFront}
use Rattle.jpg_desk.specs.declared.rows_read.RowsRead.{RowsRead}
use Rattle.jpg_desk.proofs.Pumped.{all_read}
use Rattle.jpg_desk.proofs.PictureTaken.{meaning_read}
use Rattle.jpg_desk.proofs.PiecesRead.{none_read}
use Rattle.jpg_desk.proofs.RowsEnd.{rows_open}
use Rattle.jpg_desk.proofs.RowsFront.{front_open}
use Rattle.jpg_desk.proofs.RowsRead.{one_head}
use Rattle.jpg_desk.proofs.RowsTo.{same_goal}

-- COUNTS

-- the bytes that were taken are counted
taken_by_row : {limits : Limits} {bytes : List ℕ} {w : FileState} {rows : RowWork} → RepresentsRows limits bytes w rows → w.taken ≡ length bytes
taken_by_row {limits} {bytes} {w} {rows} h = by h.at
  where
    by : RowsInside limits bytes w rows h.whole ⊎ RowsAfter limits bytes w rows h.whole → w.taken ≡ length bytes
    by (inl i) = (i.held).count
    by (inr b) = ((b.between).beside).count

pub rows_counted : {from s : RowsRead} {bytes : List ℕ} → IsRowsFed from bytes s → ((s.reader).value).file.taken ≡ length bytes
rows_counted h = taken_by_row (h.read.open).stands

-- by what may still be taken
pub counted_left : {from s : RowsRead} {bytes : List ℕ} (r : ReaderState) (l : Limits) (room : ℕ) → IsRowsFed from bytes s → r ≡ (s.reader).value → l ≡ standard_limits → room ≡ r.limits.input - r.file.taken → length bytes < standard_limits.input
    → (room ≤ l.input) × (length bytes ≡ l.input - room)
counted_left {bytes = bytes} r l room h is e left short =
    let taken : r.file.taken ≡ length bytes = ap (λ (x : ReaderState). x.file.taken) is ∙ rows_counted h in
    let input : r.limits.input ≡ standard_limits.input = ap (λ (x : ReaderState). x.limits.input) is ∙ ap (λ (x : Limits). x.input) h.put.keeps.keeps.limits in
    let most : l.input ≡ standard_limits.input = ap (λ (x : Limits). x.input) e in
    (omega (arith, taken, input, most, left, short), omega (arith, taken, input, most, left, short))

-- WHERE THEY BEGIN, there is an answer of the reader that isn't a stop

-- the scan began
begun_in : {h : Head} {all : List ℕ} {m : ℕ} {piece : List ℕ} {r : ReaderState} (x : FedRow) → (i : IsInPiece h all m piece (Ok x) r) → (front : List ℕ) × (rest : List ℕ) × (front ++ rest ≡ all) × HasBegunRows front r
begun_in {piece = piece} fed.More i = (i.fed ++ piece, [], append-nil (i.fed ++ piece) ∙ sym i.cut, i.after.begun)
begun_in {piece = piece} (fed.Row used) i = (i.fed ++ take used piece, drop used piece, append_assoc i.fed (take used piece) (drop used piece) ∙ ap (λ l. i.fed ++ l) (take-append-drop used piece) ∙ sym i.cut, (i.after.0).begun)
begun_in {piece = piece} (fed.Done used) i = (i.fed ++ take used piece, drop used piece, append_assoc i.fed (take used piece) (drop used piece) ∙ ap (λ l. i.fed ++ l) (take-append-drop used piece) ∙ sym i.cut, (i.after.0).begun)

-- and no row was given
told_none : {h : Head} {all : List ℕ} {piece : List ℕ} {r : ReaderState} (x : FedRow) → r.limits ≡ standard_limits → (i : IsInPiece h all 0 piece (Ok x) r) → (blocks : Blocks) × TellsRows standard_limits all 0 blocks
told_none {all = all} {piece = piece} fed.More e i =
    let told = subst (λ (l : Limits). TellsRows l (i.fed ++ piece) 0 i.after.blocks) e i.after.completed.0 in
    (i.after.blocks, subst (λ (l : List ℕ). TellsRows standard_limits l 0 i.after.blocks) (sym i.cut) told)
told_none {all = all} {piece = piece} (fed.Row used) e i =
    let g = i.after.0 in
    let front = i.fed ++ take used piece in
    let cut : front ++ drop used piece ≡ all = append_assoc i.fed (take used piece) (drop used piece) ∙ ap (λ l. i.fed ++ l) (take-append-drop used piece) ∙ sym i.cut in
    let told = subst (λ (l : List ℕ). TellsRows standard_limits l 1 g.blocks) cut (rows_stay standard_limits front (drop used piece) 1 g.blocks (subst (λ (l : Limits). TellsRows l front 1 g.blocks) e g.told)) in
    let w : TellsMore standard_limits all 0 = record { all = 1; blocks = g.blocks; enough = omega arith; told = told } in
    (first_blocks standard_limits all 0 w, first_told standard_limits all 0 w)
told_none {all = all} {piece = piece} (fed.Done used) e i =
    let d = i.after.0 in
    let front = i.fed ++ take used piece in
    let cut : front ++ drop used piece ≡ all = append_assoc i.fed (take used piece) (drop used piece) ∙ ap (λ l. i.fed ++ l) (take-append-drop used piece) ∙ sym i.cut in
    (d.blocks, subst (λ (l : List ℕ). TellsRows standard_limits l 0 d.blocks) cut (rows_stay standard_limits front (drop used piece) 0 d.blocks (subst (λ (l : Limits). TellsRows l front 0 d.blocks) e d.completed.0)))

at_some : {h : Head} {all : List ℕ} {m : ℕ} {piece : List ℕ} {r : ReaderState} {a b : Result FedRow Stop} → a ≡ b → IsInPiece h all m piece a r → IsInPiece h all m piece b r
at_some {h} {all} {m} {piece} {r} e i = subst (λ (x : Result FedRow Stop). IsInPiece h all m piece x r) e i

-- so they can be put where they go
pub puts_begin : {keeping : Copying} {h : StripHead} {front : RowsFront} {start now : DeskState} → (b : HasBegun keeping h front start now) → (s : RowsRead) → (s.head).now ≡ h → (s.reader).value ≡ (front.reader).value → ((blocks : Blocks) → HavePut h.frame 0 blocks s.to)
    → IsPutInPiece s b.bytes front.piece front.answer s
puts_begin {h = h} {front = front} b s head reader none = record {
  head = b.head;
  count = 0;
  at = subst (λ (r : ReaderState). IsInPiece b.head b.bytes 0 front.piece front.answer r) (sym reader) b.at;
  put = record {
    keeps = record { keeps = record { limits = ap (λ (r : ReaderState). r.limits) reader ∙ b.limits; in_rows = ap (λ (r : ReaderState). r.in_rows) reader ∙ b.in_rows; keeping = refl }; goal = same_goal s.to; head = refl };
    told = subst (λ (x : StripHead). IsHeadAt b.head (Some x)) (sym head) b.told;
    blocks = told.0;
    rows = told.1;
    put = subst (λ (g : Frame). HavePut g 0 told.0 s.to) b.told.0 (none told.0);
  };
}
  where
    told : (blocks : Blocks) × TellsRows standard_limits b.bytes 0 blocks
    told = told_none b.some.0 b.limits (at_some b.some.1 b.at)

-- THE RESULT of the first piece

pub first_stopped : {keeping : Copying} {h : StripHead} {front : RowsFront} {start now : DeskState} → (b : HasBegun keeping h front start now) → (from s : RowsRead) (w : Why) → AfterTaking rows_reader from b.bytes (Err w) s
    → NoValueTaken (picture_judging Coefficients) start w now
first_stopped {now = now} b from s (why.Refused f) a = (b.bytes, b.read, b.most, a (rest_of now.left))
first_stopped b from s why.NoMemory a = (b.bytes, b.read, b.most, a)
first_stopped b from s other a = absurd a

module _ {keeping : Copying} {h : StripHead} {front : RowsFront} {start now : DeskState} (b : HasBegun keeping h front start now) {from s : RowsRead} (head : (from.head).now ≡ h) (reader : keeping_of ((from.reader).value).file ≡ keeping) where
  pub first_whole : HasRows from None b.bytes s → HasAllRows keeping h from.to start s None now
  first_whole a = record { from = from; head = head; same = refl; keeps = reader; taken = (b.bytes, b.read, b.most, a); all = tt }

-- and of those that follow
pub first_fed : {keeping : Copying} {h : StripHead} {front : RowsFront} {start now : DeskState} → (b : HasBegun keeping h front start now) → (from s : RowsRead) → IsRowsFed from b.bytes s → length b.bytes < standard_limits.input
    → IsFed RowsRead (of_reader rows_reader) (from, start) b.bytes (s, now)
first_fed b from s a short = record { short = short; fed = record { fed = a; kept = b.kept; read = b.read } }

module _ (from : RowsRead) (start : DeskState) where
  pub rest_read : {t : RowsRead} {after : DeskState} (answer : Result (Option ℕ) Why) → EndsAll (of_reader rows_reader) (from, start) answer (t, after) → ReadsInput RowsRead Meaning rows_reader (from, start) answer (t, after)
  rest_read {t} {after} answer ends = all_read RowsRead Meaning rows_reader (from, start) (t, after) answer (λ bytes f short. rows_open f) ends

  pub rest_whole : {keeping : Copying} {h : StripHead} {t : RowsRead} {after : DeskState} (early : Option ℕ) → (from.head).now ≡ h → keeping_of ((from.reader).value).file ≡ keeping → ReadsInput RowsRead Meaning rows_reader (from, start) (Ok early) (t, after) → HasAllRows keeping h from.to start t early after
  rest_whole early head reader r = record { from = from; head = head; same = refl; keeps = reader; taken = r.reads.0; all = r.reads.1 }

-- THE FRONT, once it was read

-- before any byte
pub front_none : {keeping : Copying} (s : RowsFront) → IsNewReader keeping (s.reader).value → s.piece ≡ [] → IsFrontFed s [] s
front_none s new none = record { keeps = record { limits = new.limits; in_rows = new.in_rows; keeping = refl }; read = new.read; small = All-nil (λ b. b < 256); none = none }

-- where memory for a reader is wanting
pub none_read_yet : {keeping : Copying} (r : ReaderState) (start : DeskState) → IsNewReader keeping r → NoValueTaken (picture_judging Coefficients) start why.NoMemory start
none_read_yet r start new = (
  [],
  none_read start.left,
  omega arith,
  record {
    front = [];
    piece = [];
    cut = refl;
    few = omega arith;
    before = record { short = omega arith; stands = subst (λ (l : Limits). UnfinishedFile l []) new.limits new.read.read.stands; wanted = λ f k. k };
  },
)

pub front_unread : (from : RowsFront) (start : DeskState) {t : RowsFront} {after : DeskState} (answer : Result (Option ℕ) Why) → EndsAll (of_reader rows_front) (from, start) answer (t, after) → ReadsInput RowsFront Meaning rows_front (from, start) answer (t, after)
front_unread from start {t} {after} answer ends = all_read RowsFront Meaning rows_front (from, start) (t, after) answer (λ bytes f short. front_open f) ends

-- whether rows began, by the head of the picture
pub begun_there : {early : Option ℕ} {bytes : List ℕ} {s : RowsFront} → HoldsRows early bytes s → (front : List ℕ) × (rest : List ℕ) × (front ++ rest ≡ bytes) × HasBegunRows front (s.reader).value
begun_there h = begun_in h.some.0 (at_some h.some.1 h.at)

pub no_head_plain : {from : RowsFront} (early : Option ℕ) (bytes : List ℕ) {s : RowsFront} → ((all : List ℕ) → HasBegunRows all (s.reader).value → ⊥) → HasFront from early bytes s → HoldsPlainly early bytes s
no_head_plain early bytes {s} none h = by h.at
  where
    by : HoldsPlainly early bytes s ⊎ HoldsRows early bytes s → HoldsPlainly early bytes s
    by (inl p) = p
    by (inr p) = (let b = begun_there p in absurd (none b.0 b.3))

pub head_rows : {from : RowsFront} (early : Option ℕ) (bytes : List ℕ) {s : RowsFront} → (((s.reader).value).rows ≡ None → ⊥) → HasFront from early bytes s → HoldsRows early bytes s
head_rows early bytes {s} some h = by h.at
  where
    by : HoldsPlainly early bytes s ⊎ HoldsRows early bytes s → HoldsRows early bytes s
    by (inl p) = absurd (some p.none)
    by (inr p) = p

-- the head that is found is that of the picture
head_is : {h : Head} {bytes : List ℕ} {r : ReaderState} (o : Option StripHead) → r.limits ≡ standard_limits → BeginsAt h bytes → (front rest : List ℕ) → front ++ rest ≡ bytes → (b : HasBegunRows front r) → TellsStrip o (frame_of r.limits b.before) (picture_read front r b) → IsHeadAt h o
head_is {h} {bytes} {r} o e begins front rest cut b told =
    let one = one_head rest e cut begins b.begins in
    let limited : TellsStrip o (frame_of standard_limits b.before) (picture_so_far standard_limits b.before b.contents) =
    subst (λ (l : Limits). TellsStrip o (frame_of l b.before) (picture_so_far l b.before b.contents)) e told in
    subst (λ (c : List ℕ). TellsStrip o (frame_of standard_limits h.before) (picture_so_far standard_limits h.before c)) (sym one.1)
    (subst (λ (s : List Segment). TellsStrip o (frame_of standard_limits s) (picture_so_far standard_limits s b.contents)) (sym one.0) limited)

-- so that reading can go on
pub goes_on : {keeping : Copying} (from s : RowsFront) (start now : DeskState) (head : StripHead) {early : Option ℕ} → keeping_of ((from.reader).value).file ≡ keeping
    → ((all : List ℕ) (b : HasBegunRows all (s.reader).value) → TellsStrip (Some head) (frame_of ((s.reader).value).limits b.before) (picture_read all (s.reader).value b))
    → OnlyReads start now → (bytes : List ℕ) → Consumes start.left now.left bytes → length bytes ≤ standard_limits.input → KeepsReading (from.reader).value (s.reader).value → HoldsRows early bytes s → HasBegun keeping head s start now
goes_on from s start now head kept told reads bytes read most keeps h = record {
  kept = reads;
  limits = keeps.limits;
  in_rows = keeps.in_rows;
  keeps = keeps.keeping ∙ kept;
  bytes = bytes;
  read = read;
  most = most;
  head = h.head;
  told = (let b = begun_there h in head_is (Some head) keeps.limits h.at.begins b.0 b.1 b.2 b.3 (told b.0 b.3));
  at = h.at;
  some = h.some;
}

-- as the reader is seen
pub told_at : (r q : ReaderState) (o : Option StripHead) → r ≡ q → ((all : List ℕ) (b : HasBegunRows all r) → TellsStrip o (frame_of r.limits b.before) (picture_read all r b))
    → (all : List ℕ) (b : HasBegunRows all q) → TellsStrip o (frame_of q.limits b.before) (picture_read all q b)
told_at r q o e told = subst (λ (x : ReaderState). (all : List ℕ) (b : HasBegunRows all x) → TellsStrip o (frame_of x.limits b.before) (picture_read all x b)) e told

-- FROM THE NAME
pub moved_read : (choice : Choice) (s0 s1 s2 : DeskState) (file : Name) (answer : Result (MovedInput × Option ℕ) Why) → Opens s0 file put.Done s1 → OnlyReads s1 s2 → EndsMoved choice s1 answer s2 → MovedRead choice file s0 answer s2
moved_read choice s0 s1 s2 file (Ok found) opens reads ends =
    (ends.0, ends.1, meaning_read (picture_judging Coefficients) choice.copying s0 s1 s2 file (Ok (ends.0, found.1)) opens reads ends.2)
moved_read choice s0 s1 s2 file (Err w) opens reads ends = meaning_read (picture_judging Coefficients) choice.copying s0 s1 s2 file (Err w) opens reads ends
