-- The image of a file that ended early is completed: with the current MCU row, if one is missing, and then with zero
-- rows.
use Rattle.std.proofs.Common.{◌≡◌, ℕ, ◌+◌, ◌*◌, ◌<◌, ◌≤◌, true, false, List, [], ◌++◌, refl, sym, ap, ◌∙◌, subst, arith, inl, inr, ◌⊎◌, Option, Some, None, Result, Ok, Err}
use Rattle.std.specs.Prelude.{◌==◌, IfOk}
use Rattle.std.proofs.lemmas.Bool.{cases_lt}
use Rattle.std.proofs.lemmas.List.{append_assoc, append-nil, length-append}
use Rattle.jpg_base.specs.Desk.{DeskState}
use Rattle.jpg_spec.specs.Early.{MeansEarly}
use Rattle.jpg_spec.specs.Elements.{zeros}
use Rattle.jpg_spec.specs.FileMeaning.{no_blocks}
use Rattle.jpg_spec.specs.Geometry.{Frame, bounds, mcu_row_frame, padded_blocks}
use Rattle.jpg_spec.specs.InForce.{frame_of}
use Rattle.jpg_spec.specs.Markers.{Segment}
use Rattle.jpg_spec.specs.Meaning.{Meaning}
use Rattle.jpg_spec_image.specs.Pixels.{out_fault}
use Rattle.jpg_spec.specs.Ranges.{AreInRange}
use Rattle.jpg_spec.specs.RowLaws.{EndsEarlyByRows}
use Rattle.jpg_spec_image.specs.RowsShown.{rows_text}
use Rattle.jpg_spec.specs.RowsParsed.{BeginsScanOfAll, CompletesRows}
use Rattle.jpg_spec.specs.Scan.{Blocks}
use Rattle.jpg_spec.specs.Segments.{standard_limits}
use Rattle.jpg_spec_image.specs.Strips.{mcu_rows}
use Rattle.jpg_spec.specs.declared.fault.Fault.{Fault}
use Rattle.jpg_spec.specs.declared.frame.Limits.{Limits}
use Rattle.jpg_spec_image.specs.declared.image.EndKind.{EndKind}
use Rattle.jpg_spec.proofs.Basics.Common.{same_itself, same_of}
use Rattle.jpg_spec.proofs.McuRows.RowsHeader.{begun_once}
use Rattle.jpg_spec.proofs.McuRows.RowsOnce.{rows_once}
use Rattle.jpg_spec_image.proofs.ShownAlike.{shown_alike}
use Rattle.jpg_coefs.specs.Picture.{Picture as Coefs, map_of}
use Rattle.jpg_coefs.proofs.Maps.{blank_is}
use Rattle.jpg_seq.specs.Reader.{rows_in_mcu}
use Rattle.jpg_file.specs.Read.ReadFile.{AgreeInRows, LendsRow}
use Rattle.jpg_file.specs.Read.InData.{unfinished, zero_picture}
use Rattle.jpg_file.specs.Read.Strips.{rows_of_scan}
use Rattle.jpg_file.specs.declared.read.rows.RowWork.{RowWork}
use Rattle.jpg_pnm_bmp.specs.EndState.{EndState}
use Rattle.jpg_color.specs.DecodeRows.{SendsImage}
use Rattle.jpg_color.specs.Shown.{Display, IsNextRowDue, IsMcuRow, all_rows, zero_row}
use Rattle.jpg_color.specs.StripImage.{Drawing, DrawsMore, DrawsRow, EndsDrawing, IsDrawnTo, IsAllGiven, TextsJoin, next_text, rest_text}
use Rattle.jpg_color.specs.declared.decode.DecodeStop.{DecodeStop}
use Rattle.jpg_color.proofs.Drawn.{all_same}
use Rattle.jpg_color.proofs.DrawnLaws.{drawn_alike, texts_join}
use Rattle.jpg_desk.specs.Reading.{rest_of}
use Rattle.jpg_cli.specs.Tools.Showing.{Showing, Shown, shown_text}
use Rattle.jpg_cli.specs.Tools.ShowingRows.{CanEndInZeros, HasShownEarly, Head, IsEnding, warned_of, why_of, Run, Work}
use Rattle.jpg_cli.proofs.ByRow.EarlyImage.{early_image}
use Rattle.jpg_cli.proofs.ByRow.EarlyRows.{early_first, early_text, rows_of_picture}
use Rattle.jpg_cli.proofs.Pieces.FirstRead.{not_shown}
use Rattle.jpg_cli.proofs.Encoding.ImageStopped.{IsImageText, image_stopped, image_whole}
use Rattle.jpg_cli.proofs.ByRow.RowsAgree.{row_shown}
use Rattle.jpg_cli.proofs.ByRow.RowsDesk.{created_more}
use Rattle.jpg_cli.proofs.ByRow.RowsEnd.{shown_head}
use Rattle.jpg_cli.proofs.ByRow.RowsWhole.{few_told, so_far}
use Rattle.jpg_color.proofs.GrayRows.{blank_range}

-- AT ITS BEGINNING all MCU rows that were passed have been drawn

module _ {s : Showing} {run : Run} {work : Work} {m n : ℕ} where
  -- it is the scan of that header
  early_head : (k : HasShownEarly s run m n work)
      → (((k.done).begun).before ≡ (run.head).before) × (((k.done).begun).contents ≡ (run.head).contents)
  early_head k =
      let b = (k.done).begun in
      begun_once standard_limits run.all b.before (run.head).before b.contents (run.head).contents (subst (λ (l : Limits). BeginsScanOfAll l run.all b.before b.contents) k.limits b.begins) (k.head).begins

  early_frame : (k : HasShownEarly s run m n work)
      → frame_of (work.reader).limits ((k.done).begun).before ≡ frame_of standard_limits (run.head).before
  early_frame k =
      ap (λ (l : Limits). frame_of l ((k.done).begun).before) k.limits ∙ ap (frame_of standard_limits) (early_head k).0

  early_count : (k : HasShownEarly s run m n work)
      → rows_of_scan (work.reader).limits ((k.done).begun).before ((k.done).begun).contents ≡ mcu_rows (so_far run.head ((k.done).meaning).blocks)
  early_count k =
      let b = (k.done).begun in
      let one = early_head k in
      ap (λ (l : Limits). rows_of_scan l b.before b.contents) k.limits ∙ ap (λ (x : List Segment). rows_of_scan standard_limits x b.contents) one.0 ∙ ap (rows_of_scan standard_limits (run.head).before) one.1
      ∙ sym (rows_of_picture run.head run.all ((k.done).meaning).blocks (k.head).begins)

  pub ending_begins : HasShownEarly s run m n work
      → IsEnding s run n 1 work.image work.end work.now
  ending_begins k = record {
    rows = m;
    written = k.written;
    meaning = M;
    read = record { early = early; count = k.count; small = k.small; wanted = wanted (out_fault s.gray M) refl };
    short = k.short;
    head = k.head;
    few = few_told run.head run.all m B M.blocks begins_here (k.drawing).told;
    later = λ i x y low. (k.done).later i x y (subst (λ (g : Frame). (m + 1) * rows_in_mcu g i ≤ y) (sym (early_frame k)) low);
    kind = (k.drawing).kind;
    framed = (k.drawing).framed;
    given = (k.drawing).given;
    end = (k.drawing).end;
    drawn = drawn_alike (so_far run.head B) (so_far run.head M.blocks) s.gray s.smooth m (early_first run.head begins_here agree) work.image work.end (k.drawing).drawn;
    text = (k.drawing).text ∙ early_text s.smooth s.kind k.head (k.drawing).told agree;
    image = early_image standard_limits run.all M s.kind s.gray s.smooth w;
    desk = k.desk;
    early = k.early;
    ended = k.ended;
  }
    where
      M : Meaning
      M = (k.done).meaning

      B : Blocks
      B = (k.drawing).blocks

      begins_here : BeginsScanOfAll standard_limits run.all (run.head).before (run.head).contents
      begins_here = (k.head).begins

      early : MeansEarly standard_limits run.all (k.done).meaning
      early = subst (λ (l : Limits). MeansEarly l run.all M) k.limits (k.done).early

      w : EndsEarlyByRows standard_limits run.all (k.done).meaning
      w = record { early = early; before = (run.head).before; contents = (run.head).contents; begins = begins_here }

      same : (k.drawing).blocks ≡ (k.done).blocks
      same = rows_once standard_limits run.all m B (k.done).blocks (k.drawing).told (subst (λ (l : Limits). CompletesRows l run.all m (k.done).blocks) k.limits (k.done).completed).0

      agree : AgreeInRows (frame_of standard_limits (run.head).before) m (k.drawing).blocks (k.done).meaning.blocks
      agree = subst (λ (x : Blocks). AgreeInRows (frame_of standard_limits (run.head).before) m x M.blocks) (sym same) (subst (λ (x : Frame). AgreeInRows x m (k.done).blocks M.blocks) (early_frame k) (k.done).given)

      wanted : (o : Option Fault) → out_fault s.gray (k.done).meaning ≡ o → out_fault s.gray (k.done).meaning ≡ None
      wanted None is = is
      wanted (Some fault) is = let t = (shown_alike standard_limits s.gray run.all M (inr early)).told fault is in absurd (not_shown s.gray run.all t.0 t.1 (shown_head k.head))

-- WHETHER all rows were drawn

not_all : (a b : ℕ) → a ≤ b → (a == b) ≡ false → a < b
not_all a b le e = by (cases_lt a b)
  where
    clash : true ≡ false → ⊥
    clash t = cc

    by : (a < b) ⊎ (b ≤ a) → a < b
    by (inl lt) = lt
    by (inr ge) = (let same : b ≡ a = omega (arith, le, ge) in absurd (clash (sym (same_itself a) ∙ ap (λ n. a == n) (sym same) ∙ e)))

module _ {s : Showing} {run : Run} {n gap : ℕ} {d : Drawing} {e : EndState} {now : DeskState} where
  pub ending_due : IsEnding s run n gap d e now
      → (d.strips.pushed == all_rows d.strips.display) ≡ false → IsNextRowDue d.strips
  ending_due k some =
      let P = so_far run.head (k.meaning).blocks in
      let all_are : all_rows d.strips.display ≡ mcu_rows P = all_same d P s.gray s.smooth (k.drawn).image in
      let pushed : d.strips.pushed ≡ k.rows = (k.drawn).pushed in
      let few : k.rows ≤ mcu_rows P = k.few in
      record { given = k.given; missing = not_all d.strips.pushed (all_rows d.strips.display) (omega (arith, all_are, pushed, few)) some }

  pub ending_whole : IsEnding s run n gap d e now
      → (d.strips.pushed == all_rows d.strips.display) ≡ true → IsAllGiven d.strips
  ending_whole k none = record { given = k.given; all = same_of d.strips.pushed (all_rows d.strips.display) none }

-- THE NEXT ROW: the current one, which is lent

one_left : (m u all n p full : ℕ) → all ≡ n → m + u ≡ all → p ≡ m → full ≡ n → p < full → 1 ≤ u
one_left m u all n p full same count drawn whole lt = omega (arith, same, count, drawn, whole, lt)

module _ {s : Showing} {run : Run} {work : Work} {m n : ℕ} where
  pub work_lends : {q : Coefs} → (k : HasShownEarly s run m n work) → IsNextRowDue (work.image).strips
      → ((rows : RowWork) → (work.reader).rows ≡ Some rows → q ≡ rows.coefs) → LendsRow (frame_of standard_limits (run.head).before) m q ((k.done).meaning).blocks
  unfolding ending_begins
  work_lends k due lent =
      let b = (k.done).begun in
      let begins = ending_begins k in
      let all_are = all_same work.image (so_far run.head ((k.done).meaning).blocks) s.gray s.smooth (begins.drawn).image in
      let some : 1 ≤ unfinished b.rows =
      one_left m (unfinished b.rows) (rows_of_scan (work.reader).limits b.before b.contents) (mcu_rows (so_far run.head ((k.done).meaning).blocks)) (work.image).strips.pushed (all_rows (work.image).strips.display) (early_count k)
      (k.done).rows (begins.drawn).pushed all_are due.missing in
      subst (λ (c : Coefs). LendsRow (frame_of standard_limits (run.head).before) m c ((k.done).meaning).blocks) (sym (lent b.rows b.has))
      (subst (λ (x : Frame). LendsRow x m (b.rows).coefs ((k.done).meaning).blocks) (early_frame k) ((k.done).work some))

  pub work_has : HasShownEarly s run m n work → (rows : RowWork) × ((work.reader).rows ≡ Some rows)
  work_has k = (((k.done).begun).rows, ((k.done).begun).has)

module _ {s : Showing} {run : Run} {n gap : ℕ} {d : Drawing} {e : EndState} {now : DeskState} where
  pub ending_framed : {q : Coefs} → (k : IsEnding s run n gap d e now)
      → LendsRow (frame_of standard_limits (run.head).before) k.rows q (k.meaning).blocks → IsMcuRow d.strips.display.frame q
  ending_framed {q} k lent = record { frame = lent.framed ∙ ap mcu_row_frame (sym k.framed); range = subst (λ (x : Frame). AreInRange (bounds x) (map_of q)) (sym k.framed) lent.range }

pub work_framed : {s : Showing} {run : Run} {work : Work} {m n : ℕ} {q : Coefs} → HasShownEarly s run m n work → IsNextRowDue (work.image).strips
    → ((rows : RowWork) → (work.reader).rows ≡ Some rows → q ≡ rows.coefs) → IsMcuRow (work.image).strips.display.frame q
unfolding ending_begins
work_framed k due lent =
    ending_framed (ending_begins k) (work_lends k due lent)

-- OR ONE OF ZERO BLOCKS

blank : (f : Frame) → map_of (zero_picture f) ≡ no_blocks
blank f = blank_is (zero_picture f) (padded_blocks f) refl

at_least : (a y : ℕ) → a ≤ a + y
at_least a y = omega arith

no_gap : (m b y : ℕ) → m * b ≤ y → (m + 0) * b ≤ y
no_gap m b y l = omega (arith, l)

pub zeros_lend : {s : Showing} {run : Run} {n : ℕ} {d : Drawing} {e : EndState} {now : DeskState} (k : IsEnding s run n 0 d e now)
    → LendsRow (frame_of standard_limits (run.head).before) k.rows (zero_row d.strips.display) (k.meaning).blocks
zeros_lend {run} {d} k =
    let f = frame_of standard_limits (run.head).before in
    let q = zero_row d.strips.display in
    record {
      framed = ap mcu_row_frame k.framed;
      range = subst (λ (b : Blocks). AreInRange (bounds f) b) (sym (blank (mcu_row_frame d.strips.display.frame))) (blank_range f);
      row = record {
        same = λ i x y lt wide high down. ap (λ (b : Blocks). b i x y) (blank (mcu_row_frame d.strips.display.frame))
            ∙ sym (k.later i x (k.rows * rows_in_mcu f i + y) (no_gap k.rows (rows_in_mcu f i) (k.rows * rows_in_mcu f i + y) (at_least (k.rows * rows_in_mcu f i) y)));
      };
    }

-- WHAT IT ADDS

pub record IsMoreEnding (s : Showing) (h : Head) (m : ℕ) (M : Meaning) (written : List ℕ) (d : Drawing) (e : EndState) (s0 : DeskState) (result : Result (Unit {0}) DecodeStop) (new : Drawing) (new_end : EndState) (s1 : DeskState) : Type 0 where
  pub due : List ℕ
  pub others : List ℕ
  pub more : DrawsMore s0 d e (so_far h M.blocks) s.gray s.smooth m result new new_end s1
  pub sent : SendsImage s0 d.out due result new.out s1
  pub text : written ++ (d.out ++ due) ≡ rows_text s.kind (so_far h M.blocks) s.gray s.smooth (m + 1)
  pub all : written ++ ((d.out ++ due) ++ others) ≡ shown_text s M

module _ {s : Showing} {run : Run} {n gap : ℕ} {d : Drawing} {e : EndState} {s0 : DeskState} {q : Coefs} where
  pub more_ending : {result : Result (Unit {0}) DecodeStop} {new : Drawing} {new_end : EndState} {s1 : DeskState} → (k : IsEnding s run n gap d e s0) → IsNextRowDue d.strips → LendsRow (frame_of standard_limits (run.head).before) k.rows q (k.meaning).blocks → DrawsRow s0 d e q result new new_end s1
      → IsMoreEnding s run.head k.rows k.meaning k.written d e s0 result new new_end s1
  more_ending {result} {new} {new_end} {s1} k due lent draws = record {
    due = next;
    others = (join.part (k.rows + 1)).0;
    more = more;
    sent = subst (λ (kind : EndKind). SendsImage s0 d.out (next_text kind P s.gray s.smooth k.rows) result new.out s1) k.kind more.sent;
    text = text;
    all = sym (append_assoc k.written (d.out ++ next) (join.part (k.rows + 1)).0) ∙ ap (λ l. l ++ (join.part (k.rows + 1)).0) text ∙ (join.part (k.rows + 1)).1 ∙ k.image;
  }
    where
      P : Meaning
      P = so_far run.head (k.meaning).blocks

      more : DrawsMore s0 d e (so_far run.head (k.meaning).blocks) s.gray s.smooth k.rows result new new_end s1
      more = draws.drawn P s.gray s.smooth k.rows k.drawn (row_shown run.head ((k.drawn).image).showable k.framed (k.head).begins lent.row)

      next : List ℕ
      next = next_text s.kind P s.gray s.smooth k.rows

      join : TextsJoin s.kind (so_far run.head (k.meaning).blocks) s.gray s.smooth
      join = texts_join d P s.gray s.smooth s.kind (k.drawn).image

      few : k.rows < mcu_rows (so_far run.head (k.meaning).blocks)
      few =
          (let all_are : all_rows d.strips.display ≡ mcu_rows P = all_same d P s.gray s.smooth (k.drawn).image in
          let pushed : d.strips.pushed ≡ k.rows = (k.drawn).pushed in
          let missing : d.strips.pushed < all_rows d.strips.display = due.missing in
          omega (arith, all_are, pushed, missing))

      text : k.written ++ (d.out ++ next) ≡ rows_text s.kind (so_far run.head (k.meaning).blocks) s.gray s.smooth (k.rows + 1)
      text = sym (append_assoc k.written d.out next) ∙ ap (λ l. l ++ next) k.text ∙ join.more k.rows few

-- WHERE NOT ALL OF IT WAS WRITTEN

module _ {s : Showing} {run : Run} {n gap : ℕ} {d : Drawing} {e : EndState} {s0 : DeskState} {q : Coefs} where
  pub ending_stopped : {new : Drawing} {new_end : EndState} {s1 : DeskState} {ended : DecodeStop} → (k : IsEnding s run n gap d e s0)
      → IsNextRowDue d.strips → LendsRow (frame_of standard_limits (run.head).before) k.rows q (k.meaning).blocks → DrawsRow s0 d e q (Err ended) new new_end s1 → Shown s run.old (why_of (Err ended)) s1
  ending_stopped {ended} k due lent draws =
      let w = more_ending k due lent draws in
      image_stopped {M = k.meaning} {early = Some n} ended (record { same = w.all; in_time = k.early; desk = k.desk; most = (let short = k.short in omega (arith, short)); means = k.read; left = k.ended }) w.sent

-- IT WAS DRAWN

-- All blocks of the MCU rows after it are zero.
abbrev AreZeroFrom : Head → ℕ → Blocks → Type 0
AreZeroFrom h m blocks = (i x y : ℕ) → m * rows_in_mcu (frame_of standard_limits h.before) i ≤ y → blocks i x y ≡ zeros 64

module _ {s : Showing} {run : Run} {n gap : ℕ} {d : Drawing} {e : EndState} {s0 : DeskState} {q : Coefs} where
  pub ending_drawn : {new : Drawing} {new_end : EndState} {s1 : DeskState} → (k : IsEnding s run n gap d e s0) → IsNextRowDue d.strips
      → LendsRow (frame_of standard_limits (run.head).before) k.rows q (k.meaning).blocks → AreZeroFrom run.head (k.rows + 1) (k.meaning).blocks → DrawsRow s0 d e q (Ok tt) new new_end s1 → IsEnding s run n 0 new new_end s1
  ending_drawn {new} {new_end} {s1} k due lent zero draws = record {
    rows = k.rows + 1;
    written = k.written ++ gone;
    meaning = k.meaning;
    read = k.read;
    short = k.short;
    head = k.head;
    few =
        (let all_are : all_rows d.strips.display ≡ mcu_rows (so_far run.head (k.meaning).blocks) = all_same d (so_far run.head (k.meaning).blocks) s.gray s.smooth (k.drawn).image in
        let pushed : d.strips.pushed ≡ k.rows = (k.drawn).pushed in
        let missing : d.strips.pushed < all_rows d.strips.display = due.missing in
        omega (arith, all_are, pushed, missing));
    later = λ i x y low. zero i x y (gap_gone (k.rows + 1) (rows_in_mcu (frame_of standard_limits (run.head).before) i) y low);
    kind = (draws.goes_on).kind ∙ k.kind;
    framed = ap (λ (x : Display). x.frame) draws.display ∙ k.framed;
    given = (draws.goes_on).given;
    end = (draws.goes_on).end;
    drawn = (w.more).drawn;
    text = append_assoc k.written gone new.out ∙ ap (λ l. k.written ++ l) (sym ((w.sent).bytes).2) ∙ w.text;
    image = k.image;
    desk = created_more gone k.desk (w.sent).only ((w.sent).bytes).1;
    early = λ front rest other cut many shown. (let l = k.early front rest other cut many shown in omega (arith, l, length-append k.written gone));
    ended = ap rest_of ((w.sent).only).left ∙ k.ended;
  }
    where
      w : IsMoreEnding s run.head k.rows k.meaning k.written d e s0 (Ok tt) new new_end s1
      w = more_ending k due lent draws

      gone : List ℕ
      gone = ((w.sent).bytes).0

      gap_gone : (m b y : ℕ) → (m + 0) * b ≤ y → m * b ≤ y
      gap_gone m b y l = omega (arith, l)

module _ {s : Showing} {run : Run} {work : Work} {m n : ℕ} where
  -- by the answer: after the current row, and after one of zero blocks
  pub work_then : {new : Drawing} {new_end : EndState} {s1 : DeskState} {q : Coefs} {result : Result (Unit {0}) DecodeStop} {u : Unit {0}} → result ≡ Ok u
      → (k : HasShownEarly s run m n work) → IsNextRowDue (work.image).strips → ((rows : RowWork) → (work.reader).rows ≡ Some rows → q ≡ rows.coefs) → DrawsRow work.now work.image work.end q result new new_end s1 → IsEnding s run n 0 new new_end s1
  unfolding ending_begins
  work_then {new} {new_end} {s1} {q} done k due lent draws =
      let begins = ending_begins k in
      ending_drawn begins due (work_lends k due lent) begins.later
      (subst (λ (x : Result (Unit {0}) DecodeStop). DrawsRow work.now work.image work.end q x new new_end s1) done draws)

  pub work_stopped : {new : Drawing} {new_end : EndState} {s1 : DeskState} {q : Coefs} {ended : DecodeStop} → HasShownEarly s run m n work → IsNextRowDue (work.image).strips → ((rows : RowWork) → (work.reader).rows ≡ Some rows → q ≡ rows.coefs) → DrawsRow work.now work.image work.end q (Err ended) new new_end s1
      → Shown s run.old (why_of (Err ended)) s1
  unfolding ending_begins
  work_stopped k due lent draws =
      ending_stopped (ending_begins k) due (work_lends k due lent) draws

-- Whatever was read and drawn before, some zero rows were drawn since.
pub zeros_still : {d new : Drawing} {e new_end : EndState} {s0 s1 : DeskState} (k : CanEndInZeros d e s0)
    → ((s : Showing) (run : Run) (n : ℕ) → IsEnding s run n 0 d e s0 → IsEnding s run n 0 new new_end s1) → IsEnding k.asked k.run k.count 0 new new_end s1
zeros_still k shows = shows k.asked k.run k.count k.ending

more_rows : (a b y : ℕ) → (a + 1) * b ≤ y → (a + 0) * b ≤ y
more_rows a b y l = (let e : (a + 1) * b ≡ a * b + b = grind arith in omega (arith, e, l))

module _ {s : Showing} {run : Run} {n : ℕ} {d : Drawing} {e : EndState} {now : DeskState} where
  pub zeros_then : {new : Drawing} {new_end : EndState} {s1 : DeskState} {result : Result (Unit {0}) DecodeStop} {u : Unit {0}} → result ≡ Ok u
      → (k : IsEnding s run n 0 d e now) → IsNextRowDue d.strips → DrawsRow now d e (zero_row d.strips.display) result new new_end s1 → IsEnding s run n 0 new new_end s1
  zeros_then {new} {new_end} {s1} done k due draws =
      ending_drawn k due (zeros_lend k)
      (λ i x y low. k.later i x y (more_rows k.rows (rows_in_mcu (frame_of standard_limits (run.head).before) i) y low))
      (subst (λ (x : Result (Unit {0}) DecodeStop). DrawsRow now d e (zero_row d.strips.display) x new new_end s1) done draws)

-- ITS END

module _ {s : Showing} {old start : DeskState} {M : Meaning} {n : ℕ} {all written : List ℕ} where
  early_ended : {out due new : List ℕ} (result : Result (Unit {0}) DecodeStop) {s0 s1 : DeskState} → IsImageText s old start M (Some n) all written (out ++ due) [] s0
      → SendsImage s0 out due result new s1 → IfOk result (λ u. new ≡ []) → Shown s old (warned_of result n) s1
  early_ended (Ok u) h sent none = let whole = image_whole h sent none in (M, (whole.0, whole.1, tt))
  early_ended (Err ended) h sent none = image_stopped ended h sent

module _ {s : Showing} {run : Run} {n gap : ℕ} {d : Drawing} {e : EndState} {now : DeskState} where
  pub early_finished : {result : Result (Unit {0}) DecodeStop} {new : Drawing} {new_end : EndState} {s1 : DeskState} → EndsDrawing now d e result new new_end s1 → (d.strips.pushed == all_rows d.strips.display) ≡ true → IsEnding s run n gap d e now → Shown s run.old (warned_of result n) s1
  early_finished {result} {new} {s1} ends none k =
      let P = so_far run.head (k.meaning).blocks in
      let rows : k.rows ≡ mcu_rows P = sym (k.drawn).pushed ∙ same_of d.strips.pushed (all_rows d.strips.display) none ∙ all_same d P s.gray s.smooth (k.drawn).image in
      let drawn = subst (λ m. IsDrawnTo d e P s.gray s.smooth m) rows k.drawn in
      let rest = rest_text s.kind P s.gray s.smooth in
      let sent = subst (λ (kind : EndKind). SendsImage now d.out (rest_text kind P s.gray s.smooth) result new.out s1) k.kind (ends.drawn P s.gray s.smooth drawn) in
      let join = texts_join d P s.gray s.smooth s.kind (k.drawn).image in
      let text : k.written ++ ((d.out ++ rest) ++ []) ≡ shown_text s k.meaning =
      ap (λ l. k.written ++ l) (append-nil (d.out ++ rest)) ∙ sym (append_assoc k.written d.out rest) ∙ ap (λ l. l ++ rest) (k.text ∙ ap (λ m. rows_text s.kind P s.gray s.smooth m) rows) ∙ join.whole ∙ k.image in
      early_ended result (record { same = text; in_time = k.early; desk = k.desk; most = (let short = k.short in omega (arith, short)); means = k.read; left = k.ended }) sent ends.out
