-- An input whose image is written, piece by piece, over the states of a desk.
use Rattle.std.proofs.Common.{◌≡◌, ℕ, ◌<◌, ◌≤◌, Bool, true, false, List, [], ◌++◌, length, refl, sym, ap, ◌∙◌, subst, arith, inl, inr, Option, None, Some, Result, Ok, Err}
use Rattle.jpg_base.specs.declared.names.Put.TheVariants as put
use Rattle.jpg_base.specs.declared.stop.Stop.{Stop}
use Rattle.jpg_base.specs.declared.stop.Stop.TheVariants as stop
use Rattle.jpg_base.specs.Desk.{DeskState, Opens}
use Rattle.jpg_base.specs.Laws.{Consumes-then}
use Rattle.jpg_huff.specs.Out.{OnlyWrites}
use Rattle.jpg_spec.specs.Segments.{standard_limits}
use Rattle.jpg_spec.specs.declared.frame.Limits.{Limits}
use Rattle.jpg_spec_words.specs.declared.answers.Why.{Why}
use Rattle.jpg_spec_words.specs.declared.answers.Why.TheVariants as why
use Rattle.jpg_spec_words.specs.declared.answers.Which.TheVariants as which
use Rattle.jpg_file.specs.Read.PictureRead.{TakesEarly, TakesPicture}
use Rattle.jpg_file.specs.Read.ReadFile.{ReaderState, StopsAt, EndsRow, HasReadPlainly}
use Rattle.jpg_file.specs.Read.Strips.{HasNoRows}
use Rattle.jpg_file.specs.declared.read.ends.End.TheVariants as ends
use Rattle.jpg_file.specs.declared.read.pieces.FedRow.{FedRow}
use Rattle.jpg_file.specs.declared.read.picture.Picture.{Picture}
use Rattle.jpg_pnm_bmp.specs.EndState.{EndState, new_end}
use Rattle.jpg_color.specs.StripImage.{Drawing}
use Rattle.jpg_color.specs.declared.decode.DecodeStop.{DecodeStop}
use Rattle.jpg_desk.specs.Pump.{AfterFeed, EndsAll, IsFed, ReadsEnd, ReadsPiece, ended_as, why_stopped}
use Rattle.jpg_desk.specs.Reading.{rest_of}
use Rattle.jpg_desk.specs.ReadPicture.{IsRefusedRead, Image}
use Rattle.jpg_desk.specs.Stays.{OnlyReads, OnlyWorks}
use Rattle.jpg_words.specs.declared.djpeg_request.ShowWords.{ShowWords}
use Rattle.jpg_cli.specs.Tools.Showing.{AfterPicture, IsShownByRows, Showing, Shown, showing_view}
use Rattle.jpg_cli.specs.Tools.ShowingRows.{AfterFirst, AfterShownPiece, Begins, BeginsShownRows, CanBegin, CanDrawPiece, CanEnd, CanReadRows, Draws, DrawsNext, EndsShower, FinishesEarly, HasFedPlainly, HasOpened, HasShownEarly, Head, HoldsEarlyPlainly, HoldsImage, HoldsPlainly, IsOpened, IsShower, ReadsNext, Run, Shower, TakesFirst, at_work, show_kind, warned_of}
use Rattle.jpg_cli.specs.declared.tools.djpeg.FirstStep.{FirstStep}
use Rattle.jpg_cli.specs.declared.tools.djpeg.FirstStep.TheVariants as step
use Rattle.jpg_desk.proofs.Input.{none_left}
use Rattle.jpg_desk.proofs.PiecesRead.{left_still, none_read, reads_none, reads_then, works_then}
use Rattle.jpg_desk.proofs.PictureBytes.{fed_none, open_so_far}
use Rattle.jpg_cli.proofs.ByRow.RowHeads.{shown_before}
use Rattle.jpg_cli.proofs.ByRow.RowsAsked.{ended_early, rows_at_end, rows_short, rows_unread}
use Rattle.jpg_cli.proofs.ByRow.RowsDesk.{writes_work}
use Rattle.jpg_cli.proofs.Pieces.FirstRead.{end_early, end_refused, read_all}
use Rattle.jpg_cli.proofs.Pieces.FirstShown.{IsTaken, cut_taken, plain_refused, plain_short, plain_unread, taken_shown, whole_taken}

-- WHAT WAS READ of the input, with one more piece

opened_more : {s : Showing} {old start : DeskState} {bytes piece : List ℕ} {s0 s1 : DeskState} → HasOpened s old start bytes s0 → ReadsPiece s0 piece s1 → HasOpened s old start (bytes ++ piece) s1
opened_more {start} {bytes} {piece} {s0} {s1} h r = record { opened = h.opened; reads = reads_then h.reads r.kept; left = Consumes-then start.left s0.left s1.left bytes piece h.left r.read }

-- or with nothing more
opened_still : {s : Showing} {old start : DeskState} {bytes : List ℕ} {s0 s1 : DeskState} → HasOpened s old start bytes s0 → OnlyReads s0 s1 → s1.left ≡ s0.left → HasOpened s old start bytes s1
opened_still {start} {bytes} {s0} {s1} h kept left = record { opened = h.opened; reads = reads_then h.reads kept; left = left_still s0 s1 bytes start left h.left }

-- no scan of all components in these bytes
none_shown : (gray : Bool) (bytes : List ℕ) → HasNoRows standard_limits bytes → IsShownByRows gray bytes → ⊥
none_shown gray bytes none h = none h.before h.contents h.begins

-- SINCE THE INPUT WAS OPENED, with one more read

module _ {from : Shower × DeskState} {bytes : List ℕ} {v : Shower} {s0 s1 : DeskState} (was : IsShower from bytes (v, s0)) (kept : OnlyReads s0 s1) where
  abbrev asked : Showing
  asked = showing_view v.words

  -- by whether the image is there
  held : {image : Option Drawing} → v.image ≡ image → (o : DeskState) → Opens o asked.input put.Done from.1 → HoldsImage image asked o from.1 bytes v s0
  held is o h = subst (λ (x : Option Drawing). HoldsImage x asked o from.1 bytes v s0) is (was.holds o h)

  pub undone : v.reader.done ≡ false
  undone = by v.image (was.holds was.some.0 was.some.1)
    where
      by : (image : Option Drawing) → HoldsImage image asked was.some.0 from.1 bytes v s0 → v.reader.done ≡ false
      by None h = h.0.fed.read.undone
      by (Some d) h = h.2.read.undone

  pub new_plain : v.image ≡ None → v.end ≡ new_end v.words.kind
  new_plain none = (held none was.some.0 was.some.1).1

  since : {s2 : DeskState} → OnlyWorks s1 s2 → OnlyWorks from.1 s2
  since works = works_then was.works (works_then kept.copies.works works)

  -- whatever desk it was opened on
  ends_as : (answer : Result (Option ℕ) Why) (n : Shower) (s2 : DeskState) → n.words ≡ v.words → OnlyWorks s1 s2 → ((o : DeskState) → Opens o asked.input put.Done from.1 → Shown asked o (ended_as answer) s2) → EndsShower from answer (n, s2)
  ends_as answer n s2 same works shows = record {
    same = same ∙ was.same;
    works = since works;
    shown = subst (λ (x : ShowWords). (o : DeskState) → Opens o x.files.input put.Done from.1 → Shown (showing_view x) o (ended_as answer) s2) (sym same) shows;
  }

  -- as the image of the picture that was taken was written
  pub taken_ended : {early : Option ℕ} {r : ReaderState} {p : Picture} → v.image ≡ None → IsTaken asked early from.1 s1 r p → (answer : Result (Option ℕ) Why) (n : Shower) (s2 : DeskState) → n.words ≡ v.words → OnlyWorks s1 s2 → s2.left ≡ s1.left → AfterPicture v.words p early s1 (ended_as answer) s2
      → EndsShower from answer (n, s2)
  taken_ended {early} {r} {p} none t answer n s2 same works left wrote =
      ends_as answer n s2 same works (λ o h. taken_shown asked early o from.1 s1 s2 r p (ended_as answer) h (reads_then (held none o h).2.reads kept) t left wrote)

-- A PIECE

-- the result, and what takes the pieces then
abbrev AfterShower : Shower × DeskState → List ℕ → Result Bool Why → Shower × DeskState → Type 0
AfterShower from bytes (Ok false) now = (length bytes < standard_limits.input) × IsShower from bytes now × (now.1.input_open ≡ true)
AfterShower from bytes (Ok true) now = EndsShower from (Ok None) now
AfterShower from bytes (Err w) now = EndsShower from (Err w) now

pub fed_as : {S : Type 0} (view : S → Shower) (from : S × DeskState) (bytes : List ℕ) (answer : Result Bool Why) (new : S) (s2 : DeskState) → AfterShower (view from.0, from.1) bytes answer (view new, s2) → AfterFeed (show_kind view) from bytes answer (new, s2)
fed_as view from bytes (Ok false) new s2 h = (record { short = h.0; fed = h.1 }, h.2)
fed_as view from bytes (Ok true) new s2 h = h
fed_as view from bytes (Err w) new s2 h = h

module _ {from : Shower × DeskState} {bytes piece : List ℕ} {v : Shower} {s0 s1 : DeskState} (was : IsShower from bytes (v, s0)) (reads : ReadsPiece s0 piece s1) (most : length (bytes ++ piece) ≤ standard_limits.input) where
  abbrev how : Showing
  how = showing_view v.words

  abbrev all : List ℕ
  all = bytes ++ piece

  abbrev run_of : DeskState → Head → List ℕ → Run
  run_of o h read = record { old = o; start = from.1; head = h; all = read }

  -- it was drawn
  drawn_as : (r : ReaderState) (d : Drawing) (e : EndState) (answer : Result Bool Why) (s2 : DeskState) → r.by_row ≡ true → OnlyWorks s1 s2 → s2.input_open ≡ s1.input_open
      → ((o : DeskState) → Opens o how.input put.Done from.1 → (h : Head) × AfterShownPiece how (run_of o h all) answer (at_work r d e s2)) → AfterShower from all answer (record { words = v.words; reader = r; image = Some d; end = e }, s2)
  drawn_as r d e (Ok false) s2 by_row works opened shows =
      let k = shows was.some.0 was.some.1 in (
        rows_short k.1.1,
        record { some = was.some; same = was.same; by_row = by_row; limits = k.1.1.limits; works = since was reads.kept works; holds = λ o h. (let k = shows o h in (k.0, k.1.0, k.1.1)) },
        opened ∙ reads.opened,
      )
  drawn_as r d e (Ok true) s2 by_row works opened shows = ends_as was reads.kept (Ok None) (record { words = v.words; reader = r; image = Some d; end = e }) s2 refl works (λ o h. (shows o h).1)
  drawn_as r d e (Err w) s2 by_row works opened shows = ends_as was reads.kept (Err w) (record { words = v.words; reader = r; image = Some d; end = e }) s2 refl works (λ o h. (shows o h).1)

  -- the image is there
  module _ {d : Drawing} (some : v.image ≡ Some d) where
    next : (o : DeskState) → Opens o how.input put.Done from.1 → (h : Head) × (m : ℕ) × ReadsNext how (run_of o h bytes) m piece (at_work v.reader d v.end s1)
    next o h = (let k = held was reads.kept some o h in (k.0, k.1, record { before = s0; shown = k.2; reads = reads; most = most }))

    pub can_next : CanReadRows piece (at_work v.reader d v.end s1)
    can_next =
        let o = was.some in
        let k = next o.0 o.1 in
        record { asked = how; run = run_of o.0 k.0 bytes; rows = k.1; next = k.2 }

    pub drawn_next : (r : ReaderState) (new : Drawing) (e : EndState) (answer : Result Bool Why) (s2 : DeskState) → r.by_row ≡ true → OnlyWrites s1 s2 → DrawsNext piece v.reader d v.end s1 answer r new e s2
        → AfterShower from all answer (record { words = v.words; reader = r; image = Some new; end = e }, s2)
    drawn_next r new e answer s2 by_row writes draws =
        drawn_as r new e answer s2 by_row (writes_work writes) writes.input_open (λ o h. (let k = next o h in (k.0, draws how (run_of o k.0 bytes) k.1 k.2)))

  -- or it isn't
  module _ (none : v.image ≡ None) where
    here : (o : DeskState) → Opens o how.input put.Done from.1 → HasOpened how o from.1 all s1
    here o h = opened_more (held was reads.kept none o h).2 reads

    first : (step : FirstStep) (r : ReaderState) → TakesFirst how.gray v.reader piece step r → AfterFirst how.gray bytes piece step r
    first step r takes = takes bytes (held was reads.kept none was.some.0 was.some.1).0 most

    pub first_more : (r : ReaderState) → r.by_row ≡ true → r.limits ≡ standard_limits → TakesFirst how.gray v.reader piece step.More r → AfterShower from all (Ok false) (record v { reader = r }, s1)
    first_more r by_row limits takes =
        let k = first step.More r takes in (
          k.fed.short,
          record {
            some = was.some;
            same = was.same;
            by_row = by_row;
            limits = limits;
            works = since was reads.kept (reads_none s1).copies.works;
            holds = λ o h. subst (λ (x : Option Drawing). HoldsImage x how o from.1 all (record v { reader = r }) s1) (sym none) (k, new_plain was reads.kept none, here o h);
          },
          reads.opened,
        )

    pub first_ended : (w : Why) (r : ReaderState) (n : Shower) → n.words ≡ v.words → TakesFirst how.gray v.reader piece (step.Ended w) r → EndsShower from (Err w) (n, s1)
    first_ended w r n same takes = ends_as was reads.kept (Err w) n s1 same (reads_none s1).copies.works (λ o h. by o w (first (step.Ended w) r takes) (here o h))
      where
        by : (o : DeskState) (w : Why) → AfterFirst how.gray bytes piece (step.Ended w) r → HasOpened how o from.1 all s1 → Shown how o w s1
        by o (why.Refused f) k h = plain_refused h most f (k.0 (rest_of s1.left)) k.1
        by o why.NoMemory k h = plain_short h most k
        by o other k h = absurd k

    -- the file is complete
    pub whole_read : (r : ReaderState) → TakesFirst how.gray v.reader piece step.Whole r → HoldsPlainly how.gray r all
    whole_read r takes = first step.Whole r takes

    pub whole_here : (r : ReaderState) (p : Picture) → r.limits ≡ standard_limits → TakesFirst how.gray v.reader piece step.Whole r → TakesPicture r p → IsTaken how None from.1 s1 r p
    whole_here r p limits takes took = whole_taken how from.1 s1 r p limits took (all, (here was.some.0 was.some.1).left, most, whole_read r takes)

    -- MCU rows begin
    module _ (r : ReaderState) (answer : Result FedRow Stop) (takes : TakesFirst how.gray v.reader piece (step.Rows answer) r) where
      pub begun : BeginsShownRows how.gray all piece answer r
      begun = first (step.Rows answer) r takes

      pub can_begin : CanBegin how r s1
      can_begin = (let o = was.some in (o.0, from.1, all, piece, answer, begun, here o.0 o.1))

      pub not_begun : (w : Why) (e : EndState) (n : Shower) (s2 : DeskState) → n.words ≡ v.words → OnlyWorks s1 s2 → Begins how r s1 (Err w) e s2 → EndsShower from (Err w) (n, s2)
      not_begun w e n s2 same works begins = ends_as was reads.kept (Err w) n s2 same works (λ o h. begins o from.1 all piece answer begun (here o h))

      module _ {d : Drawing} {e : EndState} {s2 : DeskState} (begins : Begins how r s1 (Ok d) e s2) where
        pub can_draw : CanDrawPiece piece answer (at_work r d e s2)
        can_draw = (let o = was.some in record { asked = how; run = run_of o.0 begun.head all; rows = 0; showing = begins o.0 from.1 all piece answer begun (here o.0 o.1) })

        pub drawn_first : (at : ℕ × ℕ) (after : ReaderState) (new : Drawing) (new_e : EndState) (result : Result Bool Why) (s3 : DeskState) → after.by_row ≡ true → OnlyWorks s1 s2 → s2.input_open ≡ s1.input_open → OnlyWrites s2 s3
            → Draws (record { piece = record { ref_ptr = at; now = piece }; answer = answer }) r d e s2 result after new new_e s3 → AfterShower from all result (record { words = v.words; reader = after; image = Some new; end = new_e }, s3)
        drawn_first at after new new_e result s3 by_row works opened writes draws =
            drawn_as after new new_e result s3 by_row (works_then works (writes_work writes)) (writes.input_open ∙ opened)
            (λ o h. (begun.head, draws how (run_of o begun.head all) 0 (begins o from.1 all piece answer begun (here o h))))

-- THE END

module _ {from : Shower × DeskState} {bytes : List ℕ} {v : Shower} {s0 s1 : DeskState} (was : IsShower from bytes (v, s0)) (short : length bytes < standard_limits.input) (ended : ReadsEnd s0 s1) where
  abbrev to : Showing
  to = showing_view v.words

  left_none : rest_of s1.left ≡ []
  left_none = ap rest_of ended.left ∙ none_left s0.left ended.ended

  -- the bytes are refused
  pub end_stopped : (t : Stop) (w : Why) → w ≡ why_stopped t → (r : ReaderState) (n : Shower) → n.words ≡ v.words → EndsRow v.reader (ends.Stop t) r → r.limits ≡ v.reader.limits → EndsShower from (Err w) (n, s1)
  end_stopped t w is r n same answered limits = ends_as was ended.kept (Err w) n s1 same (reads_none s1).copies.works (λ o h. subst (λ (y : Why). Shown to o y s1) (sym is) (by o v.image (was.holds o h)))
    where
      refused : (o : DeskState) (t : Stop) → HasFedPlainly to.gray v.reader bytes → HasOpened to o from.1 bytes s1 → StopsAt v.reader.limits bytes t → Shown to o (why_stopped t) s1
      refused o (stop.Fault f) k h stops =
          plain_refused h (omega (arith, short)) f (subst (λ (rest : List ℕ). IsRefusedRead (Image to.gray) f rest bytes) (sym left_none) (end_refused to.gray bytes v.reader f was.limits k stops)) (λ shown. none_shown to.gray bytes k.plain (shown_before to.gray bytes f.at shown))
      refused o stop.NoMemory k h stops = absurd stops

      by : (o : DeskState) (image : Option Drawing) → HoldsImage image to o from.1 bytes v s0 → Shown to o (why_stopped t) s1
      by o None k = refused o t k.0 (opened_still k.2 ended.kept ended.left) (subst (λ (l : Limits). StopsAt l bytes t) limits (answered bytes 0 (read_all to.gray bytes v.reader was.limits k.0)))
      by o (Some d) k = rows_at_end t ended (subst (λ (l : Limits). StopsAt l bytes t) limits (answered bytes k.1 (inr k.2.read))) k.2

  -- or they end early
  module _ (n : ℕ) (r : ReaderState) (answered : EndsRow v.reader (ends.Early n) r) (limits : r.limits ≡ v.reader.limits) where
    module _ {d : Drawing} (some : v.image ≡ Some d) where
      rows : (o : DeskState) → Opens o to.input put.Done from.1 → (h : Head) × (m : ℕ) × HasShownEarly to (record { old = o; start = from.1; head = h; all = bytes }) m n (at_work r d v.end s1)
      rows o h = (let k = held was ended.kept some o h in (k.0, k.1, ended_early ended limits (answered bytes k.1 (inr k.2.read)) k.2))

      pub can_end : CanEnd (at_work r d v.end s1)
      can_end =
          let o = was.some in
          let k = rows o.0 o.1 in
          record { asked = to; run = record { old = o.0; start = from.1; head = k.0; all = bytes }; rows = k.1; count = n; shown = k.2 }

      pub early_ended : (answer : Result (Option ℕ) Why) (result : Result (Unit {0}) DecodeStop) (new : Shower) (s2 : DeskState) → new.words ≡ v.words → OnlyWrites s1 s2 → warned_of result n ≡ ended_as answer → FinishesEarly (at_work r d v.end s1) result s2
          → EndsShower from answer (new, s2)
      early_ended answer result new s2 same writes told finishes = ends_as was ended.kept answer new s2 same (writes_work writes) (λ o h.
          (let k = rows o h in subst (λ (y : Why). Shown to o y s2) told (finishes to (record { old = o; start = from.1; head = k.0; all = bytes }) k.1 n k.2)))

    module _ (none : v.image ≡ None) where
      pub early_read : HoldsEarlyPlainly to.gray r n bytes
      early_read =
          let k = (held was ended.kept none was.some.0 was.some.1).0 in
          end_early to.gray bytes v.reader r n (limits ∙ was.limits) k (answered bytes 0 (read_all to.gray bytes v.reader was.limits k))

      pub early_here : (p : Picture) → TakesEarly r p → IsTaken to (Some n) from.1 s1 r p
      early_here p took =
          let h = opened_still (held was ended.kept none was.some.0 was.some.1).2 ended.kept ended.left in
          cut_taken to n from.1 s1 r p (limits ∙ was.limits) took (bytes, h.left, omega (arith, short), early_read) left_none

-- ALL OF IT

pub shower_begun : {S : Type 0} (view : S → Shower) (sink : S) (s : DeskState) → (view sink).image ≡ None → IsOpened (view sink).words.files.input s → (view sink).reader.by_row ≡ true → (view sink).reader.limits ≡ standard_limits → HasReadPlainly [] (view sink).reader
    → (view sink).end ≡ new_end (view sink).words.kind → IsFed S (show_kind view) (sink, s) [] (sink, s)
shower_begun view sink s none opened by_row limits read new =
    let x = view sink in
    let fed : HasFedPlainly x.words.gray x.reader [] = record { none = read.none; plain = subst (λ (l : Limits). HasNoRows l []) limits read.plain; fed = fed_none (Image x.words.gray) x.reader limits read.read } in
    record {
      short = omega arith;
      fed = record {
        some = opened;
        same = refl;
        by_row = by_row;
        limits = limits;
        works = (reads_none s).copies.works;
        holds = λ o h. subst (λ (image : Option Drawing). HoldsImage image (showing_view x.words) o s [] x s) (sym none) (fed, new, record { opened = h; reads = reads_none s; left = none_read s.left });
      };
    }

pub all_shown : {S : Type 0} (view : S → Shower) (from now : S × DeskState) (answer : Result (Option ℕ) Why) → EndsAll (show_kind view) from answer now → EndsShower (view from.0, from.1) answer (view now.0, now.1)
all_shown view from now answer (inl h) = h
all_shown view from now answer (inr u) =
    subst (λ (a : Result (Option ℕ) Why). EndsShower (view from.0, from.1) a (view now.0, now.1)) (sym u.is) (record { same = k.same; works = works_then k.works u.failed.kept.copies.works; shown = λ o h. by o x.image (k.holds o h) })
  where
    x : Shower
    x = view now.0

    k : IsShower (view from.0, from.1) u.bytes (x, u.desk)
    k = u.fed.fed

    by : (o : DeskState) (image : Option Drawing) → HoldsImage image (showing_view x.words) o from.1 u.bytes x u.desk → Shown (showing_view x.words) o (why.ReadFault which.Input) now.1
    by o None h =
        plain_unread (opened_still h.2 u.failed.kept u.failed.left) (let s = u.fed.short in omega (arith, s)) (open_so_far (Image x.words.gray) u.bytes x.reader k.limits h.0.fed) (none_shown x.words.gray u.bytes h.0.plain)
        (let f = h.2.reads.copies.works.stays.counts.reads in let r = u.failed.rose in omega (arith, r, f))
    by o (Some d) h = rows_unread u.failed h.2
