-- What pieces of a file result in, up to a scan of all components.
use Rattle.std.proofs.Common.{◌≡◌, ℕ, ◌<◌, ◌≤◌, Bool, true, false, List, [], ◌++◌, length, take, drop, refl, sym, ap, ◌∙◌, subst, arith, inl, inr, ◌⊎◌, Option, Some, None, Result, Ok, Err}
use Rattle.std.specs.List.{All}
use Rattle.std.specs.Option.{is_some}
use Rattle.std.proofs.lemmas.List.{append_assoc, append-nil, length-append, length-take-le, take_all, take-append-drop, take-append-le}
use Rattle.jpg_base.specs.declared.stop.Stop.{Stop}
use Rattle.jpg_base.specs.declared.stop.Stop.TheVariants as stop
use Rattle.jpg_spec.specs.FirstFault.{IsFirstFault}
use Rattle.jpg_spec.specs.Header.{IsHeader}
use Rattle.jpg_spec.specs.UnfinishedFile.{IsWholeFile}
use Rattle.jpg_spec.specs.Markers.{Segment}
use Rattle.jpg_spec.specs.Meaning.{Meaning}
use Rattle.jpg_spec.specs.InForce.{colours_after, factors_after, frame_of}
use Rattle.jpg_spec_image.specs.Pixels.{out_fault_of}
use Rattle.jpg_spec.specs.RowsParsed.{BeginsScanOfAll}
use Rattle.jpg_spec.specs.Segments.{standard_limits}
use Rattle.jpg_spec.specs.declared.fault.FaultAt.{FaultAt}
use Rattle.jpg_spec_words.specs.declared.answers.Why.TheVariants as why
use Rattle.jpg_spec.specs.declared.fault.Fault.{Fault}
use Rattle.jpg_spec.specs.declared.frame.Limits.{Limits}
use Rattle.jpg_spec.proofs.Headers.FirstScan.{header_stands}
use Rattle.jpg_spec.proofs.Headers.OneHeader.{whole_once}
use Rattle.jpg_file.specs.Read.FirstHeader.{IsFirstHeaderOf}
use Rattle.jpg_file.specs.Read.ReadFile.{IsStopOf, KeepsHeadAt, StopsAt, head_seen, ReaderState, AfterEndRow, AfterFeedRow, EndsDoneRow, HasBegunRows, HasReadAll, HasReadPlainly, HasReadSoFar, IsDonePlainly}
use Rattle.jpg_file.specs.Read.Strips.{TellsStrip, HasNoRows}
use Rattle.jpg_file.specs.declared.read.ends.End.TheVariants as ends
use Rattle.jpg_file.specs.declared.read.pieces.FedRow.{FedRow}
use Rattle.jpg_file.specs.declared.read.pieces.FedRow.TheVariants as fed
use Rattle.jpg_file.specs.declared.read.rows.RowWork.{RowWork}
use Rattle.jpg_file.specs.declared.read.strip_head.StripHead.{StripHead}
use Rattle.jpg_spec.specs.Geometry.{Frame}
use Rattle.jpg_spec.specs.Scan.{Blocks}
use Rattle.jpg_desk.specs.ReadPicture.{AfterFileEnd, IsRefusedFor, IsRefusedRead, IsUnwanted, unwanted_in, Image}
use Rattle.jpg_cli.specs.Tools.Showing.{IsShownByRows}
use Rattle.jpg_cli.specs.Tools.ShowingRows.{AfterFirst, BeginsShownRows, HasFedPlainly, HoldsEarlyPlainly, HoldsPlainly, IsHeadIn, step_of}
use Rattle.jpg_desk.proofs.PictureBytes.{early_end, has_fed, holds_file, new_place, refused_end, refused_there, short_piece, stop_within}
use Rattle.jpg_cli.proofs.ByRow.RowHeads.{begins_still, begins_whole, shown_before}
use Rattle.jpg_desk.proofs.Unwanted.{fault_after, stop_wanted, unwanted_head, unwanted_more, unwanted_within, wanted_head}
use Rattle.jpg_spec.proofs.Basics.Common.{joined}

-- THE HEAD that the reader keeps is that of a prefix of the bytes

pub record HasHeadIn (all : List ℕ) (r : ReaderState) : Type 0 where
  pub front : List ℕ
  pub rest : List ℕ
  pub cut : all ≡ front ++ rest
  pub head : IsFirstHeaderOf r.limits front r.file.head

whole_cut : (l : List ℕ) (n : ℕ) → l ≡ take n l ++ drop n l
whole_cut l n = sym (take-append-drop n l)

none_more : (l : List ℕ) → l ≡ l ++ []
none_more l = sym (append-nil l)

pub head_in : (bytes piece : List ℕ) (m : ℕ) (answer : Result FedRow Stop) (r : ReaderState) → AfterFeedRow bytes m piece answer r → HasHeadIn (bytes ++ piece) r
head_in bytes piece m (Ok fed.More) r (inl h) = record { front = bytes ++ piece; rest = []; cut = none_more (bytes ++ piece); head = (h.0).read.head }
head_in bytes piece m (Ok fed.More) r (inr h) = record { front = bytes ++ piece; rest = []; cut = none_more (bytes ++ piece); head = (h.begun).head }
head_in bytes piece m (Ok (fed.Row used)) r h = record { front = bytes ++ take used piece; rest = drop used piece; cut = joined bytes piece used; head = ((h.0).begun).head }
head_in bytes piece m (Ok (fed.Done used)) r (inl h, some, within) = record { front = bytes ++ take used piece; rest = drop used piece; cut = joined bytes piece used; head = (h.done).head }
head_in bytes piece m (Ok (fed.Done used)) r (inr h, some, within) = record { front = bytes ++ take used piece; rest = drop used piece; cut = joined bytes piece used; head = (h.begun).head }
head_in bytes piece m (Err (stop.Fault f)) r (stops, late, inl h, so) = record { front = take f.at (bytes ++ piece); rest = drop f.at (bytes ++ piece); cut = whole_cut (bytes ++ piece) f.at; head = h }
head_in bytes piece m (Err (stop.Fault f)) r (stops, late, inr (n, at, h, s), so) = record { front = take n (bytes ++ piece); rest = drop n (bytes ++ piece); cut = whole_cut (bytes ++ piece) n; head = h }
head_in bytes piece m (Err stop.NoMemory) r ((n, few, h), none, plain) = record { front = take n (bytes ++ piece); rest = drop n (bytes ++ piece); cut = whole_cut (bytes ++ piece) n; head = h }

-- A PICTURE THAT CAN'T BE DISPLAYED

-- bytes that reveal it are refused for it, whatever follows
unwanted_always : (gray : Bool) (all rest : List ℕ) (f : FaultAt) → length all ≤ standard_limits.input → IsUnwanted (Image gray) all f → IsRefusedFor (Image gray) (all ++ rest) f
unwanted_always gray all rest f most s = inr (unwanted_more (Image gray) all rest f s, λ g refused. late g refused)
  where
    front : List ℕ
    front = take f.at all

    size : length front ≡ f.at
    size = length-take-le f.at all s.within

    cut : all ++ rest ≡ front ++ (drop f.at all ++ rest)
    cut = ap (λ l. l ++ rest) (whole_cut all f.at) ∙ append_assoc front (drop f.at all) rest

    late : (g : FaultAt) → IsFirstFault standard_limits (all ++ rest) g.fault g.at → f.at ≤ g.at
    late g refused =
        let within = s.within in
        let k = fault_after front (drop f.at all ++ rest) g.fault g.at (header_stands standard_limits front s.before s.contents s.header s.unbroken) (omega (arith, size, within, most))
        (subst (λ l. IsFirstFault standard_limits l g.fault g.at) cut refused) in omega (arith, k, size)

none_told : (f : Fault) → None ≡ Some f → ⊥
none_told f e = cc

-- the scan header of a picture that can't be displayed isn't one of a picture that can
pub not_shown : (gray : Bool) (all : List ℕ) (f : FaultAt) → IsUnwanted (Image gray) all f → IsShownByRows gray all → ⊥
not_shown gray all f s h =
    let k = h.begins in
    let one = whole_once standard_limits (take f.at all) k.front (drop f.at all) k.rest s.before h.before s.contents h.contents s.header k.header (take-append-drop f.at all ∙ k.cut) in
    none_told f.fault (sym h.shown ∙ sym (ap (λ (b : List Segment). out_fault_of (frame_of standard_limits b).precision (colours_after standard_limits b) gray (factors_after standard_limits b)) one.1) ∙ s.fault)

-- of all bytes so far, if the head reveals it
told_in : (gray : Bool) (all : List ℕ) (r : ReaderState) (f : FaultAt) → r.limits ≡ standard_limits → HasHeadIn all r → unwanted_in (Image gray) (head_seen r) ≡ Some f → IsUnwanted (Image gray) all f
told_in gray all r f e h told =
    let k = unwanted_head (Image gray) h.front r.file.head f (subst (λ (l : Limits). IsFirstHeaderOf l h.front r.file.head) e h.head) told in
    subst (λ l. IsUnwanted (Image gray) l f) (sym h.cut) (unwanted_more (Image gray) h.front h.rest f k)

pub first_unwanted : (gray : Bool) (bytes piece : List ℕ) (old r : ReaderState) (f : FaultAt) → r.limits ≡ standard_limits → HasFedPlainly gray old bytes → length piece ≤ 16384 → length (bytes ++ piece) ≤ standard_limits.input → HasHeadIn (bytes ++ piece) r
    → unwanted_in (Image gray) (head_seen r) ≡ Some f → ((rest : List ℕ) → IsRefusedRead (Image gray) f rest (bytes ++ piece)) × (IsShownByRows gray (take f.at (bytes ++ piece)) → ⊥)
first_unwanted gray bytes piece old r f e k short most h told =
    let w = Image gray in
    let all = bytes ++ piece in
    let there = told_in gray all r f e h told in
    let behind = new_place w bytes piece old f k.fed there in
    (λ rest. refused_there w bytes piece rest f (omega (arith, short)) (unwanted_within w all f there) behind (unwanted_always gray all rest f most there), λ shown. not_shown gray all f there (shown_before gray all f.at shown))

-- BEFORE A PIECE

pub read_plainly : (gray : Bool) (bytes : List ℕ) (old : ReaderState) → old.limits ≡ standard_limits → HasFedPlainly gray old bytes → HasReadSoFar bytes 0 old
read_plainly gray bytes old e k = inl (record { none = k.none; plain = subst (λ (l : Limits). HasNoRows l bytes) (sym e) k.plain; read = (k.fed).read }, refl)

-- A SCAN THAT BEGINS

-- that of the bytes, once its header is complete
pub record HasBegun (all : List ℕ) (r : ReaderState) : Type 0 where
  pub front : List ℕ
  pub rest : List ℕ
  pub cut : all ≡ front ++ rest
  pub begun : HasBegunRows front r

-- no scan is being read, or one began
abbrev pub IsPlainOrBegun : List ℕ → ReaderState → Type 0
IsPlainOrBegun all r = (r.rows ≡ None) ⊎ HasBegun all r

pub plain_or : (bytes piece : List ℕ) (m : ℕ) (answer : Result FedRow Stop) (r : ReaderState) → AfterFeedRow bytes m piece answer r → IsPlainOrBegun (bytes ++ piece) r
plain_or bytes piece m (Ok fed.More) r (inl h) = inl (h.0).none
plain_or bytes piece m (Ok fed.More) r (inr h) = inr (record { front = bytes ++ piece; rest = []; cut = none_more (bytes ++ piece); begun = h.begun })
plain_or bytes piece m (Ok (fed.Row used)) r h = inr (record { front = bytes ++ take used piece; rest = drop used piece; cut = joined bytes piece used; begun = (h.0).begun })
plain_or bytes piece m (Ok (fed.Done used)) r (inl h, some, within) = inl h.none
plain_or bytes piece m (Ok (fed.Done used)) r (inr h, some, within) = inr (record { front = bytes ++ take used piece; rest = drop used piece; cut = joined bytes piece used; begun = h.begun })
plain_or bytes piece m (Err (stop.Fault f)) r (stops, late, head, inl h) = inl h.0
plain_or bytes piece m (Err (stop.Fault f)) r (stops, late, head, inr h) = inr (record { front = take f.at (bytes ++ piece); rest = drop f.at (bytes ++ piece); cut = whole_cut (bytes ++ piece) f.at; begun = h.begun })
plain_or bytes piece m (Err stop.NoMemory) r (head, none, plain) = inl none

-- its picture can be displayed, if the head doesn't reveal a fault
begun_head : (gray : Bool) (front : List ℕ) (r : ReaderState) → r.limits ≡ standard_limits → (b : HasBegunRows front r) → unwanted_in (Image gray) (head_seen r) ≡ None
    → IsHeadIn gray (record { before = b.before; contents = b.contents }) front
begun_head gray front r e b none = record { begins = begins; shown = by (out_fault_of (frame_of standard_limits b.before).precision (colours_after standard_limits b.before) gray (factors_after standard_limits b.before)) refl }
  where
    begins : BeginsScanOfAll standard_limits front b.before b.contents
    begins = subst (λ (l : Limits). BeginsScanOfAll l front b.before b.contents) e b.begins

    head : IsFirstHeaderOf standard_limits front r.file.head
    head = subst (λ (l : Limits). IsFirstHeaderOf l front r.file.head) e b.head

    at : ℕ
    at = length begins.front

    first : take at front ≡ begins.front
    first = ap (take at) begins.cut ∙ take-append-le at begins.front begins.rest (omega arith) ∙ take_all at begins.front (omega arith)

    by : (o : Option Fault) → out_fault_of (frame_of standard_limits b.before).precision (colours_after standard_limits b.before) gray (factors_after standard_limits b.before) ≡ o → o ≡ None
    by None same = refl
    by (Some fault) same =
        absurd (wanted_head (Image gray) front r.file.head head none (record { fault = fault; at = at })
        (record {
          before = b.before;
          contents = b.contents;
          within = omega (arith, ap length begins.cut, length-append begins.front begins.rest);
          header = subst (λ l. IsHeader standard_limits l b.before b.contents) (sym first) begins.header;
          unbroken = begins.unbroken;
          fault = same;
        }))

pub head_of_all : (gray : Bool) (all : List ℕ) (r : ReaderState) → r.limits ≡ standard_limits → (h : HasBegun all r) → unwanted_in (Image gray) (head_seen r) ≡ None
    → IsHeadIn gray (record { before = (h.begun).before; contents = (h.begun).contents }) all
head_of_all gray all r e h none =
    let k = begun_head gray h.front r e h.begun none in
    record { begins = begins_still h.front h.rest all (h.begun).before (h.begun).contents h.cut k.begins; shown = k.shown }

pub not_none : (r : ReaderState) (front : List ℕ) → HasBegunRows front r → r.rows ≡ None → ⊥
not_none r front b none = no_work b.rows (sym b.has ∙ none)
  where
    no_work : (w : RowWork) → Some w ≡ None → ⊥
    no_work w e = cc

pub rows_begin : (gray : Bool) (bytes piece : List ℕ) (answer : Result FedRow Stop) (old r : ReaderState) → old.limits ≡ standard_limits → r.limits ≡ standard_limits → HasFedPlainly gray old bytes → length piece ≤ 16384
    → length (bytes ++ piece) ≤ standard_limits.input → All (λ b. b < 256) (bytes ++ piece) → AfterFeedRow bytes 0 piece answer r → EndsDoneRow answer r → unwanted_in (Image gray) (head_seen r) ≡ None → HasBegun (bytes ++ piece) r
    → BeginsShownRows gray (bytes ++ piece) piece answer r
rows_begin gray bytes piece answer old r eo e k short most small after done none h = record {
  head = record { before = (h.begun).before; contents = (h.begun).contents };
  rows = record {
    fed = bytes;
    cut = refl;
    few = short;
    limits = e;
    after = after;
    begun = λ same. not_none r h.front h.begun same;
    most = most;
    small = small;
    short = short_piece (Image gray) bytes piece old eo k.fed (omega (arith, short));
    head = head_of_all gray (bytes ++ piece) r e h none;
  };
  none = k.plain;
  done = done;
}

-- NONE BEGINS

pub goes_on_plainly : (gray : Bool) (bytes piece : List ℕ) (r : ReaderState) → r.limits ≡ standard_limits → All (λ b. b < 256) (bytes ++ piece) → unwanted_in (Image gray) (head_seen r) ≡ None → HasReadPlainly (bytes ++ piece) r
    → HasFedPlainly gray r (bytes ++ piece)
goes_on_plainly gray bytes piece r e small none h = record {
  none = h.none;
  plain = subst (λ (l : Limits). HasNoRows l (bytes ++ piece)) e h.plain;
  fed = has_fed (Image gray) (bytes ++ piece) r e small none h.read;
}

-- after a complete file none begins
pub plain_whole : (front rest : List ℕ) (M : Meaning) → IsWholeFile standard_limits front M → HasNoRows standard_limits front → HasNoRows standard_limits (front ++ rest)
plain_whole front rest M w none before contents h = none before contents (begins_whole front rest M w before contents h)

pub whole_plainly : (gray : Bool) (bytes piece : List ℕ) (used : ℕ) (r : ReaderState) → r.limits ≡ standard_limits → length piece ≤ 16384 → All (λ b. b < 256) (bytes ++ piece) → unwanted_in (Image gray) (head_seen r) ≡ None
    → IsDonePlainly (bytes ++ take used piece) r → 1 ≤ used → used ≤ length piece → HoldsPlainly gray r (bytes ++ piece)
whole_plainly gray bytes piece used r e short small none h some within = record {
  none = h.none;
  plain =
      (let front = bytes ++ take used piece in
      let d = h.done in
      subst (λ l. HasNoRows standard_limits l) (sym (joined bytes piece used))
      (plain_whole front (drop used piece) d.meaning (subst (λ (l : Limits). IsWholeFile l front d.meaning) e d.whole) (subst (λ (l : Limits). HasNoRows l front) e h.plain)));
  holds = holds_file (Image gray) bytes piece used r e (omega (arith, short)) small none (h.done, some, within);
}

-- A FAULT, with no scan before it
pub refused_plainly : (gray : Bool) (bytes piece : List ℕ) (r : ReaderState) (f : FaultAt) → r.limits ≡ standard_limits → length piece ≤ 16384 → unwanted_in (Image gray) (head_seen r) ≡ None
    → IsStopOf r.limits (bytes ++ piece) f → length bytes ≤ f.at → KeepsHeadAt r.limits (bytes ++ piece) f r.file.head → (rest : List ℕ) → IsRefusedRead (Image gray) f rest (bytes ++ piece)
refused_plainly gray bytes piece r f e short none stops late keeps rest =
    let all = bytes ++ piece in
    let s = subst (λ (l : Limits). IsStopOf l all f) e stops in
    let within = stop_within all f s in
    record {
      refused = stop_wanted (Image gray) all rest r.file.head f within (subst (λ (l : Limits). KeepsHeadAt l all f r.file.head) e keeps) none (s rest);
      within = within;
      last = omega (arith, late, short, length-append bytes piece);
    }

-- BY THE ANSWER, if the head doesn't reveal a fault

-- there is no head, so none began; or there is one, and it did
pub none_begun : (o : Option StripHead) (f : Frame) (picture : Blocks → Meaning) → is_some o ≡ false → TellsStrip o f picture → ⊥
none_begun None f picture e t = t
none_begun (Some h) f picture e t = true_false e
  where
    true_false : true ≡ false → ⊥
    true_false e = cc

some_begun : (o : Option StripHead) → is_some o ≡ true → o ≡ None → ⊥
some_begun o e none = false_true (sym (ap (λ (x : Option StripHead). is_some x) none) ∙ e)
  where
    false_true : false ≡ true → ⊥
    false_true e = cc

pub begun_there : (bytes piece : List ℕ) (answer : Result FedRow Stop) (r : ReaderState) (o : Option StripHead) → is_some o ≡ true → (r.rows ≡ None → o ≡ None) → AfterFeedRow bytes 0 piece answer r → HasBegun (bytes ++ piece) r
begun_there bytes piece answer r o some none after = by (plain_or bytes piece 0 answer r after)
  where
    by : IsPlainOrBegun (bytes ++ piece) r → HasBegun (bytes ++ piece) r
    by (inl k) = absurd (some_begun o some (none k))
    by (inr k) = k

-- none began in any bytes
abbrev pub NoneBegun : ReaderState → Type 0
NoneBegun r = (front : List ℕ) → HasBegunRows front r → ⊥

pub more_first : (gray : Bool) (bytes piece : List ℕ) (r : ReaderState) → r.limits ≡ standard_limits → All (λ b. b < 256) (bytes ++ piece) → unwanted_in (Image gray) (head_seen r) ≡ None → NoneBegun r
    → AfterFeedRow bytes 0 piece (Ok fed.More) r → HasFedPlainly gray r (bytes ++ piece)
more_first gray bytes piece r e small none out (inl h) = goes_on_plainly gray bytes piece r e small none h.0
more_first gray bytes piece r e small none out (inr h) = absurd (out (bytes ++ piece) h.begun)

pub done_first : (gray : Bool) (bytes piece : List ℕ) (used : ℕ) (r : ReaderState) → r.limits ≡ standard_limits → length piece ≤ 16384 → All (λ b. b < 256) (bytes ++ piece) → unwanted_in (Image gray) (head_seen r) ≡ None → NoneBegun r
    → AfterFeedRow bytes 0 piece (Ok (fed.Done used)) r → HoldsPlainly gray r (bytes ++ piece)
done_first gray bytes piece used r e short small none out (inl h, some, within) = whole_plainly gray bytes piece used r e short small none h some within
done_first gray bytes piece used r e short small none out (inr h, some, within) = absurd (out (bytes ++ take used piece) h.begun)

pub fault_first : (gray : Bool) (bytes piece : List ℕ) (f : FaultAt) (r : ReaderState) → r.limits ≡ standard_limits → length piece ≤ 16384 → unwanted_in (Image gray) (head_seen r) ≡ None → NoneBegun r
    → AfterFeedRow bytes 0 piece (Err (stop.Fault f)) r → ((rest : List ℕ) → IsRefusedRead (Image gray) f rest (bytes ++ piece)) × (IsShownByRows gray (take f.at (bytes ++ piece)) → ⊥)
fault_first gray bytes piece f r e short none out (stops, late, keeps, inl (clear, plain, zero)) = (
  λ rest. refused_plainly gray bytes piece r f e short none stops late keeps rest,
  λ h. plain h.before h.contents (subst (λ (l : Limits). BeginsScanOfAll l (take f.at (bytes ++ piece)) h.before h.contents) (sym e) h.begins),
)
fault_first gray bytes piece f r e short none out (stops, late, keeps, inr h) = absurd (out (take f.at (bytes ++ piece)) h.begun)

-- THE END

pub read_all : (gray : Bool) (bytes : List ℕ) (old : ReaderState) → old.limits ≡ standard_limits → HasFedPlainly gray old bytes → HasReadAll bytes 0 old
read_all gray bytes old e k = inl (record { none = k.none; plain = subst (λ (l : Limits). HasNoRows l bytes) (sym e) k.plain; read = (k.fed).read }, refl)

pub end_refused : (gray : Bool) (bytes : List ℕ) (old : ReaderState) (f : FaultAt) → old.limits ≡ standard_limits → HasFedPlainly gray old bytes → StopsAt old.limits bytes (stop.Fault f) → AfterFileEnd (Image gray) bytes (why.Refused f)
end_refused gray bytes old f e k s = refused_end (Image gray) bytes old f e k.fed s

pub end_early : (gray : Bool) (bytes : List ℕ) (old new : ReaderState) (n : ℕ) → new.limits ≡ standard_limits → HasFedPlainly gray old bytes → AfterEndRow bytes 0 (ends.Early n) new → HoldsEarlyPlainly gray new n bytes
end_early gray bytes old new n e k (count, inl (early, zero)) = record {
  none = early.none;
  plain = subst (λ (l : Limits). HasNoRows l bytes) e early.plain;
  holds = early_end (Image gray) bytes old new n e k.fed (count, early.early);
}
end_early gray bytes old new n e k (count, inr early) =
    let b = early.begun in absurd (k.plain b.before b.contents (subst (λ (l : Limits). BeginsScanOfAll l bytes b.before b.contents) e b.begins))

-- BY THE ANSWER

pub by_answer : (gray : Bool) (bytes piece : List ℕ) (answer : Result FedRow Stop) (old r : ReaderState) → old.limits ≡ standard_limits → r.limits ≡ standard_limits → HasFedPlainly gray old bytes → length piece ≤ 16384 → All (λ b. b < 256) (bytes ++ piece)
    → unwanted_in (Image gray) (head_seen r) ≡ None → NoneBegun r → AfterFeedRow bytes 0 piece answer r → AfterFirst gray bytes piece (step_of answer) r
by_answer gray bytes piece (Ok fed.More) old r eo e k short small none out after = more_first gray bytes piece r e small none out after
by_answer gray bytes piece (Ok (fed.Row used)) old r eo e k short small none out after = absurd (out (bytes ++ take used piece) (after.0).begun)
by_answer gray bytes piece (Ok (fed.Done used)) old r eo e k short small none out after = done_first gray bytes piece used r e short small none out after
by_answer gray bytes piece (Err (stop.Fault f)) old r eo e k short small none out after = fault_first gray bytes piece f r e short none out after
by_answer gray bytes piece (Err stop.NoMemory) old r eo e k short small none out after = short_piece (Image gray) bytes piece old eo k.fed (omega (arith, short))
