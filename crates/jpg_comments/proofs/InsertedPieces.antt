-- A file with a comment inserted, piece by piece.
use Rattle.std.proofs.Common.{◌≡◌, ℕ, ◌+◌, ◌<◌, ◌≤◌, Bool, List, [], ◌++◌, length, take, drop, Option, Some, None, Ok, Err, refl, sym, ap, ◌∙◌, subst, arith, inl, inr, Result}
use Rattle.std.proofs.lemmas.List.{length-append, length-take-le}
use Rattle.jpg_spec_write.specs.CommentText.{IsInserted, comment_segment}
use Rattle.jpg_spec.specs.declared.fault.FaultAt.{FaultAt}
use Rattle.jpg_spec.specs.declared.frame.Limits.{Limits}
use Rattle.jpg_base.specs.declared.names.NoMemory.{NoMemory}
use Rattle.jpg_base.specs.declared.stop.Fed.{Fed}
use Rattle.jpg_base.specs.declared.stop.Fed.TheVariants as fed
use Rattle.jpg_base.specs.declared.stop.Stop.{Stop}
use Rattle.jpg_base.specs.declared.stop.Stop.TheVariants as stop
use Rattle.jpg_markers.specs.Reading.{Reading, reading_of}
use Rattle.jpg_comments.specs.Appending.{AppendsText}
use Rattle.jpg_comments.specs.SegmentsSoFar.{Appends, ShowsFault}
use Rattle.jpg_comments.specs.Inserting.{HoldsHead, HasKept, HasStopped, StopsHead, StopsHeadIn, KeepsPiece, keeping, AfterHeadPiece, CopiesRest, InsertsLess, InsertsUpTo}
use Rattle.jpg_comments.specs.WriteInserted.{StandsAt, HasInserted}
use Rattle.jpg_comments.specs.declared.insert.Insert.{Insert}
use Rattle.jpg_comments.specs.declared.insert.Keeping.{Keeping}
use Rattle.jpg_markers.specs.declared.segments.SegmentReader.{SegmentReader}
use Rattle.jpg_spec.specs.declared.fault.Fault.TheVariants.{InputTooLong}
use Rattle.jpg_base.specs.Intake.{FeedsPiece}
use Rattle.jpg_comments.proofs.Taken.{long_shown, appends_as, appends_then, fault_remains}
use Rattle.jpg_comments.proofs.HeadByPieces.{AfterCopy, CopiesUpTo, copied, whole_head, head_inserted, head_part}
use Rattle.jpg_spec.proofs.Basics.Common.{joined}

-- the invariant of a state, by its parts
abbrev pub StandsWith : Limits → List ℕ → Bool → Option Stop → List ℕ → List ℕ → List ℕ → Option ℕ → List ℕ → Reading → Type 0
StandsWith limits comment replace stop segment bytes text taken head r =
    (stop ≡ None) × (length bytes < limits.input) × (segment ≡ comment_segment comment) × StandsAt limits comment replace bytes text taken head r

-- BEFORE THE FRAME HEADER'S MARKER

-- some bytes were taken, and one more
pub some_more : (bytes some : List ℕ) (n : ℕ) (r : Result Bool Stop) → n < length some → HasStopped r (bytes ++ take (n + 1) some)
some_more bytes some n (Ok whole) less = tt
some_more bytes some n (Err s) less = omega (arith, less, length-append bytes (take (n + 1) some), length-take-le (n + 1) some (omega (arith, less)))

-- the answer to a piece
abbrev pub head_answer : Result Fed Stop → Result (Option ℕ) Stop
head_answer (Ok fed.More) = Ok None
head_answer (Ok (fed.Done used)) = Ok (Some used)
head_answer (Err e) = Err e

pub head_fed : (k : Keeping) (old new : SegmentReader) (piece had head : List ℕ) (result answer : Result Fed Stop) → result ≡ answer → FeedsPiece (keeping k) (old, had) piece result (new, head)
    → KeepsPiece k.replace (reading_of old) piece had (head_answer answer) head (reading_of new)
head_fed k old new piece had head result answer is feeds limits bytes h = by answer (subst (λ r. FeedsPiece (keeping k) (old, had) piece r (new, head)) is feeds)
  where
    front_stops : (n : ℕ) (e : Stop) → n ≤ length piece → 1 ≤ length (take n piece) → StopsHead limits (bytes ++ take n piece) e → StopsHeadIn limits bytes piece e
    front_stops n (stop.Fault f) few some s = subst (λ l. ShowsFault limits (HoldsHead limits) l f) (sym (joined bytes piece n)) (fault_remains limits (HoldsHead limits) (bytes ++ take n piece) (drop n piece) f s)
    front_stops n stop.NoMemory few some s = (n, omega (arith, some, length-take-le n piece few), few, s)

    at_limit : (n : ℕ) (f : FaultAt) → ShowsFault limits (HoldsHead limits) (bytes ++ take n piece) f → StopsHeadIn limits bytes piece (stop.Fault f)
    at_limit n f s = subst (λ l. ShowsFault limits (HoldsHead limits) l f) (sym (joined bytes piece n)) (fault_remains limits (HoldsHead limits) (bytes ++ take n piece) (drop n piece) f s)

    by : (a : Result Fed Stop) → FeedsPiece (keeping k) (old, had) piece a (new, head) → AfterHeadPiece limits k.replace bytes piece (head_answer a) head (reading_of new)
    by (Ok fed.More) ((same, most, fits, some, now), room) =
        let s = now limits bytes h in
        let taken = s.1.taken in
        let is = ap (λ (l : Limits). l.input) s.1.limited in
        (s, omega (arith, taken, room, most, is))
    by (Ok (fed.Done used)) ((same, most, fits, one, now), some, few) = now limits bytes h
    by (Err e) (n, few, inl (same, most, fits, some, now)) = front_stops n e few some (now limits bytes h)
    by (Err e) (n, few, inr ((same, most, fits, some, now), full)) =
        let s = now limits bytes h in
        let is = sym most ∙ ap (λ (l : Limits). l.input) s.1.limited in
        subst (λ x. StopsHeadIn limits bytes piece x) (sym (full.1 ∙ ap (λ m. stop.Fault (record { fault = InputTooLong; at = m })) is))
        (at_limit n (record { fault = InputTooLong; at = limits.input })
        (long_shown limits (HoldsHead limits) (reading_of new) (bytes ++ take n piece) s.0 s.1 (subst (λ m. m ≤ (reading_of new).taken) is full.0)).1)

-- a fault there, or no memory
pub stops_before : (limits : Limits) (comment : List ℕ) (replace : Bool) (bytes piece text : List ℕ) (e : Stop) → text ≡ []
    → StopsHeadIn limits bytes piece e → InsertsUpTo limits comment replace bytes piece text e
stops_before limits comment replace bytes piece text (stop.Fault f) none h = (λ rest. inl (h rest), inl (none, h))
stops_before limits comment replace bytes piece text stop.NoMemory none h = inl (none, h)

-- a stop after it
pub stops_after : (limits : Limits) (comment : List ℕ) (replace : Bool) (bytes piece text : List ℕ) (e : Stop)
    → CopiesUpTo limits comment replace (bytes ++ piece) text e → InsertsUpTo limits comment replace bytes piece text e
stops_after limits comment replace bytes piece text (stop.Fault f) h = h
stops_after limits comment replace bytes piece text stop.NoMemory h = inr h

-- AFTER IT

-- the head is there, with the comment's segment, where these bytes of the piece are used
pub record HeadThere (limits : Limits) (comment : List ℕ) (replace : Bool) (bytes piece : List ℕ) : Type 0 where
  pub head : List ℕ
  pub segment : List ℕ
  pub used : ℕ
  pub next : Reading
  pub same : segment ≡ comment_segment comment
  pub after : AfterHeadPiece limits replace bytes piece (Ok (Some used)) head next

module _ (limits : Limits) (comment : List ℕ) (replace : Bool) (bytes piece : List ℕ) (w : HeadThere limits comment replace bytes piece) (text : List ℕ)
    (none : text ≡ []) where
  abbrev front : List ℕ
  front = bytes ++ take w.used piece

  abbrev whole : List ℕ
  whole = whole_head w.head w.segment w.next.code

  head_at : IsInserted limits front comment replace whole
  head_at = head_inserted limits comment replace front w.head w.segment w.next w.same w.after

  -- if there is no memory for it
  pub stops_at_head : (old new : List ℕ) (e : NoMemory) → AppendsText whole (Err e) old new
      → Appends (λ all. InsertsUpTo limits comment replace bytes piece all stop.NoMemory) text old new
  stops_at_head old new e part =
      let k = head_part limits comment replace front (drop w.used piece) whole old new e head_at part in
      let less : List ℕ → List ℕ → Type 0 = λ l all. InsertsLess limits comment replace l all in
      let there = subst (λ l. Appends (less l) [] old new) (sym (joined bytes piece w.used)) k in
      subst (λ t. Appends (λ all. InsertsUpTo limits comment replace bytes piece all stop.NoMemory) t old new) (sym none)
      (appends_as (less (bytes ++ piece)) (λ all. InsertsUpTo limits comment replace bytes piece all stop.NoMemory) [] old new there (λ all s. inr s))

  -- the bytes after it
  pub copies_rest : (old mid new : List ℕ) (taken most : ℕ) (result : Result ℕ Stop) → limits.input ≡ most → mid ≡ old ++ whole → taken ≡ w.next.taken
      → CopiesRest taken most (drop w.used piece) result mid new → Appends (λ all. AfterCopy limits comment replace (bytes ++ piece) all result) text old new
  copies_rest old mid new taken most result same wrote count copies =
      let h = w.after in
      let Q : List ℕ → Type 0 = λ all. AfterCopy limits comment replace (bytes ++ piece) all result in
      let more = copied limits comment replace front whole (drop w.used piece) mid new taken most result same (count ∙ h.3) h.4 head_at copies in
      let all = subst (λ l. Appends (λ t. AfterCopy limits comment replace l t result) whole mid new) (sym (joined bytes piece w.used)) more in
      subst (λ t. Appends Q t old new) (sym none) (appends_then (λ t. t ≡ whole) Q [] old mid new (whole, wrote, refl) (λ t e. subst (λ u. Appends Q u mid new) (sym e) all))

-- AS IT WAS BEFORE THE PIECE
module _ (comment bytes text : List ℕ) (c : Insert) (h : HasInserted comment bytes text c) where
  pub kept_of : c.taken ≡ None → HasKept c.limits c.replace bytes c.head (reading_of c.reader) × (text ≡ [])
  kept_of none = subst (λ o. StandsAt c.limits comment c.replace bytes text o c.head (reading_of c.reader)) none h.3

  -- before the marker more is needed
  pub goes_on_before : (piece head : List ℕ) (next : Reading) → c.taken ≡ None → AfterHeadPiece c.limits c.replace bytes piece (Ok None) head next
      → StandsWith c.limits comment c.replace c.stop c.segment (bytes ++ piece) text c.taken head next
  goes_on_before piece head next none after =
      (h.0, after.1, h.2, subst (λ o. StandsAt c.limits comment c.replace (bytes ++ piece) text o head next) (sym none) (after.0, (kept_of none).1))

  -- the bytes after a head that was there before
  pub copies_more : (piece old new : List ℕ) (taken most : ℕ) (result : Result ℕ Stop) → c.limits.input ≡ most → c.taken ≡ Some taken
      → CopiesRest taken most piece result old new → Appends (λ all. AfterCopy c.limits comment c.replace (bytes ++ piece) all result) text old new
  copies_more piece old new taken most result same some copies =
      let k = subst (λ o. StandsAt c.limits comment c.replace bytes text o c.head (reading_of c.reader)) some h.3 in
      copied c.limits comment c.replace bytes text piece old new taken most result same k.0 (less (length bytes) (c.limits.input) h.1) k.1 copies
    where
      less : (m n : ℕ) → m < n → m ≤ n
      less m n l = omega (arith, l)

-- after the head more is needed
pub goes_on_after : (comment bytes piece text head : List ℕ) (taken : ℕ) (c : Insert) (next : Reading) → c.stop ≡ None → c.segment ≡ comment_segment comment
    → AfterCopy c.limits comment c.replace (bytes ++ piece) text (Ok taken)
    → StandsWith c.limits comment c.replace c.stop c.segment (bytes ++ piece) text (Some taken) head next
goes_on_after comment bytes piece text head taken c next stop segment h = (stop, h.1, segment, (h.0, h.2))
