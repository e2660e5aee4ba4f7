-- The text of the comments, piece by piece.
use Rattle.std.proofs.Common.{◌≡◌, ℕ, ◌+◌, ◌<◌, ◌≤◌, true, List, [], ◌∷◌, ◌++◌, length, take, drop, get_or, Ok, Err, sym, ap, ◌∙◌, subst, arith, inl, inr, Result}
use Rattle.std.proofs.lemmas.List.{append_assoc, length-append, take_all, take_more, take-append-le}
use Rattle.jpg_spec.specs.Markers.{kept_rule}
use Rattle.jpg_spec_write.specs.CommentText.{RevealsNothing}
use Rattle.jpg_spec.specs.declared.frame.Limits.{Limits}
use Rattle.jpg_spec.specs.declared.fault.Fault.TheVariants.{InputTooLong}
use Rattle.jpg_base.specs.declared.stop.Fed.{Fed}
use Rattle.jpg_base.specs.declared.stop.Fed.TheVariants as fed
use Rattle.jpg_base.specs.declared.stop.Stop.{Stop}
use Rattle.jpg_base.specs.declared.stop.Stop.TheVariants as stop
use Rattle.jpg_markers.specs.Reading.{Reading, reading_of}
use Rattle.jpg_base.specs.Intake.{FeedsPiece}
use Rattle.jpg_comments.specs.SegmentsSoFar.{IsBegun, AreWholeBefore, Appends}
use Rattle.jpg_comments.specs.Printing.{HoldsWhole, HasPrinted, PrintsBefore, StopsPrinting, printing}
use Rattle.jpg_comments.specs.ReadComments.{HasRead, AfterFeed}
use Rattle.jpg_comments.specs.declared.comments.Comments.{Comments}
use Rattle.jpg_comments.specs.declared.comments.Printing.{Printing}
use Rattle.jpg_comments.proofs.Taken.{appends_as, long_shown, fault_remains, fault_within, begun}
use Rattle.jpg_spec.proofs.Basics.Common.{clash, joined}

-- some bytes after others, and one more
pub one_more : (before bytes some : List ℕ) (n : ℕ) → n < length some → ((before ++ bytes) ++ take n some) ++ get_or some n 0 ∷ [] ≡ before ++ (bytes ++ take (n + 1) some)
one_more before bytes some n less =
    append_assoc (before ++ bytes) (take n some) (get_or some n 0 ∷ []) ∙ ap (λ l. before ++ bytes ++ l) (sym (take_more some n 0 less)) ∙ append_assoc before bytes (take (n + 1) some)

-- A STOP remains
pub printed_remains : (limits : Limits) (bytes rest text : List ℕ) (e : Stop) → StopsPrinting limits bytes text e → StopsPrinting limits (bytes ++ rest) text e
printed_remains limits bytes rest text (stop.Fault f) h = (
  fault_remains limits (HoldsWhole limits) bytes rest f h.0,
  subst (λ l. PrintsBefore limits l f.fault text) (sym (take-append-le f.at bytes rest (fault_within limits (HoldsWhole limits) bytes f h.0))) h.1,
)
printed_remains limits bytes rest text stop.NoMemory h =
    let few = h.within in
    let same = sym (take-append-le h.front bytes rest few) in
    record {
      count = h.count;
      front = h.front;
      before = h.before;
      within = omega (arith, few, length-append bytes rest);
      nothing = subst (λ l. RevealsNothing limits (HoldsWhole limits) l) same h.nothing;
      begun = subst (λ l. IsBegun (kept_rule limits) l h.before) same h.begun;
      is = h.is;
      less = h.less;
    }

-- as many bytes as may be taken
pub printed_long : (limits : Limits) (bytes text : List ℕ) (r : Reading) → limits.input ≤ r.taken → HasPrinted limits bytes text r → StopsPrinting limits bytes text (stop.Fault (record { fault = InputTooLong; at = limits.input }))
printed_long limits bytes text r many h =
    let shown = long_shown limits (HoldsWhole limits) r bytes h.0 h.1 many in
    let long = shown.0 in
    (shown.1, (h.0, subst (λ l. AreWholeBefore limits l InputTooLong h.0) (sym (take_all limits.input bytes (omega (arith, long)))) (inr (begun limits r bytes h.0 h.1.limited h.1.stands)), h.3))

-- what an answer leaves as it was, if it is More
abbrev pub IfMore : Result Fed Stop → Type 0 → Type 0
IfMore (Ok fed.More) P = P
IfMore (Ok (fed.Done used)) P = Unit {0}
IfMore (Err e) P = Unit {0}

module _ (bytes piece text had out : List ℕ) where
  front_stops : (limits : Limits) (n : ℕ) (e : Stop) → Appends (λ t. StopsPrinting limits (bytes ++ take n piece) t e) text had out
      → Appends (λ t. StopsPrinting limits (bytes ++ piece) t e) text had out
  front_stops limits n e h =
      let front = bytes ++ take n piece in
      appends_as (λ t. StopsPrinting limits front t e) (λ t. StopsPrinting limits (bytes ++ piece) t e) text had out h
      (λ t s. subst (λ l. StopsPrinting limits l t e) (sym (joined bytes piece n)) (printed_remains limits front (drop n piece) t e s))

  -- a stop in a piece, as it is returned
  stopped : (next : Comments) (e : Stop) → Appends (λ t. StopsPrinting next.limits (bytes ++ piece) t e) text had out → Appends (λ all. AfterFeed bytes piece all (Err e) next) text had out
  stopped next (stop.Fault f) h = h
  stopped next stop.NoMemory h =
      appends_as (λ t. StopsPrinting next.limits (bytes ++ piece) t stop.NoMemory) (λ all. AfterFeed bytes piece all (Err stop.NoMemory) next) text had out h (λ t s. inr s)

  -- THE ANSWER to a piece

  pub comments_fed : (p : Printing) (old next : Comments) (result answer : Result Fed Stop) → result ≡ answer → HasRead bytes text old
      → next.limits ≡ old.limits → IfMore answer ((next.stop ≡ old.stop) × (next.done ≡ old.done) × (next.ready ≡ true))
      → FeedsPiece (printing p) (old.reader, had) piece result (next.reader, out) → Appends (λ all. AfterFeed bytes piece all result next) text had out
  comments_fed p old next result answer is h limits more feeds =
      subst (λ r. Appends (λ all. AfterFeed bytes piece all r next) text had out) (sym is) (by answer more (subst (λ r. FeedsPiece (printing p) (old.reader, had) piece r (next.reader, out)) is feeds))
    where
      was : HasPrinted next.limits bytes text (reading_of old.reader)
      was = subst (λ l. HasPrinted l bytes text (reading_of old.reader)) (sym limits) h.3

      by : (r : Result Fed Stop) → IfMore r ((next.stop ≡ old.stop) × (next.done ≡ old.done) × (next.ready ≡ true)) → FeedsPiece (printing p) (old.reader, had) piece r (next.reader, out) → Appends (λ all. AfterFeed bytes piece all r next) text had out
      by (Ok fed.More) same ((kept, most, fits, now), room) =
          let k = now next.limits bytes text was in
          let taken = k.2.1.taken in
          let input = ap (λ (l : Limits). l.input) k.2.1.limited in
          (k.0, k.1, (same.0 ∙ h.0, same.1 ∙ h.1, omega (arith, taken, room, most, input), k.2, λ f. absurd (clash next.ready same.2 f)))
      by (Ok (fed.Done used)) same ((kept, most, fits, now), some, few) = let k = now next.limits bytes text was in (k.0, k.1, (k.2, some, few))
      by (Err e) same (n, few, inl (kept, most, fits, now)) = stopped next e (front_stops next.limits n e (now next.limits bytes text was))
      by (Err e) same (n, few, inr ((kept, most, fits, now), full)) =
          let front = bytes ++ take n piece in
          let r = reading_of next.reader in
          stopped next e
          (front_stops next.limits n e
          (appends_as (λ t. HasPrinted next.limits front t r) (λ t. StopsPrinting next.limits front t e) text had out (now next.limits bytes text was)
          (λ t s.
          (let input = sym most ∙ ap (λ (l : Limits). l.input) s.1.limited in
          subst (λ x. StopsPrinting next.limits front t x) (sym (full.1 ∙ ap (λ m. stop.Fault (record { fault = InputTooLong; at = m })) input)) (printed_long next.limits front t r (subst (λ m. m ≤ r.taken) input full.0) s)))))
