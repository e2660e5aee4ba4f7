-- What the bytes read from a file mean for the comments that were printed.
use Rattle.std.proofs.Common.{◌⊎◌, ◌≡◌, ℕ, zero, suc, ◌+◌, ◌<◌, ◌≤◌, List, [], ◌∷◌, ◌++◌, length, take, Bool, Result, Ok, Err, true, false, refl, sym, ap, ◌∙◌, subst, arith, inl, inr}
use Rattle.std.proofs.lemmas.List.{append-nil, length-append, take_all, take-append-le}
use Rattle.std.proofs.Math.Seq.{take-append-add}
use Rattle.jpg_spec.proofs.Basics.Common.{clash}
use Rattle.jpg_spec.specs.Segments.{standard_limits}
use Rattle.jpg_spec.specs.Markers.{Segment, kept_rule, SegmentsReveal}
use Rattle.jpg_spec_write.specs.CommentText.{comments_text, IsMarkerFault, IsReadFault, IsReadWhole, RevealsNothing}
use Rattle.jpg_spec.specs.declared.fault.Fault.{Fault}
use Rattle.jpg_spec.specs.declared.fault.Fault.TheVariants.{Truncated}
use Rattle.jpg_spec.specs.declared.fault.FaultAt.{FaultAt}
use Rattle.jpg_spec_words.specs.declared.answers.Why.{Why}
use Rattle.jpg_spec_words.specs.declared.answers.Why.TheVariants as why
use Rattle.jpg_spec.specs.declared.frame.Limits.{Limits}
use Rattle.jpg_comments.specs.SegmentsSoFar.{AreWholeBefore}
use Rattle.jpg_comments.specs.Printing.{HoldsWhole, HasPrinted, PrintsBefore, PrintsPart, PrintsWhole}
use Rattle.jpg_comments.specs.ReadComments.{AfterFeed, HasRead, StopsAt}
use Rattle.jpg_comments.specs.declared.comments.Comments.{Comments}
use Rattle.jpg_markers.specs.Reading.{reading_of}
use Rattle.jpg_comments.proofs.Taken.{begun, upto}
use Rattle.jpg_base.specs.declared.stop.Stop.{Stop}
use Rattle.jpg_base.specs.declared.stop.Stop.TheVariants as stop
use Rattle.jpg_desk.specs.Pump.{why_stopped}
use Rattle.jpg_cli.specs.Tools.ReadComments.{AfterEnd, AfterTaking, AreCompleteSegments, IsFaultText, IsTextLess, IsTextPart, IsTextSoFar, IsWholeText}

-- PREFIXES

-- a first part of a first part
pub take_again : (k n : ℕ) (xs : List ℕ) → (m : ℕ) × (take k (take n xs) ≡ take m xs)
take_again zero n xs = (0, refl)
take_again (suc k) zero xs = (0, refl)
take_again (suc k) (suc n) [] = (0, refl)
take_again (suc k) (suc n) (x ∷ xs) = (let h = take_again k n xs in (suc h.0, ap (λ (ys : List ℕ). x ∷ ys) h.1))

-- BYTES SO FAR

printed_so_far : (bytes text : List ℕ) (c : Comments) → c.limits ≡ standard_limits → HasRead bytes text c → HasPrinted standard_limits bytes text (reading_of c.reader)
printed_so_far bytes text c e h = subst (λ l. HasPrinted l bytes text (reading_of c.reader)) e h.3

pub text_so_far : (bytes text : List ℕ) (c : Comments) → c.limits ≡ standard_limits → HasRead bytes text c → IsTextSoFar bytes text
text_so_far bytes text c e h =
    let p = printed_so_far bytes text c e h in
    record {
      before = p.0;
      short = subst (λ (l : Limits). length bytes < l.input) e h.2;
      nothing = p.1.nothing;
      begun = begun standard_limits (reading_of c.reader) bytes p.0 p.1.limited p.1.stands;
      is = p.3;
    }

-- A PIECE

pub whole_text : (bytes piece text : List ℕ) (used : ℕ) (limits : Limits) → limits ≡ standard_limits → length piece ≤ 65536
    → PrintsWhole limits (bytes ++ take used piece) text × (1 ≤ used) × (used ≤ length piece) → IsWholeText (bytes ++ piece) text
whole_text bytes piece text used limits e short h =
    let p = subst (λ l. PrintsWhole l (bytes ++ take used piece) text) e h.0 in
    let some = h.1 in let within = h.2 in
    record {
      count = length bytes + used;
      before = p.0;
      within = omega (arith, within, length-append bytes piece);
      last = omega (arith, some, short, length-append bytes piece);
      whole = subst (λ l. IsReadWhole standard_limits l p.0) (sym (take-append-add bytes piece used)) p.1;
      is = p.2;
    }

-- a fault of a file is in its bytes
pub fault_within : (is_whole : List ℕ → Type 0) (bytes : List ℕ) (f : Fault) (n : ℕ) → IsMarkerFault standard_limits is_whole bytes f n → n ≤ length bytes
fault_within is_whole bytes f n (w, inl h) = h.1.0
fault_within is_whole bytes f n (w, inr (inl h)) = (let e = h.1 in let l = h.2 in omega (arith, e, l))
fault_within is_whole bytes f n (w, inr (inr h)) = (let e = h.1 in omega (arith, e))

-- a fault is in the last piece
pub fault_last : (is_whole : List ℕ → Type 0) (bytes piece : List ℕ) (f : FaultAt) → RevealsNothing standard_limits is_whole bytes → length bytes < standard_limits.input → length piece ≤ 65536
    → IsMarkerFault standard_limits is_whole ((bytes ++ piece) ++ []) f.fault f.at → length (bytes ++ piece) < f.at + 65536
fault_last is_whole bytes piece f nothing less short (w, inl h) = by (upto f.at (length bytes))
  where
    by : (f.at ≤ length bytes) ⊎ (length bytes < f.at) → length (bytes ++ piece) < f.at + 65536
    by (inl l) =
        let e : take f.at ((bytes ++ piece) ++ []) ≡ take f.at bytes = ap (take f.at) (append-nil (bytes ++ piece)) ∙ take-append-le f.at bytes piece l in
        absurd ((nothing f.at l).0 f.fault (subst (λ (b : List ℕ). SegmentsReveal (kept_rule standard_limits) f.fault b) e h.1.1))
    by (inr l) = omega (arith, l, short, length-append bytes piece)
fault_last is_whole bytes piece f nothing less short (w, inr (inl h)) = (let e = h.1 in omega (arith, e, less, short, length-append bytes piece))
fault_last is_whole bytes piece f nothing less short (w, inr (inr h)) = (let e = h.1 in omega (arith, e, length-append (bytes ++ piece) []))

pub fault_text : (bytes piece had text : List ℕ) (f : FaultAt) (c : Comments) (limits : Limits) → c.limits ≡ standard_limits → limits ≡ standard_limits → HasRead bytes had c → length piece ≤ 65536
    → ((rest : List ℕ) → IsReadFault limits (bytes ++ piece ++ rest) f.fault f.at) × PrintsBefore limits (take f.at (bytes ++ piece)) f.fault text → (rest : List ℕ) → IsFaultText f rest (bytes ++ piece) text
fault_text bytes piece had text f c limits same e r short h rest =
    let of : (r : List ℕ) → IsReadFault standard_limits ((bytes ++ piece) ++ r) f.fault f.at = λ r.
    subst (λ (l : Limits). IsReadFault l ((bytes ++ piece) ++ r) f.fault f.at) e (h.0 r) in
    let p = subst (λ (l : Limits). PrintsBefore l (take f.at (bytes ++ piece)) f.fault text) e h.1 in
    let so = text_so_far bytes had c same r in
    let less = subst (λ (l : Limits). length bytes < l.input) same r.2 in
    let within : f.at ≤ length (bytes ++ piece) = omega (arith, fault_within (HoldsWhole standard_limits) ((bytes ++ piece) ++ []) f.fault f.at (of []), length-append (bytes ++ piece) []) in
    record { before = p.0; fault = of rest; within = within; last = fault_last (HoldsWhole standard_limits) bytes piece f so.nothing less short (of []); whole = p.1; is = p.2 }

-- where there is no memory for all of the text; a reader that has its memory isn't without it
pub less_text : (bytes piece text : List ℕ) (c : Comments) → c.limits ≡ standard_limits → c.ready ≡ true → AfterFeed bytes piece text (Err stop.NoMemory) c → IsTextLess (bytes ++ piece) text
less_text bytes piece text c e ready (inl h) = absurd (clash c.ready ready h.0)
less_text bytes piece text c e ready (inr h) =
    let p = subst (λ (l : Limits). PrintsPart l (bytes ++ piece) text) e h in
    record { front = p.front; count = p.count; before = p.before; within = p.within; nothing = p.nothing; begun = p.begun; is = p.is; less = p.less }

pub stop_text : (bytes piece had text : List ℕ) (end : Stop) (old new : Comments) → old.limits ≡ standard_limits → new.limits ≡ standard_limits → new.ready ≡ true → HasRead bytes had old → length piece ≤ 65536 → AfterFeed bytes piece text (Err end) new
    → AfterTaking (bytes ++ piece) text (Err (why_stopped end)) new
stop_text bytes piece had text (stop.Fault f) old new same e ready r short h = fault_text bytes piece had text f old new.limits same e r short h
stop_text bytes piece had text stop.NoMemory old new same e ready r short h = less_text bytes piece text new e ready h

-- THE END

pub no_fault_shown : (is_whole : List ℕ → Type 0) (bytes : List ℕ) (f : FaultAt) → RevealsNothing standard_limits is_whole bytes → length bytes < standard_limits.input → IsMarkerFault standard_limits is_whole bytes f.fault f.at → f.at ≡ length bytes
no_fault_shown is_whole bytes f nothing short (w, inl h) = absurd ((nothing f.at h.1.0).0 f.fault h.1.1)
no_fault_shown is_whole bytes f nothing short (w, inr (inl h)) = absurd (let l = h.2 in omega (arith, l, short))
no_fault_shown is_whole bytes f nothing short (w, inr (inr h)) = h.1

pub end_text : (bytes text : List ℕ) (c : Comments) (end : Stop) → c.limits ≡ standard_limits → HasRead bytes text c → StopsAt c.limits bytes end → AfterEnd bytes text (why_stopped end)
end_text bytes text c stop.NoMemory e h s = absurd s
end_text bytes text c (stop.Fault f) e h s =
    let so = text_so_far bytes text c e h in
    let fault = subst (λ (l : Limits). IsReadFault l bytes f.fault f.at) e s in
    let short = subst (λ (l : Limits). length bytes < l.input) e h.2 in
    let at = no_fault_shown (HoldsWhole standard_limits) bytes f so.nothing short fault in
    record {
      before = so.before;
      fault = subst (λ (l : List ℕ). IsReadFault standard_limits l f.fault f.at) (sym (append-nil bytes)) fault;
      within = omega (arith, at);
      last = omega (arith, at);
      whole = subst (λ (l : List ℕ). AreWholeBefore standard_limits l f.fault so.before) (sym (ap (λ (n : ℕ). take n bytes) at ∙ take_all (length bytes) bytes (omega arith))) (inr so.begun);
      is = so.is;
    }

-- FIRST PARTS

pub part_of_part : (bytes text : List ℕ) (k : ℕ) → IsTextPart bytes text → IsTextPart bytes (take k text)
part_of_part bytes text k h =
    let again = take_again k h.count (comments_text h.before) in
    record { front = h.front; count = again.0; before = h.before; whole = h.whole; is = ap (take k) h.is ∙ again.1 }

all_of : (front : ℕ) (bytes text : List ℕ) (before : List Segment) → AreCompleteSegments (take front bytes) before → text ≡ comments_text before → IsTextPart bytes text
all_of front bytes text before whole is = record {
  front = front;
  count = length (comments_text before);
  before = before;
  whole = whole;
  is = is ∙ sym (take_all (length (comments_text before)) (comments_text before) (omega arith));
}

so_far_part : (bytes text : List ℕ) → IsTextSoFar bytes text → IsTextPart bytes text
so_far_part bytes text h = all_of (length bytes) bytes text h.before (subst (λ (l : List ℕ). AreCompleteSegments l h.before) (sym (take_all (length bytes) bytes (omega arith))) (inr (Truncated, inr h.begun))) h.is

whole_part : (bytes text : List ℕ) → IsWholeText bytes text → IsTextPart bytes text
whole_part bytes text h = all_of h.count bytes text h.before (inl h.whole) h.is

fault_part : (bytes text : List ℕ) (f : FaultAt) → IsFaultText f [] bytes text → IsTextPart bytes text
fault_part bytes text f h =
    all_of f.at bytes text h.before (inr (f.fault, h.whole)) h.is

-- what was taken is a first part
pub taken_part : (bytes text : List ℕ) (due : Result Bool Why) (c : Comments) → c.limits ≡ standard_limits → AfterTaking bytes text due c → IsTextPart bytes text
taken_part bytes text (Ok false) c e h = so_far_part bytes text (text_so_far bytes text c e h)
taken_part bytes text (Ok true) c e h = whole_part bytes text h
taken_part bytes text (Err (why.Refused f)) c e h = fault_part bytes text f (h [])
taken_part bytes text (Err why.NoMemory) c e h = record { front = h.front; count = h.count; before = h.before; whole = inr (Truncated, inr h.begun); is = h.is }
taken_part bytes text (Err other) c e h = absurd h
