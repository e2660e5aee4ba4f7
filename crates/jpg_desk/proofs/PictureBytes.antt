-- What the bytes read from a file mean for the picture in it.
use Rattle.std.proofs.Common.{◌≡◌, ℕ, ◌+◌, ◌<◌, ◌≤◌, List, [], ◌++◌, length, take, drop, refl, sym, ap, ◌∙◌, subst, arith, inl, inr, ◌⊎◌, Option, Some, None, Ok, Err, Bool, true, false}
use Rattle.std.specs.List.{All}
use Rattle.std.proofs.lemmas.List.Elements.{All-nil}
use Rattle.std.proofs.lemmas.List.{append-nil, append_assoc, length-append, take-append-drop}
use Rattle.std.proofs.lemmas.Bool.{cases_lt}
use Rattle.std.proofs.Math.Seq.{take-append-add}
use Rattle.jpg_base.specs.declared.stop.Stop.{Stop}
use Rattle.jpg_spec.specs.Segments.{standard_limits}
use Rattle.jpg_spec.specs.FirstFault.{IsFirstFault}
use Rattle.jpg_spec.specs.UnfinishedFile.{UnfinishedFile}
use Rattle.jpg_spec.specs.declared.fault.Fault.{Fault}
use Rattle.jpg_spec.specs.Early.{IsMeaning, MeansEarly}
use Rattle.jpg_spec.specs.FileMeaning.{meaning_of}
use Rattle.jpg_spec.specs.InForce.{frame_of}
use Rattle.jpg_spec.specs.Meaning.{Meaning}
use Rattle.jpg_spec_image.specs.NotShown.{IsNotShown}
use Rattle.jpg_spec_image.specs.Pixels.{out_fault}
use Rattle.jpg_spec.specs.declared.fault.FaultAt.{FaultAt}
use Rattle.jpg_spec_words.specs.declared.answers.Why.TheVariants as why
use Rattle.jpg_spec.specs.declared.frame.Limits.{Limits}
use Rattle.jpg_spec.proofs.Files.FileLaws.{shown_not_standing}
use Rattle.jpg_spec_image.proofs.ShownAlike.{shown_alike}
use Rattle.jpg_base.specs.declared.stop.Stop.TheVariants as stop
use Rattle.jpg_file.specs.Read.FirstHeader.{IsFirstHeaderOf}
use Rattle.jpg_file.specs.declared.read.ends.End.TheVariants as ends
use Rattle.jpg_file.specs.Read.ReadFile.{AfterEnd, AfterFeed, HasRead, IsDone, IsRefusal, IsStopOf, KeepsHeadAt, ReaderState, StopsAt, head_seen}
use Rattle.jpg_file.specs.declared.read.first_header.Head.{Head}
use Rattle.jpg_file.proofs.Files.FileSteps.{counted}
use Rattle.jpg_desk.specs.ReadPicture.{AfterFileEnd, AfterTakingPiece, HasFed, HoldsEarly, HoldsFile, IsOpenRead, IsRefused, IsRefusedFor, IsRefusedRead, IsShortRead, IsUnwanted, step_unless, unwanted_for, unwanted_in, Wanted, Coefficients, Image}
use Rattle.jpg_desk.specs.Pump.{why_stopped}
use Rattle.jpg_desk.proofs.Unwanted.{done_unwanted, done_wanted, head_of, no_header, stop_unwanted, stop_wanted, unwanted_first, unwanted_head, unwanted_less, unwanted_more, unwanted_within, wanted_head}

-- BYTES SO FAR

short_so_far : (bytes : List ℕ) (r : ReaderState) → r.limits ≡ standard_limits → HasRead bytes r → length bytes < standard_limits.input
short_so_far bytes r e h = subst (λ (l : Limits). length bytes < l.input) e h.short

pub has_fed : (w : Wanted) (bytes : List ℕ) (r : ReaderState) → r.limits ≡ standard_limits → All (λ b. b < 256) bytes → unwanted_in w (head_seen r) ≡ None → HasRead bytes r → HasFed w r bytes
has_fed w bytes r e small none h =
    let head = subst (λ (l : Limits). IsFirstHeaderOf l bytes r.file.head) e h.head in
    record { read = h; taken = counted r.limits bytes r.file h.open; short = short_so_far bytes r e h; small = small; wanted = wanted_head w bytes r.file.head head none }

-- before any byte
pub fed_none : (w : Wanted) (r : ReaderState) → r.limits ≡ standard_limits → HasRead [] r → HasFed w r []
fed_none w r e h =
    record { read = h; taken = counted r.limits [] r.file h.open; short = short_so_far [] r e h; small = All-nil (λ b. b < 256); wanted = λ f k. none_there w f k }
  where
    none_there : (w : Wanted) (f : FaultAt) → IsUnwanted w [] f → ⊥
    none_there Coefficients f k = k
    none_there (Image gray) f s = no_header s.before s.contents f.at s.header

pub open_so_far : (w : Wanted) (bytes : List ℕ) (r : ReaderState) → r.limits ≡ standard_limits → HasFed w r bytes → IsOpenRead w bytes
open_so_far w bytes r e h = record { short = h.short; stands = subst (λ (l : Limits). UnfinishedFile l bytes) e h.read.stands; wanted = h.wanted }

-- A PIECE

holds_done : (w : Wanted) (bytes piece : List ℕ) (used : ℕ) (r : ReaderState) → length piece ≤ 65536 → All (λ b. b < 256) (bytes ++ piece) → (1 ≤ used) → (used ≤ length piece) → (d : IsDone (take (length bytes + used) (bytes ++ piece)) r)
    → unwanted_for w d.meaning ≡ None → HoldsFile w r (bytes ++ piece)
holds_done w bytes piece used r short small some within d wanted = record {
  count = length bytes + used;
  within = omega (arith, within, length-append bytes piece);
  last = omega (arith, some, short, length-append bytes piece);
  done = d;
  small = small;
  wanted = wanted;
}

pub holds_file : (w : Wanted) (bytes piece : List ℕ) (used : ℕ) (r : ReaderState) → r.limits ≡ standard_limits → length piece ≤ 65536 → All (λ b. b < 256) (bytes ++ piece) → unwanted_in w (head_seen r) ≡ None
    → IsDone (bytes ++ take used piece) r × (1 ≤ used) × (used ≤ length piece) → HoldsFile w r (bytes ++ piece)
holds_file w bytes piece used r e short small none h =
    let d = subst (λ (l : List ℕ). IsDone l r) (sym (take-append-add bytes piece used)) h.0 in
    holds_done w bytes piece used r short small h.1 h.2 d (done_wanted w (take (length bytes + used) (bytes ++ piece)) r e d none)

pub short_piece : (w : Wanted) (bytes piece : List ℕ) (r : ReaderState) → r.limits ≡ standard_limits → HasFed w r bytes → length piece ≤ 65536 → IsShortRead w (bytes ++ piece)
short_piece w bytes piece r e h short = record { front = bytes; piece = piece; cut = refl; few = short; before = open_so_far w bytes r e h }

-- A REFUSAL of a piece, whose reason is in the piece

-- what isn't wanted now wasn't there before
pub new_place : (w : Wanted) (bytes piece : List ℕ) (r : ReaderState) (f : FaultAt) → HasFed w r bytes → IsUnwanted w (bytes ++ piece) f → length bytes < f.at
new_place w bytes piece r f h k = by (cases_lt (length bytes) f.at)
  where
    by : (length bytes < f.at) ⊎ (f.at ≤ length bytes) → length bytes < f.at
    by (inl more) = more
    by (inr few) = absurd (h.wanted f (unwanted_less w bytes piece (bytes ++ piece) f refl few k))

pub refused_there : (w : Wanted) (bytes piece rest : List ℕ) (f : FaultAt) → length piece ≤ 65536 → f.at ≤ length (bytes ++ piece) → length bytes < f.at → IsRefusedFor w ((bytes ++ piece) ++ rest) f → IsRefusedRead w f rest (bytes ++ piece)
refused_there w bytes piece rest f short within behind refused = record { refused = refused; within = within; last = omega (arith, behind, short, length-append bytes piece) }

-- if the reader goes on, or is complete
pub unwanted_piece : (w : Wanted) (bytes piece : List ℕ) (old r : ReaderState) (f : FaultAt) → r.limits ≡ standard_limits → HasFed w old bytes → length piece ≤ 65536 → HasRead (bytes ++ piece) r → unwanted_in w (head_seen r) ≡ Some f
    → (rest : List ℕ) → IsRefusedRead w f rest (bytes ++ piece)
unwanted_piece w bytes piece old r f e h short read told rest =
    let all = bytes ++ piece in
    let k = unwanted_head w all r.file.head f (subst (λ (l : Limits). IsFirstHeaderOf l all r.file.head) e read.head) told in
    refused_there w bytes piece rest f short (unwanted_within w all f k) (new_place w bytes piece old f h k) (unwanted_first w all rest r f e read k)

pub unwanted_whole : (w : Wanted) (bytes piece : List ℕ) (used : ℕ) (old r : ReaderState) (f : FaultAt) → r.limits ≡ standard_limits → HasFed w old bytes → length piece ≤ 65536 → IsDone (bytes ++ take used piece) r → unwanted_in w (head_seen r) ≡ Some f
    → (rest : List ℕ) → IsRefusedRead w f rest (bytes ++ piece)
unwanted_whole w bytes piece used old r f e h short done told rest =
    let front = bytes ++ take used piece in
    let left = drop used piece in
    let cut : front ++ left ≡ bytes ++ piece = append_assoc bytes (take used piece) left ∙ ap (λ l. bytes ++ l) (take-append-drop used piece) in
    let k = unwanted_head w front r.file.head f (subst (λ (l : Limits). IsFirstHeaderOf l front r.file.head) e done.head) told in
    let there = subst (λ l. IsUnwanted w l f) cut (unwanted_more w front left f k) in
    let first = subst (λ l. IsRefusedFor w l f) (sym (append_assoc front left rest) ∙ ap (λ l. l ++ rest) cut) (done_unwanted w front (left ++ rest) r f e done k) in
    refused_there w bytes piece rest f short (unwanted_within w (bytes ++ piece) f there) (new_place w bytes piece old f h there) first

-- a fault of bytes is in them
fault_within : (limits : Limits) (bytes : List ℕ) (f : Fault) (n : ℕ) → IsFirstFault limits bytes f n → n ≤ length bytes
fault_within limits bytes f n (inl h) = h.1.0
fault_within limits bytes f n (inr (inl h)) = (let e = h.1 in let l = h.2 in omega (arith, e, l))
fault_within limits bytes f n (inr (inr h)) = (let e = h.1 in omega (arith, e))

pub stop_within : (bytes : List ℕ) (f : FaultAt) → IsStopOf standard_limits bytes f → f.at ≤ length bytes
stop_within bytes f k = (let low = inside (k []) in omega (arith, low, length-append bytes []))
  where
    inside : IsRefused (bytes ++ []) f → f.at ≤ length (bytes ++ [])
    inside s = fault_within standard_limits (bytes ++ []) f.fault f.at s

-- if the reader stopped
pub refused_piece : (w : Wanted) (bytes piece : List ℕ) (o : Option Head) (f : FaultAt) → length piece ≤ 65536 → IsStopOf standard_limits (bytes ++ piece) f × (length bytes < f.at) × KeepsHeadAt standard_limits (bytes ++ piece) f o
    → unwanted_in w (head_of o) ≡ None → (rest : List ℕ) → IsRefusedRead w f rest (bytes ++ piece)
refused_piece w bytes piece o f short h none rest =
    let within = stop_within (bytes ++ piece) f h.0 in
    refused_there w bytes piece rest f short within h.1 (stop_wanted w (bytes ++ piece) rest o f within h.2 none (h.0 rest))

pub unwanted_stop : (w : Wanted) (bytes piece : List ℕ) (old : ReaderState) (o : Option Head) (f g : FaultAt) → HasFed w old bytes → length piece ≤ 65536
    → IsStopOf standard_limits (bytes ++ piece) f × (length bytes < f.at) × KeepsHeadAt standard_limits (bytes ++ piece) f o → unwanted_in w (head_of o) ≡ Some g → (rest : List ℕ) → IsRefusedRead w g rest (bytes ++ piece)
unwanted_stop w bytes piece old o f g h short s told rest = by s.2
  where
    all : List ℕ
    all = bytes ++ piece

    of : (n : ℕ) → n ≤ f.at → IsFirstHeaderOf standard_limits (take n all) o → IsRefusedRead w g rest all
    of n few head =
        let k = unwanted_head w (take n all) o g head told in
        let there = subst (λ l. IsUnwanted w l g) (take-append-drop n all) (unwanted_more w (take n all) (drop n all) g k) in
        refused_there w bytes piece rest g short (unwanted_within w all g there) (new_place w bytes piece old g h there) (stop_unwanted w all rest n f g few k (s.0 rest))

    by : KeepsHeadAt standard_limits all f o → IsRefusedRead w g rest all
    by (inl head) = of f.at (omega arith) head
    by (inr (m, at, head, stop)) = of m (omega (arith, at)) head

-- BY THE first scan header

pub more_or : (w : Wanted) (bytes piece : List ℕ) (old r : ReaderState) (o : Option FaultAt) → r.limits ≡ standard_limits → HasFed w old bytes → length piece ≤ 65536 → All (λ b. b < 256) (bytes ++ piece) → HasRead (bytes ++ piece) r
    → unwanted_in w (head_seen r) ≡ o → AfterTakingPiece w (bytes ++ piece) (step_unless o (Ok false)) r
more_or w bytes piece old r None e h short small read told = has_fed w (bytes ++ piece) r e small told read
more_or w bytes piece old r (Some f) e h short small read told = λ rest. unwanted_piece w bytes piece old r f e h short read told rest

pub whole_or : (w : Wanted) (bytes piece : List ℕ) (used : ℕ) (old r : ReaderState) (o : Option FaultAt) → r.limits ≡ standard_limits → HasFed w old bytes → length piece ≤ 65536 → All (λ b. b < 256) (bytes ++ piece)
    → IsDone (bytes ++ take used piece) r × (1 ≤ used) × (used ≤ length piece) → unwanted_in w (head_seen r) ≡ o → AfterTakingPiece w (bytes ++ piece) (step_unless o (Ok true)) r
whole_or w bytes piece used old r None e h short small done told = holds_file w bytes piece used r e short small told done
whole_or w bytes piece used old r (Some f) e h short small done told = λ rest. unwanted_whole w bytes piece used old r f e h short done.0 told rest

pub fault_or : (w : Wanted) (bytes piece : List ℕ) (old r : ReaderState) (f : FaultAt) (o : Option FaultAt) → r.limits ≡ standard_limits → HasFed w old bytes → length piece ≤ 65536
    → IsStopOf r.limits (bytes ++ piece) f × (length bytes < f.at) × KeepsHeadAt r.limits (bytes ++ piece) f r.file.head → unwanted_in w (head_seen r) ≡ o
    → AfterTakingPiece w (bytes ++ piece) (step_unless o (Err (why.Refused f))) r
fault_or w bytes piece old r f o e h short s told = by o told
  where
    stop : IsStopOf standard_limits (bytes ++ piece) f × (length bytes < f.at) × KeepsHeadAt standard_limits (bytes ++ piece) f r.file.head
    stop = subst (λ (l : Limits). IsStopOf l (bytes ++ piece) f × (length bytes < f.at) × KeepsHeadAt l (bytes ++ piece) f r.file.head) e s

    by : (o : Option FaultAt) → unwanted_in w (head_seen r) ≡ o → AfterTakingPiece w (bytes ++ piece) (step_unless o (Err (why.Refused f))) r
    by None told = λ rest. refused_piece w bytes piece r.file.head f short stop told rest
    by (Some g) told = λ rest. unwanted_stop w bytes piece old r.file.head f g h short stop told rest

-- if it stops, where nothing is unwanted
pub stop_or : (w : Wanted) (bytes piece : List ℕ) (old r : ReaderState) (s : Stop) → old.limits ≡ standard_limits → r.limits ≡ standard_limits → HasFed w old bytes → length piece ≤ 65536 → AfterFeed bytes piece (Err s) r → unwanted_in w (head_seen r) ≡ None
    → AfterTakingPiece w (bytes ++ piece) (Err (why_stopped s)) r
stop_or w bytes piece old r (stop.Fault f) d e h short k told = fault_or w bytes piece old r f None e h short k told
stop_or w bytes piece old r stop.NoMemory d e h short k told = short_piece w bytes piece old d h short

-- WHAT BYTES MEAN can be displayed, if nothing in them says that it can't
pub can_be_shown : (gray : Bool) (bytes : List ℕ) (M : Meaning) → IsMeaning standard_limits bytes M → ((f : FaultAt) → IsNotShown standard_limits gray bytes f → ⊥) → out_fault gray M ≡ None
can_be_shown gray bytes M means shown = by (out_fault gray M) refl
  where
    by : (o : Option Fault) → out_fault gray M ≡ o → o ≡ None
    by None same = refl
    by (Some fault) same = let t = (shown_alike standard_limits gray bytes M means).told fault same in absurd (shown t.0 t.1)

-- THE END

pub fault_at_end : (bytes : List ℕ) (f : Fault) (n : ℕ) → UnfinishedFile standard_limits bytes → length bytes < standard_limits.input → IsFirstFault standard_limits bytes f n → n ≡ length bytes
fault_at_end bytes f n stands short (inl k) = absurd (shown_not_standing standard_limits f (take n bytes) (drop n bytes) bytes k.1.1 stands (take-append-drop n bytes))
fault_at_end bytes f n stands short (inr (inl k)) = let long = k.2 in absurd (omega (arith, long, short))
fault_at_end bytes f n stands short (inr (inr k)) = k.1

pub refused_end : (w : Wanted) (bytes : List ℕ) (r : ReaderState) (f : FaultAt) → r.limits ≡ standard_limits → HasFed w r bytes → StopsAt r.limits bytes (stop.Fault f) → AfterFileEnd w bytes (why.Refused f)
refused_end w bytes r f e h s =
    let so = open_so_far w bytes r e h in
    let first = subst (λ (l : Limits). IsRefusal l bytes f) e s in
    let at = fault_at_end bytes f.fault f.at so.stands so.short first in
    record {
      refused = inl (
        subst (λ (l : List ℕ). IsRefusal standard_limits l f) (sym (append-nil bytes)) first,
        λ g k. absurd (h.wanted g (subst (λ (l : List ℕ). IsUnwanted w l g) (append-nil bytes) k)),
      );
      within = omega (arith, at);
      last = omega (arith, at);
    }

pub early_end : (w : Wanted) (bytes : List ℕ) (r new : ReaderState) (n : ℕ) → new.limits ≡ standard_limits → HasFed w r bytes → AfterEnd bytes (ends.Early n) new → HoldsEarly w new n bytes
early_end w bytes r new n e h (count, early) = record { count = count; ended = early; small = h.small; wanted = by w h.wanted }
  where
    M : Meaning
    M = meaning_of (frame_of new.limits early.segments) early.segments early.blocks

    means : IsMeaning standard_limits bytes (meaning_of (frame_of new.limits early.segments) early.segments early.blocks)
    means = inr (subst (λ (l : Limits). MeansEarly l bytes (meaning_of (frame_of new.limits early.segments) early.segments early.blocks)) e early.early)

    by : (w : Wanted) → ((f : FaultAt) → IsUnwanted w bytes f → ⊥) → unwanted_for w M ≡ None
    by Coefficients shown = refl
    by (Image gray) shown = can_be_shown gray bytes M means shown

pub stop_end : (w : Wanted) (bytes : List ℕ) (r : ReaderState) (s : Stop) → r.limits ≡ standard_limits → HasFed w r bytes → StopsAt r.limits bytes s → AfterFileEnd w bytes (why_stopped s)
stop_end w bytes r (stop.Fault f) e h s = refused_end w bytes r f e h s
stop_end w bytes r stop.NoMemory e h s = absurd s
