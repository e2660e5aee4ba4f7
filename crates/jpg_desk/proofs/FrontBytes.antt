-- What the bytes read from a file mean for the front of it.
use Rattle.std.proofs.Common.{◌≡◌, ℕ, suc, ◌+◌, ◌<◌, ◌≤◌, Bool, List, [], ◌++◌, length, take, drop, refl, sym, ap, ◌∙◌, subst, arith, inl, inr, ◌⊎◌, Option, Some, None, Ok, Err, true, false}
use Rattle.std.specs.List.{All}
use Rattle.std.proofs.Math.Seq.{take_all, take-append-add}
use Rattle.std.proofs.lemmas.Bool.{cases_lt}
use Rattle.std.proofs.lemmas.List.{append-nil, append_assoc, length-append, length-take-le, take-append-drop, take-append-le}
use Rattle.jpg_spec.specs.Early.{IsMeaning, MeansEarly}
use Rattle.jpg_spec.specs.FileMeaning.{meaning_of}
use Rattle.jpg_spec.specs.InForce.{frame_of}
use Rattle.jpg_spec.specs.Meaning.{Meaning}
use Rattle.jpg_spec.specs.Segments.{standard_limits}
use Rattle.jpg_spec.specs.UnfinishedFile.{IsWholeFile}
use Rattle.jpg_spec.specs.declared.fault.FaultAt.{FaultAt}
use Rattle.jpg_spec.specs.declared.frame.Limits.{Limits}
use Rattle.jpg_spec_image.specs.Front.{EndsNotBefore, EndsScan, IsFront}
use Rattle.jpg_spec_image.specs.NotShown.{IsNotShown}
use Rattle.jpg_spec_image.proofs.Fronts.{front_cut, one_front}
use Rattle.jpg_base.specs.declared.stop.Stop.{Stop}
use Rattle.jpg_base.specs.declared.stop.Stop.TheVariants as stop
use Rattle.jpg_file.specs.Read.FirstHeader.{IsFirstHeaderOf}
use Rattle.jpg_file.specs.Read.File.{IsStop}
use Rattle.jpg_file.specs.Read.ReadFile.{AfterEnd, HasRead, IsDone, IsEarlyEnd, KeepsHeadAt, ReaderState, StopsAt, head_seen}
use Rattle.jpg_file.specs.declared.read.ends.End.TheVariants as ends
use Rattle.jpg_file.specs.declared.read.first_header.Head.{Head}
use Rattle.jpg_preview.specs.Viewing.{AfterStop, HasViewed, IsFrontOf, IsShown, PreviewState, StopsFront}
use Rattle.jpg_preview.proofs.FrontFound.{never_without}
use Rattle.jpg_preview.proofs.FrontShown.{shown_front}
use Rattle.jpg_preview.proofs.ViewSteps.{fault_place}
use Rattle.jpg_desk.specs.Pump.{why_stopped}
use Rattle.jpg_desk.specs.ReadFront.{AfterFrontEnd, AfterTakingFront, EndsNoScan, HasFedFront, HoldsEarlyFront, IsFrontRefused, IsFrontRefusedRead, IsOpenFront, IsShortFront}
use Rattle.jpg_desk.specs.ReadPicture.{HasFed, IsRefused, IsRefusedFor, IsUnwanted, step_unless, unwanted_in, Image}
use Rattle.jpg_spec_words.specs.declared.answers.Why.TheVariants as why
use Rattle.jpg_desk.proofs.Judged.{none_faulty}
use Rattle.jpg_desk.proofs.PictureBytes.{early_end, fed_none, has_fed, new_place, open_so_far, refused_end}
use Rattle.jpg_desk.proofs.Unwanted.{done_unwanted, head_of, stop_unwanted, stop_wanted, unwanted_first, unwanted_head, unwanted_more, unwanted_within, wanted_head}

-- FIRST BYTES that two lists share

begins_alike : (bytes rest front more : List ℕ) (n : ℕ) → bytes ++ rest ≡ front ++ more → n ≤ length bytes → n ≤ length front → take n front ≡ take n bytes
begins_alike bytes rest front more n e low few = sym (take-append-le n front more few) ∙ ap (take n) (sym e) ∙ take-append-le n bytes rest low

begins_so : (bytes rest front more : List ℕ) (n : ℕ) → bytes ++ rest ≡ front ++ more → n ≤ length bytes → n ≤ length front → front ≡ take n bytes ++ drop n front
begins_so bytes rest front more n e low few = sym (take-append-drop n front) ∙ ap (λ l. l ++ drop n front) (begins_alike bytes rest front more n e low few)

fewer_of : (bytes : List ℕ) (n m : ℕ) → n ≤ m → m ≤ length bytes → take n (take m bytes) ≡ take n bytes
fewer_of bytes n m low within =
    let size = length-take-le m bytes within in sym (take-append-le n (take m bytes) (drop m bytes) (omega (arith, low, size))) ∙ ap (take n) (take-append-drop m bytes)

pub all_of : (bytes : List ℕ) → take (length bytes) bytes ≡ bytes
all_of bytes = take_all (length bytes) bytes (omega arith)

-- THE FRONT goes on, if it doesn't end in these bytes
pub front_on : (scans : ℕ) (bytes rest front : List ℕ) → EndsNoScan scans bytes → IsFront standard_limits scans (bytes ++ rest) front → (x : List ℕ) × (front ≡ bytes ++ x)
front_on scans bytes rest front none (inr w) = (rest, w.0)
front_on scans bytes rest front none (inl w) = by (cases_lt (length front) (suc (length bytes)))
  where
    by : (length front < suc (length bytes)) ⊎ (suc (length bytes) ≤ length front) → (x : List ℕ) × (front ≡ bytes ++ x)
    by (inl less) =
        absurd (none (length front) less
        (subst (EndsScan standard_limits scans) (sym (all_of front) ∙ begins_alike bytes rest front w.rest (length front) w.cut (omega (arith, less)) (omega arith)) w.ends))
    by (inr many) =
        (drop (length bytes) front, begins_so bytes rest front w.rest (length bytes) w.cut (omega arith) (omega (arith, many)) ∙ ap (λ l. l ++ drop (length bytes) front) (all_of bytes))

-- and where the file ends, it is all of it
pub front_all : (scans : ℕ) (bytes front : List ℕ) → EndsNoScan scans bytes → IsFront standard_limits scans bytes front → front ≡ bytes
front_all scans bytes front none w = one_front standard_limits scans bytes front bytes w (inr (refl, none))

-- A PLACE in the front is in the bytes, whatever the front is
pub stop_in : (scans : ℕ) (bytes : List ℕ) (f : FaultAt) → StopsFront standard_limits scans bytes f → f.at ≤ length bytes
stop_in scans bytes f stops = by (cases_lt (length bytes) f.at)
  where
    no : length bytes < f.at → (front : List ℕ) → IsFront standard_limits scans bytes front → ⊥
    no more front w =
        let low = (fault_place standard_limits front f.fault f.at (stops [] front (subst (λ l. IsFront standard_limits scans l front) (sym (append-nil bytes)) w))).0 in
        let c = front_cut standard_limits scans bytes front w in
        omega (arith, more, low, ap length c.1, length-append front c.0)

    by : (length bytes < f.at) ⊎ (f.at ≤ length bytes) → f.at ≤ length bytes
    by (inr low) = low
    by (inl more) = absurd (never_without standard_limits scans bytes (no more))

-- THE FIRST SCAN HEADER up to a fault
keeps_up_to : (bytes : List ℕ) (f : FaultAt) (o : Option Head) → f.at ≤ length bytes → KeepsHeadAt standard_limits bytes f o → KeepsHeadAt standard_limits (take f.at bytes) f o
keeps_up_to bytes f o low (inl head) = inl (subst (λ l. IsFirstHeaderOf standard_limits l o) (sym (fewer_of bytes f.at f.at (omega arith) low)) head)
keeps_up_to bytes f o low (inr (m, at, head, stop)) = inr (
  m,
  at,
  subst (λ l. IsFirstHeaderOf standard_limits l o) (sym (fewer_of bytes m f.at (omega (arith, at)) low)) head,
  subst (λ l. IsStop standard_limits l f) (sym (fewer_of bytes f.at f.at (omega arith) low)) stop,
)

module _ (scans : ℕ) (gray : Bool) where
  -- A REFUSAL of a piece, whose reason is in the piece
  pub refused_in : (bytes piece rest : List ℕ) (f : FaultAt) → length piece ≤ 65536 → f.at ≤ length (bytes ++ piece) → length bytes < f.at → IsFrontRefused scans gray ((bytes ++ piece) ++ rest) f → IsFrontRefusedRead scans gray f rest (bytes ++ piece)
  refused_in bytes piece rest f short within behind refused = record { refused = refused; within = within; last = omega (arith, behind, short, length-append bytes piece) }

  -- if the preview goes on
  pub unwanted_on : (bytes piece : List ℕ) (old r : ReaderState) (f : FaultAt) → r.limits ≡ standard_limits → HasFed (Image gray) old bytes → length piece ≤ 65536 → HasRead (bytes ++ piece) r → EndsNoScan scans (bytes ++ piece)
      → unwanted_in (Image gray) (head_seen r) ≡ Some f → (rest : List ℕ) → IsFrontRefusedRead scans gray f rest (bytes ++ piece)
  unwanted_on bytes piece old r f e h short read none told rest =
      let w = Image gray in
      let all = bytes ++ piece in
      let k = unwanted_head w all r.file.head f (subst (λ (l : Limits). IsFirstHeaderOf l all r.file.head) e read.head) told in
      refused_in bytes piece rest f short (unwanted_within w all f k) (new_place w bytes piece old f h k)
      (λ front is. (let x = front_on scans all rest front none is in subst (λ l. IsRefusedFor w l f) (sym x.1) (unwanted_first w all x.0 r f e read k)))

  -- if the front is there

  shown_means : (bytes : List ℕ) (r : ReaderState) → r.limits ≡ standard_limits → IsShown scans bytes r → (M : Meaning) × IsMeaning standard_limits bytes M
  shown_means bytes r e w = by w.meaning
    where
      by : IsDone bytes r ⊎ (IsEarlyEnd bytes r × EndsScan r.limits scans bytes) → (M : Meaning) × IsMeaning standard_limits bytes M
      by (inl d) = (d.meaning, inl (subst (λ (l : Limits). IsWholeFile l bytes d.meaning) e d.whole).0)
      by (inr (early, ends)) =
          let M = meaning_of (frame_of r.limits early.segments) early.segments early.blocks in (M, inr (subst (λ (l : Limits). MeansEarly l bytes M) e early.early))

  shown_unwanted : (bytes rest : List ℕ) (r : ReaderState) (f : FaultAt) → r.limits ≡ standard_limits → IsShown scans bytes r → IsUnwanted (Image gray) bytes f → IsFrontRefused scans gray (bytes ++ rest) f
  shown_unwanted bytes rest r f e w k = λ front is. by front (shown_front scans bytes rest front r w (subst (λ (l : Limits). IsFront l scans (bytes ++ rest) front) (sym e) is))
    where
      here : IsRefusedFor (Image gray) bytes f
      here = let means = shown_means bytes r e w in inr (k, λ g refused. absurd (none_faulty bytes means.0 g means.1 refused))

      by : (front : List ℕ) → IsFrontOf scans bytes rest front r → IsRefusedFor (Image gray) front f
      by front (inl same) = subst (λ l. IsRefusedFor (Image gray) l f) (sym same) here
      by front (inr (same, d)) = subst (λ l. IsRefusedFor (Image gray) l f) (sym same) (done_unwanted (Image gray) bytes rest r f e d k)

  pub shown_head : (bytes : List ℕ) (r : ReaderState) → r.limits ≡ standard_limits → IsShown scans bytes r → IsFirstHeaderOf standard_limits bytes r.file.head
  shown_head bytes r e w = by w.meaning
    where
      by : IsDone bytes r ⊎ (IsEarlyEnd bytes r × EndsScan r.limits scans bytes) → IsFirstHeaderOf standard_limits bytes r.file.head
      by (inl d) = subst (λ (l : Limits). IsFirstHeaderOf l bytes r.file.head) e d.head
      by (inr k) = subst (λ (l : Limits). IsFirstHeaderOf l bytes r.file.head) e k.0.head

  pub unwanted_there : (bytes piece : List ℕ) (used : ℕ) (old r : ReaderState) (f : FaultAt) → r.limits ≡ standard_limits → HasFed (Image gray) old bytes → length piece ≤ 65536 → IsShown scans (bytes ++ take used piece) r
      → unwanted_in (Image gray) (head_seen r) ≡ Some f → (rest : List ℕ) → IsFrontRefusedRead scans gray f rest (bytes ++ piece)
  unwanted_there bytes piece used old r f e h short w told rest =
      let front = bytes ++ take used piece in
      let left = drop used piece in
      let cut : front ++ left ≡ bytes ++ piece = append_assoc bytes (take used piece) left ∙ ap (λ l. bytes ++ l) (take-append-drop used piece) in
      let k = unwanted_head (Image gray) front r.file.head f (shown_head front r e w) told in
      let there = subst (λ l. IsUnwanted (Image gray) l f) cut (unwanted_more (Image gray) front left f k) in
      refused_in bytes piece rest f short (unwanted_within (Image gray) (bytes ++ piece) f there) (new_place (Image gray) bytes piece old f h there)
      (subst (λ l. IsFrontRefused scans gray l f) (sym (append_assoc front left rest) ∙ ap (λ l. l ++ rest) cut) (shown_unwanted front (left ++ rest) r f e w k))

  -- if it stopped

  pub stop_here : (bytes : List ℕ) (o : Option Head) (f : FaultAt) → StopsFront standard_limits scans bytes f → KeepsHeadAt standard_limits bytes f o → unwanted_in (Image gray) (head_of o) ≡ None → (rest : List ℕ) → IsFrontRefused scans gray (bytes ++ rest) f
  stop_here bytes o f stops keeps none rest = λ front is.
      let w = Image gray in
      let within = stop_in scans bytes f stops in
      let c = front_cut standard_limits scans (bytes ++ rest) front is in
      let refused = stops rest front is in
      let same = begins_so bytes rest front c.0 f.at c.1 within (fault_place standard_limits front f.fault f.at refused).0 in
      let size = length-take-le f.at bytes within in
      subst (λ l. IsRefusedFor w l f) (sym same)
      (stop_wanted w (take f.at bytes) (drop f.at front) o f (omega (arith, size)) (keeps_up_to bytes f o within keeps) none (subst (λ l. IsRefused l f) same refused))

  pub stop_unshown : (bytes : List ℕ) (n : ℕ) (f g : FaultAt) → StopsFront standard_limits scans bytes f → n ≤ f.at → IsUnwanted (Image gray) (take n bytes) g → (rest : List ℕ) → IsFrontRefused scans gray (bytes ++ rest) g
  stop_unshown bytes n f g stops few k rest = λ front is.
      let w = Image gray in
      let within = stop_in scans bytes f stops in
      let c = front_cut standard_limits scans (bytes ++ rest) front is in
      let refused = stops rest front is in
      let same = begins_so bytes rest front c.0 f.at c.1 within (fault_place standard_limits front f.fault f.at refused).0 in
      subst (λ l. IsRefusedFor w l g) (sym same)
      (stop_unwanted w (take f.at bytes) (drop f.at front) n f g few (subst (λ l. IsUnwanted w l g) (sym (fewer_of bytes n f.at few within)) k) (subst (λ l. IsRefused l f) same refused))

  pub refused_stop : (bytes piece : List ℕ) (o : Option Head) (f : FaultAt) → length piece ≤ 65536 → StopsFront standard_limits scans (bytes ++ piece) f × (length bytes < f.at) × KeepsHeadAt standard_limits (bytes ++ piece) f o
      → unwanted_in (Image gray) (head_of o) ≡ None → (rest : List ℕ) → IsFrontRefusedRead scans gray f rest (bytes ++ piece)
  refused_stop bytes piece o f short s none rest = refused_in bytes piece rest f short (stop_in scans (bytes ++ piece) f s.0) s.1 (stop_here (bytes ++ piece) o f s.0 s.2 none rest)

  pub unwanted_stop : (bytes piece : List ℕ) (old : ReaderState) (o : Option Head) (f g : FaultAt) → HasFed (Image gray) old bytes → length piece ≤ 65536
      → StopsFront standard_limits scans (bytes ++ piece) f × (length bytes < f.at) × KeepsHeadAt standard_limits (bytes ++ piece) f o → unwanted_in (Image gray) (head_of o) ≡ Some g
      → (rest : List ℕ) → IsFrontRefusedRead scans gray g rest (bytes ++ piece)
  unwanted_stop bytes piece old o f g h short s told rest = by s.2
    where
      all : List ℕ
      all = bytes ++ piece

      of : (n : ℕ) → n ≤ f.at → IsFirstHeaderOf standard_limits (take n all) o → IsFrontRefusedRead scans gray g rest all
      of n few head =
          let w = Image gray in
          let k = unwanted_head w (take n all) o g head told in
          let there = subst (λ l. IsUnwanted w l g) (take-append-drop n all) (unwanted_more w (take n all) (drop n all) g k) in
          refused_in bytes piece rest g short (unwanted_within w all g there) (new_place w bytes piece old g h there) (stop_unshown all n f g s.0 few k rest)

      by : KeepsHeadAt standard_limits all f o → IsFrontRefusedRead scans gray g rest all
      by (inl head) = of f.at (omega arith) head
      by (inr (m, at, head, stop)) = of m (omega (arith, at)) head

  -- BYTES SO FAR

  pub viewed_none : (p : PreviewState) → p.reader.limits ≡ standard_limits → p.scans ≡ scans → HasViewed [] p → HasFedFront scans gray p []
  viewed_none p e same h = record { viewed = h; wants = same; fed = fed_none (Image gray) p.reader e (h.1).read }

  pub ends_none : (bytes : List ℕ) (p : PreviewState) → p.reader.limits ≡ standard_limits → p.scans ≡ scans → HasViewed bytes p → EndsNoScan scans bytes
  ends_none bytes p e same h =
      subst (λ (l : Limits). EndsNotBefore l scans bytes (suc (length bytes))) e (subst (λ n. EndsNotBefore p.reader.limits n bytes (suc (length bytes))) same (h.1).none)

  pub open_front : (bytes : List ℕ) (p : PreviewState) → p.reader.limits ≡ standard_limits → HasFedFront scans gray p bytes → IsOpenFront scans gray bytes
  open_front bytes p e h = record { stands = open_so_far (Image gray) bytes p.reader e h.fed; none = ends_none bytes p e h.wants h.viewed }

  pub short_front : (bytes piece : List ℕ) (p : PreviewState) → p.reader.limits ≡ standard_limits → HasFedFront scans gray p bytes → length piece ≤ 65536 → IsShortFront scans gray (bytes ++ piece)
  short_front bytes piece p e h short = record { front = bytes; piece = piece; cut = refl; few = short; before = open_front bytes p e h }

  -- BY THE first scan header

  pub more_front : (bytes piece : List ℕ) (p new : PreviewState) (o : Option FaultAt) → new.reader.limits ≡ standard_limits → new.scans ≡ scans → HasFedFront scans gray p bytes → length piece ≤ 65536 → All (λ b. b < 256) (bytes ++ piece)
      → HasViewed (bytes ++ piece) new → unwanted_in (Image gray) (head_seen new.reader) ≡ o → AfterTakingFront scans gray (bytes ++ piece) (step_unless o (Ok false)) new
  more_front bytes piece p new None e same h short small viewed told = record { viewed = viewed; wants = same; fed = has_fed (Image gray) (bytes ++ piece) new.reader e small told (viewed.1).read }
  more_front bytes piece p new (Some f) e same h short small viewed told =
      λ rest. unwanted_on bytes piece p.reader new.reader f e h.fed short (viewed.1).read (ends_none (bytes ++ piece) new e same viewed) told rest

  pub whole_front : (bytes piece : List ℕ) (used : ℕ) (p new : PreviewState) (o : Option FaultAt) → new.reader.limits ≡ standard_limits → new.scans ≡ scans → HasFedFront scans gray p bytes → length piece ≤ 65536
      → IsShown new.scans (bytes ++ take used piece) new.reader × (1 ≤ used) × (used ≤ length piece) → unwanted_in (Image gray) (head_seen new.reader) ≡ o → AfterTakingFront scans gray (bytes ++ piece) (step_unless o (Ok true)) new
  whole_front bytes piece used p new o e same h short (w, some, within) told = by o told
    where
      shown : IsShown scans (bytes ++ take used piece) new.reader
      shown = subst (λ n. IsShown n (bytes ++ take used piece) new.reader) same w

      by : (o : Option FaultAt) → unwanted_in (Image gray) (head_seen new.reader) ≡ o → AfterTakingFront scans gray (bytes ++ piece) (step_unless o (Ok true)) new
      by None told =
          let there = sym (take-append-add bytes piece used) in
          let head = shown_head (bytes ++ take used piece) new.reader e shown in
          record {
            count = length bytes + used;
            within = omega (arith, within, length-append bytes piece);
            last = omega (arith, some, short, length-append bytes piece);
            shown = subst (λ (l : List ℕ). IsShown scans l new.reader) there shown;
            wanted = λ f k. wanted_head (Image gray) (bytes ++ take used piece) new.reader.file.head head told f (subst (λ (l : List ℕ). IsNotShown standard_limits gray l f) (sym there) k);
          }
      by (Some f) told = λ rest. unwanted_there bytes piece used p.reader new.reader f e h.fed short shown told rest

  pub fault_front : (bytes piece : List ℕ) (p new : PreviewState) (f : FaultAt) (o : Option FaultAt) → new.reader.limits ≡ standard_limits → new.scans ≡ scans → HasFedFront scans gray p bytes → length piece ≤ 65536
      → AfterStop new.scans (length bytes) (bytes ++ piece) (stop.Fault f) new.reader → unwanted_in (Image gray) (head_seen new.reader) ≡ o → AfterTakingFront scans gray (bytes ++ piece) (step_unless o (Err (why.Refused f))) new
  fault_front bytes piece p new f o e same h short s told = by o told
    where
      stops : StopsFront standard_limits scans (bytes ++ piece) f × (length bytes < f.at) × KeepsHeadAt standard_limits (bytes ++ piece) f new.reader.file.head
      stops =
          subst (λ (l : Limits). StopsFront l scans (bytes ++ piece) f × (length bytes < f.at) × KeepsHeadAt l (bytes ++ piece) f new.reader.file.head) e
          (subst (λ n. AfterStop n (length bytes) (bytes ++ piece) (stop.Fault f) new.reader) same s)

      by : (o : Option FaultAt) → unwanted_in (Image gray) (head_seen new.reader) ≡ o → AfterTakingFront scans gray (bytes ++ piece) (step_unless o (Err (why.Refused f))) new
      by None told = λ rest. refused_stop bytes piece new.reader.file.head f short stops told rest
      by (Some g) told = λ rest. unwanted_stop bytes piece p.reader new.reader.file.head f g h.fed short stops told rest

  -- THE END

  pub early_front : (bytes : List ℕ) (p new : PreviewState) (n : ℕ) → p.reader.limits ≡ standard_limits → new.reader.limits ≡ standard_limits → HasFedFront scans gray p bytes → AfterEnd bytes (ends.Early n) new.reader → HoldsEarlyFront scans gray new.reader n bytes
  early_front bytes p new n d e h after = record { early = early_end (Image gray) bytes p.reader new.reader n e h.fed after; none = ends_none bytes p d h.wants h.viewed }

  pub refused_front : (bytes : List ℕ) (p : PreviewState) (f : FaultAt) → p.reader.limits ≡ standard_limits → HasFedFront scans gray p bytes → StopsAt p.reader.limits bytes (stop.Fault f) → IsFrontRefusedRead scans gray f [] bytes
  refused_front bytes p f e h s =
      let r = refused_end (Image gray) bytes p.reader f e h.fed s in
      let none = subst (EndsNoScan scans) (sym (append-nil bytes)) (ends_none bytes p e h.wants h.viewed) in
      record { refused = λ front is. subst (λ l. IsRefusedFor (Image gray) l f) (sym (front_all scans (bytes ++ []) front none is)) r.refused; within = r.within; last = r.last }

  pub stop_front : (bytes : List ℕ) (p : PreviewState) (s : Stop) (answer : PreviewState) → p.reader.limits ≡ standard_limits → HasFedFront scans gray p bytes → StopsAt p.reader.limits bytes s → AfterFrontEnd scans gray bytes (Err (why_stopped s)) answer
  stop_front bytes p (stop.Fault f) answer e h s = refused_front bytes p f e h s
  stop_front bytes p stop.NoMemory answer e h s = absurd s
