-- What reading pieces of the front of a picture's file does, over the states of a desk.
use Rattle.std.proofs.Common.{◌≡◌, ℕ, Bool, true, false, List, [], ◌++◌, length, take, drop, Option, Some, None, Result, Ok, Err, refl, sym, ap, ◌∙◌, subst, arith, inl, inr, ◌⊎◌}
use Rattle.std.proofs.lemmas.List.{append_assoc, take-append-drop}
use Rattle.jpg_base.specs.Desk.{DeskState}
use Rattle.jpg_spec.specs.Early.{MeansEarly}
use Rattle.jpg_spec.specs.FileMeaning.{meaning_of}
use Rattle.jpg_spec.specs.InForce.{frame_of}
use Rattle.jpg_spec.specs.Meaning.{Meaning}
use Rattle.jpg_spec.specs.Segments.{standard_limits}
use Rattle.jpg_spec.specs.UnfinishedFile.{IsWholeFile}
use Rattle.jpg_spec.specs.declared.frame.Copying.{Copying}
use Rattle.jpg_spec.specs.declared.frame.Copying.TheVariants.{All}
use Rattle.jpg_spec.specs.declared.frame.Limits.{Limits}
use Rattle.jpg_spec.proofs.Files.FileLaws.{means_more}
use Rattle.jpg_spec_image.specs.Front.{EndsScan, IsFront}
use Rattle.jpg_spec_words.specs.declared.answers.Why.{Why}
use Rattle.jpg_spec_words.specs.declared.answers.Why.TheVariants as why
use Rattle.jpg_file.specs.Read.File.{keeping_of}
use Rattle.jpg_file.specs.Read.PictureRead.{MeansFor, TakesEarly, TakesPicture}
use Rattle.jpg_file.specs.Read.ReadFile.{IsDone, IsEarlyEnd, ReaderState}
use Rattle.jpg_file.specs.declared.read.picture.Picture.{Picture}
use Rattle.jpg_preview.specs.Viewing.{HasFront, HasViewed}
use Rattle.jpg_preview.proofs.FrontFound.{shown_has_front}
use Rattle.jpg_preview.proofs.ViewSteps.{none_of_front}
use Rattle.jpg_desk.specs.Judging.{IsAllRead, TakesPieces}
use Rattle.jpg_desk.specs.Pump.{AfterInput, AfterTaking, IsFed, Pumps, ReadsInput, of_reader}
use Rattle.jpg_desk.specs.ReadFront.{AfterFrontEnd, AfterTakingFront, EndsFront, FrontMeans, HoldsFront, HoldsShown, IsFrontRead, front_reader}
use Rattle.jpg_desk.specs.Reading.{rest_of}
use Rattle.jpg_desk.specs.declared.front.FrontSink.{FrontSink}
use Rattle.jpg_desk.proofs.Pumped.{all_read, fed_none}
use Rattle.jpg_desk.proofs.FrontBytes.{open_front, viewed_none}
use Rattle.jpg_desk.proofs.PictureBytes.{can_be_shown}
use Rattle.jpg_desk.proofs.PictureTaken.{early_meaning, early_taken}
use Rattle.jpg_desk.specs.ReadPicture.{EndDone, StepDone, Image}

-- A PIECE of the input, and its end

pub front_piece : (from now : FrontSink) (bytes : List ℕ) (answer : Result Bool Why) → now.preview.reader.limits ≡ standard_limits → keeping_of now.preview.reader.file ≡ keeping_of from.preview.reader.file → now.gray ≡ from.gray → StepDone answer now.preview.reader
    → AfterTakingFront from.preview.scans from.gray bytes answer now.preview → AfterTaking front_reader from bytes answer now
front_piece from now bytes (Ok false) e k g d h = (record { fed = h; limits = e; keeping = k; gray = g }, (h.fed).short)
front_piece from now bytes (Ok true) e k g d h = λ rest. record { done = d; limits = e; keeping = k; holds = h }
front_piece from now bytes (Err (why.Refused f)) e k g d h = h
front_piece from now bytes (Err why.NoMemory) e k g d h = h
front_piece from now bytes (Err other) e k g d h = absurd h

pub front_end : (from now : FrontSink) (bytes : List ℕ) (answer : Result (Option ℕ) Why) → now.preview.reader.limits ≡ standard_limits → keeping_of now.preview.reader.file ≡ keeping_of from.preview.reader.file → EndDone answer now.preview.reader
    → AfterFrontEnd from.preview.scans from.gray bytes answer now.preview → AfterInput front_reader from bytes answer now
front_end from now bytes (Ok (Some n)) e k d h = record { done = d; limits = e; keeping = k; holds = h }
front_end from now bytes (Ok None) e k d h = absurd h
front_end from now bytes (Err (why.Refused f)) e k d h = h
front_end from now bytes (Err other) e k d h = absurd h

-- ALL OF IT

pub front_fed : (now : FrontSink) (s : DeskState) → HasViewed [] now.preview → now.preview.reader.limits ≡ standard_limits → IsFed FrontSink (of_reader front_reader) (now, s) [] (now, s)
front_fed now s h e = fed_none FrontSink Meaning front_reader now s (record { fed = viewed_none now.preview.scans now.gray now.preview e refl h; limits = e; keeping = refl; gray = refl })

pub front_pumped : (old : FrontSink) (s : DeskState) (answer : Result (Option ℕ) Why) (now : FrontSink × DeskState) → HasViewed [] old.preview → old.preview.reader.limits ≡ standard_limits → Pumps (of_reader front_reader) 0 (old, s) answer now
    → ReadsInput FrontSink Meaning front_reader (old, s) answer now
front_pumped old s answer now h e ends =
    all_read FrontSink Meaning front_reader (old, s) now answer (λ bytes f short. open_front old.preview.scans old.gray bytes (now.0).preview f.limits f.fed) (ends (old, s) [] refl (front_fed old s h e))

module _ (scans : ℕ) (gray : Bool) where
  -- THE PICTURE of the front

  module _ (bytes rest : List ℕ) (r : ReaderState) (e : r.limits ≡ standard_limits) (h : HoldsFront scans gray r bytes) where
    abbrev held : List ℕ
    held = take h.count bytes

    abbrev behind : List ℕ
    behind = drop h.count bytes ++ rest

    cut : held ++ behind ≡ bytes ++ rest
    cut = sym (append_assoc held (drop h.count bytes) rest) ∙ ap (λ l. l ++ rest) (take-append-drop h.count bytes)

    front_there : (front : List ℕ) → IsFront r.limits scans (held ++ behind) front → IsFront standard_limits scans (bytes ++ rest) front
    front_there front is = subst (λ (l : List ℕ). IsFront standard_limits scans l front) cut (subst (λ (l : Limits). IsFront l scans (held ++ behind) front) e is)

    whole_read : (d : IsDone held r) → HasFront scans held behind r → IsFrontRead scans gray d.meaning rest bytes
    whole_read d found = by found
      where
        whole : IsWholeFile standard_limits (take h.count bytes) d.meaning
        whole = subst (λ (l : Limits). IsWholeFile l (take h.count bytes) d.meaning) e d.whole

        of : FrontMeans scans (bytes ++ rest) d.meaning → IsFrontRead scans gray d.meaning rest bytes
        of s = record { shown = s; count = h.count; within = h.within; last = h.last; ends = inr whole; wanted = can_be_shown gray (take h.count bytes) d.meaning (inl whole.0) h.wanted }

        by : HasFront scans held behind r → IsFrontRead scans gray d.meaning rest bytes
        by (inl is) = of (record { front = held; is = front_there held is; means = inl whole.0 })
        by (inr (again, is)) = of (record { front = held ++ behind; is = front_there (held ++ behind) is; means = inl (means_more standard_limits held behind d.meaning whole.0) })

    abbrev meaning_held : IsEarlyEnd held r → Meaning
    meaning_held k = meaning_of (frame_of r.limits k.segments) k.segments k.blocks

    early_read : (k : IsEarlyEnd held r) → EndsScan r.limits scans held → IsFrontRead scans gray (meaning_held k) rest bytes
    early_read k ends =
        let early = subst (λ (l : Limits). MeansEarly l held (meaning_held k)) e k.early in
        let is : IsFront r.limits scans (held ++ behind) held = inl (record { rest = behind; cut = refl; ends = ends; first = none_of_front r.limits scans held behind (length held) (omega arith) (h.shown).first }) in
        record {
          shown = record { front = held; is = front_there held is; means = inr (early, subst (λ (l : Limits). EndsScan l scans held) e ends) };
          count = h.count;
          within = h.within;
          last = h.last;
          ends = inl (refl, subst (λ (l : Limits). EndsScan l scans held) e ends);
          wanted = can_be_shown gray held (meaning_held k) (inr early) h.wanted;
        }

  pub front_taken : (s0 s1 : DeskState) (r : ReaderState) (p : Picture) (early : Option ℕ) → r.limits ≡ standard_limits → keeping_of r.file ≡ All → TakesPicture r p → TakesEarly r p
      → TakesPieces (HoldsShown scans gray r early) s0 s1 → IsAllRead early s1 → EndsFront scans gray s0 (Ok (p, early)) s1
  front_taken s0 s1 r p None e same whole cut (bytes, read, most, h) all = by h.shown.meaning
    where
      rest : List ℕ
      rest = rest_of s1.left

      by : IsDone (take h.count bytes) r ⊎ (IsEarlyEnd (take h.count bytes) r × EndsScan r.limits scans (take h.count bytes)) → EndsFront scans gray s0 (Ok (p, None)) s1
      by (inl d) = (
        (
          d.meaning,
          subst (λ (k : Copying). MeansFor k p d.meaning) same (whole (take h.count bytes) d),
          (bytes, read, most, whole_read bytes (rest_of s1.left) r e h d (shown_has_front scans (take h.count bytes) (drop h.count bytes ++ rest_of s1.left) r h.shown)),
        ),
        all,
      )
      by (inr (k, ends)) = (
        (
          meaning_held bytes (rest_of s1.left) r e h k,
          subst (λ (c : Copying). MeansFor c p (meaning_held bytes (rest_of s1.left) r e h k)) same (cut (take h.count bytes) k),
          (bytes, read, most, early_read bytes (rest_of s1.left) r e h k ends),
        ),
        all,
      )
  front_taken s0 s1 r p (Some n) e same whole cut (bytes, read, most, h) all =
      let k = early_taken (Image gray) bytes n r e h.early in (
        (
          early_meaning h.early,
          subst (λ (c : Copying). MeansFor c p (early_meaning h.early)) same (cut bytes (h.early).ended),
          (bytes, read, most, record { ended = record { early = k.early; count = k.count; none = h.none }; wanted = k.wanted }),
        ),
        all,
      )
