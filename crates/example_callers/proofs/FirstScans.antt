-- What a preview answers, as a caller promises it of the first scans of a file.
use Rattle.std.proofs.Common.{◌≡◌, ℕ, suc, List, [], ◌++◌, length, take, drop, refl, sym, ap, ◌∙◌, subst, inl, inr, ◌⊎◌, Ok, Err}
use Rattle.std.proofs.lemmas.List.{append-nil, take-append-drop}
use Rattle.jpg_spec.specs.Early.{MeansEarly}
use Rattle.jpg_spec.specs.FileMeaning.{meaning_of}
use Rattle.jpg_spec.specs.InForce.{frame_of}
use Rattle.jpg_spec.specs.Meaning.{Meaning}
use Rattle.jpg_spec.specs.Segments.{standard_limits}
use Rattle.jpg_spec.specs.UnfinishedFile.{IsWholeFile}
use Rattle.jpg_spec.specs.declared.frame.Copying.{Copying}
use Rattle.jpg_spec.specs.declared.frame.Copying.TheVariants.{All}
use Rattle.jpg_spec.specs.declared.frame.Limits.{Limits}
use Rattle.jpg_spec.proofs.Files.FileLaws.{means_more}
use Rattle.jpg_spec_image.specs.Front.{EndsNotBefore, EndsScan, IsFront}
use Rattle.jpg_spec_image.proofs.Fronts.{one_front}
use Rattle.jpg_base.specs.declared.stop.Fed.TheVariants as fed
use Rattle.jpg_base.specs.declared.stop.Stop.{Stop}
use Rattle.jpg_base.specs.declared.stop.Stop.TheVariants as stop
use Rattle.jpg_file.specs.Read.File.{keeping_of}
use Rattle.jpg_file.specs.Read.SegmentState.{kept_for}
use Rattle.jpg_file.specs.Read.PictureRead.{MeansFor, TakesEarly, TakesPicture, picture_meaning}
use Rattle.jpg_file.specs.Read.ReadFile.{AfterEnd, IsDone, IsEarlyEnd, IsRefusal, ReaderState, StopsAt}
use Rattle.jpg_file.specs.declared.read.ends.End.TheVariants as ends
use Rattle.jpg_file.specs.declared.read.picture.Picture.{Picture}
use Rattle.jpg_file.proofs.Headers.InForce.{kept_for_all}
use Rattle.jpg_preview.specs.Viewing.{AfterView, HasFront, HasViewed, IsShown, PreviewState, StopsFront}
use Rattle.jpg_preview.proofs.FrontFound.{shown_has_front}
use Rattle.example_callers.specs.FirstScans.{IsFirstScansOf}

-- a picture with all markers means what was read
all_kept : (r : ReaderState) (p : Picture) (M : Meaning) → keeping_of r.file ≡ All → MeansFor (keeping_of r.file) p M → M ≡ picture_meaning p
all_kept r p M all means = sym (means ∙ ap (λ (k : Copying). kept_for k M) all ∙ kept_for_all M)

-- THE FRONT is there

front_shown : (scans : ℕ) (bytes rest : List ℕ) (r : ReaderState) (p : Picture) → r.limits ≡ standard_limits → keeping_of r.file ≡ All → TakesPicture r p → TakesEarly r p → IsShown scans bytes r → IsFirstScansOf scans (bytes ++ rest) (Ok p)
front_shown scans bytes rest r p e all whole early w = by (shown_has_front scans bytes rest r w)
  where
    front_there : (front : List ℕ) → IsFront r.limits scans (bytes ++ rest) front → IsFront standard_limits scans (bytes ++ rest) front
    front_there front is = subst (λ (l : Limits). IsFront l scans (bytes ++ rest) front) e is

    file_there : (d : IsDone bytes r) → IsWholeFile standard_limits bytes (picture_meaning p)
    file_there d =
        subst (λ (M : Meaning). IsWholeFile standard_limits bytes M) (all_kept r p d.meaning all (whole bytes d)) (subst (λ (l : Limits). IsWholeFile l bytes d.meaning) e d.whole)

    early_there : (k : IsEarlyEnd bytes r) → MeansEarly standard_limits bytes (picture_meaning p)
    early_there k =
        let M = meaning_of (frame_of r.limits k.segments) k.segments k.blocks in
        subst (λ (N : Meaning). MeansEarly standard_limits bytes N) (all_kept r p M all (early bytes k)) (subst (λ (l : Limits). MeansEarly l bytes M) e k.early)

    here : IsFront r.limits scans (bytes ++ rest) bytes → IsDone bytes r ⊎ (IsEarlyEnd bytes r × EndsScan r.limits scans bytes) → IsFirstScansOf scans (bytes ++ rest) (Ok p)
    here is (inl d) = (bytes, front_there bytes is, inl (file_there d).0)
    here is (inr k) = (bytes, front_there bytes is, inr (early_there k.0))

    by : HasFront scans bytes rest r → IsFirstScansOf scans (bytes ++ rest) (Ok p)
    by (inl is) = here is w.meaning
    by (inr (d, is)) = (bytes ++ rest, front_there (bytes ++ rest) is, inl (means_more standard_limits bytes rest (picture_meaning p) (file_there d).0))

pub scans_shown : (scans : ℕ) (file : List ℕ) (used : ℕ) (q : PreviewState) (p : Picture) → q.reader.limits ≡ standard_limits → q.scans ≡ scans → keeping_of q.reader.file ≡ All → TakesPicture q.reader p → TakesEarly q.reader p
    → AfterView [] file (Ok (fed.Done used)) q → IsFirstScansOf scans file (Ok p)
scans_shown scans file used q p e same all whole early (w, some, within) =
    subst (λ (l : List ℕ). IsFirstScansOf scans l (Ok p)) (take-append-drop used file)
    (front_shown scans (take used file) (drop used file) q.reader p e all whole early (subst (λ n. IsShown n (take used file) q.reader) same w))

pub scans_stopped : (scans : ℕ) (file : List ℕ) (s : Stop) (q : PreviewState) → q.reader.limits ≡ standard_limits → q.scans ≡ scans → AfterView [] file (Err s) q → IsFirstScansOf scans file (Err s)
scans_stopped scans file (stop.Fault f) q e same h =
    let stops = subst (λ (l : Limits). StopsFront l scans file f) e (subst (λ n. StopsFront q.reader.limits n file f) same h.0) in
    λ front is. stops [] front (subst (λ (l : List ℕ). IsFront standard_limits scans l front) (sym (append-nil file)) is)
scans_stopped scans file stop.NoMemory q e same h = tt

-- THE FILE ends before

ends_none : (scans : ℕ) (file : List ℕ) (q : PreviewState) → q.reader.limits ≡ standard_limits → q.scans ≡ scans → HasViewed file q → EndsNotBefore standard_limits scans file (suc (length file))
ends_none scans file q e same h =
    subst (λ (l : Limits). EndsNotBefore l scans file (suc (length file))) e (subst (λ n. EndsNotBefore q.reader.limits n file (suc (length file))) same (h.1).none)

pub scans_early : (scans : ℕ) (file : List ℕ) (n : ℕ) (old new : PreviewState) (p : Picture) → old.reader.limits ≡ standard_limits → new.reader.limits ≡ standard_limits → old.scans ≡ scans → HasViewed file old → keeping_of new.reader.file ≡ All
    → TakesEarly new.reader p → AfterEnd file (ends.Early n) new.reader → IsFirstScansOf scans file (Ok p)
scans_early scans file n old new p d e same h all takes (at, k) =
    let r = new.reader in
    let M = meaning_of (frame_of r.limits k.segments) k.segments k.blocks in (
      file,
      inr (refl, ends_none scans file old d same h),
      inr (subst (λ (N : Meaning). MeansEarly standard_limits file N) (all_kept r p M all (takes file k)) (subst (λ (l : Limits). MeansEarly l file M) e k.early)),
    )

pub scans_ended : (scans : ℕ) (file : List ℕ) (s : Stop) (old : PreviewState) (limits : Limits) → old.reader.limits ≡ standard_limits → limits ≡ standard_limits → old.scans ≡ scans → HasViewed file old → StopsAt limits file s → IsFirstScansOf scans file (Err s)
scans_ended scans file (stop.Fault f) old limits d e same h stops = λ front is.
    subst (λ (l : List ℕ). IsRefusal standard_limits l f) (sym (one_front standard_limits scans file front file is (inr (refl, ends_none scans file old d same h)))) (subst (λ (l : Limits). IsRefusal l file f) e stops)
scans_ended scans file stop.NoMemory old limits d e same h stops = tt
