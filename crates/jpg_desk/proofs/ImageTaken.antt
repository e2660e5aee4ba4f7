-- What reading pieces of an image file does, over the states of a desk.
use Rattle.std.proofs.Common.{◌≡◌, ℕ, ◌<◌, ◌≤◌, Bool, true, false, List, [], ◌++◌, length, take, drop, Option, None, Some, Result, Ok, Err, refl, sym, ap, ◌∙◌, subst, arith, inl, inr, ⊎_elim}
use Rattle.std.proofs.lemmas.Bool.{cases_lt}
use Rattle.std.proofs.lemmas.List.{append-nil, length-take-le, length-drop, length-append, take-append-drop, take-take}
use Rattle.std.proofs.Math.Seq.{take-append_seam}
use Rattle.jpg_base.specs.Desk.{DeskState}
use Rattle.jpg_spec_image.specs.Images.{Image}
use Rattle.jpg_spec_image.specs.ImageFaults.{IsOpenImage, IsWholeImage, ShowsImageFault}
use Rattle.jpg_spec.specs.Segments.{standard_limits}
use Rattle.jpg_spec.specs.declared.fault.Fault.TheVariants.{InputTooLong}
use Rattle.jpg_spec_words.specs.declared.answers.Why.{Why}
use Rattle.jpg_spec_words.specs.declared.answers.Why.TheVariants as why
use Rattle.jpg_pnm_bmp.specs.Made.{IsRightImage}
use Rattle.jpg_desk.specs.ImageFile.{IsOpenIn}
use Rattle.jpg_desk.specs.ImageSource.{AfterImageEnd, EndsImage, HasFed, HoldsImage, TakesImagePiece, is_source_read, source_read, source_taken}
use Rattle.jpg_desk.specs.ImageTaken.{HasImage, HoldsSome, IsSinkFed, IsSourceFed, ReadsSource, StopsHere, image_reader, is_targa}
use Rattle.jpg_desk.specs.Judging.{TakesPieces}
use Rattle.jpg_desk.specs.Pump.{AfterInput, AfterTaking, EndsAll, IsFed, ReadsInput, TakesEnd, TakesPiece, of_reader}
use Rattle.jpg_desk.specs.ReadImage.{IsFaultRead, IsImageRead, IsOpenImageRead, IsShortImageRead}
use Rattle.jpg_desk.specs.Reading.{rest_of}
use Rattle.jpg_desk.specs.Stays.{OnlyReads}
use Rattle.jpg_desk.specs.declared.image.ImageSink.{ImageSink}
use Rattle.jpg_desk.specs.declared.image_source.ImageSource.{ImageSource}
use Rattle.jpg_desk.specs.declared.image_source.ImageSource.TheVariants as source
use Rattle.jpg_desk.proofs.ImageFed.{fed_more, fed_open, fed_taken, never_full}
use Rattle.jpg_desk.proofs.Pumped.{Closes, all_read, fed_none}

-- BYTES that have no complete image and no fault

open_front : (bytes : List ℕ) (n : ℕ) → n ≤ length bytes → IsOpenImage bytes → IsOpenImage (take n bytes)
open_front bytes n le h m few =
    let long = length-take-le n bytes le in
    let same : take m (take n bytes) ≡ take m bytes = take-take m n bytes (omega (arith, few, long)) in
    let k = h m (omega (arith, few, long, le)) in
    (λ fault s. k.0 fault (subst (ShowsImageFault fault) same s), λ image w. k.1 image (subst (λ x. IsWholeImage x image) same w))

pub open_read : (targa : Bool) (bytes : List ℕ) → IsOpenIn targa bytes → length bytes < standard_limits.input → IsOpenImageRead targa bytes
open_read targa bytes o short = record { short = short; stands = o }

-- with one more piece
pub open_more : (targa : Bool) (bytes piece : List ℕ) → IsOpenIn targa bytes → length bytes < standard_limits.input → length piece ≤ 65536 → IsShortImageRead targa (bytes ++ piece)
open_more targa bytes piece o short few = record { front = bytes; piece = piece; cut = refl; few = few; before = open_read targa bytes o short }

-- with none
pub open_end : (targa : Bool) (bytes : List ℕ) → IsOpenIn targa bytes → length bytes < standard_limits.input → IsShortImageRead targa bytes
open_end targa bytes o short = record {
  front = bytes;
  piece = [];
  cut = sym (append-nil bytes);
  few = omega arith;
  before = open_read targa bytes o short;
}

-- as many as may be taken
open_full : (bytes : List ℕ) → IsOpenImage bytes → length bytes ≡ standard_limits.input → IsShortImageRead false bytes
open_full bytes o full =
    let n : ℕ = 1099511627775 in
    let le : n ≤ length bytes = omega (arith, full) in
    let long = length-take-le n bytes le in
    record {
      front = take n bytes;
      piece = drop n bytes;
      cut = sym (take-append-drop n bytes);
      few = (let d = length-drop n bytes in omega (arith, d, full));
      before = record { short = omega (arith, long); stands = open_front bytes n le o };
    }

pub open_too_long : (bytes rest : List ℕ) → IsOpenImage bytes → length bytes ≡ standard_limits.input → IsFaultRead false (record { fault = InputTooLong; at = standard_limits.input }) rest bytes
open_too_long bytes rest o full =
    let front : take standard_limits.input (bytes ++ rest) ≡ bytes = ap (λ n. take n (bytes ++ rest)) (sym full) ∙ take-append_seam bytes rest in
    let longer : standard_limits.input ≤ length (bytes ++ rest) = (let l = length-append bytes rest in omega (arith, l, full)) in
    record {
      is = inr (inl (refl, refl, longer, subst IsOpenImage (sym front) o));
      read = open_full bytes o full;
    }

-- that were fed
pub too_long : (targa : Bool) (bytes rest : List ℕ) (r : ImageSource) → HasFed targa bytes r → length bytes ≡ standard_limits.input → IsFaultRead targa (record { fault = InputTooLong; at = standard_limits.input }) rest bytes
too_long true bytes rest r h full = absurd (never_full bytes r h full)
too_long false bytes rest r h full = open_too_long bytes rest (fed_open false bytes r h) full

-- ALL PIECES

never_both : true ≡ false → ⊥
never_both e = cc

-- the format of a reader
pub targa_is : (targa : Bool) (bytes : List ℕ) (r : ImageSource) → HasFed targa bytes r → targa ≡ is_targa r
targa_is false bytes (source.Pixels r) h = refl
targa_is true bytes (source.Targa r) h = refl
targa_is false bytes (source.Targa r) h = absurd h
targa_is true bytes (source.Pixels r) h = absurd h

-- before the first byte
pub source_fed : (s : ImageSink) (desk : DeskState) → HasFed (is_targa s.source) [] s.source → IsFed ImageSink (of_reader image_reader) (s, desk) [] (s, desk)
source_fed s desk h = fed_none ImageSink Image image_reader s desk (record { fed = h; to_end = refl })

-- and later
pub goes_fed : (s : ImageSink) (targa : Bool) (start : DeskState) (bytes : List ℕ) (now : DeskState) → IsSourceFed targa start bytes s.source now → IsFed ImageSink (of_reader image_reader) (s, start) bytes (s, now)
goes_fed s targa start bytes now h =
    let fed = subst (λ (t : Bool). HasFed t bytes s.source) (targa_is targa bytes s.source h.goes.fed) h.goes.fed in
    record { short = h.goes.short; fed = record { fed = record { fed = fed; to_end = refl }; kept = h.kept; read = h.read } }

-- a piece
pub sink_whole : (old new : ImageSink) (piece : List ℕ) → TakesImagePiece old.source piece (Ok true) new.source → TakesPiece image_reader old piece (Ok true) new
sink_whole old new piece takes from bytes h most = λ rest. inl (takes (is_targa from.source) bytes h.fed rest)

pub sink_ended : (old new : ImageSink) (piece : List ℕ) (w : Why) → TakesImagePiece old.source piece (Err w) new.source → TakesPiece image_reader old piece (Err w) new
sink_ended old new piece (why.Refused f) takes from bytes h most = takes (is_targa from.source) bytes h.fed
sink_ended old new piece why.NoMemory takes from bytes h most = takes (is_targa from.source) bytes h.fed
sink_ended old new piece other takes from bytes h most = absurd (takes (is_targa from.source) bytes h.fed)

pub sink_more : (old new : ImageSink) (piece : List ℕ) (answer : Result Bool Why) → new.to_end ≡ old.to_end → TakesImagePiece old.source piece (Ok false) new.source → StopsHere new answer → TakesPiece image_reader old piece answer new
sink_more old new piece answer same takes stops from bytes h most = by answer stops
  where
    targa : Bool
    targa = is_targa from.source

    fed : HasFed targa (bytes ++ piece) new.source
    fed = takes targa bytes h.fed

    short : (source_taken new.source ≡ standard_limits.input → ⊥) → length (bytes ++ piece) < standard_limits.input
    short over =
        ⊎_elim
        (λ (a : length (bytes ++ piece) < standard_limits.input). a)
        (λ (a : standard_limits.input ≤ length (bytes ++ piece)). absurd (over (fed_taken targa (bytes ++ piece) new.source fed ∙ (let e : length (bytes ++ piece) ≡ standard_limits.input = omega (arith, a, most) in e))))
        (cases_lt (length (bytes ++ piece)) standard_limits.input)

    too_far : source_taken new.source ≡ standard_limits.input → (rest : List ℕ) → IsFaultRead targa (record { fault = InputTooLong; at = standard_limits.input }) rest (bytes ++ piece)
    too_far full rest = too_long targa (bytes ++ piece) rest new.source fed (sym (fed_taken targa (bytes ++ piece) new.source fed) ∙ full)

    by : (a : Result Bool Why) → StopsHere new a → AfterTaking image_reader from (bytes ++ piece) a new
    by (Ok false) k = (record { fed = fed; to_end = same ∙ h.to_end }, short k)
    by (Ok true) k = λ rest. inr (sym (same ∙ h.to_end) ∙ k.0, record { fed = fed; short = short k.1 })
    by (Err w) k = subst (λ (v : Why). AfterTaking image_reader from (bytes ++ piece) (Err v) new) (sym k.0) (too_far k.1)

-- the end
pub sink_end : (old new : ImageSink) (answer : Result (Option ℕ) Why) → EndsImage old.source answer new.source → TakesEnd image_reader old answer new
sink_end old new answer ends from bytes h short = by answer (ends (is_targa from.source) bytes h.fed short)
  where
    by : (a : Result (Option ℕ) Why) → AfterImageEnd (is_targa from.source) bytes a new.source → AfterInput image_reader from bytes a new
    by (Ok None) k = inl k
    by (Ok (Some n)) k = absurd k
    by (Err (why.Refused f)) k = k
    by (Err why.NoMemory) k = k
    by (Err other) k = absurd k

-- then the image is complete
pub sink_closed : (old new : ImageSink) (answer : Result (Option ℕ) Why) → EndsImage old.source answer new.source → (from : ImageSink) (bytes : List ℕ) → IsSinkFed from bytes old → length bytes < standard_limits.input → Closes ImageSink Image image_reader answer new
sink_closed old new answer ends from bytes h short = by answer (ends (is_targa from.source) bytes h.fed short)
  where
    by : (a : Result (Option ℕ) Why) → AfterImageEnd (is_targa from.source) bytes a new.source → Closes ImageSink Image image_reader a new
    by (Ok None) k = λ more. never_both (sym k.done ∙ more)
    by (Ok (Some n)) k = absurd k
    by (Err w) k = tt

-- all of it
pub sink_pumped : (old : ImageSink) (start : DeskState) (answer : Result (Option ℕ) Why) (now : ImageSink × DeskState) → EndsAll (of_reader image_reader) (old, start) answer now → ReadsInput ImageSink Image image_reader (old, start) answer now
sink_pumped old start answer now ends = all_read ImageSink Image image_reader (old, start) now answer (λ bytes h short. open_read (is_targa old.source) bytes (fed_open (is_targa old.source) bytes (now.0).source h.fed) short) ends

-- WHAT IT HAS THEN

pub source_read_up_to : (targa : Bool) (s : ImageSink) (start : DeskState) (early : Option ℕ) (now : ImageSink × DeskState) → is_targa s.source ≡ targa → s.to_end ≡ false → ReadsInput ImageSink Image image_reader (s, start) (Ok early) now → ReadsSource targa start (Ok (now.0).source) now.1
source_read_up_to targa s start None now same some h =
    let t = h.reads.0 in
    ((t.0, t.1, t.2, subst (λ (b : Bool). HoldsSome targa b (rest_of (now.1).left) t.0 (now.0).source) some (subst (λ (b : Bool). HoldsSome b s.to_end (rest_of (now.1).left) t.0 (now.0).source) same t.3)), h.reads.2)
source_read_up_to targa s start (Some n) now same some h = absurd h.reads.0.3

pub holds_whole : (s : ImageSink) (start : DeskState) (early : Option ℕ) (now : ImageSink × DeskState) → s.to_end ≡ true → ReadsInput ImageSink Image image_reader (s, start) (Ok early) now → TakesPieces (λ bytes. HoldsImage (is_targa s.source) (rest_of (now.1).left) bytes (now.0).source) start now.1
holds_whole s start None now whole h = (let t = h.reads.0 in (t.0, t.1, t.2, by t.3))
  where
    by : {bytes : List ℕ} → HoldsSome (is_targa s.source) s.to_end (rest_of (now.1).left) bytes (now.0).source → HoldsImage (is_targa s.source) (rest_of (now.1).left) bytes (now.0).source
    by (inl k) = k
    by (inr k) = absurd (never_both (sym whole ∙ k.0))
holds_whole s start (Some n) now whole h = absurd h.reads.0.3

pub has_image : (targa : Bool) (start : DeskState) (I : Image) (r : ImageSource) (now : DeskState) → I ≡ source_read r → TakesPieces (λ bytes. HoldsImage targa (rest_of now.left) bytes r) start now → HasImage targa start I now
has_image targa start I r now same (bytes, read, most, h) = (
  (bytes, read, most, subst (λ (J : Image). IsImageRead targa J (rest_of now.left) bytes) (sym same) h.is),
  subst IsRightImage (sym same) h.right,
)

-- FROM THE FIRST BYTE, where the image is complete

pub read_whole : (targa : Bool) (start : DeskState) (r : ImageSource) (now : DeskState) → is_source_read r ≡ true → TakesPieces (λ bytes. HoldsSome targa false (rest_of now.left) bytes r) start now → TakesPieces (λ bytes. HoldsImage targa (rest_of now.left) bytes r) start now
read_whole targa start r now done (bytes, read, most, inl k) = (bytes, read, most, k)
read_whole targa start r now done (bytes, read, most, inr k) = absurd (never_both (sym done ∙ fed_more targa bytes r k.1.fed))

-- or isn't
pub read_some : (targa : Bool) (start : DeskState) (r : ImageSource) (now : DeskState) → is_source_read r ≡ false → OnlyReads start now → TakesPieces (λ bytes. HoldsSome targa false (rest_of now.left) bytes r) start now → (bytes : List ℕ) × IsSourceFed targa start bytes r now
read_some targa start r now more kept (bytes, read, most, inl k) = absurd (never_both (sym k.done ∙ more))
read_some targa start r now more kept (bytes, read, most, inr k) = (bytes, record { goes = k.1; kept = kept; read = read })
