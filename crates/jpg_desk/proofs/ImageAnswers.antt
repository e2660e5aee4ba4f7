-- The answers of a reader of image files, to a piece and where the file ends, by its format.
use Rattle.std.proofs.Common.{◌≡◌, ℕ, ◌<◌, ◌≤◌, Bool, true, false, List, [], ◌++◌, length, Option, None, Some, Result, Ok, Err, refl, sym, subst, arith}
use Rattle.std.specs.Prelude.{IfNone, IfSome}
use Rattle.std.proofs.lemmas.List.{append-nil}
use Rattle.jpg_base.specs.declared.stop.Stop.{Stop}
use Rattle.jpg_base.specs.declared.stop.Stop.TheVariants as stop
use Rattle.jpg_spec.specs.Segments.{standard_limits}
use Rattle.jpg_spec.specs.declared.fault.FaultAt.{FaultAt}
use Rattle.jpg_spec.specs.declared.fault.Fault.TheVariants.{ImageShort}
use Rattle.jpg_spec_image.proofs.OpenTarga.{open_few}
use Rattle.jpg_pnm_bmp.specs.Made.{AreBytes}
use Rattle.jpg_pnm_bmp.specs.PixelsRead.{AfterFeed, HasFedImage, KeepsDone as PixelsDone, image_read}
use Rattle.jpg_pnm_bmp.specs.Reader.{EndsImage as EndsPnm}
use Rattle.jpg_pnm_bmp.specs.PlainSamples.{HasFedSamples, TellsNotPlain, TellsPlain}
use Rattle.jpg_spec_image.specs.declared.image.ImageInfo.{ImageInfo}
use Rattle.jpg_pnm_bmp.specs.declared.read.piece.Fed2.{Fed2}
use Rattle.jpg_pnm_bmp.specs.declared.read.piece.Fed2.TheVariants as fed
use Rattle.jpg_pnm_bmp.specs.declared.read.pixels.PixelReader.{PixelReader}
use Rattle.jpg_targa.proofs.PiecesRead.{read_open}
use Rattle.jpg_targa.specs.TargaRead.{AfterFeed as AfterTarga, HasFedTarga, IsShortAt, KeepsDone as TargaDone}
use Rattle.jpg_targa.specs.declared.read.reader.TargaReader.{TargaReader}
use Rattle.jpg_desk.specs.ImageFile.{HasFaultIn, HasImageIn}
use Rattle.jpg_spec_words.specs.declared.answers.Why.{Why}
use Rattle.jpg_desk.specs.ImageSource.{AfterImageEnd, AfterTakingImagePiece, EndsImage, EndsPixels, EndsTarga, HasFed, HoldsImage, TakesImagePiece, TakesPixels, TakesTarga, TellsNoSamples, TellsSamples, is_source_read, source_read, source_samples, step_of}
use Rattle.jpg_desk.specs.Pump.{why_stopped}
use Rattle.jpg_desk.specs.ReadImage.{IsFaultRead}
use Rattle.jpg_desk.specs.declared.image_source.ImageSource.{ImageSource}
use Rattle.jpg_desk.specs.declared.image_source.ImageSource.TheVariants as source
use Rattle.jpg_desk.proofs.ImageFed.{fed_open, right_image}
use Rattle.jpg_desk.proofs.ImageTaken.{open_end, open_more}

-- BY FORMAT

pub pixels_take : (old new : PixelReader) (piece : List ℕ) (answer : Result Bool Why) → TakesPixels old piece answer new → TakesImagePiece (source.Pixels old) piece answer (source.Pixels new)
pixels_take old new piece answer h false bytes k = h bytes k
pixels_take old new piece answer h true bytes k = absurd k

pub targa_takes : (old new : TargaReader) (piece : List ℕ) (answer : Result Bool Why) → TakesTarga old piece answer new → TakesImagePiece (source.Targa old) piece answer (source.Targa new)
targa_takes old new piece answer h true bytes k = h bytes k
targa_takes old new piece answer h false bytes k = absurd k

pub pixels_end : (old new : PixelReader) (answer : Result (Option ℕ) Why) → EndsPixels old answer new → EndsImage (source.Pixels old) answer (source.Pixels new)
pixels_end old new answer h false bytes k short = h bytes k short
pixels_end old new answer h true bytes k short = absurd k

pub targa_ends : (old new : TargaReader) (answer : Result (Option ℕ) Why) → EndsTarga old answer new → EndsImage (source.Targa old) answer (source.Targa new)
targa_ends old new answer h true bytes k short = h bytes k
targa_ends old new answer h false bytes k short = absurd k

-- A PIECE

-- bytes that were given, and a piece
record Given (targa : Bool) (bytes piece : List ℕ) (old : ImageSource) : Type 0 where
  pub fed : HasFed targa bytes old
  pub short : length bytes < standard_limits.input
  pub few : length piece ≤ 65536
  pub small : AreBytes (bytes ++ piece)

module _ (targa : Bool) (bytes piece : List ℕ) (old : ImageSource) where
  whole_shown : (new : ImageSource) → Given targa bytes piece old → is_source_read new ≡ true → ((rest : List ℕ) → HasImageIn targa ((bytes ++ piece) ++ rest) (source_read new)) → (rest : List ℕ) → HoldsImage targa rest (bytes ++ piece) new
  whole_shown new g done is = λ rest. record {
    is = record { is = is rest; read = open_more targa bytes piece (fed_open targa bytes old g.fed) g.short g.few };
    right = right_image targa ((bytes ++ piece) ++ []) (source_read new) (is []) (subst AreBytes (sym (append-nil (bytes ++ piece))) g.small);
    done = done;
  }

  fault_shown : (f : FaultAt) → Given targa bytes piece old → ((rest : List ℕ) → HasFaultIn targa ((bytes ++ piece) ++ rest) f) → (rest : List ℕ) → IsFaultRead targa f rest (bytes ++ piece)
  fault_shown f g is = λ rest. record { is = is rest; read = open_more targa bytes piece (fed_open targa bytes old g.fed) g.short g.few }

pub pixels_fed : (bytes piece : List ℕ) (old new : PixelReader) (answer : Result Fed2 Stop) → HasFedImage bytes old → length bytes < standard_limits.input → length piece ≤ 65536 → length (bytes ++ piece) ≤ standard_limits.input → AreBytes (bytes ++ piece) → AfterFeed bytes piece answer new
    → PixelsDone answer new → AfterTakingImagePiece false (bytes ++ piece) (step_of answer) (source.Pixels new)
pixels_fed bytes piece old new (Ok fed.More) h short few most small k d = k
pixels_fed bytes piece old new (Ok fed.Done) h short few most small k d =
    whole_shown false bytes piece (source.Pixels old) (source.Pixels new) (record { fed = h; short = short; few = few; small = small }) d (λ rest. k standard_limits rest most)
pixels_fed bytes piece old new (Err (stop.Fault f)) h short few most small k d =
    fault_shown false bytes piece (source.Pixels old) f (record { fed = h; short = short; few = few; small = small }) (λ rest. k standard_limits rest most)
pixels_fed bytes piece old new (Err stop.NoMemory) h short few most small k d = open_more false bytes piece (fed_open false bytes (source.Pixels old) h) short few

-- fewer than may be taken
targa_short : (bytes : List ℕ) (old : TargaReader) → HasFedTarga bytes old → length bytes < standard_limits.input
targa_short bytes old h = (let few = open_few bytes h.2 (read_open bytes old.reader.taken old.reader.work h.3) in omega (arith, few))

pub targa_fed : (bytes piece : List ℕ) (old new : TargaReader) (answer : Result Fed2 Stop) → HasFedTarga bytes old → length piece ≤ 65536 → AreBytes (bytes ++ piece) → AfterTarga bytes piece answer new → TargaDone answer new
    → AfterTakingImagePiece true (bytes ++ piece) (step_of answer) (source.Targa new)
targa_fed bytes piece old new (Ok fed.More) h few small k d = k
targa_fed bytes piece old new (Ok fed.Done) h few small k d =
    whole_shown true bytes piece (source.Targa old) (source.Targa new) (record { fed = h; short = targa_short bytes old h; few = few; small = small }) d k
targa_fed bytes piece old new (Err (stop.Fault f)) h few small k d =
    fault_shown true bytes piece (source.Targa old) f (record { fed = h; short = targa_short bytes old h; few = few; small = small }) k
targa_fed bytes piece old new (Err stop.NoMemory) h few small k d = open_more true bytes piece (fed_open true bytes (source.Targa old) h) (targa_short bytes old h) few

-- WHERE THE FILE ENDS

pub pixels_whole : (bytes : List ℕ) (old new : PixelReader) → HasFedImage bytes old → length bytes < standard_limits.input → EndsPnm bytes (Ok tt) (image_read new) → new.reader.done ≡ true → HoldsImage false [] bytes (source.Pixels new)
pixels_whole bytes old new h short is done = record {
  is = record { is = subst (λ (b : List ℕ). HasImageIn false b (image_read new)) (sym (append-nil bytes)) (is standard_limits short); read = open_end false bytes (fed_open false bytes (source.Pixels old) h) short };
  right = right_image false bytes (image_read new) (is standard_limits short) h.2;
  done = done;
}

pub pixels_stopped : (bytes : List ℕ) (old new : PixelReader) (end : Stop) → HasFedImage bytes old → length bytes < standard_limits.input → EndsPnm bytes (Err end) (image_read new) → AfterImageEnd false bytes (Err (why_stopped end)) (source.Pixels new)
pixels_stopped bytes old new (stop.Fault f) h short is =
    record { is = subst (λ (b : List ℕ). HasFaultIn false b f) (sym (append-nil bytes)) (is standard_limits short); read = open_end false bytes (fed_open false bytes (source.Pixels old) h) short }
pixels_stopped bytes old new stop.NoMemory h short is = open_end false bytes (fed_open false bytes (source.Pixels old) h) short

pub targa_stopped : (bytes : List ℕ) (old new : TargaReader) (end : Stop) → HasFedTarga bytes old → IsShortAt bytes end → AfterImageEnd true bytes (Err (why_stopped end)) (source.Targa new)
targa_stopped bytes old new end h (is, short) =
    let f : FaultAt = record { fault = ImageShort; at = length bytes } in
    let shown : AfterImageEnd true bytes (Err (why_stopped (stop.Fault f))) (source.Targa new) =
    record { is = subst (λ (b : List ℕ). HasFaultIn true b f) (sym (append-nil bytes)) short; read = open_end true bytes (fed_open true bytes (source.Targa old) h) (targa_short bytes old h) } in
    subst (λ (e : Stop). AfterImageEnd true bytes (Err (why_stopped e)) (source.Targa new)) (sym is) shown

-- WHETHER THE REST are samples

pub pixels_tell : (old : PixelReader) (o : Option ImageInfo) → IfSome o (TellsPlain old) → IfSome o (TellsSamples (source.Pixels old))
pixels_tell old None h = tt
pixels_tell old (Some info) h = by
  where
    by : (targa : Bool) (bytes : List ℕ) → HasFed targa bytes (source.Pixels old) → (targa ≡ false) × HasFedSamples info bytes (source_samples (source.Pixels old))
    by false bytes k = (refl, h bytes k)
    by true bytes k = absurd k

pub pixels_tell_none : (old : PixelReader) (o : Option ImageInfo) → IfNone o (TellsNotPlain old) → IfNone o (TellsNoSamples (source.Pixels old))
pixels_tell_none old None h = h
pixels_tell_none old (Some info) h = tt
