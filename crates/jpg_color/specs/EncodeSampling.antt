-- SAMPLES OF AN IMAGE taken in pieces: what was made of those that were given, for all images that begin with them.
use Rattle.std.specs.Prelude.{◌≡◌, ℕ, ◌+◌, ◌-◌, ◌*◌, ◌≤◌, List, [], ◌++◌, length, drop, Some, Result, Ok, Err}
use Rattle.jpg_spec_encode.specs.Encoded.{Encoding, sampling_fault}
use Rattle.jpg_spec_image.specs.Images.{sample_count}
use Rattle.jpg_spec_image.specs.declared.image.ImageInfo.{ImageInfo}
use Rattle.jpg_color.specs.Encode.{AsksFor, encoded_frame, image_of}
use Rattle.jpg_color.specs.EncodeBlocks.{AppendsStrip, ArePlanesFrom, plane_at}
use Rattle.jpg_color.specs.SamplerState.{strip_numbers, strip_room}
use Rattle.jpg_color.specs.declared.encode.Encoding.{Encoding as Asked}
use Rattle.jpg_color.specs.declared.encode.EncodeStop.{EncodeStop}
use Rattle.jpg_color.specs.declared.encode.EncodeStop.TheVariants as stop
use Rattle.jpg_color.specs.EncodeView.{IsEncodedView}
use Rattle.jpg_color.specs.declared.encode.sampler.Sampler.{Sampler}
use Rattle.jpg_color.specs.declared.encode.strips.Planes.{Planes}
use Rattle.jpg_color.specs.declared.encode.view.EncodedImage.{EncodedImage}

-- how many samples are still to come
abbrev pub samples_left : Sampler → ℕ
samples_left s = s.left

-- the samples of a complete image, the first of which were given
pub record Completes (info : ImageInfo) (given samples : List ℕ) : Type 0 where
  pub rest : List ℕ
  pub cut : given ++ rest ≡ samples
  pub all : length samples ≡ sample_count info

-- WHAT WAS GIVEN of an image of these numbers: complete rows of MCUs of it, but for those that were dropped, are in the
-- planes, for all images that begin with these samples, and the others are pending.
pub record HasGiven (info : ImageInfo) (a : Asked) (given waiting : List ℕ) (p : Planes) (dropped made left : ℕ) : Type 0 where
  pub count : length given + left ≡ sample_count info
  pub pending : waiting ≡ drop (made * strip_room info (encoded_frame info a)) given
  pub planes : (samples : List ℕ) → Completes info given samples → ArePlanesFrom (encoded_frame info a) (image_of info samples) dropped (made - dropped) p

pub record HasSampled (info : ImageInfo) (a : Asked) (given : List ℕ) (s : Sampler) : Type 0 where
  pub numbers : s.info ≡ info
  pub asked : s.encoding ≡ a
  pub has : HasGiven info a given s.pending s.planes s.dropped s.made s.left

-- the next row of MCUs was made of all that was pending
pub record MakesRow (old new : Sampler) : Type 0 where
  pub numbers : new.info ≡ old.info
  pub asked : new.encoding ≡ old.encoding
  pub left : new.left ≡ 0
  pub pending : new.pending ≡ []
  pub made : new.made ≡ old.made + 1
  pub dropped : new.dropped ≡ old.dropped
  pub planes : AppendsStrip old.frame (image_of (strip_numbers old.info old.frame old.made) old.pending) old.planes new.planes

-- None was made, or one.
pub record MakesOneRow (old new : Sampler) : Type 0 where
  pub dropped : new.dropped ≡ old.dropped
  pub some : old.made ≤ new.made
  pub one : new.made ≤ old.made + 1

-- The rows of MCUs that are there are dropped.
pub record DropsRows (old new : Sampler) : Type 0 where
  pub numbers : new.info ≡ old.info
  pub asked : new.encoding ≡ old.encoding
  pub frame : new.frame ≡ old.frame
  pub pending : new.pending ≡ old.pending
  pub made : new.made ≡ old.made
  pub left : new.left ≡ old.left
  pub dropped : new.dropped ≡ old.made
  pub none : (i : ℕ) → plane_at new.planes i ≡ []

-- more samples were given
abbrev pub AddsSamples : Sampler → List ℕ → Sampler → Type 0
AddsSamples old samples new = (info : ImageInfo) (a : Asked) (given : List ℕ) → HasSampled info a given old → HasSampled info a (given ++ samples) new

-- AT THE END: the encoded image of all the samples that were given
abbrev pub EncodesSampled : Sampler → EncodedImage → Type 0
EncodesSampled s v = (info : ImageInfo) (a : Asked) (given : List ℕ) → HasSampled info a given s → IsEncodedView (image_of info given) a v

-- THE RESULT at the beginning: a sampler that was given nothing, or the first fault of the factors and the grids
abbrev pub BeginsSampling : ImageInfo → Asked → Result Sampler EncodeStop → Type 0
BeginsSampling info a (Ok s) = HasSampled info a [] s
BeginsSampling info a (Err (stop.Picture fault)) =
    (samples : List ℕ) (e : Encoding) → AsksFor a e → sampling_fault e (image_of info samples) ≡ Some fault
BeginsSampling info a (Err stop.NoMemory) = ⊥
