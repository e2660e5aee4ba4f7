-- What calls with a complete image file result in.
use Rattle.std.proofs.Common.{◌≡◌, ℕ, ◌<◌, ◌≤◌, List, [], ◌∷◌, ◌++◌, length, min, take, drop, None, Some, Result, Ok, Err, refl, sym, ap, ◌∙◌, subst, arith, inl, inr}
use Rattle.std.proofs.lemmas.List.{length-append, length-take, take_all, take-append-drop}
use Rattle.std.proofs.Math.Seq.{take-append_seam}
use Rattle.jpg_spec_encode.specs.Encoded.{encoded, encoded_script, sampling_fault}
use Rattle.jpg_spec_image.specs.Images.{Image}
use Rattle.jpg_spec_image.specs.ImageFaults.{IsImage, IsImageFault, IsOpenImage}
use Rattle.jpg_spec.specs.InForce.{first_some}
use Rattle.jpg_spec.specs.Segments.{standard_limits}
use Rattle.jpg_spec_write.specs.ScriptFaults.{script_fault}
use Rattle.jpg_spec_write.specs.FileText.{frame_of_meaning}
use Rattle.jpg_spec.specs.Meaning.{Meaning}
use Rattle.jpg_spec.specs.declared.fault.Fault.TheVariants.{InputTooLong}
use Rattle.jpg_spec_write.specs.declared.picture_fault.PictureFault.{PictureFault}
use Rattle.jpg_spec_words.proofs.EncodedKept.{stays_fault, stays_text}
use Rattle.jpg_base.specs.Memory.{memory_outputs}
use Rattle.jpg_base.specs.declared.memory.MemoryDesk.{MemoryDesk}
use Rattle.jpg_base.specs.declared.names.Name.{Name}
use Rattle.jpg_base.specs.declared.names.Name.TheVariants.{Out}
use Rattle.jpg_base.specs.declared.stop.Stop.{Stop}
use Rattle.jpg_base.specs.declared.stop.Stop.TheVariants as stop
use Rattle.jpg_color.specs.Encode.{image_view}
use Rattle.jpg_pnm_bmp.specs.Made.{AreBytes}
use Rattle.jpg_pnm_bmp.specs.Reader.{EndsImage}
use Rattle.jpg_pnm_bmp.specs.PixelsRead.{AfterFeed, image_read}
use Rattle.jpg_pnm_bmp.specs.declared.read.piece.Fed2.TheVariants as fed
use Rattle.jpg_pnm_bmp.specs.declared.read.pixels.Image.{Image as Read}
use Rattle.jpg_pnm_bmp.specs.declared.read.pixels.PixelReader.{PixelReader}
use Rattle.jpg_pnm_bmp.proofs.EndRead.{fed_open}
use Rattle.jpg_pnm_bmp.proofs.ImageRight.{image_right}
use Rattle.example_callers.specs.Encoding.{HoldsAsItIs, HoldsEncoded, IsEncodedFrom, IsImageOf, encoding_at}
use Rattle.example_callers.specs.declared.pictures.NotTurned.{NotTurned}
use Rattle.example_callers.specs.declared.pictures.NotTurned.TheVariants as unturned

-- THE IMAGE of a file, a prefix of which is fed

-- the file is this prefix and a rest, and the prefix has as many bytes as may be taken
pub record IsFront (file front : List ℕ) : Type 0 where
  pub rest : List ℕ
  pub cut : front ++ rest ≡ file
  pub most : length front ≤ standard_limits.input

pub front_of : (file : List ℕ) (n k : ℕ) → n ≡ standard_limits.input → k ≡ min (length file) n → IsFront file (take k file)
front_of file n k limit is = record {
  rest = drop k file;
  cut = take-append-drop k file;
  most = (let l = length-take k file in omega (arith, l, limit, is));
}

-- fewer bytes than may be taken are the complete file
pub front_all : (file : List ℕ) (n k : ℕ) → k ≡ min (length file) n → length (take k file) < n → take k file ≡ file
front_all file n k is short = take_all k file (let l = length-take k file in omega (arith, l, is, short))

pub image_whole : (file front : List ℕ) (r : PixelReader) (i : Read) → IsFront file front → AreBytes file → image_view i ≡ image_read r → AfterFeed [] front (Ok fed.Done) r → IsImageOf file (Ok i)
image_whole file front r i f small e h =
    let is = subst (λ (b : List ℕ). IsImage standard_limits b (image_read r)) f.cut (h standard_limits f.rest f.most) in
    let told = subst (λ (image : Image). IsImage standard_limits file image) (sym e) is in
    (told, image_right standard_limits file (image_view i) told small)

pub image_stopped : (file front : List ℕ) (s : Stop) (r : PixelReader) → IsFront file front → AfterFeed [] front (Err s) r → IsImageOf file (Err s)
image_stopped file front (stop.Fault g) r f h = subst (λ (b : List ℕ). IsImageFault standard_limits b g.fault g.at) f.cut (h standard_limits f.rest f.most)
image_stopped file front stop.NoMemory r f h = tt

-- as many bytes as may be taken
pub image_too_long : (file front : List ℕ) (r : PixelReader) (n : ℕ) → n ≡ standard_limits.input → IsFront file front → length front ≡ standard_limits.input → AfterFeed [] front (Ok fed.More) r → IsImageFault standard_limits file InputTooLong n
image_too_long file front r n limit f full h =
    let taken : take standard_limits.input file ≡ front = ap (λ (b : List ℕ). take standard_limits.input b) (sym f.cut) ∙ ap (λ n. take n (front ++ f.rest)) (sym full) ∙ take-append_seam front f.rest in
    let long : length file ≡ length (front ++ f.rest) = ap (λ (b : List ℕ). length b) (sym f.cut) in
    let longer : standard_limits.input ≤ length file = (let l = length-append front f.rest in omega (arith, l, full, long)) in
    inr (inl (refl, limit, longer, subst IsOpenImage (sym taken) (fed_open front r h)))

-- the file ends
pub image_ended : (file front : List ℕ) (old new : PixelReader) (i : Read) → front ≡ file → length front < standard_limits.input → AfterFeed [] front (Ok fed.More) old → image_view i ≡ image_read new → EndsImage front (Ok tt) (image_read new) → IsImageOf file (Ok i)
image_ended file front old new i all short fed e h =
    let is = subst (λ (image : Image). IsImage standard_limits front image) (sym e) (h standard_limits short) in
    subst (λ (b : List ℕ). IsImageOf b (Ok i)) all (is, image_right standard_limits front (image_view i) is fed.2)

pub image_end_stopped : (file front : List ℕ) (s : Stop) (image : Image) → front ≡ file → length front < standard_limits.input → EndsImage front (Err s) image → IsImageOf file (Err s)
image_end_stopped file front (stop.Fault g) image all short h = subst (λ (b : List ℕ). IsImageFault standard_limits b g.fault g.at) all (h standard_limits short)
image_end_stopped file front stop.NoMemory image all short h = tt

-- THE FILE of an encoded image: it isn't transformed

pub fault_encoded : (quality : ℕ) (image : Image) (f : PictureFault) → sampling_fault (encoding_at quality image) image ≡ Some f → HoldsEncoded quality image (Err (unturned.Picture f))
fault_encoded quality image f is = ap (λ s. first_some s (script_fault (frame_of_meaning (encoded (encoding_at quality image) image)) (encoded_script (encoding_at quality image) image))) is

pub encoded_as_it_is : (quality : ℕ) (image : Image) (M : Meaning) (answer : Result MemoryDesk NotTurned) → M ≡ encoded (encoding_at quality image) image → sampling_fault (encoding_at quality image) image ≡ None → HoldsAsItIs M answer → HoldsEncoded quality image answer
encoded_as_it_is quality image M answer means none h = by answer (subst (λ (N : Meaning). HoldsAsItIs N answer) means h)
  where
    by : (answer : Result MemoryDesk NotTurned) → HoldsAsItIs (encoded (encoding_at quality image) image) answer → HoldsEncoded quality image answer
    by (Ok desk) h = (
      sym (stays_fault (encoding_at quality image) image none) ∙ h.0,
      subst (λ (due : List ℕ). memory_outputs desk ≡ (let o : List (Name × List ℕ) = (Out, due) ∷ [] in o)) (stays_text (encoding_at quality image) image) h.1,
    )
    by (Err (unturned.Picture fault)) h = sym (stays_fault (encoding_at quality image) image none) ∙ h
    by (Err (unturned.Stop (stop.Fault f))) h = absurd h
    by (Err (unturned.Stop stop.NoMemory)) h = tt

pub encoded_from : (file : List ℕ) (quality : ℕ) (image : Image) (answer : Result MemoryDesk NotTurned) → IsImage standard_limits file image → HoldsEncoded quality image answer → IsEncodedFrom file quality answer
encoded_from file quality image (Ok desk) is h = (image, is, h)
encoded_from file quality image (Err (unturned.Picture fault)) is h = (image, is, h)
encoded_from file quality image (Err (unturned.Stop (stop.Fault f))) is h = absurd h
encoded_from file quality image (Err (unturned.Stop stop.NoMemory)) is h = tt
