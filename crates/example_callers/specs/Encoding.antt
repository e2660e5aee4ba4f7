-- WHAT THE CALLERS PROMISE about an image file that they have in memory, and about the file of its picture.
use Rattle.std.specs.Prelude.{◌≡◌, ℕ, false, List, [], ◌∷◌, Result, Ok, Err, None, Some}
use Rattle.jpg_spec_encode.specs.Encoded.{Encoding, count_due, encode_fault, encoded_text}
use Rattle.jpg_spec_words.specs.EncodeWords.{factors_due}
use Rattle.jpg_spec_write.specs.declared.huffman.Huffman.TheVariants.{Plain}
use Rattle.jpg_spec_write.specs.FileText.{off}
use Rattle.jpg_spec_image.specs.Images.{Image}
use Rattle.jpg_spec_image.specs.ImageFaults.{IsImage, IsImageFault}
use Rattle.jpg_spec.specs.Meaning.{Meaning}
use Rattle.jpg_spec_move.specs.Moved.{Choice, as_it_is, moved_text, picture_fault}
use Rattle.jpg_spec_write.specs.ScansAsked.{sequential}
use Rattle.jpg_spec.specs.Segments.{standard_limits}
use Rattle.jpg_spec_image.specs.TableText.{encoding_tables}
use Rattle.jpg_base.specs.Memory.{memory_outputs}
use Rattle.jpg_base.specs.declared.memory.MemoryDesk.{MemoryDesk}
use Rattle.jpg_base.specs.declared.names.Name.TheVariants.{Out}
use Rattle.jpg_base.specs.declared.stop.Stop.{Stop}
use Rattle.jpg_base.specs.declared.stop.Stop.TheVariants as stop
use Rattle.jpg_color.specs.Encode.{image_view}
use Rattle.jpg_pnm_bmp.specs.Made.{IsRightImage}
use Rattle.jpg_pnm_bmp.specs.declared.read.pixels.Image.{Image as Read}
use Rattle.example_callers.specs.declared.pictures.NotTurned.{NotTurned}
use Rattle.example_callers.specs.declared.pictures.NotTurned.TheVariants as unturned

-- the image of the file, or its first fault
abbrev pub IsImageOf : List ℕ → Result Read Stop → Type 0
IsImageOf file (Ok i) = IsImage standard_limits file (image_view i) × IsRightImage (image_view i)
IsImageOf file (Err (stop.Fault f)) = IsImageFault standard_limits file f.fault f.at
IsImageOf file (Err stop.NoMemory) = Unit {0}

-- HOW IT IS ENCODED at a quality: colours by 2 x 2 factors of luminance, the standard tables, one scan, and no restart
-- markers
abbrev pub encoding_at : ℕ → Image → Encoding
encoding_at quality image = record {
  gray = false;
  scans = sequential;
  huffman = Plain;
  restart = off;
  factors = factors_due [] (count_due false image.info.kind);
  first = (encoding_tables (Some quality) false None).0;
  others = (encoding_tables (Some quality) false None).1;
}

abbrev pub nothing_moved : Choice
nothing_moved = as_it_is sequential Plain off

-- the desk has one output, which has the text of the untransformed picture; or the picture has a fault
abbrev pub HoldsAsItIs : Meaning → Result MemoryDesk NotTurned → Type 0
HoldsAsItIs M (Ok desk) = (picture_fault nothing_moved M ≡ None) × (memory_outputs desk ≡ (Out, moved_text nothing_moved M) ∷ [])
HoldsAsItIs M (Err (unturned.Picture fault)) = picture_fault nothing_moved M ≡ Some fault
HoldsAsItIs M (Err (unturned.Stop (stop.Fault f))) = ⊥
HoldsAsItIs M (Err (unturned.Stop stop.NoMemory)) = Unit {0}

-- the desk has one output, which has the text of the file of the encoded image; or why there is none
abbrev pub HoldsEncoded : ℕ → Image → Result MemoryDesk NotTurned → Type 0
HoldsEncoded quality image (Ok desk) =
    (encode_fault (encoding_at quality image) image ≡ None) × (memory_outputs desk ≡ (Out, encoded_text (encoding_at quality image) image) ∷ [])
HoldsEncoded quality image (Err (unturned.Picture fault)) = encode_fault (encoding_at quality image) image ≡ Some fault
HoldsEncoded quality image (Err (unturned.Stop (stop.Fault f))) = ⊥
HoldsEncoded quality image (Err (unturned.Stop stop.NoMemory)) = Unit {0}

-- of the image of the file; or the file's fault
abbrev pub IsEncodedFrom : List ℕ → ℕ → Result MemoryDesk NotTurned → Type 0
IsEncodedFrom file quality (Err (unturned.Stop (stop.Fault f))) = IsImageFault standard_limits file f.fault f.at
IsEncodedFrom file quality (Err (unturned.Stop stop.NoMemory)) = Unit {0}
IsEncodedFrom file quality (Ok desk) = (image : Image) × IsImage standard_limits file image × HoldsEncoded quality image (Ok desk)
IsEncodedFrom file quality (Err (unturned.Picture fault)) =
    (image : Image) × IsImage standard_limits file image × HoldsEncoded quality image (Err (unturned.Picture fault))
