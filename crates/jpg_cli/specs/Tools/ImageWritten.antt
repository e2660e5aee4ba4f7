-- WHAT WRITING AN UNTRANSFORMED PICTURE does to a desk, and making it of an image before (the manual of cjpeg).
use Rattle.std.specs.Prelude.{◌≡◌, ◌⊎◌, List, None}
use Rattle.jpg_base.specs.declared.names.Name.{Name}
use Rattle.jpg_base.specs.Desk.{DeskState}
use Rattle.jpg_spec_encode.specs.Encoded.{Encoding, encode_fault, encoded, encoded_text}
use Rattle.jpg_spec.specs.FileMeaning.{Means}
use Rattle.jpg_spec_image.specs.Images.{Image}
use Rattle.jpg_spec.specs.Meaning.{Meaning}
use Rattle.jpg_spec_move.specs.Moved.{Choice, as_it_is, moved_text, picture_fault}
use Rattle.jpg_spec_write.specs.ScansAsked.{Scans}
use Rattle.jpg_spec.specs.Segments.{standard_limits}
use Rattle.jpg_spec_words.specs.declared.answers.Why.{Why}
use Rattle.jpg_spec_words.specs.declared.answers.Why.TheVariants as why
use Rattle.jpg_spec.specs.declared.frame.Copying.TheVariants as copying
use Rattle.jpg_spec_write.specs.Script.{Entry}
use Rattle.jpg_file.specs.Read.PictureRead.{MeansFor}
use Rattle.jpg_file.specs.declared.write.Plan.{Plan}
use Rattle.jpg_scans.specs.Restarts.{restart_of}
use Rattle.jpg_color.specs.Encode.{image_view}
use Rattle.jpg_color.specs.EncodedParts.{ViewParts}
use Rattle.jpg_pnm_bmp.specs.declared.read.pixels.Image.{Image as Read}
use Rattle.jpg_file.specs.declared.read.picture.Picture.{Picture}
use Rattle.jpg_color.specs.declared.encode.view.EncodedImage.{EncodedImage}
use Rattle.jpg_color.specs.declared.encode.EncodeStop.{EncodeStop}
use Rattle.jpg_color.specs.declared.encode.EncodeStop.TheVariants as stop
use Rattle.jpg_cli.specs.Tools.EncodingAsked.{asked_of}
use Rattle.jpg_words.specs.declared.cjpeg_request.EncodeWords.{EncodeWords}
use Rattle.jpg_desk.specs.Stays.{Untouched}
use Rattle.jpg_cli.specs.Tools.EncodedRead.{IsEncodedImage}
use Rattle.jpg_desk.specs.Writing.{AfterMade, IsMeant, MeansMoved, why_wrote}
use Rattle.jpg_desk.specs.declared.moved.Wrote.{Wrote}

-- a picture that was written untransformed, by why that ended
abbrev pub AfterWritten : Choice → Meaning → Name → DeskState → Why → DeskState → Type 0
AfterWritten choice M output old ended new =
    AfterMade (picture_fault choice M) (moved_text choice M) (IsMeant M → MeansMoved choice M) output old ended new

-- A picture was written untransformed, for each meaning whose markers that are passed on are those of this picture.
abbrev pub IsWritten : Choice → Picture → Name → DeskState → Why → DeskState → Type 0
IsWritten choice p output old ended new = (M : Meaning) → MeansFor choice.copying p M → AfterWritten choice M output old ended new

-- as the words ask for it, in these scans
abbrev pub WritesAsItIs : EncodeWords → Scans → Picture → DeskState → Why → DeskState → Type 0
WritesAsItIs w scans p old ended new = IsWritten (as_it_is scans w.huffman (restart_of w.restart)) p w.files.output old ended new

-- why no picture was made
abbrev pub why_not_encoded : EncodeStop → Why
why_not_encoded (stop.Picture fault) = why.Picture fault
why_not_encoded stop.NoMemory = why.NoMemory

-- The image has a fault, and nothing was opened or created; or it has none, and the text of its file, which means its
-- picture, is written; or there was no memory.
abbrev pub AfterEncoding : Encoding → Image → Name → DeskState → Why → DeskState → Type 0
AfterEncoding e I output old ended new =
    AfterMade (encode_fault e I) (encoded_text e I) (Means standard_limits (encoded_text e I) (encoded e I)) output old ended new
    ⊎ ((ended ≡ why.NoMemory) × Untouched old new)

-- an image that was read, as the words ask for it, by no tables of a file
abbrev pub EncodesImage : EncodeWords → Scans → Read → DeskState → Why → DeskState → Type 0
EncodesImage w scans i old ended new = AfterEncoding (asked_of w scans None i) (image_view i) w.files.output old ended new

-- AN ENCODED IMAGE written as the words ask for it: in these scans, with their Huffman tables and restarts
pub record IsAskedBy (w : EncodeWords) (scans : Scans) (e : Encoding) : Type 0 where
  pub scans_are : e.scans ≡ scans
  pub huffman : e.huffman ≡ w.huffman
  pub restart : e.restart ≡ restart_of w.restart

-- it is that of an image
abbrev pub IsEncodedBy : EncodeWords → Scans → EncodedImage → Type 0
IsEncodedBy w scans v = (e : Encoding) × (I : Image) × IsAskedBy w scans e × IsEncodedImage e I v

-- for each image that it is that of
abbrev pub WritesEncoded : EncodeWords → Scans → EncodedImage → DeskState → Why → DeskState → Type 0
WritesEncoded w scans v old ended new = (e : Encoding) (I : Image) → IsAskedBy w scans e → IsEncodedImage e I v → AfterEncoding e I w.files.output old ended new

abbrev pub WritesView : EncodeWords → Scans → EncodedImage → DeskState → Wrote → DeskState → Type 0
WritesView w scans v old answer new = WritesEncoded w scans v old (why_wrote answer) new

-- THE PLAN of a file of these parts in these scans: no kept marker is passed on.
pub record IsPlanOf (w : EncodeWords) (v : ViewParts) (script : List Entry) (plan : Plan) : Type 0 where
  pub frame : plan.out.frame ≡ v.frame
  pub colour : plan.out.colour ≡ v.colour
  pub quants : plan.out.quants.items ≡ v.quants
  pub jfif : plan.out.jfif ≡ v.jfif
  pub copying : plan.out.copying ≡ copying.None
  pub script_is : plan.script ≡ script
  pub huffman : plan.huffman ≡ w.huffman
  pub restart : plan.restart ≡ w.restart
