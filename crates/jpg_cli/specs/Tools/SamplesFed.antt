-- THE SAMPLES of PNM, and of Targa whose rows come from the top, given to an encoder while they are read, from a desk whose
-- input is open: as planes, or as the data of a scan.
use Rattle.std.specs.Prelude.{◌≡◌, ◌⊎◌, ℕ, ◌<◌, min, Bool, true, false, not, ◌||◌, ◌==◌, List, [], length, take, Option, None, Some, Result, Ok, Err}
use Rattle.std.specs.Io.KnownBytes.{Consumes}
use Rattle.jpg_base.specs.Desk.{DeskState}
use Rattle.jpg_spec.specs.Geometry.{Frame, component_at}
use Rattle.jpg_spec.specs.Segments.{standard_limits}
use Rattle.jpg_spec.specs.declared.fault.Fault.TheVariants.{InputTooLong}
use Rattle.jpg_spec_encode.specs.Encoded.{Encoding}
use Rattle.jpg_spec_image.specs.Images.{Image, sample_count}
use Rattle.jpg_spec_image.specs.declared.image.ImageInfo.{ImageInfo}
use Rattle.jpg_spec_words.specs.declared.answers.Why.{Why}
use Rattle.jpg_spec_words.specs.declared.answers.Why.TheVariants as why
use Rattle.jpg_spec_write.specs.WrittenFile.{IsRestart}
use Rattle.jpg_color.specs.Encode.{AsksFor, CanSample, encoded_frame, image_of}
use Rattle.jpg_color.specs.EncodeRows.{IsRowScan, RowScan, data_due}
use Rattle.jpg_color.specs.EncodeSampling.{HasSampled}
use Rattle.jpg_color.specs.ImageEncoder.{AddsTaken, HasTaken, encoder_left}
use Rattle.jpg_color.specs.declared.encode.Encoding.{Encoding as Asked}
use Rattle.jpg_color.specs.declared.encode.image_encoder.ImageEncoder.{ImageEncoder}
use Rattle.jpg_color.specs.declared.encode.image_encoder.ImageEncoder.TheVariants as encoder
use Rattle.jpg_color.specs.declared.encode.sampler.Sampler.{Sampler}
use Rattle.jpg_pnm_bmp.specs.Made.{AreBytes, IsRightImage}
use Rattle.jpg_pnm_bmp.specs.PlainSamples.{AreRightNumbers, HasFedSamples}
use Rattle.jpg_spec.specs.Scan.{Blocks}
use Rattle.jpg_spec_write.specs.ScansAsked.{Scans, script_due}
use Rattle.jpg_spec_write.specs.Script.{Entry}
use Rattle.jpg_spec_write.specs.ScriptFaults.{script_fault}
use Rattle.jpg_scans.specs.Judged.{judged}
use Rattle.jpg_file.specs.declared.write.Plan.{Plan}
use Rattle.jpg_color.specs.ImageHead.{head_parts}
use Rattle.jpg_color.specs.declared.encode.image_head.ImageHead.{ImageHead}
use Rattle.jpg_words.specs.declared.cjpeg_request.EncodeWords.{EncodeWords}
use Rattle.jpg_cli.specs.Tools.EncodedRead.{Encodes, EndsEncoding}
use Rattle.jpg_desk.specs.EncodedRows.{IsEncodedRows, scan_of}
use Rattle.jpg_cli.specs.Tools.ImageWritten.{IsAskedBy, IsPlanOf}
use Rattle.jpg_desk.specs.ImageSamples.{HasGiven, is_targa_given}
use Rattle.jpg_desk.specs.ImageSource.{CanGiveSamples, HasFed, source_samples}
use Rattle.jpg_desk.specs.ImageTaken.{GoesOn as HasFedOpen, IsSourceFed, is_targa}
use Rattle.jpg_desk.specs.Judging.{NoValueTaken, TakesPieces}
use Rattle.jpg_desk.specs.Pump.{ReaderKind}
use Rattle.jpg_desk.specs.ReadImage.{IsImageRead, image_judging}
use Rattle.jpg_desk.specs.Reading.{rest_of}
use Rattle.jpg_desk.specs.Stays.{OnlyReads}
use Rattle.jpg_desk.specs.declared.encoded_rows.EncodedPicture.{EncodedPicture}
use Rattle.jpg_desk.specs.declared.encoded_rows.OneScan.{OneScan}
use Rattle.jpg_desk.specs.declared.image_samples.ImageSamples.{ImageSamples}
use Rattle.jpg_desk.specs.declared.image_source.ImageSource.{ImageSource}
use Rattle.jpg_cli.specs.declared.tools.cjpeg_image.Rest.{Rest}
use Rattle.jpg_cli.specs.declared.tools.cjpeg_image.Rest.TheVariants as gives
use Rattle.jpg_cli.specs.declared.tools.cjpeg_image.SamplesSink.{SamplesSink}

-- Images with these numbers are encoded like this, and can be.
pub record IsAskedFor (E : Image → Encoding) (info : ImageInfo) (a : Asked) : Type 0 where
  pub asks : (I : Image) → I.info.kind ≡ info.kind → AsksFor a (E I)
  pub can : CanSample info a
  pub restart : (I : Image) → IsRestart (E I).restart

-- THE SAMPLES of the bytes so far, of an image with these numbers: those after the header; or those that a reader gave,
-- which gives no more than the image has.
pub record IsGivenRest (targa : Bool) (info : ImageInfo) (bytes given : List ℕ) (r : ImageSamples) : Type 0 where
  pub all : List ℕ
  pub has : HasGiven targa info bytes all r
  pub given_is : given ≡ take (sample_count info) all

abbrev pub HasGivenRest : Bool → ImageInfo → List ℕ → List ℕ → Rest → Type 0
HasGivenRest targa info bytes given gives.Plain = (targa ≡ false) × HasFedSamples info bytes given
HasGivenRest targa info bytes given (gives.Given r) = IsGivenRest targa info bytes given r

-- whether they are of Targa
abbrev pub is_targa_rest : Rest → Bool
is_targa_rest gives.Plain = false
is_targa_rest (gives.Given r) = is_targa_given r

-- SOME OF THEM were given to an encoder that had none, those of the bytes so far.
pub record AreGiven (targa : Bool) (from : ImageEncoder) (bytes : List ℕ) (s : SamplesSink) : Type 0 where
  pub info : ImageInfo
  pub given : List ℕ
  pub begun : (w : Option RowScan) × (a : Asked) × HasTaken w info a [] from
  pub sampled : (w : Option RowScan) (a : Asked) → HasTaken w info a [] from → HasTaken w info a given s.encoder
  pub fed : HasGivenRest targa info bytes given s.rest
  pub taken_is : s.taken ≡ length bytes
  pub short : length bytes < standard_limits.input

-- ALL OF THEM were, and the bytes that were read have their image.
pub record AreAllGiven (targa : Bool) (from : ImageEncoder) (rest bytes : List ℕ) (s : ImageEncoder) : Type 0 where
  pub info : ImageInfo
  pub samples : List ℕ
  pub begun : (w : Option RowScan) × (a : Asked) × HasTaken w info a [] from
  pub sampled : (w : Option RowScan) (a : Asked) → HasTaken w info a [] from → HasTaken w info a samples s
  pub count : length samples ≡ sample_count info
  pub read : IsImageRead targa (image_of info samples) rest bytes
  pub right : IsRightImage (image_of info samples)

-- ALL PIECES: what holds of an encoder that had none
abbrev pub HoldAll : SamplesSink → Option ℕ → List ℕ → List ℕ → SamplesSink → Type 0
HoldAll from None rest bytes now = AreAllGiven (is_targa_rest from.rest) from.encoder rest bytes now.encoder
HoldAll from (Some n) rest bytes now = ⊥

abbrev pub samples_reader : ReaderKind SamplesSink Image
samples_reader = record {
  fed = λ from bytes now. AreGiven (is_targa_rest from.rest) from.encoder bytes now;
  holds = HoldAll;
  judging = λ from. image_judging (is_targa_rest from.rest);
  more = λ s. ⊥;
}

-- whether none are left; or some are, and as many bytes were taken as may be
abbrev pub AreAll : SamplesSink → Result Bool Why → Type 0
AreAll s (Ok true) = encoder_left s.encoder ≡ 0
AreAll s (Ok false) = (encoder_left s.encoder ≡ 0 → ⊥) × (s.taken ≡ standard_limits.input → ⊥)
AreAll s (Err w) = (w ≡ why.Refused (record { fault = InputTooLong; at = standard_limits.input })) × (encoder_left s.encoder ≡ 0 → ⊥) × (s.taken ≡ standard_limits.input)

-- An encoder takes the first bytes of a piece, as many as are left of its samples.
abbrev pub TakesSome : ImageEncoder → List ℕ → ImageEncoder → Type 0
TakesSome old piece new = AreBytes piece × AddsTaken old (take (min (encoder_left old) (length piece)) piece) new

abbrev pub HasSomeTaken : ImageEncoder → Type 0
HasSomeTaken s = (w : Option RowScan) × (info : ImageInfo) × (a : Asked) × (given : List ℕ) × HasTaken w info a given s

-- FROM A DESK from which these bytes were read
pub record AreGivenFrom (from : ImageEncoder) (start : DeskState) (bytes : List ℕ) (s : SamplesSink) (now : DeskState) : Type 0 where
  pub given : AreGiven (is_targa_rest s.rest) from bytes s
  pub kept : OnlyReads start now
  pub read : Consumes start.left now.left bytes

abbrev pub AreSomeGiven : SamplesSink → DeskState → Type 0
AreSomeGiven s now = (from : ImageEncoder) × (start : DeskState) × (bytes : List ℕ) × AreGivenFrom from start bytes s now

-- of an image with these numbers
pub record IsAllGiven (targa : Bool) (w : Option RowScan) (info : ImageInfo) (a : Asked) (rest bytes : List ℕ) (s : ImageEncoder) : Type 0 where
  pub samples : List ℕ
  pub sampled : HasTaken w info a samples s
  pub count : length samples ≡ sample_count info
  pub read : IsImageRead targa (image_of info samples) rest bytes
  pub right : IsRightImage (image_of info samples)

-- up to the piece with the last sample; or why the reading ends
abbrev pub AfterSamples : Bool → Option RowScan → ImageInfo → Asked → DeskState → Result ImageEncoder Why → DeskState → Type 0
AfterSamples targa w info a start (Ok s) now = TakesPieces (λ bytes. IsAllGiven targa w info a (rest_of now.left) bytes s) start now
AfterSamples targa w info a start (Err ended) now = NoValueTaken (image_judging targa) start ended now

abbrev pub FeedsRest : SamplesSink → DeskState → Result ImageEncoder Why → DeskState → Type 0
FeedsRest had old answer new =
    (from : ImageEncoder) (start : DeskState) (bytes : List ℕ) → AreGivenFrom from start bytes had old → (w : Option RowScan) (info : ImageInfo) (a : Asked) → HasTaken w info a [] from
    → OnlyReads start new × AfterSamples (is_targa_rest had.rest) w info a start answer new

-- THE ENCODED IMAGE of a sampler that was given all samples
abbrev pub FinishesImage : Sampler → Result EncodedPicture Why → Type 0
FinishesImage s answer =
    (E : Image → Encoding) (info : ImageInfo) (a : Asked) (samples : List ℕ) → IsAskedFor E info a → HasSampled info a samples s → length samples ≡ sample_count info → IsRightImage (image_of info samples)
    → Encodes (E (image_of info samples)) (image_of info samples) answer

abbrev pub FinishesPlanes : ImageEncoder → Result EncodedPicture Why → Type 0
FinishesPlanes s answer =
    (E : Image → Encoding) (info : ImageInfo) (a : Asked) (samples : List ℕ) → IsAskedFor E info a → HasTaken None info a samples s → length samples ≡ sample_count info → IsRightImage (image_of info samples)
    → Encodes (E (image_of info samples)) (image_of info samples) answer

-- THE DATA of an encoder that was given all samples
abbrev pub GivesData : ImageEncoder → List ℕ → Type 0
GivesData s text = (w : RowScan) (info : ImageInfo) (a : Asked) (samples : List ℕ) → HasTaken (Some w) info a samples s → text ≡ data_due w info a samples

-- THE REST of the samples of an image with these numbers comes after these bytes, which were fed to a reader: they are the
-- bytes that follow, or they can be given as they are read.
abbrev pub CanGoOn : ImageInfo → List ℕ → ImageSource → Type 0
CanGoOn info bytes r = ((is_targa r ≡ false) × HasFedSamples info bytes (source_samples r)) ⊎ (CanGiveSamples info r × AreRightNumbers info)

abbrev pub TellsNumbers : ImageSource → ImageInfo → Type 0
TellsNumbers r info = (targa : Bool) (bytes : List ℕ) → HasFed targa bytes r → CanGoOn info bytes r

abbrev pub GivesRest : ImageSource → Rest → Type 0
GivesRest r rest =
    (is_targa_rest rest ≡ is_targa r) × ((info : ImageInfo) (bytes : List ℕ) → HasFedOpen (is_targa r) bytes r → CanGoOn info bytes r → HasGivenRest (is_targa r) info bytes (source_samples r) rest)

-- AN ENCODER that begins: it was given no samples yet, and the rest of those of a file comes after the bytes so far.
pub record Begins (E : Image → Encoding) (w : Option RowScan) (bytes : List ℕ) (r : ImageSource) (s : ImageEncoder) : Type 0 where
  pub info : ImageInfo
  pub asked : Asked
  pub like : IsAskedFor E info asked
  pub goes : CanGoOn info bytes r
  pub sampled : HasTaken w info asked [] s

abbrev pub BeginsSource : Bool → (Image → Encoding) → ImageSource → Sampler → Type 0
BeginsSource targa E r s = (bytes : List ℕ) → HasFed targa bytes r → Begins E None bytes r (encoder.Planes s)

-- The image is read from there on.
pub record GoesOnFrom (E : Image → Encoding) (w : Option RowScan) (start : DeskState) (bytes : List ℕ) (r : ImageSource) (s : ImageEncoder) (now : DeskState) : Type 0 where
  pub begun : Begins E w bytes r s
  pub read : IsSourceFed (is_targa r) start bytes r now

abbrev pub GoesOn : ImageSource → ImageEncoder → DeskState → Type 0
GoesOn r s now = (E : Image → Encoding) × (w : Option RowScan) × (start : DeskState) × (bytes : List ℕ) × GoesOnFrom E w start bytes r s now

-- all samples, the first of which the reader has
abbrev pub FeedsAll : ImageSource → ImageEncoder → DeskState → Result ImageEncoder Why → DeskState → Type 0
FeedsAll r s old answer after =
    (E : Image → Encoding) (w : Option RowScan) (start : DeskState) (bytes : List ℕ) (h : GoesOnFrom E w start bytes r s old) → OnlyReads start after × AfterSamples (is_targa r) w (h.begun).info (h.begun).asked start answer after

-- AS PLANES
abbrev pub GoesOnAsPlanes : ImageSource → ImageEncoder → DeskState → Type 0
GoesOnAsPlanes r s now = (E : Image → Encoding) × (start : DeskState) × (bytes : List ℕ) × GoesOnFrom E None start bytes r s now

abbrev pub EndsPlanes : ImageSource → ImageEncoder → DeskState → Result EncodedPicture Why → DeskState → Type 0
EndsPlanes r s old answer new = (E : Image → Encoding) (start : DeskState) (bytes : List ℕ) → GoesOnFrom E None start bytes r s old → OnlyReads start new × EndsEncoding (is_targa r) E start answer new

-- THE DATA OF A SCAN
abbrev pub GoesOnScan : ImageSource → ImageEncoder → DeskState → Type 0
GoesOnScan r s now = (E : Image → Encoding) × (w : RowScan) × (start : DeskState) × (bytes : List ℕ) × GoesOnFrom E (Some w) start bytes r s now

-- those of the image that was read
pub record HasDataOf (targa : Bool) (w : RowScan) (info : ImageInfo) (a : Asked) (start : DeskState) (text : List ℕ) (now : DeskState) : Type 0 where
  pub samples : List ℕ
  pub read : TakesPieces (IsImageRead targa (image_of info samples) (rest_of now.left)) start now
  pub right : IsRightImage (image_of info samples)
  pub written : text ≡ data_due w info a samples

abbrev pub AfterData : Bool → RowScan → ImageInfo → Asked → DeskState → Result (List ℕ) Why → DeskState → Type 0
AfterData targa w info a start (Ok text) now = HasDataOf targa w info a start text now
AfterData targa w info a start (Err ended) now = NoValueTaken (image_judging targa) start ended now

abbrev pub EndsData : ImageSource → ImageEncoder → DeskState → Result (List ℕ) Why → DeskState → Type 0
EndsData r s old answer new =
    (E : Image → Encoding) (w : RowScan) (start : DeskState) (bytes : List ℕ) (h : GoesOnFrom E (Some w) start bytes r s old) → OnlyReads start new × AfterData (is_targa r) w (h.begun).info (h.begun).asked start answer new

-- AS THE DATA OF ONE SCAN: how the file of each image with these numbers is written
pub record IsOneScan (E : Image → Encoding) (info : ImageInfo) (a : Asked) (o : OneScan) : Type 0 where
  pub rows : IsRowScan (encoded_frame info a) (scan_of o)
  pub makes : (samples text : List ℕ) → IsRightImage (image_of info samples) → text ≡ data_due (scan_of o) info a samples → IsEncodedRows (E (image_of info samples)) (image_of info samples) (record { file = o; bytes = text })

pub record GoesOnRows (E : Image → Encoding) (start : DeskState) (bytes : List ℕ) (r : ImageSource) (s : Sampler) (o : OneScan) (now : DeskState) : Type 0 where
  pub goes : GoesOnFrom E None start bytes r (encoder.Planes s) now
  pub one : IsOneScan E (goes.begun).info (goes.begun).asked o

abbrev pub GoesOnAsRows : ImageSource → Sampler → OneScan → DeskState → Type 0
GoesOnAsRows r s o now = (E : Image → Encoding) × (start : DeskState) × (bytes : List ℕ) × GoesOnRows E start bytes r s o now

abbrev pub EndsRows : ImageSource → Sampler → OneScan → DeskState → Result EncodedPicture Why → DeskState → Type 0
EndsRows r s o old answer new = (E : Image → Encoding) (start : DeskState) (bytes : List ℕ) → GoesOnRows E start bytes r s o old → OnlyReads start new × EndsEncoding (is_targa r) E start answer new

-- the plan of a file with this head: its scans are possible
pub record IsPlannedFor (w : EncodeWords) (scans : Scans) (h : ImageHead) (plan : Plan) : Type 0 where
  pub script : List Entry
  pub due : script ≡ script_due scans h.frame h.colour
  pub ok : Ok tt ≡ judged (script_fault h.frame script)
  pub planned : (blocks : Blocks) → IsPlanOf w (head_parts h blocks) script plan

-- for a sampler of an image that is encoded as the words ask for it
pub record AsksSampler (w : EncodeWords) (scans : Scans) (E : Image → Encoding) (info : ImageInfo) (a : Asked) (s : Sampler) : Type 0 where
  pub like : IsAskedFor E info a
  pub by : (I : Image) → IsAskedBy w scans (E I)
  pub sampled : HasSampled info a [] s

abbrev pub IsSamplerFor : EncodeWords → Scans → Sampler → Type 0
IsSamplerFor w scans s = (E : Image → Encoding) × (info : ImageInfo) × (a : Asked) × AsksSampler w scans E info a s

abbrev pub IsOneScanFor : EncodeWords → Scans → Sampler → OneScan → Type 0
IsOneScanFor w scans s o = (E : Image → Encoding) (info : ImageInfo) (a : Asked) → AsksSampler w scans E info a s → IsOneScan E info a o

-- The rows of MCUs of a scan of all components are those of the frame: the only component has one row of blocks in each.
abbrev pub has_frame_rows : Frame → Bool
has_frame_rows f = not (length f.components == 1) || (component_at f 0).v == 1
