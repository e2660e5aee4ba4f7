-- An image read and encoded, over the states of a desk.
use Rattle.std.proofs.Common.{◌≡◌, ℕ, Bool, false, List, [], Option, None, Some, Result, Ok, Err, sym, ap, ◌∙◌, subst, arith, inl, inr}
use Rattle.std.specs.Prelude.{IfErr, IfOk, IfSome}
use Rattle.std.proofs.lemmas.List.{take_all}
use Rattle.jpg_base.specs.declared.names.Name.{Name}
use Rattle.jpg_base.specs.declared.names.Put.TheVariants as put
use Rattle.jpg_base.specs.Desk.{DeskState, Opens}
use Rattle.jpg_spec.specs.Geometry.{Frame}
use Rattle.jpg_spec_encode.specs.Encoded.{Encoding}
use Rattle.jpg_spec_image.specs.Images.{Image, sample_count}
use Rattle.jpg_spec_image.specs.declared.image.ImageInfo.{ImageInfo}
use Rattle.jpg_spec_words.specs.declared.answers.Why.{Why}
use Rattle.jpg_spec_words.specs.declared.answers.Why.TheVariants as why
use Rattle.jpg_spec_words.specs.declared.answers.Which.TheVariants as which
use Rattle.jpg_color.specs.Encode.{AsksFor, CanSample, encoded_frame, image_of}
use Rattle.jpg_color.specs.EncodeRows.{BeginsRows, IsRowScan, RowScan, row_scan}
use Rattle.jpg_huff.specs.declared.set.TableSet.{TableSet}
use Rattle.jpg_file.specs.declared.write.sole.SoleScan.{SoleScan}
use Rattle.jpg_color.specs.EncodeSampling.{BeginsSampling}
use Rattle.jpg_color.specs.ImageEncoder.{AddsTaken, HasTaken}
use Rattle.jpg_color.specs.declared.encode.EncodeStop.{EncodeStop}
use Rattle.jpg_color.specs.declared.encode.EncodeStop.TheVariants as stop
use Rattle.jpg_pnm_bmp.specs.Made.{IsRightImage}
use Rattle.jpg_pnm_bmp.specs.PlainSamples.{AreRightNumbers, HasFedSamples}
use Rattle.jpg_pnm_bmp.proofs.PlainSamples.{goes_on_plain}
use Rattle.jpg_cli.specs.Tools.ImageWritten.{why_not_encoded}
use Rattle.jpg_cli.specs.Tools.EncodingAsked.{CanEncodeKind}
use Rattle.jpg_color.specs.declared.encode.Encoding.{Encoding as Asked}
use Rattle.jpg_color.specs.declared.encode.row_encoder.RowEncoder.{RowEncoder}
use Rattle.jpg_color.specs.declared.encode.sampler.Sampler.{Sampler}
use Rattle.jpg_color.specs.declared.encode.image_encoder.ImageEncoder.{ImageEncoder}
use Rattle.jpg_color.specs.declared.encode.image_encoder.ImageEncoder.TheVariants as encoder
use Rattle.jpg_cli.specs.Tools.EncodedRead.{Encodes, EncodedRead, EndsEncoding}
use Rattle.jpg_desk.specs.EncodedRows.{scan_of}
use Rattle.jpg_desk.specs.ImageSource.{CanGiveSamples, GivesFrom, HasFed, TellsNoSamples, TellsRight, TellsSamples, is_source_read, source_samples, source_taken}
use Rattle.jpg_desk.specs.ImageSamples.{is_targa_given}
use Rattle.jpg_desk.specs.declared.image_samples.ImageSamples.{ImageSamples}
use Rattle.jpg_desk.proofs.SampleAnswers.{never_plain, none_held}
use Rattle.jpg_desk.specs.ImageTaken.{GoesOn as HasFedOpen, HoldsSome, IsSourceFed, is_targa}
use Rattle.jpg_desk.specs.Judging.{NoValueTaken, TakesPieces}
use Rattle.jpg_desk.specs.ReadImage.{IsImageRead, image_judging}
use Rattle.jpg_desk.specs.Reading.{rest_of}
use Rattle.jpg_cli.specs.Tools.SamplesFed.{AfterData, AfterSamples, AreGivenFrom, Begins, BeginsSource, CanGoOn, FinishesPlanes, GivesData, GivesRest, GoesOnFrom, GoesOnRows, HasDataOf, HasGivenRest, TellsNumbers}
use Rattle.jpg_cli.specs.declared.tools.cjpeg_image.Rest.{Rest}
use Rattle.jpg_cli.specs.declared.tools.cjpeg_image.Rest.TheVariants as gives
use Rattle.jpg_desk.specs.Stays.{OnlyReads}
use Rattle.jpg_desk.specs.declared.encoded_rows.EncodedPicture.{EncodedPicture}
use Rattle.jpg_desk.specs.declared.encoded_rows.EncodedPicture.TheVariants as picture
use Rattle.jpg_desk.specs.declared.encoded_rows.OneScan.{OneScan}
use Rattle.jpg_desk.specs.declared.image_source.ImageSource.{ImageSource}
use Rattle.jpg_desk.proofs.ImageFed.{fed_open, fed_taken}
use Rattle.jpg_desk.proofs.ImageTaken.{open_end, read_some, targa_is}
use Rattle.jpg_desk.proofs.Input.{noted}
use Rattle.jpg_desk.proofs.PictureTaken.{none_taken, reads_from}

-- AN IMAGE was read

pub image_encoded : (targa : Bool) (E : Image → Encoding) (s0 s1 : DeskState) (I : Image) (answer : Result EncodedPicture Why) → TakesPieces (IsImageRead targa I (rest_of s1.left)) s0 s1 → Encodes (E I) I answer → EndsEncoding targa E s0 answer s1
image_encoded targa E s0 s1 I (Ok v) read h = (I, read, h)
image_encoded targa E s0 s1 I (Err (why.Picture fault)) read h = (I, read, h)
image_encoded targa E s0 s1 I (Err why.NoMemory) (bytes, left, most, is) h = (bytes, left, most, is.read)
image_encoded targa E s0 s1 I (Err other) read h = absurd h

-- NONE was
pub none_encoded : (targa : Bool) (E : Image → Encoding) (s0 s1 : DeskState) (ended : Why) → NoValueTaken (image_judging targa) s0 ended s1 → EndsEncoding targa E s0 (Err ended) s1
none_encoded targa E s0 s1 (why.Refused f) h = h
none_encoded targa E s0 s1 (why.ReadFault which.Input) h = h
none_encoded targa E s0 s1 why.NoMemory h = h
none_encoded targa E s0 s1 other h = absurd h

-- BY AN ENCODER

-- where a reader tells the numbers of the image
pub plain_numbers : (r : ImageSource) (info : ImageInfo) → TellsSamples r info → TellsNumbers r info
plain_numbers r info h targa bytes fed = inl (sym (targa_is targa bytes r fed) ∙ (h targa bytes fed).0, (h targa bytes fed).1)

pub given_numbers : (r : ImageSource) (o : Option ImageInfo) → IfSome o (λ info. CanGiveSamples info r) → IfSome o (TellsRight r) → IfSome o (TellsNumbers r)
given_numbers r None can right = tt
given_numbers r (Some info) can right = λ targa bytes fed. inr (can, right targa bytes fed)

-- and what gives the samples that come: the bytes that follow
pub plain_goes : (r : ImageSource) (other : ImageInfo) (bytes : List ℕ) → HasFed (is_targa r) bytes r → TellsSamples r other → GivesRest r gives.Plain
plain_goes r other bytes fed tells = (sym (tells (is_targa r) bytes fed).0, by)
  where
    by : (info : ImageInfo) (more : List ℕ) → HasFedOpen (is_targa r) more r → CanGoOn info more r → HasGivenRest (is_targa r) info more (source_samples r) gives.Plain
    by info more k (inl h) = h
    by info more k (inr h) = absurd (never_plain r info other (is_targa r) more h.0 k.fed tells)

-- or a reader
never_told : (r : ImageSource) (info : ImageInfo) (bytes : List ℕ) → TellsNoSamples r → HasFed (is_targa r) bytes r → (is_targa r ≡ false) × HasFedSamples info bytes (source_samples r) → ⊥
never_told r info bytes none fed h = none bytes (source_samples r) info (subst (λ (t : Bool). HasFed t bytes r) h.0 fed) h.1

pub given_can : (r : ImageSource) (info : ImageInfo) (bytes : List ℕ) → HasFed (is_targa r) bytes r → TellsNoSamples r → CanGoOn info bytes r → CanGiveSamples info r
given_can r info bytes fed none (inl h) = absurd (never_told r info bytes none fed h)
given_can r info bytes fed none (inr h) = h.0

pub given_goes : (r : ImageSource) (given : ImageSamples) → TellsNoSamples r → GivesFrom r given → is_targa_given given ≡ is_targa r → GivesRest r (gives.Given given)
given_goes r given none h same = (same, by)
  where
    by : (info : ImageInfo) (bytes : List ℕ) → HasFedOpen (is_targa r) bytes r → CanGoOn info bytes r → HasGivenRest (is_targa r) info bytes (source_samples r) (gives.Given given)
    by info bytes k (inl p) = absurd (never_told r info bytes none k.fed p)
    by info bytes k (inr p) = record { all = []; has = h info p.0 (is_targa r) bytes k.fed k.short; given_is = none_held r info p.0 ∙ sym (take_all (sample_count info) [] (omega arith)) }

-- from where its samples can be given
pub reads_on : {E : Image → Encoding} {s : Sampler} (targa : Bool) (start : DeskState) (r : ImageSource) (now : DeskState) → is_source_read r ≡ false → OnlyReads start now → TakesPieces (λ bytes. HoldsSome targa false (rest_of now.left) bytes r) start now → BeginsSource targa E r s
    → (targa ≡ is_targa r) × ((bytes : List ℕ) × GoesOnFrom E None start bytes r (encoder.Planes s) now)
reads_on targa start r now more kept read begins =
    let some = read_some targa start r now more kept read in
    let same = targa_is targa some.0 r some.1.goes.fed in
    (same, (some.0, record { begun = begins some.0 some.1.goes.fed; read = subst (λ (t : Bool). IsSourceFed t start some.0 r now) same some.1 }))

pub begun_given : {E : Image → Encoding} {w : Option RowScan} {start : DeskState} {bytes samples made : List ℕ} {r : ImageSource} {rest : Rest} {s0 s1 : ImageEncoder} {taken : ℕ} {now : DeskState} (h : GoesOnFrom E w start bytes r s0 now) → samples ≡ source_samples r → taken ≡ source_taken r → GivesRest r rest → AddsTaken s0 samples s1
    → AreGivenFrom s0 start bytes (record { encoder = s1; rest = rest; made = made; taken = taken }) now
begun_given {w = w} {bytes = bytes} {samples = samples} {r = r} {rest = rest} h same count gives adds = record {
  given = record {
    info = (h.begun).info;
    given = samples;
    begun = (w, (h.begun).asked, (h.begun).sampled);
    sampled = λ v a k. adds v (h.begun).info a [] k;
    fed = subst (λ (t : Bool). HasGivenRest t (h.begun).info bytes samples rest) (sym gives.0)
        (subst (λ (x : List ℕ). HasGivenRest (is_targa r) (h.begun).info bytes x rest) (sym same) (gives.1 (h.begun).info bytes h.read.goes (h.begun).goes));
    taken_is = count ∙ fed_taken (is_targa r) bytes r h.read.goes.fed;
    short = h.read.goes.short;
  };
  kept = h.read.kept;
  read = h.read.read;
}

-- there was no memory for the first samples
pub begun_unheld : {E : Image → Encoding} {w : Option RowScan} {start : DeskState} {bytes : List ℕ} {r : ImageSource} {s : ImageEncoder} {now : DeskState} → GoesOnFrom E w start bytes r s now → OnlyReads start now × NoValueTaken (image_judging (is_targa r)) start why.NoMemory now
begun_unheld {bytes = bytes} {r} h =
    let short = h.read.goes.short in
    (h.read.kept, (bytes, h.read.read, omega (arith, short), open_end (is_targa r) bytes (fed_open (is_targa r) bytes r h.read.goes.fed) short))

pub all_encoded : {targa : Bool} {E : Image → Encoding} (start now : DeskState) {bytes : List ℕ} {r : ImageSource} {s0 s1 : ImageEncoder} (b : Begins E None bytes r s0) (answer : Result EncodedPicture Why) → AfterSamples targa None b.info b.asked start (Ok s1) now → FinishesPlanes s1 answer
    → EndsEncoding targa E start answer now
all_encoded {targa} {E} start now b answer (all, read, most, g) ends =
    image_encoded targa E start now (image_of b.info g.samples) answer (all, read, most, g.read) (ends E b.info b.asked g.samples b.like g.sampled g.count g.right)

-- as the data of one scan; or there was no memory for them
pub data_ended : {targa : Bool} {w : RowScan} {info : ImageInfo} {a : Asked} (start now : DeskState) {s1 : ImageEncoder} (answer : Result (List ℕ) Why) → AfterSamples targa (Some w) info a start (Ok s1) now → IfOk answer (GivesData s1) → IfErr answer (λ e. e ≡ why.NoMemory) → AfterData targa w info a start answer now
data_ended {w = w} {info} {a} start now (Ok text) (all, read, most, g) gives memory = record { samples = g.samples; read = (all, read, most, g.read); right = g.right; written = gives w info a g.samples g.sampled }
data_ended {targa} start now (Err ended) (all, read, most, g) gives memory = subst (λ (e : Why). NoValueTaken (image_judging targa) start e now) (sym memory) (all, read, most, (g.read).read)

-- by an encoder of rows, of a sampler
pub scan_is : (o : OneScan) (scan : SoleScan) (tables : TableSet) → tables ≡ scan.tables → scan ≡ (o.scan).value → row_scan (scan.due).head tables (scan.due).interval ≡ scan_of o
scan_is o scan tables lent same = ap (λ (t : TableSet). row_scan (scan.due).head t (scan.due).interval) lent ∙ ap (λ (s : SoleScan). row_scan (s.due).head s.tables (s.due).interval) same

pub rows_begin : {E : Image → Encoding} {start : DeskState} {bytes : List ℕ} {r : ImageSource} {s : Sampler} {o : OneScan} {now : DeskState} (scan : SoleScan) (tables : TableSet) → tables ≡ scan.tables → scan ≡ (o.scan).value → s.frame ≡ encoded_frame s.info s.encoding
    → GoesOnRows E start bytes r s o now → IsRowScan s.frame (row_scan (scan.due).head tables (scan.due).interval)
rows_begin {s = s} {o = o} scan tables lent same keeps h =
    let b = (h.goes).begun in
    let frame = keeps ∙ ap (λ (i : ImageInfo). encoded_frame i s.encoding) b.sampled.numbers ∙ ap (encoded_frame b.info) b.sampled.asked in
    subst (IsRowScan s.frame) (sym (scan_is o scan tables lent same)) (subst (λ (f : Frame). IsRowScan f (scan_of o)) (sym frame) (h.one).rows)

abbrev pub rows_go : {E : Image → Encoding} {start : DeskState} {bytes : List ℕ} {r : ImageSource} {s : Sampler} {o : OneScan} {now : DeskState} (scan : SoleScan) (tables : TableSet) (rows : RowEncoder) → BeginsRows s (row_scan (scan.due).head tables (scan.due).interval) rows → tables ≡ scan.tables → scan ≡ (o.scan).value
    → GoesOnRows E start bytes r s o now → GoesOnFrom E (Some (scan_of o)) start bytes r (encoder.Rows rows) now
rows_go {o = o} scan tables rows begins lent same h =
    let b = (h.goes).begun in
    record { begun = record { info = b.info; asked = b.asked; like = b.like; goes = b.goes; sampled = subst (λ (v : RowScan). HasTaken (Some v) b.info b.asked [] (encoder.Rows rows)) (scan_is o scan tables lent same) (begins b.info b.asked b.sampled) }; read = (h.goes).read }

pub rows_encoded : {E : Image → Encoding} {start : DeskState} {bytes : List ℕ} {r : ImageSource} {s0 : Sampler} {o : OneScan} {old now : DeskState} (h : GoesOnRows E start bytes r s0 o old) (text : List ℕ)
    → HasDataOf (is_targa r) (scan_of o) ((h.goes).begun).info ((h.goes).begun).asked start text now → EndsEncoding (is_targa r) E start (Ok (picture.Rows (record { file = o; bytes = text }))) now
rows_encoded {E} {start} {r = r} {o = o} {now = now} h text g =
    let b = (h.goes).begun in
    image_encoded (is_targa r) E start now (image_of b.info g.samples) (Ok (picture.Rows (record { file = o; bytes = text }))) g.read
    ((h.one).makes g.samples text g.right g.written)

-- FROM THE NAME

pub encoded_from : (targa : Bool) (E : Image → Encoding) (s0 s1 s2 : DeskState) (file : Name) (answer : Result EncodedPicture Why) → Opens s0 file put.Done s1 → OnlyReads s1 s2 → EndsEncoding targa E s1 answer s2 → EncodedRead targa E file s0 answer s2
encoded_from targa E s0 s1 s2 file (Ok v) h k (I, read, is) = (noted s0 s1 s2 file h k, (I, reads_from s0 s1 s2 file (IsImageRead targa I (rest_of s2.left)) h read, is))
encoded_from targa E s0 s1 s2 file (Err (why.Picture fault)) h k (I, read, is) = (noted s0 s1 s2 file h k, (I, reads_from s0 s1 s2 file (IsImageRead targa I (rest_of s2.left)) h read, is))
encoded_from targa E s0 s1 s2 file (Err (why.Refused f)) h k e = none_taken Image (image_judging targa) s0 s1 s2 file (why.Refused f) h k e
encoded_from targa E s0 s1 s2 file (Err (why.ReadFault which.Input)) h k e = none_taken Image (image_judging targa) s0 s1 s2 file (why.ReadFault which.Input) h k e
encoded_from targa E s0 s1 s2 file (Err why.NoMemory) h k e = none_taken Image (image_judging targa) s0 s1 s2 file why.NoMemory h k e
encoded_from targa E s0 s1 s2 file (Err other) h k e = absurd e

-- WHAT IS ASKED FOR

pub can_sample : (info : ImageInfo) (a : Asked) → CanEncodeKind info.kind a → AreRightNumbers info → CanSample info a
can_sample info a k n = record { wide = n.width_low; wide_few = n.width_high; high = n.height_low; high_few = n.height_high; factors = k.factors; pairs = k.pairs; first = k.first; others = k.others }

-- of one whose samples come
pub numbers_right : (info : ImageInfo) (bytes : List ℕ) (r : ImageSource) → CanGoOn info bytes r → AreRightNumbers info
numbers_right info bytes r (inl h) = (goes_on_plain info bytes (source_samples r) h.1).numbers
numbers_right info bytes r (inr h) = h.1

-- of an image that was read
pub right_numbers : (I : Image) → IsRightImage I → AreRightNumbers I.info
right_numbers I r = record { width_low = r.width_low; width_high = r.width_high; height_low = r.height_low; height_high = r.height_high; pixels = r.pixels }

-- A FAULT

pub fault_encoded : (info : ImageInfo) (a : Asked) (e : Encoding) (samples : List ℕ) (end : EncodeStop) → AsksFor a e → BeginsSampling info a (Err end) → Encodes e (image_of info samples) (Err (why_not_encoded end))
fault_encoded info a e samples (stop.Picture fault) asks h = h samples e asks
fault_encoded info a e samples stop.NoMemory asks h = tt
