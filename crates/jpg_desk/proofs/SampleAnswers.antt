-- Readers that give the samples of image files, by the format.
use Rattle.std.proofs.Common.{◌≡◌, ℕ, ◌<◌, ◌≤◌, Bool, true, false, List, [], ◌++◌, length, Option, None, Some, Result, Ok, Err, refl, sym, ap, ◌∙◌, subst, arith, ⊎_elim}
use Rattle.std.specs.Prelude.{IfSome}
use Rattle.std.proofs.lemmas.Bool.{cases_lt}
use Rattle.std.proofs.lemmas.List.{append-nil}
use Rattle.jpg_base.specs.declared.stop.Stop.{Stop}
use Rattle.jpg_base.specs.declared.stop.Stop.TheVariants as stop
use Rattle.jpg_spec.specs.Segments.{standard_limits}
use Rattle.jpg_spec.specs.declared.fault.Fault.TheVariants.{ImageShort}
use Rattle.jpg_spec.specs.declared.fault.FaultAt.{FaultAt}
use Rattle.jpg_spec_image.proofs.OpenTarga.{open_few}
use Rattle.jpg_spec_image.specs.declared.image.ImageInfo.{ImageInfo}
use Rattle.jpg_spec_words.specs.declared.answers.Why.{Why}
use Rattle.jpg_pnm_bmp.specs.Made.{AreBytes, image_by_parts}
use Rattle.jpg_pnm_bmp.specs.PixelsRead.{HasFedImage}
use Rattle.jpg_pnm_bmp.specs.PlainSamples.{AreRightNumbers, samples_of, samples_so_far}
use Rattle.jpg_pnm_bmp.specs.declared.read.piece.Fed2.{Fed2}
use Rattle.jpg_pnm_bmp.specs.declared.read.piece.Fed2.TheVariants as fed
use Rattle.jpg_pnm_bmp.specs.PnmGiven as pnm
use Rattle.jpg_pnm_bmp.specs.Samples.{Appends, InfoAfter}
use Rattle.jpg_pnm_bmp.specs.declared.read.pixels.PixelReader.{PixelReader}
use Rattle.jpg_pnm_bmp.specs.declared.read.pnm_given.PnmSamples.{PnmSamples}
use Rattle.jpg_pnm_bmp.proofs.PlainSamples.{told_not_plain}
use Rattle.jpg_pnm_bmp.proofs.PnmGiven.{given_open as pnm_open}
use Rattle.jpg_targa.specs.Samples.{targa_samples_kind}
use Rattle.jpg_targa.specs.TargaGiven as targa
use Rattle.jpg_targa.specs.TargaRead.{HasFedTarga, IsShortAt}
use Rattle.jpg_targa.specs.declared.read.given.TargaSamples.{TargaSamples}
use Rattle.jpg_targa.specs.declared.read.reader.TargaReader.{TargaReader}
use Rattle.jpg_targa.proofs.SamplesRead.{given_open as targa_open, goes_on_targa}
use Rattle.jpg_desk.specs.ImageFile.{HasFaultIn, HasImageIn, IsOpenIn}
use Rattle.jpg_desk.specs.ImageSamples.{AfterEnd, AfterPiece, EndsPnm, EndsSamples, EndsTarga, GivesPiece, GivesPnm, GivesTarga, HasGiven, HasGivenBy, HoldsSamples, LastsHere, is_samples_read, samples_taken}
use Rattle.jpg_desk.specs.ImageSource.{CanGiveSamples, GivesFrom, HasFed, TellsRight, TellsSamples, source_samples, step_of}
use Rattle.jpg_desk.specs.Pump.{why_stopped}
use Rattle.jpg_desk.specs.ReadImage.{IsFaultRead, IsShortImageRead}
use Rattle.jpg_desk.specs.declared.image_samples.ImageSamples.{ImageSamples}
use Rattle.jpg_desk.specs.declared.image_samples.ImageSamples.TheVariants as given
use Rattle.jpg_desk.specs.declared.image_source.ImageSource.{ImageSource}
use Rattle.jpg_desk.specs.declared.image_source.ImageSource.TheVariants as source
use Rattle.jpg_desk.proofs.ImageFed.{right_image}
use Rattle.jpg_desk.proofs.ImageTaken.{open_end, open_more, open_too_long}

-- BY FORMAT

pub pnm_gives : (old new : PnmSamples) (piece before made : List ℕ) (answer : Result Bool Why) → GivesPnm old piece before answer new made → GivesPiece (given.Pnm old) piece before answer (given.Pnm new) made
pnm_gives old new piece before made answer g false info bytes all h = g info bytes all h
pnm_gives old new piece before made answer g true info bytes all h = absurd h.given

pub targa_gives : (old new : TargaSamples) (piece before made : List ℕ) (answer : Result Bool Why) → GivesTarga old piece before answer new made → GivesPiece (given.Targa old) piece before answer (given.Targa new) made
targa_gives old new piece before made answer g true info bytes all h = g info bytes all h
targa_gives old new piece before made answer g false info bytes all h = absurd h.given

pub pnm_ends : (old : PnmSamples) (before made : List ℕ) (answer : Result (Unit {0}) Why) → EndsPnm old before answer made → EndsSamples (given.Pnm old) before answer made
pnm_ends old before made answer g false info bytes all h = g info bytes all h
pnm_ends old before made answer g true info bytes all h = absurd h.given

pub targa_ends : (old : TargaSamples) (before : List ℕ) (answer : Result (Unit {0}) Why) → EndsTarga old answer → EndsSamples (given.Targa old) before answer before
targa_ends old before answer g true info bytes all h = ([], sym (append-nil before), subst (λ (x : List ℕ). AfterEnd true info bytes x answer) (sym (append-nil all)) (g info bytes all h))
targa_ends old before answer g false info bytes all h = absurd h.given

-- WHAT IS SO of the bytes that were fed

pub samples_fed : (targa : Bool) (bytes all : List ℕ) (r : ImageSamples) → HasGivenBy targa bytes all r → samples_taken r ≡ length bytes
samples_fed false bytes all (given.Pnm r) h = h.2.taken_is
samples_fed true bytes all (given.Targa r) h = h.2.taken_is
samples_fed false bytes all (given.Targa r) h = absurd h
samples_fed true bytes all (given.Pnm r) h = absurd h

pub samples_open : (targa : Bool) (bytes all : List ℕ) (r : ImageSamples) → HasGivenBy targa bytes all r → IsOpenIn targa bytes
samples_open false bytes all (given.Pnm r) h = pnm_open bytes all r.reader.work h.2.gives
samples_open true bytes all (given.Targa r) h = targa_open bytes all r.reader.work h.2.gives
samples_open false bytes all (given.Targa r) h = absurd h
samples_open true bytes all (given.Pnm r) h = absurd h

module _ (targa : Bool) (info : ImageInfo) (bytes all : List ℕ) (old : ImageSamples) (h : HasGiven targa info bytes all old) where
  more_read : (piece : List ℕ) → length piece ≤ 65536 → IsShortImageRead targa (bytes ++ piece)
  more_read piece few = open_more targa bytes piece (samples_open targa bytes all old h.given) h.short few

  whole_held : (piece more : List ℕ) → length piece ≤ 65536 → AreBytes (bytes ++ piece) → ((rest : List ℕ) → HasImageIn targa ((bytes ++ piece) ++ rest) (image_by_parts info more)) → (rest : List ℕ) → HoldsSamples targa info rest (bytes ++ piece) more
  whole_held piece more few small is = λ rest. record {
    is = record { is = is rest; read = more_read piece few };
    right = right_image targa ((bytes ++ piece) ++ []) (image_by_parts info more) (is []) (subst AreBytes (sym (append-nil (bytes ++ piece))) small);
  }

  fault_held : (piece : List ℕ) (f : FaultAt) → length piece ≤ 65536 → ((rest : List ℕ) → HasFaultIn targa ((bytes ++ piece) ++ rest) f) → (rest : List ℕ) → IsFaultRead targa f rest (bytes ++ piece)
  fault_held piece f few is = λ rest. record { is = is rest; read = more_read piece few }

  end_read : IsShortImageRead targa bytes
  end_read = open_end targa bytes (samples_open targa bytes all old h.given) h.short

-- A PIECE of PNM

-- it has the numbers of the image, and is no longer than may be
pub record IsPiece (bytes piece : List ℕ) : Type 0 where
  pub few : length piece ≤ 65536
  pub most : length (bytes ++ piece) ≤ standard_limits.input
  pub small : AreBytes (bytes ++ piece)

module _ (info : ImageInfo) (bytes all piece before made : List ℕ) (old new : PnmSamples) (h : HasGiven false info bytes all (given.Pnm old)) (p : IsPiece bytes piece) where
  pub pnm_more : (answer : Result Bool Why) → Appends before made (λ more. pnm.AfterGiven bytes piece (all ++ more) (Ok fed.More) new) → pnm.given_info new ≡ pnm.given_info old → LastsHere (pnm.given_taken new) answer
      → Appends before made (λ more. AfterPiece false info (bytes ++ piece) (all ++ more) answer (given.Pnm new))
  pnm_more answer (more, e, k) same lasts = (more, e, by answer lasts)
    where
      taken : pnm.given_taken new ≡ length (bytes ++ piece)
      taken = k.2.taken_is

      short : (pnm.given_taken new ≡ standard_limits.input → ⊥) → length (bytes ++ piece) < standard_limits.input
      short over =
          ⊎_elim
          (λ (a : length (bytes ++ piece) < standard_limits.input). a)
          (λ (a : standard_limits.input ≤ length (bytes ++ piece)). absurd (over (taken ∙ (let m = p.most in let e : length (bytes ++ piece) ≡ standard_limits.input = omega (arith, a, m) in e))))
          (cases_lt (length (bytes ++ piece)) standard_limits.input)

      by : (answer : Result Bool Why) → LastsHere (pnm.given_taken new) answer → AfterPiece false info (bytes ++ piece) (all ++ more) answer (given.Pnm new)
      by (Ok false) over = record { given = k; info_is = same ∙ h.info_is; bytes_all = p.small; short = short over }
      by (Ok true) none = absurd none
      by (Err w) full =
          subst (λ (v : Why). AfterPiece false info (bytes ++ piece) (all ++ more) (Err v) (given.Pnm new)) (sym full.0)
          (λ rest. open_too_long (bytes ++ piece) rest (pnm_open (bytes ++ piece) (all ++ more) new.reader.work k.2.gives) (sym taken ∙ full.1))

  pub pnm_done : Appends before made (λ more. pnm.AfterGiven bytes piece (all ++ more) (Ok fed.Done) new) → pnm.given_info new ≡ pnm.given_info old → Appends before made (λ more. AfterPiece false info (bytes ++ piece) (all ++ more) (Ok true) (given.Pnm new))
  pnm_done (more, e, k) same =
      let I : pnm.given_info new ≡ info = same ∙ h.info_is in
      (more, e, whole_held false info bytes all (given.Pnm old) h piece (all ++ more) p.few p.small (λ rest. subst (λ (i : ImageInfo). HasImageIn false ((bytes ++ piece) ++ rest) (image_by_parts i (all ++ more))) I (k standard_limits rest p.most)))

  pub pnm_stopped : (ended : Stop) → Appends before made (λ more. pnm.AfterGiven bytes piece (all ++ more) (Err ended) new) → Appends before made (λ more. AfterPiece false info (bytes ++ piece) (all ++ more) (Err (why_stopped ended)) (given.Pnm new))
  pnm_stopped (stop.Fault f) (more, e, k) = (more, e, fault_held false info bytes all (given.Pnm old) h piece f p.few (λ rest. k standard_limits rest p.most))
  pnm_stopped stop.NoMemory (more, e, k) = (more, e, more_read false info bytes all (given.Pnm old) h piece p.few)

-- A PIECE of Targa

module _ (info : ImageInfo) (bytes all piece before made : List ℕ) (old new : TargaSamples) (h : HasGiven true info bytes all (given.Targa old)) (few : length piece ≤ 65536) (small : AreBytes (bytes ++ piece)) where
  pub targa_fed : (answer : Result Fed2 Stop) → Appends before made (λ more. targa.AfterGiven bytes piece (all ++ more) answer new) → InfoAfter targa_samples_kind old.reader.work answer new.reader.work
      → Appends before made (λ more. AfterPiece true info (bytes ++ piece) (all ++ more) (step_of answer) (given.Targa new))
  targa_fed (Ok fed.More) (more, e, k) same =
      let less = open_few (bytes ++ piece) small (targa_open (bytes ++ piece) (all ++ more) new.reader.work k.2.gives) in
      (more, e, record { given = k; info_is = same ∙ h.info_is; bytes_all = small; short = omega (arith, less) })
  targa_fed (Ok fed.Done) (more, e, k) same =
      let I : targa.given_info new ≡ info = same ∙ h.info_is in
      (more, e, whole_held true info bytes all (given.Targa old) h piece (all ++ more) few small (λ rest. subst (λ (i : ImageInfo). HasImageIn true ((bytes ++ piece) ++ rest) (image_by_parts i (all ++ more))) I (k rest)))
  targa_fed (Err (stop.Fault f)) (more, e, k) same = (more, e, fault_held true info bytes all (given.Targa old) h piece f few k)
  targa_fed (Err stop.NoMemory) (more, e, k) same = (more, e, more_read true info bytes all (given.Targa old) h piece few)

-- WHERE THE FILE ENDS

module _ (info : ImageInfo) (bytes all before made : List ℕ) (old : PnmSamples) (h : HasGiven false info bytes all (given.Pnm old)) where
  pub pnm_whole : pnm.Ends old before (Ok tt) made → Appends before made (λ more. AfterEnd false info bytes (all ++ more) (Ok tt))
  pnm_whole ends =
      let t = ends bytes all h.given h.bytes_all in
      let is : HasImageIn false bytes (image_by_parts info (all ++ t.0)) = subst (λ (i : ImageInfo). HasImageIn false bytes (image_by_parts i (all ++ t.0))) h.info_is (t.2 standard_limits h.short) in
      (t.0, t.1, record { is = record { is = subst (λ (b : List ℕ). HasImageIn false b (image_by_parts info (all ++ t.0))) (sym (append-nil bytes)) is; read = end_read false info bytes all (given.Pnm old) h }; right = right_image false bytes (image_by_parts info (all ++ t.0)) is h.bytes_all })

  pub pnm_unended : (ended : Stop) → pnm.Ends old before (Err ended) made → Appends before made (λ more. AfterEnd false info bytes (all ++ more) (Err (why_stopped ended)))
  pnm_unended (stop.Fault f) ends =
      let t = ends bytes all h.given h.bytes_all in
      (t.0, t.1, record { is = subst (λ (b : List ℕ). HasFaultIn false b f) (sym (append-nil bytes)) (t.2 standard_limits h.short); read = end_read false info bytes all (given.Pnm old) h })
  pnm_unended stop.NoMemory ends = (let t = ends bytes all h.given h.bytes_all in (t.0, t.1, end_read false info bytes all (given.Pnm old) h))

pub targa_unended : (info : ImageInfo) (bytes all : List ℕ) (old : TargaSamples) (h : HasGiven true info bytes all (given.Targa old)) (ended : Stop) → IsShortAt bytes ended → AfterEnd true info bytes all (Err (why_stopped ended))
targa_unended info bytes all old h ended is = by ended is
  where
    by : (ended : Stop) → IsShortAt bytes ended → AfterEnd true info bytes all (Err (why_stopped ended))
    by ended (e, fault) = subst (λ (s : Stop). AfterEnd true info bytes all (Err (why_stopped s))) (sym e) (record { is = subst (λ (b : List ℕ). HasFaultIn true b (record { fault = ImageShort; at = length bytes })) (sym (append-nil bytes)) fault; read = end_read true info bytes all (given.Targa old) h })

-- WHERE THEY BEGIN

pub pnm_begun : (old : PixelReader) (new : PnmSamples) → ((bytes : List ℕ) → HasFedImage bytes old → pnm.HasGivenSamples bytes [] new) → ((info : ImageInfo) → pnm.CanGive info old → pnm.given_info new ≡ info) → GivesFrom (source.Pixels old) (given.Pnm new)
pnm_begun old new has numbers info can false bytes fed short = record { given = has bytes fed; info_is = numbers info can; bytes_all = fed.2; short = short }
pnm_begun old new has numbers info can true bytes fed short = absurd fed

pub targa_begun : (old : TargaReader) (new : TargaSamples) → ((bytes : List ℕ) → HasFedTarga bytes old → targa.HasGivenSamples bytes [] new) → targa.given_info new ≡ targa.begun_info old → GivesFrom (source.Targa old) (given.Targa new)
targa_begun old new has numbers info can true bytes fed short = record { given = has bytes fed; info_is = numbers ∙ sym can.1; bytes_all = fed.2; short = short }
targa_begun old new has numbers info can false bytes fed short = absurd fed

-- THEIR NUMBERS are within bounds

pub pnm_right : (r : PixelReader) (o : Option ImageInfo) → IfSome o (pnm.TellsRight r) → IfSome o (TellsRight (source.Pixels r))
pnm_right r None h = tt
pnm_right r (Some info) h = by
  where
    by : (targa : Bool) (bytes : List ℕ) → HasFed targa bytes (source.Pixels r) → AreRightNumbers info
    by false bytes fed = h bytes fed
    by true bytes fed = absurd fed

pub targa_right : (r : TargaReader) (o : Option ImageInfo) → IfSome o (targa.TellsGiven r) → IfSome o (TellsRight (source.Targa r))
targa_right r None h = tt
targa_right r (Some info) h = by
  where
    by : (targa : Bool) (bytes : List ℕ) → HasFed targa bytes (source.Targa r) → AreRightNumbers info
    by true bytes fed = (goes_on_targa info bytes (h bytes fed)).numbers
    by false bytes fed = absurd fed

-- A READER OF FILES that can give samples

-- it has none before, which precede the bytes that follow
pub none_held : (r : ImageSource) (info : ImageInfo) → CanGiveSamples info r → source_samples r ≡ []
none_held (source.Pixels r) info can = ap (λ (o : Option ImageInfo). samples_of o r.reader.work.samples) can.begun.scaled
none_held (source.Targa r) info can = refl

-- and those are no samples as they are
pub never_plain : (r : ImageSource) (info other : ImageInfo) (targa : Bool) (bytes : List ℕ) → CanGiveSamples info r → HasFed targa bytes r → TellsSamples r other → ⊥
never_plain (source.Pixels r) info other false bytes can fed tells = told_not_plain r can.begun.scaled bytes (samples_so_far r) other fed (tells false bytes fed).1
never_plain (source.Targa r) info other true bytes can fed tells = absurd (subst (λ (t : Bool). HasFed t bytes (source.Targa r)) (tells true bytes fed).0 fed)
never_plain (source.Targa r) info other false bytes can fed tells = fed
never_plain (source.Pixels r) info other true bytes can fed tells = fed

-- the reader of samples needs more bytes
pub samples_unread : (targa : Bool) (bytes all : List ℕ) (r : ImageSamples) → HasGivenBy targa bytes all r → is_samples_read r ≡ false
samples_unread false bytes all (given.Pnm r) h = h.1
samples_unread true bytes all (given.Targa r) h = h.1
samples_unread false bytes all (given.Targa r) h = absurd h
samples_unread true bytes all (given.Pnm r) h = absurd h
