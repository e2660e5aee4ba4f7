-- Files whose samples are those of the image: what their bytes are, with further samples, and where they end.
use Rattle.std.proofs.Common.{◌≡◌, ℕ, ◌+◌, ◌-◌, ◌<◌, ◌≤◌, ◌==◌, Bool, true, false, cond, List, [], ◌∷◌, ◌++◌, length, take, drop, map, refl, sym, ap, ◌∙◌, subst, arith, Option, None, Some}
use Rattle.std.specs.Prelude.{slice_index, IfSome, IfNone}
use Rattle.std.proofs.lemmas.Bool.Decides.{nat_tests}
use Rattle.std.proofs.lemmas.List.{append_assoc, length-append, length-take-le, take_all}
use Rattle.std.proofs.lemmas.List.Elements.{All-nil, All-drop, All-get_or, All-append}
use Rattle.std.proofs.Math.Seq.{take-append-add, drop-append_seam}
use Rattle.jpg_spec.proofs.Basics.Common.{same_of}
use Rattle.jpg_spec.specs.declared.fault.Fault.TheVariants.{ImageShort}
use Rattle.jpg_spec.specs.declared.frame.Limits.{Limits}
use Rattle.jpg_spec_image.specs.Images.{Image, sample_count, are_right}
use Rattle.jpg_spec_image.specs.PnmText.{pnm_info, greatest_sample, scaled_sample}
use Rattle.jpg_spec_image.specs.ImageFaults.{pnm, body_of, image_of, IsImage, IsImageFault, IsOpenImage}
use Rattle.jpg_spec_image.specs.ImageSteps.{at_start, in_body, whole, run}
use Rattle.jpg_spec_image.specs.ImageReading.{RepresentsImage, InBody}
use Rattle.jpg_spec_image.specs.declared.image.ImageInfo.{ImageInfo}
use Rattle.jpg_spec_image.proofs.ImageBodyRuns.{front_run, body_run, body_all}
use Rattle.jpg_spec_image.proofs.ImageRuns.{run_join}
use Rattle.jpg_spec_image.proofs.ImageJudged.{IsLive, end_fault, live_shows_nothing}
use Rattle.jpg_spec_image.proofs.ImageStands.{stands}
use Rattle.jpg_pnm_bmp.specs.Known.{list_of}
use Rattle.jpg_pnm_bmp.specs.Made.{AreBytes}
use Rattle.jpg_pnm_bmp.specs.Shapes.{AreBelow}
use Rattle.jpg_pnm_bmp.specs.Reader.{pnm_head, standing_of}
use Rattle.jpg_pnm_bmp.specs.PlainSamples.{HasFedSamples, AreRightNumbers, CompletesPlain, GoesOnPlain, plain_image, samples_of, unscaled_info, info_at, unscaled_view, TellsPlain, TellsNotPlain}
use Rattle.jpg_pnm_bmp.specs.declared.read.numbers.Numbers.{Numbers}
use Rattle.jpg_pnm_bmp.specs.declared.read.numbers.Numbers.TheVariants.{Nothing, Width, Sides, All}
use Rattle.jpg_pnm_bmp.specs.declared.read.pixels.PixelReader.{PixelReader}
use Rattle.jpg_pnm_bmp.specs.declared.read.work.Stage.{Stage}
use Rattle.jpg_pnm_bmp.specs.declared.read.work.Stage.TheVariants as stage
use Rattle.jpg_pnm_bmp.specs.declared.read.work.Work.{Work}
use Rattle.jpg_pnm_bmp.proofs.ImageRight.{image_right, raw_sides, right_numbers}
use Rattle.jpg_pnm_bmp.proofs.MadeSamples.{all_full}
use Rattle.jpg_pnm_bmp.proofs.PiecesRead.{image_read}
use Rattle.jpg_pnm_bmp.proofs.Stretch.{below_right}

-- BYTES AS SAMPLES

bytes_below : (format : ℕ) (numbers part : List ℕ) (n : ℕ) → greatest_sample numbers ≡ 255 → AreBytes part → n ≤ length part → AreBelow (body_of (pnm format numbers)).limit part n
bytes_below format numbers part n e all l = λ k h.
    subst (λ g. slice_index part k < g + 1) (sym e) (All-get_or (λ b. b < 256) part k 0 (omega (arith, h, l)) all)

bytes_right : (format : ℕ) (numbers part : List ℕ) (place n : ℕ) → greatest_sample numbers ≡ 255 → AreBytes part → n ≤ length part → are_right (body_of (pnm format numbers)) place (take n part) ≡ true
bytes_right format numbers part place n e all l = below_right (body_of (pnm format numbers)) place part n (bytes_below format numbers part n e all l) l

given_bytes : (info : ImageInfo) (bytes given : List ℕ) → HasFedSamples info bytes given → AreBytes given
given_bytes info bytes given f = subst AreBytes (ap (drop (length f.front)) f.cut ∙ drop-append_seam f.front given) (All-drop (λ b. b < 256) (length f.front) bytes f.bytes_all)

-- THE STATE after them

fed_run : (info : ImageInfo) (bytes given : List ℕ) (f : HasFedSamples info bytes given) → run at_start bytes ≡ in_body (pnm f.format f.numbers) given
fed_run info bytes given f =
    let head = pnm f.format f.numbers in
    let all : take (length given) given ≡ given = take_all (length given) given (omega arith) in
    let right : are_right (body_of head) 0 given ≡ true = subst (λ x. are_right (body_of head) 0 x ≡ true) all (bytes_right f.format f.numbers given 0 (length given) f.greatest (given_bytes info bytes given f) (omega arith)) in
    let few : length given < sample_count (pnm_info f.format f.numbers) = subst (λ i. length given < sample_count i) f.info_is f.few in
    ap (run at_start) f.cut ∙ run_join at_start f.front given ∙ ap (λ s. run s given) (front_run head f.front f.header) ∙ body_run head [] given right few

fed_open : (info : ImageInfo) (bytes given : List ℕ) → HasFedSamples info bytes given → IsOpenImage bytes
fed_open info bytes given f = live_shows_nothing bytes (subst IsLive (sym (fed_run info bytes given f)) tt)

fed_short : (info : ImageInfo) (bytes given : List ℕ) → HasFedSamples info bytes given → (limits : Limits) → length bytes < limits.input → IsImageFault limits bytes ImageShort (length bytes)
fed_short info bytes given f limits l = end_fault limits bytes ImageShort l (in_body (pnm f.format f.numbers) given) (fed_run info bytes given f) tt refl

fed_numbers : (info : ImageInfo) (bytes given : List ℕ) → HasFedSamples info bytes given → AreRightNumbers info
fed_numbers info bytes given f = subst AreRightNumbers (sym f.info_is) (right_numbers (pnm_info f.format f.numbers) (raw_sides f.format f.numbers f.front f.header))

-- FURTHER SAMPLES

fed_on : (info : ImageInfo) (bytes given piece : List ℕ) → HasFedSamples info bytes given → AreBytes piece → length (given ++ piece) < sample_count info → HasFedSamples info (bytes ++ piece) (given ++ piece)
fed_on info bytes given piece f all few = record {
  format = f.format;
  numbers = f.numbers;
  front = f.front;
  header = f.header;
  cut = ap (λ x. x ++ piece) f.cut ∙ append_assoc f.front given piece;
  info_is = f.info_is;
  greatest = f.greatest;
  few = few;
  bytes_all = All-append (λ b. b < 256) bytes piece f.bytes_all all;
}

-- the rest of the samples, up to the last one
rest_run : (info : ImageInfo) (bytes given piece : List ℕ) (m : ℕ) (f : HasFedSamples info bytes given) → AreBytes piece → length given + m ≡ sample_count info → m ≤ length piece
    → run at_start (bytes ++ take m piece) ≡ whole (image_of (pnm f.format f.numbers) (given ++ take m piece))
rest_run info bytes given piece m f all e l =
    let few = f.few in
    let long = length-take-le m piece l in
    let count : length (given ++ take m piece) ≡ sample_count (pnm_info f.format f.numbers) = length-append given (take m piece) ∙ ap (λ n. length given + n) long ∙ e ∙ ap sample_count f.info_is in
    run_join at_start bytes (take m piece)
    ∙ ap (λ s. run s (take m piece)) (fed_run info bytes given f)
    ∙ body_all (pnm f.format f.numbers) given (take m piece) (bytes_right f.format f.numbers piece (length given) m f.greatest all l) (omega (arith, long, few, e)) count

rest_image : (info : ImageInfo) (bytes given piece : List ℕ) (m : ℕ) (f : HasFedSamples info bytes given) → length given + m ≡ sample_count info → image_of (pnm f.format f.numbers) (given ++ take m piece) ≡ plain_image info (given ++ piece)
rest_image info bytes given piece m f e =
    let body : List ℕ = given ++ take m piece in
    let taken : body ≡ take (sample_count info) (given ++ piece) = sym (ap (λ n. take n (given ++ piece)) (sym e) ∙ take-append-add given piece m) in
    ap (λ g. (let x : Image = record { info = pnm_info f.format f.numbers; samples = map (scaled_sample g) body } in x)) f.greatest
    ∙ ap (λ xs. (let x : Image = record { info = pnm_info f.format f.numbers; samples = xs } in x)) (all_full body ∙ taken)
    ∙ ap (λ i. (let x : Image = record { info = i; samples = take (sample_count info) (given ++ piece) } in x)) (sym f.info_is)

rest_read : (info : ImageInfo) (bytes given piece : List ℕ) → HasFedSamples info bytes given → AreBytes piece → sample_count info ≤ length (given ++ piece)
    → (limits : Limits) (rest : List ℕ) → length (bytes ++ piece) ≤ limits.input → IsImage limits ((bytes ++ piece) ++ rest) (plain_image info (given ++ piece))
rest_read info bytes given piece f all enough limits rest l =
    let few = f.few in
    let long = length-append given piece in
    let m : ℕ = sample_count info - length given in
    let e : length given + m ≡ sample_count info = omega (arith, few) in
    let inside : m ≤ length piece = omega (arith, few, long, enough) in
    image_read limits bytes piece rest m (plain_image info (given ++ piece)) inside l (rest_run info bytes given piece m f all e inside ∙ ap whole (rest_image info bytes given piece m f e))

fed_all : (info : ImageInfo) (bytes given piece : List ℕ) → HasFedSamples info bytes given → AreBytes piece → sample_count info ≤ length (given ++ piece) → CompletesPlain info bytes given piece
fed_all info bytes given piece f all enough =
    let limits : Limits = record { side = 0; blocks = 0; kept = 0; input = length (bytes ++ piece) } in
    let same : length (bytes ++ piece) ≤ length (bytes ++ piece) = omega arith in
    let every = All-append (λ b. b < 256) (bytes ++ piece) [] (All-append (λ b. b < 256) bytes piece f.bytes_all all) (All-nil (λ b. b < 256)) in
    record {
      image = rest_read info bytes given piece f all enough;
      right = image_right limits ((bytes ++ piece) ++ []) (plain_image info (given ++ piece)) (rest_read info bytes given piece f all enough limits [] same) every;
    }

pub goes_on_plain : (info : ImageInfo) (bytes given : List ℕ) → HasFedSamples info bytes given → GoesOnPlain info bytes given
goes_on_plain info bytes given f = record {
  more = λ piece. fed_on info bytes given piece f;
  whole = λ piece. fed_all info bytes given piece f;
  short = fed_short info bytes given f;
  open_yet = fed_open info bytes given f;
  numbers = fed_numbers info bytes given f;
}

-- A READER of them

told_numbers : (format : ℕ) (numbers : Numbers) (info : ImageInfo) → unscaled_info format numbers ≡ Some info → (info ≡ pnm_info format (list_of numbers [])) × (greatest_sample (list_of numbers []) ≡ 255)
told_numbers format Nothing info e = cc
told_numbers format (Width w) info e = cc
told_numbers format (Sides w h) info e = cc
told_numbers format (All w h m) info e = by (m == 255) refl e
  where
    by : (v : Bool) → (m == 255) ≡ v → cond v (Some (pnm_info format (w ∷ h ∷ []))) None ≡ Some info → (info ≡ pnm_info format (w ∷ h ∷ m ∷ [])) × (m ≡ 255)
    by true p e = (cc, same_of m 255 p)
    by false p e = cc

told_body : (w : Work) (info : ImageInfo) (bytes : List ℕ) → unscaled_info w.format w.numbers ≡ Some info → in_body (pnm_head w) w.samples ≡ run at_start bytes → AreBytes bytes → HasFedSamples info bytes w.samples
told_body w info bytes t e all =
    let i : InBody bytes (pnm_head w) w.samples = subst (RepresentsImage bytes) (sym e) (stands bytes) in
    let n = told_numbers w.format w.numbers info t in
    record {
      format = w.format;
      numbers = list_of w.numbers [];
      front = i.front;
      header = i.header;
      cut = i.cut;
      info_is = n.0;
      greatest = n.1;
      few = subst (λ k. length w.samples < sample_count k) (sym n.0) i.room;
      bytes_all = all;
    }

pub told_plain : (r : PixelReader) (info : ImageInfo) → unscaled_view r.reader.work ≡ Some info → TellsPlain r info
told_plain r info t = λ bytes h. subst (HasFedSamples info bytes) (sym (ap (λ o. samples_of o r.reader.work.samples) t)) (by r.reader.work.stage t bytes h.3.stands.1 h.2)
  where
    by : (st : Stage) → info_at st r.reader.work ≡ Some info → (bytes : List ℕ) → standing_of [] st r.reader.work ≡ run at_start bytes → AreBytes bytes → HasFedSamples info bytes r.reader.work.samples
    by stage.Start e bytes s all = cc
    by (stage.First first) e bytes s all = cc
    by (stage.Gap some commented) e bytes s all = cc
    by (stage.Number n) e bytes s all = cc
    by stage.BmpHead e bytes s all = cc
    by (stage.BmpFront passed) e bytes s all = cc
    by stage.PnmBody e bytes s all = told_body r.reader.work info bytes e s all
    by stage.BmpBody e bytes s all = cc

clash_numbers : (format : ℕ) (numbers : Numbers) → unscaled_info format numbers ≡ None → greatest_sample (list_of numbers []) ≡ 255 → ⊥
clash_numbers format Nothing e g = cc
clash_numbers format (Width w) e g = cc
clash_numbers format (Sides w h) e g = cc
clash_numbers format (All w h m) e g = by (m == 255) refl e
  where
    by : (v : Bool) → (m == 255) ≡ v → cond v (Some (pnm_info format (w ∷ h ∷ []))) None ≡ None → ⊥
    by true p e = cc
    by false p e = let q : (m == 255) ≡ true = grind (arith, nat_tests, g) in let f : true ≡ false = sym q ∙ p in cc

same_numbers : (h g : ℕ) (xs ys body given : List ℕ) → in_body (pnm h xs) body ≡ in_body (pnm g ys) given → xs ≡ ys
same_numbers h g xs ys body given e = cc

pub told_not_plain : (r : PixelReader) → unscaled_view r.reader.work ≡ None → TellsNotPlain r
told_not_plain r t = λ bytes given info h f. by r.reader.work.stage t (h.3.stands.1 ∙ fed_run info bytes given f) f.greatest
  where
    by : (st : Stage) → info_at st r.reader.work ≡ None → {format : ℕ} → {numbers given : List ℕ} → standing_of [] st r.reader.work ≡ in_body (pnm format numbers) given → greatest_sample numbers ≡ 255 → ⊥
    by stage.Start e s g = cc
    by (stage.First first) e s g = cc
    by (stage.Gap some commented) e s g = cc
    by (stage.Number n) e s g = cc
    by stage.BmpHead e s g = cc
    by (stage.BmpFront passed) e s g = cc
    by stage.PnmBody e {format} {numbers} {given} s g = clash_numbers r.reader.work.format r.reader.work.numbers e (ap greatest_sample (same_numbers r.reader.work.format format (list_of r.reader.work.numbers []) numbers r.reader.work.samples given s) ∙ g)
    by stage.BmpBody e s g = cc

pub tells_plain : (r : PixelReader) (o : Option ImageInfo) → o ≡ unscaled_view r.reader.work → IfSome o (TellsPlain r)
tells_plain r None e = cc
tells_plain r (Some info) e = told_plain r info (sym e)

pub tells_not_plain : (r : PixelReader) (o : Option ImageInfo) → o ≡ unscaled_view r.reader.work → IfNone o (TellsNotPlain r)
tells_not_plain r None e = told_not_plain r (sym e)
tells_not_plain r (Some info) e = cc

-- with 255 as the greatest value
pub unscaled_at : (format w h m : ℕ) (info : ImageInfo) (numbers : Numbers) → numbers ≡ All w h m → m ≡ 255 → info ≡ pnm_info format (w ∷ h ∷ []) → Some info ≡ unscaled_info format numbers
unscaled_at format w h m info numbers e f i = ap Some i ∙ sym (ap (unscaled_info format) (e ∙ ap (All w h) f))
