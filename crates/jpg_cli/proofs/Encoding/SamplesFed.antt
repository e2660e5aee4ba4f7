-- Samples given to an encoder while they are read.
use Rattle.std.proofs.Common.{◌≡◌, ℕ, ◌+◌, ◌<◌, ◌≤◌, min, Bool, true, false, List, [], ◌++◌, length, take, Option, None, Some, Result, Ok, Err, sym, ap, ◌∙◌, subst, arith, ⊎_elim}
use Rattle.std.proofs.lemmas.Bool.{cases_lt}
use Rattle.std.proofs.lemmas.List.{append-nil, length-append, length-take, length-take-le, take_all}
use Rattle.jpg_base.specs.Desk.{DeskState}
use Rattle.jpg_spec.specs.Segments.{standard_limits}
use Rattle.jpg_spec.specs.declared.fault.Fault.TheVariants.{ImageShort, InputTooLong}
use Rattle.jpg_spec.specs.declared.fault.FaultAt.{FaultAt}
use Rattle.jpg_spec_image.specs.Images.{Image, sample_count}
use Rattle.jpg_spec_image.specs.declared.image.ImageInfo.{ImageInfo}
use Rattle.jpg_spec_words.specs.declared.answers.Why.{Why}
use Rattle.jpg_spec_words.specs.declared.answers.Why.TheVariants as why
use Rattle.jpg_color.specs.Encode.{image_of}
use Rattle.jpg_color.specs.EncodeRows.{RowScan}
use Rattle.jpg_color.proofs.EncoderTaken.{count_of, numbers_are, take_rest}
use Rattle.jpg_color.specs.ImageEncoder.{HasTaken, encoder_left}
use Rattle.jpg_color.specs.declared.encode.Encoding.{Encoding as Asked}
use Rattle.jpg_color.specs.declared.encode.image_encoder.ImageEncoder.{ImageEncoder}
use Rattle.jpg_pnm_bmp.specs.Made.{IsRightImage}
use Rattle.jpg_pnm_bmp.specs.PlainSamples.{GoesOnPlain, HasFedSamples}
use Rattle.jpg_pnm_bmp.proofs.PlainSamples.{goes_on_plain}
use Rattle.jpg_pnm_bmp.specs.Samples.{Appends}
use Rattle.jpg_desk.specs.ImageSamples.{AfterEnd, AfterPiece, EndsSamples, GivesPiece, HoldsSamples}
use Rattle.jpg_desk.specs.declared.image_samples.ImageSamples.{ImageSamples}
use Rattle.jpg_desk.proofs.SampleAnswers.{samples_open}
use Rattle.jpg_desk.specs.ImageFile.{HasFaultIn, HasImageIn, IsOpenIn}
use Rattle.jpg_desk.specs.Pump.{AfterInput, AfterTaking, EndsAll, IsFed, ReadsInput, TakesEnd, TakesPiece, of_reader}
use Rattle.jpg_desk.specs.Judging.{NoValueTaken, TakesPieces}
use Rattle.jpg_desk.specs.ReadImage.{IsFaultRead, IsImageRead, IsShortImageRead, image_judging}
use Rattle.jpg_desk.specs.Reading.{rest_of}
use Rattle.jpg_desk.specs.Stays.{OnlyReads}
use Rattle.jpg_desk.proofs.ImageTaken.{open_end, open_more, open_read, open_too_long}
use Rattle.jpg_desk.proofs.Pumped.{all_read}
use Rattle.jpg_cli.specs.Tools.SamplesFed.{AfterSamples, AreAll, AreAllGiven, AreGiven, AreGivenFrom, HasGivenRest, IsAllGiven, IsGivenRest, TakesSome, is_targa_rest, samples_reader}
use Rattle.jpg_cli.specs.declared.tools.cjpeg_image.Rest.{Rest}
use Rattle.jpg_cli.specs.declared.tools.cjpeg_image.Rest.TheVariants as gives
use Rattle.jpg_cli.specs.declared.tools.cjpeg_image.SamplesSink.{SamplesSink}

-- FROM THE BYTES SO FAR

-- no prefix is complete or has a fault
open_yet : (targa : Bool) (info : ImageInfo) (bytes given : List ℕ) (r : Rest) → HasGivenRest targa info bytes given r → IsOpenIn targa bytes
open_yet targa info bytes given gives.Plain h = subst (λ (t : Bool). IsOpenIn t bytes) (sym h.0) (goes_on_plain info bytes given h.1).open_yet
open_yet targa info bytes given (gives.Given r) h = samples_open targa bytes h.all r h.has.given

-- samples that are appended to none
made_is : (before made more : List ℕ) → before ≡ [] → made ≡ before ++ more → made ≡ more
made_is before made more none e = e ∙ ap (λ (x : List ℕ). x ++ more) none

module _ {targa : Bool} {from : ImageEncoder} {bytes : List ℕ} {s0 : SamplesSink} (g : AreGiven targa from bytes s0) where
  -- the samples that it has
  pub has : HasTaken (g.begun).0 g.info (g.begun).1 g.given s0.encoder
  has = g.sampled (g.begun).0 (g.begun).1 (g.begun).2

  yet : IsOpenIn targa bytes
  yet = open_yet targa g.info bytes g.given s0.rest g.fed

  short_read : (piece : List ℕ) → length piece ≤ 16384 → IsShortImageRead targa (bytes ++ piece)
  short_read piece few = open_more targa bytes piece yet g.short (omega (arith, few))

  -- more samples are given to it
  module _ (s1 : SamplesSink) (made : List ℕ) (takes : TakesSome s0.encoder made s1.encoder) where
    abbrev now : List ℕ
    now = g.given ++ take (min (encoder_left s0.encoder) (length made)) made

    now_is : (all : List ℕ) → g.given ≡ take (sample_count g.info) all → now ≡ take (sample_count g.info) (all ++ made)
    now_is all is =
        let c = count_of (g.begun).0 g.info (g.begun).1 g.given s0.encoder has in
        let l = ap length is in
        ap (λ (x : List ℕ). x ++ take (min (encoder_left s0.encoder) (length made)) made) is ∙ take_rest (sample_count g.info) (encoder_left s0.encoder) all made (omega (arith, c, l))

    left_now : length now + encoder_left s1.encoder ≡ sample_count g.info
    left_now = count_of (g.begun).0 g.info (g.begun).1 now s1.encoder (takes.1 (g.begun).0 g.info (g.begun).1 g.given has)

    more_given : (piece : List ℕ) → HasGivenRest targa g.info (bytes ++ piece) now s1.rest → s1.taken ≡ s0.taken + length piece → length (bytes ++ piece) < standard_limits.input → AreGiven targa from (bytes ++ piece) s1
    more_given piece fed count short = record {
      info = g.info;
      given = now;
      begun = g.begun;
      sampled = λ w a h. takes.1 w g.info a g.given (g.sampled w a h);
      fed = fed;
      taken_is = count ∙ ap (λ n. n + length piece) g.taken_is ∙ sym (length-append bytes piece);
      short = short;
    }

    all_given : (rest read : List ℕ) → IsRightImage (image_of g.info now) → IsImageRead targa (image_of g.info now) rest read → AreAllGiven targa from rest read s1.encoder
    all_given rest read right is = record { info = g.info; samples = now; begun = g.begun; sampled = λ w a h. takes.1 w g.info a g.given (g.sampled w a h); count = right.count; read = is; right = right }

    -- those of a reader, which are all
    whole_given : (all more rest read : List ℕ) → g.given ≡ take (sample_count g.info) all → made ≡ more → HoldsSamples targa g.info rest read (all ++ more) → AreAllGiven targa from rest read s1.encoder
    whole_given all more rest read is same k =
        let count = k.right.count in
        let samples : all ++ more ≡ now = sym (now_is all is ∙ ap (λ (x : List ℕ). take (sample_count g.info) (all ++ x)) same ∙ take_all (sample_count g.info) (all ++ more) (omega (arith, count))) in
        all_given rest read (subst (λ xs. IsRightImage (image_of g.info xs)) samples k.right) (subst (λ xs. IsImageRead targa (image_of g.info xs) rest read) samples k.is)

-- A PIECE, for all that was given before

-- what a reader has given
pub held_by : (old : SamplesSink) (r : ImageSamples) → old.rest ≡ gives.Given r → (targa : Bool) (from : ImageEncoder) (bytes : List ℕ) (h : AreGiven targa from bytes old) → IsGivenRest targa h.info bytes h.given r
held_by old r was targa from bytes h = subst (HasGivenRest targa h.info bytes h.given) was h.fed

module _ (old new : SamplesSink) (piece : List ℕ) (few : length piece ≤ 16384) where
  -- there was no memory
  pub samples_lost : TakesPiece samples_reader old piece (Err why.NoMemory) new
  samples_lost from bytes h most = short_read h piece few

  -- its bytes are samples
  pub samples_taken : (answer : Result Bool Why) → old.rest ≡ gives.Plain → new.rest ≡ gives.Plain → TakesSome old.encoder piece new.encoder → new.taken ≡ old.taken + length piece → AreAll new answer → TakesPiece samples_reader old piece answer new
  samples_taken answer was is takes count all from bytes h most = by answer all
    where
      n : ℕ
      n = sample_count h.info

      targa : Bool
      targa = is_targa_rest from.rest

      plain : (targa ≡ false) × HasFedSamples h.info bytes h.given
      plain = subst (HasGivenRest targa h.info bytes h.given) was h.fed

      goes : GoesOnPlain h.info bytes h.given
      goes = goes_on_plain h.info bytes h.given plain.1

      first : now h new piece takes ≡ take n (h.given ++ piece)
      first = now_is h new piece takes h.given (let f = plain.1.few in sym (take_all n h.given (omega (arith, f))))

      still : (encoder_left new.encoder ≡ 0 → ⊥) → length (h.given ++ piece) < n
      still some =
          ⊎_elim (λ (a : length (h.given ++ piece) < n). a)
          (λ (a : n ≤ length (h.given ++ piece)). (let c = left_now h new piece takes in let l = ap length first ∙ length-take-le n (h.given ++ piece) a in absurd (some (omega (arith, c, l)))))
          (cases_lt (length (h.given ++ piece)) n)

      taken : new.taken ≡ length (bytes ++ piece)
      taken = count ∙ ap (λ n. n + length piece) h.taken_is ∙ sym (length-append bytes piece)

      short : (new.taken ≡ standard_limits.input → ⊥) → length (bytes ++ piece) < standard_limits.input
      short over =
          ⊎_elim (λ (a : length (bytes ++ piece) < standard_limits.input). a)
          (λ (a : standard_limits.input ≤ length (bytes ++ piece)). (let t = taken in absurd (over (omega (arith, a, most, t))))) (cases_lt (length (bytes ++ piece)) standard_limits.input)

      fed : length (h.given ++ piece) < n → HasGivenRest targa h.info (bytes ++ piece) (now h new piece takes) new.rest
      fed less =
          let all : now h new piece takes ≡ h.given ++ piece = first ∙ take_all n (h.given ++ piece) (omega (arith, less)) in
          subst (HasGivenRest targa h.info (bytes ++ piece) (now h new piece takes)) (sym is) (plain.0, subst (HasFedSamples h.info (bytes ++ piece)) (sym all) (goes.more piece takes.0 less))

      by : (answer : Result Bool Why) → AreAll new answer → AfterTaking samples_reader from (bytes ++ piece) answer new
      by (Ok false) k = (more_given h new piece takes piece (fed (still k.0)) count (short k.1), short k.1)
      by (Ok true) none =
          let enough : n ≤ length (h.given ++ piece) = (let c = left_now h new piece takes in let l = ap length first ∙ length-take n (h.given ++ piece) in omega (arith, none, c, l)) in
          let done = goes.whole piece takes.0 enough in
          λ rest. all_given h new piece takes rest (bytes ++ piece) (subst (λ xs. IsRightImage (image_of h.info xs)) (sym first) done.right) (record {
            is = subst (λ (t : Bool). HasImageIn t ((bytes ++ piece) ++ rest) (image_of h.info (now h new piece takes))) (sym plain.0)
                (subst (λ xs. HasImageIn false ((bytes ++ piece) ++ rest) (image_of h.info xs)) (sym first) (done.image standard_limits rest most));
            read = short_read h piece few;
          })
      by (Err e) k = subst (λ (v : Why). AfterTaking samples_reader from (bytes ++ piece) (Err v) new) (sym k.0)
          (λ rest. subst (λ (t : Bool). IsFaultRead t (record { fault = InputTooLong; at = standard_limits.input }) rest (bytes ++ piece)) (sym plain.0)
          (open_too_long (bytes ++ piece) rest (goes_on_plain h.info (bytes ++ piece) (h.given ++ piece) (goes.more piece takes.0 (still k.1))).open_yet (sym taken ∙ k.2)))

  -- a reader gives them
  module _ (r0 r1 : ImageSamples) (before made : List ℕ) (was : old.rest ≡ gives.Given r0) where
    pub rest_stopped : (ended : Why) → GivesPiece r0 piece before (Err ended) r1 made → TakesPiece samples_reader old piece (Err ended) new
    rest_stopped ended g from bytes h most = by ended (g targa h.info bytes t.all t.has)
      where
        targa : Bool
        targa = is_targa_rest from.rest

        t : IsGivenRest targa h.info bytes h.given r0
        t = held_by old r0 was targa from.encoder bytes h

        by : (ended : Why) → Appends before made (λ more. AfterPiece targa h.info (bytes ++ piece) (t.all ++ more) (Err ended) r1) → AfterTaking samples_reader from (bytes ++ piece) (Err ended) new
        by (why.Refused f) (more, e, k) = k
        by why.NoMemory (more, e, k) = k
        by other (more, e, k) = absurd k

    pub rest_taken : (whole : Bool) → before ≡ [] → GivesPiece r0 piece before (Ok whole) r1 made → new.rest ≡ gives.Given r1 → TakesSome old.encoder made new.encoder → new.taken ≡ old.taken + length piece → TakesPiece samples_reader old piece (Ok whole) new
    rest_taken whole none g is takes count from bytes h most = by whole (g targa h.info bytes t.all t.has)
      where
        targa : Bool
        targa = is_targa_rest from.rest

        t : IsGivenRest targa h.info bytes h.given r0
        t = held_by old r0 was targa from.encoder bytes h

        by : (whole : Bool) → Appends before made (λ more. AfterPiece targa h.info (bytes ++ piece) (t.all ++ more) (Ok whole) r1) → AfterTaking samples_reader from (bytes ++ piece) (Ok whole) new
        by false (more, e, k) =
            let fed : HasGivenRest targa h.info (bytes ++ piece) (now h new made takes) (gives.Given r1) = record {
              all = t.all ++ more;
              has = k;
              given_is = now_is h new made takes t.all t.given_is ∙ ap (λ (x : List ℕ). take (sample_count h.info) (t.all ++ x)) (made_is before made more none e);
            } in
            (more_given h new made takes piece (subst (HasGivenRest targa h.info (bytes ++ piece) (now h new made takes)) (sym is) fed) count k.short, k.short)
        by true (more, e, k) = λ rest. whole_given h new made takes t.all more rest (bytes ++ piece) t.given_is (made_is before made more none e) (k rest)

-- WHERE IT ENDS

pub samples_short : (old : SamplesSink) (answer : Why) → old.rest ≡ gives.Plain → answer ≡ why.Refused (record { fault = ImageShort; at = old.taken }) → TakesEnd samples_reader old (Err answer) old
samples_short old answer was is from bytes h less =
    let targa = is_targa_rest from.rest in
    let f : FaultAt = record { fault = ImageShort; at = length bytes } in
    let plain : HasGivenRest targa h.info bytes h.given gives.Plain = subst (HasGivenRest targa h.info bytes h.given) was h.fed in
    let short : HasFaultIn false (bytes ++ []) f = subst (λ (b : List ℕ). HasFaultIn false b f) (sym (append-nil bytes)) ((goes_on_plain h.info bytes h.given plain.1).short standard_limits less) in
    let shown : IsFaultRead targa f [] bytes = record { is = subst (λ (t : Bool). HasFaultIn t (bytes ++ []) f) (sym plain.0) short; read = open_end targa bytes (yet h) less } in
    subst (λ (v : Why). AfterInput samples_reader from bytes (Err v) old) (sym (is ∙ ap (λ n. why.Refused (record { fault = ImageShort; at = n })) h.taken_is)) shown

-- there was no memory
pub end_lost : (old new : SamplesSink) → TakesEnd samples_reader old (Err why.NoMemory) new
end_lost old new from bytes h less = open_end (is_targa_rest from.rest) bytes (yet h) less

-- a reader gives the last ones
module _ (old new : SamplesSink) (r0 : ImageSamples) (before made : List ℕ) (was : old.rest ≡ gives.Given r0) where
  pub rest_unended : (ended : Why) → EndsSamples r0 before (Err ended) made → TakesEnd samples_reader old (Err ended) new
  rest_unended ended g from bytes h less = by ended (g targa h.info bytes t.all t.has)
    where
      targa : Bool
      targa = is_targa_rest from.rest

      t : IsGivenRest targa h.info bytes h.given r0
      t = held_by old r0 was targa from.encoder bytes h

      by : (ended : Why) → Appends before made (λ more. AfterEnd targa h.info bytes (t.all ++ more) (Err ended)) → AfterInput samples_reader from bytes (Err ended) new
      by (why.Refused f) (more, e, k) = k
      by why.NoMemory (more, e, k) = k
      by other (more, e, k) = absurd k

  pub rest_ended : before ≡ [] → EndsSamples r0 before (Ok tt) made → TakesSome old.encoder made new.encoder → TakesEnd samples_reader old (Ok None) new
  rest_ended none g takes from bytes h less =
      let targa = is_targa_rest from.rest in
      let t = held_by old r0 was targa from.encoder bytes h in
      let k = g targa h.info bytes t.all t.has in
      whole_given h new made takes t.all k.0 [] bytes t.given_is (made_is before made k.0 none k.1) k.2

-- ALL OF IT

-- an encoder that had none
abbrev pub at_first : SamplesSink → ImageEncoder → SamplesSink
at_first s from = record s { encoder = from }

pub samples_fed : {from : ImageEncoder} {start : DeskState} {bytes : List ℕ} {s : SamplesSink} {now : DeskState} → AreGivenFrom from start bytes s now → IsFed SamplesSink (of_reader samples_reader) (at_first s from, start) bytes (s, now)
samples_fed h = record { short = (h.given).short; fed = record { fed = h.given; kept = h.kept; read = h.read } }

all_of : {targa : Bool} {w : Option RowScan} {info : ImageInfo} {a : Asked} {from s : ImageEncoder} {rest bytes : List ℕ} → HasTaken w info a [] from → AreAllGiven targa from rest bytes s → IsAllGiven targa w info a rest bytes s
all_of {targa} {w} {info} {a} {from} {s} {rest} {bytes} has h =
    let same : h.info ≡ info = sym (numbers_are (h.begun).0 h.info (h.begun).1 [] from (h.begun).2) ∙ numbers_are w info a [] from has in
    subst (λ (i : ImageInfo). IsAllGiven targa w i a rest bytes s) same (record { samples = h.samples; sampled = h.sampled w a (subst (λ (i : ImageInfo). HasTaken w i a [] from) (sym same) has); count = h.count; read = h.read; right = h.right })

module _ (old : SamplesSink) {from : ImageEncoder} {start : DeskState} {now : SamplesSink × DeskState} where
  samples_pumped : (answer : Result (Option ℕ) Why) → EndsAll (of_reader samples_reader) (at_first old from, start) answer now → ReadsInput SamplesSink Image samples_reader (at_first old from, start) answer now
  samples_pumped answer h = all_read SamplesSink Image samples_reader (at_first old from, start) now answer (λ bytes f short. open_read (is_targa_rest old.rest) bytes (yet f) short) h

  pub samples_held : (early : Option ℕ) → EndsAll (of_reader samples_reader) (at_first old from, start) (Ok early) now → (w : Option RowScan) (info : ImageInfo) (a : Asked) → HasTaken w info a [] from
      → OnlyReads start now.1 × AfterSamples (is_targa_rest old.rest) w info a start (Ok (now.0).encoder) now.1
  samples_held None ends w info a sampled = (let h = samples_pumped None_answer ends in (h.kept, by h.reads.0))
    where
      None_answer : Result (Option ℕ) Why
      None_answer = Ok None

      by : TakesPieces (λ bytes. AreAllGiven (is_targa_rest old.rest) from (rest_of (now.1).left) bytes (now.0).encoder) start now.1 → TakesPieces (λ bytes. IsAllGiven (is_targa_rest old.rest) w info a (rest_of (now.1).left) bytes (now.0).encoder) start now.1
      by (bytes, read, most, g) = (bytes, read, most, all_of sampled g)
  samples_held (Some n) ends w info a sampled = absurd (samples_pumped (Ok (Some n)) ends).reads.0.3

  pub none_held : (w : Why) → EndsAll (of_reader samples_reader) (at_first old from, start) (Err w) now → OnlyReads start now.1 × NoValueTaken (image_judging (is_targa_rest old.rest)) start w now.1
  none_held w ends = (let h = samples_pumped (Err w) ends in (h.kept, h.reads))
