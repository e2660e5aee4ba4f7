-- The samples of a PNM file, given part by part.
use Rattle.std.proofs.Common.{◌≡◌, ℕ, suc, ◌+◌, ◌*◌, ◌<◌, ◌≤◌, ◌==◌, Bool, true, false, cond, List, [], ◌∷◌, ◌++◌, length, take, map, refl, sym, ap, ◌∙◌, subst, arith, inl, inr, append_assoc, Ok, Err, Option, None, Some}
use Rattle.std.specs.Prelude.{IfSome}
use Rattle.std.proofs.lemmas.List.{append-nil, length-append, map-append}
use Rattle.std.proofs.lemmas.List.Elements.{All-nil}
use Rattle.jpg_spec.proofs.Basics.Common.{both, same_of, lt_of}
use Rattle.jpg_spec.specs.Lists.{begins_with}
use Rattle.jpg_spec_image.specs.Images.{Image, sample_count}
use Rattle.jpg_spec_image.specs.ImageText.{row_bytes}
use Rattle.jpg_spec_image.specs.PnmText.{is_plain, is_number_due, are_right_numbers, pnm_info, greatest_sample, scaled_sample}
use Rattle.jpg_spec_image.specs.BmpFile.{IsBmpFront}
use Rattle.jpg_spec_image.specs.ImageFaults.{pnm, bmp, image_of, IsBodyFront, IsImage, IsOpenImage, IsWholeImage}
use Rattle.jpg_spec_image.specs.ImageSteps.{ImageState, at_start, in_gap, in_number, in_body, whole, run, state_end}
use Rattle.jpg_spec_image.specs.ImageReading.{RepresentsImage, InGap, InBody}
use Rattle.jpg_spec_image.specs.declared.image.ImageInfo.{ImageInfo}
use Rattle.jpg_spec_image.specs.declared.image.ImageKind.{ImageKind}
use Rattle.jpg_spec_image.specs.declared.image.ImageKind.TheVariants.{Gray, Rgb}
use Rattle.jpg_spec_image.proofs.ImageRuns.{run_join}
use Rattle.jpg_spec_image.proofs.ImageStands.{stands}
use Rattle.jpg_pnm_bmp.specs.Known.{list_of}
use Rattle.jpg_pnm_bmp.specs.Made.{AreBytes, IsMore, image_by_parts}
use Rattle.jpg_pnm_bmp.specs.PlainSamples.{AreRightNumbers}
use Rattle.jpg_pnm_bmp.specs.PnmSamples.{CanGiveNow, HasGivenPnm, GivesEnough, GivesHeld, GivesKnown, IsNoFault, pnm_samples_kind, scaled_by}
use Rattle.jpg_base.specs.declared.stop.Stop.TheVariants as stop
use Rattle.jpg_pnm_bmp.specs.PnmGiven.{TellsRight}
use Rattle.jpg_pnm_bmp.specs.declared.read.pixels.PixelReader.{PixelReader}
use Rattle.jpg_pnm_bmp.specs.Reader.{AreAllNumbers, AreBefore, EndsAs, EndsImage, AreGivenAt, AreGivenIn, IsLedOn, IsText, Reaches, ShowsNone, Stays, image_by, image_view, pixels_kind, pnm_head, standing, standing_of}
use Rattle.jpg_pnm_bmp.specs.Samples.{AfterGiven, Appends, HasSameInfo, KeepsInfo}
use Rattle.jpg_pnm_bmp.specs.declared.read.numbers.Numbers.{Numbers}
use Rattle.jpg_pnm_bmp.specs.declared.read.numbers.Numbers.TheVariants.{Nothing, Width, Sides, All}
use Rattle.jpg_pnm_bmp.specs.declared.read.piece.Answer.{Answer}
use Rattle.jpg_pnm_bmp.specs.declared.read.piece.Answer.TheVariants as answer
use Rattle.jpg_pnm_bmp.specs.declared.read.work.Stage.{Stage}
use Rattle.jpg_pnm_bmp.specs.declared.read.work.Stage.TheVariants as stage
use Rattle.jpg_pnm_bmp.specs.declared.read.work.Work.{Work}
use Rattle.jpg_pnm_bmp.proofs.ImageBytes.{plain_bytes, pnm_bytes, rest_bytes, scaled_all, up_to_right}
use Rattle.jpg_pnm_bmp.proofs.EndRead.{image_at_end, standing_live}
use Rattle.jpg_spec_image.proofs.ImageJudged.{IsLive, live_shows_nothing}
use Rattle.jpg_spec.specs.Segments.{standard_limits}
use Rattle.jpg_spec.specs.declared.frame.Limits.{Limits}
use Rattle.jpg_pnm_bmp.proofs.ImageRight.{image_right, raw_sides, right_numbers, text_sides}
use Rattle.jpg_pnm_bmp.proofs.PiecesFed.{place}
use Rattle.jpg_pnm_bmp.proofs.PiecesRead.{fault_read, image_read}
use Rattle.jpg_pnm_bmp.proofs.ShownNone.{no_fault, whole_right}

-- HOW MANY SAMPLES there are at most

by_kind : (kind : ImageKind) (info : ImageInfo) → info.width * info.height ≤ 268435456 → info.height * row_bytes (record info { kind = kind }) ≤ 805306368
by_kind Gray info h = omega (arith, h)
by_kind Rgb info h = omega (arith, h)

count_most : (info : ImageInfo) → AreRightNumbers info → sample_count info ≤ 805306368
count_most info n = by_kind info.kind info n.pixels

due_few : (format : ℕ) (numbers : List ℕ) → is_number_due format numbers ≡ true → length numbers < 3 + sample_count (pnm_info format numbers)
due_few format numbers e = by (is_plain format) (lt_of (length numbers) (cond (is_plain format) (3 + sample_count (pnm_info format numbers)) 3) e)
  where
    by : (v : Bool) → length numbers < cond v (3 + sample_count (pnm_info format numbers)) 3 → length numbers < 3 + sample_count (pnm_info format numbers)
    by true h = h
    by false h = omega (arith, h)

text_few : (format : ℕ) (numbers : Numbers) (body : List ℕ) → AreAllNumbers numbers → are_right_numbers format [] (list_of numbers body) ≡ true → is_number_due format (list_of numbers body) ≡ true → length body < 805306368
text_few format Nothing body all right due = absurd all
text_few format (Width w) body all right due = absurd all
text_few format (Sides w h) body all right due = absurd all
text_few format (All w h m) body all right due =
    let most = count_most (pnm_info format (w ∷ h ∷ m ∷ body)) (right_numbers (pnm_info format (w ∷ h ∷ m ∷ body)) (text_sides format w h (m ∷ body) right)) in
    let few = due_few format (w ∷ h ∷ m ∷ body) due in
    omega (arith, most, few)

body_few : (format : ℕ) (numbers bytes body : List ℕ) → InBody bytes (pnm format numbers) body → length body < 805306368
body_few format numbers bytes body i =
    let most = count_most (pnm_info format numbers) (right_numbers (pnm_info format numbers) (raw_sides format numbers i.front i.header)) in
    let room : length body < sample_count (pnm_info format numbers) = i.room in
    omega (arith, most, room)

pub samples_few : (front : List ℕ) (st : Stage) (w : Work) (bytes : List ℕ) → IsText st → AreAllNumbers w.numbers → standing_of front st w ≡ run at_start bytes → length (front ++ w.samples) < 805306368
samples_few front stage.Start w bytes t all e = absurd t
samples_few front (stage.First first) w bytes t all e = absurd t
samples_few front (stage.Gap some commented) w bytes t all e =
    let i : InGap bytes w.format (list_of w.numbers (front ++ w.samples)) some commented = subst (RepresentsImage bytes) (sym e) (stands bytes) in
    text_few w.format w.numbers (front ++ w.samples) all i.behind.right i.behind.due
samples_few front (stage.Number n) w bytes t all e = by (subst (RepresentsImage bytes) (sym e) (stands bytes))
  where
    by : RepresentsImage bytes (in_number w.format (list_of w.numbers (front ++ w.samples)) n) → length (front ++ w.samples) < 805306368
    by (m, r, c) = text_few w.format w.numbers (front ++ w.samples) all r.before.right r.before.due
samples_few front stage.BmpHead w bytes t all e = absurd t
samples_few front (stage.BmpFront passed) w bytes t all e = absurd t
samples_few front stage.PnmBody w bytes t all e = body_few w.format (list_of w.numbers []) bytes (front ++ w.samples) (subst (RepresentsImage bytes) (sym e) (stands bytes))
samples_few front stage.BmpBody w bytes t all e = absurd t

-- THE SAMPLES ARE BYTES

text_bytes : (format : ℕ) (numbers : Numbers) (body : List ℕ) → AreAllNumbers numbers → are_right_numbers format [] (list_of numbers body) ≡ true → AreBytes (map (scaled_sample (greatest_sample (list_of numbers []))) body)
text_bytes format Nothing body all right = absurd all
text_bytes format (Width w) body all right = absurd all
text_bytes format (Sides w h) body all right = absurd all
text_bytes format (All w h m) body all right = scaled_all m body (up_to_right format [] (w ∷ h ∷ m ∷ body) (All-nil (λ s. s ≤ 0)) right)

samples_bytes : (front : List ℕ) (st : Stage) (w : Work) (bytes : List ℕ) → IsText st → AreAllNumbers w.numbers → standing_of front st w ≡ run at_start bytes → AreBytes (scaled_by w (front ++ w.samples))
samples_bytes front stage.Start w bytes t all e = absurd t
samples_bytes front (stage.First first) w bytes t all e = absurd t
samples_bytes front (stage.Gap some commented) w bytes t all e =
    let i : InGap bytes w.format (list_of w.numbers (front ++ w.samples)) some commented = subst (RepresentsImage bytes) (sym e) (stands bytes) in
    text_bytes w.format w.numbers (front ++ w.samples) all i.behind.right
samples_bytes front (stage.Number n) w bytes t all e = by (subst (RepresentsImage bytes) (sym e) (stands bytes))
  where
    by : RepresentsImage bytes (in_number w.format (list_of w.numbers (front ++ w.samples)) n) → AreBytes (scaled_by w (front ++ w.samples))
    by (m, r, c) = text_bytes w.format w.numbers (front ++ w.samples) all r.before.right
samples_bytes front stage.BmpHead w bytes t all e = absurd t
samples_bytes front (stage.BmpFront passed) w bytes t all e = absurd t
samples_bytes front stage.PnmBody w bytes t all e =
    let i : InBody bytes (pnm w.format (list_of w.numbers [])) (front ++ w.samples) = subst (RepresentsImage bytes) (sym e) (stands bytes) in
    let room : length (front ++ w.samples) < sample_count (pnm_info w.format (list_of w.numbers [])) = i.room in
    pnm_bytes w.format (list_of w.numbers []) (front ++ w.samples) i.right (omega (arith, room))
samples_bytes front stage.BmpBody w bytes t all e = absurd t

-- a PNM file begins with P
abbrev BeginsP : List ℕ → Type 0
BeginsP bytes = (tail : List ℕ) × (bytes ≡ 80 ∷ tail)

more_after : (bytes more : List ℕ) → BeginsP bytes → BeginsP (bytes ++ more)
more_after bytes more (tail, e) = (tail ++ more, ap (λ x. x ++ more) e)

text_begins : (front : List ℕ) (st : Stage) (w : Work) (bytes : List ℕ) → IsText st → standing_of front st w ≡ run at_start bytes → BeginsP bytes
text_begins front stage.Start w bytes t e = absurd t
text_begins front (stage.First first) w bytes t e = absurd t
text_begins front (stage.Gap some commented) w bytes t e =
    let i : InGap bytes w.format (list_of w.numbers (front ++ w.samples)) some commented = subst (RepresentsImage bytes) (sym e) (stands bytes) in
    (_, i.behind.cut)
text_begins front (stage.Number n) w bytes t e = by (subst (RepresentsImage bytes) (sym e) (stands bytes))
  where
    by : RepresentsImage bytes (in_number w.format (list_of w.numbers (front ++ w.samples)) n) → BeginsP bytes
    by (m, r, c) = (_, r.before.cut)
text_begins front stage.BmpHead w bytes t e = absurd t
text_begins front (stage.BmpFront passed) w bytes t e = absurd t
text_begins front stage.PnmBody w bytes t e =
    let i : InBody bytes (pnm w.format (list_of w.numbers [])) (front ++ w.samples) = subst (RepresentsImage bytes) (sym e) (stands bytes) in
    subst BeginsP (sym i.cut) (more_after i.front (front ++ w.samples) (header i.front i.header))
  where
    header : (start : List ℕ) → IsBodyFront (pnm w.format (list_of w.numbers [])) start → BeginsP start
    header start (b, l, raw, space) = (_, l.read.before.cut)
text_begins front stage.BmpBody w bytes t e = absurd t

no_bmp : (head behind tail : List ℕ) → begins_with (66 ∷ 77 ∷ []) head ≡ true → head ++ behind ≡ 80 ∷ tail → ⊥
no_bmp [] behind tail b e = cc
no_bmp (x ∷ head) behind tail b e =
    let first : 66 ≡ x = same_of 66 x (both (66 == x) (begins_with (77 ∷ []) head) b).0 in
    let other : x ≡ 80 = cc in
    omega (arith, first, other)

whole_bytes : (bytes : List ℕ) (format : ℕ) (numbers body : List ℕ) → BeginsP bytes → run at_start bytes ≡ whole (image_of (pnm format numbers) body) → AreBytes (map (scaled_sample (greatest_sample numbers)) body)
whole_bytes bytes format numbers body (tail, p) e = by (subst (RepresentsImage bytes) e (stands bytes))
  where
    by : IsWholeImage bytes (image_of (pnm format numbers) body) → AreBytes (map (scaled_sample (greatest_sample numbers)) body)
    by (inl (b, plain, after)) = plain_bytes bytes (b ∷ []) (image_of (pnm format numbers) body) plain
    by (inr (pnm f n, front, rest, header, cut, long, right, is)) = subst (λ (i : Image). AreBytes i.samples) (sym is) (pnm_bytes f n rest right (omega (arith, long)))
    by (inr (bmp head palette, front, rest, header, cut, long, right, is)) =
        let f : IsBmpFront head palette front = header in
        absurd (no_bmp head ((palette ++ f.skipped) ++ rest) tail f.header.begins (sym (append_assoc head (palette ++ f.skipped) rest) ∙ ap (λ x. x ++ rest) (sym f.cut) ∙ sym cut ∙ p))

-- BYTES that follow

pub run_taken : (front : List ℕ) (old : Work) (bytes part : List ℕ) → standing front old ≡ run at_start bytes → run (standing front old) part ≡ run at_start (bytes ++ part)
run_taken front old bytes part e = ap (λ t. run t part) e ∙ sym (run_join at_start bytes part)

given_in : (st : Stage) (numbers : Numbers) (front : List ℕ) → IsText st → AreAllNumbers numbers → AreGivenIn st numbers front
given_in stage.Start numbers front t all = absurd t
given_in (stage.First first) numbers front t all = absurd t
given_in (stage.Gap some commented) numbers front t all = at numbers all
  where
    at : (numbers : Numbers) → AreAllNumbers numbers → AreGivenAt numbers front
    at Nothing all = absurd all
    at (Width w) all = absurd all
    at (Sides w h) all = absurd all
    at (All w h m) all = tt
given_in (stage.Number n) numbers front t all = at numbers all
  where
    at : (numbers : Numbers) → AreAllNumbers numbers → AreGivenAt numbers front
    at Nothing all = absurd all
    at (Width w) all = absurd all
    at (Sides w h) all = absurd all
    at (All w h m) all = tt
given_in stage.BmpHead numbers front t all = absurd t
given_in (stage.BmpFront passed) numbers front t all = absurd t
given_in stage.PnmBody numbers front t all = tt
given_in stage.BmpBody numbers front t all = absurd t

pub given_before : (bytes given : List ℕ) (w : Work) (g : HasGivenPnm bytes given w) → AreBefore g.front w
given_before bytes given w g = record { long = g.long; known = given_in w.stage w.numbers g.front g.text g.known }

pub given_led : (bytes given : List ℕ) (w : Work) → HasGivenPnm bytes given w → IsLedOn w
given_led bytes given w g = (g.front, given_before bytes given w g, (bytes, sym g.stands))

-- THE STATE once the samples that are held are given

text_same : (st : Stage) (x y : Work) (f g : List ℕ) → IsText st → x.format ≡ y.format → x.numbers ≡ y.numbers → f ++ x.samples ≡ g ++ y.samples → standing_of f st x ≡ standing_of g st y
text_same stage.Start x y f g t a b c = absurd t
text_same (stage.First first) x y f g t a b c = absurd t
text_same (stage.Gap some commented) x y f g t a b c =
    ap (λ k. in_gap k (list_of x.numbers (f ++ x.samples)) some commented) a
    ∙ ap (λ k. in_gap y.format (list_of k (f ++ x.samples)) some commented) b
    ∙ ap (λ k. in_gap y.format (list_of y.numbers k) some commented) c
text_same (stage.Number n) x y f g t a b c =
    ap (λ k. in_number k (list_of x.numbers (f ++ x.samples)) n) a ∙ ap (λ k. in_number y.format (list_of k (f ++ x.samples)) n) b ∙ ap (λ k. in_number y.format (list_of y.numbers k) n) c
text_same stage.BmpHead x y f g t a b c = absurd t
text_same (stage.BmpFront passed) x y f g t a b c = absurd t
text_same stage.PnmBody x y f g t a b c =
    ap (λ k. in_body (pnm k (list_of x.numbers [])) (f ++ x.samples)) a ∙ ap (λ k. in_body (pnm y.format (list_of k [])) (f ++ x.samples)) b ∙ ap (λ k. in_body (pnm y.format (list_of y.numbers [])) k) c
text_same stage.BmpBody x y f g t a b c = absurd t

image_text : (front : List ℕ) (st : Stage) (w : Work) → IsText st → image_by front st w ≡ image_of (pnm_head w) (front ++ w.samples)
image_text front stage.Start w t = absurd t
image_text front (stage.First first) w t = absurd t
image_text front (stage.Gap some commented) w t = refl
image_text front (stage.Number n) w t = refl
image_text front stage.BmpHead w t = absurd t
image_text front (stage.BmpFront passed) w t = absurd t
image_text front stage.PnmBody w t = refl
image_text front stage.BmpBody w t = absurd t

standing_right : (front : List ℕ) (st : Stage) (w : Work) → ShowsNone (standing_of front st w)
standing_right front stage.Start w = tt
standing_right front (stage.First first) w = tt
standing_right front (stage.Gap some commented) w = tt
standing_right front (stage.Number n) w = tt
standing_right front stage.BmpHead w = tt
standing_right front (stage.BmpFront passed) w = tt
standing_right front stage.PnmBody w = tt
standing_right front stage.BmpBody w = tt

given_all : (bytes given : List ℕ) (old w : Work) (g : HasGivenPnm bytes given old) → w.numbers ≡ old.numbers → given ++ scaled_by w w.samples ≡ scaled_by w (g.front ++ w.samples)
given_all bytes given old w g e =
    ap (λ x. x ++ scaled_by w w.samples) (g.given_is ∙ ap (λ k. map (scaled_sample (greatest_sample (list_of k []))) g.front) (sym e)) ∙ sym (map-append (scaled_sample (greatest_sample (list_of w.numbers []))) g.front w.samples)

held_bytes : (front : List ℕ) (w : Work) → AreBytes (scaled_by w (front ++ w.samples)) → AreBytes (scaled_by w w.samples)
held_bytes front w all =
    let f : ℕ → ℕ = scaled_sample (greatest_sample (list_of w.numbers [])) in
    rest_bytes (map f front) (map f w.samples) (subst AreBytes (map-append f front w.samples) all)

more_given : (old w v : Work) (bytes part given before made : List ℕ) (g : HasGivenPnm bytes given old) → Stays old w → standing g.front w ≡ run at_start (bytes ++ part) → GivesHeld w before v made
    → Appends before made (λ more. HasGivenPnm (bytes ++ part) (given ++ more) v)
more_given old w v bytes part given before made g s e h =
    let front = g.front in
    let t = s.text g.text g.known in
    let all : AreAllNumbers w.numbers = subst AreAllNumbers (sym t.numbers) g.known in
    let few = samples_few front w.stage w (bytes ++ part) t.text all e in
    let held = held_bytes front w (samples_bytes front w.stage w (bytes ++ part) t.text all e) in
    let l = length-append front w.samples in
    let long = g.long in
    let same = s.before in
    let next : v.before ≡ w.before + length w.samples = h.before_is (omega (arith, few, l, long, same)) in (
      scaled_by w w.samples,
      h.given held,
      record {
        front = front ++ w.samples;
        long = omega (arith, l, long, same, next);
        text = subst IsText (sym h.stage) t.text;
        known = subst AreAllNumbers (sym h.numbers) all;
        stands = ap (λ st. standing_of (front ++ w.samples) st v) h.stage
            ∙ text_same w.stage v w (front ++ w.samples) front t.text h.format h.numbers (ap (λ x. (front ++ w.samples) ++ x) h.rest ∙ append-nil (front ++ w.samples)) ∙ e;
        given_is = given_all bytes given old w g t.numbers ∙ ap (λ k. map (scaled_sample (greatest_sample (list_of k []))) (front ++ w.samples)) (sym h.numbers);
      },
    )

-- they are few, and stay
few_given : (old w v : Work) (bytes part given before made : List ℕ) (g : HasGivenPnm bytes given old) → Stays old w → standing g.front w ≡ run at_start (bytes ++ part) → v ≡ w → made ≡ before
    → Appends before made (λ more. HasGivenPnm (bytes ++ part) (given ++ more) v)
few_given old w v bytes part given before made g s e is same =
    let t = s.text g.text g.known in
    let now : HasGivenPnm (bytes ++ part) (given ++ []) w = record {
      front = g.front;
      long = g.long ∙ sym s.before;
      text = t.text;
      known = subst AreAllNumbers (sym t.numbers) g.known;
      stands = e;
      given_is = append-nil given ∙ g.given_is ∙ ap (λ k. map (scaled_sample (greatest_sample (list_of k []))) g.front) (sym t.numbers);
    } in
    ([], same ∙ sym (append-nil before), subst (HasGivenPnm (bytes ++ part) (given ++ [])) (sym is) now)

enough_given : (old w v : Work) (bytes part given before made : List ℕ) (g : HasGivenPnm bytes given old) → Stays old w → standing g.front w ≡ run at_start (bytes ++ part) → GivesEnough w before v made
    → Appends before made (λ more. HasGivenPnm (bytes ++ part) (given ++ more) v)
enough_given old w v bytes part given before made g s e (inl h) = few_given old w v bytes part given before made g s e h.0 h.1
enough_given old w v bytes part given before made g s e (inr h) = more_given old w v bytes part given before made g s e h

whole_given : (old w v : Work) (bytes piece given before made : List ℕ) (used : ℕ) (g : HasGivenPnm bytes given old) → used ≤ length piece → Stays old w → run at_start (bytes ++ take used piece) ≡ whole (image_view g.front w) → GivesHeld w before v made
    → Appends before made (λ more. AfterGiven pnm_samples_kind (bytes ++ take used piece) (bytes ++ piece) (given ++ more) answer.Whole v)
whole_given old w v bytes piece given before made used g few s e h =
    let front = g.front in
    let t = s.text g.text g.known in
    let body : List ℕ = front ++ w.samples in
    let is : run at_start (bytes ++ take used piece) ≡ whole (image_of (pnm_head w) body) = e ∙ ap whole (image_text front w.stage w t.text) in
    let begun = more_after bytes (take used piece) (text_begins front old.stage old bytes g.text g.stands) in
    let held = held_bytes front w (whole_bytes (bytes ++ take used piece) w.format (list_of w.numbers []) body begun is) in
    let more = scaled_by w w.samples in
    let image : image_of (pnm_head w) body ≡ image_by_parts (pnm_info v.format (list_of v.numbers [])) (given ++ more) =
    ap (image_by_parts (pnm_info w.format (list_of w.numbers []))) (sym (given_all bytes given old w g t.numbers))
    ∙ ap (λ k. image_by_parts (pnm_info k (list_of w.numbers [])) (given ++ more)) (sym h.format)
    ∙ ap (λ k. image_by_parts (pnm_info v.format (list_of k [])) (given ++ more)) (sym h.numbers)
    in (
      more,
      h.given held,
      (
        λ limits rest l. image_read limits bytes piece rest used (image_by_parts (pnm_info v.format (list_of v.numbers [])) (given ++ more)) few l (is ∙ ap whole image),
        no_fault (bytes ++ take used piece) (whole_right (run at_start (bytes ++ take used piece)) (image_of (pnm_head w) body) is),
      ),
    )

no_fault_yet : (front : List ℕ) (s : ImageState) (a : Answer) (w : Work) → IsNoFault a → Reaches front s a w → ShowsNone s
no_fault_yet front s answer.More w n r = subst ShowsNone r (standing_right front w.stage w)
no_fault_yet front s answer.Whole w n r = whole_right s (image_view front w) r
no_fault_yet front s (answer.Fault fault) w n r = absurd n
no_fault_yet front s answer.NoMemory w n r = r

-- THE RESULT of some bytes
pub known_given : (old w v : Work) (bytes piece given before made : List ℕ) (used : ℕ) (a b : Answer) (g : HasGivenPnm bytes given old) → used ≤ length piece → Stays old w → Reaches g.front (run (standing g.front old) (take used piece)) a w
    → GivesKnown w a before b v made → Appends before made (λ more. AfterGiven pnm_samples_kind (bytes ++ take used piece) (bytes ++ piece) (given ++ more) b v)
known_given old w v bytes piece given before made used a b g few s r k = by b k
  where
    to : Reaches g.front (run at_start (bytes ++ take used piece)) a w
    to = subst (λ t. Reaches g.front t a w) (run_taken g.front old bytes (take used piece) g.stands) r

    by : (b : Answer) → GivesKnown w a before b v made → Appends before made (λ more. AfterGiven pnm_samples_kind (bytes ++ take used piece) (bytes ++ piece) (given ++ more) b v)
    by answer.More (is, h) = enough_given old w v bytes (take used piece) given before made g s (subst (λ x. Reaches g.front (run at_start (bytes ++ take used piece)) x w) is to) h
    by answer.Whole (is, h) = whole_given old w v bytes piece given before made used g few s (subst (λ x. Reaches g.front (run at_start (bytes ++ take used piece)) x w) is to) h
    by (answer.Fault fault) (is, (more, m)) =
        let e = subst (λ x. Reaches g.front (run at_start (bytes ++ take used piece)) x w) is to in
        (more, m, λ limits rest l. fault_read limits bytes piece rest used (length (bytes ++ take used piece)) fault few l (place bytes piece (length bytes) used refl few) e)
    by answer.NoMemory (none, (more, m)) = (more, m, no_fault (bytes ++ take used piece) (no_fault_yet g.front (run at_start (bytes ++ take used piece)) a w none to))

-- THE NUMBERS stay

-- of the answers that need more bytes, or have all samples
abbrev IsHeldOn : Work → Answer → Work → Type 0
IsHeldOn w answer.More v = (v.format ≡ w.format) × (v.numbers ≡ w.numbers)
IsHeldOn w answer.Whole v = (v.format ≡ w.format) × (v.numbers ≡ w.numbers)
IsHeldOn w (answer.Fault fault) v = Unit {0}
IsHeldOn w answer.NoMemory v = Unit {0}

held_on : (w v : Work) (before made : List ℕ) (a b : Answer) → GivesKnown w a before b v made → IsHeldOn w b v
held_on w v before made a answer.More (is, inl h) = (ap (λ (x : Work). x.format) h.0, ap (λ (x : Work). x.numbers) h.0)
held_on w v before made a answer.More (is, inr h) = (h.format, h.numbers)
held_on w v before made a answer.Whole (is, h) = (h.format, h.numbers)
held_on w v before made a (answer.Fault fault) k = tt
held_on w v before made a answer.NoMemory k = tt

info_same : (old w v : Work) → Stays old w → IsText old.stage → AreAllNumbers old.numbers → v.format ≡ w.format → v.numbers ≡ w.numbers → pnm_samples_kind.info v ≡ pnm_samples_kind.info old
info_same old w v s text known f n =
    let t = s.text text known in
    ap (λ k. pnm_info k (list_of v.numbers [])) (f ∙ t.format) ∙ ap (λ k. pnm_info old.format (list_of k [])) (n ∙ t.numbers)

pub info_kept : (old w v : Work) (before made : List ℕ) (a b : Answer) → Stays old w → GivesKnown w a before b v made → KeepsInfo pnm_samples_kind old b v
info_kept old w v before made a b s k bytes given g = by b (held_on w v before made a b k)
  where
    by : (b : Answer) → IsHeldOn w b v → HasSameInfo pnm_samples_kind old b v
    by answer.More (f, n) = info_same old w v s g.text g.known f n
    by answer.Whole (f, n) = info_same old w v s g.text g.known f n
    by (answer.Fault fault) h = tt
    by answer.NoMemory h = tt

-- WHERE THEY BEGIN

pub none_given_yet : (bytes : List ℕ) (info : ImageInfo) (w : Work) → CanGiveNow info w → pixels_kind.stands bytes w → HasGivenPnm bytes [] w
none_given_yet bytes info w c s = record { front = []; long = sym s.0; text = c.text; known = c.known; stands = s.1; given_is = refl }

-- THEIR NUMBERS are within bounds

text_right : (format : ℕ) (numbers : Numbers) (body : List ℕ) → AreAllNumbers numbers → are_right_numbers format [] (list_of numbers body) ≡ true → AreRightNumbers (pnm_info format (list_of numbers []))
text_right format Nothing body all right = absurd all
text_right format (Width w) body all right = absurd all
text_right format (Sides w h) body all right = absurd all
text_right format (All w h m) body all right = right_numbers (pnm_info format (w ∷ h ∷ m ∷ [])) (text_sides format w h (m ∷ body) right)

right_at : (front : List ℕ) (st : Stage) (w : Work) (bytes : List ℕ) → IsText st → AreAllNumbers w.numbers → standing_of front st w ≡ run at_start bytes → AreRightNumbers (pnm_info w.format (list_of w.numbers []))
right_at front stage.Start w bytes t all e = absurd t
right_at front (stage.First first) w bytes t all e = absurd t
right_at front (stage.Gap some commented) w bytes t all e =
    let i : InGap bytes w.format (list_of w.numbers (front ++ w.samples)) some commented = subst (RepresentsImage bytes) (sym e) (stands bytes) in
    text_right w.format w.numbers (front ++ w.samples) all i.behind.right
right_at front (stage.Number n) w bytes t all e = by (subst (RepresentsImage bytes) (sym e) (stands bytes))
  where
    by : RepresentsImage bytes (in_number w.format (list_of w.numbers (front ++ w.samples)) n) → AreRightNumbers (pnm_info w.format (list_of w.numbers []))
    by (m, r, c) = text_right w.format w.numbers (front ++ w.samples) all r.before.right
right_at front stage.BmpHead w bytes t all e = absurd t
right_at front (stage.BmpFront passed) w bytes t all e = absurd t
right_at front stage.PnmBody w bytes t all e =
    let i : InBody bytes (pnm w.format (list_of w.numbers [])) (front ++ w.samples) = subst (RepresentsImage bytes) (sym e) (stands bytes) in
    right_numbers (pnm_info w.format (list_of w.numbers [])) (raw_sides w.format (list_of w.numbers []) i.front i.header)
right_at front stage.BmpBody w bytes t all e = absurd t

pub begun_right : (bytes : List ℕ) (info : ImageInfo) (w : Work) → CanGiveNow info w → pixels_kind.stands bytes w → AreRightNumbers info
begun_right bytes info w c s = subst AreRightNumbers (sym c.info_is) (right_at [] w.stage w bytes c.text c.known s.1)

pub given_right : (bytes given : List ℕ) (w : Work) → HasGivenPnm bytes given w → AreRightNumbers (pnm_samples_kind.info w)
given_right bytes given w g = right_at g.front w.stage w bytes g.text g.known g.stands

pub given_open : (bytes given : List ℕ) (w : Work) → HasGivenPnm bytes given w → IsOpenImage bytes
given_open bytes given w g = live_shows_nothing bytes (subst IsLive g.stands (standing_live g.front w.stage w))

-- WHERE THE FILE ENDS, after these bytes and samples

module _ (old : Work) (bytes given : List ℕ) (g : HasGivenPnm bytes given old) where
  pub ended_samples : (w : Work) → Stays old w → image_view g.front w ≡ image_by_parts (pnm_samples_kind.info old) (given ++ scaled_by w w.samples)
  ended_samples w s =
      let t = s.text g.text g.known in
      image_text g.front w.stage w t.text
      ∙ ap (image_by_parts (pnm_info w.format (list_of w.numbers []))) (sym (given_all bytes given old w g t.numbers))
      ∙ ap (λ i. image_by_parts i (given ++ scaled_by w w.samples)) (info_same old w w s g.text g.known refl refl)

  pub ended_image : (limits : Limits) (image : Image) → length bytes < limits.input → state_end (standing g.front old) ≡ Ok image → IsImage limits bytes image
  ended_image limits image l e = image_at_end limits (standing g.front old) bytes image g.stands (standing_live g.front old.stage old) l e

  ended_bytes : (w : Work) → AreBytes bytes → Stays old w → state_end (standing g.front old) ≡ Ok (image_view g.front w) → AreBytes (scaled_by w w.samples)
  ended_bytes w all s e =
      let limits : Limits = record standard_limits { input = suc (length bytes) } in
      let image = image_right limits bytes (image_view g.front w) (ended_image limits (image_view g.front w) (omega arith) e) all in
      rest_bytes given (scaled_by w w.samples) (subst AreBytes (ap (λ (i : Image). i.samples) (ended_samples w s)) image.bytes)

  pub ended_whole : (w v : Work) (before made : List ℕ) → AreBytes bytes → Stays old w → EndsAs g.front (state_end (standing g.front old)) answer.Whole w → GivesHeld w before v made
      → Appends before made (λ more. EndsImage bytes (Ok tt) (image_by_parts (pnm_samples_kind.info old) (given ++ more)))
  ended_whole w v before made all s e h =
      (scaled_by w w.samples, h.given (ended_bytes w all s e), λ limits l. ended_image limits (image_by_parts (pnm_samples_kind.info old) (given ++ scaled_by w w.samples)) l (e ∙ ap Ok (ended_samples w s)))

  pub ended_lost : (w : Work) (before made : List ℕ) → EndsAs g.front (state_end (standing g.front old)) answer.Whole w → IsMore before made
      → Appends before made (λ more. EndsImage bytes (Err stop.NoMemory) (image_by_parts (pnm_samples_kind.info old) (given ++ more)))
  ended_lost w before made e (more, m) = (more, m, (image_view g.front w, λ limits l. ended_image limits (image_view g.front w) l e))

pub nothing_more : (before : List ℕ) {P : Type 0} → P → Appends before before (λ more. P)
nothing_more before p = ([], sym (append-nil before), p)

pub tells_right : (r : PixelReader) (o : Option ImageInfo) → IfSome o (λ info. CanGiveNow info r.reader.work) → IfSome o (TellsRight r)
tells_right r None t = tt
tells_right r (Some info) c = λ bytes h. begun_right bytes info r.reader.work c h.3.stands
