-- Samples that are given one after another.
use Rattle.std.proofs.Common.{◌≡◌, ◌⊎◌, ℕ, ◌+◌, ◌-◌, ◌*◌, ◌/◌, ◌<◌, ◌≤◌, min, Bool, true, false, cond, ◌||◌, ◌==◌, List, [], ◌++◌, length, take, drop, slice_index_or, refl, sym, ap, ◌∙◌, subst, arith, ⊎_elim, inl, inr, None}
use Rattle.std.proofs.Math.Nat.{le-div_iff_mul-le}
use Rattle.std.proofs.Math.Seq.{take-append_seam}
use Rattle.std.proofs.lemmas.Bool.{cases_lt}
use Rattle.std.proofs.lemmas.Bool.Decides.{nat_tests}
use Rattle.std.proofs.lemmas.Nat.{mul-le}
use Rattle.std.proofs.lemmas.List.{append_assoc, drop-append-le, drop_all, length-append, length-drop}
use Rattle.jpg_spec.specs.FrameHeader.{IsFrame}
use Rattle.jpg_spec.specs.Geometry.{Frame, component_at, div_up, mcus_down, no_component, v_max}
use Rattle.jpg_spec.proofs.Writing.MovedFrames.{down_low}
use Rattle.jpg_spec_encode.specs.Encoded.{components_due, count_due}
use Rattle.jpg_spec_image.specs.Images.{Image, sample_count}
use Rattle.jpg_spec_image.specs.declared.image.ImageInfo.{ImageInfo}
use Rattle.jpg_spec_image.specs.declared.image.ImageKind.{ImageKind}
use Rattle.jpg_spec_image.specs.declared.image.ImageKind.TheVariants.{Gray, Rgb}
use Rattle.jpg_color.specs.ColourRows.{numbers_of_pixel}
use Rattle.jpg_color.specs.Encode.{CanSample, encoded_frame, encoded_parts, encoding_request, fault_due, image_of}
use Rattle.jpg_color.specs.EncodeBlocks.{AppendsStrip, AreRowsFrom, AppendsRows, GrowsPlanes, HasPlanes, IsRowOf, IsStrip, plane_at}
use Rattle.jpg_color.specs.EncodeSampling.{AddsSamples, Completes, HasGiven, HasSampled, MakesRow}
use Rattle.jpg_color.specs.SamplerState.{IsWhole, KeepsSampler, row_length, strip_numbers, strip_room}
use Rattle.jpg_color.specs.declared.encode.Encoding.{Encoding as Asked}
use Rattle.jpg_color.specs.declared.encode.sampler.Sampler.{Sampler}
use Rattle.jpg_color.specs.declared.encode.strips.Planes.{Planes}
use Rattle.jpg_color.specs.declared.encode.strips.Strip.{Strip}
use Rattle.jpg_color.proofs.EncodeSources as Sources
use Rattle.jpg_color.proofs.EncodeSources.{at_most_three, three_or_one}
use Rattle.jpg_color.proofs.McuSources.{whole_down}
use Rattle.jpg_color.proofs.StripPlanes.{IsPart, row_of_strip, strip_samples}

-- HOW MANY

pub counted : (info : ImageInfo) → sample_count info ≡ info.height * row_length info
counted info = by info.width info.height info.x_metre info.y_metre info.kind
  where
    by : (w h x y : ℕ) (k : ImageKind) → sample_count (record { width = w; height = h; kind = k; x_metre = x; y_metre = y }) ≡ h * (numbers_of_pixel k * w)
    by w h x y Gray = ap (λ n. h * n) (omega arith)
    by w h x y Rgb = refl

take_in_row : (k : ImageKind) (w : ℕ) → 1 ≤ w → 1 ≤ numbers_of_pixel k * w
take_in_row Gray w h = omega (arith, h)
take_in_row Rgb w h = omega (arith, h)

pub some_in_row : (info : ImageInfo) → 1 ≤ info.width → 1 ≤ row_length info
some_in_row info h = take_in_row info.kind info.width h

pub room_some : (info : ImageInfo) (f : Frame) → IsFrame f → 1 ≤ info.width → 1 ≤ strip_room info f
room_some info f is wide = mul-le 1 1 (8 * v_max f) (row_length info) (let d = down_low f.components is.factors is.count_low in omega (arith, d)) (some_in_row info wide)

-- NOTHING was given

none_at : (p : Planes) (i : ℕ) → p.ys.items ≡ [] → p.cbs.items ≡ [] → p.crs.items ≡ [] → plane_at p i ≡ []
none_at p i a b c = by (i == 0) (i == 1)
  where
    by : (s t : Bool) → cond s p.ys.items (cond t p.cbs.items p.crs.items) ≡ []
    by true t = a
    by false true = b
    by false false = c

none_before : (n : ℕ) → n * 0 ≡ 0
none_before n = omega arith

pub begins : (info : ImageInfo) (a : Asked) (pending : List ℕ) (p : Planes) (left : ℕ) → pending ≡ [] → p.ys.items ≡ [] → p.cbs.items ≡ [] → p.crs.items ≡ [] → left ≡ info.height * row_length info → HasGiven info a [] pending p 0 0 left
begins info a pending p left nothing ys cbs crs all = record {
  count = (let z : 0 + left ≡ left = omega arith in z) ∙ all ∙ sym (counted info);
  pending = nothing ∙ ap (λ n. drop n []) (let z : 0 ≡ 0 * strip_room info (encoded_frame info a) = omega arith in z);
  planes = λ samples of i there. record {
    long = ap length (none_at p i ys cbs crs) ∙ sym (none_before (component_at (encoded_frame info a) i).v);
    each = λ y h. absurd (omega (arith, h, none_before (component_at (encoded_frame info a) i).v));
  };
}

pub keeps_none : (info : ImageInfo) (a : Asked) (f : Frame) (pending : List ℕ) (p : Planes) (left : ℕ) → pending ≡ [] → CanSample info a → f ≡ encoded_frame info a → fault_due info a ≡ None → IsFrame f → p.ys.items ≡ [] → p.cbs.items ≡ [] → p.crs.items ≡ []
    → left ≡ info.height * row_length info → KeepsSampler info a f pending p 0 0 left
keeps_none info a f pending p left nothing can same none is ys cbs crs all = record {
  can = can;
  frame = same;
  none = none;
  low = omega arith;
  high = omega arith;
  planes = record {
    rows = λ i there y h. absurd (let e : length (plane_at p i) ≡ 0 = ap length (none_at p i ys cbs crs) in omega (arith, h, e));
    enough = λ i there. omega (arith, none_before (component_at f i).v);
  };
  checked = is;
  short = λ some. (let n : length pending ≡ 0 = ap length nothing in omega (arith, n, room_some info f is can.wide));
  count = λ some. (let z : 0 * strip_room info f ≡ 0 = omega arith in let n : length pending ≡ 0 = ap length nothing in omega (arith, z, n, all));
}

-- WHETHER a row of MCUs is complete

pub complete_yes : (n room left : ℕ) → (n == room || left == 0) ≡ true → (n ≡ room) ⊎ (left ≡ 0)
complete_yes n room left e = by (n == room) refl e
  where
    by : (b : Bool) → (n == room) ≡ b → (b || left == 0) ≡ true → (n ≡ room) ⊎ (left ≡ 0)
    by true h e = inl (grind (arith, nat_tests, h))
    by false h e = inr (grind (arith, nat_tests, e))

-- by numbers: rows of MCUs of `room` samples, in `lines` rows of `row` samples each, of `high` in all
whole_by : (lines row high made pending left : ℕ) → 1 ≤ row → 1 ≤ pending → pending ≤ lines * row → made * (lines * row) + pending + left ≡ high * row → (pending ≡ lines * row) ⊎ (left ≡ 0)
    → (lines * made < high) × (pending ≡ min lines (high - lines * made) * row)
whole_by lines row high made pending left one some most all full = (more, ⊎_elim whole last full)
  where
    before : made * (lines * row) ≡ lines * made * row
    before = grind arith

    more : lines * made < high
    more = ⊎_elim (λ (h : lines * made < high). h) (λ (h : high ≤ lines * made). (let m = mul-le high row (lines * made) row h (omega arith) in absurd (omega (arith, m, before, all, some)))) (cases_lt (lines * made) high)

    rest : (high - lines * made) * row ≡ pending + left
    rest = let e : high ≡ lines * made + (high - lines * made) = omega (arith, more) in
        let s : high * row ≡ lines * made * row + (high - lines * made) * row = ap (λ n. n * row) e ∙ grind arith in
        omega (arith, s, before, all)

    less : (a b : ℕ) → a * row ≤ b * row → a ≤ b
    less a b h = ⊎_elim
        (λ (c : b < a). (let m = mul-le (b + 1) row a row (omega (arith, c)) (omega arith) in let s : (b + 1) * row ≡ b * row + row = grind arith in absurd (omega (arith, m, s, h, one))))
        (λ (c : a ≤ b). c) (cases_lt b a)

    whole : pending ≡ lines * row → pending ≡ min lines (high - lines * made) * row
    whole e = let l = less lines (high - lines * made) (omega (arith, rest, e)) in
        let m : min lines (high - lines * made) ≡ lines = omega (arith, l) in e ∙ ap (λ n. n * row) (sym m)

    last : left ≡ 0 → pending ≡ min lines (high - lines * made) * row
    last z = let l = less (high - lines * made) lines (omega (arith, rest, z, most)) in
        let m : min lines (high - lines * made) ≡ high - lines * made = omega (arith, l) in
        (let e : pending ≡ (high - lines * made) * row = omega (arith, rest, z) in e) ∙ ap (λ n. n * row) (sym m)

pub is_whole : (info : ImageInfo) (f : Frame) (pending : List ℕ) (made left : ℕ) → 1 ≤ info.width → 1 ≤ length pending → length pending ≤ strip_room info f
    → made * strip_room info f + length pending + left ≡ info.height * row_length info → (length pending ≡ strip_room info f) ⊎ (left ≡ 0) → IsWhole info f pending made
is_whole info f pending made left wide some most all full =
    let w = whole_by (8 * v_max f) (row_length info) info.height made (length pending) left (some_in_row info wide) some most all full in
    record { more = w.0; all = w.1 }

-- MORE SAMPLES that are pending

pub completes_first : {info : ImageInfo} {given samples : List ℕ} (more : List ℕ) → Completes info (given ++ more) samples → Completes info given samples
completes_first {info} {given} {samples} more of = record { rest = more ++ of.rest; cut = sym (append_assoc given more of.rest) ∙ of.cut; all = of.all }

pub gives_more : (info : ImageInfo) (a : Asked) (given pending more : List ℕ) (p : Planes) (dropped made left after : ℕ) → made * strip_room info (encoded_frame info a) ≤ length given → HasGiven info a given pending p dropped made left → length more + after ≡ left
    → HasGiven info a (given ++ more) (pending ++ more) p dropped made after
gives_more info a given pending more p dropped made left after begun has e = record {
  count = omega (arith, length-append given more, has.count, e);
  pending = ap (λ (l : List ℕ). l ++ more) has.pending ∙ sym (drop-append-le (made * strip_room info (encoded_frame info a)) given more begun);
  planes = λ samples of. has.planes samples (completes_first more of);
}

-- A ROW OF MCUS that was made of the pending samples

part_of_all : (n : ℕ) (given rest samples pending : List ℕ) → n ≤ length given → given ++ rest ≡ samples → pending ≡ drop n given → take (length pending) (drop n samples) ≡ pending
part_of_all n given rest samples pending low cut is =
    ap (λ l. take (length pending) (drop n l)) (sym cut) ∙ ap (take (length pending)) (drop-append-le n given rest low ∙ ap (λ (l : List ℕ). l ++ rest) (sym is)) ∙ take-append_seam pending rest

first_rows : {f : Frame} {strip image : Image} {i : ℕ} (first m : ℕ) {old new : List (List (List ℕ))} → ((y : ℕ) (row : List (List ℕ)) → y < (component_at f i).v → IsRowOf f strip i y row → IsRowOf f image i ((component_at f i).v * (first + m) + y) row)
    → AreRowsFrom f image i ((component_at f i).v * first) ((component_at f i).v * m) old → AppendsRows f strip i (component_at f i).v old new → AreRowsFrom f image i ((component_at f i).v * first) ((component_at f i).v * (m + 1)) new
first_rows {f} {strip} {image} {i} first m {old} {new} moved are more =
    let v = (component_at f i).v in
    let e : v * (m + 1) ≡ v * m + v = grind arith in
    let start : v * (first + m) ≡ v * first + v * m = grind arith in
    record {
      long = omega (arith, more.long, are.long, e);
      each = λ y h.
          (⊎_elim
          (λ (b : y < v * m). subst (IsRowOf f image i (v * first + y)) (sym (more.same y (omega (arith, b, are.long)))) (are.each y b))
          (λ (b : v * m ≤ y). (let k : ℕ = y - v * m in
          let at : v * (first + m) + k ≡ v * first + y = omega (arith, b, start) in
          let there : length old + k ≡ y = omega (arith, b, are.long) in
          let low : k < v = omega (arith, h, e, b) in
          let row = slice_index_or new (length old + k) [] in
          subst (λ n. IsRowOf f image i n (slice_index_or new y [])) at (subst (λ n. IsRowOf f image i (v * (first + m) + k) (slice_index_or new n [])) there (moved k row low (more.each k low)))))
          (cases_lt y (v * m)));
    }

pub makes_row : (info : ImageInfo) (a : Asked) (given pending : List ℕ) (old new : Planes) (dropped made left : ℕ) → dropped ≤ made → CanSample info a → IsFrame (encoded_frame info a)
    → ((i : ℕ) → i < length (encoded_frame info a).components → (1 ≤ (component_at (encoded_frame info a) i).v) × (v_max (encoded_frame info a) / (component_at (encoded_frame info a) i).v * (component_at (encoded_frame info a) i).v ≡ v_max (encoded_frame info a)))
    → made * strip_room info (encoded_frame info a) ≤ length given → IsWhole info (encoded_frame info a) pending made → HasGiven info a given pending old dropped made left
    → AppendsStrip (encoded_frame info a) (image_of (strip_numbers info (encoded_frame info a) made) pending) old new → HasGiven info a given [] new dropped (made + 1) left
makes_row info a given pending old new dropped made left few can is factors begun whole has appends = record {
  count = has.count;
  pending = sym nothing;
  planes = λ samples of i there.
      (let part : IsPart info f made i = record { wide = can.wide; low = down_low f.components is.factors is.count_low; factor = (factors i there).0; whole = (factors i there).1; more = whole.more } in
      let own = samples_are samples of in
      let count : dropped + (made - dropped) ≡ made = omega (arith, few) in
      let next : made - dropped + 1 ≡ made + 1 - dropped = omega (arith, few) in
      let v = (component_at f i).v in
      subst (λ m. AreRowsFrom f (image_of info samples) i (v * dropped) (v * m) (plane_at new i)) next
      (first_rows dropped (made - dropped)
      (λ y row ly of_strip. subst (λ n. IsRowOf f (image_of info samples) i (v * n + y) row) (sym count) (row_of_strip info f made i y samples row part ly (subst (λ (l : List ℕ). IsRowOf f (image_of (strip_numbers info f made) l) i y row) (sym own) of_strip)))
      (has.planes samples of i there) (appends i there)));
}
  where
    f : Frame
    f = encoded_frame info a

    before : 8 * v_max f * made * row_length info ≡ made * strip_room info f
    before = grind arith

    samples_are : (samples : List ℕ) → Completes info given samples → strip_samples info f made samples ≡ pending
    samples_are samples of =
        ap (λ n. take n (drop (8 * v_max f * made * row_length info) samples)) (sym whole.all) ∙ ap (λ n. take (length pending) (drop n samples)) before
        ∙ part_of_all (made * strip_room info f) given of.rest samples pending begun of.cut has.pending

    nothing : drop ((made + 1) * strip_room info f) given ≡ []
    nothing = let l = length-drop (made * strip_room info f) given in
        let most = mul-le (strip_numbers info f made).height (row_length info) (8 * v_max f) (row_length info) (omega arith) (omega arith) in
        let long : length pending ≡ length given - made * strip_room info f = ap length has.pending ∙ l in
        let next : (made + 1) * strip_room info f ≡ made * strip_room info f + strip_room info f = grind arith in
        drop_all ((made + 1) * strip_room info f) given (omega (arith, long, most, next, whole.all))

-- A SAMPLER after some samples

pub same_given : {info : ImageInfo} {a : Asked} {given one other : List ℕ} {p q : Planes} {gone dropped made next left after : ℕ} → one ≡ other → p ≡ q → gone ≡ dropped → made ≡ next → left ≡ after → HasGiven info a given one p gone made left → HasGiven info a given other q dropped next after
same_given {info} {a} {given} {one} {other} {p} {q} {gone} {dropped} {made} {next} {left} {after} e g d m l has =
    subst (λ n. HasGiven info a given other q dropped next n) l (subst (λ n. HasGiven info a given other q dropped n left) m (subst (λ n. HasGiven info a given other q n made left) d
    (subst (λ (k : Planes). HasGiven info a given other k gone made left) g (subst (λ (w : List ℕ). HasGiven info a given w p gone made left) e has))))

room_is : {info : ImageInfo} {a : Asked} {given : List ℕ} (s : Sampler) → HasSampled info a given s → strip_room s.info s.frame ≡ strip_room info (encoded_frame info a)
room_is {info} {a} s has =
    ap (strip_room s.info) s.keeps.frame ∙ ap (λ (i : ImageInfo). strip_room i (encoded_frame i s.encoding)) has.numbers ∙ ap (λ (b : Asked). strip_room info (encoded_frame info b)) has.asked

pub begun_is : {info : ImageInfo} {a : Asked} {given : List ℕ} (s : Sampler) → 1 ≤ s.left → HasSampled info a given s → s.made * strip_room info (encoded_frame info a) ≤ length given
begun_is {info} {a} {given} s some has =
    let total : s.info.height * row_length s.info ≡ sample_count info = ap (λ (i : ImageInfo). i.height * row_length i) has.numbers ∙ sym (counted info) in
    let same : s.made * strip_room s.info s.frame ≡ s.made * strip_room info (encoded_frame info a) = ap (λ n. s.made * n) (room_is s has) in
    let all = s.keeps.count some in
    let count = has.has.count in
    omega (arith, total, same, all, count)

pub adds_part : (old new : Sampler) (more : List ℕ) → 1 ≤ old.left → new.info ≡ old.info → new.encoding ≡ old.encoding → new.planes ≡ old.planes → new.made ≡ old.made → new.dropped ≡ old.dropped → new.pending ≡ old.pending ++ more → length more + new.left ≡ old.left
    → AddsSamples old more new
adds_part old new more some info asked planes made dropped pending left i a given has = record {
  numbers = info ∙ has.numbers;
  asked = asked ∙ has.asked;
  has = same_given (sym pending) (sym planes) (sym dropped) (sym made) refl (gives_more i a given old.pending more old.planes old.dropped old.made old.left new.left (begun_is old some has) has.has left);
}

-- the facts of a frame's factors
abbrev pub AreFactorsOf : Frame → Type 0
AreFactorsOf f = (i : ℕ) → i < length f.components → (1 ≤ (component_at f i).v) × (v_max f / (component_at f i).v * (component_at f i).v ≡ v_max f)

pub adds_row : (old mid after new : Sampler) (more : List ℕ) → 1 ≤ old.left → mid.info ≡ old.info → mid.encoding ≡ old.encoding → mid.planes ≡ old.planes → mid.made ≡ old.made → mid.dropped ≡ old.dropped → mid.pending ≡ old.pending ++ more
    → AreFactorsOf mid.frame → IsWhole mid.info mid.frame mid.pending mid.made → MakesRow mid after
    → new.info ≡ after.info → new.encoding ≡ after.encoding → new.planes ≡ after.planes → new.made ≡ after.made → new.dropped ≡ after.dropped → new.pending ≡ after.pending → length more + new.left ≡ old.left → AddsSamples old more new
adds_row old mid after new more some info asked planes made dropped pending factors whole makes info_after asked_after planes_after made_after dropped_after pending_after left i a given has = record {
  numbers = info_after ∙ makes.numbers ∙ same;
  asked = asked_after ∙ makes.asked ∙ told;
  has = same_given (sym (pending_after ∙ makes.pending)) (sym planes_after) (sym (dropped_after ∙ makes.dropped)) (sym (made_after ∙ makes.made)) refl
      (subst (λ (j : ImageInfo). HasGiven j a (given ++ more) [] after.planes mid.dropped (mid.made + 1) new.left) same
      (subst (λ (b : Asked). HasGiven mid.info b (given ++ more) [] after.planes mid.dropped (mid.made + 1) new.left) told made_here));
}
  where
    same : mid.info ≡ i
    same = info ∙ has.numbers

    told : mid.encoding ≡ a
    told = asked ∙ has.asked

    f : Frame
    f = encoded_frame mid.info mid.encoding

    before : HasGiven i a (given ++ more) mid.pending mid.planes mid.dropped mid.made new.left
    before = same_given (sym pending) (sym planes) (sym dropped) (sym made) refl (gives_more i a given old.pending more old.planes old.dropped old.made old.left new.left (begun_is old some has) has.has left)

    here : HasGiven mid.info mid.encoding (given ++ more) mid.pending mid.planes mid.dropped mid.made new.left
    here = subst (λ (b : Asked). HasGiven mid.info b (given ++ more) mid.pending mid.planes mid.dropped mid.made new.left) (sym told)
        (subst (λ (j : ImageInfo). HasGiven j a (given ++ more) mid.pending mid.planes mid.dropped mid.made new.left) (sym same) before)

    long : mid.made * strip_room mid.info f ≤ length (given ++ more)
    long = let b = begun_is old some has in
        let l = length-append given more in
        let e : mid.made * strip_room mid.info f ≡ old.made * strip_room i (encoded_frame i a) =
        ap (λ n. n * strip_room mid.info f) made ∙ ap (λ (j : ImageInfo). old.made * strip_room j (encoded_frame j mid.encoding)) same ∙ ap (λ (b : Asked). old.made * strip_room i (encoded_frame i b)) told in
        omega (arith, b, l, e)

    made_here : HasGiven mid.info mid.encoding (given ++ more) [] after.planes mid.dropped (mid.made + 1) new.left
    made_here = makes_row mid.info mid.encoding (given ++ more) mid.pending mid.planes after.planes mid.dropped mid.made new.left mid.keeps.low mid.keeps.can (subst IsFrame mid.keeps.frame mid.keeps.checked)
        (subst AreFactorsOf mid.keeps.frame factors) long (subst (λ (g : Frame). IsWhole mid.info g mid.pending mid.made) mid.keeps.frame whole) here
        (subst (λ (g : Frame). AppendsStrip g (image_of (strip_numbers mid.info g mid.made) mid.pending) mid.planes after.planes) mid.keeps.frame makes.planes)

pub adds_then : (old mid new : Sampler) (xs ys : List ℕ) → AddsSamples old xs mid → AddsSamples mid ys new → AddsSamples old (xs ++ ys) new
adds_then old mid new xs ys one other i a given has = subst (λ (l : List ℕ). HasSampled i a l new) (append_assoc given xs ys) (other i a (given ++ xs) (one i a given has))

-- THE STRIP that is pending

rgb_of : (gray : Bool) (k : ImageKind) → 1 < count_due gray k → k ≡ Rgb
rgb_of true Gray h = absurd (omega (arith, h))
rgb_of false Gray h = absurd (omega (arith, h))
rgb_of gray Rgb h = refl

pub factors_of : (info : ImageInfo) (a : Asked) (f : Frame) → f ≡ encoded_frame info a → fault_due info a ≡ None → IsFrame f → AreFactorsOf f
factors_of info a f e none is i there = ((is.factors i no_component there).v_low, whole_down (encoded_parts info a) f i e none there)

-- other planes, when no samples are left
pub keeps_planes : (f : Frame) (rest : List ℕ) (new : Planes) (more : ℕ) {info : ImageInfo} {a : Asked} {pending : List ℕ} {old : Planes} {dropped made left : ℕ} → KeepsSampler info a f pending old dropped made left → left ≡ 0
    → made ≤ more → more ≤ mcus_down f → HasPlanes f (more - dropped) new → KeepsSampler info a f rest new dropped more left
keeps_planes f rest new more k none few high has = record {
  can = k.can;
  frame = k.frame;
  none = k.none;
  checked = k.checked;
  low = (let l = k.low in omega (arith, l, few));
  high = high;
  planes = has;
  short = λ h. absurd (omega (arith, h, none));
  count = λ h. absurd (omega (arith, h, none));
}

-- one more row of MCUs of an image that has more rows
pub rows_made : (info : ImageInfo) (a : Asked) (f : Frame) (made : ℕ) → f ≡ encoded_frame info a → IsFrame f → 8 * v_max f * made < info.height → made + 1 ≤ mcus_down f
rows_made info a f made same is more =
    let low = down_low f.components is.factors is.count_low in
    let h : f.height ≡ info.height = ap (λ (g : Frame). g.height) same in
    let next : (made + 1) * (8 * v_max f) ≡ 8 * v_max f * made + 8 * v_max f = grind arith in
    (let enough : made + 1 ≤ div_up f.height (8 * v_max f) = (le-div_iff_mul-le (omega (arith, low))).1 (omega (arith, next, more, h, low)) in enough)

-- planes that grew, and those of one more row of MCUs
pub planes_grown : (f : Frame) (made : ℕ) (old new : Planes) → HasPlanes f made old → GrowsPlanes f old new → HasPlanes f made new
planes_grown f made old new has grows = record {
  rows = λ i there. (let g = grows i there in g.rows (has.rows i there));
  enough = λ i there. (let g = grows i there in let e = has.enough i there in let m = g.more in omega (arith, e, m));
}

pub planes_more : (f : Frame) (dropped made : ℕ) (strip : Image) (old new : Planes) → dropped ≤ made → HasPlanes f (made - dropped) old → GrowsPlanes f old new → AppendsStrip f strip old new → HasPlanes f (made + 1 - dropped) new
planes_more f dropped made strip old new low has grows appends = record {
  rows = λ i there. (let g = grows i there in g.rows (has.rows i there));
  enough = λ i there. (let a = appends i there in more (component_at f i).v (made - dropped) (made + 1 - dropped) (length (plane_at old i)) (length (plane_at new i)) (omega (arith, low)) (has.enough i there) a.long);
}
  where
    more : (v m n a b : ℕ) → n ≡ m + 1 → v * m ≤ a → b ≡ a + v → v * n ≤ b
    more v m n a b next h e = (let all : v * n ≡ v * m + v = ap (λ k. v * k) next ∙ grind arith in omega (arith, h, e, all))

-- what was appended of a strip, by its numbers and samples
pub same_strip : (f : Frame) (old new : Planes) {x y : ImageInfo} {samples pending : List ℕ} → x ≡ y → samples ≡ pending → AppendsStrip f (image_of x samples) old new
    → AppendsStrip f (image_of y pending) old new
same_strip f old new {x} {y} {pending = pending} numbers same all =
    subst (λ i. AppendsStrip f (image_of i pending) old new) numbers (subst (λ (p : List ℕ). AppendsStrip f (image_of x p) old new) same all)

pub strip_is : (s : Strip) (info : ImageInfo) (a : Asked) (pending : List ℕ) (made : ℕ) → CanSample info a → s.frame.now ≡ encoded_frame info a → fault_due info a ≡ None → IsFrame s.frame.now → IsWhole info s.frame.now pending made
    → s.info.now ≡ strip_numbers info s.frame.now made → s.samples.now ≡ pending → IsStrip s
strip_is s info a pending made can same none is whole numbers samples =
    let f = s.frame.now in
    let e = encoding_request a in
    let image = image_of info [] in
    let w : s.info.now.width ≡ info.width = ap (λ (i : ImageInfo). i.width) numbers in
    let h : s.info.now.height ≡ min (8 * v_max f) (info.height - 8 * v_max f * made) = ap (λ (i : ImageInfo). i.height) numbers in
    let low = down_low f.components is.factors is.count_low in
    let n : length f.components ≡ components_due e image = ap (λ (g : Frame). length g.components) same ∙ Sources.count_due e image in
    record {
      image = record {
        wide = omega (arith, w, can.wide);
        wide_few = omega (arith, w, can.wide_few);
        high = omega (arith, h, low, whole.more);
        high_few = omega (arith, h, can.high_few);
        all = ap length samples ∙ whole.all ∙ sym (ap (λ (i : ImageInfo). i.height * row_length i) numbers);
      };
      wide = w ∙ ap (λ (g : Frame). g.width) (sym same);
      high = omega (arith, h);
      count = (let m = at_most_three e image in omega (arith, n, m));
      colours = λ some.
          (let three = three_or_one e image (omega (arith, n, some)) in
          (omega (arith, n, three), ap (λ (i : ImageInfo). i.kind) numbers ∙ rgb_of a.gray info.kind (omega (arith, n, some))));
      whole = λ i there. (factors_of info a f same none is i there).1;
    }

-- SOME SAMPLES, up to the end of a row of MCUs

pub whole_now : (s : Sampler) (more pending : List ℕ) (left : ℕ) → 1 ≤ s.left → 1 ≤ length more → pending ≡ s.pending ++ more → length more + left ≡ s.left → length s.pending + length more ≤ strip_room s.info s.frame
    → (length s.pending + length more ≡ strip_room s.info s.frame) ⊎ (left ≡ 0) → IsWhole s.info s.frame pending s.made
whole_now s more pending left some one e rest most full =
    let l : length pending ≡ length s.pending + length more = ap length e ∙ length-append s.pending more in
    let c = s.keeps.count some in
    is_whole s.info s.frame pending s.made left s.keeps.can.wide (omega (arith, l, one)) (omega (arith, l, most)) (omega (arith, l, c, rest))
    (⊎_elim (λ (h : length s.pending + length more ≡ strip_room s.info s.frame). (let r : (length pending ≡ strip_room s.info s.frame) ⊎ (left ≡ 0) = inl (omega (arith, h, l)) in r)) (λ (h : left ≡ 0). inr h) full)

pub keeps_after : (old mid after : Sampler) (n left : ℕ) → 1 ≤ old.left → mid.info ≡ old.info → mid.encoding ≡ old.encoding → mid.made ≡ old.made → MakesRow mid after → n + left ≡ old.left
    → (length old.pending + n ≡ strip_room old.info old.frame) ⊎ (left ≡ 0) → KeepsSampler after.info after.encoding after.frame after.pending after.planes after.dropped after.made left
keeps_after old mid after n left some info asked made makes rest full =
    let none : length after.pending ≡ 0 = ap length makes.pending in
    let same : after.info ≡ old.info = makes.numbers ∙ info in
    let told : after.encoding ≡ old.encoding = makes.asked ∙ asked in
    let room : ℕ = strip_room old.info old.frame in
    let rooms : strip_room after.info after.frame ≡ room =
    ap (strip_room after.info) after.keeps.frame ∙ ap (λ (i : ImageInfo). strip_room i (encoded_frame i after.encoding)) same ∙ ap (λ (b : Asked). strip_room old.info (encoded_frame old.info b)) told
    ∙ sym (ap (strip_room old.info) old.keeps.frame) in
    let total : after.info.height * row_length after.info ≡ old.info.height * row_length old.info = ap (λ (i : ImageInfo). i.height * row_length i) same in
    let next : (old.made + 1) * room ≡ old.made * room + room = grind arith in
    let all : after.made * strip_room after.info after.frame ≡ old.made * room + room = ap (λ r. after.made * r) rooms ∙ ap (λ m. m * room) (makes.made ∙ ap (λ m. m + 1) made) ∙ next in
    let c = old.keeps.count some in
    record {
      can = after.keeps.can;
      frame = after.keeps.frame;
      none = after.keeps.none;
      low = after.keeps.low;
      high = after.keeps.high;
      checked = after.keeps.checked;
      planes = after.keeps.planes;
      short = λ h. (let r = room_some after.info after.frame after.keeps.checked after.keeps.can.wide in omega (arith, none, r));
      count = λ h.
          (let r : after.made * strip_room after.info after.frame + length after.pending + left ≡ after.info.height * row_length after.info =
          ⊎_elim (λ (w : length old.pending + n ≡ strip_room old.info old.frame). (let x : after.made * strip_room after.info after.frame + length after.pending + left ≡ after.info.height * row_length after.info = omega (arith, w, none, total, all, c, rest) in x))
          (λ (w : left ≡ 0). absurd (omega (arith, w, h))) full in r);
    }
