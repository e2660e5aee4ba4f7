-- The picture of an image may be written, and its file means it.
use Rattle.std.proofs.Common.{◌≡◌, ℕ, zero, suc, ◌+◌, ◌-◌, ◌*◌, ◌/◌, ◌%◌, ◌<◌, ◌≤◌, min, Bool, true, false, cond, ◌&&◌, ◌||◌, ◌==◌, List, [], ◌∷◌, ◌++◌, length, slice_index, slice_index_or, map, refl, sym, ap, ◌∙◌, subst, arith, Some, None, lit<}
use Rattle.std.specs.Prelude.{nat_lt, flat_map, sum_by}
use Rattle.std.specs.List.{All}
use Rattle.std.proofs.Math.Nat.{div-zero}
use Rattle.std.proofs.lemmas.Nat.{div_below}
use Rattle.std.proofs.lemmas.List.{length-map}
use Rattle.std.proofs.lemmas.List.Elements.{All-nil, All-cons, All-append, All-get_or}
use Rattle.std.proofs.lemmas.List.Sums.{sum_by-append}
use Rattle.jpg_spec.specs.Lists.{below, is_distinct}
use Rattle.jpg_spec.specs.Segments.{standard_limits, AreQuantisers}
use Rattle.jpg_spec.specs.Geometry.{Frame, bounds, padded_blocks, is_real, is_progressive}
use Rattle.jpg_spec.specs.FrameHeader.{IsFrame, HasFactors, identifiers, is_precision}
use Rattle.jpg_spec.specs.Elements.{zeros, IsBlockIn}
use Rattle.jpg_spec.specs.FileMeaning.{Means}
use Rattle.jpg_spec.specs.Meaning.{Meaning, PictureComponent, picture_frame, colour_of, component_of, most_across, most_down}
use Rattle.jpg_spec_write.specs.ScansAsked.{asks_progressive, process_due}
use Rattle.jpg_spec_write.specs.FileText.{frame_of_meaning}
use Rattle.jpg_spec_write.specs.Laws.{AreOwn}
use Rattle.jpg_spec.specs.InForce.{first_some}
use Rattle.jpg_spec_write.specs.ScriptFaults.{script_fault}
use Rattle.jpg_spec_write.specs.WrittenFile.{HasQuants, IsKeptMarker, IsHeaded}
use Rattle.jpg_spec_image.specs.Luminance.{to_ycc}
use Rattle.jpg_spec_image.specs.Downsampling.{sum_under, mean_of}
use Rattle.jpg_spec_encode.specs.Encoded.{Encoding, is_gray, components_due, component_due, any_process, encoded_head, encoded, encoded_script, encoded_text, pixel_component, full_plane, component_plane, rows_made, samples_of_block, encoded_block, factors_fault, grids_fault, sampling_fault, encode_fault}
use Rattle.jpg_spec_image.specs.Images.{Image}
use Rattle.jpg_spec.specs.EncodingLaws.{AreSamples}
use Rattle.jpg_spec_encode.specs.EncodingLaws.{AreFactors, IsEncodable}
use Rattle.jpg_spec.specs.declared.frame.Component.{Component}
use Rattle.jpg_spec_image.specs.declared.image.ImageKind.{ImageKind}
use Rattle.jpg_spec_image.specs.declared.image.ImageKind.TheVariants.{Gray, Rgb}
use Rattle.jpg_spec.specs.declared.frame.Process.{Process}
use Rattle.jpg_spec.specs.declared.frame.Process.TheVariants.{Baseline, Extended, Progressive}
use Rattle.jpg_spec_write.specs.declared.picture_fault.PictureFault.TheVariants.{TooManyBlocks}
use Rattle.jpg_spec.proofs.Basics.Common.{both, same_of, lt_of, not_lt_of, sum_one}
use Rattle.jpg_spec_image.proofs.CodedBlocks.{all_at, coded_block_in}
use Rattle.jpg_spec_write.proofs.FaultlessScripts.{first_none}
use Rattle.jpg_spec_write.proofs.MovedText.{headed_frame, has_standard, own_by, same_kind, passes_by, means_by}
use Rattle.jpg_spec_write.proofs.MovedWritten.{IsPicture, may_be_written}
use Rattle.jpg_spec.proofs.Writing.MovedWritten.{zeros_here}
use Rattle.jpg_spec.proofs.Places.OutsideZeros.{alone}
use Rattle.jpg_spec_write.proofs.FrameCodes.{either_sequential}

-- SAMPLES are bytes

bytes_ycc : (r g b i : ℕ) → r < 256 → g < 256 → b < 256 → slice_index (to_ycc r g b) i < 256
unfolding to_ycc
bytes_ycc r g b zero hr hg hb = omega (arith, hr, hg, hb)
bytes_ycc r g b (suc zero) hr hg hb = omega (arith, hr, hg, hb)
bytes_ycc r g b (suc (suc zero)) hr hg hb = omega (arith, hr, hg, hb)
bytes_ycc r g b (suc (suc (suc i))) hr hg hb = omega arith

pixel_low : (kind : ImageKind) (samples : List ℕ) (i n : ℕ) → AreSamples samples → pixel_component kind samples i n < 256
pixel_low Gray samples i n all = all_at (λ s. s < 256) samples n 0 all (omega arith)
pixel_low Rgb samples i n all =
    bytes_ycc _ _ _ i (all_at (λ s. s < 256) samples (3 * n) 0 all (omega arith)) (all_at (λ s. s < 256) samples (3 * n + 1) 0 all (omega arith)) (all_at (λ s. s < 256) samples (3 * n + 2) 0 all (omega arith))

sum_low : (f : ℕ → ℕ) (most n : ℕ) → ((k : ℕ) → f k ≤ most) → sum_by f (below n) ≤ most * n
sum_low f most zero each = omega arith
sum_low f most (suc n) each =
    let e : sum_by f (below n ++ n ∷ []) ≡ sum_by f (below n) + f n = sum_by-append f (below n) (n ∷ []) ∙ ap (λ s. sum_by f (below n) + s) (sum_one f n) in
    let m : most * suc n ≡ most * n + most = grind arith in
    omega (arith, e, m, sum_low f most n each, each n)

under_low : (across down : ℕ) (plane : ℕ → ℕ → ℕ) (x y : ℕ) → ((u v : ℕ) → plane u v < 256) → sum_under across down plane x y ≤ 255 * across * down
under_low across down plane x y low =
    sum_low (λ v. sum_by (λ u. plane (across * x + u) (down * y + v)) (below across)) (255 * across) down
    (λ v. sum_low (λ u. plane (across * x + u) (down * y + v)) 255 across (λ u. (let l = low (across * x + u) (down * y + v) in omega (arith, l))))

nearest_low : (sum count : ℕ) → sum ≤ 255 * count → (sum + count / 2) / count < 256
nearest_low sum zero h = (let e = div-zero (sum + 0 / 2) in omega (arith, e))
nearest_low sum (suc n) h = div_below (sum + suc n / 2) (suc n) 256 (omega arith) (omega (arith, h))

mean_low : (across down x sum : ℕ) → sum ≤ 255 * across * down → mean_of across down x sum < 256
mean_low across down x sum h =
    by (across == 2 && down == 1) (across == 2 && down == 2)
    (λ e. (let s = both (across == 2) (down == 1) e in
    let a : across ≡ 2 = same_of across 2 s.0 in
    let d : down ≡ 1 = same_of down 1 s.1 in
    let m : 255 * across * down ≡ 510 = ap (λ n. 255 * n * down) a ∙ ap (λ n. 510 * n) d in
    omega (arith, h, m)))
    (λ e. (let s = both (across == 2) (down == 2) e in
    let a : across ≡ 2 = same_of across 2 s.0 in
    let d : down ≡ 2 = same_of down 2 s.1 in
    let m : 255 * across * down ≡ 1020 = ap (λ n. 255 * n * down) a ∙ ap (λ n. 510 * n) d in
    omega (arith, h, m)))
  where
    by : (a b : Bool) → (a ≡ true → sum ≤ 510) → (b ≡ true → sum ≤ 1020)
        → cond a ((sum + x % 2) / 2) (cond b ((sum + (1 + x % 2)) / 4) ((sum + across * down / 2) / (across * down))) < 256
    by true b ha hb = (let l = ha refl in omega (arith, l))
    by false true ha hb = (let l = hb refl in omega (arith, l))
    by false false ha hb = nearest_low sum (across * down) (let e : 255 * across * down ≡ 255 * (across * down) = grind arith in omega (arith, e, h))

pub plane_low : (H : Meaning) (image : Image) (i x y : ℕ) → AreSamples image.samples → component_plane H image i x y < 256
plane_low H image i x y all =
    let across : ℕ = most_across H / (component_of H i).h in
    let down : ℕ = most_down H / (component_of H i).v in
    let row : ℕ = min y (rows_made H i - 1) in
    mean_low across down x (sum_under across down (full_plane image i) x row) (under_low across down (full_plane image i) x row (λ u v. pixel_low image.info.kind image.samples i _ all))

pub all_map : {X Y : Type 0} (P : Y → Type 0) (f : X → Y) (xs : List X) → ((x : X) → P (f x)) → All P (map f xs)
all_map P f [] h = All-nil P
all_map P f (x ∷ xs) h = All-cons P (f x) (map f xs) (h x) (all_map P f xs h)

pub all_flat : {X Y : Type 0} (P : Y → Type 0) (f : X → List Y) (xs : List X) → ((x : X) → All P (f x)) → All P (flat_map f xs)
all_flat P f [] h = All-nil P
all_flat P f (x ∷ xs) h = All-append P (f x) (flat_map f xs) (h x) (all_flat P f xs h)

pub block_samples_low : (plane : ℕ → ℕ → ℕ) (x y : ℕ) → ((u v : ℕ) → plane u v < 256) → AreSamples (samples_of_block plane x y)
block_samples_low plane x y low =
    all_flat (λ s. s < 256) (λ v. map (λ u. plane (8 * x + u) (8 * y + v)) (below 8)) (below 8)
    (λ v. all_map (λ s. s < 256) (λ u. plane (8 * x + u) (8 * y + v)) (below 8) (λ u. low (8 * x + u) (8 * y + v)))

-- COMPONENTS

factors_here : (e : Encoding) (i : ℕ) → All AreFactors e.factors → AreFactors (slice_index_or e.factors i (1, 1))
factors_here e i all = all_at AreFactors e.factors i (1, 1) all (record { h_low = omega arith; h_high = omega arith; v_low = omega arith; v_high = omega arith })

components_of : Bool → ℕ
components_of b = cond b 1 3

frame_component : Encoding → ℕ → Component
frame_component e i = record { id = (component_due e i).id; h = (component_due e i).h; v = (component_due e i).v; quant = 0 }

has_factors : (e : Encoding) (i : ℕ) → All AreFactors e.factors → HasFactors (record { id = i + 1; h = (slice_index_or e.factors i (1, 1)).0; v = (slice_index_or e.factors i (1, 1)).1; quant = 0 })
has_factors e i all = (let f = factors_here e i all in record { h_low = f.h_low; h_high = f.h_high; v_low = f.v_low; v_high = f.v_high })

has_quants : (e : Encoding) (i : ℕ) → AreQuantisers e.first → AreQuantisers e.others → HasQuants (component_due e i)
has_quants e i first others = by (i == 0)
  where
    by : (b : Bool) → AreQuantisers (cond b e.first e.others)
    by true = first
    by false = others

abbrev due_frame : Encoding → ℕ → ℕ → Bool → Frame
due_frame e width height b = record {
  process = Baseline;
  precision = 8;
  width = width;
  height = height;
  components = map (λ c. record { id = c.id; h = c.h; v = c.v; quant = 0 }) (map (component_due e) (below (cond b 1 3)));
}

due_is_frame : (e : Encoding) (width height : ℕ) (b : Bool) → 1 ≤ width → width ≤ 65500 → 1 ≤ height → height ≤ 65500 → All AreFactors e.factors → padded_blocks (due_frame e width height b) ≤ 8388608
    → IsFrame (due_frame e width height b)
due_is_frame e width height true wl wh hl hh all few = record {
  width_low = wl;
  width_high = wh;
  height_low = hl;
  height_high = hh;
  precision = refl;
  count_low = omega arith;
  count_high = omega arith;
  factors = All-cons HasFactors _ [] (has_factors e 0 all) (All-nil HasFactors);
  distinct = refl;
  slots = All-cons (λ (c : Component). c.quant ≤ 3) _ [] (omega arith) (All-nil (λ (c : Component). c.quant ≤ 3));
  blocks = few;
}
due_is_frame e width height false wl wh hl hh all few = record {
  width_low = wl;
  width_high = wh;
  height_low = hl;
  height_high = hh;
  precision = refl;
  count_low = omega arith;
  count_high = omega arith;
  factors = all_map HasFactors (λ i. record { id = i + 1; h = (slice_index_or e.factors i (1, 1)).0; v = (slice_index_or e.factors i (1, 1)).1; quant = 0 }) (0 ∷ 1 ∷ 2 ∷ []) (λ i. has_factors e i all);
  distinct = refl;
  slots = all_map (λ (c : Component). c.quant ≤ 3) (λ i. record { id = i + 1; h = (slice_index_or e.factors i (1, 1)).0; v = (slice_index_or e.factors i (1, 1)).1; quant = 0 }) (0 ∷ 1 ∷ 2 ∷ []) (λ i. omega arith);
  blocks = few;
}

-- every process has frames of 8 bits
pub eight_bits : (process : Process) → is_precision process 8 ≡ true
eight_bits Baseline = refl
eight_bits Extended = refl
eight_bits Progressive = refl

with_process : (f : Frame) → IsFrame f → (g : Frame) → g.width ≡ f.width → g.height ≡ f.height → g.precision ≡ 8 → g.components ≡ f.components → padded_blocks g ≤ 8388608 → IsFrame g
with_process f is g w h p c few = record {
  width_low = subst (λ n. 1 ≤ n) (sym w) is.width_low;
  width_high = subst (λ n. n ≤ 65500) (sym w) is.width_high;
  height_low = subst (λ n. 1 ≤ n) (sym h) is.height_low;
  height_high = subst (λ n. n ≤ 65500) (sym h) is.height_high;
  precision = ap (is_precision g.process) p ∙ eight_bits g.process;
  count_low = subst (λ (cs : List Component). 1 ≤ length cs) (sym c) is.count_low;
  count_high = subst (λ (cs : List Component). length cs ≤ 4) (sym c) is.count_high;
  factors = subst (λ (cs : List Component). All HasFactors cs) (sym c) is.factors;
  distinct = subst (λ (cs : List Component). is_distinct (identifiers cs) ≡ true) (sym c) is.distinct;
  slots = subst (λ (cs : List Component). All (λ (k : Component). k.quant ≤ 3) cs) (sym c) is.slots;
  blocks = few;
}

-- the grids aren't refused
grids_few : (H : Meaning) → grids_fault H ≡ None → padded_blocks (picture_frame H) ≤ 8388608
grids_few H none = not_lt_of standard_limits.blocks (padded_blocks (picture_frame H)) (by (nat_lt standard_limits.blocks (padded_blocks (picture_frame H))) none)
  where
    by : (b : Bool) → cond b (Some TooManyBlocks) None ≡ None → b ≡ false
    by true e = cc
    by false e = refl

-- THE PICTURE

picture_of : (e : Encoding) (image : Image) → IsEncodable e image → sampling_fault e image ≡ None → IsPicture (encoded e image)
picture_of e image can none =
    let H = encoded_head e image in
    let few = grids_few H (first_none (factors_fault H) (grids_fault H) none).1 in
    let gray : Bool = e.gray || is_gray image.info.kind in
    let quants : All HasQuants (map (component_due e) (below (components_due e image))) = all_map HasQuants (component_due e) (below (components_due e image)) (λ i. has_quants e i can.first can.others) in
    record {
      frame = with_process (due_frame e image.info.width image.info.height gray)
          (due_is_frame e image.info.width image.info.height gray can.width_low can.width_high can.height_low can.height_high can.factors few)
          (picture_frame (encoded e image)) refl refl refl refl few;
      quants = quants;
      markers = All-cons IsKeptMarker _ [] (refl, lit< tt) (All-nil IsKeptMarker);
      count = omega arith;
      blocks = λ i x y. here i x y quants;
      others = alone (record H { blocks = encoded_block H image });
    }
  where
    here : (i x y : ℕ) → All HasQuants (map (component_due e) (below (components_due e image))) → IsBlockIn (bounds (picture_frame (encoded_head e image))) ((encoded e image).blocks i x y)
    here i x y quants = by (nat_lt i (length (picture_frame (encoded_head e image)).components) && is_real (picture_frame (encoded_head e image)) i x y) refl
      where
        by : (b : Bool) → (nat_lt i (length (picture_frame (encoded_head e image)).components) && is_real (picture_frame (encoded_head e image)) i x y) ≡ b
            → IsBlockIn (bounds (picture_frame (encoded_head e image))) (cond b (encoded_block (encoded_head e image) image i x y) (zeros 64))
        by false t = zeros_here (picture_frame (encoded_head e image))
        by true t =
            let H = encoded_head e image in
            let low : i < length (picture_frame H).components = lt_of i _ (both _ _ t).0 in
            let long = length-map H.components (λ (c : PictureComponent). (let k : Component = record { id = c.id; h = c.h; v = c.v; quant = 0 } in k)) in
            let q : HasQuants (component_of H i) = All-get_or HasQuants H.components i (record { id = 0; h = 1; v = 1; quants = [] }) (omega (arith, low, long)) quants in
            coded_block_in (component_of H i).quants (samples_of_block (component_plane H image i) x y) q.0 q.1
            (block_samples_low (component_plane H image i) x y (λ u v. plane_low H image i u v can.samples))

pub encoded_headed : (e : Encoding) (image : Image) → IsEncodable e image → sampling_fault e image ≡ None → IsHeaded standard_limits (encoded e image)
encoded_headed e image can none = may_be_written (encoded e image) (picture_of e image can none)

-- ITS FILE

pub encoded_kind : (e : Encoding) (image : Image) → is_progressive (encoded e image).process ≡ asks_progressive e.scans
encoded_kind e image = by (asks_progressive e.scans)
  where
    by : (b : Bool) → is_progressive (process_due b (any_process e image)) ≡ b
    by true = refl
    by false = either_sequential _

pub encoded_own : (e : Encoding) (image : Image) → IsEncodable e image → sampling_fault e image ≡ None → AreOwn e.scans → encode_fault e image ≡ None
encoded_own e image can none own =
    let H = encoded e image in
    let headed = encoded_headed e image can none in
    ap (λ f. first_some f (script_fault (frame_of_meaning H) (encoded_script e image))) none
    ∙ own_by e.scans (frame_of_meaning H) (colour_of H) (headed_frame H headed) (has_standard H headed) own

pub encoded_means : (e : Encoding) (image : Image) → IsEncodable e image → encode_fault e image ≡ None → Means standard_limits (encoded_text e image) (encoded e image)
encoded_means e image can none =
    let H = encoded e image in
    let parts = first_none (sampling_fault e image) (script_fault (frame_of_meaning H) (encoded_script e image)) none in
    let headed = encoded_headed e image can parts.0 in
    let kind = same_kind e.scans (frame_of_meaning H) (colour_of H) (headed_frame H headed) (has_standard H headed) ∙ sym (encoded_kind e image) in
    means_by e.huffman H (encoded_script e image) e.restart (is_progressive H.process) refl headed
    (passes_by H (encoded_script e image) (is_progressive H.process) (headed_frame H headed).count_high refl kind parts.1) can.restart
