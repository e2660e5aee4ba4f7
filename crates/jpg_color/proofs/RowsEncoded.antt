-- Images encoded MCU row by MCU row.
use Rattle.std.proofs.Common.{◌≡◌, ◌⊎◌, ℕ, zero, suc, ◌+◌, ◌-◌, ◌*◌, ◌/◌, ◌<◌, ◌≤◌, ◌==◌, ◌&&◌, nat_le, nat_lt, max, Bool, true, false, cond, List, [], ◌∷◌, ◌++◌, length, take, drop, map, get_or, slice_index_or, None, Some, refl, sym, ap, ◌∙◌, subst, arith, ℤ, ⊎_elim, inl, inr}
use Rattle.std.specs.List.{All}
use Rattle.std.specs.Prelude.{IfOk, OnOk, Result, Ok, Err}
use native.Mathlib.Nat.{div-one}
use Rattle.std.proofs.lemmas.Nat.{mul-le}
use Rattle.std.proofs.lemmas.Bool.Decides.{nat_tests}
use Rattle.std.proofs.lemmas.List.{append-nil, append_assoc, get_or-map, length-append}
use Rattle.std.proofs.lemmas.List.Elements.{All-append, All-cons, All-drop, All-from_get_or, All-get_or, All-nil, All-same, All-take}
use Rattle.jpg_spec.specs.Elements.{IsBlockIn, zeros}
use Rattle.jpg_spec.specs.EncodingLaws.{AreSamples}
use Rattle.jpg_spec.specs.FrameHeader.{IsFrame, padded_down}
use Rattle.jpg_spec.specs.Geometry.{Frame, IsReal, bounds_of, component_at, div_up, greatest, mcu_row_frame, mcus_down, no_component, place, units}
use Rattle.jpg_spec.specs.Lists.{below}
use Rattle.jpg_spec.specs.Meaning.{PictureComponent, component_of}
use Rattle.jpg_spec.specs.Scan.{Blocks}
use Rattle.jpg_spec.specs.Segments.{QuantTable, head_components}
use Rattle.jpg_spec.specs.declared.frame.Component.{Component}
use Rattle.jpg_spec.specs.declared.frame.Place.{Place}
use Rattle.jpg_spec.proofs.Basics.Common.{length_below}
use Rattle.jpg_spec.proofs.Basics.Rows.{at_below}
use Rattle.jpg_spec_encode.specs.Encoded.{component_plane, samples_of_block}
use Rattle.jpg_spec_encode.proofs.EncodedWritten.{block_samples_low, plane_low}
use Rattle.jpg_spec_image.proofs.CodedBlocks.{coded_block_in}
use Rattle.jpg_spec_image.specs.ForwardDct.{forward_dct, quantised_block}
use Rattle.jpg_spec_image.specs.Images.{sample_count}
use Rattle.jpg_spec_image.specs.declared.image.ImageInfo.{ImageInfo}
use Rattle.jpg_spec_write.specs.WrittenFile.{HasBlocksIn}
use Rattle.jpg_base.specs.Cursor.{AreIn, scan_mcus_down}
use Rattle.jpg_base.specs.declared.names.NoMemory.{NoMemory}
use Rattle.jpg_base.proofs.UnitCounts.{length_units}
use Rattle.jpg_coefs.specs.ScanUnits.{AgreeAt}
use Rattle.jpg_coefs.specs.Sinks.{IsScanPlace}
use Rattle.jpg_coefs.proofs.Places.{is_real_place, scan_places, some_places}
use Rattle.jpg_seq.specs.ScanWritten.{CanKeep, KeepsScan, WrittenScan, kept_scan, written_data}
use Rattle.jpg_seq.specs.declared.kept_scan.KeptScan.{KeptScan}
use Rattle.jpg_seq.specs.Reader.{BeginAt, IsInRow, row_units, rows_in_mcu, top_of}
use Rattle.jpg_seq.proofs.Machines.{one_row, row_inside, row_next}
use Rattle.jpg_color.specs.Encode.{CanSample, blocks_due, encoded_frame, encoded_parts, encoding_request, fault_due, image_of}
use Rattle.jpg_color.specs.EncodeBlocks.{plane_at}
use Rattle.jpg_color.specs.EncodedParts.{row_block, table_by}
use Rattle.jpg_color.specs.EncodeRows.{AddsEncoded, CanWriteRow, EncodesRows, HasEncoded, HasRows, IsRowScan, RowScan, all_units, scan_due, units_of_row, window_blocks}
use Rattle.jpg_color.specs.EncodeSampling.{AddsSamples, Completes, DropsRows, HasGiven, HasSampled}
use Rattle.jpg_color.specs.ImageEncoder.{AddsTaken}
use Rattle.jpg_color.specs.declared.encode.image_encoder.ImageEncoder.{ImageEncoder}
use Rattle.jpg_color.specs.declared.encode.image_encoder.ImageEncoder.TheVariants as encoder
use Rattle.jpg_color.specs.SamplerState.{row_length, strip_room}
use Rattle.jpg_color.specs.declared.encode.Encoding.{Encoding as Asked}
use Rattle.jpg_color.specs.declared.encode.row_encoder.RowEncoder.{RowEncoder}
use Rattle.jpg_color.specs.declared.encode.sampler.Sampler.{Sampler}
use Rattle.jpg_color.specs.declared.encode.strips.Planes.{Planes}
use Rattle.jpg_color.proofs.EncodeSources.{component_there, count_due}
use Rattle.jpg_color.proofs.EncodedViews.{any_default, right_table, row_due}
use Rattle.jpg_color.proofs.Sampling.{completes_first, counted, room_some, same_given, some_in_row}

-- BLOCKS OF A WINDOW

module _ (f : Frame) (p : Planes) (first others : QuantTable) (top i x y : ℕ) where
  window_by : (b : Bool) → (nat_le ((component_at f i).v * top) y && nat_lt (y - (component_at f i).v * top) (length (plane_at p i))) ≡ b
      → window_blocks f p first others top i x y ≡ cond b (row_block (table_by first others i) (slice_index_or (plane_at p i) (y - (component_at f i).v * top) []) x) (zeros 64)
  unfolding window_blocks
  window_by b e = ap (λ t. cond t (row_block (table_by first others i) (slice_index_or (plane_at p i) (y - (component_at f i).v * top) []) x) (zeros 64)) e

  pub window_before : y < (component_at f i).v * top → window_blocks f p first others top i x y ≡ zeros 64
  window_before h = window_by false (ap (λ b. b && nat_lt (y - (component_at f i).v * top) (length (plane_at p i))) (let e : nat_le ((component_at f i).v * top) y ≡ false = grind (arith, nat_tests, h) in e))

  pub window_after : (component_at f i).v * top ≤ y → length (plane_at p i) ≤ y - (component_at f i).v * top → window_blocks f p first others top i x y ≡ zeros 64
  window_after low h = window_by false (let e : nat_le ((component_at f i).v * top) y ≡ true = grind (arith, nat_tests, low) in
      let g : nat_lt (y - (component_at f i).v * top) (length (plane_at p i)) ≡ false = grind (arith, nat_tests, h) in
      ap (λ b. b && nat_lt (y - (component_at f i).v * top) (length (plane_at p i))) e ∙ g)

  pub window_there : (component_at f i).v * top ≤ y → y - (component_at f i).v * top < length (plane_at p i) → window_blocks f p first others top i x y ≡ row_block (table_by first others i) (slice_index_or (plane_at p i) (y - (component_at f i).v * top) []) x
  window_there low h = window_by true (let e : nat_le ((component_at f i).v * top) y ≡ true = grind (arith, nat_tests, low) in
      let g : nat_lt (y - (component_at f i).v * top) (length (plane_at p i)) ≡ true = grind (arith, nat_tests, h) in
      ap (λ b. b && nat_lt (y - (component_at f i).v * top) (length (plane_at p i))) e ∙ g)

module _ (f : Frame) (p : Planes) (first others : QuantTable) (top i x y : ℕ) (row : List (List ℕ)) (table : QuantTable) (block : List ℤ) where
  pub block_there : (component_at f i).v * top ≤ y → y - (component_at f i).v * top < length (plane_at p i) → row ≡ slice_index_or (plane_at p i) (y - (component_at f i).v * top) [] → table ≡ table_by first others i → block ≡ row_block table row x
      → block ≡ window_blocks f p first others top i x y
  block_there low there of by e = e ∙ ap (λ t. row_block t row x) by ∙ ap (λ r. row_block (table_by first others i) r x) of ∙ sym (window_there f p first others top i x y low there)

-- THE BLOCKS of each image with these numbers are in range.

pub range_due : (info : ImageInfo) (a : Asked) (samples : List ℕ) → CanSample info a → AreSamples samples → HasBlocksIn (encoded_frame info a) (blocks_due (image_of info samples) a)
range_due info a samples can bytes i x y real =
    let H = encoded_parts info a in
    let image = image_of info samples in
    let request = encoding_request a in
    let first = slice_index_or a.tables 0 [] in
    let others = slice_index_or a.tables 1 [] in
    let own = subst (λ n. i < n) (count_due request (image_of info [])) real.component in
    let table : table_by first others i ≡ (component_of H i).quants = sym (ap (λ (d : PictureComponent). d.quants) (component_there request (image_of info []) i own)) in
    let right = right_table first others i can.first can.others in
    let plane = component_plane H image i in
    subst (λ t. IsBlockIn (bounds_of 8) (quantised_block t (forward_dct (samples_of_block plane x y)))) table
    (coded_block_in (table_by first others i) (samples_of_block plane x y) right.0 right.1 (block_samples_low plane x y (λ u v. plane_low H image i u v bytes)))

-- MCU ROWS of the scan and of the frame

single_down : (h i : ℕ) (cs : List Component) → length cs ≡ 1 → (slice_index_or cs 0 no_component).v ≡ 1 → i < length cs
    → div_up (div_up (h * (slice_index_or cs i no_component).v) (greatest (map (λ c. c.v) cs))) 8 ≡ div_up h (8 * greatest (map (λ c. c.v) cs))
single_down h i [] one v there = absurd (omega (arith, one))
single_down h zero (c ∷ []) one v there = by c.v v
  where
    by : (n : ℕ) → n ≡ 1 → div_up (div_up (h * n) (max n 0)) 8 ≡ div_up h (8 * max n 0)
    by n e = ap (λ m. div_up (div_up (h * m) (max m 0)) 8) e ∙ ap (λ m. div_up m 8) (ap (λ m. m / 1) (let z : h * 1 + 1 - 1 ≡ h = omega arith in z) ∙ div-one h) ∙ sym (ap (λ m. div_up h (8 * max m 0)) e)
single_down h (suc i) (c ∷ []) one v there = absurd (omega (arith, there))
single_down h i (c ∷ d ∷ cs) one v there = absurd (omega (arith, one))

pub down_same : {f : Frame} {w : RowScan} → IsRowScan f w → scan_mcus_down f (head_components w.head) ≡ mcus_down f
down_same {f} {w} is = by (head_components w.head) is.all is.scan.components
  where
    by : (ids : List ℕ) → length ids ≡ length f.components → AreIn f ids → scan_mcus_down f ids ≡ mcus_down f
    by [] all are = (let s = are.some in absurd (omega (arith, s)))
    by (i ∷ []) all are = single_down f.height i f.components (omega (arith, all)) (is.single (omega (arith, all))) (are.there 0 i (omega arith))
    by (i ∷ j ∷ ids) all are = refl

rows_are : {f : Frame} {w : RowScan} (i : ℕ) → IsRowScan f w → i < length f.components → rows_in_mcu f i ≡ (component_at f i).v
rows_are {f} {w} i is there = by (length f.components == 1) refl
  where
    by : (b : Bool) → (length f.components == 1) ≡ b → cond b 1 (component_at f i).v ≡ (component_at f i).v
    by false e = refl
    by true e =
        let one : length f.components ≡ 1 = grind (arith, nat_tests, e) in
        let first : i ≡ 0 = omega (arith, one, there) in
        sym (ap (λ n. (component_at f n).v) first ∙ is.single one)

-- THE PLACES of an MCU row

abbrev tops_at : Frame → ℕ → List ℕ
tops_at f k = map (λ i. k * rows_in_mcu f i) (below (length f.components))

tops_are : (f : Frame) (k : ℕ) → BeginAt f (tops_at f k) k
tops_are f k i there =
    get_or-map (λ i. k * rows_in_mcu f i) (below (length f.components)) i 0 0 (subst (λ n. i < n) (sym (length_below (length f.components))) there)
    ∙ ap (λ i. k * rows_in_mcu f i) (at_below (length f.components) i there)

-- A row of MCUs that follows others of the scan: so many units are left, and these are their places.
pub record IsAtRow (f : Frame) (w : RowScan) (k : ℕ) (places : List Place) : Type 0 where
  pub frame : IsFrame f
  pub scan : IsRowScan f w
  pub row : k < mcus_down f
  pub next : places ≡ drop (k * row_units f (head_components w.head)) (units f (head_components w.head))

module _ {f : Frame} {w : RowScan} {k : ℕ} {places : List Place} (at : IsAtRow f w k places) where
  -- Where the blocks of a window are those of an image, they are at its places.
  pub agrees_by : (blocks others : Blocks) → ((i x y : ℕ) → IsReal f i x y → (component_at f i).v * k ≤ y → y < (component_at f i).v * k + (component_at f i).v → blocks i x y ≡ others i x y)
      → All (AgreeAt blocks others) (take (row_units f (head_components w.head)) places)
  agrees_by blocks others same = All-from_get_or (AgreeAt blocks others) (take m places) none each
    where
      ids : List ℕ
      ids = head_components w.head

      m : ℕ
      m = row_units f ids

      none : Place
      none = place f 0 0 0

      scan_place : All (IsScanPlace f w.head) (take m places)
      scan_place = All-take (IsScanPlace f w.head) m places (All-same (IsScanPlace f w.head) places _ at.next (All-drop (IsScanPlace f w.head) (k * m) (units f ids) (scan_places f w.head at.scan.scan.components)))

      in_row : All (IsInRow (mcu_row_frame f) (tops_at f k)) (take m places)
      in_row = row_next (IsInRow (mcu_row_frame f) (tops_at f k)) f ids places k m (at.next ∙ ap (λ n. drop n (units f ids)) (let z : k * m ≡ k * m + (m - m) = omega arith in z)) (let r = at.row in omega (arith, r, down_same at.scan)) (omega arith)
          (row_inside f ids (tops_at f k) k at.frame at.scan.scan.components at.scan.all (tops_are f k))

      each : (n : ℕ) → n < length (take m places) → AgreeAt blocks others (get_or (take m places) n none)
      each n low real =
          let p = get_or (take m places) n none in
          let is = is_real_place f w.head p (All-get_or (IsScanPlace f w.head) (take m places) n none low scan_place) real in
          let inside = All-get_or (IsInRow (mcu_row_frame f) (tops_at f k)) (take m places) n none low in_row in
          let v = (component_at f p.component).v in
          let top : top_of (tops_at f k) p.component ≡ v * k = tops_are f k p.component is.component ∙ ap (λ r. k * r) (rows_are p.component at.scan is.component) ∙ grind arith in
          let high : padded_down (mcu_row_frame f) (component_at f p.component) ≡ v = ap (λ r. r * v) (one_row f at.frame) ∙ omega arith in
          same p.component p.x p.y is (let b = inside.below in omega (arith, b, top)) (let d = inside.padded.down in let b = inside.below in omega (arith, d, b, top, high))

  -- At least one row of MCUs is left.
  pub row_left : (left : ℕ) → left + k * row_units f (head_components w.head) ≡ length (units f (head_components w.head)) → row_units f (head_components w.head) ≤ left
  row_left left e =
      let m = row_units f (head_components w.head) in
      let all : length (units f (head_components w.head)) ≡ mcus_down f * m = length_units f (head_components w.head) ∙ ap (λ n. n * m) (down_same at.scan) in
      let next : (k + 1) * m ≡ k * m + m = grind arith in
      let most = mul-le (k + 1) m (mcus_down f) m (let r = at.row in omega (arith, r)) (omega arith) in
      omega (arith, e, all, next, most)

-- THE WINDOW OF A SAMPLER has the blocks of all images that begin with the samples given.
pub window_due : (info : ImageInfo) (a : Asked) (p : Planes) (given pending samples : List ℕ) (dropped made left : ℕ) → HasGiven info a given pending p dropped made left → made ≡ dropped + 1 → Completes info given samples
    → (i x y : ℕ) → IsReal (encoded_frame info a) i x y → (component_at (encoded_frame info a) i).v * dropped ≤ y → y < (component_at (encoded_frame info a) i).v * dropped + (component_at (encoded_frame info a) i).v
    → blocks_due (image_of info samples) a i x y ≡ window_blocks (encoded_frame info a) p (slice_index_or a.tables 0 []) (slice_index_or a.tables 1 []) dropped i x y
window_due info a p given pending samples dropped made left has one of i x y real low high =
    let f = encoded_frame info a in
    let v = (component_at f i).v in
    let first = slice_index_or a.tables 0 [] in
    let others = slice_index_or a.tables 1 [] in
    let more : made - dropped ≡ 1 = omega (arith, one) in
    let rows : v * (made - dropped) ≡ v = ap (λ n. v * n) more ∙ omega arith in
    let long = (has.planes samples of i real.component).long in
    let at : v * dropped + (y - v * dropped) ≡ y = omega (arith, low) in
    sym (window_there f p first others dropped i x y low (omega (arith, long, rows, low, high))
    ∙ row_due info a p given pending samples dropped made left has of i x (y - v * dropped) real.component real.across (omega (arith, rows, low, high))
    ∙ ap (λ n. blocks_due (image_of info samples) a i x n) at)

-- AN IMAGE that begins with samples: with zeros after them
abbrev zeros_after : ℕ → List ℕ
zeros_after zero = []
zeros_after (suc n) = 0 ∷ zeros_after n

length_after : (n : ℕ) → length (zeros_after n) ≡ n
length_after zero = refl
length_after (suc n) = ap suc (length_after n)

zeros_are : (n : ℕ) → AreSamples (zeros_after n)
zeros_are zero = All-nil (λ s. s < 256)
zeros_are (suc n) = All-cons (λ s. s < 256) 0 (zeros_after n) (omega arith) (zeros_are n)

-- one, or none
cases_le : (n : ℕ) → (1 ≤ n) ⊎ (n < 1)
cases_le zero = inr (omega arith)
cases_le (suc n) = inl (omega arith)

-- ENCODERS

-- the frame of what is encoded
pub frame_is : {info : ImageInfo} {a : Asked} {given : List ℕ} (s : Sampler) → HasSampled info a given s → s.frame ≡ encoded_frame info a
frame_is {info} {a} s has = s.keeps.frame ∙ ap (λ (i : ImageInfo). encoded_frame i s.encoding) has.numbers ∙ ap (λ (b : Asked). encoded_frame info b) has.asked

pub can_is : {info : ImageInfo} {a : Asked} {given : List ℕ} (s : Sampler) → HasSampled info a given s → CanSample info a × (fault_due info a ≡ None)
can_is {info} {a} s has = (
  subst (λ (b : Asked). CanSample info b) has.asked (subst (λ (i : ImageInfo). CanSample i s.encoding) has.numbers s.keeps.can),
  ap (λ (b : Asked). fault_due info b) (sym has.asked) ∙ ap (λ (i : ImageInfo). fault_due i s.encoding) (sym has.numbers) ∙ s.keeps.none,
)

module _ {w : RowScan} {info : ImageInfo} {a : Asked} {given : List ℕ} (r : RowEncoder) where
  -- one image that begins with the samples
  one_image : HasRows w info a given r → (samples : List ℕ) × Completes info given samples × AreSamples samples
  one_image has =
      let left = (r.sampler).left in (
        given ++ zeros_after left,
        record { rest = zeros_after left; cut = refl; all = length-append given (zeros_after left) ∙ ap (λ n. length given + n) (length_after left) ∙ has.sampled.has.count },
        All-append (λ s. s < 256) given (zeros_after left) has.bytes (zeros_are left),
      )

  some_units : HasRows w info a given r → 1 ≤ r.units
  some_units has =
      let f = encoded_frame info a in
      let ids = head_components w.head in
      let is : IsFrame f = subst IsFrame (frame_is r.sampler has.sampled) (r.sampler).keeps.checked in
      let some = some_places f w.head is has.row_scan.scan.components in
      let all : length (units f ids) ≡ scan_mcus_down f ids * row_units f ids = length_units f ids in
      let u = has.units in
      ⊎_elim (λ (h : 1 ≤ row_units f ids). (let z : 1 ≤ r.units = omega (arith, h, u) in z))
      (λ (h : row_units f ids < 1). (let z : row_units f ids ≡ 0 = omega (arith, h) in
      let n : scan_mcus_down f ids * row_units f ids ≡ 0 = ap (λ m. scan_mcus_down f ids * m) z ∙ omega arith in absurd (omega (arith, some, all, n)))) (cases_le (row_units f ids))

  module _ (can : CanWriteRow w info a given r) where
    at_row : IsAtRow (encoded_frame info a) w (r.sampler).dropped ((r.scan).units).cursor
    at_row =
        let f = encoded_frame info a in
        let has = can.0 in
        let one = one_image has in
        let keeps = has.written.keeps one.0 one.1 one.2 in
        let left = has.written.left in
        let frame = frame_is r.sampler has.sampled in
        record {
          frame = subst IsFrame frame (r.sampler).keeps.checked;
          scan = has.row_scan;
          row = (let h : (r.sampler).made ≤ mcus_down f = subst (λ (g : Frame). (r.sampler).made ≤ mcus_down g) frame (r.sampler).keeps.high in omega (arith, h, can.1));
          next = keeps.places ∙ ap (λ n. drop n (units f (head_components w.head))) (let z : length (units f (head_components w.head)) - ((r.scan).units).left ≡ (r.sampler).dropped * row_units f (head_components w.head) = omega (arith, left) in z);
        }

    pub some_put : (1 ≤ r.units) × (r.units ≤ ((r.scan).units).left)
    some_put = (let has = can.0 in let u = has.units in (some_units has, (let most = row_left at_row ((r.scan).units).left has.written.left in omega (arith, most, u))))

    pub can_put : (samples : List ℕ) → Completes info given samples → AreSamples samples
        → CanKeep (scan_due w info a samples) (r.sampler).frame (window_blocks (r.sampler).frame (r.sampler).planes r.first r.others (r.sampler).dropped) r.units r.scan
    can_put samples of bytes =
        let has = can.0 in
        let f = encoded_frame info a in
        let s = r.sampler in
        let frame = frame_is s has.sampled in
        let blocks = blocks_due (image_of info samples) a in
        let here : All (AgreeAt blocks (window_blocks f s.planes (slice_index_or a.tables 0 []) (slice_index_or a.tables 1 []) s.dropped)) (take (row_units f (head_components w.head)) ((r.scan).units).cursor) =
        agrees_by at_row blocks _ (window_due info a s.planes given s.pending samples s.dropped s.made s.left has.sampled.has can.1 of) in
        record {
          keeps = has.written.keeps samples of bytes;
          frame = sym frame;
          same = subst (λ n. All (AgreeAt blocks (window_blocks s.frame s.planes r.first r.others s.dropped)) (take n ((r.scan).units).cursor)) (sym has.units)
              (subst (λ (g : Frame). All (AgreeAt blocks (window_blocks g s.planes r.first r.others s.dropped)) (take (row_units f (head_components w.head)) ((r.scan).units).cursor)) (sym frame)
              (subst (λ t. All (AgreeAt blocks (window_blocks f s.planes t r.others s.dropped)) (take (row_units f (head_components w.head)) ((r.scan).units).cursor)) (sym has.first)
              (subst (λ t. All (AgreeAt blocks (window_blocks f s.planes (slice_index_or a.tables 0 []) t s.dropped)) (take (row_units f (head_components w.head)) ((r.scan).units).cursor)) (sym has.others) here)));
        }

    pub one_put : (s : WrittenScan) × CanKeep s (r.sampler).frame (window_blocks (r.sampler).frame (r.sampler).planes r.first r.others (r.sampler).dropped) r.units r.scan
    one_put = (let one = one_image can.0 in (scan_due w info a one.0, can_put one.0 one.1 one.2))

-- the same window, by equal parts
pub same_keep : (s : WrittenScan) (r : RowEncoder) {f g : Frame} {p q : Planes} {n m : ℕ} → f ≡ g → p ≡ q → n ≡ m → CanKeep s g (window_blocks g q r.first r.others m) r.units r.scan → CanKeep s f (window_blocks f p r.first r.others n) r.units r.scan
same_keep s r {f} {g} {p} {q} {n} {m} a b c keep =
    subst (λ (h : Frame). CanKeep s h (window_blocks h p r.first r.others n) r.units r.scan) (sym a)
    (subst (λ (k : Planes). CanKeep s g (window_blocks g k r.first r.others n) r.units r.scan) (sym b)
    (subst (λ l. CanKeep s g (window_blocks g q r.first r.others l) r.units r.scan) (sym c) keep))

-- AFTER THE ROW

dropped_given : {info : ImageInfo} {a : Asked} {given pending : List ℕ} {p : Planes} {dropped made left : ℕ} (q : Planes) → HasGiven info a given pending p dropped made left → ((i : ℕ) → plane_at q i ≡ []) → HasGiven info a given pending q made made left
dropped_given {info} {a} {given} {pending} {p} {dropped} {made} {left} q has none = record {
  count = has.count;
  pending = has.pending;
  planes = λ samples of i there.
      (let v = (component_at (encoded_frame info a) i).v in
      let z : v * (made - made) ≡ 0 = ap (λ n. v * n) (let e : made - made ≡ 0 = omega arith in e) ∙ omega arith in
      record { long = ap length (none i) ∙ sym z; each = λ y h. absurd (omega (arith, h, z)) });
}

pub written_row : (w : RowScan) (info : ImageInfo) (a : Asked) (given : List ℕ) (old new : RowEncoder) → DropsRows old.sampler new.sampler → new.units ≡ old.units → new.first ≡ old.first → new.others ≡ old.others
    → ((s : WrittenScan) → CanKeep s (old.sampler).frame (window_blocks (old.sampler).frame (old.sampler).planes old.first old.others (old.sampler).dropped) old.units old.scan → KeepsScan s new.scan)
    → ((new.scan).units).left + old.units ≡ ((old.scan).units).left → CanWriteRow w info a given old → HasEncoded w info a given new
written_row w info a given old new drops units first others puts left can =
    let has = can.0 in
    let s = old.sampler in
    let t = new.sampler in
    let m = units_of_row w (encoded_frame info a) in
    let same : t.made ≡ t.dropped = drops.made ∙ sym drops.dropped in (
      record {
        sampled = record {
          numbers = drops.numbers ∙ has.sampled.numbers;
          asked = drops.asked ∙ has.sampled.asked;
          has = same_given (sym drops.pending) refl (sym drops.dropped) (sym drops.made) (sym drops.left) (dropped_given t.planes has.sampled.has drops.none);
        };
        bytes = has.bytes;
        row_scan = has.row_scan;
        units = units ∙ has.units;
        first = first ∙ has.first;
        others = others ∙ has.others;
        written = record {
          keeps = λ samples of bytes. puts (scan_due w info a samples) (can_put old can samples of bytes);
          left = (let before = has.written.left in
              let u = has.units in
              let next : t.dropped * m ≡ s.dropped * m + m = ap (λ n. n * m) (drops.dropped ∙ can.1) ∙ grind arith in
              omega (arith, before, u, left, next));
        };
      },
      same,
    )

-- AFTER MORE SAMPLES

pub bytes_all : (xs : List ℕ) → ((i : ℕ) → slice_index_or xs i 0 < 256) → AreSamples xs
bytes_all xs low = λ k d h. subst (λ s. s < 256) (any_default xs k 0 d h) (low k)

pub has_more : (w : RowScan) (info : ImageInfo) (a : Asked) (given more : List ℕ) (old new : RowEncoder) → AddsSamples old.sampler more new.sampler → AreSamples more → (new.sampler).dropped ≡ (old.sampler).dropped → new.scan ≡ old.scan → new.units ≡ old.units
    → new.first ≡ old.first → new.others ≡ old.others → HasRows w info a given old → HasRows w info a (given ++ more) new
has_more w info a given more old new adds bytes dropped scan units first others has = record {
  sampled = adds info a given has.sampled;
  bytes = All-append (λ s. s < 256) given more has.bytes bytes;
  row_scan = has.row_scan;
  units = units ∙ has.units;
  first = first ∙ has.first;
  others = others ∙ has.others;
  written = record {
    keeps = λ samples of all. subst (KeepsScan (scan_due w info a samples)) (sym scan) (has.written.keeps samples (completes_first more of) all);
    left = ap (λ (k : KeptScan). (k.units).left + (new.sampler).dropped * units_of_row w (encoded_frame info a)) scan
        ∙ ap (λ n. ((old.scan).units).left + n * units_of_row w (encoded_frame info a)) dropped ∙ has.written.left;
  };
}

-- AT THE END

pub ended : (w : RowScan) (info : ImageInfo) (a : Asked) (given : List ℕ) (r : RowEncoder) → (r.sampler).left ≡ 0 → HasEncoded w info a given r → KeepsScan (scan_due w info a given) r.scan
ended w info a given r none has =
    has.0.written.keeps given (let c = has.0.sampled.has.count in record { rest = []; cut = append-nil given; all = omega (arith, c, none) }) has.0.bytes

-- NOTHING was given

pub begins_rows : (info : ImageInfo) (a : Asked) (w : RowScan) (r : RowEncoder) (g : Frame) → g ≡ (r.sampler).frame → HasSampled info a [] r.sampler → IsRowScan (r.sampler).frame w → r.units ≡ units_of_row w g
    → r.first ≡ slice_index_or ((r.sampler).encoding).tables 0 [] → r.others ≡ slice_index_or ((r.sampler).encoding).tables 1 []
    → ((blocks : Blocks) → HasBlocksIn g blocks → KeepsScan (kept_scan g w.head w.set w.interval blocks) r.scan) → ((r.scan).units).left ≡ all_units w g → HasEncoded w info a [] r
begins_rows info a w r g same has is count first others keeps left =
    let s = r.sampler in
    let f = encoded_frame info a in
    let own = frame_is s has in
    let frame : g ≡ f = same ∙ own in
    let can = can_is s has in
    let room = room_some s.info s.frame s.keeps.checked s.keeps.can.wide in
    let some : 1 ≤ s.left = (let c = has.has.count in let z : sample_count info ≡ info.height * row_length info = counted info in
    let p = mul-le 1 1 info.height (row_length info) can.0.high (some_in_row info can.0.wide) in omega (arith, c, z, p)) in
    let nothing : s.made ≡ 0 =
    (let c = s.keeps.count some in
    let t : s.info.height * row_length s.info ≡ sample_count info = ap (λ (i : ImageInfo). i.height * row_length i) has.numbers ∙ sym (counted info) in
    let k = has.has.count in
    let z : s.made * strip_room s.info s.frame ≡ 0 = omega (arith, c, t, k) in
    ⊎_elim (λ (h : 1 ≤ s.made). (let p = mul-le 1 1 s.made (strip_room s.info s.frame) h room in absurd (omega (arith, p, z)))) (λ (h : s.made < 1). (let e : s.made ≡ 0 = omega (arith, h) in e)) (cases_le s.made)) in
    let none : s.dropped ≡ 0 = (let l = s.keeps.low in omega (arith, l, nothing)) in (
      record {
        sampled = has;
        bytes = All-nil (λ s. s < 256);
        row_scan = subst (λ (h : Frame). IsRowScan h w) own is;
        units = count ∙ ap (units_of_row w) frame;
        first = first ∙ ap (λ (b : Asked). slice_index_or b.tables 0 []) has.asked;
        others = others ∙ ap (λ (b : Asked). slice_index_or b.tables 1 []) has.asked;
        written = record {
          keeps = λ samples of bytes. subst (λ (h : Frame). KeepsScan (kept_scan h w.head w.set w.interval (blocks_due (image_of info samples) a)) r.scan) frame
              (keeps (blocks_due (image_of info samples) a) (subst (λ (h : Frame). HasBlocksIn h (blocks_due (image_of info samples) a)) (sym frame) (range_due info a samples can.0 bytes)));
          left = (let z : s.dropped * units_of_row w f ≡ 0 = ap (λ n. n * units_of_row w f) none ∙ omega arith in
              let l : ((r.scan).units).left ≡ all_units w f = left ∙ ap (all_units w) frame in omega (arith, z, l));
        };
      },
      nothing ∙ sym none,
    )

pub encoded_then : (old mid new : RowEncoder) (xs ys : List ℕ) → AddsEncoded old xs mid → AddsEncoded mid ys new → AddsEncoded old (xs ++ ys) new
encoded_then old mid new xs ys one other w info a given has = subst (λ (l : List ℕ). HasEncoded w info a l new) (append_assoc given xs ys) (other w info a (given ++ xs) (one w info a given has))

pub encodes : (r : RowEncoder) (result : Result (List ℕ) NoMemory) → (r.sampler).left ≡ 0 → IfOk result (λ made. (s : WrittenScan) → KeepsScan s r.scan → made ≡ written_data s.frame s.head s.set s.interval s.blocks) → IfOk result (EncodesRows r)
encodes r (Ok made) none e = λ w info a given has. e (scan_due w info a given) (ended w info a given r none has)
encodes r (Err x) none e = e

-- an encoder of either kind
rows_take : (old new : RowEncoder) (samples : List ℕ) → AddsEncoded old samples new → AddsTaken (encoder.Rows old) samples (encoder.Rows new)
rows_take old new samples adds None info a given has = absurd has
rows_take old new samples adds (Some w) info a given has = adds w info a given has

pub rows_fed : (self : ImageEncoder) (old new : RowEncoder) (samples : List ℕ) (r : Result (Unit {0}) NoMemory) → self ≡ encoder.Rows old → OnOk r (AddsEncoded old samples new) → OnOk r (AddsTaken self samples (encoder.Rows new))
rows_fed self old new samples (Ok u) same adds = subst (λ (e : ImageEncoder). AddsTaken e samples (encoder.Rows new)) (sym same) (rows_take old new samples adds)
rows_fed self old new samples (Err x) same adds = adds
