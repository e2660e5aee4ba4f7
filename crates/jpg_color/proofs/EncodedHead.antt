-- The head of the picture of an image: its frame, the fault that forbids it, its colours and its density.
use Rattle.std.proofs.Common.{◌≡◌, ℕ, ◌/◌, ◌%◌, ◌≤◌, ◌<◌, Bool, true, false, cond, ◌&&◌, ◌||◌, ◌==◌, List, [], ◌∷◌, length, map, slice_index_or, refl, sym, ap, ◌∙◌, arith, Some, None}
use Rattle.std.specs.Prelude.{nat_lt, find, option_map}
use Rattle.std.specs.List.{All}
use Rattle.std.proofs.Math.Path.{fun_ext}
use Rattle.std.proofs.Math.ListN.{get_or-map}
use Rattle.std.proofs.lemmas.List.{length-map}
use Rattle.std.proofs.lemmas.List.Elements.{All-nil, All-cons, All-get_or}
use Rattle.jpg_spec.specs.Lists.{below, any_of}
use Rattle.jpg_spec_write.specs.declared.huffman.Huffman.TheVariants.{Plain}
use Rattle.jpg_spec_write.specs.FileText.{off}
use Rattle.jpg_spec.specs.FrameHeader.{IsFrame, HasFactors}
use Rattle.jpg_spec.specs.Geometry.{Frame, greatest, h_max, v_max, component_at, padded_blocks}
use Rattle.jpg_spec_image.specs.Images.{Image}
use Rattle.jpg_spec.specs.InForce.{first_some}
use Rattle.jpg_spec.specs.Jfif.{jfif_of}
use Rattle.jpg_spec.specs.Meaning.{Meaning, PictureComponent, colour_of, picture_frame, real_blocks}
use Rattle.jpg_spec_write.specs.ScansAsked.{sequential, asks_progressive, process_due}
use Rattle.jpg_spec.specs.Meaning.{component_of, most_across, most_down}
use Rattle.jpg_spec_write.specs.Headed.{is_wide, jfif_contents}
use Rattle.jpg_spec_image.specs.Pixels.{is_fractional}
use Rattle.jpg_spec.specs.Segments.{QuantTable, two_bytes}
use Rattle.jpg_spec_encode.specs.Encoded.{Encoding, any_process, component_due, components_due, density_of, encoded, encoded_block, encoded_head, factors_fault, grids_fault, has_fraction, is_density, is_gray, sampling_fault}
use Rattle.jpg_spec_encode.specs.EncodingLaws.{AreFactors, IsEncodable}
use Rattle.jpg_spec.specs.declared.frame.Colour.TheVariants.{Gray, YCbCr}
use Rattle.jpg_spec.specs.declared.frame.Component.{Component}
use Rattle.jpg_spec.specs.declared.frame.Process.{Process}
use Rattle.jpg_spec.specs.declared.frame.Process.TheVariants.{Baseline, Extended}
use Rattle.jpg_spec_image.specs.declared.image.ImageInfo.{ImageInfo}
use Rattle.jpg_spec.specs.declared.jfif.Jfif.{Jfif}
use Rattle.jpg_spec_write.specs.declared.picture_fault.PictureFault.TheVariants.{FractionalFactors, TooManyBlocks}
use Rattle.jpg_color.specs.EncodeHead.{fraction_at}
use Rattle.jpg_spec.proofs.Basics.Common.{both, lt_of, lt_yes, lt_no}
use Rattle.jpg_spec.proofs.Basics.Rows.{map_map}
use Rattle.jpg_spec_encode.proofs.EncodedWritten.{eight_bits}

-- ENCODINGS WITH THE SAME RESULT: of the scans only the kind counts

abbrev head_by : Image → Bool → Bool → List (ℕ × ℕ) → QuantTable → QuantTable → Meaning
head_by image progressive gray factors first others =
    let e : Encoding = record { gray = gray; scans = sequential; huffman = Plain; restart = off; factors = factors; first = first; others = others } in
    record (any_process e image) { process = process_due progressive (any_process e image) }

same_head : (d e : Encoding) (image : Image) → asks_progressive d.scans ≡ asks_progressive e.scans → d.gray ≡ e.gray → d.factors ≡ e.factors → d.first ≡ e.first → d.others ≡ e.others
    → encoded_head d image ≡ encoded_head e image
same_head d e image s g f a b =
    ap (λ p. head_by image p d.gray d.factors d.first d.others) s ∙ ap (λ p. head_by image (asks_progressive e.scans) p d.factors d.first d.others) g
    ∙ ap (λ (p : List (ℕ × ℕ)). head_by image (asks_progressive e.scans) e.gray p d.first d.others) f
    ∙ ap (λ (p : QuantTable). head_by image (asks_progressive e.scans) e.gray e.factors p d.others) a
    ∙ ap (λ (p : QuantTable). head_by image (asks_progressive e.scans) e.gray e.factors e.first p) b

abbrev with_blocks : Image → Meaning → Meaning
with_blocks image H = record H { blocks = real_blocks (picture_frame H) (encoded_block H image) }

pub same_encoded : (d e : Encoding) (image : Image) → asks_progressive d.scans ≡ asks_progressive e.scans → d.gray ≡ e.gray → d.factors ≡ e.factors → d.first ≡ e.first → d.others ≡ e.others
    → (encoded d image ≡ encoded e image) × (sampling_fault d image ≡ sampling_fault e image)
same_encoded d e image s g f a b =
    let h = same_head d e image s g f a b in
    (ap (with_blocks image) h, ap (λ (H : Meaning). first_some (factors_fault H) (grids_fault H)) h)

-- THE FRAME

abbrev to_frame : PictureComponent → Component
to_frame c = record { id = c.id; h = c.h; v = c.v; quant = 0 }

pub frame_component : (H : Meaning) (i : ℕ) → component_at (picture_frame H) i ≡ to_frame (component_of H i)
frame_component H i = get_or-map to_frame H.components i (record { id = 0; h = 1; v = 1; quants = [] })

pub frame_across : (H : Meaning) → h_max (picture_frame H) ≡ most_across H
frame_across H = ap greatest (map_map (λ (c : Component). c.h) to_frame H.components)

pub frame_down : (H : Meaning) → v_max (picture_frame H) ≡ most_down H
frame_down H = ap greatest (map_map (λ (c : Component). c.v) to_frame H.components)

factors_at : (factors : List (ℕ × ℕ)) (i : ℕ) → All AreFactors factors → i < length factors → AreFactors (slice_index_or factors i (1, 1))
factors_at factors i all h = All-get_or AreFactors factors i (1, 1) h all

has_factors : (e : Encoding) (i : ℕ) → All AreFactors e.factors → i < length e.factors → HasFactors (to_frame (component_due e i))
has_factors e i all h = (let f = factors_at e.factors i all h in record { h_low = f.h_low; h_high = f.h_high; v_low = f.v_low; v_high = f.v_high })

abbrev frame_by : Encoding → Process → ℕ → ℕ → Bool → Frame
frame_by e process width height b = record {
  process = process;
  precision = 8;
  width = width;
  height = height;
  components = map to_frame (map (component_due e) (below (cond b 1 3)));
}

abbrev HasSlot : Component → Type 0
HasSlot c = c.quant ≤ 3

has_slot : (e : Encoding) (i : ℕ) → HasSlot (to_frame (component_due e i))
has_slot e i = omega arith

all_three : (P : Component → Type 0) (a b c : Component) → P a → P b → P c → All P (a ∷ b ∷ c ∷ [])
all_three P a b c pa pb pc = All-cons P a (b ∷ c ∷ []) pa (All-cons P b (c ∷ []) pb (All-cons P c [] pc (All-nil P)))

is_frame_by : (e : Encoding) (process : Process) (width height : ℕ) (b : Bool) → 1 ≤ width → width ≤ 65500 → 1 ≤ height → height ≤ 65500 → All AreFactors e.factors → length e.factors ≡ cond b 1 3
    → padded_blocks (frame_by e process width height b) ≤ 8388608 → IsFrame (frame_by e process width height b)
is_frame_by e process width height true wl wh hl hh all n few = record {
  width_low = wl;
  width_high = wh;
  height_low = hl;
  height_high = hh;
  precision = eight_bits process;
  count_low = omega arith;
  count_high = omega arith;
  factors = All-cons HasFactors _ [] (has_factors e 0 all (omega (arith, n))) (All-nil HasFactors);
  distinct = refl;
  slots = All-cons HasSlot _ [] (has_slot e 0) (All-nil HasSlot);
  blocks = few;
}
is_frame_by e process width height false wl wh hl hh all n few = record {
  width_low = wl;
  width_high = wh;
  height_low = hl;
  height_high = hh;
  precision = eight_bits process;
  count_low = omega arith;
  count_high = omega arith;
  factors = all_three HasFactors (at 0) (at 1) (at 2) (has_factors e 0 all (omega (arith, n))) (has_factors e 1 all (omega (arith, n))) (has_factors e 2 all (omega (arith, n)));
  distinct = refl;
  slots = all_three HasSlot (at 0) (at 1) (at 2) (has_slot e 0) (has_slot e 1) (has_slot e 2);
  blocks = few;
}
  where
    at : ℕ → Component
    at i = to_frame (component_due e i)

pub is_frame : (e : Encoding) (image : Image) → IsEncodable e image → length e.factors ≡ components_due e image → padded_blocks (picture_frame (encoded_head e image)) ≤ 8388608
    → IsFrame (picture_frame (encoded_head e image))
is_frame e image can pairs few =
    is_frame_by e (encoded_head e image).process image.info.width image.info.height (e.gray || is_gray image.info.kind) can.width_low can.width_high can.height_low can.height_high can.factors pairs few

-- THE FAULT

fraction_same : (H : Meaning) (i : ℕ) → fraction_at (picture_frame H).components i ≡ has_fraction H i
fraction_same H i =
    ap (λ m. is_fractional m (v_max (picture_frame H)) ((component_at (picture_frame H) i).h, (component_at (picture_frame H) i).v)) (frame_across H)
    ∙ ap (λ m. is_fractional (most_across H) m ((component_at (picture_frame H) i).h, (component_at (picture_frame H) i).v)) (frame_down H)
    ∙ ap (λ (c : Component). is_fractional (most_across H) (most_down H) (c.h, c.v)) (frame_component H i)

pub fractions_same : (H : Meaning) → find (fraction_at (picture_frame H).components) (below (length (picture_frame H).components)) ≡ find (has_fraction H) (below (length H.components))
fractions_same H =
    ap (λ test. find test (below (length (picture_frame H).components))) (fun_ext (fraction_same H)) ∙ ap (λ n. find (has_fraction H) (below n)) (length-map H.components to_frame)

pub fault_of_grids : (H : Meaning) → find (has_fraction H) (below (length H.components)) ≡ None → first_some (factors_fault H) (grids_fault H) ≡ grids_fault H
fault_of_grids H e = ap (λ o. first_some (option_map (λ i. FractionalFactors i) o) (grids_fault H)) e

pub few_grids : (H : Meaning) → padded_blocks (picture_frame H) ≤ 8388608 → grids_fault H ≡ None
few_grids H few = ap (λ b. cond b (Some TooManyBlocks) None) (lt_no 8388608 (padded_blocks (picture_frame H)) few)

pub many_grids : (H : Meaning) → 8388608 < padded_blocks (picture_frame H) → grids_fault H ≡ Some TooManyBlocks
many_grids H many = ap (λ b. cond b (Some TooManyBlocks) None) (lt_yes 8388608 (padded_blocks (picture_frame H)) many)

-- THE PROCESS: whether a table that is used has 16 bits

any_wide : (first others : Bool) (b : Bool) → cond (first || (nat_lt 1 (cond b 1 3) && others)) Extended Baseline ≡ cond (cond b (first || false) (first || (others || (others || false)))) Extended Baseline
any_wide true others true = refl
any_wide false others true = refl
any_wide true others false = refl
any_wide false true false = refl
any_wide false false false = refl

wide_by : (e : Encoding) (b : Bool) → any_of (λ c. is_wide c.quants) (map (component_due e) (below (cond b 1 3))) ≡ cond b (is_wide e.first || false) (is_wide e.first || (is_wide e.others || (is_wide e.others || false)))
wide_by e true = refl
wide_by e false = refl

pub sequential_is : (e : Encoding) (image : Image) (n : ℕ) → n ≡ components_due e image
    → cond (is_wide e.first || (nat_lt 1 n && is_wide e.others)) Extended Baseline ≡ process_due false (any_process e image)
sequential_is e image n e1 =
    let b : Bool = e.gray || is_gray image.info.kind in
    ap (λ m. cond (is_wide e.first || (nat_lt 1 m && is_wide e.others)) Extended Baseline) e1 ∙ any_wide (is_wide e.first) (is_wide e.others) b
    ∙ ap (λ t. cond t Extended Baseline) (sym (wide_by e b))

-- COLOURS AND DENSITY

abbrev pub header : ImageInfo → List (ℕ × List ℕ)
header info = (0xe0, jfif_contents (density_of info)) ∷ []

density_low : (n : ℕ) (b : Bool) → (b ≡ true → is_density n ≡ true) → cond b n 1 < 65536
density_low n true h = lt_of n 65536 (both _ _ (h refl)).1
density_low n false h = omega arith

again : (n : ℕ) → n < 65536 → two_bytes (n / 256 % 256) (n % 256) ≡ n
again n h = omega (arith, h)

same_density : (j : Jfif) (x y : ℕ) → j.x ≡ x → j.y ≡ y → record j { x = x; y = y } ≡ j
same_density j x y a b = ap (λ n. record j { x = n; y = y }) (sym a) ∙ ap (λ n. record j { y = n }) (sym b)

pub density_again : (info : ImageInfo) → jfif_of (header info) ≡ density_of info
density_again info =
    let j = density_of info in
    let told : Bool = is_density (info.x_metre / 100) && is_density (info.y_metre / 100) in
    same_density j (two_bytes (j.x / 256 % 256) (j.x % 256)) (two_bytes (j.y / 256 % 256) (j.y % 256))
    (sym (again j.x (density_low (info.x_metre / 100) told (λ e. (both _ _ e).0)))) (sym (again j.y (density_low (info.y_metre / 100) told (λ e. (both _ _ e).1))))

same_parts : (M : Meaning) (cs : List PictureComponent) (kept : List (ℕ × List ℕ)) → M.components ≡ cs → M.kept ≡ kept → M ≡ record M { components = cs; kept = kept }
same_parts M cs kept a b = ap (λ (x : List PictureComponent). record M { components = x }) a ∙ ap (λ (x : List (ℕ × List ℕ)). record M { components = cs; kept = x }) b

colour_by : (e : Encoding) (info : ImageInfo) (b : Bool) (M : Meaning) → M.components ≡ map (component_due e) (below (cond b 1 3)) → M.kept ≡ header info → cond (cond b 1 3 == 1) Gray YCbCr ≡ colour_of M
colour_by e info true M c k = sym (ap colour_of (same_parts M _ _ c k))
colour_by e info false M c k = sym (ap colour_of (same_parts M _ _ c k))

pub colour_is : (e : Encoding) (image : Image) (n : ℕ) → n ≡ components_due e image → cond (n == 1) Gray YCbCr ≡ colour_of (encoded e image)
colour_is e image n e1 =
    ap (λ m. cond (m == 1) Gray YCbCr) e1 ∙ colour_by e image.info (e.gray || is_gray image.info.kind) (encoded e image) refl refl
