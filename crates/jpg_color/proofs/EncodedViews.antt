-- The blocks of an encoded image, and what it means.
use Rattle.std.proofs.Common.{◌≡◌, ℕ, zero, suc, ◌+◌, ◌-◌, ◌*◌, ◌==◌, ◌<◌, Bool, true, false, cond, List, [], ◌∷◌, length, refl, sym, ap, ◌∙◌, subst, arith, slice_index_or, ℤ}
use Rattle.std.proofs.Math.Path.{fun_ext}
use Rattle.std.proofs.lemmas.List.{append-nil}
use Rattle.jpg_spec.specs.Elements.{IsBlockIn}
use Rattle.jpg_spec.specs.FrameHeader.{IsFrame}
use Rattle.jpg_spec.specs.Geometry.{Frame, IsReal, blocks_across, bounds_of, component_at, mcus_down, v_max}
use Rattle.jpg_spec.specs.Meaning.{PictureComponent, component_of}
use Rattle.jpg_spec.specs.Scan.{Blocks}
use Rattle.jpg_spec.specs.Segments.{AreQuantisers, QuantTable}
use Rattle.jpg_spec.proofs.Writing.MovedFrames.{down_low}
use Rattle.jpg_spec.proofs.Places.PlacesFound.{real_in_padded}
use Rattle.jpg_spec_encode.specs.Encoded.{component_plane, samples_of_block}
use Rattle.jpg_spec_image.proofs.CodedBlocks.{coded_block_in}
use Rattle.jpg_spec_image.specs.ForwardDct.{forward_dct, quantised_block}
use Rattle.jpg_spec_image.specs.Images.{Image}
use Rattle.jpg_spec_image.specs.declared.image.ImageInfo.{ImageInfo}
use Rattle.jpg_spec_write.specs.WrittenFile.{HasBlocksIn}
use Rattle.jpg_color.specs.Encode.{blocks_due, encoded_frame, encoded_parts, encoding_request, image_of}
use Rattle.jpg_color.specs.EncodeBlocks.{HasPlanes, lower_plane, plane_at}
use Rattle.jpg_color.specs.EncodedParts.{HasAllRows, blocks_of, row_block, table_by}
use Rattle.jpg_color.specs.EncodeSampling.{Completes, HasGiven, HasSampled}
use Rattle.jpg_color.specs.EncodeView.{IsEncodedView, view_blocks, view_parts}
use Rattle.jpg_color.specs.declared.encode.Encoding.{Encoding as Asked}
use Rattle.jpg_color.specs.declared.encode.sampler.Sampler.{Sampler}
use Rattle.jpg_color.specs.declared.encode.strips.Planes.{Planes}
use Rattle.jpg_color.specs.declared.encode.view.EncodedImage.{EncodedImage}
use Rattle.jpg_color.proofs.EncodeSources.{component_there, count_due, plane_due}
use Rattle.jpg_color.proofs.EncodedBlocks.{real_alike}
use Rattle.jpg_color.proofs.EncodedPictures.{IsPutTogether, faults_all, means_all, means_due}

-- A BLOCK

pub any_default : {A : Type 0} (xs : List A) (k : ℕ) (d e : A) → k < length xs → slice_index_or xs k d ≡ slice_index_or xs k e
any_default [] k d e h = absurd (omega (arith, h))
any_default (x ∷ xs) zero d e h = refl
any_default (x ∷ xs) (suc k) d e h = any_default xs k d e (omega (arith, h))

pub block_is : (p : Planes) (first others : QuantTable) (i x y : ℕ) (row : List (List ℕ)) (table : QuantTable) (block : List ℤ) → row ≡ slice_index_or (plane_at p i) y [] → table ≡ table_by first others i
    → block ≡ row_block table row x → block ≡ blocks_of p first others i x y
unfolding blocks_of
block_is p first others i x y row table block of by e =
    e ∙ ap (λ t. row_block t row x) by ∙ ap (λ r. row_block (table_by first others i) r x) of

-- THE ROWS of all blocks

pub all_rows : {f : Frame} {dropped made : ℕ} {p : Planes} → IsFrame f → dropped ≡ 0 → made ≡ mcus_down f → HasPlanes f (made - dropped) p → HasAllRows f p
all_rows {f} {dropped} {made} {p} is none e has i there =
    let c = component_at f i in
    let real = real_in_padded f.height c.v (v_max f) (down_low f.components is.factors is.count_low) in
    let enough = has.enough i there in
    let turned : c.v * (made - dropped) ≡ mcus_down f * c.v = ap (λ n. c.v * n) ((let z : made - dropped ≡ made = omega (arith, none) in z) ∙ e) ∙ grind arith in
    (omega (arith, real, enough, turned), has.rows i there)

-- THE BOUNDS

pub right_table : (first others : QuantTable) (i : ℕ) → AreQuantisers first → AreQuantisers others → AreQuantisers (table_by first others i)
right_table first others i a b = by (i == 0)
  where
    by : (t : Bool) → AreQuantisers (cond t first others)
    by true = a
    by false = b

pub blocks_in : (f : Frame) (p : Planes) (first others : QuantTable) → f.precision ≡ 8 → AreQuantisers first → AreQuantisers others → HasAllRows f p → HasBlocksIn f (blocks_of p first others)
unfolding blocks_of
blocks_in f p first others eight a b has i x y real =
    let table = table_by first others i in
    let right = right_table first others i a b in
    let row = slice_index_or (plane_at p i) y [] in
    let rows = has i real.component in
    let whole = rows.1 y (omega (arith, rows.0, real.down)) in
    let samples = slice_index_or row x [] in
    subst (λ n. IsBlockIn (bounds_of n) (quantised_block table (forward_dct samples))) (sym eight)
    (coded_block_in table samples right.0 right.1 (whole.bytes x (omega (arith, whole.long, real.across))))

-- WHAT IT MEANS

-- The blocks of the rows of MCUs that are there are those of each image that begins with the samples: row y of the planes
-- is that of row v * dropped + y of the image.
pub row_due : (info : ImageInfo) (a : Asked) (p : Planes) (given pending samples : List ℕ) (dropped made left : ℕ) → HasGiven info a given pending p dropped made left → Completes info given samples
    → (i x y : ℕ) → i < length (encoded_frame info a).components → x < blocks_across (encoded_frame info a) (component_at (encoded_frame info a) i) → y < (component_at (encoded_frame info a) i).v * (made - dropped)
    → row_block (table_by (slice_index_or a.tables 0 []) (slice_index_or a.tables 1 []) i) (slice_index_or (plane_at p i) y []) x ≡ blocks_due (image_of info samples) a i x ((component_at (encoded_frame info a) i).v * dropped + y)
row_due info a p given pending samples dropped made left has of i x y there across down =
    let f = encoded_frame info a in
    let c = component_at f i in
    let image = image_of info samples in
    let H = encoded_parts info a in
    let request = encoding_request a in
    let own = subst (λ n. i < n) (count_due request (image_of info [])) there in
    let table : table_by (slice_index_or a.tables 0 []) (slice_index_or a.tables 1 []) i ≡ (component_of H i).quants = sym (ap (λ (d : PictureComponent). d.quants) (component_there request (image_of info []) i own)) in
    let rows = has.planes samples of i there in
    let planes : lower_plane f image i ≡ component_plane H image i = fun_ext (λ u. fun_ext (λ v. plane_due H image i refl refl u v)) in
    ap (λ t. quantised_block t (forward_dct (slice_index_or (slice_index_or (plane_at p i) y []) x []))) table
    ∙ ap (λ s. quantised_block (component_of H i).quants (forward_dct s)) (rows.each y down x across ∙ ap (λ (q : ℕ → ℕ → ℕ). samples_of_block q x (c.v * dropped + y)) planes)

-- all blocks are, where no row of MCUs was dropped
due_block : (info : ImageInfo) (a : Asked) (p : Planes) (given pending : List ℕ) (dropped made : ℕ) → IsFrame (encoded_frame info a) → dropped ≡ 0 → made ≡ mcus_down (encoded_frame info a) → HasGiven info a given pending p dropped made 0
    → (i x y : ℕ) → IsReal (encoded_frame info a) i x y → blocks_of p (slice_index_or a.tables 0 []) (slice_index_or a.tables 1 []) i x y ≡ blocks_due (image_of info given) a i x y
unfolding blocks_of
due_block info a p given pending dropped made is none e has i x y real =
    let f = encoded_frame info a in
    let c = component_at f i in
    let count = has.count in
    let high = real_in_padded f.height c.v (v_max f) (down_low f.components is.factors is.count_low) in
    let turned : c.v * (made - dropped) ≡ mcus_down f * c.v = ap (λ n. c.v * n) ((let z : made - dropped ≡ made = omega (arith, none) in z) ∙ e) ∙ grind arith in
    let first : c.v * dropped + y ≡ y = (let z : c.v * dropped ≡ c.v * 0 = ap (λ n. c.v * n) none in let w : c.v * 0 ≡ 0 = omega arith in omega (arith, z, w)) in
    row_due info a p given pending given dropped made 0 has (record { rest = []; cut = append-nil given; all = omega (arith, count) }) i x y real.component real.across (omega (arith, high, turned, real.down))
    ∙ ap (λ n. blocks_due (image_of info given) a i x n) first

-- what was assembled of the parts of a sampler that was given all samples
pub view_due : (v : EncodedImage) (info : ImageInfo) (a : Asked) (given pending : List ℕ) (dropped made : ℕ) → IsPutTogether info a (view_parts v) → dropped ≡ 0 → made ≡ mcus_down v.frame
    → v.first ≡ slice_index_or a.tables 0 [] → v.others ≡ slice_index_or a.tables 1 [] → HasGiven info a given pending v.planes dropped made 0 → IsEncodedView (image_of info given) a v
view_due v info a given pending dropped made is none rows first others has = record {
  means = λ e asks. means_due info a (view_parts v) is ∙ ap (λ (b : Blocks). record (encoded_parts info a) { blocks = b }) (real_alike due (view_blocks v) (blocks_due image a) same) ∙ sym (means_all image a e asks);
  faultless = λ e asks. faults_all image a e asks ∙ is.none;
  kept = is.kept;
  jfif = is.jfif;
}
  where
    due : Frame
    due = encoded_frame info a

    image : Image
    image = image_of info given

    same : (i x y : ℕ) → IsReal (encoded_frame info a) i x y → view_blocks v i x y ≡ blocks_due (image_of info given) a i x y
    same i x y real =
        ap (λ t. blocks_of v.planes t v.others i x y) first
        ∙ ap (λ t. blocks_of v.planes (slice_index_or a.tables 0 []) t i x y) others
        ∙ due_block info a v.planes given pending dropped made (subst IsFrame is.frame is.checked) none (rows ∙ ap mcus_down is.frame) has i x y real

pub finished : (s : Sampler) (v : EncodedImage) → IsPutTogether s.info s.encoding (view_parts v) → v.planes ≡ s.planes → s.dropped ≡ 0 → s.made ≡ mcus_down v.frame → s.left ≡ 0 → v.first ≡ slice_index_or s.encoding.tables 0 [] → v.others ≡ slice_index_or s.encoding.tables 1 []
    → (info : ImageInfo) (a : Asked) (given : List ℕ) → HasSampled info a given s → IsEncodedView (image_of info given) a v
finished s v is planes kept made none first others info a given has =
    let all : HasGiven info a given s.pending v.planes s.dropped s.made 0 =
    subst (λ (p : Planes). HasGiven info a given s.pending p s.dropped s.made 0) (sym planes) (subst (λ n. HasGiven info a given s.pending s.planes s.dropped s.made n) none has.has) in
    let own = subst (λ (b : Asked). HasGiven s.info b given s.pending v.planes s.dropped s.made 0) (sym has.asked) (subst (λ (j : ImageInfo). HasGiven j a given s.pending v.planes s.dropped s.made 0) (sym has.numbers) all) in
    let of = view_due v s.info s.encoding given s.pending s.dropped s.made is kept made first others own in
    subst (λ (j : ImageInfo). IsEncodedView (image_of j given) a v) has.numbers (subst (λ (b : Asked). IsEncodedView (image_of s.info given) b v) has.asked of)
