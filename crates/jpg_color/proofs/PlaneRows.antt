-- Rows of a plane, from those of the image.
use Rattle.std.proofs.Common.{rules, ◌≡◌, ℕ, zero, suc, ◌+◌, ◌-◌, ◌*◌, ◌<◌, ◌≤◌, min, List, [], ◌∷◌, ◌++◌, length, take, drop, slice_index, map, refl, sym, ap, ◌∙◌, arith, ⊎_elim}
use Rattle.std.specs.Prelude.{sum_by, flat_map}
use Rattle.std.proofs.lemmas.Grind.{flat_map-append}
use Rattle.std.proofs.lemmas.Bool.{cases_lt}
use Rattle.std.proofs.Math.Nat.{mul_comm}
use Rattle.std.proofs.lemmas.Nat.{row_fits, mul-add-lt}
use Rattle.std.proofs.lemmas.Slice.{overwrites, take-put_mid, take-put_mid_below}
use borrow.Rule.Slice.PartMut.{put_mid}
use Rattle.std.proofs.lemmas.List.{length-map, get_or-map, get_or-take, get_or-drop, get_or-append_right, length-take-le}
use Rattle.jpg_spec.specs.Lists.{below}
use Rattle.jpg_spec_image.specs.Luminance.{to_ycc}
use Rattle.jpg_spec_image.specs.Downsampling.{edge_repeated, in_rows, mean_of, downsampled, down_rows}
use Rattle.jpg_spec_encode.specs.Encoded.{pixel_component, samples_of_block}
use Rattle.jpg_spec_image.specs.declared.image.ImageInfo.{ImageInfo}
use Rattle.jpg_spec_image.specs.declared.image.ImageKind.{ImageKind}
use Rattle.jpg_spec_image.specs.declared.image.ImageKind.TheVariants.{Gray, Rgb}
use Rattle.jpg_spec.proofs.Basics.Common.{length_below}
use Rattle.jpg_spec.proofs.Basics.Rows.{at_below}
use Rattle.jpg_sample.proofs.Sums.{sum_alike}
use Rattle.jpg_color.specs.ColourRows.{numbers_of_pixel, row_component}
use Rattle.jpg_color.specs.PlaneRows.{row_of, plane_of, narrow_plane, lower_row, downsampled_row, HasSamples, HasPlaneRows}
use Rattle.jpg_color.specs.declared.encode.rows.ImagePlane.{ImagePlane}
use Rattle.jpg_spec.proofs.McuRows.RowsWhole.{map_below}

-- the mean of samples that are alike
pub downsampled_alike : (across down x y z : ℕ) (one other : ℕ → ℕ → ℕ) → ((u v : ℕ) → u < across → v < down → one (across * x + u) (down * y + v) ≡ other (across * x + u) (down * z + v))
    → downsampled across down one x y ≡ downsampled across down other x z
downsampled_alike across down x y z one other same =
    ap (mean_of across down x)
    (sum_alike (λ v. sum_by (λ u. one (across * x + u) (down * y + v)) (below across)) (λ v. sum_by (λ u. other (across * x + u) (down * z + v)) (below across)) down
    (λ v lv. sum_alike (λ u. one (across * x + u) (down * y + v)) (λ u. other (across * x + u) (down * z + v)) across (λ u lu. same u v lu lv)))

edge_twice : (w a : ℕ) → min (min a (w - 1)) (w - 1) ≡ min a (w - 1)
edge_twice w a = omega arith

-- the rows under row y give row y
pub under_rows : (info : ImageInfo) (samples rows : List ℕ) (i across down x y : ℕ) → 1 ≤ info.width → HasPlaneRows info samples i down y rows
    → downsampled across down (edge_repeated info.width down (in_rows info.width rows)) x 0 ≡ downsampled across down (plane_of info samples i) x y
under_rows info samples rows i across down x y some has =
    downsampled_alike across down x 0 y (edge_repeated info.width down (in_rows info.width rows)) (plane_of info samples i)
    (λ u v lu lv. (let m : ℕ = min (across * x + u) (info.width - 1) in
    let e : min (down * 0 + v) (down - 1) ≡ v = omega (arith, lv) in
    let lm : m < info.width = omega (arith, some) in
    ap (λ r. slice_index rows (r * info.width + m)) e ∙ has v m lv lm
    ∙ ap (λ a. pixel_component info.kind samples i (min (down * y + v) (info.height - 1) * info.width + a)) (edge_twice info.width (across * x + u))))

pub row_is : (p : ImagePlane) (rows : List ℕ) (y n : ℕ) → 1 ≤ p.info.now.width → HasPlaneRows p.info.now p.samples.now p.component p.ratio.down y rows
    → down_rows p.ratio.across p.ratio.down p.info.now.width rows n ≡ downsampled_row p y n
unfolding down_rows downsampled_row
row_is p rows y n some has = alike (below n)
  where
    here : ℕ → ℕ
    here x = downsampled p.ratio.across p.ratio.down (edge_repeated p.info.now.width p.ratio.down (in_rows p.info.now.width rows)) x 0

    alike : (xs : List ℕ) → map here xs ≡ map (λ x. narrow_plane p x y) xs
    alike [] = refl
    alike (x ∷ xs) =
        ap (λ (t : ℕ). (let l : List ℕ = t ∷ map here xs in l)) (under_rows p.info.now p.samples.now rows p.component p.ratio.across p.ratio.down x y some has)
        ∙ ap (λ (ts : List ℕ). (let l : List ℕ = narrow_plane p x y ∷ ts in l)) (alike xs)

-- A ROW OF THE IMAGE

pub row_there : (info : ImageInfo) (samples : List ℕ) (row n : ℕ) → HasSamples info samples → n ≡ numbers_of_pixel info.kind → row < info.height → row * (n * info.width) + n * info.width ≤ length samples
row_there info samples row n has en lt =
    let f : row * (n * info.width) + n * info.width ≤ info.height * (n * info.width) = row_fits row (n * info.width) info.height (n * info.width) lt (omega arith) in
    let l : length samples ≡ info.height * (n * info.width) = has.all ∙ ap (λ k. info.height * (k * info.width)) (sym en) in
    omega (arith, f, l)

pub row_found : (info : ImageInfo) (samples : List ℕ) (row p n : ℕ) → n ≡ numbers_of_pixel info.kind → row ≡ min p (info.height - 1) → take (n * info.width) (drop (row * (n * info.width)) samples) ≡ row_of info samples (min p (info.height - 1))
row_found info samples row p n en er =
    ap (λ k. take (k * info.width) (drop (row * (k * info.width)) samples)) en ∙ ap (λ r. row_of info samples r) er

-- a component of a pixel of a row
pub pixel_in_row : (kind : ImageKind) (samples : List ℕ) (i w p u : ℕ) → u < w → pixel_component kind (take (numbers_of_pixel kind * w) (drop (p * (numbers_of_pixel kind * w)) samples)) i u ≡ pixel_component kind samples i (p * w + u)
pixel_in_row Gray samples i w p u lu =
    get_or-take (1 * w) (drop (p * (1 * w)) samples) u 0 (omega (arith, lu)) ∙ get_or-drop (p * (1 * w)) samples u 0 ∙ ap (λ k. slice_index samples k) (let e : p * (1 * w) ≡ p * w = ap (λ k. p * k) (omega arith) in omega (arith, e))
pixel_in_row Rgb samples i w p u lu =
    let e : p * (3 * w) ≡ 3 * (p * w) = grind arith in
    let at : (k : ℕ) → k < 3 → slice_index (take (3 * w) (drop (p * (3 * w)) samples)) (3 * u + k) ≡ slice_index samples (3 * (p * w + u) + k) = λ k lk.
    (let j : p * (3 * w) + (3 * u + k) ≡ 3 * (p * w + u) + k = omega (arith, e) in
    get_or-take (3 * w) (drop (p * (3 * w)) samples) (3 * u + k) 0 (omega (arith, lu, lk)) ∙ get_or-drop (p * (3 * w)) samples (3 * u + k) 0 ∙ ap (slice_index samples) j)
    in
    let z : (n : ℕ) → n + 0 ≡ n = λ n. omega arith in
    let a0 = ap (slice_index (take (3 * w) (drop (p * (3 * w)) samples))) (sym (z (3 * u))) ∙ at 0 (omega arith) ∙ ap (slice_index samples) (z (3 * (p * w + u))) in
    ap (λ r. slice_index (to_ycc r (slice_index (take (3 * w) (drop (p * (3 * w)) samples)) (3 * u + 1)) (slice_index (take (3 * w) (drop (p * (3 * w)) samples)) (3 * u + 2))) i) a0
    ∙ ap (λ g. slice_index (to_ycc (slice_index samples (3 * (p * w + u))) g (slice_index (take (3 * w) (drop (p * (3 * w)) samples)) (3 * u + 2))) i) (at 1 (omega arith))
    ∙ ap (λ b. slice_index (to_ycc (slice_index samples (3 * (p * w + u))) (slice_index samples (3 * (p * w + u) + 1)) b) i) (at 2 (omega arith))

-- a sample of a component's row is one of the plane
pub sample_is : (info : ImageInfo) (samples out row : List ℕ) (i p u n : ℕ) → out ≡ map (pixel_component info.kind row i) (below n) → n ≡ info.width → row ≡ row_of info samples (min p (info.height - 1)) → u < info.width
    → slice_index out u ≡ plane_of info samples i u p
sample_is info samples out row i p u n eo en er lu =
    let e : min u (info.width - 1) ≡ u = omega (arith, lu) in
    ap (λ l. slice_index l u) eo ∙ get_or-map (pixel_component info.kind row i) (below n) u 0 0 (omega (arith, length_below n, en, lu)) ∙ ap (pixel_component info.kind row i) (at_below n u (omega (arith, en, lu)))
    ∙ ap (λ r. pixel_component info.kind r i u) er ∙ pixel_in_row info.kind samples i info.width (min p (info.height - 1)) u lu
    ∙ ap (λ a. pixel_component info.kind samples i (min p (info.height - 1) * info.width + a)) (sym e)

-- a part that was put among rows
pub put_mid_at : (a k : ℕ) (xs ys : List ℕ) (u : ℕ) → a ≤ length xs → u < length ys → slice_index (put_mid a k xs ys) (a + u) ≡ slice_index ys u
put_mid_at a k xs ys u low lu =
    let t : take (a + length ys) (put_mid a k xs ys) ≡ take a xs ++ ys = take-put_mid a k xs ys (a + length ys) refl low in
    let l : length (take a xs) ≡ a = length-take-le a xs low in
    let z : a + u - a ≡ u = omega arith in
    sym (get_or-take (a + length ys) (put_mid a k xs ys) (a + u) 0 (omega (arith, lu)))
    ∙ ap (λ l. slice_index l (a + u)) t ∙ get_or-append_right (take a xs) ys a (a + u) 0 l (omega arith) ∙ ap (slice_index ys) z

pub put_before : (a n : ℕ) (xs ys : List ℕ) (k : ℕ) → a ≤ length xs → k < a → slice_index (put_mid a n xs ys) k ≡ slice_index xs k
put_before a n xs ys k low lk =
    sym (get_or-take a (put_mid a n xs ys) k 0 lk) ∙ ap (λ l. slice_index l k) (take-put_mid_below a n xs ys a (omega arith) low) ∙ get_or-take a xs k 0 lk

pub put_long : (a n : ℕ) (xs ys : List ℕ) → a + n ≤ length xs → length ys ≡ n → length (put_mid a n xs ys) ≡ length xs
put_long a n xs ys room long = search (rules, overwrites)

-- a sample of a row of known length
pub sample_at : (info : ImageInfo) (samples out row : List ℕ) (i p u n : ℕ) → out ≡ row_component info.kind row i n → length out ≡ info.width → row ≡ row_of info samples (min p (info.height - 1)) → u < info.width
    → slice_index out u ≡ plane_of info samples i u p
unfolding row_component
sample_at info samples out row i p u n eo long er lu =
    let en : n ≡ info.width = sym (length_below n) ∙ sym (length-map (below n) (pixel_component info.kind row i)) ∙ sym (ap length eo) ∙ long in
    sample_is info samples out row i p u n eo en er lu

-- one more row is put, and those above it remain
pub rows_more : (plane : ℕ → ℕ → ℕ) (old new : List ℕ) (wide base r : ℕ)
    → ((k u : ℕ) → k < r → u < wide → slice_index old (k * wide + u) ≡ plane u (base + k))
    → ((u : ℕ) → u < wide → slice_index new (r * wide + u) ≡ plane u (base + r))
    → ((k : ℕ) → k < r * wide → slice_index new k ≡ slice_index old k)
    → (k u : ℕ) → k < r + 1 → u < wide → slice_index new (k * wide + u) ≡ plane u (base + k)
rows_more plane old new wide base r are here before k u lk lu =
    ⊎_elim
    (λ (a : k < r). (let m : k * wide + u < wide * r = mul-add-lt k wide u r a lu in
    let c : wide * r ≡ r * wide = mul_comm wide r in
    before (k * wide + u) (omega (arith, m, c)) ∙ are k u a lu))
    (λ (b : r ≤ k). (let e : k ≡ r = omega (arith, b, lk) in
    ap (λ n. slice_index new (n * wide + u)) e ∙ here u lu ∙ ap (λ n. plane u (base + n)) (sym e)))
    (cases_lt k r)

-- EIGHT ROWS, and their blocks

pub placed : (p : ImagePlane) (out : List ℕ) (made y row wide u n : ℕ) → out ≡ downsampled_row p row n → length out ≡ wide → row ≡ min y (made - 1) → u < wide
    → slice_index out u ≡ lower_row p made u y
unfolding downsampled_row
placed p out made y row wide u n eo long er lu =
    let f : ℕ → ℕ = λ x. narrow_plane p x row in
    let en : n ≡ wide = sym (length_below n) ∙ sym (length-map (below n) f) ∙ sym (ap length eo) ∙ long in
    ap (λ l. slice_index l u) eo ∙ get_or-map f (below n) u 0 0 (omega (arith, length_below n, en, lu)) ∙ ap f (at_below n u (omega (arith, en, lu)))
    ∙ ap (λ r. narrow_plane p u r) er

pub flat_below : (f g : ℕ → List ℕ) (n : ℕ) → ((k : ℕ) → k < n → f k ≡ g k) → flat_map f (below n) ≡ flat_map g (below n)
flat_below f g zero same = refl
flat_below f g (suc n) same =
    flat_map-append f (below n) (n ∷ []) ∙ ap (λ t. t ++ (f n ++ [])) (flat_below f g n (λ k h. same k (omega (arith, h)))) ∙ ap (λ t. flat_map g (below n) ++ (t ++ [])) (same n (omega arith))
    ∙ sym (flat_map-append g (below n) (n ∷ []))

pub blocks_are : (plane : ℕ → ℕ → ℕ) (out : List ℕ) (wide y v : ℕ) → v ≡ 8 → ((k u : ℕ) → k < v → u < wide → slice_index out (k * wide + u) ≡ plane u (8 * y + k))
    → (x : ℕ) → 8 * x + 8 ≤ wide → samples_of_block (in_rows wide out) x 0 ≡ samples_of_block plane x y
blocks_are plane out wide y v ev are x there =
    flat_below (λ w. map (λ u. in_rows wide out (8 * x + u) (8 * 0 + w)) (below 8)) (λ w. map (λ u. plane (8 * x + u) (8 * y + w)) (below 8)) 8
    (λ w lw. map_below (λ u. in_rows wide out (8 * x + u) (8 * 0 + w)) (λ u. plane (8 * x + u) (8 * y + w)) 8
    (λ u lu. (let z : 8 * 0 + w ≡ w = omega arith in
    ap (λ r. slice_index out (r * wide + (8 * x + u))) z ∙ are w (8 * x + u) (omega (arith, lw, ev)) (omega (arith, lu, there)))))
