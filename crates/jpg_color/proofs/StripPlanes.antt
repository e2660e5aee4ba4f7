-- The planes of a strip, the rows of an image that a row of MCUs is made from, are rows of those of the image.
use Rattle.std.proofs.Common.{◌≡◌, ℕ, ◌+◌, ◌-◌, ◌*◌, ◌/◌, ◌<◌, ◌≤◌, min, List, take, drop, slice_index, map, sym, ap, ◌∙◌, arith, ⊎_elim}
use Rattle.std.proofs.lemmas.Bool.{cases_lt}
use Rattle.std.proofs.lemmas.List.{get_or-take, get_or-drop}
use Rattle.std.proofs.lemmas.Nat.{mul-le}
use Rattle.std.proofs.Math.Nat.{mul-add-div_right}
use Rattle.jpg_spec.specs.Geometry.{Frame, component_at, div_up, h_max, v_max}
use Rattle.jpg_spec.specs.Lists.{below}
use Rattle.jpg_spec.proofs.Places.PlacesFound.{covers, least}
use Rattle.jpg_spec_encode.specs.Encoded.{full_plane, pixel_component}
use Rattle.jpg_spec_image.specs.Downsampling.{downsampled}
use Rattle.jpg_spec_image.specs.Images.{Image}
use Rattle.jpg_spec_image.specs.Luminance.{to_ycc}
use Rattle.jpg_spec_image.specs.declared.image.ImageInfo.{ImageInfo}
use Rattle.jpg_spec_image.specs.declared.image.ImageKind.{ImageKind}
use Rattle.jpg_spec_image.specs.declared.image.ImageKind.TheVariants.{Gray, Rgb}
use Rattle.jpg_color.specs.ColourRows.{numbers_of_pixel}
use Rattle.jpg_color.specs.Encode.{image_of}
use Rattle.jpg_color.specs.EncodeBlocks.{IsRowOf, lower_plane}
use Rattle.jpg_color.specs.SamplerState.{row_length, strip_numbers}
use Rattle.jpg_color.proofs.PlaneRows.{downsampled_alike, flat_below}
use Rattle.jpg_spec.proofs.McuRows.RowsWhole.{map_below}

-- PIXELS of a part of the samples

pub pixel_in_part : (kind : ImageKind) (samples : List ℕ) (i w p n u : ℕ) → numbers_of_pixel kind * (u + 1) ≤ n
    → pixel_component kind (take n (drop (p * (numbers_of_pixel kind * w)) samples)) i u ≡ pixel_component kind samples i (p * w + u)
pixel_in_part Gray samples i w p n u there =
    get_or-take n (drop (p * (1 * w)) samples) u 0 (omega (arith, there)) ∙ get_or-drop (p * (1 * w)) samples u 0 ∙ ap (λ k. slice_index samples k) (let e : p * (1 * w) ≡ p * w = ap (λ k. p * k) (omega arith) in omega (arith, e))
pixel_in_part Rgb samples i w p n u there =
    let part = take n (drop (p * (3 * w)) samples) in
    let e : p * (3 * w) ≡ 3 * (p * w) = grind arith in
    let at : (k : ℕ) → k < 3 → slice_index part (3 * u + k) ≡ slice_index samples (3 * (p * w + u) + k) = λ k lk.
    (let j : p * (3 * w) + (3 * u + k) ≡ 3 * (p * w + u) + k = omega (arith, e) in
    get_or-take n (drop (p * (3 * w)) samples) (3 * u + k) 0 (omega (arith, there, lk)) ∙ get_or-drop (p * (3 * w)) samples (3 * u + k) 0 ∙ ap (slice_index samples) j)
    in
    let z : (n : ℕ) → n + 0 ≡ n = λ n. omega arith in
    let a0 = ap (slice_index part) (sym (z (3 * u))) ∙ at 0 (omega arith) ∙ ap (slice_index samples) (z (3 * (p * w + u))) in
    ap (λ r. slice_index (to_ycc r (slice_index part (3 * u + 1)) (slice_index part (3 * u + 2))) i) a0
    ∙ ap (λ g. slice_index (to_ycc (slice_index samples (3 * (p * w + u))) g (slice_index part (3 * u + 2))) i) (at 1 (omega arith))
    ∙ ap (λ b. slice_index (to_ycc (slice_index samples (3 * (p * w + u))) (slice_index samples (3 * (p * w + u) + 1)) b) i) (at 2 (omega arith))

-- ROWS: those of the strip, and of the image

-- the image has these many rows from the strip's first on, and the strip the first of them
clamped : (lines first high r : ℕ) → first < high → r < lines → min (first + r) (high - 1) ≡ first + min r (min lines (high - first) - 1)
clamped lines first high r more there = omega (arith, more, there)

strip_some : (lines first high : ℕ) → 1 ≤ lines → first < high → 1 ≤ min lines (high - first)
strip_some lines first high some more = omega (arith, some, more)

-- row r of the strip's component, in all columns
pub full_of_strip : (info : ImageInfo) (samples : List ℕ) (lines first i x r : ℕ) → 1 ≤ info.width → 1 ≤ lines → first < info.height → r < lines
    → full_plane (image_of (record info { height = min lines (info.height - first) }) (take (min lines (info.height - first) * row_length info) (drop (first * row_length info) samples))) i x r
    ≡ full_plane (image_of info samples) i x (first + r)
full_of_strip info samples lines first i x r wide some more there =
    let w = info.width in
    let n = numbers_of_pixel info.kind in
    let high : ℕ = min lines (info.height - first) in
    let p : ℕ = min r (high - 1) in
    let u : ℕ = min x (w - 1) in
    let rise : p < high = omega (arith, strip_some lines first info.height some more) in
    let in_width : u < w = omega (arith, wide) in
    let m : (p + 1) * w ≤ high * w = mul-le (p + 1) w high w (omega (arith, rise)) (omega arith) in
    let s : (p + 1) * w ≡ p * w + w = grind arith in
    let all : n * (p * w + u + 1) ≤ n * (high * w) = mul-le n (p * w + u + 1) n (high * w) (omega arith) (omega (arith, m, s, in_width)) in
    let turned : n * (high * w) ≡ high * (n * w) = grind arith in
    let row : first * w + (p * w + u) ≡ (first + p) * w + u = grind arith in
    pixel_in_part info.kind samples i w first (high * (n * w)) (p * w + u) (omega (arith, all, turned))
    ∙ ap (pixel_component info.kind samples i) row
    ∙ ap (λ q. pixel_component info.kind samples i (q * w + u)) (sym (clamped lines first info.height r more there))

-- THE COMPONENT'S ROWS

up_more : (d k r : ℕ) → 1 ≤ d → div_up (k * d + r) d ≡ k + div_up r d
up_more d k r low =
    let e : k * d + r + d - 1 ≡ k * d + (r + d - 1) = omega (arith, low) in
    ap (λ n. n / d) e ∙ mul-add-div_right low k (r + d - 1)

-- as many as there are whole ones, at least
up_least : (d k n : ℕ) → 1 ≤ d → k * d ≤ n → k ≤ div_up n d
up_least d k n low h =
    let c = covers n d low in
    ⊎_elim
    (λ (a : div_up n d < k). (let m = mul-le (div_up n d + 1) d k d (omega (arith, a)) (omega arith) in
    let e : (div_up n d + 1) * d ≡ div_up n d * d + d = grind arith in
    absurd (omega (arith, m, e, c, h, low))))
    (λ (b : k ≤ div_up n d). b)
    (cases_lt (div_up n d) k)

up_whole : (d k : ℕ) → 1 ≤ d → div_up (k * d) d ≡ k
up_whole d k low = (let a = up_least d k (k * d) low (omega arith) in let b = least (k * d) d k low (omega arith) in omega (arith, a, b))

up_some : (d n : ℕ) → 1 ≤ d → 1 ≤ n → 1 ≤ div_up n d
up_some d n low some =
    let c = covers n d low in
    ⊎_elim (λ (a : div_up n d < 1). (let z : div_up n d ≡ 0 = omega (arith, a) in let e : div_up n d * d ≡ 0 * d = ap (λ k. k * d) z in let o : 0 * d ≡ 0 = omega arith in absurd (omega (arith, e, o, c, some)))) (λ (b : 1 ≤ div_up n d). b) (cases_lt (div_up n d) 1)

-- where the last row made is `before` rows below
clamp_short : (before made q v : ℕ) → 1 ≤ made → 1 ≤ v → min (before + q) (before + made * v - 1) ≡ before + min q (made * v - 1)
clamp_short before made q v some low = (let m = mul-le 1 1 made v some low in omega (arith, m))

clamp_long : (before made q v : ℕ) → 8 ≤ made → q < 8 * v → min (before + q) (before + made * v - 1) ≡ before + min q (8 * v - 1)
clamp_long before made q v many there = (let m = mul-le 8 v made v many (omega arith) in omega (arith, m, there))

-- row q of those made of the strip, among those of the image
made_of_strip : (most m v high q : ℕ) → 1 ≤ most → 1 ≤ v → 8 * most * m < high → q < 8 * v
    → min (8 * (v * m) + q) (div_up high most * v - 1) ≡ 8 * (v * m) + min q (div_up (min (8 * most) (high - 8 * most * m)) most * v - 1)
made_of_strip most m v high q low some more there =
    let rest : ℕ = high - 8 * most * m in
    let base : 8 * most * m ≡ 8 * m * most = grind arith in
    let split : high ≡ 8 * m * most + rest = omega (arith, more, base) in
    let up : div_up high most ≡ 8 * m + div_up rest most = ap (λ n. div_up n most) split ∙ up_more most (8 * m) rest low in
    let rows : div_up high most * v ≡ 8 * (v * m) + div_up rest most * v =
    ap (λ n. n * v) up ∙ (let e : (8 * m + div_up rest most) * v ≡ 8 * (v * m) + div_up rest most * v = grind arith in e) in
    ap (λ n. min (8 * (v * m) + q) (n - 1)) rows
    ∙ ⊎_elim
    (λ (a : rest < 8 * most). (let e : min (8 * most) rest ≡ rest = omega (arith, a) in
    clamp_short (8 * (v * m)) (div_up rest most) q v (up_some most rest low (omega (arith, more))) some ∙ ap (λ n. 8 * (v * m) + min q (div_up n most * v - 1)) (sym e)))
    (λ (b : 8 * most ≤ rest). (let e : min (8 * most) rest ≡ 8 * most = omega (arith, b) in
    clamp_long (8 * (v * m)) (div_up rest most) q v (up_least most 8 rest low b) there
    ∙ ap (λ n. 8 * (v * m) + min q (n * v - 1)) (sym (ap (λ n. div_up n most) e ∙ up_whole most 8 low))))
    (cases_lt rest (8 * most))

-- THE PLANES

-- the samples of a strip of an image
abbrev pub strip_samples : ImageInfo → Frame → ℕ → List ℕ → List ℕ
strip_samples info f m samples = take ((strip_numbers info f m).height * row_length info) (drop (8 * v_max f * m * row_length info) samples)

abbrev pub strip_at : ImageInfo → Frame → ℕ → List ℕ → Image
strip_at info f m samples = image_of (strip_numbers info f m) (strip_samples info f m samples)

-- a component and a row of MCUs that are there
pub record IsPart (info : ImageInfo) (f : Frame) (m i : ℕ) : Type 0 where
  pub wide : 1 ≤ info.width
  pub low : 1 ≤ v_max f
  pub factor : 1 ≤ (component_at f i).v
  pub whole : v_max f / (component_at f i).v * (component_at f i).v ≡ v_max f
  pub more : 8 * v_max f * m < info.height

-- row b of those averaged to row r of the strip is in it
in_strip : (d v most r b : ℕ) → d * v ≡ most → r < 8 * v → b < d → d * r + b < 8 * most
in_strip d v most r b e there lb =
    let m = mul-le d (r + 1) d (8 * v) (omega arith) (omega (arith, there)) in
    let s : d * (r + 1) ≡ d * r + d = grind arith in
    let t : d * (8 * v) ≡ 8 * (d * v) = grind arith in
    omega (arith, m, s, t, e, lb)

moved_row : (d v m most r b : ℕ) → d * v ≡ most → 8 * most * m + (d * r + b) ≡ d * (8 * (v * m) + r) + b
moved_row d v m most r b e =
    let s : 8 * (d * v) * m ≡ d * (8 * (v * m)) = grind arith in
    let t : d * (8 * (v * m) + r) ≡ d * (8 * (v * m)) + d * r = grind arith in
    let u : 8 * most * m ≡ 8 * (d * v) * m = ap (λ n. 8 * n * m) (sym e) in
    omega (arith, s, t, u)

pub lower_of_strip : (info : ImageInfo) (f : Frame) (m i : ℕ) (samples : List ℕ) → IsPart info f m i → (x q : ℕ) → q < 8 * (component_at f i).v
    → lower_plane f (strip_at info f m samples) i x q ≡ lower_plane f (image_of info samples) i x (8 * ((component_at f i).v * m) + q)
lower_of_strip info f m i samples is x q there =
    let most = v_max f in
    let v = (component_at f i).v in
    let h : ℕ = h_max f / (component_at f i).h in
    let d : ℕ = most / v in
    let high : ℕ = min (8 * most) (info.height - 8 * most * m) in
    let r : ℕ = min q (div_up high most * v - 1) in
    let near : r < 8 * v = omega (arith, there) in
    downsampled_alike h d x r (8 * (v * m) + r) (full_plane (strip_at info f m samples) i) (full_plane (image_of info samples) i)
    (λ u b lu lb. full_of_strip info samples (8 * most) (8 * most * m) i (h * x + u) (d * r + b) is.wide (omega (arith, is.low)) is.more (in_strip d v most r b is.whole near lb)
    ∙ ap (full_plane (image_of info samples) i (h * x + u)) (moved_row d v m most r b is.whole))
    ∙ ap (downsampled h d (full_plane (image_of info samples) i) x) (sym (made_of_strip most m v info.height q is.low is.factor is.more there))

-- the blocks of a row
pub row_of_strip : (info : ImageInfo) (f : Frame) (m i y : ℕ) (samples : List ℕ) (row : List (List ℕ)) → IsPart info f m i → y < (component_at f i).v → IsRowOf f (strip_at info f m samples) i y row
    → IsRowOf f (image_of info samples) i ((component_at f i).v * m + y) row
row_of_strip info f m i y samples row is there has x lx =
    let v = (component_at f i).v in
    has x lx
    ∙ flat_below (λ w. map (λ u. lower_plane f (strip_at info f m samples) i (8 * x + u) (8 * y + w)) (below 8)) (λ w. map (λ u. lower_plane f (image_of info samples) i (8 * x + u) (8 * (v * m + y) + w)) (below 8)) 8
    (λ w lw. map_below (λ u. lower_plane f (strip_at info f m samples) i (8 * x + u) (8 * y + w)) (λ u. lower_plane f (image_of info samples) i (8 * x + u) (8 * (v * m + y) + w)) 8
    (λ u lu. (let e : 8 * (v * m) + (8 * y + w) ≡ 8 * (v * m + y) + w = omega arith in
    lower_of_strip info f m i samples is (8 * x + u) (8 * y + w) (omega (arith, lw, there)) ∙ ap (lower_plane f (image_of info samples) i (8 * x + u)) e)))
