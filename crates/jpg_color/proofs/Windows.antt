-- Which rows of samples an MCU row encodes, and which rows of the image it makes ready.
use Rattle.std.proofs.Common.{◌≡◌, ◌⊎◌, inl, inr, ℕ, ◌+◌, ◌-◌, ◌*◌, ◌<◌, ◌≤◌, min, Bool, true, false, ◌==◌, if◌then◌else◌, length, subst, sym, ap, ◌∙◌, arith}
use Rattle.std.proofs.Math.Nat.{le-div_iff_mul-le, mul-le-mul_right}
use Rattle.std.proofs.lemmas.Bool.{cases_lt}
use Rattle.jpg_spec.specs.Lists.{below, any_of}
use Rattle.jpg_spec.specs.Geometry.{Frame, bounds, div_up, h_max, v_max, component_at, mcus_down, blocks_down, mcu_row_frame}
use Rattle.jpg_spec.specs.FrameHeader.{padded_across, padded_down}
use Rattle.jpg_spec.specs.FileMeaning.{no_blocks}
use Rattle.jpg_spec.specs.Ranges.{AreInRange}
use Rattle.jpg_spec_image.specs.Upsampling.{has_far_rows}
use Rattle.jpg_spec_image.specs.Pixels.{samples_across, samples_down, stretch_of}
use Rattle.jpg_spec_image.specs.Strips.{lines, known_rows}
use Rattle.jpg_spec.proofs.Basics.Common.{not_same, same_itself}
use Rattle.jpg_spec.proofs.Places.PlacesFound.{real_in_padded}
use Rattle.jpg_base.proofs.Grids.{across_low, down_low}
use Rattle.jpg_coefs.specs.Picture.{Picture, map_of}
use Rattle.jpg_color.specs.KeptRows.{HasRows}
use Rattle.jpg_color.specs.Shown.{Display, IsShowable, picture_of, parts, all_rows, rows_made_ready, rows_in}
use Rattle.jpg_color.proofs.Coverage.{eight_bits, in_frame, factors_at, covered, lines_some, parts_some, rows_in_is, blocks_across_is, blocks_down_is}

-- ROWS OF SAMPLES

-- the rows that MCU row m encodes
abbrev pub told_rows : Display → ℕ → ℕ → ℕ
told_rows d i m = known_rows (picture_of d no_blocks) i (m + 1) - known_rows (picture_of d no_blocks) i m

-- if rows are missing, so is an MCU row
short_of : (n high down height lm : ℕ) → lm ≡ n * down → lm < height → height ≤ high * down → n < high
short_of n high down height lm e lt tall = above (cases_lt n high)
  where
    above : (n < high) ⊎ (high ≤ n) → n < high
    above (inl l) = l
    above (inr m) = let p : high * down ≤ n * down = mul-le-mul_right down m in absurd (omega (arith, e, lt, tall, p))

pub rows_missing : (d : Display) (i m : ℕ) → IsShowable d → i < parts d → m < all_rows d → 8 * rows_in d i * m < samples_down (picture_of d no_blocks) i
rows_missing d i m s h lt =
    let M = picture_of d no_blocks in
    let st = stretch_of M d.smooth i in
    let c = covered d no_blocks i s h in
    let e : lines M * m ≡ (8 * rows_in d i * m) * st.down = ap (λ n. n * m) c.whole ∙ (let a : 8 * rows_in d i * st.down * m ≡ (8 * rows_in d i * m) * st.down = grind arith in a) in
    short_of (8 * rows_in d i * m) st.high st.down d.frame.height (lines M * m) e (c.no_more m lt) c.tall

alone_or_more : (b : Bool) (v : ℕ) → 1 ≤ v → (1 ≤ (if b then 1 else v)) × ((if b then 1 else v) ≤ v)
alone_or_more true v low = (omega arith, low)
alone_or_more false v low = (low, omega arith)

pub rows_in_some : (d : Display) (i : ℕ) → IsShowable d → i < parts d → 1 ≤ rows_in d i
rows_in_some d i s h =
    let there = in_frame d i s h in
    let c = factors_at d i s there in
    let a = alone_or_more (length d.frame.components == 1) (component_at d.frame i).v c.v_low in
    subst (λ n. 1 ≤ n) (sym (rows_in_is d i there)) a.0

pub rows_in_few : (d : Display) (i : ℕ) → IsShowable d → i < parts d → rows_in d i ≤ (component_at d.frame i).v
rows_in_few d i s h =
    let there = in_frame d i s h in
    let c = factors_at d i s there in
    let a = alone_or_more (length d.frame.components == 1) (component_at d.frame i).v c.v_low in
    subst (λ n. n ≤ (component_at d.frame i).v) (sym (rows_in_is d i there)) a.1

pub record CountFits (d : Display) (i m : ℕ) : Type 0 where
  pub known : known_rows (picture_of d no_blocks) i m ≡ 8 * rows_in d i * m
  pub is : told_rows d i m ≡ min (8 * rows_in d i) (samples_down (picture_of d no_blocks) i - 8 * rows_in d i * m)
  pub some : 1 ≤ told_rows d i m
  pub few : told_rows d i m ≤ 8 * rows_in d i
  pub real : m * rows_in d i + div_up (told_rows d i m) 8 ≤ blocks_down d.frame (component_at d.frame i)
  pub padded : m * rows_in d i + div_up (told_rows d i m) 8 ≤ padded_down d.frame (component_at d.frame i)
  pub row : div_up (told_rows d i m) 8 ≤ padded_down (mcu_row_frame d.frame) (component_at (mcu_row_frame d.frame) i)

record Counted (r m high : ℕ) : Type 0 where
  known : min (8 * r * m) high ≡ 8 * r * m
  is : min (8 * r * (m + 1)) high - min (8 * r * m) high ≡ min (8 * r) (high - 8 * r * m)
  some : 1 ≤ min (8 * r * (m + 1)) high - min (8 * r * m) high
  few : min (8 * r * (m + 1)) high - min (8 * r * m) high ≤ 8 * r
  real : m * r + div_up (min (8 * r * (m + 1)) high - min (8 * r * m) high) 8 ≤ div_up high 8

counted : (r m high : ℕ) → 1 ≤ r → 8 * r * m < high → Counted r m high
counted r m high some lt =
    let p : 8 * r * (m + 1) ≡ 8 * r * m + 8 * r = grind arith in
    let q : 8 * r * m ≡ 8 * (m * r) = grind arith in
    record {
      known = omega (arith, lt);
      is = omega (arith, lt, p);
      some = omega (arith, lt, p, some);
      few = omega (arith, lt, p);
      real = omega (arith, lt, p, q);
    }

-- the number of rows of blocks of each component in a row of MCUs
one_mcu_row : (b : Bool) (v : ℕ) → 1 ≤ v → 1 ≤ div_up (if b then 8 else 8 * v) (8 * v)
one_mcu_row true v low = (le-div_iff_mul-le (omega (arith, low))).1 (omega (arith, low))
one_mcu_row false v low = (le-div_iff_mul-le (omega (arith, low))).1 (omega (arith, low))

row_blocks : (count rows v mcus : ℕ) → count ≤ 8 * rows → rows ≤ v → 1 ≤ mcus → div_up count 8 ≤ mcus * v
row_blocks count rows v mcus few le some =
    let p : 1 * v ≤ mcus * v = mul-le-mul_right v some in
    omega (arith, few, le, p)

pub count_fits : (d : Display) (i m : ℕ) → IsShowable d → i < parts d → m < all_rows d → CountFits d i m
count_fits d i m s h lt =
    let there = in_frame d i s h in
    let c = counted (rows_in d i) m (samples_down (picture_of d no_blocks) i) (rows_in_some d i s h) (rows_missing d i m s h lt) in
    let pos = down_low d.frame.components s.frame.factors s.frame.count_low in
    let real : m * rows_in d i + div_up (told_rows d i m) 8 ≤ blocks_down d.frame (component_at d.frame i) =
    subst (λ n. m * rows_in d i + div_up (told_rows d i m) 8 ≤ n) (sym (blocks_down_is d no_blocks i there)) c.real in
    let within : blocks_down d.frame (component_at d.frame i) ≤ padded_down d.frame (component_at d.frame i) =
    real_in_padded d.frame.height (component_at d.frame i).v (v_max d.frame) pos in
    record {
      known = c.known;
      is = c.is;
      some = c.some;
      few = c.few;
      real = real;
      padded = omega (arith, real, within);
      row = row_blocks (told_rows d i m) (rows_in d i) (component_at d.frame i).v (mcus_down (mcu_row_frame d.frame)) c.few (rows_in_few d i s h) (one_mcu_row (length d.frame.components == 1) (v_max d.frame) pos);
    }

pub across_padded : (d : Display) (i : ℕ) → IsShowable d → i < parts d → div_up (samples_across (picture_of d no_blocks) i) 8 ≤ padded_across d.frame (component_at d.frame i)
across_padded d i s h =
    let there = in_frame d i s h in
    let pos = across_low d.frame.components s.frame.factors s.frame.count_low in
    subst (λ n. n ≤ padded_across d.frame (component_at d.frame i)) (blocks_across_is d no_blocks i there)
    (real_in_padded d.frame.width (component_at d.frame i).h (h_max d.frame) pos)

pub rows_there : (d : Display) (i m : ℕ) (q : Picture) → IsShowable d → i < parts d → m < all_rows d → q.frame ≡ d.frame → AreInRange (bounds d.frame) (map_of q)
    → HasRows q i (m * rows_in d i) (samples_across (picture_of d no_blocks) i) (told_rows d i m)
rows_there d i m q s h lt e range =
    let c = count_fits d i m s h lt in
    record {
      component = subst (λ (f : Frame). i < length f.components) (sym e) (in_frame d i s h);
      across = subst (λ (f : Frame). div_up (samples_across (picture_of d no_blocks) i) 8 ≤ padded_across f (component_at f i)) (sym e) (across_padded d i s h);
      down = subst (λ (f : Frame). m * rows_in d i + div_up (told_rows d i m) 8 ≤ padded_down f (component_at f i)) (sym e) c.padded;
      precision = subst (λ (f : Frame). f.precision ≡ 8) (sym e) (eight_bits d s);
      range = subst (λ (f : Frame). AreInRange (bounds f) (map_of q)) (sym e) range;
    }

from_top : (n most : ℕ) → n ≤ most → 0 + n ≤ most
from_top n most le = omega (arith, le)

pub row_there : (d : Display) (i m : ℕ) (q : Picture) → IsShowable d → i < parts d → m < all_rows d → q.frame ≡ mcu_row_frame d.frame → AreInRange (bounds d.frame) (map_of q)
    → HasRows q i 0 (samples_across (picture_of d no_blocks) i) (told_rows d i m)
row_there d i m q s h lt e range =
    let c = count_fits d i m s h lt in
    record {
      component = subst (λ (f : Frame). i < length f.components) (sym e) (in_frame d i s h);
      across = subst (λ (f : Frame). div_up (samples_across (picture_of d no_blocks) i) 8 ≤ padded_across f (component_at f i)) (sym e) (across_padded d i s h);
      down = subst (λ (f : Frame). 0 + div_up (told_rows d i m) 8 ≤ padded_down f (component_at f i)) (sym e) (from_top (div_up (told_rows d i m) 8) (padded_down (mcu_row_frame d.frame) (component_at (mcu_row_frame d.frame) i)) c.row);
      precision = subst (λ (f : Frame). f.precision ≡ 8) (sym e) (eight_bits d s);
      range = subst (λ (f : Frame). AreInRange (bounds f) (map_of q)) (sym e) range;
    }

-- ROWS OF THE IMAGE

pub all_some : (d : Display) → IsShowable d → 1 ≤ all_rows d
all_some d s =
    let some = lines_some d no_blocks s in
    let low = s.frame.height_low in
    (le-div_iff_mul-le some).1 (omega (arith, some, low))

-- whether a component that is displayed has rows made from two
abbrev any_far : Display → Bool
any_far d = any_of (λ i. has_far_rows (stretch_of (picture_of d no_blocks) d.smooth i)) (below (parts d))

pub ready_end : (d : Display) → rows_made_ready d (all_rows d) ≡ d.frame.height
ready_end d =
    ap (λ b. if b then d.frame.height else if any_far d then lines (picture_of d no_blocks) * all_rows d - 1 else lines (picture_of d no_blocks) * all_rows d) (same_itself (all_rows d))

pub ready_early : (d : Display) (m : ℕ) → m < all_rows d → rows_made_ready d m ≡ (if any_far d then lines (picture_of d no_blocks) * m - 1 else lines (picture_of d no_blocks) * m)
ready_early d m lt =
    ap (λ b. if b then d.frame.height else if any_far d then lines (picture_of d no_blocks) * m - 1 else lines (picture_of d no_blocks) * m)
    (not_same m (all_rows d) (λ (e : m ≡ all_rows d). omega (arith, e, lt)))

early_low : (b : Bool) (n : ℕ) → n - 1 ≤ (if b then n - 1 else n)
early_low true n = omega arith
early_low false n = omega arith

early_high : (b : Bool) (n : ℕ) → (if b then n - 1 else n) ≤ n
early_high true n = omega arith
early_high false n = omega arith

early_more : (b : Bool) (n k : ℕ) → n ≤ k → (if b then n - 1 else n) ≤ (if b then k - 1 else k)
early_more true n k le = omega (arith, le)
early_more false n k le = le

-- all rows of the image that complete MCU rows have, except the last of them, are ready
pub ready_low : (d : Display) (m : ℕ) → m < all_rows d → lines (picture_of d no_blocks) * m - 1 ≤ rows_made_ready d m
ready_low d m lt = subst (λ n. lines (picture_of d no_blocks) * m - 1 ≤ n) (sym (ready_early d m lt)) (early_low (any_far d) (lines (picture_of d no_blocks) * m))

pub ready_none : (d : Display) → IsShowable d → rows_made_ready d 0 ≡ 0
ready_none d s =
    let some = all_some d s in
    let e = ready_early d 0 some in
    let h = early_high (any_far d) (lines (picture_of d no_blocks) * 0) in
    let z : lines (picture_of d no_blocks) * 0 ≡ 0 = grind arith in
    let le : rows_made_ready d 0 ≤ lines (picture_of d no_blocks) * 0 = subst (λ n. n ≤ lines (picture_of d no_blocks) * 0) (sym e) h in
    omega (arith, le, z)

pub ready_missing : (d : Display) (m : ℕ) → IsShowable d → m < all_rows d → rows_made_ready d m < d.frame.height
ready_missing d m s lt =
    let M = picture_of d no_blocks in
    let c = covered d no_blocks 0 s (parts_some d) in
    let h = early_high (any_far d) (lines M * m) in
    let n = c.no_more m lt in
    subst (λ n. n < d.frame.height) (sym (ready_early d m lt)) (below_all (if any_far d then lines M * m - 1 else lines M * m) (lines M * m) d.frame.height h n)
  where
    below_all : (a b c : ℕ) → a ≤ b → b < c → a < c
    below_all a b c h l = omega (arith, h, l)

by_last : (d : Display) (m : ℕ) → m ≤ all_rows d → (m < all_rows d) ⊎ (all_rows d ≤ m) → IsShowable d → rows_made_ready d m ≤ d.frame.height
by_last d m le (inl lt) s = let h = ready_missing d m s lt in omega (arith, h)
by_last d m le (inr ge) s =
    let e : all_rows d ≡ m = omega (arith, le, ge) in
    subst (λ n. rows_made_ready d n ≤ d.frame.height) e (subst (λ n. n ≤ d.frame.height) (sym (ready_end d)) (omega arith))

pub ready_high : (d : Display) (m : ℕ) → IsShowable d → m ≤ all_rows d → rows_made_ready d m ≤ d.frame.height
ready_high d m s le = by_last d m le (cases_lt m (all_rows d)) s

more_by : (d : Display) (m : ℕ) → IsShowable d → m < all_rows d → (m + 1 < all_rows d) ⊎ (all_rows d ≤ m + 1) → rows_made_ready d m ≤ rows_made_ready d (m + 1)
more_by d m s lt (inl next) =
    let M = picture_of d no_blocks in
    let p : lines M * (m + 1) ≡ lines M * m + lines M = grind arith in
    subst (λ n. n ≤ rows_made_ready d (m + 1)) (sym (ready_early d m lt))
    (subst (λ n. (if any_far d then lines M * m - 1 else lines M * m) ≤ n) (sym (ready_early d (m + 1) next))
    (early_more (any_far d) (lines M * m) (lines M * (m + 1)) (le_by (lines M * m) (lines M) (lines M * (m + 1)) p)))
  where
    le_by : (a b c : ℕ) → c ≡ a + b → a ≤ c
    le_by a b c e = omega (arith, e)
more_by d m s lt (inr ge) =
    let e : all_rows d ≡ m + 1 = omega (arith, lt, ge) in
    let h = ready_missing d m s lt in
    let k : rows_made_ready d m ≤ rows_made_ready d (all_rows d) = subst (λ n. rows_made_ready d m ≤ n) (sym (ready_end d)) (less (rows_made_ready d m) d.frame.height h) in
    subst (λ n. rows_made_ready d m ≤ rows_made_ready d n) e k
  where
    less : (a b : ℕ) → a < b → a ≤ b
    less a b l = omega (arith, l)

pub ready_more : (d : Display) (m : ℕ) → IsShowable d → m < all_rows d → rows_made_ready d m ≤ rows_made_ready d (m + 1)
ready_more d m s lt = more_by d m s lt (cases_lt (m + 1) (all_rows d))
