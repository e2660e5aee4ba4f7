-- Lanes of pixels: luminance and the two colour differences of sixteen at once.
use Rattle.std.proofs.Common.{◌≡◌, ℕ, ◌+◌, ◌-◌, ◌*◌, ◌/◌, ◌%◌, ◌<◌, List, ◌++◌, length, take, slice_index, slice_index_or, set, map, ⊎_elim, ◌≤◌, sym, ap, ◌∙◌, arith, Fits, w8}
use Rattle.std.proofs.lemmas.Bool.{cases_lt}
use Rattle.std.proofs.lemmas.List.{take_all, get_or_append_left, get_or-map, get_or-set_other, length-map}
use Rattle.std.proofs.lemmas.Grind.{get_or-set_at}
use Rattle.jpg_spec.specs.Lists.{below}
use Rattle.jpg_spec_image.specs.Luminance.{luminance, blue_difference, red_difference, to_ycc}
use Rattle.jpg_spec_encode.specs.Encoded.{pixel_component}
use Rattle.jpg_spec_image.specs.declared.image.ImageKind.TheVariants.{Rgb}
use Rattle.jpg_spec.proofs.Basics.Common.{length_below}
use Rattle.jpg_spec.proofs.Basics.Rows.{by_items, at_below}
use Rattle.jpg_sample.proofs.Sums.{made_more}
use Rattle.jpg_color.specs.ColourRows.{component_row, PutsSixteen, HasMade}
use Rattle.jpg_color.proofs.ColourRows.{luminance_first, blue_second, red_third}

-- lane k of 64
abbrev pub lane : List ℕ → ℕ → ℕ
lane p k = slice_index_or (take 64 p ++ take 64 p) k 0

lane_is : (p : List ℕ) (k : ℕ) → length p ≡ 64 → k < 64 → lane p k ≡ slice_index p k
lane_is p k long lt =
    let same : take 64 p ≡ p = take_all 64 p (omega (arith, long)) in
    ap (λ q. slice_index_or (q ++ q) k 0) same ∙ get_or_append_left p p 0 k (omega (arith, long, lt))

lane_small : (p : List ℕ) (k : ℕ) → length p ≡ 64 → ((j : ℕ) → j < 64 → slice_index p j < 256) → k < 64 → lane p k < 256
lane_small p k long small lt = (let e = lane_is p k long lt in let s = small k lt in omega (arith, e, s))

-- a function of three lanes, sixteen times
abbrev pub sixteen : (ℕ → ℕ → ℕ → ℕ) → List ℕ → List ℕ
sixteen f p = map (λ n. f (lane p (3 * n)) (lane p (3 * n + 1)) (lane p (3 * n + 2))) (below 16)

sixteen_are : (f : ℕ → ℕ → ℕ → ℕ) (i : ℕ) (p : List ℕ) → length p ≡ 64 → ((k : ℕ) → k < 64 → slice_index p k < 256)
    → ((r g b : ℕ) → r < 256 → g < 256 → b < 256 → f r g b ≡ slice_index (to_ycc r g b) i) → sixteen f p ≡ component_row p i 16
sixteen_are f i p long small is =
    by_items 16 (λ n. f (lane p (3 * n)) (lane p (3 * n + 1)) (lane p (3 * n + 2))) (component_row p i 16) 0 (length-map (below 16) (pixel_component Rgb p i) ∙ length_below 16)
    (λ n lt. (
    let a : 3 * n < 64 = omega (arith, lt) in
    let b : 3 * n + 1 < 64 = omega (arith, lt) in
    let c : 3 * n + 2 < 64 = omega (arith, lt) in
    ap (λ x. f x (lane p (3 * n + 1)) (lane p (3 * n + 2))) (lane_is p (3 * n) long a)
    ∙ ap (λ x. f (slice_index p (3 * n)) x (lane p (3 * n + 2))) (lane_is p (3 * n + 1) long b)
    ∙ ap (λ x. f (slice_index p (3 * n)) (slice_index p (3 * n + 1)) x) (lane_is p (3 * n + 2) long c)
    ∙ is (slice_index p (3 * n)) (slice_index p (3 * n + 1)) (slice_index p (3 * n + 2)) (small (3 * n) a) (small (3 * n + 1) b) (small (3 * n + 2) c)
    ∙ sym (get_or-map (pixel_component Rgb p i) (below 16) n 0 0 (omega (arith, length_below 16, lt)) ∙ ap (pixel_component Rgb p i) (at_below 16 n lt))))

abbrev pub luminance_lane : ℕ → ℕ → ℕ → ℕ
luminance_lane r g b =
    (((r * 19595 % 4294967296 + g * 22086 % 4294967296) % 4294967296 + (b * 7471 % 4294967296 + g * 16384 % 4294967296) % 4294967296) % 4294967296 + 32768) % 4294967296 / 65536

luminance_is : (r g b : ℕ) → r < 256 → g < 256 → b < 256 → luminance_lane r g b ≡ slice_index (to_ycc r g b) 0
luminance_is r g b lr lg lb = (let e : luminance_lane r g b ≡ luminance r g b = omega (arith, lr, lg, lb) in e ∙ luminance_first r g b)

pub luminances_are : (p : List ℕ) → length p ≡ 64 → ((k : ℕ) → k < 64 → slice_index p k < 256) → sixteen luminance_lane p ≡ component_row p 0 16
luminances_are p long small = sixteen_are luminance_lane 0 p long small luminance_is

-- what 255 exceeds the difference of blue by
abbrev pub blue_less : ℕ → ℕ → ℕ → ℕ
blue_less r g b =
    (((r * 11059 % 4294967296 + g * 10854 % 4294967296) % 4294967296 + (b * 4294934528 % 4294967296 + g * 10855 % 4294967296) % 4294967296) % 4294967296 + 8355840) % 4294967296 / 65536

abbrev pub blue_lane : ℕ → ℕ → ℕ → ℕ
blue_lane r g b = (255 + (256 - blue_less r g b)) % 256

less_blue : (r g b : ℕ) → r < 256 → g < 256 → b < 256 → blue_less r g b + blue_difference r g b ≡ 255
less_blue r g b lr lg lb = omega (arith, lr, lg, lb)

blue_small : (r g b : ℕ) → r < 256 → g < 256 → b < 256 → blue_less r g b < 256
blue_small r g b lr lg lb = (let e = less_blue r g b lr lg lb in omega (arith, e))

blue_is : (r g b : ℕ) → r < 256 → g < 256 → b < 256 → blue_lane r g b ≡ slice_index (to_ycc r g b) 1
blue_is r g b lr lg lb = (let s = less_blue r g b lr lg lb in let e : blue_lane r g b ≡ blue_difference r g b = omega (arith, s) in e ∙ blue_second r g b)

pub blues_fit : (p : List ℕ) → length p ≡ 64 → ((k : ℕ) → k < 64 → slice_index p k < 256) → (n : ℕ) → n < 16 → Fits w8 (blue_less (lane p (3 * n)) (lane p (3 * n + 1)) (lane p (3 * n + 2)))
blues_fit p long small n lt =
    record {
      fits = blue_small (lane p (3 * n)) (lane p (3 * n + 1)) (lane p (3 * n + 2)) (lane_small p (3 * n) long small (omega (arith, lt)))
          (lane_small p (3 * n + 1) long small (omega (arith, lt))) (lane_small p (3 * n + 2) long small (omega (arith, lt)));
    }

pub blues_are : (p : List ℕ) → length p ≡ 64 → ((k : ℕ) → k < 64 → slice_index p k < 256) → sixteen blue_lane p ≡ component_row p 1 16
blues_are p long small = sixteen_are blue_lane 1 p long small blue_is

-- what 255 exceeds the difference of red by
abbrev pub red_less : ℕ → ℕ → ℕ → ℕ
red_less r g b =
    (((r * 4294934528 % 4294967296 + g * 13719 % 4294967296) % 4294967296 + (b * 5329 % 4294967296 + g * 13720 % 4294967296) % 4294967296) % 4294967296 + 8355840) % 4294967296 / 65536

abbrev pub red_lane : ℕ → ℕ → ℕ → ℕ
red_lane r g b = (255 + (256 - red_less r g b)) % 256

less_red : (r g b : ℕ) → r < 256 → g < 256 → b < 256 → red_less r g b + red_difference r g b ≡ 255
less_red r g b lr lg lb = omega (arith, lr, lg, lb)

red_small : (r g b : ℕ) → r < 256 → g < 256 → b < 256 → red_less r g b < 256
red_small r g b lr lg lb = (let e = less_red r g b lr lg lb in omega (arith, e))

red_is : (r g b : ℕ) → r < 256 → g < 256 → b < 256 → red_lane r g b ≡ slice_index (to_ycc r g b) 2
red_is r g b lr lg lb = (let s = less_red r g b lr lg lb in let e : red_lane r g b ≡ red_difference r g b = omega (arith, s) in e ∙ red_third r g b)

pub reds_fit : (p : List ℕ) → length p ≡ 64 → ((k : ℕ) → k < 64 → slice_index p k < 256) → (n : ℕ) → n < 16 → Fits w8 (red_less (lane p (3 * n)) (lane p (3 * n + 1)) (lane p (3 * n + 2)))
reds_fit p long small n lt =
    record {
      fits = red_small (lane p (3 * n)) (lane p (3 * n + 1)) (lane p (3 * n + 2)) (lane_small p (3 * n) long small (omega (arith, lt)))
          (lane_small p (3 * n + 1) long small (omega (arith, lt))) (lane_small p (3 * n + 2) long small (omega (arith, lt)));
    }

pub reds_are : (p : List ℕ) → length p ≡ 64 → ((k : ℕ) → k < 64 → slice_index p k < 256) → sixteen red_lane p ≡ component_row p 2 16
reds_are p long small = sixteen_are red_lane 2 p long small red_is

-- one of sixteen samples
pub one_of_sixteen : (pixels part samples : List ℕ) (i c k : ℕ) → k < 16 → ((j : ℕ) → j < 64 → slice_index part j ≡ slice_index pixels (48 * c + j))
    → samples ≡ component_row part i 16 → slice_index samples k ≡ pixel_component Rgb pixels i (16 * c + k)
one_of_sixteen pixels part samples i c k few same is =
    let x = 16 * c + k in
    let r : slice_index part (3 * k) ≡ slice_index pixels (3 * x) = same (3 * k) (omega (arith, few)) ∙ ap (slice_index pixels) (omega arith) in
    let g : slice_index part (3 * k + 1) ≡ slice_index pixels (3 * x + 1) = same (3 * k + 1) (omega (arith, few)) ∙ ap (slice_index pixels) (omega arith) in
    let b : slice_index part (3 * k + 2) ≡ slice_index pixels (3 * x + 2) = same (3 * k + 2) (omega (arith, few)) ∙ ap (slice_index pixels) (omega arith) in
    ap (λ l. slice_index l k) is
    ∙ get_or-map (pixel_component Rgb part i) (below 16) k 0 0 (omega (arith, length_below 16, few)) ∙ ap (pixel_component Rgb part i) (at_below 16 k few)
    ∙ ap (λ n. slice_index (to_ycc n (slice_index part (3 * k + 1)) (slice_index part (3 * k + 2))) i) r
    ∙ ap (λ n. slice_index (to_ycc (slice_index pixels (3 * x)) n (slice_index part (3 * k + 2))) i) g
    ∙ ap (λ n. slice_index (to_ycc (slice_index pixels (3 * x)) (slice_index pixels (3 * x + 1)) n) i) b

pub row_made : (pixels : List ℕ) (i : ℕ) (out : List ℕ) (x n : ℕ) → length out ≡ n → x ≡ n → ((k : ℕ) → k < x → slice_index out k ≡ pixel_component Rgb pixels i k) → out ≡ component_row pixels i n
row_made pixels i out x n long is same = sym (by_items n (pixel_component Rgb pixels i) out 0 long (λ k lt. sym (same k (omega (arith, lt, is)))))

-- one more sample
pub sample_set : (f : ℕ → ℕ) (out : List ℕ) (x r : ℕ) → x < length out → ((k : ℕ) → k < x → slice_index out k ≡ f k) → r ≡ f x → (k : ℕ) → k < x + 1 → slice_index (set out x r) k ≡ f k
sample_set f out x r there same is k lt =
    ⊎_elim
    (λ (a : k < x). get_or-set_other out x k r 0 (omega (arith, a)) ∙ same k a)
    (λ (b : x ≤ k). (let e : k ≡ x = omega (arith, b, lt) in get_or-set_at out x k r 0 e there ∙ is ∙ ap f (sym e)))
    (cases_lt k x)

-- sixteen more samples
pub made_sixteen : (pixels : List ℕ) (i c : ℕ) (first old new : List ℕ) → HasMade pixels i (16 * c) first old → PutsSixteen pixels i c old new → HasMade pixels i (16 * (c + 1)) first new
made_sixteen pixels i c first old new made puts = record {
  long = puts.long ∙ made.long;
  all = λ k lt. made_more (pixel_component Rgb pixels i) old new (16 * c) 16 made.all puts.before puts.here k (omega (arith, lt));
}

pub all_made : (pixels : List ℕ) (i x : ℕ) (old new : List ℕ) (n : ℕ) → HasMade pixels i x old new → length old ≡ n → x ≡ n → new ≡ component_row pixels i n
all_made pixels i x old new n made long is = row_made pixels i new x n (made.long ∙ long) is made.all
