-- The image of jpgwork has as many samples as its sides say, all of them bytes.
use Rattle.std.proofs.Common.{◌≡◌, ℕ, suc, ◌+◌, ◌*◌, ◌/◌, ◌%◌, ◌<◌, ◌≤◌, List, [], ◌∷◌, length, refl, ap, ◌∙◌, arith}
use Rattle.std.specs.Prelude.{flat_map}
use Rattle.std.proofs.lemmas.List.{length-append}
use Rattle.std.proofs.lemmas.Nat.{mul-le}
use Rattle.std.proofs.lemmas.List.Elements.{All-nil, All-cons, All-append}
use Rattle.jpg_spec.specs.Lists.{below}
use Rattle.jpg_spec.proofs.Basics.Common.{length_below}
use Rattle.jpg_spec_image.specs.Images.{sample_count}
use Rattle.jpg_spec_words.specs.Work.{work_image, work_info, work_pixel, work_row}
use Rattle.jpg_pnm_bmp.specs.Made.{AreBytes, IsRightImage}

pieces_long : (f : ℕ → List ℕ) (k : ℕ) → ((x : ℕ) → length (f x) ≡ k) → (xs : List ℕ) → length (flat_map f xs) ≡ length xs * k
pieces_long f k each [] = omega arith
pieces_long f k each (x ∷ xs) =
    let e = length-append (f x) (flat_map f xs) in
    let m : suc (length xs) * k ≡ k + length xs * k = grind arith in
    omega (arith, e, m, each x, pieces_long f k each xs)

pixel_long : (x y : ℕ) → length (work_pixel x y) ≡ 3
unfolding work_pixel
pixel_long x y = refl

row_long : (n y : ℕ) → length (work_row n y) ≡ 3 * (8 * n + 5)
unfolding work_row
row_long n y =
    let e = pieces_long (λ x. work_pixel x y) 3 (λ x. pixel_long x y) (below (8 * n + 5)) in
    let l = length_below (8 * n + 5) in
    omega (arith, e, l)

image_long : (n : ℕ) → length (work_image n).samples ≡ sample_count (work_info n)
image_long n =
    pieces_long (work_row n) (3 * (8 * n + 5)) (row_long n) (below (4 * n + 3)) ∙ ap (λ k. k * (3 * (8 * n + 5))) (length_below (4 * n + 3))

pieces_bytes : (f : ℕ → List ℕ) → ((x : ℕ) → AreBytes (f x)) → (xs : List ℕ) → AreBytes (flat_map f xs)
pieces_bytes f each [] = All-nil (λ b. b < 256)
pieces_bytes f each (x ∷ xs) = All-append (λ b. b < 256) (f x) (flat_map f xs) (each x) (pieces_bytes f each xs)

pixel_bytes : (x y : ℕ) → AreBytes (work_pixel x y)
unfolding work_pixel
pixel_bytes x y =
    let red = (7 * x + 3 * y) % 256 in
    let green = x * y % 256 in
    let blue = (40 * (x / 16) + 24 * (y / 16)) % 256 in
    let low : (n : ℕ) → n % 256 < 256 = λ n. omega arith in
    All-cons (λ b. b < 256) red (green ∷ blue ∷ []) (low (7 * x + 3 * y)) (All-cons (λ b. b < 256) green (blue ∷ []) (low (x * y)) (All-cons (λ b. b < 256) blue [] (low (40 * (x / 16) + 24 * (y / 16))) (All-nil (λ b. b < 256))))

row_bytes : (n y : ℕ) → AreBytes (work_row n y)
unfolding work_row
row_bytes n y = pieces_bytes (λ x. work_pixel x y) (λ x. pixel_bytes x y) (below (8 * n + 5))

few_pixels : (n : ℕ) → n ≤ 400 → (8 * n + 5) * (4 * n + 3) ≤ 268435456
few_pixels n h =
    let m : (8 * n + 5) * (4 * n + 3) ≤ 3205 * 1603 = mul-le (8 * n + 5) (4 * n + 3) 3205 1603 (omega (arith, h)) (omega (arith, h)) in
    omega (arith, m)

pub right_image : (n : ℕ) → n ≤ 400 → IsRightImage (work_image n)
right_image n h = record { width_low = omega arith; width_high = omega (arith, h); height_low = omega arith; height_high = omega (arith, h); pixels = few_pixels n h; count = image_long n; bytes = pieces_bytes (work_row n) (row_bytes n) (below (4 * n + 3)) }
