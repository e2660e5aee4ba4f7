-- The size of a BMP file is a number of 32 bits.
use Rattle.std.proofs.Common.{◌≡◌, ℕ, ◌+◌, ◌*◌, ◌≤◌, ◌∙◌, ap, arith}
use Rattle.std.proofs.Math.Nat.{mul-add, mul_left_comm, mul_comm}
use Rattle.std.proofs.lemmas.Nat.{mul-le}

-- w pixels a row of at most three bytes, and at most three bytes after each row
pub rows_fit : (w h long zeros : ℕ) → w * h ≤ 1073741824 → h ≤ 65500 → long ≤ 3 * w → zeros ≤ 3 → h * (long + zeros) ≤ 3221421972
rows_fit w h long zeros pixels high line few =
    let most : h * (long + zeros) ≤ h * (3 * w + 3) = mul-le h (long + zeros) h (3 * w + 3) (omega arith) (omega (arith, line, few)) in
    let cut : h * (3 * w + 3) ≡ h * (3 * w) + h * 3 = mul-add h (3 * w) 3 in
    let same : h * (3 * w) ≡ 3 * (w * h) = mul_left_comm h 3 w ∙ ap (λ n. 3 * n) (mul_comm h w) in
    omega (arith, most, cut, same, pixels, high)
