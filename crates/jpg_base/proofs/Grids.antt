-- What the checks of a frame header guarantee of its components and grids.
use Rattle.std.proofs.Common.{ℕ, ◌*◌, ◌≤◌, List, [], ◌∷◌, length, arith, All}
use Rattle.std.proofs.lemmas.Nat.{mul-le}
use Rattle.std.proofs.lemmas.List.Elements.{All-head, All-tail, All-weaker}
use Rattle.std.proofs.lemmas.List.Sums.{sum_by-le}
use Rattle.jpg_spec.specs.FrameHeader.{HasFactors}
use Rattle.jpg_spec.specs.declared.frame.Component.{Component}
use Rattle.jpg_base.specs.Frame.{greatest_across, greatest_down, blocks_of}

pub across_high : (cs : List Component) → All HasFactors cs → greatest_across cs ≤ 4
across_high [] all = omega arith
across_high (c ∷ cs) all = omega (arith, (All-head HasFactors c cs all).h_high, across_high cs (All-tail HasFactors c cs all))

pub across_low : (cs : List Component) → All HasFactors cs → 1 ≤ length cs → 1 ≤ greatest_across cs
across_low [] all some = omega arith
across_low (c ∷ cs) all some = omega (arith, (All-head HasFactors c cs all).h_low)

pub down_high : (cs : List Component) → All HasFactors cs → greatest_down cs ≤ 4
down_high [] all = omega arith
down_high (c ∷ cs) all = omega (arith, (All-head HasFactors c cs all).v_high, down_high cs (All-tail HasFactors c cs all))

pub down_low : (cs : List Component) → All HasFactors cs → 1 ≤ length cs → 1 ≤ greatest_down cs
down_low [] all some = omega arith
down_low (c ∷ cs) all some = omega (arith, (All-head HasFactors c cs all).v_low)

-- all padded grids together
pub blocks_high : (wide high : ℕ) (cs : List Component) → wide ≤ 65532 → high ≤ 65532 → length cs ≤ 4 → All HasFactors cs → blocks_of wide high cs ≤ 4 * (262128 * 262128)
blocks_high wide high cs w h count all =
    let one : (c : Component) → HasFactors c → (wide * c.h) * (high * c.v) ≤ 262128 * 262128 =
    λ (c : Component) (f : HasFactors c). mul-le (wide * c.h) (high * c.v) 262128 262128 (mul-le wide c.h 65532 4 w f.h_high) (mul-le high c.v 65532 4 h f.v_high)
    in
    let each : All (λ c. (wide * c.h) * (high * c.v) ≤ 262128 * 262128) cs = All-weaker HasFactors (λ c. (wide * c.h) * (high * c.v) ≤ 262128 * 262128) one cs all in
    omega (arith, sum_by-le (λ c. (wide * c.h) * (high * c.v)) (262128 * 262128) cs each, mul-le (length cs) (262128 * 262128) 4 (262128 * 262128) count)
