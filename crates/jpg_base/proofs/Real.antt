-- A component has at least one real block.
use Rattle.std.proofs.Common.{ℕ, ◌+◌, ◌-◌, ◌*◌, ◌<◌, ◌≤◌, arith}
use Rattle.std.proofs.lemmas.Nat.{mul-le}
use Rattle.jpg_spec.specs.Geometry.{div_up}
use Rattle.jpg_spec.proofs.Places.PlacesSome.{one_at_least}

pub one_real : (side factor most : ℕ) → 0 < most → 1 ≤ side → 1 ≤ factor → 1 ≤ div_up (div_up (side * factor) most) 8
one_real side factor most some s f =
    let samples : 1 * 1 ≤ side * factor = mul-le 1 1 side factor s f in
    one_at_least (div_up (side * factor) most) 8 (omega arith) (one_at_least (side * factor) most some (omega (arith, samples)))
