-- The frame of a transformed picture passes the checks of a frame.
use Rattle.std.proofs.Common.{◌≤◌, List, [], ◌∷◌, length, map, arith}
use Rattle.std.specs.List.{All}
use Rattle.std.proofs.lemmas.List.Elements.{All-head}
use Rattle.jpg_spec.specs.Geometry.{greatest}
use Rattle.jpg_spec.specs.FrameHeader.{HasFactors}
use Rattle.jpg_spec.specs.declared.frame.Component.{Component}

-- GREATEST FACTORS

pub across_low : (cs : List Component) → All HasFactors cs → 1 ≤ length cs → 1 ≤ greatest (map (λ c. c.h) cs)
across_low [] all some = absurd (omega (arith, some))
across_low (c ∷ cs) all some = (let h = (All-head HasFactors c cs all).h_low in omega (arith, h))

pub down_low : (cs : List Component) → All HasFactors cs → 1 ≤ length cs → 1 ≤ greatest (map (λ c. c.v) cs)
down_low [] all some = absurd (omega (arith, some))
down_low (c ∷ cs) all some = (let h = (All-head HasFactors c cs all).v_low in omega (arith, h))
