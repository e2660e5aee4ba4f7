use Rattle.std.specs.Prelude.{◌≡◌, ◌<◌, drop, map, flat_map, slice_index_or}
use Rattle.jpg_spec.specs.Geometry.{mcu_part, factor_sum}
use Rattle.jpg_spec.specs.declared.frame.Place.{Place}
use Rattle.jpg_base.proofs.frame.Frame.in_mcu.Given as goal

abbrev pub invariant-loop-part : goal.invariant-loop-part
invariant-loop-part l =
    ((d : Place) → slice_index_or (flat_map (mcu_part l.self l.column l.row) (map (λ p. p.component) l.parts)) l.k d
    ≡ slice_index_or (flat_map (mcu_part l.self l.column l.row) (map (λ p. p.component) (drop l.part-index l.parts))) l.left d)
    × (l.left < factor_sum l.self (map (λ p. p.component) (drop l.part-index l.parts)))
