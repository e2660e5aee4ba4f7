use Rattle.std.proofs.Common.{◌≡◌, ℕ, length, ap, subst, arith}
use Rattle.jpg_spec.specs.Geometry.{padded_blocks}
use Rattle.jpg_coefs.specs.Picture.{Picture, map_of}
use Rattle.jpg_coefs.specs.Stored.{by_rows}
use Rattle.jpg_coefs.proofs.Maps.{map_sizes}
use Rattle.jpg_coefs.proofs.Stored.{count_stored, sizes_stored}
use Rattle.jpg_coefs.proofs.coefs.Coefs.checked.Goals as goal

pub returns-clause-sizes : goal.returns-clause-sizes
returns-clause-sizes c =
    let i = c.self.inside in
    let long : length i.blocks ≡ padded_blocks i.frame = omega (arith, c.self.invariant.1) in
    let q : Picture = record { frame = i.frame; blocks = by_rows i.frame i.layout.order i.blocks } in
    subst (λ (p : Picture). (i x y : ℕ) → length (map_of p i x y) ≡ 64) c.self.view_is (map_sizes q (sizes_stored i.frame i.layout.order i.blocks long c.sized.ensures))

pub returns-clause-count : goal.returns-clause-count
returns-clause-count c =
    let i = c.self.inside in
    let long : length i.blocks ≡ padded_blocks i.frame = omega (arith, c.self.invariant.1) in
    let e = count_stored i.frame i.layout.order i.blocks long in
    omega (arith, e, ap (λ (p : Picture). length p.blocks) c.self.view_is, ap (λ (p : Picture). padded_blocks p.frame) c.self.view_is)
