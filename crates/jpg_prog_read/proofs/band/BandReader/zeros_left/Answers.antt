use Rattle.std.proofs.Common.{◌≡◌, ap, arith, ◌*◌, ◌-◌, ◌%◌, ◌^◌}
use Rattle.std.specs.Int.RustNames.{count_ones}
use Rattle.std.proofs.lemmas.Nat.{one_shl}
use Rattle.jpg_spec.specs.Elements.{zeros_in}
use Rattle.jpg_prog_read.specs.InWork.{InWork}
use Rattle.jpg_prog_read.proofs.Marked.{zeros_marked}
use Rattle.jpg_prog_read.proofs.band.BandReader.zeros_left.Goals as goal

pub overflow_sub-result : goal.overflow_sub-result
overflow_sub-result c =
    let i = c.self.inside in let k = c.self.invariant in
    let left = i.end - i.at in
    let z = zeros_marked i.values i.at i.end i.olds k.whole k.fits k.marked in
    let low : 1 * 2 ^ left % 2 ^ 64 ≡ 2 ^ left = one_shl left 64 (omega (arith, k.few)) in
    omega (arith, z, ap (λ m. count_ones (i.olds % m)) low)

pub returns : goal.returns
returns c =
    let i = c.self.inside in let k = c.self.invariant in
    let left = i.end - i.at in
    let z = zeros_marked i.values i.at i.end i.olds k.whole k.fits k.marked in
    let low : 1 * 2 ^ left % 2 ^ 64 ≡ 2 ^ left = one_shl left 64 (omega (arith, k.few)) in
    omega (arith, z, ap (λ m. count_ones (i.olds % m)) low, ap (λ (s : InWork). zeros_in s.rest) c.self.view_is)
