use Rattle.std.proofs.Common.{◌≡◌, ◌+◌, ◌*◌, ◌<◌, ◌≤◌, ℕ, ℤ, slice_index, nat_abs, ap, ◌∙◌, arith}
use Rattle.jpg_spec_image.specs.Dct.{number_at}
use Rattle.jpg_dct.specs.Division.{with_sign}
use Rattle.jpg_dct.proofs.Eights.{seen_eight16, same16}
use Rattle.jpg_dct.proofs.EightQuotients.{whole_small}
use Rattle.jpg_dct.proofs.forward.eight_quotients.quotients.Goals as goal

pub sizes-size-requires : goal.sizes-size-requires
sizes-size-requires c = seen_eight16 (omega arith) c.requires.lanes

pub sums-more-requires : goal.sums-more-requires
sums-more-requires c = λ k lt. (
    let n : ℕ = 8 * c.args.v + k in
    let there : n < 64 = omega (arith, lt, c.requires.place) in
    let size : slice_index c.sizes-size.result k ≤ 8192 = omega (arith, c.sizes-size.ensures k lt, (seen_eight16 (omega arith) c.requires.lanes).small k lt) in
    omega (arith, size, c.table_row-half.ensures k lt, c.requires.few.half n there))

pub signed-requires-clause-lanes : goal.signed-requires-clause-lanes
signed-requires-clause-lanes c = seen_eight16 (omega arith) c.requires.lanes

pub signed-requires-clause-small : goal.signed-requires-clause-small
signed-requires-clause-small c = λ k lt. (
    let n : ℕ = 8 * c.args.v + k in
    let there : n < 64 = omega (arith, lt, c.requires.place) in
    let size : slice_index c.sizes-size.result k ≤ 8192 = omega (arith, c.sizes-size.ensures k lt, (seen_eight16 (omega arith) c.requires.lanes).small k lt) in
    let more : slice_index c.sums-more.result k ≤ 16388 = omega (arith, size, c.table_row-half.ensures k lt, c.requires.few.half n there, c.sums-more.ensures k lt) in
    let factor : slice_index c.table_row-factor.result k < 65536 = omega (arith, c.table_row-factor.ensures k lt, c.fits-factors n) in
    let scale : slice_index c.table_row-scale.result k ≤ 16384 = omega (arith, c.table_row-scale.ensures k lt, c.requires.few.scale n there) in
    omega (
      arith,
      whole_small (slice_index c.sums-more.result k) (slice_index c.table_row-factor.result k) (slice_index c.table_row-scale.result k) more factor scale,
      c.high_parts-part.ensures k lt,
      c.high_parts-whole.ensures k lt,
      ap (λ p. p * slice_index c.table_row-scale.result k) (c.high_parts-part.ensures k lt),
    ))

pub returns-clause-all : goal.returns-clause-all
returns-clause-all c = seen_eight16 (omega arith) c.signed.ensures.all

pub returns-clause-at : goal.returns-clause-at
returns-clause-at c = λ k lt. (
    let n : ℕ = 8 * c.args.v + k in
    let x : ℤ = number_at c.args.x k in
    let same = same16 8192 c.args.x (omega arith) c.requires.lanes in
    let size : slice_index c.sizes-size.result k ≡ nat_abs x = c.sizes-size.ensures k lt ∙ ap (λ xs. nat_abs (number_at xs k)) same in
    ap (λ xs. number_at xs k) (same16 16384 c.signed.result (omega arith) c.signed.ensures.all)
    ∙ c.signed.ensures.at k lt
    ∙ ap (λ xs. with_sign (number_at xs k) (slice_index c.high_parts-whole.result k)) same
    ∙ cc (
      c.high_parts-whole.ensures k lt,
      c.high_parts-part.ensures k lt,
      c.sums-more.ensures k lt,
      size,
      c.table_row-half.ensures k lt,
      c.table_row-factor.ensures k lt,
      c.table_row-scale.ensures k lt,
    ))
