use Rattle.std.proofs.Common.{rules, ◌<◌, ◌≤◌, ◌*ℤ◌, ℤ, ℕ, pos, nat_abs, get_or, slice_index, FitsSigned, sym, ap, arith, ◌∙◌}
use Rattle.std.specs.Int.{w16, w32}
use Rattle.std.proofs.lemmas.Int.{to_z-of_z}
use Rattle.std.proofs.lemmas.List.{length-set}
use Rattle.jpg_spec.specs.Lists.{index_of}
use Rattle.jpg_spec.specs.Zigzag.{zigzag}
use Rattle.jpg_spec.proofs.Basics.Rows.{by_items}
use Rattle.jpg_spec_image.specs.Dct.{number_at, dequantised}
use Rattle.jpg_dct.proofs.Eights.{fits16}
use Rattle.jpg_dct.proofs.Natural.{number_set}
use Rattle.jpg_dct.proofs.Zigzag.{places, place_is, pair_fits, place_low}
use Rattle.jpg_dct.proofs.inverse.multipliers.long_products.Goals as goal
use Rattle.jpg_spec_image.proofs.CodedBlocks.{all_at}

pub offset_bounds-given-k : goal.offset_bounds-given-k
offset_bounds-given-k c = record { fits = pair_fits _ (place_low c.loop-n.n (search rules)) }

pub bounds-given-k : goal.bounds-given-k
bounds-given-k c = place_low c.loop-n.n (search rules)

pub offset_bounds-quants-k : goal.offset_bounds-quants-k
offset_bounds-quants-k c = record { fits = pair_fits _ (place_low c.loop-n.n (search rules)) }

pub bounds-quants-k : goal.bounds-quants-k
bounds-quants-k c = place_low c.loop-n.n (search rules)

pub loop-n-preserved : goal.loop-n-preserved
loop-n-preserved c =
    let n = c.loop-n.n in
    let product : ℕ → ℤ = λ k. number_at c.args.given.now k *ℤ pos (slice_index c.args.quants.now k) in
    let lt : n < 64 = search rules in
    let f : FitsSigned w32 c.dequantise.result = search rules in
    let p = get_or places n 0 in
    let few : nat_abs (number_at c.args.given.now p) ≤ 1024 = all_at (λ x. nat_abs x ≤ 1024) c.args.given.now p (pos 0) c.requires (omega arith) in
    let given = to_z-of_z w16 (number_at c.args.given.now p) (fits16 (number_at c.args.given.now p) (omega (arith, few))) in (
      length-set c.loop-n.values n _ ∙ c.loop-n.invariant.0,
      number_set (λ k. product (index_of k zigzag)) c.loop-n.values n _ (omega (arith, lt, c.loop-n.invariant.0)) c.loop-n.invariant.1
          (to_z-of_z w32 c.dequantise.result f ∙ c.dequantise.ensures ∙ ap (λ x. x *ℤ pos (slice_index c.args.quants.now p)) given ∙ ap product (place_is n lt)),
    )

pub returns : goal.returns
unfolding dequantised
returns c =
    sym (by_items 64 (λ n. number_at c.args.given.now (index_of n zigzag) *ℤ pos (slice_index c.args.quants.now (index_of n zigzag))) c.loop-n.values (pos 0) c.loop-n.invariant.0
    (λ k lt. sym (c.loop-n.invariant.1 k (omega (arith, lt, c.loop-n-test.false)))))
