use Rattle.std.proofs.Common.{rules, ◌≡◌, ℕ, ◌+◌, ◌-◌, ◌*◌, ◌<◌, length, refl, ◌∙◌, arith}
use Rattle.jpg_spec_image.specs.Upsampling.{pair_of2, up_rows2, column_sum}
use Rattle.jpg_sample.proofs.Pairs.{two, mixed_is, four_times, left_is2, right_is2, right_end2, pair_length, pair_step, pairs_done, moved_to}
use Rattle.jpg_sample.proofs.smooth.up_rows2.Goals as goal

pub loop-i-init : goal.loop-i-init
loop-i-init c =
    let near = c.args.near.now in
    let far = c.args.far.now in
    let out = c.args.out.now in
    let new = c.put.new.out in
    let first = c.sum-first.ensures.value in (
      pair_length out new 0 1 _ _ c.put.ensures ∙ c.requires.room,
      pair_step (pair_of2 near far) out new 0 _ _ (omega (arith, c.requires.some, c.requires.room)) c.put.ensures refl
          (two (mixed_is near far 0 0 _ _ 8 _ first first c.mixed-first_left.ensures ∙ four_times (column_sum near far 0) 8)
          (mixed_is near far 0 1 _ _ 7 _ first c.sum-second.ensures.value c.mixed-first_right.ensures ∙ right_is2 near far 0 (omega (arith, c.requires.some)))),
    )

pub loop-i-preserved : goal.loop-i-preserved
loop-i-preserved c =
    let near = c.args.near.now in
    let far = c.args.far.now in
    let out = c.loop-i.out in
    let new = c.put-in-loop-i.new.out in
    let i = c.loop-i.i in
    let long : length out ≡ 2 * length near = c.loop-i.invariant.0 in
    let low : i + 1 < length near = search rules in
    let here = c.sum-here.ensures.value in (
      pair_length out new (2 * i) (2 * i + 1) _ _ c.put-in-loop-i.ensures ∙ long,
      pair_step (pair_of2 near far) out new i _ _ (omega (arith, long, low)) c.put-in-loop-i.ensures c.loop-i.invariant.1
          (two (mixed_is near far i (i - 1) _ _ 8 _ here c.sum-before.ensures.value c.mixed-to_left.ensures ∙ left_is2 near far i (search rules))
          (mixed_is near far i (i + 1) _ _ 7 _ here c.sum-after.ensures.value c.mixed-to_right.ensures ∙ right_is2 near far i low)),
    )

pub returns : goal.returns
unfolding up_rows2
returns c =
    let near = c.args.near.now in
    let far = c.args.far.now in
    let out = c.loop-i.out in
    let new = c.put-2.new.out in
    let last : ℕ = length near - 1 in
    let is : c.loop-i.i ≡ length near - 1 = search rules in
    let some = c.requires.some in
    let long : length out ≡ 2 * length near = c.loop-i.invariant.0 in
    let end = c.sum-end.ensures.value in
    pairs_done (pair_of2 near far) new (length near) (omega (arith, some))
    (pair_length out new (2 * last) (2 * last + 1) _ _ c.put-2.ensures ∙ long)
    (pair_step (pair_of2 near far) out new last _ _ (omega (arith, some, long)) c.put-2.ensures (moved_to (pair_of2 near far) out c.loop-i.i last is c.loop-i.invariant.1)
    (two (mixed_is near far last (last - 1) _ _ 8 _ end c.sum-front.ensures.value c.mixed-last_left.ensures ∙ left_is2 near far last (omega (arith, some)))
    (mixed_is near far last last _ _ 7 _ end end c.mixed-last_right.ensures ∙ four_times (column_sum near far last) 7 ∙ right_end2 near far last (omega (arith, some)))))
