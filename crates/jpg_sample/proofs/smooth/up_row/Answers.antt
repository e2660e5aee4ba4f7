use Rattle.std.proofs.Common.{rules, ◌≡◌, ℕ, ◌+◌, ◌-◌, ◌*◌, ◌<◌, length, refl, ◌∙◌, arith}
use Rattle.jpg_spec_image.specs.Upsampling.{pair_of, up_row}
use Rattle.jpg_sample.proofs.Pairs.{two, left_is, right_is, right_end, pair_length, pair_step, pairs_done, moved_to}
use Rattle.jpg_sample.proofs.smooth.up_row.Goals as goal

pub loop-i-init : goal.loop-i-init
loop-i-init c =
    let row = c.args.row.now in
    let out = c.args.out.now in
    let new = c.put.new.out in (
      pair_length out new 0 1 _ _ c.put.ensures ∙ c.requires.room,
      pair_step (pair_of row) out new 0 _ _ (omega (arith, c.requires.some, c.requires.room)) c.put.ensures refl
          (two refl (c.right.ensures ∙ right_is row 0 (omega (arith, c.requires.some)))),
    )

pub loop-i-preserved : goal.loop-i-preserved
loop-i-preserved c =
    let row = c.args.row.now in
    let out = c.loop-i.out in
    let new = c.put-in-loop-i.new.out in
    let i = c.loop-i.i in
    let long : length out ≡ 2 * length row = c.loop-i.invariant.0 in
    let low : i + 1 < length row = search rules in (
      pair_length out new (2 * i) (2 * i + 1) _ _ c.put-in-loop-i.ensures ∙ long,
      pair_step (pair_of row) out new i _ _ (omega (arith, long, low)) c.put-in-loop-i.ensures c.loop-i.invariant.1
          (two (c.left.ensures ∙ left_is row i (search rules)) (c.right-in-loop-i.ensures ∙ right_is row i low)),
    )

pub returns : goal.returns
unfolding up_row
returns c =
    let row = c.args.row.now in
    let out = c.loop-i.out in
    let new = c.put-2.new.out in
    let last : ℕ = length row - 1 in
    let is : c.loop-i.i ≡ length row - 1 = search rules in
    let some = c.requires.some in
    let long : length out ≡ 2 * length row = c.loop-i.invariant.0 in
    pairs_done (pair_of row) new (length row) (omega (arith, some))
    (pair_length out new (2 * last) (2 * last + 1) _ _ c.put-2.ensures ∙ long)
    (pair_step (pair_of row) out new last _ _ (omega (arith, some, long)) c.put-2.ensures (moved_to (pair_of row) out c.loop-i.i last is c.loop-i.invariant.1)
    (two (c.left-2.ensures ∙ left_is row last (omega (arith, some))) (right_end row last (omega (arith, some)))))
