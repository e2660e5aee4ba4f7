use Rattle.std.proofs.Common.{◌≡◌, pos, ◌+ℤ◌, ◌-ℤ◌, ◌*ℤ◌, to_z, of_z}
use Rattle.std.specs.Int.{w64, int_wrap}
use Rattle.jpg_spec_image.specs.Dct.{odd_sums}
use Rattle.jpg_dct.proofs.Several.{four}
use Rattle.jpg_dct.proofs.Wrapped.{given, summed, less, scaled}
use Rattle.jpg_dct.proofs.inverse.wide.odd.Goals as goal

pub returns : goal.returns
unfolding odd_sums
returns c =
    let low : to_z w64 (of_z w64 c.plus-low.result) ≡ int_wrap w64 (c.args.i1 +ℤ c.args.i3) = summed w64 _ _ _ _ _ (given w64 c.args.i1 c.ranges.i1) (given w64 c.args.i3 c.ranges.i3) c.plus-low.ensures in
    let high : to_z w64 (of_z w64 c.plus-high.result) ≡ int_wrap w64 (c.args.i5 +ℤ c.args.i7) = summed w64 _ _ _ _ _ (given w64 c.args.i5 c.ranges.i5) (given w64 c.args.i7 c.ranges.i7) c.plus-high.ensures in
    let all : to_z w64 (of_z w64 c.plus-all.result) ≡ int_wrap w64 ((c.args.i1 +ℤ c.args.i3) +ℤ (c.args.i5 +ℤ c.args.i7)) = summed w64 _ _ _ _ _ low high c.plus-all.ensures in
    let z5 : to_z w64 (of_z w64 c.times-z5.result) ≡ int_wrap w64 (((c.args.i1 +ℤ c.args.i3) +ℤ (c.args.i5 +ℤ c.args.i7)) *ℤ pos 9633) = scaled w64 _ _ _ _ all c.times-z5.ensures in
    let s71 : to_z w64 (of_z w64 c.plus-s71.result) ≡ int_wrap w64 (c.args.i7 +ℤ c.args.i1) = summed w64 _ _ _ _ _ (given w64 c.args.i7 c.ranges.i7) (given w64 c.args.i1 c.ranges.i1) c.plus-s71.ensures in
    let z1 : to_z w64 (of_z w64 c.times-z1.result) ≡ int_wrap w64 ((c.args.i7 +ℤ c.args.i1) *ℤ pos 7373) = scaled w64 _ _ _ _ s71 c.times-z1.ensures in
    let s53 : to_z w64 (of_z w64 c.plus-s53.result) ≡ int_wrap w64 (c.args.i5 +ℤ c.args.i3) = summed w64 _ _ _ _ _ (given w64 c.args.i5 c.ranges.i5) (given w64 c.args.i3 c.ranges.i3) c.plus-s53.ensures in
    let z2 : to_z w64 (of_z w64 c.times-z2.result) ≡ int_wrap w64 ((c.args.i5 +ℤ c.args.i3) *ℤ pos 20995) = scaled w64 _ _ _ _ s53 c.times-z2.ensures in
    let s73 : to_z w64 (of_z w64 c.plus-s73.result) ≡ int_wrap w64 (c.args.i7 +ℤ c.args.i3) = summed w64 _ _ _ _ _ (given w64 c.args.i7 c.ranges.i7) (given w64 c.args.i3 c.ranges.i3) c.plus-s73.ensures in
    let p73 : to_z w64 (of_z w64 c.times-p73.result) ≡ int_wrap w64 ((c.args.i7 +ℤ c.args.i3) *ℤ pos 16069) = scaled w64 _ _ _ _ s73 c.times-p73.ensures in
    let z3 : to_z w64 (of_z w64 c.minus-z3.result) ≡ int_wrap w64 ((((c.args.i1 +ℤ c.args.i3) +ℤ (c.args.i5 +ℤ c.args.i7)) *ℤ pos 9633) -ℤ ((c.args.i7 +ℤ c.args.i3) *ℤ pos 16069)) = less w64 _ _ _ _ _ z5 p73 c.minus-z3.ensures in
    let s51 : to_z w64 (of_z w64 c.plus-s51.result) ≡ int_wrap w64 (c.args.i5 +ℤ c.args.i1) = summed w64 _ _ _ _ _ (given w64 c.args.i5 c.ranges.i5) (given w64 c.args.i1 c.ranges.i1) c.plus-s51.ensures in
    let p51 : to_z w64 (of_z w64 c.times-p51.result) ≡ int_wrap w64 ((c.args.i5 +ℤ c.args.i1) *ℤ pos 3196) = scaled w64 _ _ _ _ s51 c.times-p51.ensures in
    let z4 : to_z w64 (of_z w64 c.minus-z4.result) ≡ int_wrap w64 ((((c.args.i1 +ℤ c.args.i3) +ℤ (c.args.i5 +ℤ c.args.i7)) *ℤ pos 9633) -ℤ ((c.args.i5 +ℤ c.args.i1) *ℤ pos 3196)) = less w64 _ _ _ _ _ z5 p51 c.minus-z4.ensures in
    let p7 : to_z w64 (of_z w64 c.times-p7.result) ≡ int_wrap w64 (c.args.i7 *ℤ pos 2446) = scaled w64 _ _ _ _ (given w64 c.args.i7 c.ranges.i7) c.times-p7.ensures in
    let d0 : to_z w64 (of_z w64 c.minus-d0.result) ≡ int_wrap w64 ((c.args.i7 *ℤ pos 2446) -ℤ ((c.args.i7 +ℤ c.args.i1) *ℤ pos 7373)) = less w64 _ _ _ _ _ p7 z1 c.minus-d0.ensures in
    let o0 : to_z w64 (of_z w64 c.plus-o0.result) ≡ int_wrap w64 (((c.args.i7 *ℤ pos 2446) -ℤ ((c.args.i7 +ℤ c.args.i1) *ℤ pos 7373)) +ℤ ((((c.args.i1 +ℤ c.args.i3) +ℤ (c.args.i5 +ℤ c.args.i7)) *ℤ pos 9633) -ℤ ((c.args.i7 +ℤ c.args.i3) *ℤ pos 16069))) = summed w64 _ _ _ _ _ d0 z3 c.plus-o0.ensures in
    let p5 : to_z w64 (of_z w64 c.times-p5.result) ≡ int_wrap w64 (c.args.i5 *ℤ pos 16819) = scaled w64 _ _ _ _ (given w64 c.args.i5 c.ranges.i5) c.times-p5.ensures in
    let d1 : to_z w64 (of_z w64 c.minus-d1.result) ≡ int_wrap w64 ((c.args.i5 *ℤ pos 16819) -ℤ ((c.args.i5 +ℤ c.args.i3) *ℤ pos 20995)) = less w64 _ _ _ _ _ p5 z2 c.minus-d1.ensures in
    let o1 : to_z w64 (of_z w64 c.plus-o1.result) ≡ int_wrap w64 (((c.args.i5 *ℤ pos 16819) -ℤ ((c.args.i5 +ℤ c.args.i3) *ℤ pos 20995)) +ℤ ((((c.args.i1 +ℤ c.args.i3) +ℤ (c.args.i5 +ℤ c.args.i7)) *ℤ pos 9633) -ℤ ((c.args.i5 +ℤ c.args.i1) *ℤ pos 3196))) = summed w64 _ _ _ _ _ d1 z4 c.plus-o1.ensures in
    let p3 : to_z w64 (of_z w64 c.times-p3.result) ≡ int_wrap w64 (c.args.i3 *ℤ pos 25172) = scaled w64 _ _ _ _ (given w64 c.args.i3 c.ranges.i3) c.times-p3.ensures in
    let d2 : to_z w64 (of_z w64 c.minus-d2.result) ≡ int_wrap w64 ((c.args.i3 *ℤ pos 25172) -ℤ ((c.args.i5 +ℤ c.args.i3) *ℤ pos 20995)) = less w64 _ _ _ _ _ p3 z2 c.minus-d2.ensures in
    let o2 : to_z w64 (of_z w64 c.plus-o2.result) ≡ int_wrap w64 (((c.args.i3 *ℤ pos 25172) -ℤ ((c.args.i5 +ℤ c.args.i3) *ℤ pos 20995)) +ℤ ((((c.args.i1 +ℤ c.args.i3) +ℤ (c.args.i5 +ℤ c.args.i7)) *ℤ pos 9633) -ℤ ((c.args.i7 +ℤ c.args.i3) *ℤ pos 16069))) = summed w64 _ _ _ _ _ d2 z3 c.plus-o2.ensures in
    let p1 : to_z w64 (of_z w64 c.times-p1.result) ≡ int_wrap w64 (c.args.i1 *ℤ pos 12299) = scaled w64 _ _ _ _ (given w64 c.args.i1 c.ranges.i1) c.times-p1.ensures in
    let d3 : to_z w64 (of_z w64 c.minus-d3.result) ≡ int_wrap w64 ((c.args.i1 *ℤ pos 12299) -ℤ ((c.args.i7 +ℤ c.args.i1) *ℤ pos 7373)) = less w64 _ _ _ _ _ p1 z1 c.minus-d3.ensures in
    let o3 : to_z w64 (of_z w64 c.plus-o3.result) ≡ int_wrap w64 (((c.args.i1 *ℤ pos 12299) -ℤ ((c.args.i7 +ℤ c.args.i1) *ℤ pos 7373)) +ℤ ((((c.args.i1 +ℤ c.args.i3) +ℤ (c.args.i5 +ℤ c.args.i7)) *ℤ pos 9633) -ℤ ((c.args.i5 +ℤ c.args.i1) *ℤ pos 3196))) = summed w64 _ _ _ _ _ d3 z4 c.plus-o3.ensures in
    four o0 o1 o2 o3
