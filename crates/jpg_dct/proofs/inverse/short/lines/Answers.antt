use Rattle.std.specs.Int.{w16, w32, int_wrap}
use Rattle.std.proofs.Common.{ℤ, List, map, ◌≡◌, ◌+ℤ◌, to_z, of_z, ap, arith, ◌∙◌}
use Rattle.std.proofs.lemmas.Int.{to_z-of_z}
use Rattle.jpg_spec_image.specs.Dct.{number_at, even_sums, odd_sums, joined_sums}
use Rattle.jpg_dct.specs.Eights.{IsEight}
use Rattle.jpg_dct.specs.Sums.{four_sums_at, wrapped_more}
use Rattle.jpg_dct.proofs.Several.{eight, same4}
use Rattle.jpg_dct.proofs.Eights.{seen, same16, seen_eight16, seen_long}
use Rattle.jpg_dct.proofs.LongSums.{wrapped_at, moved_sum, moved_gap}
use Rattle.jpg_dct.proofs.inverse.short.lines.Goals as goal

pub even-b-requires : goal.even-b-requires
even-b-requires c = (
  seen_eight16 (omega arith) (c.requires 0 (omega arith)),
  seen_eight16 (omega arith) (c.requires 2 (omega arith)),
  seen_eight16 (omega arith) (c.requires 4 (omega arith)),
  seen_eight16 (omega arith) (c.requires 6 (omega arith)),
)

pub odd-o-requires : goal.odd-o-requires
odd-o-requires c = (
  seen_eight16 (omega arith) (c.requires 1 (omega arith)),
  seen_eight16 (omega arith) (c.requires 3 (omega arith)),
  seen_eight16 (omega arith) (c.requires 5 (omega arith)),
  seen_eight16 (omega arith) (c.requires 7 (omega arith)),
)

pub both-v0-requires : goal.both-v0-requires
both-v0-requires c = (seen_long w32 c.even-b.result.v0 c.even-b.ensures.long.at0, seen_long w32 c.odd-o.result.v3 c.odd-o.ensures.long.at3)

pub both-v1-requires : goal.both-v1-requires
both-v1-requires c = (seen_long w32 c.even-b.result.v1 c.even-b.ensures.long.at1, seen_long w32 c.odd-o.result.v2 c.odd-o.ensures.long.at2)

pub both-v2-requires : goal.both-v2-requires
both-v2-requires c = (seen_long w32 c.even-b.result.v2 c.even-b.ensures.long.at2, seen_long w32 c.odd-o.result.v1 c.odd-o.ensures.long.at1)

pub both-v3-requires : goal.both-v3-requires
both-v3-requires c = (seen_long w32 c.even-b.result.v3 c.even-b.ensures.long.at3, seen_long w32 c.odd-o.result.v0 c.odd-o.ensures.long.at0)

pub less-v4-requires : goal.less-v4-requires
less-v4-requires c = (seen_long w32 c.even-b.result.v3 c.even-b.ensures.long.at3, seen_long w32 c.odd-o.result.v0 c.odd-o.ensures.long.at0)

pub less-v5-requires : goal.less-v5-requires
less-v5-requires c = (seen_long w32 c.even-b.result.v2 c.even-b.ensures.long.at2, seen_long w32 c.odd-o.result.v1 c.odd-o.ensures.long.at1)

pub less-v6-requires : goal.less-v6-requires
less-v6-requires c = (seen_long w32 c.even-b.result.v1 c.even-b.ensures.long.at1, seen_long w32 c.odd-o.result.v2 c.odd-o.ensures.long.at2)

pub less-v7-requires : goal.less-v7-requires
less-v7-requires c = (seen_long w32 c.even-b.result.v0 c.even-b.ensures.long.at0, seen_long w32 c.odd-o.result.v3 c.odd-o.ensures.long.at3)

pub returns-clause-long : goal.returns-clause-long
returns-clause-long c = record {
  at0 = seen_long w32 c.both-v0.result c.both-v0.ensures.long;
  at1 = seen_long w32 c.both-v1.result c.both-v1.ensures.long;
  at2 = seen_long w32 c.both-v2.result c.both-v2.ensures.long;
  at3 = seen_long w32 c.both-v3.result c.both-v3.ensures.long;
  at4 = seen_long w32 c.less-v4.result c.less-v4.ensures.long;
  at5 = seen_long w32 c.less-v5.result c.less-v5.ensures.long;
  at6 = seen_long w32 c.less-v6.result c.less-v6.ensures.long;
  at7 = seen_long w32 c.less-v7.result c.less-v7.ensures.long;
}

pub returns-clause-at : goal.returns-clause-at
unfolding joined_sums even_sums odd_sums
returns-clause-at c = λ k lt. (
    let same = λ (xs : List ℤ) (e : IsEight 32767 xs). same16 32767 xs (omega arith) e in
    let half : to_z w32 (of_z w32 c.args.half) ≡ c.args.half = to_z-of_z w32 c.args.half c.ranges.half in
    let b : List ℤ = even_sums (number_at c.args.d.v0 k) (number_at c.args.d.v2 k) (number_at c.args.d.v4 k) (number_at c.args.d.v6 k) in
    let o : List ℤ = odd_sums (number_at c.args.d.v1 k) (number_at c.args.d.v3 k) (number_at c.args.d.v5 k) (number_at c.args.d.v7 k) in
    let e : four_sums_at c.even-b.result k ≡ map (wrapped_more c.args.half) b =
    c.even-b.ensures.at k lt ∙ ap (λ n. map (wrapped_more n) (even_sums (number_at (seen w16 c.args.d.v0) k) (number_at (seen w16 c.args.d.v2) k) (number_at (seen w16 c.args.d.v4) k) (number_at (seen w16 c.args.d.v6) k))) half
    ∙ same4 (λ p q r s. map (wrapped_more c.args.half) (even_sums (number_at p k) (number_at q k) (number_at r k) (number_at s k)))
    (same c.args.d.v0 (c.requires 0 (omega arith))) (same c.args.d.v2 (c.requires 2 (omega arith))) (same c.args.d.v4 (c.requires 4 (omega arith))) (same c.args.d.v6 (c.requires 6 (omega arith))) in
    let f : four_sums_at c.odd-o.result k ≡ map (int_wrap w32) o =
    c.odd-o.ensures.at k lt
    ∙ same4 (λ p q r s. map (int_wrap w32) (odd_sums (number_at p k) (number_at q k) (number_at r k) (number_at s k)))
    (same c.args.d.v1 (c.requires 1 (omega arith))) (same c.args.d.v3 (c.requires 3 (omega arith))) (same c.args.d.v5 (c.requires 5 (omega arith))) (same c.args.d.v7 (c.requires 7 (omega arith))) in
    let b0 = wrapped_at c.even-b.result.v0 k (number_at b 0 +ℤ c.args.half) c.even-b.ensures.long.at0 lt (ap (λ (l : List ℤ). number_at l 0) e) in
    let o0 = wrapped_at c.odd-o.result.v0 k (number_at o 0) c.odd-o.ensures.long.at0 lt (ap (λ (l : List ℤ). number_at l 0) f) in
    let b1 = wrapped_at c.even-b.result.v1 k (number_at b 1 +ℤ c.args.half) c.even-b.ensures.long.at1 lt (ap (λ (l : List ℤ). number_at l 1) e) in
    let o1 = wrapped_at c.odd-o.result.v1 k (number_at o 1) c.odd-o.ensures.long.at1 lt (ap (λ (l : List ℤ). number_at l 1) f) in
    let b2 = wrapped_at c.even-b.result.v2 k (number_at b 2 +ℤ c.args.half) c.even-b.ensures.long.at2 lt (ap (λ (l : List ℤ). number_at l 2) e) in
    let o2 = wrapped_at c.odd-o.result.v2 k (number_at o 2) c.odd-o.ensures.long.at2 lt (ap (λ (l : List ℤ). number_at l 2) f) in
    let b3 = wrapped_at c.even-b.result.v3 k (number_at b 3 +ℤ c.args.half) c.even-b.ensures.long.at3 lt (ap (λ (l : List ℤ). number_at l 3) e) in
    let o3 = wrapped_at c.odd-o.result.v3 k (number_at o 3) c.odd-o.ensures.long.at3 lt (ap (λ (l : List ℤ). number_at l 3) f) in
    eight
    (moved_sum c.both-v0.result k (number_at b 0) (number_at o 3) c.args.half c.both-v0.ensures.long lt (c.both-v0.ensures.at k lt (number_at b 0 +ℤ c.args.half) (number_at o 3) b0 o3))
    (moved_sum c.both-v1.result k (number_at b 1) (number_at o 2) c.args.half c.both-v1.ensures.long lt (c.both-v1.ensures.at k lt (number_at b 1 +ℤ c.args.half) (number_at o 2) b1 o2))
    (moved_sum c.both-v2.result k (number_at b 2) (number_at o 1) c.args.half c.both-v2.ensures.long lt (c.both-v2.ensures.at k lt (number_at b 2 +ℤ c.args.half) (number_at o 1) b2 o1))
    (moved_sum c.both-v3.result k (number_at b 3) (number_at o 0) c.args.half c.both-v3.ensures.long lt (c.both-v3.ensures.at k lt (number_at b 3 +ℤ c.args.half) (number_at o 0) b3 o0))
    (moved_gap c.less-v4.result k (number_at b 3) (number_at o 0) c.args.half c.less-v4.ensures.long lt (c.less-v4.ensures.at k lt (number_at b 3 +ℤ c.args.half) (number_at o 0) b3 o0))
    (moved_gap c.less-v5.result k (number_at b 2) (number_at o 1) c.args.half c.less-v5.ensures.long lt (c.less-v5.ensures.at k lt (number_at b 2 +ℤ c.args.half) (number_at o 1) b2 o1))
    (moved_gap c.less-v6.result k (number_at b 1) (number_at o 2) c.args.half c.less-v6.ensures.long lt (c.less-v6.ensures.at k lt (number_at b 1 +ℤ c.args.half) (number_at o 2) b1 o2))
    (moved_gap c.less-v7.result k (number_at b 0) (number_at o 3) c.args.half c.less-v7.ensures.long lt (c.less-v7.ensures.at k lt (number_at b 0 +ℤ c.args.half) (number_at o 3) b0 o3)))
