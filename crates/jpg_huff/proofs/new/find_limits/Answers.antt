use Rattle.std.proofs.Common.{◌+◌, ◌-◌, ◌∙◌, refl, arith, drop, ◌≡◌}
use Rattle.std.proofs.lemmas.List.{length-set}
use Rattle.jpg_huff.specs.Index.{limit_from}
use Rattle.jpg_huff.specs.New.{first_number}
use Rattle.jpg_huff.proofs.Made.{first_more, limit_more, limit_last, set_down}
use Rattle.jpg_huff.proofs.new.find_limits.Goals as goal

pub loop-left-init : goal.loop-left-init
loop-left-init c =
    let each = c.requires.each 15 (omega arith) in
    let fits = c.requires.fits 15 (omega arith) in
    let more = first_more c.args.bits.now 15 in
    record {
      size = refl;
      inside = omega arith;
      low = omega (arith, each, fits);
      is = omega (arith, more, each, limit_last c.args.bits.now 16 (first_number c.args.bits.now 16) (omega arith));
      done = λ k a b. absurd (omega arith);
    }

pub loop-left-preserved : goal.loop-left-preserved
loop-left-preserved c =
    let i = c.loop-left.invariant in
    let p = c.loop-left.left - 1 in
    let back : p + 1 ≡ c.loop-left.left = omega arith in
    let whole : c.loop-left.limit ≡ limit_from (first_number c.args.bits.now (p + 1)) (drop (p + 1) c.args.bits.now) = rw back i.is in
    let here : c.div_ceil-limit.result ≡ limit_from (first_number c.args.bits.now p) (drop p c.args.bits.now) = omega (arith, whole, limit_more c.args.bits.now p (omega arith)) in
    record {
      size = length-set c.loop-left.limits p c.div_ceil-limit.result ∙ i.size;
      inside = omega arith;
      low = omega arith;
      is = here;
      done = set_down c.loop-left.limits p c.div_ceil-limit.result 16 (λ k. limit_from (first_number c.args.bits.now k) (drop k c.args.bits.now)) (omega (arith, i.size)) here
          (λ k a b. i.done k (omega arith) b);
    }
