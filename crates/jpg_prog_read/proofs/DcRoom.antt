-- DC values that are known down to a bit have room for the next.
use Rattle.std.proofs.Common.{◌≡◌, ℕ, zero, suc, ◌+◌, ◌-◌, ◌*◌, ◌^◌, ◌≤◌, ap, ◌∙◌, subst, sym, arith, add-one, ℤ, pos, negsuc, ◌+ℤ◌, ◌≤ℤ◌}
use Rattle.std.proofs.lemmas.Int.{ints}
use Rattle.std.proofs.lemmas.Nat.{mul-le}
use Rattle.std.proofs.Math.Nat.{pow-succ'}
use Rattle.jpg_spec.specs.Elements.{Coding}
use Rattle.jpg_spec.specs.Geometry.{Frame, bounds}
use Rattle.jpg_spec.specs.declared.frame.Bounds.{Bounds}
use Rattle.jpg_prog_read.specs.Known.{IsMultiple}
use Rattle.jpg_prog_read.specs.DcRefinement.{HasDcRoom, IsKnownDc}
use Rattle.jpg_prog_read.proofs.Known.{known_refinable}
use Rattle.jpg_prog_read.proofs.Precisions.{fits_words}

-- the next bit of a negative value leaves it below 1
below_one : (n m al : ℕ) → suc n ≡ m * 2 ^ (al + 1) → 2 ^ al ≤ suc n
below_one n zero al e = absurd (omega (arith, e))
below_one n (suc m) al e =
    let p : 2 ^ (al + 1) ≡ 2 * 2 ^ al = ap (λ k. 2 ^ k) (add-one al) ∙ pow-succ' 2 al in
    let g : 1 * 2 ^ (al + 1) ≤ suc m * 2 ^ (al + 1) = mul-le 1 (2 ^ (al + 1)) (suc m) (2 ^ (al + 1)) (omega arith) (omega arith) in
    omega (arith, e, p, g)

room_below : (al category : ℕ) (o : ℤ) → al + 1 ≤ category → IsMultiple (al + 1) o → o ≤ℤ pos (2 ^ category - 1) → (o +ℤ pos (2 ^ al)) ≤ℤ pos (2 ^ category - 1)
room_below al category (pos n) le k high =
    let h = known_refinable k.0 al category n le k.1 (omega (arith, ints, high)) in
    omega (arith, ints, h)
room_below al category (negsuc n) le k high =
    let h = below_one n k.0 al k.1 in
    omega (arith, ints, h)

pub room_known : (f : Frame) (c : Coding) (o : ℤ) → c.bounds ≡ bounds f → c.al + 1 ≤ (bounds f).al → IsKnownDc c o → HasDcRoom c o
room_known f c o e le k =
    let w = fits_words f.precision in
    let top : c.bounds.dc_high ≡ pos (2 ^ (bounds f).ac_cat - 1) = ap (λ (b : Bounds). b.dc_high) e ∙ w.dc_high in
    let few = w.bits in
    record {
      low = k.low;
      high = subst (λ (x : ℤ). (o +ℤ pos (2 ^ c.al)) ≤ℤ x) (sym top) (room_below c.al (bounds f).ac_cat o (omega (arith, le, few)) k.known (subst (λ (x : ℤ). o ≤ℤ x) top k.high));
    }
