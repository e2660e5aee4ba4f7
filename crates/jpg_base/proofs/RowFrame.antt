-- One row of MCUs is a frame.
use Rattle.std.proofs.Common.{◌≡◌, ℕ, ◌+◌, ◌*◌, ◌≤◌, ◌<◌, Bool, true, false, ◌==◌, if◌then◌else◌, List, [], ◌∷◌, length, arith}
use Rattle.std.specs.List.{fold}
use Rattle.std.proofs.lemmas.Nat.{mul-le}
use Rattle.std.proofs.Math.Nat.{le-div_iff_mul-le, div-lt_iff_lt-mul}
use Rattle.jpg_spec.specs.Geometry.{Frame, div_up, v_max, mcus_across, mcus_down, padded_blocks, mcu_row_frame}
use Rattle.jpg_spec.specs.declared.frame.Component.{Component}
use Rattle.jpg_base.specs.Frame.{IsCheckedFrame, blocks_of}

-- sums of two functions, one of which is never greater
sums_in_order : (f g : Component → ℕ) → ((c : Component) → f c ≤ g c) → (cs : List Component) (a b : ℕ) → a ≤ b → fold (λ n c. n + f c) a cs ≤ fold (λ n c. n + g c) b cs
sums_in_order f g le [] a b ab = ab
sums_in_order f g le (c ∷ cs) a b ab = sums_in_order f g le cs (a + f c) (b + g c) (omega (arith, ab, le c))

fewer_blocks : (wide less more : ℕ) → less ≤ more → (cs : List Component) → blocks_of wide less cs ≤ blocks_of wide more cs
fewer_blocks wide less more le cs =
    sums_in_order (λ c. (wide * c.h) * (less * c.v)) (λ c. (wide * c.h) * (more * c.v))
    (λ (c : Component). mul-le (wide * c.h) (less * c.v) (wide * c.h) (more * c.v) (omega arith) (mul-le less c.v more c.v le (omega arith)))
    cs 0 0 (omega arith)

-- lines of at most one MCU make at most one row of MCUs, and every frame has one
one_row : (lines height d : ℕ) → 1 ≤ d → lines ≤ d → 1 ≤ height → div_up lines d ≤ div_up height d
one_row lines height d some few tall =
    let most : div_up lines d < 2 = (div-lt_iff_lt-mul some).1 (omega (arith, few, some)) in
    let least : 1 ≤ div_up height d = (le-div_iff_mul-le some).1 (omega (arith, tall, some)) in
    omega (arith, most, least)

lines_of : (b : Bool) (v : ℕ) → 1 ≤ v → v ≤ 4 → (1 ≤ (if b then 8 else 8 * v)) × (((if b then 8 else 8 * v) ≤ 8 * v) × ((if b then 8 else 8 * v) ≤ 32))
lines_of true v low high = (omega arith, (omega (arith, low), omega arith))
lines_of false v low high = (omega (arith, low), (omega arith, omega (arith, high)))

pub row_is_checked : (f : Frame) (across down : ℕ) → IsCheckedFrame f across down → IsCheckedFrame (mcu_row_frame f) across down
row_is_checked f across down k =
    let is : down ≡ v_max f = k.down in
    let lines = lines_of (length f.components == 1) (v_max f) (omega (arith, is, k.down_low)) (omega (arith, is, k.down_high)) in
    let rows : mcus_down (mcu_row_frame f) ≤ mcus_down f =
    one_row (mcu_row_frame f).height f.height (8 * v_max f) (omega (arith, is, k.down_low)) lines.1.0 k.checked.height_low in
    let fewer : padded_blocks (mcu_row_frame f) ≤ padded_blocks f = fewer_blocks (mcus_across f) (mcus_down (mcu_row_frame f)) (mcus_down f) rows f.components in
    record {
      checked = record {
        width_low = k.checked.width_low;
        width_high = k.checked.width_high;
        height_low = lines.0;
        height_high = omega (arith, lines.1.1);
        precision = k.checked.precision;
        count_low = k.checked.count_low;
        count_high = k.checked.count_high;
        factors = k.checked.factors;
        distinct = k.checked.distinct;
        slots = k.checked.slots;
        blocks = omega (arith, fewer, k.checked.blocks);
      };
      across = k.across;
      down = k.down;
      across_low = k.across_low;
      across_high = k.across_high;
      down_low = k.down_low;
      down_high = k.down_high;
    }
