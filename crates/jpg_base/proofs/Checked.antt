-- What a frame header that passed the checks guarantees.
use Rattle.std.proofs.Common.{◌≡◌, ℕ, ◌≤◌, Bool, true, false, not, ◌||◌, ◌==◌, nat_lt, List, [], ◌∷◌, length, arith, All}
use Rattle.std.proofs.lemmas.Bool.{or_parts, ltb-false, not-false}
use Rattle.std.proofs.lemmas.Bool.Decides.{nat_tests}
use Rattle.std.proofs.lemmas.List.Elements.{All-nil, All-cons}
use Rattle.jpg_spec.specs.Lists.{any_of, is_distinct}
use Rattle.jpg_spec.specs.Geometry.{Frame, h_max, v_max, padded_blocks}
use Rattle.jpg_spec.specs.FrameHeader.{is_precision, HasFactors, AreLimits, has_bad_factor, has_bad_slot, identifiers}
use Rattle.jpg_spec.specs.declared.frame.Process.{Process}
use Rattle.jpg_spec.specs.declared.frame.Component.{Component}
use Rattle.jpg_spec.specs.declared.frame.Limits.{Limits}
use Rattle.jpg_base.specs.Frame.{IsCheckedFrame}
use Rattle.jpg_base.proofs.Grids.{across_low, across_high, down_low, down_high}
use Rattle.jpg_spec.proofs.Headers.FrameFound.{all_factors}

-- a test that nothing passes
none_meet : {X : Type 0} (test : X → Bool) (P : X → Type 0) → ((x : X) → test x ≡ false → P x) → (xs : List X) → any_of test xs ≡ false → All P xs
none_meet test P one [] e = All-nil P
none_meet test P one (x ∷ xs) e =
    let parts : (test x ≡ false) × (any_of test xs ≡ false) = or_parts (test x) (any_of test xs) e in
    All-cons P x xs (one x parts.0) (none_meet test P one xs parts.1)

good_slot : (c : Component) → has_bad_slot c ≡ false → c.quant ≤ 3
good_slot c e = ltb-false 3 c.quant e

pub whole : (limits : Limits) (f : Frame) (across down : ℕ) → AreLimits limits
    → (f.width == 0 || f.height == 0) ≡ false
    → (nat_lt limits.side f.width || nat_lt limits.side f.height) ≡ false
    → not (is_precision f.process f.precision) ≡ false
    → (length f.components == 0 || nat_lt 4 (length f.components)) ≡ false
    → any_of has_bad_factor f.components ≡ false
    → not (is_distinct (identifiers f.components)) ≡ false
    → any_of has_bad_slot f.components ≡ false
    → nat_lt limits.blocks (padded_blocks f) ≡ false
    → across ≡ h_max f → down ≡ v_max f
    → IsCheckedFrame f across down
whole limits f across down within empty large depth count factors same slots blocks a d =
    let all : All HasFactors f.components = all_factors f.components factors in
    let some : 1 ≤ length f.components = grind (arith, nat_tests) in
    record {
      checked = record {
        width_low = grind (arith, nat_tests);
        width_high = grind (arith, nat_tests, within.side);
        height_low = grind (arith, nat_tests);
        height_high = grind (arith, nat_tests, within.side);
        precision = not-false (is_precision f.process f.precision) depth;
        count_low = some;
        count_high = grind (arith, nat_tests);
        factors = all;
        distinct = not-false (is_distinct (identifiers f.components)) same;
        slots = none_meet has_bad_slot (λ c. c.quant ≤ 3) good_slot f.components slots;
        blocks = grind (arith, nat_tests, within.blocks);
      };
      across = a;
      down = d;
      across_low = omega (arith, a, across_low f.components all some);
      across_high = omega (arith, a, across_high f.components all);
      down_low = omega (arith, d, down_low f.components all some);
      down_high = omega (arith, d, down_high f.components all);
    }

-- the same frame with another process
pub with_process : (process : Process) (f : Frame) (across down : ℕ) → is_precision process f.precision ≡ true → IsCheckedFrame f across down → IsCheckedFrame (record f { process = process }) across down
with_process process f across down allowed k = record {
  checked = record {
    width_low = k.checked.width_low;
    width_high = k.checked.width_high;
    height_low = k.checked.height_low;
    height_high = k.checked.height_high;
    precision = allowed;
    count_low = k.checked.count_low;
    count_high = k.checked.count_high;
    factors = k.checked.factors;
    distinct = k.checked.distinct;
    slots = k.checked.slots;
    blocks = k.checked.blocks;
  };
  across = k.across;
  down = k.down;
  across_low = k.across_low;
  across_high = k.across_high;
  down_low = k.down_low;
  down_high = k.down_high;
}
