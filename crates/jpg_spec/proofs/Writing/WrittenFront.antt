-- The beginning of a file that is written: its markers, its quantisation tables and its frame header, and what is in
-- force after them.
use Rattle.std.proofs.Common.{◌≡◌, ℕ, zero, suc, ◌+◌, ◌-◌, ◌≤◌, Bool, true, false, not, List, [], ◌∷◌, length, refl, sym, ap, ◌∙◌, arith, Option, Some, None, ◌==◌, ◌&&◌}
use Rattle.std.specs.Prelude.{◌||◌, nat_lt, nat_le, Ok, is_none}
use Rattle.std.specs.List.{All}
use Rattle.std.proofs.lemmas.Bool.Decides.{nat_tests}
use Rattle.std.proofs.lemmas.List.Elements.{All-nil, All-cons}
use Rattle.jpg_spec.specs.Lists.{any_of}
use Rattle.jpg_spec.specs.Geometry.{Frame, padded_blocks}
use Rattle.jpg_spec.specs.FrameHeader.{IsFrame, AreLimits, has_bad_slot, checked_frame}
use Rattle.jpg_spec.specs.Segments.{standard_limits}
use Rattle.jpg_spec.specs.Markers.{Segment, Pass, code_fault_if, is_frame_code, is_within, kept_count}
use Rattle.jpg_spec.specs.Header.{header_rule}
use Rattle.jpg_spec.specs.declared.frame.Component.{Component}
use Rattle.jpg_spec.specs.declared.frame.Limits.{Limits}
use Rattle.jpg_spec.proofs.Bits.Full.{passed}
use Rattle.jpg_spec.proofs.Segments.KeptMarkers.{IsPassedOn, ArePassedOn, passes_more, kept_alone, may_keep}
use Rattle.jpg_spec.proofs.Basics.Common.{both, negated, le_of, not_lt_of, same_of, neither}
use Rattle.jpg_spec.proofs.Headers.FrameFound.{all_factors, checks}

-- THE FRAME passes its checks

all_slots : (cs : List Component) → any_of has_bad_slot cs ≡ false → All (λ c. c.quant ≤ 3) cs
all_slots [] e = All-nil (λ c. c.quant ≤ 3)
all_slots (c ∷ cs) e = let n = neither (has_bad_slot c) (any_of has_bad_slot cs) e in All-cons (λ c. c.quant ≤ 3) c cs (not_lt_of 3 c.quant n.0) (all_slots cs n.1)

pub standard_are_limits : AreLimits standard_limits
standard_are_limits = record { side = omega arith; blocks = omega arith; kept = omega arith; input = omega arith; some = omega arith }

pub frame_is : (limits : Limits) (f g : Frame) → AreLimits limits → checked_frame limits f ≡ Ok g → IsFrame f
frame_is limits f g limited e =
    let is = (checks limits f g e).0 in
    let empty = neither (f.width == 0) (f.height == 0) is.some in
    let large = neither (nat_lt limits.side f.width) (nat_lt limits.side f.height) is.sides in
    let none = neither (length f.components == 0) (nat_lt 4 (length f.components)) is.count in
    let s = limited.side in
    let t = limited.blocks in
    let w = not_lt_of limits.side f.width large.0 in
    let h = not_lt_of limits.side f.height large.1 in
    let z = not_lt_of limits.blocks (padded_blocks f) is.blocks in
    record {
      width_low = some f.width empty.0;
      width_high = omega (arith, s, w);
      height_low = some f.height empty.1;
      height_high = omega (arith, s, h);
      precision = is.precision;
      count_low = some (length f.components) none.0;
      count_high = not_lt_of 4 (length f.components) none.1;
      factors = all_factors f.components is.factors;
      distinct = is.distinct;
      slots = all_slots f.components is.slots;
      blocks = omega (arith, t, z);
    }
  where
    some : (n : ℕ) → (n == 0) ≡ false → 1 ≤ n
    some zero e = cc
    some (suc n) e = omega arith

-- THE KEPT MARKERS

abbrev pub is_plain_code : ℕ → Bool
is_plain_code code =
    not (is_frame_code code) && (not (code == 0xda) && (not (code == 0xdd) && (not (code == 0xdb) && (not (code == 0xc4) && (not (code == 0xd9) && (not (code == 0) && (not (code == 255)
    && (is_none (code_fault_if true code) && is_none (code_fault_if false code)))))))))

pub marker_plain : (code : ℕ) → may_keep code ≡ true → is_plain_code code ≡ true
marker_plain code e = by (code == 0xfe) refl e
  where
    by : (b : Bool) → (code == 0xfe) ≡ b → (b || is_within 0xe0 0xef code) ≡ true → is_plain_code code ≡ true
    by true s h = ap is_plain_code (same_of code 0xfe s)
    by false s h =
        let k = both (nat_le 0xe0 code) (nat_le code 0xef) h in
        let low : 0xe0 ≤ code = le_of 0xe0 code k.0 in
        let high : code ≤ 0xef = le_of code 0xef k.1 in
        let z : 0xe0 + (code - 0xe0) ≡ code = omega (arith, low) in
        ap is_plain_code (sym z) ∙ passed 16 (λ n. is_plain_code (0xe0 + n)) refl (code - 0xe0) (omega (arith, high, low))

pub no_fault : {X : Type 0} (o : Option X) → is_none o ≡ true → o ≡ None
no_fault None e = refl
no_fault (Some x) e = cc

pub passed_on : (code : ℕ) → may_keep code ≡ true → IsPassedOn code
passed_on code e =
    let p = marker_plain code e in
    let a = both (not (is_frame_code code)) _ p in
    let b = both (not (code == 0xda)) _ a.1 in
    let k = both (not (code == 0xdd)) _ b.1 in
    let m = both (not (code == 0xdb)) _ k.1 in
    let n = both (not (code == 0xc4)) _ m.1 in
    let o = both (not (code == 0xd9)) _ n.1 in
    let q = both (not (code == 0)) _ o.1 in
    let r = both (not (code == 255)) _ q.1 in
    let t = both (is_none (code_fault_if true code)) (is_none (code_fault_if false code)) r.1 in
    record {
      frame = negated (is_frame_code code) a.0;
      scan = negated (code == 0xda) b.0;
      restart = negated (code == 0xdd) k.0;
      kept = e;
      marker = (differs 0 (negated (code == 0) q.0), differs 255 (negated (code == 255) r.0));
      eoi = differs 0xd9 (negated (code == 0xd9) o.0);
      allowed = λ b. allowed b (no_fault (code_fault_if true code) t.0) (no_fault (code_fault_if false code) t.1);
      rule = λ limits before contents. kept_alone limits before code contents e;
    }
  where
    differs : (n : ℕ) → (code == n) ≡ false → code ≡ n → ⊥
    differs n f s = grind (arith, nat_tests)

    allowed : (b : Bool) → code_fault_if true code ≡ None → code_fault_if false code ≡ None → code_fault_if b code ≡ None
    allowed true x y = x
    allowed false x y = y

pub markers_pass : (limits : Limits) (kept : List Segment) → ArePassedOn kept → kept_count kept ≤ limits.kept → Pass (header_rule limits) kept
unfolding ArePassedOn
markers_pass limits [] are few = tt
markers_pass limits (s ∷ kept) are few = passes_more limits s kept are few (markers_pass limits kept are.2 (omega (arith, few)))
