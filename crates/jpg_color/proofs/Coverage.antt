-- What the numbers of a frame guarantee for the components of its picture, and for their rows.
use Rattle.std.proofs.Common.{◌≡◌, ◌⊎◌, inl, inr, ℕ, zero, suc, ◌+◌, ◌-◌, ◌*◌, ◌/◌, ◌%◌, ◌<◌, ◌≤◌, Bool, true, false, not, ◌==◌, if◌then◌else◌, List, [], ◌∷◌, length, get_or, take, map, subst, refl, sym, ap, ◌∙◌, arith, None, Some}
use Rattle.std.proofs.lemmas.Nat.{div-add-mod'}
use Rattle.std.proofs.lemmas.List.Elements.{All-get_or}
use Rattle.std.proofs.Math.Nat.{div-lt_iff_lt-mul, le-mul_of_pos_right}
use Rattle.std.proofs.lemmas.List.{get_or-map, length-map}
use Rattle.jpg_spec.specs.Lists.{below, any_of}
use Rattle.jpg_spec.specs.Geometry.{Frame, div_up, greatest, h_max, v_max, component_at, no_component, blocks_across, blocks_down}
use Rattle.jpg_spec.specs.FrameHeader.{HasFactors}
use Rattle.jpg_spec.specs.Scan.{Blocks}
use Rattle.jpg_spec.specs.Meaning.{component_of, most_across, most_down}
use Rattle.jpg_spec_image.specs.Pixels.{samples_across, samples_down, stretch_of, shows_gray, is_colour_out, is_fractional}
use Rattle.jpg_spec_image.specs.Strips.{lines, block_rows, needed, IsCovered}
use Rattle.jpg_spec.specs.declared.fault.Fault.TheVariants.{Precision, ColourOut, FractionalSampling}
use Rattle.jpg_spec.specs.declared.frame.Colour.{Colour}
use Rattle.jpg_spec.specs.declared.frame.Colour.TheVariants.{Gray, YCbCr, Rgb, Cmyk, Ycck, Unknown}
use Rattle.jpg_spec.specs.declared.frame.Component.{Component}
use Rattle.jpg_spec.proofs.Basics.Common.{length_below, neither, clash, same_of}
use Rattle.jpg_spec.proofs.Basics.Rows.{at_below, map_map, by_items}
use Rattle.jpg_spec.proofs.Segments.TablesInForce.{affirmed}
use Rattle.jpg_base.proofs.Grids.{across_low, across_high, down_low, down_high}
use Rattle.jpg_file.specs.Read.PictureKept.{component_view, may_have}
use Rattle.jpg_color.specs.Shown.{Display, IsShowable, picture_of, parts, all_rows, rows_in, factors_of, display_fault}
use Rattle.jpg_spec.specs.FileMeaning.{no_blocks}
use Rattle.jpg_spec_image.proofs.RowsCovered.{none_at, quotient_low, below_up, one_down, tall_enough, rows_enough}

-- COMPONENTS

pub count_is : (d : Display) (blocks : Blocks) → length (picture_of d blocks).components ≡ length d.frame.components
count_is d blocks = length-map (below (length d.frame.components)) (component_view d.frame d.quants) ∙ length_below (length d.frame.components)

pub component_is : (d : Display) (blocks : Blocks) (i : ℕ) → i < length d.frame.components → component_of (picture_of d blocks) i ≡ component_view d.frame d.quants i
component_is d blocks i h =
    let n = length d.frame.components in
    get_or-map (component_view d.frame d.quants) (below n) i 0 (record { id = 0; h = 1; v = 1; quants = [] }) (subst (λ m. i < m) (sym (length_below n)) h)
    ∙ ap (component_view d.frame d.quants) (at_below n i h)

pub parsed_numbers : {A : Type 0} (f : Frame) (number : Component → A) → map (λ i. number (component_at f i)) (below (length f.components)) ≡ map number f.components
parsed_numbers f number =
    by_items (length f.components) (λ i. number (component_at f i)) (map number f.components) (number no_component) (length-map f.components number)
    (λ (i : ℕ) (h : i < length f.components). sym (get_or-map number f.components i no_component (number no_component) h))

pub most_across_is : (d : Display) (blocks : Blocks) → most_across (picture_of d blocks) ≡ h_max d.frame
most_across_is d blocks =
    ap greatest (map_map (λ c. c.h) (component_view d.frame d.quants) (below (length d.frame.components)) ∙ parsed_numbers d.frame (λ c. c.h))

pub most_down_is : (d : Display) (blocks : Blocks) → most_down (picture_of d blocks) ≡ v_max d.frame
most_down_is d blocks =
    ap greatest (map_map (λ c. c.v) (component_view d.frame d.quants) (below (length d.frame.components)) ∙ parsed_numbers d.frame (λ c. c.v))

pub samples_across_is : (d : Display) (blocks : Blocks) (i : ℕ) → i < length d.frame.components
    → samples_across (picture_of d blocks) i ≡ div_up (d.frame.width * (component_at d.frame i).h) (h_max d.frame)
samples_across_is d blocks i h =
    ap (λ c. div_up (d.frame.width * c.h) (most_across (picture_of d blocks))) (component_is d blocks i h)
    ∙ ap (λ m. div_up (d.frame.width * (component_at d.frame i).h) m) (most_across_is d blocks)

pub samples_down_is : (d : Display) (blocks : Blocks) (i : ℕ) → i < length d.frame.components
    → samples_down (picture_of d blocks) i ≡ div_up (d.frame.height * (component_at d.frame i).v) (v_max d.frame)
samples_down_is d blocks i h =
    ap (λ c. div_up (d.frame.height * c.v) (most_down (picture_of d blocks))) (component_is d blocks i h)
    ∙ ap (λ m. div_up (d.frame.height * (component_at d.frame i).v) m) (most_down_is d blocks)

pub blocks_across_is : (d : Display) (blocks : Blocks) (i : ℕ) → i < length d.frame.components
    → blocks_across d.frame (component_at d.frame i) ≡ div_up (samples_across (picture_of d blocks) i) 8
blocks_across_is d blocks i h = ap (λ n. div_up n 8) (sym (samples_across_is d blocks i h))

pub blocks_down_is : (d : Display) (blocks : Blocks) (i : ℕ) → i < length d.frame.components
    → blocks_down d.frame (component_at d.frame i) ≡ div_up (samples_down (picture_of d blocks) i) 8
blocks_down_is d blocks i h = ap (λ n. div_up n 8) (sym (samples_down_is d blocks i h))

pub rows_in_is : (d : Display) (i : ℕ) → i < length d.frame.components → rows_in d i ≡ (if length d.frame.components == 1 then 1 else (component_at d.frame i).v)
rows_in_is d i h =
    ap (λ n. if n == 1 then 1 else (component_of (picture_of d no_blocks) i).v) (count_is d no_blocks)
    ∙ ap (λ c. if length d.frame.components == 1 then 1 else c.v) (component_is d no_blocks i h)

pub lines_is : (d : Display) (blocks : Blocks) → lines (picture_of d blocks) ≡ (if length d.frame.components == 1 then 8 else 8 * v_max d.frame)
lines_is d blocks =
    ap (λ n. if n == 1 then 8 else 8 * most_down (picture_of d blocks)) (count_is d blocks)
    ∙ ap (λ m. if length d.frame.components == 1 then 8 else 8 * m) (most_down_is d blocks)

pub across_is : (d : Display) (blocks : Blocks) (i : ℕ) → i < length d.frame.components → (stretch_of (picture_of d blocks) d.smooth i).across ≡ h_max d.frame / (component_at d.frame i).h
across_is d blocks i h =
    ap (λ m. m / (component_of (picture_of d blocks) i).h) (most_across_is d blocks) ∙ ap (λ c. h_max d.frame / c.h) (component_is d blocks i h)

pub down_is : (d : Display) (blocks : Blocks) (i : ℕ) → i < length d.frame.components → (stretch_of (picture_of d blocks) d.smooth i).down ≡ v_max d.frame / (component_at d.frame i).v
down_is d blocks i h =
    ap (λ m. m / (component_of (picture_of d blocks) i).v) (most_down_is d blocks) ∙ ap (λ c. v_max d.frame / c.v) (component_is d blocks i h)

-- THOSE THAT ARE DISPLAYED

one_or_three : (b : Bool) → (◌≡◌ {A = ℕ} (if b then 1 else 3) 1) ⊎ (◌≡◌ {A = ℕ} (if b then 1 else 3) 3)
one_or_three true = inl refl
one_or_three false = inr refl

pub parts_are : (d : Display) → (parts d ≡ 1) ⊎ (parts d ≡ 3)
parts_are d = one_or_three (shows_gray d.colour d.gray)

some_parts : (n : ℕ) → (n ≡ 1) ⊎ (n ≡ 3) → 1 ≤ n
some_parts n (inl e) = omega (arith, e)
some_parts n (inr e) = omega (arith, e)

pub parts_some : (d : Display) → 1 ≤ parts d
parts_some d = some_parts (parts d) (parts_are d)

enough_parts : (colour : Colour) (gray : Bool) (n : ℕ) → may_have n colour ≡ true → is_colour_out colour gray ≡ false → needed colour gray ≤ n
enough_parts Gray gray n e out = let is : n ≡ 1 = same_of n 1 e in omega (arith, is)
enough_parts YCbCr true n e out = let is : n ≡ 3 = same_of n 3 e in omega (arith, is)
enough_parts YCbCr false n e out = let is : n ≡ 3 = same_of n 3 e in omega (arith, is)
enough_parts Rgb gray n e out = let is : n ≡ 3 = same_of n 3 e in omega (arith, is)
enough_parts Cmyk gray n e out = absurd (clash true refl out)
enough_parts Ycck gray n e out = absurd (clash true refl out)
enough_parts Unknown gray n e out = absurd (clash true refl out)

no_fault : (deep out bad : Bool) → (if deep then Some Precision else if out then Some ColourOut else if bad then Some FractionalSampling else None) ≡ None → (deep ≡ false) × (out ≡ false) × (bad ≡ false)
no_fault true out bad e = cc
no_fault false true bad e = cc
no_fault false false true e = cc
no_fault false false false e = (refl, refl, refl)

faults_none : (d : Display) → display_fault d ≡ None
    → (not (d.frame.precision == 8) ≡ false) × (is_colour_out d.colour d.gray ≡ false) × (any_of (is_fractional (greatest (map (λ c. c.0) (factors_of d.frame))) (greatest (map (λ c. c.1) (factors_of d.frame)))) (if shows_gray d.colour d.gray then take 1 (factors_of d.frame) else factors_of d.frame) ≡ false)
faults_none d e =
    no_fault (not (d.frame.precision == 8)) (is_colour_out d.colour d.gray)
    (any_of (is_fractional (greatest (map (λ c. c.0) (factors_of d.frame))) (greatest (map (λ c. c.1) (factors_of d.frame)))) (if shows_gray d.colour d.gray then take 1 (factors_of d.frame) else factors_of d.frame)) e

pub colour_in : (d : Display) → IsShowable d → is_colour_out d.colour d.gray ≡ false
colour_in d s = let n = faults_none d s.admitted in n.1

-- its samples have 8 bits
pub eight_bits : (d : Display) → IsShowable d → d.frame.precision ≡ 8
eight_bits d s = let n = faults_none d s.admitted in same_of d.frame.precision 8 (affirmed (d.frame.precision == 8) n.0)

pub parts_fit : (d : Display) → IsShowable d → parts d ≤ length d.frame.components
parts_fit d s = enough_parts d.colour d.gray (length d.frame.components) s.colour (colour_in d s)

pub in_frame : (d : Display) (i : ℕ) → IsShowable d → i < parts d → i < length d.frame.components
in_frame d i s h = let f = parts_fit d s in omega (arith, f, h)

pub factors_at : (d : Display) (i : ℕ) → IsShowable d → i < length d.frame.components → HasFactors (component_at d.frame i)
factors_at d i s h = All-get_or HasFactors d.frame.components i no_component h s.frame.factors

-- INTEGER RATIOS

none_needed : (t : ℕ × ℕ → Bool) (gray : Bool) (factors : List (ℕ × ℕ)) (i : ℕ) (default : ℕ × ℕ) → i < (if gray then 1 else 3) → i < length factors
    → any_of t (if gray then take 1 factors else factors) ≡ false → t (get_or factors i default) ≡ false
none_needed t false factors i default few h e = none_at t factors i default h e
none_needed t true [] i default few h e = absurd (omega (arith, h))
none_needed t true (x ∷ xs) zero default few h e = let n = neither (t x) false e in n.0
none_needed t true (x ∷ xs) (suc i) default few h e = absurd (omega (arith, few))

whole_of : (across down h v : ℕ) → is_fractional across down (h, v) ≡ false → (across % h ≡ 0) × (down % v ≡ 0)
whole_of across down h v e =
    let n = neither (not (across % h == 0)) (not (down % v == 0)) e in
    (same_of (across % h) 0 (affirmed (across % h == 0) n.0), same_of (down % v) 0 (affirmed (down % v == 0) n.1))

pub factor_at : (f : Frame) (i : ℕ) → i < length f.components → get_or (factors_of f) i (1, 1) ≡ ((component_at f i).h, (component_at f i).v)
factor_at f i h = get_or-map (λ c. (c.h, c.v)) f.components i no_component (1, 1) h

pub most_first : (cs : List Component) → greatest (map (λ (p : ℕ × ℕ). p.0) (map (λ (c : Component). (c.h, c.v)) cs)) ≡ greatest (map (λ c. c.h) cs)
most_first cs = ap greatest (map_map (λ (p : ℕ × ℕ). p.0) (λ (c : Component). (c.h, c.v)) cs)

pub most_second : (cs : List Component) → greatest (map (λ (p : ℕ × ℕ). p.1) (map (λ (c : Component). (c.h, c.v)) cs)) ≡ greatest (map (λ c. c.v) cs)
most_second cs = ap greatest (map_map (λ (p : ℕ × ℕ). p.1) (λ (c : Component). (c.h, c.v)) cs)

divides : (d : Display) (i : ℕ) → IsShowable d → i < parts d → (h_max d.frame % (component_at d.frame i).h ≡ 0) × (v_max d.frame % (component_at d.frame i).v ≡ 0)
divides d i s h =
    let there = in_frame d i s h in
    let test : ℕ × ℕ → Bool = is_fractional (greatest (map (λ c. c.0) (factors_of d.frame))) (greatest (map (λ c. c.1) (factors_of d.frame))) in
    let n = faults_none d s.admitted in
    let long : i < length (factors_of d.frame) = subst (λ n. i < n) (sym (length-map d.frame.components (λ c. (c.h, c.v)))) there in
    let e : test ((component_at d.frame i).h, (component_at d.frame i).v) ≡ false =
    sym (ap test (factor_at d.frame i there)) ∙ none_needed test (shows_gray d.colour d.gray) (factors_of d.frame) i (1, 1) h long n.2 in
    let w = whole_of (greatest (map (λ c. c.0) (factors_of d.frame))) (greatest (map (λ c. c.1) (factors_of d.frame))) (component_at d.frame i).h (component_at d.frame i).v e in
    (subst (λ m. m % (component_at d.frame i).h ≡ 0) (most_first d.frame.components) w.0, subst (λ m. m % (component_at d.frame i).v ≡ 0) (most_second d.frame.components) w.1)

pub record HasRatios (d : Display) (blocks : Blocks) (i : ℕ) : Type 0 where
  pub across : (stretch_of (picture_of d blocks) d.smooth i).across * (component_at d.frame i).h ≡ h_max d.frame
  pub down : (stretch_of (picture_of d blocks) d.smooth i).down * (component_at d.frame i).v ≡ v_max d.frame
  pub across_low : 1 ≤ (stretch_of (picture_of d blocks) d.smooth i).across
  pub across_high : (stretch_of (picture_of d blocks) d.smooth i).across ≤ 4
  pub down_low : 1 ≤ (stretch_of (picture_of d blocks) d.smooth i).down
  pub down_high : (stretch_of (picture_of d blocks) d.smooth i).down ≤ 4

product_whole : (q m h : ℕ) → q ≡ m / h → m % h ≡ 0 → q * h ≡ m
product_whole q m h is e = ap (λ n. n * h) is ∙ (let w = div-add-mod' m h in omega (arith, w, e))

quotient_high : (q m h : ℕ) → q * h ≡ m → 1 ≤ h → q ≤ m
quotient_high q m h e low = let l : q ≤ q * h = le-mul_of_pos_right q low in omega (arith, e, l)

pub whole_ratios : (d : Display) (blocks : Blocks) (i : ℕ) → IsShowable d → i < parts d → HasRatios d blocks i
whole_ratios d blocks i s h =
    let there = in_frame d i s h in
    let st = stretch_of (picture_of d blocks) d.smooth i in
    let w = divides d i s h in
    let c = factors_at d i s there in
    let a : st.across * (component_at d.frame i).h ≡ h_max d.frame = product_whole st.across (h_max d.frame) (component_at d.frame i).h (across_is d blocks i there) w.0 in
    let b : st.down * (component_at d.frame i).v ≡ v_max d.frame = product_whole st.down (v_max d.frame) (component_at d.frame i).v (down_is d blocks i there) w.1 in
    let al = across_low d.frame.components s.frame.factors s.frame.count_low in
    let ah = across_high d.frame.components s.frame.factors in
    let dl = down_low d.frame.components s.frame.factors s.frame.count_low in
    let dh = down_high d.frame.components s.frame.factors in
    let qa = quotient_high st.across (h_max d.frame) (component_at d.frame i).h a c.h_low in
    let qd = quotient_high st.down (v_max d.frame) (component_at d.frame i).v b c.v_low in
    record {
      across = a;
      down = b;
      across_low = quotient_low st.across (h_max d.frame) (component_at d.frame i).h a al;
      across_high = omega (arith, qa, ah);
      down_low = quotient_low st.down (v_max d.frame) (component_at d.frame i).v b dl;
      down_high = omega (arith, qd, dh);
    }

-- QUOTIENTS ROUNDED UP

pub up_covers : (n d : ℕ) → 1 ≤ d → n ≤ div_up n d * d
up_covers n d some =
    let q = div_up n d in
    let r : n + d - 1 < (q + 1) * d = (div-lt_iff_lt-mul some).0 (omega arith) in
    let m : (q + 1) * d ≡ q * d + d = grind arith in
    omega (arith, r, m)

pub up_least : (n d k : ℕ) → 1 ≤ d → n ≤ k * d → div_up n d ≤ k
up_least n d k some h =
    let m : (k + 1) * d ≡ k * d + d = grind arith in
    let r : div_up n d < k + 1 = (div-lt_iff_lt-mul some).1 (omega (arith, m, h, some)) in
    omega (arith, r)

-- ROWS

alone_down : (cs : List Component) → length cs ≡ 1 → greatest (map (λ c. c.v) cs) ≡ (get_or cs 0 no_component).v
alone_down (c ∷ []) e = omega arith
alone_down [] e = absurd (omega (arith, e))
alone_down (a ∷ b ∷ cs) e = absurd (omega (arith, e))

-- lines of the image in an MCU row, by whether a component is the only one
lines_by : (b : Bool) (down v most : ℕ) → down * v ≡ most → (b ≡ true → down ≡ 1) → (if b then 8 else 8 * most) ≡ 8 * (if b then 1 else v) * down
lines_by true down v most e one = let d = one refl in omega (arith, d)
lines_by false down v most e one =
    let m : 8 * v * down ≡ 8 * (down * v) = grind arith in
    omega (arith, m, e)

pub whole_lines : (d : Display) (blocks : Blocks) (i : ℕ) → IsShowable d → i < parts d → lines (picture_of d blocks) ≡ 8 * block_rows (picture_of d blocks) i * (stretch_of (picture_of d blocks) d.smooth i).down
whole_lines d blocks i s h =
    let there = in_frame d i s h in
    let st = stretch_of (picture_of d blocks) d.smooth i in
    let r = whole_ratios d blocks i s h in
    let c = factors_at d i s there in
    let b = length d.frame.components == 1 in
    let alone : b ≡ true → st.down ≡ 1 =
    λ (e : b ≡ true). (let one : length d.frame.components ≡ 1 = same_of (length d.frame.components) 1 e in
    let zero_is : i ≡ 0 = omega (arith, one, there) in
    one_down (component_at d.frame i).v (v_max d.frame) st.down (alone_down d.frame.components one ∙ ap (λ k. (component_at d.frame k).v) (sym zero_is)) c.v_low r.down) in
    lines_is d blocks ∙ lines_by b st.down (component_at d.frame i).v (v_max d.frame) r.down alone ∙ ap (λ n. 8 * n * st.down) (sym (rows_in_is d i there))

pub lines_some : (d : Display) (blocks : Blocks) → IsShowable d → 1 ≤ lines (picture_of d blocks)
lines_some d blocks s =
    let dl = down_low d.frame.components s.frame.factors s.frame.count_low in
    subst (λ n. 1 ≤ n) (sym (lines_is d blocks)) (by (length d.frame.components == 1) (v_max d.frame) dl)
  where
    by : (b : Bool) (v : ℕ) → 1 ≤ v → 1 ≤ (if b then 8 else 8 * v)
    by true v low = omega arith
    by false v low = omega (arith, low)

pub covered : (d : Display) (blocks : Blocks) (i : ℕ) → IsShowable d → i < parts d → IsCovered (picture_of d blocks) d.smooth (all_rows d) i
covered d blocks i s h =
    let M = picture_of d blocks in
    let there = in_frame d i s h in
    let st = stretch_of M d.smooth i in
    let r = whole_ratios d blocks i s h in
    let c = factors_at d i s there in
    let some = lines_some d blocks s in
    let pos = down_low d.frame.components s.frame.factors s.frame.count_low in
    let whole = whole_lines d blocks i s h in
    record {
      whole = whole;
      tall = subst (λ n. d.frame.height ≤ n * st.down) (sym (samples_down_is d blocks i there)) (tall_enough d.frame.height (component_at d.frame i).v (v_max d.frame) st.down c.v_low pos r.down);
      enough = subst (λ n. n ≤ 8 * block_rows M i * all_rows d) (sym (samples_down_is d blocks i there))
          (rows_enough d.frame.height (component_at d.frame i).v (v_max d.frame) st.down (block_rows M i) (lines M) (all_rows d) pos r.down whole (up_covers d.frame.height (lines M) some));
      no_more = λ (m : ℕ) (l : m < all_rows d). (let b : m * lines M < d.frame.height = below_up d.frame.height (lines M) m some l in
          let t : lines M * m ≡ m * lines M = grind arith in
          omega (arith, b, t));
    }
