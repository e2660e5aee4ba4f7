-- What the frame guarantees for each component of a picture that can be displayed.
use Rattle.std.proofs.Common.{◌≡◌, ◌⊎◌, inl, inr, ℕ, zero, suc, ◌+◌, ◌*◌, ◌/◌, ◌%◌, ◌<◌, ◌≤◌, Bool, true, false, cond, not, ◌==◌, List, [], ◌∷◌, length, get_or, take, map, refl, sym, ap, ◌∙◌, subst, arith, Option, Some, None}
use Rattle.std.proofs.Math.Nat.{le_of_mul-le-mul_right, mul-le-mul_right}
use Rattle.std.proofs.lemmas.Bool.{cases_lt}
use Rattle.std.proofs.lemmas.Nat.{div-add-mod'}
use Rattle.std.proofs.lemmas.List.{get_or-map, length-map}
use Rattle.jpg_spec.specs.Lists.{any_of, below}
use Rattle.jpg_spec.specs.Geometry.{Frame, div_up, greatest}
use Rattle.jpg_spec.specs.FrameHeader.{IsFrame}
use Rattle.jpg_spec.specs.Scan.{Blocks}
use Rattle.jpg_spec.specs.Colours.{colours_of, four_colours, is_some_number, is_some_zero, three_colours}
use Rattle.jpg_spec.specs.Meaning.{Meaning, PictureComponent, colour_of, component_of, most_down}
use Rattle.jpg_spec.specs.Jfif.{adobe_transform, jfif_of}
use Rattle.jpg_spec.specs.Markers.{Segment}
use Rattle.jpg_spec.specs.FileMeaning.{meaning_of, picture_component}
use Rattle.jpg_spec_image.specs.Pixels.{is_colour_out, is_fractional, out_fault, shows_gray}
use Rattle.jpg_spec_image.specs.Strips.{IsCovered, block_rows, lines, mcu_rows, needed}
use Rattle.jpg_spec_image.specs.RowLaws.{IsShownInRows}
use Rattle.jpg_spec.specs.declared.fault.Fault.TheVariants.{Precision, ColourOut, FractionalSampling}
use Rattle.jpg_spec.specs.declared.frame.Colour.TheVariants.{Cmyk, Gray, Unknown, Ycck}
use Rattle.jpg_spec.proofs.Basics.Common.{clash, length_below, neither, same_of}
use Rattle.jpg_spec.proofs.Places.PlacesFound.{covers, least}
use Rattle.jpg_spec.proofs.Places.PlacesSome.{factors_at, v_max_some}
use Rattle.jpg_spec.proofs.Basics.Rows.{at_below, map_map}
use Rattle.jpg_spec.proofs.McuRows.RowCounts.{picture_down}

-- HOW MANY are displayed: no more than there are

three_at_most : (b : Bool) → cond b 1 3 ≤ 3
three_at_most true = omega arith
three_at_most false = omega arith

out_four : (adobe : Option ℕ) (gray : Bool) → is_colour_out (four_colours adobe) gray ≡ true
out_four adobe gray = by (is_some_zero adobe) (is_some_number adobe)
  where
    by : (a b : Bool) → is_colour_out (cond a Cmyk (cond b Ycck Cmyk)) gray ≡ true
    by true b = refl
    by false true = refl
    by false false = refl

enough_shown : (count : ℕ) (ids : List ℕ) (seen : Bool) (adobe : Option ℕ) (gray : Bool) → 1 ≤ count → is_colour_out (colours_of count ids seen adobe) gray ≡ false → needed (colours_of count ids seen adobe) gray ≤ count
enough_shown count ids seen adobe gray some out = by (count == 1) refl (count == 3) refl (count == 4) out
  where
    by : (a : Bool) → (count == 1) ≡ a → (b : Bool) → (count == 3) ≡ b → (c : Bool)
        → is_colour_out (cond (count == 1) Gray (cond (count == 3) (three_colours ids seen adobe) (cond (count == 4) (four_colours adobe) Unknown))) gray ≡ false
        → needed (cond (count == 1) Gray (cond (count == 3) (three_colours ids seen adobe) (cond (count == 4) (four_colours adobe) Unknown))) gray ≤ count
    by true e b f c h = subst (λ t. needed (cond t Gray (cond (count == 3) (three_colours ids seen adobe) (cond (count == 4) (four_colours adobe) Unknown))) gray ≤ count) (sym e) some
    by false e true f c h =
        let three : count ≡ 3 = same_of count 3 f in
        subst (λ t. needed (cond t Gray (cond (count == 3) (three_colours ids seen adobe) (cond (count == 4) (four_colours adobe) Unknown))) gray ≤ count) (sym e)
        (subst (λ t. needed (cond t (three_colours ids seen adobe) (cond (count == 4) (four_colours adobe) Unknown)) gray ≤ count) (sym f)
        (subst (λ n. needed (three_colours ids seen adobe) gray ≤ n) (sym three) (three_at_most (shows_gray (three_colours ids seen adobe) gray))))
    by false e false f c h =
        absurd (last (count == 4)
        (sym (ap (λ t. is_colour_out (cond t (three_colours ids seen adobe) (cond (count == 4) (four_colours adobe) Unknown)) gray) f)
        ∙ sym (ap (λ t. is_colour_out (cond t Gray (cond (count == 3) (three_colours ids seen adobe) (cond (count == 4) (four_colours adobe) Unknown))) gray) e) ∙ h))
      where
        last : (t : Bool) → is_colour_out (cond t (four_colours adobe) Unknown) gray ≡ false → ⊥
        last true k = clash (is_colour_out (four_colours adobe) gray) (out_four adobe gray) k
        last false k = clash true refl k

no_fault : (deep out bad : Bool) → cond deep (Some Precision) (cond out (Some ColourOut) (cond bad (Some FractionalSampling) None)) ≡ None → (out ≡ false) × (bad ≡ false)
no_fault true out bad e = cc
no_fault false true bad e = cc
no_fault false false true e = cc
no_fault false false false e = (refl, refl)

-- INTEGER RATIOS

pub none_at : (t : ℕ × ℕ → Bool) (factors : List (ℕ × ℕ)) (i : ℕ) (default : ℕ × ℕ) → i < length factors → any_of t factors ≡ false → t (get_or factors i default) ≡ false
none_at t [] i default h e = absurd (omega (arith, h))
none_at t (x ∷ xs) zero default h e = (neither (t x) (any_of t xs) e).0
none_at t (x ∷ xs) (suc i) default h e = none_at t xs i default (omega (arith, h)) (neither (t x) (any_of t xs) e).1

none_needed : (t : ℕ × ℕ → Bool) (gray : Bool) (factors : List (ℕ × ℕ)) (i : ℕ) (default : ℕ × ℕ) → i < cond gray 1 3 → i < length factors → any_of t (cond gray (take 1 factors) factors) ≡ false → t (get_or factors i default) ≡ false
none_needed t false factors i default few h e = none_at t factors i default h e
none_needed t true [] i default few h e = absurd (omega (arith, h))
none_needed t true (x ∷ xs) zero default few h e = (neither (t x) false e).0
none_needed t true (x ∷ xs) (suc i) default few h e = absurd (omega (arith, few))

whole_down : (across down h v : ℕ) → is_fractional across down (h, v) ≡ false → down % v ≡ 0
whole_down across down h v e = same_of (down % v) 0 (not_not (down % v == 0) (neither (not (across % h == 0)) (not (down % v == 0)) e).1)
  where
    not_not : (b : Bool) → not b ≡ false → b ≡ true
    not_not true e = refl
    not_not false e = sym e

-- NUMBERS

product_whole : (m v : ℕ) → m % v ≡ 0 → (m / v) * v ≡ m
product_whole m v e = let w = div-add-mod' m v in omega (arith, w, e)

pub quotient_low : (q m v : ℕ) → q * v ≡ m → 1 ≤ m → 1 ≤ q
quotient_low zero m v e low = absurd (omega (arith, e, low))
quotient_low (suc q) m v e low = omega arith

pub below_up : (n d k : ℕ) → 1 ≤ d → k < div_up n d → k * d < n
below_up n d k some h = above (cases_lt (k * d) n)
  where
    above : (k * d < n) ⊎ (n ≤ k * d) → k * d < n
    above (inl l) = l
    above (inr m) = let u = least n d k some m in absurd (omega (arith, u, h))

lines_by : (b : Bool) (down v most : ℕ) → down * v ≡ most → (b ≡ true → down ≡ 1) → cond b 8 (8 * most) ≡ 8 * cond b 1 v * down
lines_by true down v most e one = let d = one refl in omega (arith, d)
lines_by false down v most e one =
    let m : 8 * v * down ≡ 8 * (down * v) = grind arith in
    omega (arith, m, e)

pub one_down : (v most down : ℕ) → most ≡ v → 1 ≤ v → down * v ≡ most → down ≡ 1
one_down v most zero is low e = absurd (omega (arith, is, low, e))
one_down v most (suc zero) is low e = refl
one_down v most (suc (suc down)) is low e =
    let m : suc (suc down) * v ≡ down * v + 2 * v = grind arith in
    absurd (omega (arith, m, e, is, low))

pub tall_enough : (height v most down : ℕ) → 1 ≤ v → 1 ≤ most → down * v ≡ most → height ≤ div_up (height * v) most * down
tall_enough height v most down some pos e =
    let q = div_up (height * v) most in
    let u : height * v ≤ q * most = covers (height * v) most pos in
    let a : q * (down * v) ≡ (q * down) * v = grind arith in
    let m : q * most ≡ (q * down) * v = ap (λ n. q * n) (sym e) ∙ a in
    le_of_mul-le-mul_right (subst (λ n. height * v ≤ n) m u) some

pub rows_enough : (height v most down rows lines all : ℕ) → 1 ≤ most → down * v ≡ most → lines ≡ 8 * rows * down → height ≤ all * lines → div_up (height * v) most ≤ 8 * rows * all
rows_enough height v most down rows lines all pos e whole h =
    let k : height * v ≤ (all * lines) * v = mul-le-mul_right v h in
    let a : (all * lines) * v ≡ (all * (8 * rows * down)) * v = ap (λ n. (all * n) * v) whole in
    let b : (all * (8 * rows * down)) * v ≡ 8 * rows * all * (down * v) = grind arith in
    let c : 8 * rows * all * (down * v) ≡ 8 * rows * all * most = ap (λ n. 8 * rows * all * n) e in
    least (height * v) most (8 * rows * all) pos (subst (λ n. height * v ≤ n) (a ∙ b ∙ c) k)

some_lines : (b : Bool) (most : ℕ) → 1 ≤ most → 1 ≤ cond b 8 (8 * most)
some_lines true most h = omega arith
some_lines false most h = omega (arith, h)

-- A COMPONENT that is displayed

alone_down : (cs : List PictureComponent) (i : ℕ) (d : PictureComponent) → length cs ≡ 1 → i < length cs → greatest (map (λ c. c.v) cs) ≡ (get_or cs i d).v
alone_down [] i d e h = absurd (omega (arith, e))
alone_down (a ∷ b ∷ cs) i d e h = absurd (omega (arith, e))
alone_down (c ∷ []) zero d e h = omega arith
alone_down (c ∷ []) (suc i) d e h = absurd (omega (arith, h))

pub covered : (M : Meaning) (smooth : Bool) (i : ℕ) → i < length M.components → 1 ≤ (component_of M i).v → 1 ≤ most_down M → most_down M % (component_of M i).v ≡ 0 → IsCovered M smooth (mcu_rows M) i
covered M smooth i there low some divides =
    let v = (component_of M i).v in
    let most = most_down M in
    let down = most / v in
    let ratio : down * v ≡ most = product_whole most v divides in
    let alone : (length M.components == 1) ≡ true → down ≡ 1 =
    λ (e : (length M.components == 1) ≡ true). one_down v most down (alone_down M.components i (record { id = 0; h = 1; v = 1; quants = [] }) (same_of (length M.components) 1 e) there) low ratio in
    let whole : lines M ≡ 8 * block_rows M i * down = lines_by (length M.components == 1) down v most ratio alone in
    let pos : 1 ≤ lines M = some_lines (length M.components == 1) most some in
    record {
      whole = whole;
      tall = tall_enough M.height v most down low some ratio;
      enough = rows_enough M.height v most down (block_rows M i) (lines M) (mcu_rows M) some ratio whole (covers M.height (lines M) pos);
      no_more = λ m lt. (let b : m * lines M < M.height = below_up M.height (lines M) m pos lt in
          let t : lines M * m ≡ m * lines M = grind arith in
          omega (arith, b, t));
    }

abbrev factor_pair : PictureComponent → ℕ × ℕ
factor_pair c = (c.h, c.v)

-- THE LAW
pub shown_covered : (f : Frame) (segments : List Segment) (blocks : Blocks) (gray smooth : Bool) → IsFrame f → out_fault gray (meaning_of f segments blocks) ≡ None → IsShownInRows (meaning_of f segments blocks) gray smooth
shown_covered f segments blocks gray smooth is none = λ i few. covered M smooth i (there i few) (low i few) some (divides i few)
  where
    M : Meaning
    M = meaning_of f segments blocks

    factors : List (ℕ × ℕ)
    factors = map factor_pair (meaning_of f segments blocks).components

    count : length (meaning_of f segments blocks).components ≡ length f.components
    count = length-map (below (length f.components)) (picture_component f segments) ∙ length_below (length f.components)

    faults : (is_colour_out (colour_of (meaning_of f segments blocks)) gray ≡ false)
        × (any_of (is_fractional (greatest (map (λ c. c.0) factors)) (greatest (map (λ c. c.1) factors))) (cond (shows_gray (colour_of (meaning_of f segments blocks)) gray) (take 1 factors) factors) ≡ false)
    faults = no_fault (not (f.precision == 8)) (is_colour_out (colour_of M) gray) (any_of (is_fractional (greatest (map (λ c. c.0) factors)) (greatest (map (λ c. c.1) factors))) (cond (shows_gray (colour_of M) gray) (take 1 factors) factors)) none

    there : (i : ℕ) → i < needed (colour_of (meaning_of f segments blocks)) gray → i < length (meaning_of f segments blocks).components
    there i few =
        let n = enough_shown (length M.components) (map (λ c. c.id) M.components) (jfif_of M.kept).seen (adobe_transform M.kept) gray (let l = is.count_low in omega (arith, l, count)) faults.0 in
        omega (arith, n, few)

    at : (i : ℕ) → i < length f.components → component_of (meaning_of f segments blocks) i ≡ picture_component f segments i
    at i lt =
        let low : i < length (below (length f.components)) = (let n = length_below (length f.components) in omega (arith, n, lt)) in
        get_or-map (picture_component f segments) (below (length f.components)) i 0 (record { id = 0; h = 1; v = 1; quants = [] }) low ∙ ap (picture_component f segments) (at_below (length f.components) i lt)

    low : (i : ℕ) → i < needed (colour_of (meaning_of f segments blocks)) gray → 1 ≤ (component_of (meaning_of f segments blocks) i).v
    low i few =
        let lt : i < length f.components = (let t = there i few in omega (arith, t, count)) in
        subst (λ (c : PictureComponent). 1 ≤ c.v) (sym (at i lt)) (factors_at f i is lt).v_low

    some : 1 ≤ most_down (meaning_of f segments blocks)
    some = subst (λ n. 1 ≤ n) (sym (picture_down f segments blocks)) (v_max_some f is)

    divides : (i : ℕ) → i < needed (colour_of (meaning_of f segments blocks)) gray → most_down (meaning_of f segments blocks) % (component_of (meaning_of f segments blocks) i).v ≡ 0
    divides i few =
        let t = there i few in
        let c = component_of M i in
        let test : ℕ × ℕ → Bool = is_fractional (greatest (map (λ c. c.0) factors)) (greatest (map (λ c. c.1) factors)) in
        let long : i < length factors = (let l = length-map M.components factor_pair in omega (arith, l, t)) in
        let e : test (c.h, c.v) ≡ false =
        sym (ap test (get_or-map factor_pair M.components i (record { id = 0; h = 1; v = 1; quants = [] }) (1, 1) t))
        ∙ none_needed test (shows_gray (colour_of M) gray) factors i (1, 1) few long faults.1 in
        subst (λ m. m % c.v ≡ 0) (ap greatest (map_map (λ (p : ℕ × ℕ). p.1) factor_pair M.components)) (whole_down (greatest (map (λ c. c.0) factors)) (greatest (map (λ c. c.1) factors)) c.h c.v e)
