-- The rows of samples that are kept of a picture: rows of the image find their sources there, and one more MCU row
-- preserves that.
use Rattle.std.proofs.Common.{◌≡◌, ◌⊎◌, inl, inr, ℕ, zero, suc, ◌+◌, ◌-◌, ◌*◌, ◌/◌, ◌%◌, ◌<◌, ◌≤◌, min, Bool, true, false, ◌==◌, if◌then◌else◌, List, [], ◌∷◌, ◌++◌, length, map, drop, slice_index, slice_index_or, subst, refl, sym, ap, ◌∙◌, arith}
use Rattle.std.proofs.Math.Nat.{le-div_iff_mul-le, div-lt_iff_lt-mul}
use Rattle.std.proofs.lemmas.Bool.{cases_lt}
use Rattle.std.proofs.lemmas.List.{length-map, map-append, drop-append-le}
use Rattle.jpg_spec.specs.Lists.{below}
use Rattle.jpg_spec.specs.Geometry.{div_up, component_at, blocks_across, blocks_down}
use Rattle.jpg_spec.specs.FileMeaning.{no_blocks}
use Rattle.jpg_spec.specs.Scan.{Blocks}
use Rattle.jpg_spec.specs.Meaning.{Meaning}
use Rattle.jpg_spec_image.specs.Dct.{dequantised, inverse_dct}
use Rattle.jpg_spec_image.specs.Upsampling.{has_far_rows, near_row, far_row}
use Rattle.jpg_spec_image.specs.Pixels.{samples_across, samples_down, plane, plane_row, stretch_of}
use Rattle.jpg_spec_image.specs.Strips.{IsRowReady, rows_from, lines, block_rows, known_rows, first_kept, IsHeld}
use Rattle.jpg_spec.proofs.Basics.Common.{length_below, same_of, clash}
use Rattle.jpg_spec_image.proofs.Strips.{kept_is, ready_told, down_is_two}
use Rattle.jpg_coefs.specs.Picture.{Picture, map_of}
use Rattle.jpg_color.specs.KeptRows.{sample_in, row_in, last_row}
use Rattle.jpg_color.specs.Shown.{Display, ShownState, IsShowable, RepresentsPicture, IsNextRowDue, AreMcuRow, picture_of, parts, all_rows, rows_made_ready, rows_in, held_rows}
use Rattle.jpg_color.proofs.Coverage.{in_frame, whole_ratios, covered, component_is, blocks_across_is}
use Rattle.jpg_color.proofs.Windows.{count_fits, told_rows, rows_missing, all_some, ready_none, ready_low, ready_more}
use Rattle.jpg_spec.proofs.McuRows.RowsWhole.{map_below}

-- THE SOURCES of the next row

pub record HasSources (s : ShownState) (blocks : Blocks) (i : ℕ) : Type 0 where
  pub low : first_kept (picture_of s.display blocks) i s.pushed ≤ near_row (stretch_of (picture_of s.display blocks) s.display.smooth i) s.given
  pub high : near_row (stretch_of (picture_of s.display blocks) s.display.smooth i) s.given - first_kept (picture_of s.display blocks) i s.pushed < length (held_rows s i)
  pub near : slice_index_or (held_rows s i) (near_row (stretch_of (picture_of s.display blocks) s.display.smooth i) s.given - first_kept (picture_of s.display blocks) i s.pushed) []
      ≡ plane_row (picture_of s.display blocks) i (near_row (stretch_of (picture_of s.display blocks) s.display.smooth i) s.given)
  pub far_low : has_far_rows (stretch_of (picture_of s.display blocks) s.display.smooth i) ≡ true
      → first_kept (picture_of s.display blocks) i s.pushed ≤ far_row (stretch_of (picture_of s.display blocks) s.display.smooth i) s.given
  pub far_high : has_far_rows (stretch_of (picture_of s.display blocks) s.display.smooth i) ≡ true
      → far_row (stretch_of (picture_of s.display blocks) s.display.smooth i) s.given - first_kept (picture_of s.display blocks) i s.pushed < length (held_rows s i)
  pub far : has_far_rows (stretch_of (picture_of s.display blocks) s.display.smooth i) ≡ true
      → slice_index_or (held_rows s i) (far_row (stretch_of (picture_of s.display blocks) s.display.smooth i) s.given - first_kept (picture_of s.display blocks) i s.pushed) []
      ≡ plane_row (picture_of s.display blocks) i (far_row (stretch_of (picture_of s.display blocks) s.display.smooth i) s.given)

-- the first of the rows of samples that a row of the image is made from
near_below : (far : Bool) (k high down y : ℕ) → 1 ≤ down → (far ≡ true → down ≡ 2) → (y < (if far then 2 * k - 1 else k * down)) ⊎ ((k ≡ high) × (y < high * down)) → y / down < k
near_below true k high down y some two (inl lt) =
    let e : k * down ≡ k * 2 = ap (λ n. k * n) (two refl) in
    (div-lt_iff_lt-mul some).1 (omega (arith, lt, e))
near_below false k high down y some two (inl lt) = (div-lt_iff_lt-mul some).1 lt
near_below far k high down y some two (inr (e, lt)) = (div-lt_iff_lt-mul some).1 (subst (λ n. y < n * down) (sym e) lt)

near_above : (n down y : ℕ) → 1 ≤ down → n * down - 1 ≤ y → n - 1 ≤ y / down
near_above zero down y some le = omega arith
near_above (suc n) down y some le =
    let e : suc n * down ≡ n * down + down = grind arith in
    let l : n ≤ y / down = (le-div_iff_mul-le some).1 (omega (arith, e, le, some)) in
    omega (arith, l)

abbrev far_of : Bool → ℕ → ℕ → ℕ
far_of even high y = if even then y / 2 - 1 else min (y / 2 + 1) (high - 1)

record Inside (low high n : ℕ) : Type 0 where
  least : low ≤ n
  most : n < high

far_inside : (even : Bool) (n k high y : ℕ) → (y % 2 == 0) ≡ even → n < high → k ≤ high → n * 2 - 1 ≤ y → (y < 2 * k - 1) ⊎ ((k ≡ high) × (y < high * 2)) → Inside (n - 1) k (far_of even high y)
far_inside true n k high y e short le low (inl lt) = let even : y % 2 ≡ 0 = same_of (y % 2) 0 e in record { least = omega (arith, even, low); most = omega (arith, lt) }
far_inside true n k high y e short le low (inr (is, lt)) = let even : y % 2 ≡ 0 = same_of (y % 2) 0 e in record { least = omega (arith, even, low); most = omega (arith, is, lt) }
far_inside false n k high y e short le low (inl lt) =
    let odd : y % 2 ≡ 1 = odd_of y e in
    record { least = omega (arith, short, low); most = omega (arith, odd, lt) }
  where
    odd_of : (y : ℕ) → (y % 2 == 0) ≡ false → y % 2 ≡ 1
    odd_of y e = by (cases_lt (y % 2) 1)
      where
        by : (y % 2 < 1) ⊎ (1 ≤ y % 2) → y % 2 ≡ 1
        by (inl l) = let z : y % 2 ≡ 0 = omega (arith, l) in absurd (clash (y % 2 == 0) (ap (λ n. n == 0) z) e)
        by (inr m) = omega (arith, m)
far_inside false n k high y e short le low (inr (is, lt)) = record { least = omega (arith, short, low); most = omega (arith, is, lt, short) }

-- the rows of the last MCU row and the one above it contain it
record Reaches (d : Display) (blocks : Blocks) (i m y : ℕ) : Type 0 where
  near_low : first_kept (picture_of d blocks) i m ≤ near_row (stretch_of (picture_of d blocks) d.smooth i) y
  near_high : near_row (stretch_of (picture_of d blocks) d.smooth i) y < known_rows (picture_of d blocks) i m
  far_low : has_far_rows (stretch_of (picture_of d blocks) d.smooth i) ≡ true → first_kept (picture_of d blocks) i m ≤ far_row (stretch_of (picture_of d blocks) d.smooth i) y
  far_high : has_far_rows (stretch_of (picture_of d blocks) d.smooth i) ≡ true → far_row (stretch_of (picture_of d blocks) d.smooth i) y < known_rows (picture_of d blocks) i m

before_last : (m all : ℕ) → m ≤ all → 1 ≤ all → m - 1 < all
before_last m all le some = omega (arith, le, some)

reaches : (d : Display) (blocks : Blocks) (i m y : ℕ) → IsShowable d → i < parts d → m ≤ all_rows d → rows_made_ready d (m - 1) ≤ y → y < rows_made_ready d m → Reaches d blocks i m y
reaches d blocks i m y s h le late early =
    let M = picture_of d blocks in
    let st = stretch_of M d.smooth i in
    let r = whole_ratios d blocks i s h in
    let c = covered d blocks i s h in
    let n = 8 * block_rows M i * (m - 1) in
    let before : m - 1 < all_rows d = before_last m (all_rows d) le (all_some d s) in
    let told : IsRowReady st (known_rows M i m) y = ready_told M (parts d) d.smooth (all_rows d) m i y c h le early in
    let low : lines M * (m - 1) - 1 ≤ rows_made_ready d (m - 1) = ready_low d (m - 1) before in
    let e : lines M * (m - 1) ≡ n * st.down = ap (λ k. k * (m - 1)) c.whole ∙ (let a : 8 * block_rows M i * st.down * (m - 1) ≡ (8 * block_rows M i * (m - 1)) * st.down = grind arith in a) in
    let from : n * st.down - 1 ≤ y = subst (λ k. k - 1 ≤ y) e (through (lines M * (m - 1) - 1) (rows_made_ready d (m - 1)) y low late) in
    let short : n < st.high = rows_missing d i (m - 1) s h before in
    let fits : known_rows M i m ≤ st.high = least_second (8 * block_rows M i * m) st.high in
    let far : has_far_rows st ≡ true → Inside (n - 1) (known_rows M i m) (far_row st y) =
    λ (f : has_far_rows st ≡ true). (let two = down_is_two st f in
    far_inside (y % 2 == 0) n (known_rows M i m) st.high y refl short fits (subst (λ k. n * k - 1 ≤ y) two from) (told_far (has_far_rows st) f two told)) in
    record {
      near_low = near_above n st.down y r.down_low from;
      near_high = near_below (has_far_rows st) (known_rows M i m) st.high st.down y r.down_low (λ (f : has_far_rows st ≡ true). down_is_two st f) told;
      far_low = λ (f : has_far_rows st ≡ true). (let b = far f in b.least);
      far_high = λ (f : has_far_rows st ≡ true). (let b = far f in b.most);
    }
  where
    through : (a b c : ℕ) → a ≤ b → b ≤ c → a ≤ c
    through a b c h l = omega (arith, h, l)

    least_second : (a b : ℕ) → min a b ≤ b
    least_second a b = omega arith

    told_far : (far : Bool) {k high down : ℕ} → far ≡ true → down ≡ 2 → (y < (if far then 2 * k - 1 else k * down)) ⊎ ((k ≡ high) × (y < high * down)) → (y < 2 * k - 1) ⊎ ((k ≡ high) × (y < high * 2))
    told_far true f two (inl lt) = inl lt
    told_far true {k} {high} {down} f two (inr (e, lt)) = inr (e, subst (λ n. y < high * n) two lt)
    told_far false f two told = absurd (clash true refl (sym f))

pub long_from : (rows : ℕ → List ℕ) (first count : ℕ) → length (rows_from rows first count) ≡ count
long_from rows first count = length-map (below count) (λ k. rows (first + k)) ∙ length_below count

pub sources : (s : ShownState) (blocks : Blocks) (i : ℕ) → IsShowable s.display → RepresentsPicture s blocks → i < parts s.display
    → s.given < rows_made_ready s.display s.pushed → HasSources s blocks i
sources s blocks i shown stands h lt =
    let d = s.display in
    let M = picture_of d blocks in
    let st = stretch_of M d.smooth i in
    let f = first_kept M i s.pushed in
    let k = known_rows M i s.pushed in
    let r = reaches d blocks i s.pushed s.given shown h stands.some stands.late lt in
    let e : held_rows s i ≡ rows_from (plane_row M i) f (k - f) = stands.rows i h in
    let long : length (held_rows s i) ≡ k - f = ap length e ∙ long_from (plane_row M i) f (k - f) in
    let at : (y : ℕ) → f ≤ y → y < k → (y - f < length (held_rows s i)) × (slice_index_or (held_rows s i) (y - f) [] ≡ plane_row M i y) =
    λ (y : ℕ) (low : f ≤ y) (high : y < k).
    (subst (λ n. y - f < n) (sym long) (within f y k low high), ap (λ (rows : List (List ℕ)). slice_index_or rows (y - f) []) e ∙ kept_is (plane_row M i) f (k - f) y low (inside f y k low high)) in
    let near = at (near_row st s.given) r.near_low r.near_high in
    record {
      low = r.near_low;
      high = near.0;
      near = near.1;
      far_low = r.far_low;
      far_high = λ (far : has_far_rows st ≡ true). (let a = at (far_row st s.given) (r.far_low far) (r.far_high far) in a.0);
      far = λ (far : has_far_rows st ≡ true). (let a = at (far_row st s.given) (r.far_low far) (r.far_high far) in a.1);
    }
  where
    within : (f y k : ℕ) → f ≤ y → y < k → y - f < k - f
    within f y k low high = omega (arith, low, high)

    inside : (f y k : ℕ) → f ≤ y → y < k → y < f + (k - f)
    inside f y k low high = omega (arith, low, high)

-- WHAT IS KEPT, where other things change

pub held_same : (M : Meaning) (shown : ℕ) (smooth : Bool) (all m given : ℕ) (held others : ℕ → List (List ℕ)) → ((i : ℕ) → i < shown → others i ≡ held i)
    → IsHeld M shown smooth all m given held → IsHeld M shown smooth all m given others
held_same M shown smooth all m given held others same h =
    record { some = h.some; early = h.early; late = h.late; rows = λ (i : ℕ) (lt : i < shown). same i lt ∙ h.rows i lt }

pub given_stands : (s : ShownState) (blocks : Blocks) → RepresentsPicture s blocks → s.given < rows_made_ready s.display s.pushed
    → IsHeld (picture_of s.display blocks) (parts s.display) s.display.smooth (all_rows s.display) s.pushed (s.given + 1) (held_rows s)
given_stands s blocks h lt =
    record { some = h.some; early = next s.given (rows_made_ready s.display s.pushed) lt; late = later (rows_made_ready s.display (s.pushed - 1)) s.given h.late; rows = h.rows }
  where
    next : (a b : ℕ) → a < b → a + 1 ≤ b
    next a b l = omega (arith, l)

    later : (a b : ℕ) → a ≤ b → a ≤ b + 1
    later a b l = omega (arith, l)

pub fresh_stands : (d : Display) (blocks : Blocks) (held : ℕ → List (List ℕ)) → IsShowable d → ((i : ℕ) → i < parts d → held i ≡ [])
    → IsHeld (picture_of d blocks) (parts d) d.smooth (all_rows d) 0 0 held
fresh_stands d blocks held s none =
    let M = picture_of d blocks in
    record {
      some = omega arith;
      early = least (rows_made_ready d 0);
      late = same_low (rows_made_ready d 0) (ready_none d s);
      rows = λ (i : ℕ) (h : i < parts d). none i h ∙ ap (rows_from (plane_row M i) (first_kept M i 0)) (sym (nothing (block_rows M i) (samples_down M i)));
    }
  where
    least : (n : ℕ) → 0 ≤ n
    least n = omega arith

    same_low : (n : ℕ) → n ≡ 0 → n ≤ 0
    same_low n e = omega (arith, e)

    nothing : (rows high : ℕ) → min (8 * rows * 0) high - (8 * rows * (0 - 1) - 1) ≡ 0
    nothing rows high = let z : 8 * rows * 0 ≡ 0 = grind arith in omega (arith, z)

-- ONE MORE MCU ROW

first_row : (rows : ℕ → List ℕ) (first count : ℕ) → rows first ∷ rows_from rows (suc first) count ≡ rows_from rows first (suc count)
first_row rows first zero = ap (λ n. rows n ∷ []) (let e : first ≡ first + 0 = omega arith in e)
first_row rows first (suc count) =
    let e : suc first + count ≡ first + suc count = omega arith in
    ap (λ ys. rows first ∷ ys) (map-append (λ k. rows (suc first + k)) (below count) (count ∷ []))
    ∙ ap (λ ys. ys ++ rows (suc first + count) ∷ []) (first_row rows first count)
    ∙ ap (λ n. rows_from rows first (suc count) ++ rows n ∷ []) e
    ∙ sym (map-append (λ k. rows (first + k)) (below (suc count)) (suc count ∷ []))

last_is : (rows : ℕ → List ℕ) (first count : ℕ) → last_row (rows_from rows first (suc count)) ≡ rows (first + count) ∷ []
last_is rows first count =
    let f : ℕ → List ℕ = λ k. rows (first + k) in
    let long : length (map f (below count)) ≡ count = length-map (below count) f ∙ length_below count in
    let all : length (map f (below (suc count))) ≡ suc count = length-map (below (suc count)) f ∙ length_below (suc count) in
    let less : length (map f (below (suc count))) - 1 ≡ count = omega (arith, all) in
    ap (λ n. drop n (map f (below (suc count)))) less
    ∙ ap (drop count) (map-append f (below count) (count ∷ []))
    ∙ drop-append-le count (map f (below count)) (f count ∷ []) (omega (arith, long))
    ∙ ap (λ ys. ys ++ f count ∷ []) (drop_whole (map f (below count)) count long)
  where
    drop_whole : (xs : List (List ℕ)) (n : ℕ) → length xs ≡ n → drop n xs ≡ []
    drop_whole [] zero e = refl
    drop_whole [] (suc n) e = refl
    drop_whole (x ∷ xs) zero e = absurd (omega (arith, e))
    drop_whole (x ∷ xs) (suc n) e = drop_whole xs n (omega (arith, e))

-- n rows are known, and the last of them is kept if there are any; up to row `end` there are new ones
with_new : (rows : ℕ → List ℕ) (first n end : ℕ) (old : List (List ℕ)) → first ≤ n - 1 → n ≤ end → old ≡ rows_from rows first (n - first)
    → last_row old ++ rows_from rows n (end - n) ≡ rows_from rows (n - 1) (end - (n - 1))
with_new rows first zero end old low le e =
    let none : old ≡ [] = e ∙ ap (rows_from rows first) (let z : 0 - first ≡ 0 = omega arith in z) in
    ap (λ xs. last_row xs ++ rows_from rows 0 (end - 0)) none
with_new rows first (suc n) end old low le e =
    let count : suc n - first ≡ suc (n - first) = omega (arith, low) in
    let place : first + (n - first) ≡ n = omega (arith, low) in
    let left : end - n ≡ suc (end - suc n) = omega (arith, le) in
    let less : suc n - 1 ≡ n = omega arith in
    ap (λ xs. last_row xs ++ rows_from rows (suc n) (end - suc n)) (e ∙ ap (rows_from rows first) count)
    ∙ ap (λ xs. xs ++ rows_from rows (suc n) (end - suc n)) (last_is rows first (n - first))
    ∙ ap (λ k. rows k ∷ rows_from rows (suc n) (end - suc n)) place
    ∙ first_row rows n (end - suc n)
    ∙ ap (rows_from rows n) (sym left)
    ∙ ap (λ k. rows_from rows k (end - k)) (sym less)

abbrev pub pushed_rows : Display → ℕ → ℕ → (ℕ → ℕ) → Picture → List (List ℕ) → List (List ℕ)
pushed_rows d i m first q old =
    last_row old ++ map (row_in (samples_across (picture_of d no_blocks) i) (slice_index_or d.quants i []) (map_of q) i (first i)) (below (told_rows d i m))

-- a sample in a row of blocks below others
record Placed (n r y m : ℕ) : Type 0 where
  block : (n + y) / 8 ≡ m * r + y / 8
  row : (n + y) % 8 ≡ y % 8

placed : (r m y : ℕ) → Placed (8 * r * m) r y m
placed r m y =
    let p : 8 * r * m ≡ 8 * (m * r) = grind arith in
    record { block = omega (arith, p); row = omega (arith, p) }

told_row : (d : Display) (i m : ℕ) (first : ℕ → ℕ) (q : Picture) (blocks : Blocks) (y : ℕ) → IsShowable d → i < parts d → m < all_rows d → AreMcuRow d m first q blocks → y < told_rows d i m
    → row_in (samples_across (picture_of d no_blocks) i) (slice_index_or d.quants i []) (map_of q) i (first i) y ≡ plane_row (picture_of d blocks) i (8 * rows_in d i * m + y)
told_row d i m first q blocks y s h missing mcu lt =
    let there = in_frame d i s h in
    let c = count_fits d i m s h missing in
    let p = placed (rows_in d i) m y in
    let wide = samples_across (picture_of d no_blocks) i in
    let down : y / 8 < rows_in d i = row_below y (told_rows d i m) (rows_in d i) lt c.few in
    let real : m * rows_in d i + y / 8 < blocks_down d.frame (component_at d.frame i) = real_below y (told_rows d i m) (m * rows_in d i) (blocks_down d.frame (component_at d.frame i)) lt c.real in
    let same : (x : ℕ) → x < wide → sample_in (slice_index_or d.quants i []) (map_of q) i (first i) y x ≡ plane (picture_of d blocks) i x (8 * rows_in d i * m + y) =
    λ (x : ℕ) (in_row : x < wide).
    (let across : x / 8 < blocks_across d.frame (component_at d.frame i) = subst (λ n. x / 8 < n) (sym (blocks_across_is d no_blocks i there)) (column_below x wide in_row) in
    ap (λ b. slice_index (inverse_dct (dequantised (slice_index_or d.quants i []) b)) (8 * (y % 8) + x % 8)) (mcu.same i (x / 8) (y / 8) h across down real)
    ∙ ap (λ n. slice_index (inverse_dct (dequantised (slice_index_or d.quants i []) (blocks i (x / 8) n))) (8 * (y % 8) + x % 8)) (sym p.block)
    ∙ ap (λ n. slice_index (inverse_dct (dequantised (slice_index_or d.quants i []) (blocks i (x / 8) ((8 * rows_in d i * m + y) / 8)))) (8 * n + x % 8)) (sym p.row)
    ∙ ap (λ k. slice_index (inverse_dct (dequantised k.quants (blocks i (x / 8) ((8 * rows_in d i * m + y) / 8)))) (8 * ((8 * rows_in d i * m + y) % 8) + x % 8)) (sym (component_is d blocks i there))) in
    map_below (sample_in (slice_index_or d.quants i []) (map_of q) i (first i) y) (λ x. plane (picture_of d blocks) i x (8 * rows_in d i * m + y)) wide same
  where
    row_below : (y count rows : ℕ) → y < count → count ≤ 8 * rows → y / 8 < rows
    row_below y count rows l few = omega (arith, l, few)

    real_below : (y count above real : ℕ) → y < count → above + div_up count 8 ≤ real → above + y / 8 < real
    real_below y count above real l le = omega (arith, l, le)

    column_below : (x wide : ℕ) → x < wide → x / 8 < div_up wide 8
    column_below x wide l = omega (arith, l)

pub pushed_stands : (s : ShownState) (first : ℕ → ℕ) (q : Picture) (blocks : Blocks) → IsShowable s.display → IsNextRowDue s → AreMcuRow s.display s.pushed first q blocks → RepresentsPicture s blocks
    → IsHeld (picture_of s.display blocks) (parts s.display) s.display.smooth (all_rows s.display) (s.pushed + 1) s.given (λ i. pushed_rows s.display i s.pushed first q (held_rows s i))
pushed_stands s first q blocks shown due mcu stands =
    let d = s.display in
    let m = s.pushed in
    let M = picture_of d blocks in
    let more = ready_more d m shown due.missing in
    record {
      some = next m (all_rows d) due.missing;
      early = subst (λ n. n ≤ rows_made_ready d (m + 1)) (sym due.given) more;
      late = subst (λ n. rows_made_ready d n ≤ s.given) (sym (back m)) (subst (λ n. rows_made_ready d m ≤ n) (sym due.given) (itself (rows_made_ready d m)));
      rows = λ (i : ℕ) (h : i < parts d).
          (let c = count_fits d i m shown h due.missing in
          let n = 8 * rows_in d i * m in
          let old : held_rows s i ≡ rows_from (plane_row M i) (first_kept M i m) (n - first_kept M i m) = stands.rows i h ∙ ap (λ k. rows_from (plane_row M i) (first_kept M i m) (k - first_kept M i m)) c.known in
          let new : map (row_in (samples_across (picture_of d no_blocks) i) (slice_index_or d.quants i []) (map_of q) i (first i)) (below (told_rows d i m)) ≡ rows_from (plane_row M i) n (told_rows d i m) =
          map_below (row_in (samples_across (picture_of d no_blocks) i) (slice_index_or d.quants i []) (map_of q) i (first i)) (λ k. plane_row M i (n + k)) (told_rows d i m)
          (λ (y : ℕ) (lt : y < told_rows d i m). told_row d i m first q blocks y shown h due.missing mcu lt) in
          let low : first_kept M i m ≤ n - 1 = kept_low (rows_in d i) m in
          let le : n ≤ known_rows M i (m + 1) = known_more n (known_rows M i m) (known_rows M i (m + 1)) c.known c.some in
          let count : told_rows d i m ≡ known_rows M i (m + 1) - n = ap (λ k. known_rows M i (m + 1) - k) c.known in
          let top : n - 1 ≡ first_kept M i (m + 1) = ap (λ k. 8 * rows_in d i * k - 1) (sym (back m)) in
          ap (λ ys. last_row (held_rows s i) ++ ys) new
          ∙ ap (λ k. last_row (held_rows s i) ++ rows_from (plane_row M i) n k) count
          ∙ with_new (plane_row M i) (first_kept M i m) n (known_rows M i (m + 1)) (held_rows s i) low le old
          ∙ ap (λ k. rows_from (plane_row M i) k (known_rows M i (m + 1) - k)) top);
    }
  where
    next : (a b : ℕ) → a < b → a + 1 ≤ b
    next a b l = omega (arith, l)

    itself : (n : ℕ) → n ≤ n
    itself n = omega arith

    back : (n : ℕ) → n + 1 - 1 ≡ n
    back n = omega arith

    kept_low : (rows m : ℕ) → 8 * rows * (m - 1) - 1 ≤ 8 * rows * m - 1
    kept_low rows zero = (let z : 8 * rows * (0 - 1) ≡ 8 * rows * 0 = refl in omega (arith, z))
    kept_low rows (suc m) =
        let p : 8 * rows * suc m ≡ 8 * rows * m + 8 * rows = grind arith in
        let e : suc m - 1 ≡ m = omega arith in
        let k : 8 * rows * (suc m - 1) ≡ 8 * rows * m = ap (λ n. 8 * rows * n) e in
        omega (arith, p, k)

    known_more : (n known more : ℕ) → known ≡ n → 1 ≤ more - known → n ≤ more
    known_more n known more e some = omega (arith, e, some)
