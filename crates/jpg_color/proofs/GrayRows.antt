-- Rows of 128, which zero blocks encode (T.81, A.3.3).
use Rattle.std.proofs.Common.{◌≡◌, ℕ, ⊎_elim, ◌+◌, ◌-◌, ◌*◌, ◌%◌, ◌<◌, ◌≤◌, List, ◌++◌, length, take, drop, map, replicate, slice_index, ℤ, pos, false, refl, sym, ap, subst, ◌∙◌, arith}
use Rattle.std.specs.Prelude.{◌*ℤ◌}
use Rattle.std.specs.List.{All}
use Rattle.std.proofs.Math.Path.{fun_ext}
use Rattle.std.proofs.lemmas.Bool.{cases_lt}
use Rattle.std.proofs.lemmas.Grind.{rows}
use Rattle.std.proofs.lemmas.Nat.{mul-add-lt}
use Rattle.std.proofs.lemmas.List.{get_or-replicate, get_or_past, length-drop, length-replicate, length-take-le}
use Rattle.std.proofs.lemmas.List.Elements.{All-weaker}
use borrow.Rule.Slice.PartMut.{put_mid}
use Rattle.jpg_spec.specs.Lists.{below, index_of}
use Rattle.jpg_spec_image.specs.Dct.{column, dequantised, even_sums, inverse_dct, joined_sums, number_at, odd_sums, sample_row}
use Rattle.jpg_spec.specs.Elements.{zeros}
use Rattle.jpg_spec.specs.FileMeaning.{no_blocks}
use Rattle.jpg_spec.specs.Geometry.{Frame, bounds, mcu_row_frame, padded_blocks}
use Rattle.jpg_spec.specs.Zigzag.{zigzag}
use Rattle.jpg_spec.specs.Ranges.{AreInRange}
use Rattle.jpg_spec.specs.Scan.{Blocks}
use Rattle.jpg_spec.specs.Segments.{QuantTable}
use Rattle.jpg_spec.proofs.Files.Ranges.{zeros_in_bounds}
use Rattle.jpg_coefs.specs.Picture.{Picture, map_of}
use Rattle.jpg_coefs.proofs.Maps.{blank_is}
use Rattle.jpg_color.specs.KeptRows.{KeptRows, last_row, row_in, sample_in, with_gray, with_block_rows}
use Rattle.jpg_color.specs.PartState.{CanFill, CanFillGray, PartState, filled, grayed_part, rows_so_far_of}
use Rattle.jpg_color.specs.Shown.{Display, zero_row}
use Rattle.jpg_color.specs.RowBytes.{PutsRows}
use Rattle.jpg_color.proofs.PlaneRows.{put_before, put_long, put_mid_at}
use Rattle.jpg_spec.proofs.McuRows.RowsWhole.{map_below}

pub gray_put : (line kept count : ℕ) (old part : List ℕ) → (kept + count) * line ≤ length old → part ≡ replicate ((kept + count) * line - kept * line) 128
    → PutsRows line kept count line (λ y x. 128) old (put_mid (kept * line) ((kept + count) * line - kept * line) old part)
gray_put line kept count old part room is =
    let a = kept * line in
    let k = (kept + count) * line - kept * line in
    let long : length part ≡ k = ap length is ∙ length-replicate k 128 in
    let e : (kept + count) * line ≡ kept * line + count * line = grind arith in
    let low : a ≤ length old = omega (arith, room, e) in
    record {
      long = put_long a k old part (omega (arith, room, e)) long;
      there = λ y x hy hx.
          (let u = y * line + x in
          let n : (kept + y) * line + x ≡ kept * line + u = grind arith in
          let lu : u < count * line = grind (arith, rows, mul-add-lt y line x count hy hx) in
          let lk : u < k = omega (arith, lu, e) in
          ap (slice_index (put_mid a k old part)) n ∙ put_mid_at a k old part u low (omega (arith, lk, long))
          ∙ ap (λ l. slice_index l u) is ∙ get_or-replicate k u 128 0 lk);
      above = λ r x hr hx.
          (let lt : r * line + x < a = grind (arith, rows, mul-add-lt r line x kept hr hx) in
          put_before a k old part (r * line + x) low lt);
    }

-- the part that is filled
pub part_filled : (line kept count : ℕ) (old part : List ℕ) → (kept + count) * line ≤ length old
    → part ≡ replicate (length (take ((kept + count) * line - kept * line) (drop (kept * line) old))) 128 → part ≡ replicate ((kept + count) * line - kept * line) 128
part_filled line kept count old part room is =
    let n = (kept + count) * line - kept * line in
    is ∙ ap (λ k. replicate k 128) (length-take-le n (drop (kept * line) old) (omega (arith, room, length-drop (kept * line) old)))

-- WHAT ZERO BLOCKS ENCODE

zero_at : (k : ℕ) → number_at (zeros 64) k ≡ pos 0
zero_at k = ⊎_elim
    (λ (h : k < 64). get_or-replicate 64 k (pos 0) (pos 0) h)
    (λ (h : 64 ≤ k). get_or_past (zeros 64) k (pos 0) (omega (arith, h, length-replicate 64 (pos 0))))
    (cases_lt k 64)

zero_times : (v : ℤ) (n : ℕ) → v ≡ pos 0 → v *ℤ pos n ≡ pos 0
zero_times v n e = ap (λ w. w *ℤ pos n) e ∙ (let z : 0 * n ≡ 0 = omega arith in ap pos z)

-- whatever the quantisers
zero_dequantised : (quants : List ℕ) → dequantised quants (zeros 64) ≡ zeros 64
unfolding dequantised
zero_dequantised quants =
    map_below (λ n. number_at (zeros 64) (index_of n zigzag) *ℤ pos (slice_index quants (index_of n zigzag))) (λ n. pos 0) 64
    (λ n h. zero_times (number_at (zeros 64) (index_of n zigzag)) (slice_index quants (index_of n zigzag)) (zero_at (index_of n zigzag)))

gray_samples : inverse_dct (zeros 64) ≡ replicate 64 128
unfolding inverse_dct sample_row joined_sums even_sums odd_sums column
gray_samples = refl

pub gray_sample : (quants : List ℕ) (y x : ℕ) → slice_index (inverse_dct (dequantised quants (zeros 64))) (8 * (y % 8) + x % 8) ≡ 128
gray_sample quants y x =
    ap (λ b. slice_index (inverse_dct b) (8 * (y % 8) + x % 8)) (zero_dequantised quants) ∙ ap (λ l. slice_index l (8 * (y % 8) + x % 8)) gray_samples
    ∙ get_or-replicate 64 (8 * (y % 8) + x % 8) 128 0 (omega arith)

gray_rows : (kept : KeptRows) (quants : QuantTable) (i first count : ℕ) → with_block_rows kept quants no_blocks i first count ≡ with_gray kept count
gray_rows kept quants i first count =
    ap (λ (rs : List (List ℕ)). (let k : KeptRows = record kept { rows = last_row kept.rows ++ rs } in k))
    (map_below (row_in kept.wide quants no_blocks i first) (λ y. map (λ x. 128) (below kept.wide)) count
    (λ y h. map_below (sample_in quants no_blocks i first y) (λ x. 128) kept.wide (λ x h. gray_sample quants y x)))

blank_row : (d : Display) → map_of (zero_row d) ≡ no_blocks
blank_row d = blank_is (zero_row d) (padded_blocks (mcu_row_frame d.frame)) refl

-- a part after an MCU row of zero blocks
grayed_is : (d : Display) (m : ℕ) (p : PartState) → grayed_part m p ≡ filled (zero_row d) false m p
grayed_is d m p =
    ap (λ (k : KeptRows). (let q : PartState = record p { kept = k } in q))
    (sym (gray_rows p.kept p.quants p.component 0 (rows_so_far_of p m)) ∙ ap (λ (b : Blocks). with_block_rows p.kept p.quants b p.component 0 (rows_so_far_of p m)) (sym (blank_row d)))

pub all_grayed : (d : Display) (m : ℕ) (ps : List PartState) → map (grayed_part m) ps ≡ map (filled (zero_row d) false m) ps
all_grayed d m ps = ap (λ (f : PartState → PartState). map f ps) (fun_ext (grayed_is d m))

pub blank_range : (f : Frame) → AreInRange (bounds f) no_blocks
blank_range f = record { sizes = λ i x y. refl; values = λ i x y k. zeros_in_bounds f.precision k }

pub zero_in_range : (d : Display) → AreInRange (bounds d.frame) (map_of (zero_row d))
zero_in_range d = subst (λ (b : Blocks). AreInRange (bounds d.frame) b) (sym (blank_row d)) (blank_range d.frame)

pub can_gray : (q : Picture) (m : ℕ) (ps : List PartState) → All (CanFill q false m) ps → All (CanFillGray m) ps
can_gray q m ps all = All-weaker (CanFill q false m) (CanFillGray m) (λ p can. record { early = can.early; few = can.few }) ps all
