-- Rows of the image that fewer MCU rows make ready are also made ready by more of them, and don't depend on later
-- blocks.
use Rattle.std.proofs.Common.{◌≡◌, ℕ, zero, suc, ◌-◌, ◌*◌, ◌<◌, ◌≤◌, Bool, true, false, cond, ◌==◌, ◌++◌, length, take, refl, sym, ap, ◌∙◌, subst, arith}
use Rattle.std.specs.Prelude.{map, flat_map}
use Rattle.std.proofs.Math.Seq.{take-append_seam}
use Rattle.std.proofs.lemmas.Bool.Decides.{nat_tests}
use Rattle.std.proofs.lemmas.Nat.{mul-le}
use Rattle.std.proofs.lemmas.List.{length-map, map-append, append_assoc}
use Rattle.std.proofs.lemmas.List.Concat.{flat_map-append}
use Rattle.jpg_spec.specs.Lists.{any_of, below}
use Rattle.jpg_spec.specs.Scan.{Blocks}
use Rattle.jpg_spec.specs.Meaning.{Meaning, colour_of}
use Rattle.jpg_spec.specs.Laws.{with_blocks}
use Rattle.jpg_spec_image.specs.Upsampling.{has_far_rows}
use Rattle.jpg_spec_image.specs.Pixels.{colour_row, info, pixel_row, shows_gray, stretch_of, upsampled}
use Rattle.jpg_spec_image.specs.ImageText.{first_piece, row_piece}
use Rattle.jpg_spec_image.specs.Strips.{IsCovered, block_rows, known_rows, lines, mcu_rows, needed, ready}
use Rattle.jpg_spec_image.specs.RowsShown.{ready_rows, rows_text}
use Rattle.jpg_spec_image.specs.RowLaws.{GoesOnFrom, IsShownInRows}
use Rattle.jpg_spec_image.specs.declared.image.EndKind.{EndKind}
use Rattle.jpg_spec.proofs.Basics.Common.{length_below}
use Rattle.jpg_spec_image.proofs.Strips.{ready_told, same_rows}
use Rattle.jpg_spec.proofs.McuRows.RowsOnce.{below_more}
use Rattle.jpg_spec.proofs.McuRows.RowsWhole.{map_below}

-- HOW MANY are ready

by_far : (far : Bool) (k l height : ℕ) → k ≤ l → l ≤ height → (cond far (k - 1) k ≤ cond far (l - 1) l) × (cond far (l - 1) l ≤ height)
by_far true k l height a b = (omega (arith, a), omega (arith, b))
by_far false k l height a b = (a, b)

ready_height : (M : Meaning) (shown : ℕ) (smooth : Bool) (all m : ℕ) → IsCovered M smooth all 0 → m ≤ all → ready M shown smooth all m ≤ M.height
ready_height M shown smooth all m is le = by (m == all) refl
  where
    far : Bool
    far = any_of (λ i. has_far_rows (stretch_of M smooth i)) (below shown)

    by : (b : Bool) → (m == all) ≡ b → cond (m == all) M.height (cond far (lines M * m - 1) (lines M * m)) ≤ M.height
    by true e = subst (λ b. cond b M.height (cond far (lines M * m - 1) (lines M * m)) ≤ M.height) (sym e) (omega arith)
    by false e =
        let lt : m < all = grind (arith, nat_tests, le) in
        let h = is.no_more m lt in
        subst (λ b. cond b M.height (cond far (lines M * m - 1) (lines M * m)) ≤ M.height) (sym e) (by_far far (lines M * m) (lines M * m) M.height (omega arith) (omega (arith, h))).1

pub ready_grows : (M : Meaning) (shown : ℕ) (smooth : Bool) (all m n : ℕ) → IsCovered M smooth all 0 → m ≤ n → n ≤ all → ready M shown smooth all m ≤ ready M shown smooth all n
ready_grows M shown smooth all m n is le few = by (n == all) refl
  where
    far : Bool
    far = any_of (λ i. has_far_rows (stretch_of M smooth i)) (below shown)

    by : (b : Bool) → (n == all) ≡ b → cond (m == all) M.height (cond far (lines M * m - 1) (lines M * m)) ≤ cond (n == all) M.height (cond far (lines M * n - 1) (lines M * n))
    by true e =
        subst (λ b. ready M shown smooth all m ≤ cond b M.height (cond far (lines M * n - 1) (lines M * n))) (sym e) (ready_height M shown smooth all m is (omega (arith, le, few)))
    by false e =
        let lt : n < all = grind (arith, nat_tests, few) in
        let other : (m == all) ≡ false = grind (arith, nat_tests, le, lt) in
        let h = is.no_more n lt in
        let fewer : lines M * m ≤ lines M * n = mul-le (lines M) m (lines M) n (omega arith) le in
        subst (λ b. cond b M.height (cond far (lines M * m - 1) (lines M * m)) ≤ cond (n == all) M.height (cond far (lines M * n - 1) (lines M * n))) (sym other)
        (subst (λ b. cond far (lines M * m - 1) (lines M * m) ≤ cond b M.height (cond far (lines M * n - 1) (lines M * n))) (sym e) (by_far far (lines M * m) (lines M * n) M.height fewer (omega (arith, h))).0)

-- THE ROWS

-- the same blocks in the first MCU rows
abbrev pub AgreeInRows : Meaning → Blocks → Bool → ℕ → Type 0
AgreeInRows M others gray rows = (i x z : ℕ) → i < needed (colour_of M) gray → z < block_rows M i * rows → M.blocks i x z ≡ others i x z

plane_same : (M : Meaning) (others : Blocks) (gray smooth : Bool) (m y i : ℕ) → IsShownInRows M gray smooth → m ≤ mcu_rows M → AgreeInRows M others gray m → y < ready_rows M gray smooth m → i < needed (colour_of M) gray
    → upsampled M smooth i y ≡ upsampled (with_blocks M others) smooth i y
plane_same M others gray smooth m y i shown le agree lt has =
    let is = shown i has in
    let zero_is : 0 < needed (colour_of M) gray = omega (arith, has) in
    let height = ready_height M (needed (colour_of M) gray) smooth (mcu_rows M) m (shown 0 zero_is) le in
    let tall = is.tall in
    let down : 1 ≤ (stretch_of M smooth i).down = some_down (stretch_of M smooth i).high (stretch_of M smooth i).down (omega (arith, height, lt, tall)) in
    let turned : 8 * block_rows M i * m ≡ 8 * (block_rows M i * m) = grind arith in
    same_rows M others smooth i (block_rows M i * m) (known_rows M i m) y (λ x z low. agree i x z has low) down (omega arith) (omega (arith, turned)) (ready_told M (needed (colour_of M) gray) smooth (mcu_rows M) m i y is has le lt)
  where
    some_down : (h d : ℕ) → 1 ≤ h * d → 1 ≤ d
    some_down h zero e = (let z : h * 0 ≡ 0 = omega arith in absurd (omega (arith, e, z)))
    some_down h (suc d) e = omega arith

pixels_same : (M : Meaning) (others : Blocks) (gray smooth : Bool) (m y : ℕ) → IsShownInRows M gray smooth → m ≤ mcu_rows M → AgreeInRows M others gray m → y < ready_rows M gray smooth m
    → pixel_row M gray smooth y ≡ pixel_row (with_blocks M others) gray smooth y
pixels_same M others gray smooth m y shown le agree lt =
    by (shows_gray (colour_of M) gray) (λ i has. plane_same M others gray smooth m y i shown le agree lt has)
  where
    by : (b : Bool) → ((i : ℕ) → i < cond b 1 3 → upsampled M smooth i y ≡ upsampled (with_blocks M others) smooth i y)
        → cond b (upsampled M smooth 0 y) (colour_row (colour_of M) (upsampled M smooth 0 y) (upsampled M smooth 1 y) (upsampled M smooth 2 y))
        ≡ cond b (upsampled (with_blocks M others) smooth 0 y) (colour_row (colour_of M) (upsampled (with_blocks M others) smooth 0 y) (upsampled (with_blocks M others) smooth 1 y) (upsampled (with_blocks M others) smooth 2 y))
    by true e = e 0 (omega arith)
    by false e =
        ap (λ a. colour_row (colour_of M) a (upsampled M smooth 1 y) (upsampled M smooth 2 y)) (e 0 (omega arith))
        ∙ ap (λ b. colour_row (colour_of M) (upsampled (with_blocks M others) smooth 0 y) b (upsampled M smooth 2 y)) (e 1 (omega arith))
        ∙ ap (λ c. colour_row (colour_of M) (upsampled (with_blocks M others) smooth 0 y) (upsampled (with_blocks M others) smooth 1 y) c) (e 2 (omega arith))

-- THEIR TEXT

take_below : {A : Type 0} (g : ℕ → A) (k n : ℕ) → k ≤ n → take k (map g (below n)) ≡ map g (below k)
take_below g k n le =
    let r = below_more k n le in
    let l : k ≡ length (map g (below k)) = sym (length-map (below k) g ∙ length_below k) in
    ap (λ xs. take k (map g xs)) r.1 ∙ ap (take k) (map-append g (below k) r.0) ∙ ap (λ n. take n (map g (below k) ++ map g r.0)) l ∙ take-append_seam (map g (below k)) (map g r.0)

ready_text : (kind : EndKind) (M : Meaning) (gray smooth : Bool) (m : ℕ) → IsShownInRows M gray smooth → 0 < needed (colour_of M) gray → m ≤ mcu_rows M
    → rows_text kind M gray smooth m ≡ first_piece kind (info M gray) ++ flat_map (row_piece kind (info M gray)) (map (pixel_row M gray smooth) (below (ready_rows M gray smooth m)))
ready_text kind M gray smooth m shown some le =
    ap (λ rows. first_piece kind (info M gray) ++ flat_map (row_piece kind (info M gray)) rows)
    (take_below (pixel_row M gray smooth) (ready_rows M gray smooth m) M.height (ready_height M (needed (colour_of M) gray) smooth (mcu_rows M) m (shown 0 some) le))

some_shown : (b : Bool) → 0 < cond b 1 3
some_shown true = omega arith
some_shown false = omega arith

-- THE LAW, of one picture
pub text_goes_on : (kind : EndKind) (M : Meaning) (others : Blocks) (gray smooth : Bool) (m n : ℕ) → IsShownInRows M gray smooth → m ≤ n → n ≤ mcu_rows M → AgreeInRows M others gray m
    → GoesOnFrom (rows_text kind (with_blocks M others) gray smooth m) (rows_text kind M gray smooth n)
text_goes_on kind M others gray smooth m n shown le few agree =
    let some : 0 < needed (colour_of M) gray = some_shown (shows_gray (colour_of M) gray) in
    let k = ready_rows M gray smooth m in
    let piece = row_piece kind (info M gray) in
    let head = first_piece kind (info M gray) in
    let g = pixel_row M gray smooth in
    let more = below_more k (ready_rows M gray smooth n) (ready_grows M (needed (colour_of M) gray) smooth (mcu_rows M) m n (shown 0 some) le few) in
    let same : map g (below k) ≡ map (pixel_row (with_blocks M others) gray smooth) (below k) =
    map_below g (pixel_row (with_blocks M others) gray smooth) k (λ y lt. pixels_same M others gray smooth m y shown (omega (arith, le, few)) agree lt) in
    let fewer : rows_text kind (with_blocks M others) gray smooth m ≡ head ++ flat_map piece (map (pixel_row (with_blocks M others) gray smooth) (below k)) =
    ap (λ rows. head ++ flat_map piece rows) (take_below (pixel_row (with_blocks M others) gray smooth) k M.height (ready_height M (needed (colour_of M) gray) smooth (mcu_rows M) m (shown 0 some) (omega (arith, le, few)))) in (
      flat_map piece (map g more.0),
      ready_text kind M gray smooth n shown some few
          ∙ ap (λ xs. head ++ flat_map piece (map g xs)) more.1
          ∙ ap (λ rows. head ++ flat_map piece rows) (map-append g (below k) more.0)
          ∙ ap (λ l. head ++ l) (flat_map-append piece (map g (below k)) (map g more.0))
          ∙ sym (append_assoc head (flat_map piece (map g (below k))) (flat_map piece (map g more.0)))
          ∙ ap (λ rows. (head ++ flat_map piece rows) ++ flat_map piece (map g more.0)) same
          ∙ ap (λ l. l ++ flat_map piece (map g more.0)) (sym fewer),
    )
