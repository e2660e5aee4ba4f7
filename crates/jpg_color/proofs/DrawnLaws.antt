-- Laws on images that are written while their pictures are decoded: the texts of MCU rows join, and pictures with the
-- same first MCU rows are drawn alike.
use Rattle.std.proofs.Common.{◌≡◌, ℕ, ◌+◌, ◌-◌, ◌*◌, ◌/◌, ◌%◌, ◌<◌, ◌≤◌, min, ℤ, slice_index, Bool, true, false, if◌then◌else◌, List, ◌++◌, length, take, drop, flat_map, sym, ap, ◌∙◌, subst, arith}
use Rattle.std.proofs.lemmas.List.{append-nil, append_assoc}
use Rattle.std.proofs.lemmas.Grind.{flat_map-append}
use Rattle.jpg_spec.specs.Geometry.{div_up}
use Rattle.jpg_spec_image.specs.ImageText.{first_piece, row_piece}
use Rattle.jpg_spec_image.specs.Dct.{dequantised, inverse_dct}
use Rattle.jpg_spec.specs.Laws.{with_blocks}
use Rattle.jpg_spec.specs.Meaning.{Meaning}
use Rattle.jpg_spec.specs.Meaning.{component_of}
use Rattle.jpg_spec_image.specs.Pixels.{colour_row, info, pixel_row, pixels, plane, plane_row, samples_across, samples_down, shows_gray, stretch_of, upsampled}
use Rattle.jpg_spec.specs.Scan.{Blocks}
use Rattle.jpg_spec_image.specs.Strips.{block_rows, first_kept, known_rows, mcu_rows, ready_of, IsRowReady}
use Rattle.jpg_spec_image.specs.Upsampling.{Stretch, has_far_rows}
use Rattle.jpg_spec.specs.declared.frame.Colour.{Colour}
use Rattle.jpg_spec_image.specs.declared.image.EndKind.{EndKind}
use Rattle.jpg_spec_image.specs.RowsShown.{ready_rows as rows_ready, rows_text}
use Rattle.jpg_spec_image.proofs.Strips.{window, ready_told}
use Rattle.jpg_pnm_bmp.specs.EndState.{EndState}
use Rattle.jpg_color.specs.Shown.{Display, IsShowable, RepresentsPicture, all_rows, parts, picture_of, rows_made_ready, row_of_blocks}
use Rattle.jpg_color.specs.DecodeRows.{end_at}
use Rattle.jpg_color.specs.StripImage.{AgreeInFirstRows, AreDrawnAlike, Drawing, DrawsImage, IsDrawnTo, TextsJoin, first_image_rows, next_rows, next_text, rest_text, whole_text}
use Rattle.jpg_color.proofs.Coverage.{count_is, covered, in_frame, whole_ratios}
use Rattle.jpg_color.proofs.Drawn.{GoesUp, all_drawn, all_same, goes_up, high_same, ready_same, row_same, rows_join}
use Rattle.jpg_color.proofs.RowRanges.{no_row, take_and_drop, take_rows}
use Rattle.jpg_color.proofs.Windows.{ready_high, ready_none}
use Rattle.jpg_spec.proofs.McuRows.RowsWhole.{map_below}

-- TEXTS

texts_first : {d : Drawing} {M : Meaning} {gray smooth : Bool} (kind : EndKind) → DrawsImage d M gray smooth
    → rows_text kind M gray smooth 0 ≡ first_piece kind (info M gray)
texts_first {d} {M} {gray} {smooth} kind h =
    let none : rows_ready M gray smooth 0 ≡ 0 = sym (ready_same h 0) ∙ ready_none d.strips.display h.showable in
    ap (λ rows. first_piece kind (info M gray) ++ flat_map (row_piece kind (info M gray)) rows) (no_row (pixels M gray smooth) (rows_ready M gray smooth 0) none) ∙ append-nil (first_piece kind (info M gray))

texts_more : {d : Drawing} {M : Meaning} {gray smooth : Bool} (m : ℕ) (kind : EndKind) → DrawsImage d M gray smooth → m < mcu_rows M
    → rows_text kind M gray smooth m ++ next_text kind M gray smooth m ≡ rows_text kind M gray smooth (m + 1)
texts_more {d} {M} {gray} {smooth} m kind h lt =
    let up : GoesUp M gray smooth m = goes_up m h (subst (λ n. m < n) (sym (all_same d M gray smooth h)) lt) in
    let piece : List ℕ → List ℕ = row_piece kind (info M gray) in
    let first = first_piece kind (info M gray) in
    append_assoc first (flat_map piece (first_image_rows M gray smooth m)) (next_text kind M gray smooth m)
    ∙ ap (λ x. first ++ x) (sym (flat_map-append piece (first_image_rows M gray smooth m) (next_rows M gray smooth m)) ∙ ap (flat_map piece) (rows_join up))

texts_whole : (kind : EndKind) (M : Meaning) (gray smooth : Bool) → rows_text kind M gray smooth (mcu_rows M) ++ rest_text kind M gray smooth ≡ whole_text kind M gray smooth
texts_whole kind M gray smooth =
    ap (λ rows. (first_piece kind (info M gray) ++ flat_map (row_piece kind (info M gray)) rows) ++ rest_text kind M gray smooth) (all_drawn M gray smooth)

texts_part : (kind : EndKind) (M : Meaning) (gray smooth : Bool) (m : ℕ) → (more : List ℕ) × (rows_text kind M gray smooth m ++ more ≡ whole_text kind M gray smooth)
texts_part kind M gray smooth m =
    let piece : List ℕ → List ℕ = row_piece kind (info M gray) in
    let first = first_piece kind (info M gray) in
    let n = rows_ready M gray smooth m in
    let others : List (List ℕ) = drop n (pixels M gray smooth) in
    let rows : flat_map piece (first_image_rows M gray smooth m) ++ flat_map piece others ≡ flat_map piece (pixels M gray smooth) =
    sym (flat_map-append piece (first_image_rows M gray smooth m) others) ∙ ap (flat_map piece) (take_and_drop (pixels M gray smooth) n)
    in (
      flat_map piece others ++ rest_text kind M gray smooth,
      sym (append_assoc (rows_text kind M gray smooth m) (flat_map piece others) (rest_text kind M gray smooth))
          ∙ ap (λ x. x ++ rest_text kind M gray smooth) (append_assoc first (flat_map piece (first_image_rows M gray smooth m)) (flat_map piece others) ∙ ap (λ x. first ++ x) rows),
    )

pub texts_join : (d : Drawing) (M : Meaning) (gray smooth : Bool) (kind : EndKind) → DrawsImage d M gray smooth → TextsJoin kind M gray smooth
texts_join d M gray smooth kind h =
    record {
      first = texts_first kind h;
      more = λ (m : ℕ) (lt : m < mcu_rows M). texts_more m kind h lt;
      whole = texts_whole kind M gray smooth;
      part = λ (m : ℕ). texts_part kind M gray smooth m;
    }

-- ROWS OF SAMPLES

-- the real blocks of the first m MCU rows are the same
abbrev Agree : Meaning → Blocks → ℕ → Type 0
Agree M others m = (i x y : ℕ) → i < length M.components → x < div_up (samples_across M i) 8 → y < div_up (samples_down M i) 8 → y < m * block_rows M i → M.blocks i x y ≡ others i x y

same_samples : (M : Meaning) (others : Blocks) (m i r : ℕ) → Agree M others m → i < length M.components → r < known_rows M i m → plane_row M i r ≡ plane_row (with_blocks M others) i r
same_samples M others m i r agree h lt =
    map_below (λ x. plane M i x r) (λ x. plane (with_blocks M others) i x r) (samples_across M i)
    (λ (x : ℕ) (wide : x < samples_across M i).
    ap (λ b. slice_index_of b x) (agree i (x / 8) (r / 8) h (eighth x (samples_across M i) wide) (eighth r (samples_down M i) (least_second (8 * block_rows M i * m) (samples_down M i) lt)) (row_above (block_rows M i) m lt)))
  where
    slice_index_of : List ℤ → ℕ → ℕ
    slice_index_of b x = slice_index (inverse_dct (dequantised (component_of M i).quants b)) (8 * (r % 8) + x % 8)

    eighth : (x n : ℕ) → x < n → x / 8 < div_up n 8
    eighth x n l = omega (arith, l)

    least_second : (a b : ℕ) → r < min a b → r < b
    least_second a b l = omega (arith, l)

    row_above : (rows m : ℕ) → r < min (8 * rows * m) (samples_down M i) → r / 8 < m * rows
    row_above rows m l = let e : 8 * rows * m ≡ 8 * (m * rows) = grind arith in omega (arith, l, e)

-- ROWS OF THE IMAGE

none_ready : (s : Stretch) (y : ℕ) → ready_of s 0 ≤ y
none_ready s y = by (has_far_rows s)
  where
    by : (b : Bool) → (if b then 2 * 0 - 1 else 0 * s.down) ≤ y
    by true = omega arith
    by false = omega arith

same_upsampled : (d : Display) (blocks others : Blocks) (m i y : ℕ) → IsShowable d → Agree (picture_of d blocks) others m → m ≤ all_rows d → i < parts d → y < rows_made_ready d m
    → upsampled (picture_of d blocks) d.smooth i y ≡ upsampled (picture_of d others) d.smooth i y
same_upsampled d blocks others m i y shown agree le h lt =
    let M = picture_of d blocks in
    let st = stretch_of M d.smooth i in
    let r = whole_ratios d blocks i shown h in
    let told : IsRowReady st (known_rows M i m) y = ready_told M (parts d) d.smooth (all_rows d) m i y (covered d blocks i shown h) h le lt in
    let there : i < length M.components = subst (λ n. i < n) (sym (count_is d blocks)) (in_frame d i shown h) in
    ap (take d.frame.width)
    (window st (plane_row M i) (plane_row (picture_of d others) i) 0 (known_rows M i m) y r.down_low (least_second (8 * block_rows M i * m) st.high)
    (λ (k : ℕ) (low : 0 - 1 ≤ k) (high : k < known_rows M i m). same_samples M others m i k agree there high) (none_ready st y) told)
  where
    least_second : (a b : ℕ) → min a b ≤ b
    least_second a b = omega arith

by_colour : (b : Bool) (c : Colour) (up other : ℕ → List ℕ) → ((i : ℕ) → i < (if b then 1 else 3) → up i ≡ other i)
    → (if b then up 0 else colour_row c (up 0) (up 1) (up 2)) ≡ (if b then other 0 else colour_row c (other 0) (other 1) (other 2))
by_colour true c up other e = e 0 (omega arith)
by_colour false c up other e =
    ap (λ x. colour_row c x (up 1) (up 2)) (e 0 (omega arith)) ∙ ap (λ x. colour_row c (other 0) x (up 2)) (e 1 (omega arith)) ∙ ap (λ x. colour_row c (other 0) (other 1) x) (e 2 (omega arith))

same_row : (d : Display) (blocks others : Blocks) (m y : ℕ) → IsShowable d → Agree (picture_of d blocks) others m → m ≤ all_rows d → y < rows_made_ready d m → row_of_blocks d blocks y ≡ row_of_blocks d others y
same_row d blocks others m y shown agree le lt =
    by_colour (shows_gray d.colour d.gray) d.colour (λ (i : ℕ). upsampled (picture_of d blocks) d.smooth i y) (λ (i : ℕ). upsampled (picture_of d others) d.smooth i y)
    (λ (i : ℕ) (h : i < parts d). same_upsampled d blocks others m i y shown agree le h lt)

-- WHAT IS DRAWN OF ONE IS DRAWN OF THE OTHER

stands_too : (d : Drawing) (blocks others : Blocks) (m : ℕ) → IsShowable d.strips.display → Agree (picture_of d.strips.display blocks) others m → d.strips.pushed ≡ m → RepresentsPicture d.strips blocks → RepresentsPicture d.strips others
stands_too d blocks others m shown agree is h =
    let x = d.strips.display in
    let M = picture_of x blocks in
    let n = d.strips.pushed in
    record {
      some = h.some;
      early = h.early;
      late = h.late;
      rows = λ (i : ℕ) (lt : i < parts x).
          (let there : i < length M.components = subst (λ k. i < k) (sym (count_is x blocks)) (in_frame x i shown lt) in
          let first = first_kept M i n in
          let count = known_rows M i n - first in
          h.rows i lt
          ∙ map_below (λ k. plane_row M i (first + k)) (λ k. plane_row (picture_of x others) i (first + k)) count
          (λ (k : ℕ) (l : k < count). same_samples M others n i (first + k) (subst (λ t. Agree M others t) (sym is) agree) there (inside first k (known_rows M i n) l)));
    }
  where
    inside : (first k known : ℕ) → k < known - first → first + k < known
    inside first k known l = omega (arith, l)

draws_too : {d : Drawing} {M : Meaning} {gray smooth : Bool} (others : Blocks) → DrawsImage d M gray smooth → DrawsImage d (with_blocks M others) gray smooth
draws_too others h =
    record {
      showable = h.showable;
      picture = ap (λ (N : Meaning). with_blocks N others) h.picture;
      colour = h.colour;
      as_gray = h.as_gray;
      as_smooth = h.as_smooth;
      info = h.info;
    }

drawn_too : {d : Drawing} {e : EndState} {M : Meaning} (others : Blocks) {gray smooth : Bool} {m : ℕ} → IsDrawnTo d e M gray smooth m → Agree M others m
    → IsDrawnTo d e (with_blocks M others) gray smooth m
drawn_too {d} {e} {M} others {gray} {smooth} {m} h agree =
    let x = d.strips.display in
    let N : Meaning = with_blocks M others in
    let agree' : Agree (picture_of x M.blocks) others m =
    subst (λ (Y : Meaning). (i u v : ℕ) → i < length Y.components → u < div_up (samples_across Y i) 8 → v < div_up (samples_down Y i) 8 → v < m * block_rows Y i → M.blocks i u v ≡ others i u v) h.image.picture agree
    in
    let image = draws_too others h.image in
    let n = rows_ready M gray smooth m in
    let is : rows_made_ready x m ≡ n = ready_same h.image m in
    let le : m ≤ all_rows x = subst (λ k. k ≤ all_rows x) h.pushed h.stands.some in
    let most : n ≤ M.height = bound (rows_made_ready x m) n x.frame.height M.height (ready_high x m h.image.showable le) is (high_same h.image) in
    let rows : first_image_rows M gray smooth m ≡ first_image_rows N gray smooth m =
    take_rows (pixel_row M gray smooth) n M.height most
    ∙ map_below (pixel_row M gray smooth) (pixel_row N gray smooth) n
    (λ (y : ℕ) (lt : y < n).
    sym (row_same h.image y) ∙ same_row x M.blocks others m y h.image.showable agree' le (subst (λ k. y < k) (sym is) lt) ∙ row_same image y)
    ∙ sym (take_rows (pixel_row N gray smooth) n M.height most)
    in
    record {
      image = image;
      pushed = h.pushed;
      given = h.given;
      stands = stands_too d M.blocks others m h.image.showable agree' h.pushed h.stands;
      end = h.end ∙ ap (λ rows. end_at e.kind (info M gray) rows) rows;
    }
  where
    bound : (a b c d : ℕ) → a ≤ c → a ≡ b → c ≡ d → b ≤ d
    bound a b c d l e f = omega (arith, l, e, f)

pub drawn_alike : (M N : Meaning) (gray smooth : Bool) (m : ℕ) → AgreeInFirstRows M N m → AreDrawnAlike M N gray smooth m
drawn_alike M N gray smooth m agree =
    λ (d : Drawing) (e : EndState) (h : IsDrawnTo d e M gray smooth m).
    subst (λ (x : Meaning). IsDrawnTo d e x gray smooth m) (sym agree.same) (drawn_too N.blocks h agree.blocks)
