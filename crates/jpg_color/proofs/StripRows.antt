-- Rows of blocks of a strip, made and appended.
use Rattle.std.proofs.Common.{◌≡◌, ℕ, zero, suc, ◌+◌, ◌-◌, ◌*◌, ◌/◌, ◌<◌, ◌≤◌, min, List, [], ◌∷◌, ◌++◌, length, slice_index_or, refl, sym, ap, ◌∙◌, subst, arith, ⊎_elim}
use Rattle.std.specs.Prelude.{◌==◌, if◌then◌else◌}
use Rattle.std.proofs.lemmas.Bool.{cases_lt}
use Rattle.std.proofs.lemmas.Nat.{mul-le}
use Rattle.std.proofs.lemmas.List.{get_or_append_left, get_or-append_right, length-append}
use Rattle.jpg_spec.specs.EncodingLaws.{AreSamples}
use Rattle.jpg_spec.specs.Geometry.{Frame, component_at, div_up, h_max, v_max}
use Rattle.jpg_spec_encode.specs.Encoded.{full_plane, samples_of_block}
use Rattle.jpg_spec_image.specs.Downsampling.{downsampled}
use Rattle.jpg_spec_image.specs.Images.{Image}
use Rattle.jpg_color.specs.EncodeBlocks.{AppendsRows, AreWindows, GrowsPlane, HasRowsOfStrip, HasStripRows, IsRow, IsRowOf, IsSource, IsStripPart, lower_plane, source_image, window_at}
use Rattle.jpg_color.specs.PlaneRows.{AreUnder, HasBlocks, cut_in_blocks}
use Rattle.jpg_color.specs.declared.encode.rows.Source.{Source}
use Rattle.jpg_color.specs.declared.encode.strips.Strip.{Strip}
use Rattle.jpg_color.specs.declared.encode.strips.StripPart.{StripPart}
use Rattle.jpg_color.specs.declared.encode.strips.Windows.{Windows}
use Rattle.jpg_color.proofs.BlockRows.{cut_at, cut_bytes, cut_long}

-- SOURCES

abbrev plane_by : Image → ℕ → ℕ → ℕ → ℕ → ℕ → ℕ → ℕ
plane_by image i across down made x y = downsampled across down (full_plane image i) x (min y (made - 1))

pub source_rows : (f : Frame) (image : Image) (i across down made : ℕ) → across ≡ h_max f / (component_at f i).h → down ≡ v_max f / (component_at f i).v → made ≡ div_up image.info.height (v_max f) * (component_at f i).v
    → plane_by image i across down made ≡ lower_plane f image i
source_rows f image i across down made a d m =
    let h : ℕ = h_max f / (component_at f i).h in
    let v : ℕ = v_max f / (component_at f i).v in
    ap (λ k. plane_by image i k down made) a ∙ ap (λ k. plane_by image i h k made) d ∙ ap (λ k. plane_by image i h v k) m

-- the blocks of the eight rows that were made are those of the component
pub row_made : {f : Frame} {s : Source} (y : ℕ) (rows : List ℕ) → IsSource f s → HasBlocks s.plane s.made s.wide y rows → IsRowOf f (source_image s) s.plane.component y (cut_in_blocks s.wide rows)
row_made {f} {s} y rows is has x lx =
    cut_at s.wide rows x (omega (arith, is.wide, lx)) ∙ has x (omega (arith, is.wide, lx)) ∙ ap (λ p. samples_of_block p x y) is.rows

pub row_whole : {f : Frame} {s : Source} (rows : List ℕ) → IsSource f s → AreSamples rows → IsRow f s.plane.component (cut_in_blocks s.wide rows)
row_whole {f} {s} rows is all =
    record { long = cut_long s.wide rows ∙ omega (arith, is.wide); bytes = λ x lx. cut_bytes s.wide rows x all lx }

-- the rows for the eight rows are among those of the strip
pub all_under : {f : Frame} {s : Source} (y : ℕ) → IsSource f s → y < s.count → AreUnder s.plane s.window s.made y
all_under {f} {s} y is there =
    let d = s.plane.ratio.down in
    let v = (component_at f s.plane.component).v in
    let none : s.window.lines * s.window.at ≡ 0 = ap (λ n. s.window.lines * n) is.at ∙ omega arith in
    let m = mul-le d (8 * y + 8) d (8 * v) (omega arith) (omega (arith, there, is.count)) in
    let e : d * (8 * v) ≡ 8 * (d * v) = grind arith in
    record { first = omega (arith, none); last = omega (arith, none, m, e, is.whole, is.lines) }

-- APPENDED

pub appends_none : (f : Frame) (strip : Image) (i : ℕ) (old : List (List (List ℕ))) → AppendsRows f strip i 0 old old
appends_none f strip i old = record { long = omega arith; same = λ y h. refl; each = λ y h. absurd (omega (arith, h)) }

pub appends_more : {f : Frame} {strip : Image} {i y : ℕ} {old mid new : List (List (List ℕ))} (row : List (List ℕ)) → AppendsRows f strip i y old mid → IsRowOf f strip i y row → new ≡ mid ++ row ∷ [] → AppendsRows f strip i (y + 1) old new
appends_more {f} {strip} {i} {y} {old} {mid} {new} row has is e =
    let one : length new ≡ length mid + 1 = ap length e ∙ length-append mid (row ∷ []) in
    let before : (k : ℕ) → k < length mid → slice_index_or new k [] ≡ slice_index_or mid k [] = λ k lk. ap (λ rows. slice_index_or rows k []) e ∙ get_or_append_left mid (row ∷ []) [] k lk in
    let none : length mid - length mid ≡ 0 = omega arith in
    let last : slice_index_or new (length mid) [] ≡ row =
    ap (λ rows. slice_index_or rows (length mid) []) e ∙ get_or-append_right mid (row ∷ []) (length mid) (length mid) [] refl (omega arith) ∙ ap (λ n. slice_index_or (row ∷ []) n []) none in
    record {
      long = omega (arith, one, has.long);
      same = λ k lk. before k (omega (arith, lk, has.long)) ∙ has.same k lk;
      each = λ k lk.
          (⊎_elim
          (λ (a : k < y). subst (IsRowOf f strip i k) (sym (before (length old + k) (omega (arith, a, has.long)))) (has.each k a))
          (λ (b : y ≤ k). (let same : k ≡ y = omega (arith, b, lk) in
          let at : slice_index_or new (length old + k) [] ≡ row = ap (λ n. slice_index_or new n []) (omega (arith, same, has.long)) ∙ last in
          subst (λ n. IsRowOf f strip i n (slice_index_or new (length old + k) [])) (sym same) (subst (IsRowOf f strip i y) (sym at) is)))
          (cases_lt k y));
    }

pub grows_none : (f : Frame) (i : ℕ) (old : List (List (List ℕ))) → GrowsPlane f i old old
grows_none f i old = record { rows = λ are. are; more = omega arith }

pub grows_more : {f : Frame} {i : ℕ} {old mid new : List (List (List ℕ))} (row : List (List ℕ)) → GrowsPlane f i old mid → IsRow f i row → new ≡ mid ++ row ∷ [] → GrowsPlane f i old new
grows_more {f} {i} {old} {mid} {new} row has is e =
    let one : length new ≡ length mid + 1 = ap length e ∙ length-append mid (row ∷ []) in
    record {
      rows = λ are k lk.
          (⊎_elim
          (λ (a : k < length mid). subst (IsRow f i) (sym (ap (λ rows. slice_index_or rows k []) e ∙ get_or_append_left mid (row ∷ []) [] k a)) (has.rows are k a))
          (λ (b : length mid ≤ k). (let z : k - length mid ≡ 0 = omega (arith, lk, one, b) in
          subst (IsRow f i) (sym (ap (λ rows. slice_index_or rows k []) e ∙ get_or-append_right mid (row ∷ []) (length mid) k [] refl b ∙ ap (λ n. slice_index_or (row ∷ []) n []) z)) is))
          (cases_lt k (length mid)));
      more = omega (arith, one, has.more);
    }

-- THE ROWS OF A COMPONENT, as they are in a window

pub is_part : (s : Strip) (w : Windows) {p : StripPart} → p.rows.now ≡ window_at w p.component → AreWindows s.frame.now w → HasRowsOfStrip s w
    → p.component < length s.frame.now.components → IsStripPart s p
is_part s w {p} same are filled there = record {
  there = there;
  long = ap length same ∙ are p.component there;
  rows = subst (λ (r : List ℕ). HasStripRows s p.component r) (sym same) (filled p.component there);
}

-- ALL COMPONENTS

pub by_planes : (P : ℕ → List (List (List ℕ)) → List (List (List ℕ)) → Type 0) (a b c d e f : List (List (List ℕ))) (i : ℕ) → i < 3 → P 0 a d → P 1 b e → P 2 c f
    → P i (if i == 0 then a else if i == 1 then b else c) (if i == 0 then d else if i == 1 then e else f)
by_planes P a b c d e f zero h p q r = p
by_planes P a b c d e f (suc zero) h p q r = q
by_planes P a b c d e f (suc (suc zero)) h p q r = r
by_planes P a b c d e f (suc (suc (suc i))) h p q r = absurd (omega (arith, h))

pub only_first : (P : ℕ → List (List (List ℕ)) → List (List (List ℕ)) → Type 0) (a b c d e f : List (List (List ℕ))) (i : ℕ) → i < 1 → P 0 a d
    → P i (if i == 0 then a else if i == 1 then b else c) (if i == 0 then d else if i == 1 then e else f)
only_first P a b c d e f zero h p = p
only_first P a b c d e f (suc i) h p = absurd (omega (arith, h))
