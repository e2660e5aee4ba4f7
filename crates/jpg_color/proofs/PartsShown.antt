-- The parts of strips, determined by the picture: what they keep, fill and draw.
use Rattle.std.proofs.Common.{◌≡◌, ℕ, ◌+◌, ◌-◌, ◌*◌, ◌<◌, ◌≤◌, min, Bool, true, ◌==◌, ◌&&◌, if◌then◌else◌, List, [], ◌++◌, length, map, slice_index_or, subst, sym, ap, ◌∙◌, arith, All}
use Rattle.std.proofs.lemmas.List.{get_or-map}
use Rattle.std.proofs.lemmas.List.Elements.{All-from_get_or}
use Rattle.std.proofs.Math.ListN as listn
use Rattle.jpg_spec.specs.Lists.{below}
use Rattle.jpg_spec.specs.FileMeaning.{no_blocks}
use Rattle.jpg_spec.specs.Segments.{QuantTable}
use Rattle.jpg_spec.specs.Scan.{Blocks}
use Rattle.jpg_spec_image.specs.Upsampling.{Stretch, is_smoothed, has_far_rows, near_row, far_row, upsampled_row}
use Rattle.jpg_spec_image.specs.Pixels.{samples_across, plane_row, stretch_of}
use Rattle.jpg_spec_image.specs.Strips.{block_rows, known_rows, first_kept, kept_row}
use Rattle.jpg_coefs.specs.Picture.{Picture, map_of}
use Rattle.jpg_color.specs.KeptRows.{KeptRows, HasRows, row_in, last_row}
use Rattle.jpg_color.specs.PartState.{PartState, IsPart, CanFill, CanDraw, no_drawn_part, no_rows, known, rows_so_far_of, top, begins, filled, drawn}
use Rattle.jpg_color.specs.Shown.{Display, IsShowable, ShownState, RepresentsPicture, IsNextRowDue, picture_of, parts, rows_in, held_rows, rows_made_ready}
use Rattle.jpg_color.specs.StripsState.{AreStrips, HasMcuRow, part_at, shown_of, start_of}
use Rattle.jpg_color.proofs.Coverage.{in_frame, component_is}
use Rattle.jpg_color.proofs.Windows.{count_fits, told_rows}
use Rattle.jpg_color.proofs.HeldRows.{HasSources, sources, pushed_rows}
use Rattle.jpg_spec_image.proofs.Strips.{chosen}

-- strips: what they display, the MCU rows and the rows of the image so far, their parts and the last row, and numbers
-- of the picture
pub record Strips : Type 0 where
  pub display : Display
  pub pushed : ℕ
  pub given : ℕ
  pub parts : List PartState
  pub last : List ℕ
  pub all : ℕ
  pub lines : ℕ
  pub waits : Bool

abbrev pub shown : Strips → ShownState
shown t = shown_of t.display t.pushed t.given t.parts t.last

abbrev pub AreKept : Strips → Type 0
AreKept t = AreStrips t.display t.pushed t.given t.parts t.last t.all t.lines t.waits

-- one that is component i of what is displayed
abbrev pub PartOf : Display → ℕ → PartState → Type 0
PartOf d i p = IsPart (picture_of d no_blocks) d.smooth i p

pub is_early : {t : Strips} → AreKept t → t.pushed < 65536
is_early {t} k =
    let old : (blocks : Blocks) × RepresentsPicture (shown t) blocks = k.stands in
    let stands : RepresentsPicture (shown t) old.0 = old.1 in
    omega (arith, stands.some, k.all, k.few)

pub there : {t : Strips} {i : ℕ} → AreKept t → i < parts t.display → i < length t.parts
there {i = i} k h = subst (λ n. i < n) (sym k.count) h

-- WHAT IS KEPT

pub at_map : (f : PartState → PartState) (ps : List PartState) (i : ℕ) → i < length ps → part_at (map f ps) i ≡ f (part_at ps i)
at_map f ps i lt = get_or-map f ps i no_drawn_part no_drawn_part lt

pub held_at : (ps : List PartState) (i : ℕ) → (slice_index_or (map (λ p. p.kept) ps) i no_rows).rows ≡ (part_at ps i).kept.rows
held_at ps i = ap (λ (k : KeptRows). k.rows) (listn.get_or-map (λ (p : PartState). p.kept) ps i no_drawn_part)

wide_is : (d : Display) {i : ℕ} {p : PartState} → PartOf d i p → p.kept.wide ≡ samples_across (picture_of d no_blocks) i
wide_is d is = is.wide ∙ ap (λ s. s.wide) is.stretch

quants_are : (d : Display) {i : ℕ} {p : PartState} → IsShowable d → i < parts d → PartOf d i p → p.quants ≡ slice_index_or d.quants i []
quants_are d {i} s h is = is.quants ∙ ap (λ c. c.quants) (component_is d no_blocks i (in_frame d i s h))

known_is : (d : Display) {i : ℕ} (m : ℕ) {p : PartState} → PartOf d i p → known p m ≡ known_rows (picture_of d no_blocks) i m
known_is d {i} m {p} is =
    ap (λ n. min (8 * n * m) p.stretch.high) is.rows
    ∙ ap (λ s. min (8 * block_rows (picture_of d no_blocks) i * m) s.high) is.stretch

told_is : (d : Display) {i : ℕ} (m : ℕ) {p : PartState} → PartOf d i p → rows_so_far_of p m ≡ told_rows d i m
told_is d {i} m {p} is =
    ap (λ k. known p (m + 1) - k) (known_is d m is)
    ∙ ap (λ k. k - known_rows (picture_of d no_blocks) i m) (known_is d (m + 1) is)

begins_is : (d : Display) (whole : Bool) {i : ℕ} (m : ℕ) {p : PartState} → PartOf d i p → begins whole m p ≡ (if whole then m * rows_in d i else 0)
begins_is d whole m is = ap (λ n. if whole then m * n else 0) is.rows

top_is : (d : Display) {i : ℕ} (m : ℕ) {p : PartState} → PartOf d i p → top p m ≡ first_kept (picture_of d no_blocks) i m
top_is d m is = ap (λ n. 8 * n * (m - 1) - 1) is.rows

-- FILLED

abbrev pub filled_strips : Picture → Bool → Strips → Strips
filled_strips q whole t = record t { pushed = t.pushed + 1; parts = map (filled q whole t.pushed) t.parts }

pub filled_rows : {t : Strips} (i : ℕ) (whole : Bool) (q : Picture) → AreKept t → i < parts t.display
    → held_rows (shown (filled_strips q whole t)) i ≡ pushed_rows t.display i t.pushed (start_of whole (shown t)) q (held_rows (shown t) i)
filled_rows {t} i whole q k h =
    let d = t.display in
    let m = t.pushed in
    let p = part_at t.parts i in
    let is = k.parts i h in
    let first = start_of whole (shown t) i in
    let wide = samples_across (picture_of d no_blocks) i in
    let new : map (row_in p.kept.wide p.quants (map_of q) p.component (begins whole m p)) (below (rows_so_far_of p m))
    ≡ map (row_in wide (slice_index_or d.quants i []) (map_of q) i first) (below (told_rows d i m)) =
    ap (λ n. map (row_in p.kept.wide p.quants (map_of q) n (begins whole m p)) (below (rows_so_far_of p m))) is.component
    ∙ ap (λ n. map (row_in n p.quants (map_of q) i (begins whole m p)) (below (rows_so_far_of p m))) (wide_is d is)
    ∙ ap (λ n. map (row_in wide p.quants (map_of q) i n) (below (rows_so_far_of p m))) (begins_is d whole m is)
    ∙ ap (λ n. map (row_in wide p.quants (map_of q) i first) (below n)) (told_is d m is)
    ∙ ap (λ (x : QuantTable). map (row_in wide x (map_of q) i first) (below (told_rows d i m))) (quants_are d k.showable h is)
    in
    held_at (map (filled q whole m) t.parts) i
    ∙ ap (λ (x : PartState). x.kept.rows) (at_map (filled q whole m) t.parts i (there k h))
    ∙ ap (λ ys. last_row p.kept.rows ++ ys) new
    ∙ ap (λ (old : List (List ℕ)). pushed_rows d i m (start_of whole (shown t)) q old) (sym (held_at t.parts i))

part_fills : {t : Strips} {whole : Bool} {q : Picture} (i : ℕ) → AreKept t → IsNextRowDue (shown t) → HasMcuRow (shown t) whole q → i < parts t.display
    → CanFill q whole t.pushed (part_at t.parts i)
part_fills {t} {whole} {q} i k due blocks h =
    let d = t.display in
    let m = t.pushed in
    let p = part_at t.parts i in
    let is = k.parts i h in
    let fits = count_fits d i m k.showable h due.missing in
    let first = start_of whole (shown t) i in
    record {
      early = is_early k;
      few = subst (λ n. n ≤ 8 * p.block_rows) (sym (told_is d m is)) (subst (λ n. told_rows d i m ≤ 8 * n) (sym is.rows) fits.few);
      blocks =
          subst (λ n. HasRows q n (begins whole m p) p.kept.wide (rows_so_far_of p m)) (sym is.component)
          (subst (λ n. HasRows q i n p.kept.wide (rows_so_far_of p m)) (sym (begins_is d whole m is))
          (subst (λ n. HasRows q i first n (rows_so_far_of p m)) (sym (wide_is d is))
          (subst (λ n. HasRows q i first (samples_across (picture_of d no_blocks) i) n) (sym (told_is d m is)) (blocks.rows i h))));
    }

pub all_fill : {t : Strips} {whole : Bool} {q : Picture} → AreKept t → IsNextRowDue (shown t) → HasMcuRow (shown t) whole q → All (CanFill q whole t.pushed) t.parts
all_fill {t} {whole} {q} k due blocks =
    All-from_get_or (CanFill q whole t.pushed) t.parts no_drawn_part
    (λ (i : ℕ) (lt : i < length t.parts). part_fills i k due blocks (subst (λ n. i < n) k.count lt))

-- DRAWN

record Draws (s : Stretch) (first y : ℕ) (rows : List (List ℕ)) : Type 0 where
  low : first ≤ near_row s y
  high : near_row s y - first < length rows
  far_low : has_far_rows s ≡ true → first ≤ far_row s y
  far_high : has_far_rows s ≡ true → far_row s y - first < length rows

part_draws : {t : Strips} {blocks : Blocks} (i : ℕ) → AreKept t → HasSources (shown t) blocks i → i < parts t.display → CanDraw t.given t.pushed (part_at t.parts i)
part_draws {t} {blocks} i k h lt =
    let y = t.given in
    let m = t.pushed in
    let is = k.parts i lt in
    let p = part_at t.parts i in
    let M = picture_of t.display blocks in
    let s = stretch_of M t.display.smooth i in
    let all : Draws s (first_kept M i m) y (held_rows (shown t) i) = record { low = h.low; high = h.high; far_low = h.far_low; far_high = h.far_high } in
    let own : Draws p.stretch (top p m) y p.kept.rows =
    subst (λ (x : Stretch). Draws x (top p m) y p.kept.rows) (sym is.stretch)
    (subst (λ n. Draws s n y p.kept.rows) (sym (top_is t.display m is))
    (subst (λ (rows : List (List ℕ)). Draws s (first_kept M i m) y rows) (held_at t.parts i) all)) in
    record { early = is_early k; low = own.low; high = own.high; far_low = own.far_low; far_high = own.far_high }

pub all_draw : {t : Strips} (blocks : Blocks) → AreKept t → RepresentsPicture (shown t) blocks → t.given < rows_made_ready t.display t.pushed
    → All (CanDraw t.given t.pushed) t.parts
all_draw {t} blocks k stands lt =
    All-from_get_or (CanDraw t.given t.pushed) t.parts no_drawn_part
    (λ (i : ℕ) (h : i < length t.parts). (let in_parts : i < parts t.display = subst (λ n. i < n) k.count h in
    part_draws i k (sources (shown t) blocks i k.showable stands in_parts lt) in_parts))

pub drawn_line : {t : Strips} (blocks : Blocks) (i : ℕ) → AreKept t → RepresentsPicture (shown t) blocks → t.given < rows_made_ready t.display t.pushed → i < parts t.display
    → (part_at (map (drawn t.given t.pushed) t.parts) i).line
    ≡ upsampled_row (stretch_of (picture_of t.display blocks) t.display.smooth i) (plane_row (picture_of t.display blocks) i) t.given
drawn_line {t} blocks i k stands early h =
    let y = t.given in
    let m = t.pushed in
    let is = k.parts i h in
    let p = part_at t.parts i in
    let M = picture_of t.display blocks in
    let s = stretch_of M t.display.smooth i in
    let held = kept_row (first_kept M i m) (held_rows (shown t) i) in
    let from = sources (shown t) blocks i k.showable stands h early in
    ap (λ (x : PartState). x.line) (at_map (drawn y m) t.parts i (there k h))
    ∙ ap (λ (x : Stretch). upsampled_row x (kept_row (top p m) p.kept.rows) y) is.stretch
    ∙ ap (λ n. upsampled_row s (kept_row n p.kept.rows) y) (top_is t.display m is)
    ∙ ap (λ (rows : List (List ℕ)). upsampled_row s (kept_row (first_kept M i m) rows) y) (sym (held_at t.parts i))
    ∙ chosen (has_far_rows s) (is_smoothed s && s.down == 1) s.across (held (near_row s y)) (held (far_row s y)) (plane_row M i (near_row s y))
    (plane_row M i (far_row s y)) from.near from.far
