-- Windows: rows of an image that are put, and those that rows of a plane are made of.
use Rattle.std.proofs.Common.{◌≡◌, ℕ, ◌+◌, ◌-◌, ◌*◌, ◌<◌, ◌≤◌, min, List, length, take, drop, slice_index, map, sym, ap, ◌∙◌, arith}
use Rattle.std.proofs.lemmas.Nat.{mul-le, mul-add-lt}
use Rattle.std.proofs.Math.Nat.{mul_comm}
use borrow.Rule.Slice.PartMut.{put_mid}
use Rattle.std.proofs.lemmas.List.{length-drop, length-take-le, get_or-take, get_or-drop}
use Rattle.jpg_spec.specs.Lists.{below}
use Rattle.jpg_spec_encode.specs.Encoded.{pixel_component}
use Rattle.jpg_spec_image.specs.Images.{Image}
use Rattle.jpg_spec_image.specs.declared.image.ImageInfo.{ImageInfo}
use Rattle.jpg_spec_image.specs.declared.image.ImageKind.{ImageKind}
use Rattle.jpg_spec_image.specs.declared.image.ImageKind.TheVariants.{Rgb}
use Rattle.jpg_color.specs.ColourRows.{component_row, row_component}
use Rattle.jpg_color.specs.PlaneRows.{row_of, plane_of, AreUnder, HasPlaneRows, IsUnder, IsWindow, PutsRow}
use Rattle.jpg_color.specs.declared.encode.rows.ImagePlane.{ImagePlane}
use Rattle.jpg_color.specs.declared.encode.rows.Window.{Window}
use Rattle.jpg_color.proofs.PlaneRows.{put_before, put_long, put_mid_at, rows_more, sample_at}

-- A ROW that is put among others

pub puts_row : {image : Image} {old out row : List ℕ} {i p r : ℕ} (n : ℕ) → out ≡ row_component image.info.kind row i n
    → length out ≡ image.info.width → row ≡ row_of image.info image.samples (min p (image.info.height - 1)) → r * image.info.width + image.info.width ≤ length old
    → PutsRow image.info image.samples i p r old (put_mid (r * image.info.width) (r * image.info.width + image.info.width - r * image.info.width) old out)
puts_row {image} {old} {out} {row} {i} {p} {r} n eo long er room =
    let w = image.info.width in
    let low : r * w ≤ length old = omega (arith, room) in
    let k : r * w + w - r * w ≡ w = omega arith in
    record {
      long = put_long (r * w) (r * w + w - r * w) old out (omega (arith, room, k)) (long ∙ sym k);
      here = λ u lu. put_mid_at (r * w) _ old out u low (omega (arith, long, lu)) ∙ sample_at image.info image.samples out row i p u n eo long er lu;
      before = λ j lj. put_before (r * w) _ old out j low lj;
    }

pub puts_colour_row : {image : Image} {old out row : List ℕ} {i p r : ℕ} (n : ℕ) → image.info.kind ≡ Rgb → out ≡ component_row row i n
    → length out ≡ image.info.width → row ≡ row_of image.info image.samples (min p (image.info.height - 1)) → r * image.info.width + image.info.width ≤ length old
    → PutsRow image.info image.samples i p r old (put_mid (r * image.info.width) (r * image.info.width + image.info.width - r * image.info.width) old out)
unfolding row_component
puts_colour_row {row = row} {i = i} n rgb eo long er room = puts_row n (eo ∙ ap (λ (t : ImageKind). map (pixel_component t row i) (below n)) (sym rgb)) long er room

-- the first r of `down` rows are there, and the length is the same
abbrev pub HasFirstRows : ImageInfo → List ℕ → ℕ → ℕ → ℕ → List ℕ → List ℕ → Type 0
HasFirstRows info samples i down r old new =
    (length new ≡ length old) × ((k u : ℕ) → k < r → u < info.width → slice_index new (k * info.width + u) ≡ plane_of info samples i u (down * 0 + k))

pub next_row_more : {image : Image} {i : ℕ} (down : ℕ) {r : ℕ} (first : List ℕ) {old new : List ℕ} → HasFirstRows image.info image.samples i down r first old
    → PutsRow image.info image.samples i r r old new → HasFirstRows image.info image.samples i down (r + 1) first new
next_row_more {image} {i} down {r} first {old} {new} has puts =
    let same : r ≡ down * 0 + r = omega arith in (
      puts.long ∙ has.0,
      rows_more (plane_of image.info image.samples i) old new image.info.width (down * 0) r has.1 (λ u lu. puts.here u lu ∙ ap (plane_of image.info image.samples i u) same) puts.before,
    )

-- THE ROWS UNDER ONE

pub under_fits : {p : ImagePlane} {w : Window} {y : ℕ} → IsWindow p w → IsUnder p w y
    → (p.ratio.down * y - w.lines * w.at) * p.info.now.width + p.ratio.down * p.info.now.width ≤ length w.rows.now
under_fits {p} {w} {y} is under =
    let d = p.ratio.down in
    let k = p.info.now.width in
    let from : ℕ = d * y - w.lines * w.at in
    let m : (from + d) * k ≤ w.lines * k = mul-le (from + d) k w.lines k (omega (arith, under.first, under.last)) (omega arith) in
    let e : (from + d) * k ≡ from * k + d * k = grind arith in
    omega (arith, m, e, is.long)

pub under_long : {p : ImagePlane} {w : Window} {y : ℕ} {piece : List ℕ} → IsWindow p w → IsUnder p w y
    → piece ≡ take (p.ratio.down * p.info.now.width) (drop ((p.ratio.down * y - w.lines * w.at) * p.info.now.width) w.rows.now)
    → length piece ≡ p.ratio.down * p.info.now.width
under_long {p} {w} {y} is under e =
    let from = (p.ratio.down * y - w.lines * w.at) * p.info.now.width in
    ap length e ∙ length-take-le (p.ratio.down * p.info.now.width) (drop from w.rows.now) (omega (arith, under_fits is under, length-drop from w.rows.now))

pub under_has : {p : ImagePlane} {w : Window} {y : ℕ} {piece : List ℕ} → IsWindow p w → IsUnder p w y
    → piece ≡ take (p.ratio.down * p.info.now.width) (drop ((p.ratio.down * y - w.lines * w.at) * p.info.now.width) w.rows.now)
    → HasPlaneRows p.info.now p.samples.now p.component p.ratio.down y piece
under_has {p} {w} {y} is under e r u lr lu =
    let d = p.ratio.down in
    let k = p.info.now.width in
    let first : ℕ = d * y - w.lines * w.at in
    let m : r * k + u < k * d = mul-add-lt r k u d lr lu in
    let c : k * d ≡ d * k = mul_comm k d in
    let j : first * k + (r * k + u) ≡ (first + r) * k + u = grind arith in
    let at : w.lines * w.at + (first + r) ≡ d * y + r = omega (arith, under.first) in
    ap (λ l. slice_index l (r * k + u)) e ∙ get_or-take (d * k) (drop (first * k) w.rows.now) (r * k + u) 0 (omega (arith, m, c))
    ∙ get_or-drop (first * k) w.rows.now (r * k + u) 0 ∙ ap (slice_index w.rows.now) j
    ∙ is.rows (first + r) u (omega (arith, under.first, under.last, lr)) lu ∙ ap (plane_of p.info.now p.samples.now p.component u) at

-- under each of eight
pub eight_under : (p : ImagePlane) (w : Window) (made y v : ℕ) → AreUnder p w made y → v < 8 → IsUnder p w (min (8 * y + v) (made - 1))
eight_under p w made y v are lv = record {
  first = (let m = mul-le p.ratio.down (min (8 * y) (made - 1)) p.ratio.down (min (8 * y + v) (made - 1)) (omega arith) (omega arith) in omega (arith, are.first, m));
  last = (let m = mul-le p.ratio.down (min (8 * y + v) (made - 1) + 1) p.ratio.down (8 * y + 8) (omega arith) (omega (arith, lv)) in
      let e : p.ratio.down * (min (8 * y + v) (made - 1) + 1) ≡ p.ratio.down * min (8 * y + v) (made - 1) + p.ratio.down = grind arith in
      omega (arith, are.last, m, e));
}
