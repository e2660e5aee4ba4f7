-- The numbers of a component that is displayed, as the code computes them.
use Rattle.std.proofs.Common.{◌≡◌, ℕ, ◌+◌, ◌*◌, ◌/◌, ◌<◌, ◌≤◌, Bool, ◌==◌, if◌then◌else◌, List, [], length, slice_index_or, subst, refl, sym, ap, ◌∙◌, arith}
use Rattle.std.proofs.Math.Nat.{mul-le-mul}
use Rattle.std.proofs.lemmas.List.{get_or_default}
use Rattle.jpg_spec.specs.Geometry.{div_up, h_max, v_max, component_at}
use Rattle.jpg_spec.specs.FileMeaning.{no_blocks}
use Rattle.jpg_spec.specs.Meaning.{Meaning}
use Rattle.jpg_spec.specs.Segments.{QuantTable}
use Rattle.jpg_spec.specs.Meaning.{component_of}
use Rattle.jpg_spec_image.specs.Upsampling.{Stretch}
use Rattle.jpg_spec_image.specs.Pixels.{stretch_of}
use Rattle.jpg_spec_image.specs.Strips.{block_rows}
use Rattle.jpg_spec.specs.declared.frame.Component.{Component}
use Rattle.jpg_file.specs.Read.PictureKept.{bare_picture}
use Rattle.jpg_file.specs.declared.read.strip_head.StripHead.{StripHead}
use Rattle.jpg_color.specs.KeptRows.{KeptRows}
use Rattle.jpg_color.specs.PartState.{AreSizes, IsMeasured, IsNewPart, state_of}
use Rattle.jpg_color.specs.Shown.{Display, display_of}
use Rattle.jpg_color.proofs.Coverage.{component_is, samples_across_is, samples_down_is, across_is, down_is, rows_in_is}

abbrev pub meant : StripHead → Meaning
meant h = bare_picture h.frame h.quants.items no_blocks

abbrev pub stretch : ℕ → ℕ → ℕ → ℕ → Bool → Stretch
stretch wide high across down smooth = record { wide = wide; high = high; across = across; down = down; smooth = smooth }

same_stretch : (s : Stretch) (wide high across down : ℕ) → wide ≡ s.wide → high ≡ s.high → across ≡ s.across → down ≡ s.down → stretch wide high across down s.smooth ≡ s
same_stretch s wide high across down w h a d =
    ap (λ n. stretch n high across down s.smooth) w
    ∙ ap (λ n. stretch s.wide n across down s.smooth) h
    ∙ ap (λ n. stretch s.wide s.high n down s.smooth) a
    ∙ ap (λ n. stretch s.wide s.high s.across n s.smooth) d

-- the numbers of component i, computed from it and its frame
pub record AreNumbers (h : StripHead) (i : ℕ) (c : Component) (wide high across down : ℕ) : Type 0 where
  pub there : i < length h.frame.components
  pub component : c ≡ component_at h.frame i
  pub is_wide : wide ≡ div_up (h.frame.width * c.h) (h_max h.frame)
  pub is_high : high ≡ div_up (h.frame.height * c.v) (v_max h.frame)
  pub is_across : across ≡ h_max h.frame / c.h
  pub is_down : down ≡ v_max h.frame / c.v

pub stretch_is : {h : StripHead} {i : ℕ} {c : Component} {wide high across down : ℕ} (smooth : Bool) → AreNumbers h i c wide high across down
    → stretch wide high across down smooth ≡ stretch_of (meant h) smooth i
stretch_is {h} {i} {wide = wide} {high} {across} {down} smooth are =
    let d : Display = display_of h smooth smooth in
    let f = h.frame in
    let is = are.component in
    same_stretch (stretch_of (meant h) smooth i) wide high across down
    (are.is_wide ∙ ap (λ k. div_up (f.width * k.h) (h_max f)) is ∙ sym (samples_across_is d no_blocks i are.there))
    (are.is_high ∙ ap (λ k. div_up (f.height * k.v) (v_max f)) is ∙ sym (samples_down_is d no_blocks i are.there))
    (are.is_across ∙ ap (λ k. h_max f / k.h) is ∙ sym (across_is d no_blocks i are.there))
    (are.is_down ∙ ap (λ k. v_max f / k.v) is ∙ sym (down_is d no_blocks i are.there))

pub rows_is : (h : StripHead) (i : ℕ) (c : Component) (n rows : ℕ) → i < length h.frame.components → c ≡ component_at h.frame i → n ≡ length h.frame.components
    → rows ≡ (if n == 1 then 1 else c.v) → rows ≡ block_rows (meant h) i
rows_is h i c n rows there ec en is =
    is ∙ ap (λ k. if n == 1 then 1 else k.v) ec ∙ ap (λ k. if k == 1 then 1 else (component_at h.frame i).v) en
    ∙ sym (rows_in_is (display_of h (n == 1) (n == 1)) i there)

pub wide_in : (s t : Stretch) → s ≡ t → (rows : ℕ) → AreSizes t rows → (1 ≤ s.wide) × (s.wide ≤ 65500)
wide_in s t e rows a = subst (λ k. (1 ≤ k.wide) × (k.wide ≤ 65500)) (sym e) (a.wide_low, a.wide_high)

pub few_bytes : (s t : Stretch) → s ≡ t → (rows : ℕ) → AreSizes t rows → s.across * s.wide ≤ 1000000
few_bytes s t e rows a = subst (λ k. k.across * k.wide ≤ 1000000) (sym e) (let m : t.across * t.wide ≤ 4 * 65500 = mul-le-mul a.across_high a.wide_high in omega (arith, m))

pub measured : (i : ℕ) (s t : Stretch) (n rows : ℕ) (quants : QuantTable) (kept : KeptRows) (line : List ℕ) → s ≡ t → n ≡ rows → AreSizes t rows
    → kept ≡ record { wide = s.wide; room = 8 * n + 1; rows = [] } → length line ≡ s.across * s.wide → IsMeasured (state_of i s n quants kept line)
measured i s t n rows quants kept line es en sizes is long = record {
  sizes = subst (λ k. AreSizes k n) (sym es) (subst (λ k. AreSizes t k) (sym en) sizes);
  wide = ap (λ k. k.wide) is;
  room = ap (λ k. k.room) is;
  line = long;
}

pub new_part : (h : StripHead) (smooth : Bool) (i : ℕ) (s : Stretch) (n : ℕ) (quants : QuantTable) (kept : KeptRows) (line : List ℕ) → i < length h.frame.components
    → s ≡ stretch_of (meant h) smooth i → n ≡ block_rows (meant h) i → quants ≡ (component_of (meant h) i).quants
    → kept ≡ record { wide = s.wide; room = 8 * n + 1; rows = [] } → IsNewPart (meant h) smooth i (state_of i s n quants kept line)
new_part h smooth i s n quants kept line there es en eq is = record {
  part = record { component = refl; stretch = es; rows = en; quants = eq; wide = ap (λ k. k.wide) is };
  none = ap (λ k. k.rows) is;
}

pub parsed_quants : (h : StripHead) (i : ℕ) (tables : List QuantTable) (table : QuantTable) → i < length h.frame.components → length h.quants.items ≡ length h.frame.components
    → tables ≡ h.quants.items → table ≡ slice_index_or tables i table → table ≡ (component_of (meant h) i).quants
parsed_quants h i tables table there long et is =
    is ∙ ap (λ (ts : List QuantTable). slice_index_or ts i table) et
    ∙ get_or_default h.quants.items i table [] (subst (λ n. i < n) (sym long) there)
    ∙ sym (ap (λ c. c.quants) (component_is (display_of h (i == i) (i == i)) no_blocks i there))

pub room_is : (wide : ℕ) {n rows : ℕ} {kept : KeptRows} → n ≡ rows → kept ≡ record { wide = wide; room = 8 * n + 1; rows = [] } → kept ≡ record { wide = wide; room = 8 * rows + 1; rows = [] }
room_is wide e is = is ∙ ap (λ k. (let r : KeptRows = record { wide = wide; room = 8 * k + 1; rows = [] } in r)) e
