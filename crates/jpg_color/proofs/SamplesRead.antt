-- Samples of blocks that are read from a picture.
use Rattle.std.proofs.Common.{◌≡◌, ℕ, ◌+◌, ◌*◌, ◌/◌, ◌%◌, ◌<◌, ◌≤◌, List, slice_index, ℤ, nat_abs, sym, ap, ◌∙◌, subst, arith}
use Rattle.std.specs.List.{All}
use Rattle.jpg_spec.specs.Geometry.{div_up}
use Rattle.jpg_spec.specs.Segments.{QuantTable}
use Rattle.jpg_spec.specs.Scan.{Blocks}
use Rattle.jpg_spec_image.specs.Dct.{dequantised, inverse_dct}
use Rattle.jpg_base.specs.Cursor.{IsPadded}
use Rattle.jpg_coefs.specs.Picture.{Picture, map_of, block_in}
use Rattle.jpg_coefs.proofs.Maps.{map_at}
use Rattle.jpg_color.specs.KeptRows.{HasRows, sample_in}
use Rattle.jpg_color.proofs.RowsPut.{block_small}

pub first_there : (q : Picture) (i first wide count x : ℕ) → HasRows q i first wide count → x < div_up wide 8 → 1 ≤ count → IsPadded q.frame i x first
first_there q i first wide count x h hx some = record { component = h.component; across = omega (arith, hx, h.across); down = omega (arith, h.down, some) }

pub block_is : (q : Picture) (i x y : ℕ) (block : List ℤ) → IsPadded q.frame i x y → block ≡ block_in q i x y → block ≡ map_of q i x y
block_is q i x y block p e = e ∙ sym (map_at q i x y p)

pub read_small : (q : Picture) (i first wide count x : ℕ) (block : List ℤ) → HasRows q i first wide count → block ≡ map_of q i x first → All (λ v. nat_abs v ≤ 1024) block
read_small q i first wide count x block h e = subst (All (λ v. nat_abs v ≤ 1024)) (sym e) (block_small q.frame (map_of q) i x first h.precision h.range)

pub told_by : (quants : QuantTable) (blocks : Blocks) (i first c : ℕ) {samples : List ℕ} → samples ≡ inverse_dct (dequantised quants (blocks i c first))
    → (y x : ℕ) → y < 8 → x < 8 → slice_index samples (8 * y + x) ≡ sample_in quants blocks i first y (8 * c + x)
told_by quants blocks i first c es y x hy hx =
    let e1 : c ≡ (8 * c + x) / 8 = omega (arith, hx) in
    let e2 : x ≡ (8 * c + x) % 8 = omega (arith, hx) in
    let e3 : first ≡ first + y / 8 = omega (arith, hy) in
    let e4 : y ≡ y % 8 = omega (arith, hy) in
    ap (λ s. slice_index s (8 * y + x)) es
    ∙ ap (λ b. slice_index (inverse_dct (dequantised quants b)) (8 * y + x)) (ap (λ m. blocks i m first) e1 ∙ ap (blocks i ((8 * c + x) / 8)) e3)
    ∙ ap (λ m. slice_index (inverse_dct (dequantised quants (blocks i ((8 * c + x) / 8) (first + y / 8)))) (8 * m + x)) e4
    ∙ ap (λ m. slice_index (inverse_dct (dequantised quants (blocks i ((8 * c + x) / 8) (first + y / 8)))) (8 * (y % 8) + m)) e2

-- samples of a row of blocks further below
pub further : (quants : QuantTable) (blocks : Blocks) (i first b y x : ℕ) → sample_in quants blocks i (first + b) y x ≡ sample_in quants blocks i first (8 * b + y) x
further quants blocks i first b y x =
    let e1 : first + b + y / 8 ≡ first + (8 * b + y) / 8 = omega arith in
    let e2 : y % 8 ≡ (8 * b + y) % 8 = omega arith in
    ap (λ m. slice_index (inverse_dct (dequantised quants (blocks i (x / 8) m))) (8 * (y % 8) + x % 8)) e1
    ∙ ap (λ m. slice_index (inverse_dct (dequantised quants (blocks i (x / 8) (first + (8 * b + y) / 8)))) (8 * m + x % 8)) e2
