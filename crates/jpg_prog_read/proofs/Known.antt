-- Values that are known down to a bit, within bounds, remain within them when the next bit comes.
use Rattle.std.proofs.Common.{◌≡◌, ℕ, ◌+◌, ◌-◌, ◌*◌, ◌^◌, ◌<◌, ◌≤◌, true, drop, sym, ap, ◌∙◌, subst, arith, add-one, ⊎_elim, ℤ, pos, nat_abs, inr}
use Rattle.std.specs.Prelude.{slice_index_or, nat_le, ◌&&◌}
use Rattle.std.proofs.Math.Nat.{pow-succ', mul-le-mul_right}
use Rattle.std.proofs.lemmas.List.{get_or_default, get_or-take, get_or-drop, length-take}
use Rattle.std.proofs.lemmas.Nat.{pow-add, pow_pos}
use Rattle.std.proofs.lemmas.Bool.{cases_lt}
use Rattle.std.proofs.lemmas.Bool.Decides.{nat_tests}
use Rattle.jpg_spec.specs.Elements.{Coding}
use Rattle.jpg_spec.specs.Scan.{Blocks, Scan, band, block_at}
use Rattle.jpg_spec.specs.PictureInWork.{is_in_band}
use Rattle.jpg_spec.specs.declared.frame.Place.{Place}
use Rattle.jpg_prog_read.specs.RepresentsAcScan.{HasCorrectionRoom, BandHasRoom}
use Rattle.jpg_prog_read.specs.Known.{GivesRoom, EachHasRoom}

-- a multiple of a power of two below a greater one has room for one more
pub room : (m low high : ℕ) → low ≤ high → m * 2 ^ low ≤ 2 ^ high - 1 → m * 2 ^ low + 2 ^ low ≤ 2 ^ high
room m low high le h =
    let e : high ≡ (high - low) + low = omega arith in
    let p : 2 ^ high ≡ 2 ^ (high - low) * 2 ^ low = ap (λ k. 2 ^ k) e ∙ pow-add 2 (high - low) low in
    let s = pow_pos high in
    let w : m < 2 ^ (high - low) = ⊎_elim (λ (k : m < 2 ^ (high - low)). k) (λ (k : 2 ^ (high - low) ≤ m). (let q = mul-le-mul_right (2 ^ low) k in absurd (omega (arith, q, p, h, s)))) (cases_lt m (2 ^ (high - low))) in
    let g : (m + 1) * 2 ^ low ≤ 2 ^ (high - low) * 2 ^ low = mul-le-mul_right (2 ^ low) (omega (arith, w)) in
    let d : (m + 1) * 2 ^ low ≡ m * 2 ^ low + 2 ^ low = omega arith in
    omega (arith, g, d, p)

-- what is known down to bit al + 1 takes bit al
pub known_refinable : (m al category n : ℕ) → al + 1 ≤ category → n ≡ m * 2 ^ (al + 1) → n ≤ 2 ^ category - 1 → n + 2 ^ al ≤ 2 ^ category - 1
known_refinable m al category n le e h =
    let p : 2 ^ (al + 1) ≡ 2 * 2 ^ al = ap (λ k. 2 ^ k) (add-one al) ∙ pow-succ' 2 al in
    let r : m * 2 ^ (al + 1) + 2 ^ (al + 1) ≤ 2 ^ category = room m (al + 1) category le (subst (λ x. x ≤ 2 ^ category - 1) e h) in
    let s = pow_pos al in
    omega (arith, e, r, p, s)

-- ROOM FOR THE NEXT BIT

pub gives_room : (c : Coding) (category : ℕ) → c.refines ≡ true → c.al + 1 ≤ category → c.bounds.ac ≡ pos (2 ^ category - 1) → GivesRoom c category
gives_room c category refines le e o known low =
    let k = known_refinable known.0 c.al category (nat_abs o) le known.1 low in
    inr (refines, subst (λ n. nat_abs o + 2 ^ c.al ≤ n) (sym (ap nat_abs e)) k)

pub in_band : (s : Scan) (k : ℕ) → s.ss ≤ k → k ≤ s.se → is_in_band s k ≡ true
in_band s k low high = ap (λ t. t && nat_le k s.se) (yes s.ss k low) ∙ yes k s.se high
  where
    yes : (m n : ℕ) → m ≤ n → nat_le m n ≡ true
    yes m n h = grind (arith, nat_tests, h)

-- a band of a block, value by value
pub band_room : (s : Scan) (before : Blocks) (p : Place) → EachHasRoom s before p → BandHasRoom s before p
band_room s before p each k d h =
    let block = block_at before p in
    let n = s.se + 1 - s.ss in
    let l = length-take n (drop s.ss block) in
    let lt : k < n = omega (arith, h, l) in
    let e : slice_index_or (band s block) k d ≡ slice_index_or block (s.ss + k) (pos 0) =
    get_or_default (band s block) k d (pos 0) h ∙ get_or-take n (drop s.ss block) k (pos 0) lt ∙ get_or-drop s.ss block k (pos 0) in
    subst (λ (v : ℤ). HasCorrectionRoom s.coding v) (sym e) (each (s.ss + k) (in_band s (s.ss + k) (omega arith) (omega (arith, lt))))
