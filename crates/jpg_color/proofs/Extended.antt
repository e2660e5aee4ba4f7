-- A picture is extended with the blocks of one more MCU row, whatever was decoded of it.
use Rattle.std.proofs.Common.{◌≡◌, ℕ, zero, suc, ◌+◌, ◌-◌, ◌*◌, ◌/◌, ◌%◌, ◌<◌, ◌≤◌, min, Bool, true, false, ◌==◌, if◌then◌else◌, List, [], ◌∷◌, ◌++◌, ℤ, refl, sym, ap, ◌∙◌, arith}
use Rattle.std.proofs.Math.Nat.{div-lt_iff_lt-mul, mul-add-mod_self_right, mod-eq_of_lt}
use Rattle.std.proofs.lemmas.Nat.{div-mul-add}
use Rattle.std.proofs.lemmas.List.{map-append}
use Rattle.jpg_spec.specs.Lists.{below}
use Rattle.jpg_spec.specs.Scan.{Blocks}
use Rattle.jpg_spec.specs.Geometry.{component_at, blocks_across, blocks_down}
use Rattle.jpg_spec_image.specs.Pixels.{plane_row, samples_down}
use Rattle.jpg_spec_image.specs.Strips.{rows_from, known_rows, first_kept}
use Rattle.jpg_spec.proofs.Basics.Common.{not_same, same_itself}
use Rattle.jpg_spec_image.proofs.Strips.{same_samples}
use Rattle.jpg_coefs.specs.Picture.{Picture, map_of}
use Rattle.jpg_color.specs.Shown.{Display, ShownState, IsShowable, RepresentsPicture, AreMcuRow, picture_of, parts, rows_in}
use Rattle.jpg_color.proofs.Windows.{rows_in_some}

abbrev pub extended : Display → ℕ → (ℕ → ℕ) → Picture → Blocks → Blocks
extended d m first q blocks i x y = if y / rows_in d i == m then map_of q i x (first i + y % rows_in d i) else blocks i x y

by_test : (b c : Bool) (x y : List ℤ) → b ≡ c → (if b then x else y) ≡ (if c then x else y)
by_test b c x y e = ap (λ t. if t then x else y) e

pub goes_on : (d : Display) (m : ℕ) (first : ℕ → ℕ) (q : Picture) (blocks : Blocks) → IsShowable d → AreMcuRow d m first q (extended d m first q blocks)
goes_on d m first q blocks s = record {
  same = λ (i x y : ℕ) (h : i < parts d) (hx : x < blocks_across d.frame (component_at d.frame i)) (hy : y < rows_in d i) (real : m * rows_in d i + y < blocks_down d.frame (component_at d.frame i)).
      (let r = rows_in d i in
      let whole : (m * r + y) / r ≡ m = div-mul-add m r y hy in
      let left : (m * r + y) % r ≡ y = mul-add-mod_self_right m r y ∙ mod-eq_of_lt hy in
      let test : ((m * r + y) / r == m) ≡ true = ap (λ n. n == m) whole ∙ same_itself m in
      sym (by_test ((m * r + y) / r == m) true (map_of q i x (first i + (m * r + y) % r)) (blocks i x (m * r + y)) test
      ∙ ap (λ n. map_of q i x (first i + n)) left));
}

above : (d : Display) (m : ℕ) (first : ℕ → ℕ) (q : Picture) (blocks : Blocks) (i x y : ℕ) → 1 ≤ rows_in d i → y < m * rows_in d i → blocks i x y ≡ extended d m first q blocks i x y
above d m first q blocks i x y some lt =
    let r = rows_in d i in
    let less : y / r < m = (div-lt_iff_lt-mul some).1 lt in
    let test : (y / r == m) ≡ false = not_same (y / r) m (λ (e : y / r ≡ m). apart (y / r) m less e) in
    sym (by_test (y / r == m) false (map_of q i x (first i + y % r)) (blocks i x y) test)
  where
    apart : (a b : ℕ) → a < b → a ≡ b → ⊥
    apart a b l e = omega (arith, l, e)

rows_below : (rows others : ℕ → List ℕ) (first count : ℕ) → ((y : ℕ) → y < first + count → rows y ≡ others y) → rows_from rows first count ≡ rows_from others first count
rows_below rows others first zero e = refl
rows_below rows others first (suc n) e =
    map-append (λ k. rows (first + k)) (below n) (n ∷ [])
    ∙ ap (λ ys. ys ++ rows (first + n) ∷ []) (rows_below rows others first n (λ (y : ℕ) (h : y < first + n). e y (omega (arith, h))))
    ∙ ap (λ y. rows_from others first n ++ y ∷ []) (e (first + n) (omega arith))
    ∙ sym (map-append (λ k. others (first + k)) (below n) (n ∷ []))

pub stands_on : (s : ShownState) (first : ℕ → ℕ) (q : Picture) (blocks : Blocks) → IsShowable s.display → RepresentsPicture s blocks → RepresentsPicture s (extended s.display s.pushed first q blocks)
stands_on s first q blocks shown h =
    let d = s.display in
    let m = s.pushed in
    record {
      some = h.some;
      early = h.early;
      late = h.late;
      rows = λ (i : ℕ) (lt : i < parts d).
          (let M = picture_of d blocks in
          let others = extended d m first q blocks in
          let f = first_kept M i m in
          let k = known_rows M i m in
          let r = rows_in d i in
          let some = rows_in_some d i shown lt in
          h.rows i lt
          ∙ rows_below (plane_row M i) (plane_row (picture_of d others) i) f (k - f)
          (λ (y : ℕ) (l : y < f + (k - f)). (let low : y / 8 < m * r = told_above r m y (samples_down M i) l in
          same_samples M others i y (λ (x : ℕ). above d m first q blocks i x (y / 8) some low))));
    }
  where
    told_in : (a b n y high : ℕ) → a ≤ b → b ≡ 8 * n → y < (a - 1) + (min b high - (a - 1)) → y / 8 < n
    told_in a b n y high le e l = omega (arith, le, e, l)

    less : (r m : ℕ) → 8 * r * (m - 1) ≤ 8 * r * m
    less r zero = (let z : 8 * r * (0 - 1) ≡ 8 * r * 0 = refl in omega (arith, z))
    less r (suc m) =
        let e : suc m - 1 ≡ m = omega arith in
        let a : 8 * r * (suc m - 1) ≡ 8 * r * m = ap (λ n. 8 * r * n) e in
        let b : 8 * r * suc m ≡ 8 * r * m + 8 * r = grind arith in
        omega (arith, a, b)

    told_above : (r m y high : ℕ) → y < (8 * r * (m - 1) - 1) + (min (8 * r * m) high - (8 * r * (m - 1) - 1)) → y / 8 < m * r
    told_above r m y high l = told_in (8 * r * (m - 1)) (8 * r * m) (m * r) y high (less r m) (let p : 8 * r * m ≡ 8 * (m * r) = grind arith in p) l
