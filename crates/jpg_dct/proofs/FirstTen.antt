-- The first ten places in zigzag order are in the first four rows and columns (T.81, Figure A.6).
use Rattle.std.proofs.Common.{◌≡◌, ℕ, ◌+◌, ◌*◌, ◌%◌, ◌<◌, ◌≤◌, Bool, true, false, cond, List, nat_lt, get_or, slice_index, ℤ, pos, ◌*ℤ◌, refl, sym, ap, ◌∙◌, arith}
use Rattle.std.proofs.lemmas.Bool.{ltb-true, le-ltb}
use Rattle.std.proofs.lemmas.Int.{ints}
use Rattle.std.proofs.lemmas.List.Elements.{All-get_or}
use Rattle.std.proofs.lemmas.List.Sums.{AllPass-from_list_all}
use Rattle.jpg_spec.specs.Lists.{below, index_of}
use Rattle.jpg_spec.specs.Zigzag.{zigzag}
use Rattle.jpg_spec.proofs.Basics.Common.{length_below}
use Rattle.jpg_spec.proofs.Basics.Rows.{at_below}
use Rattle.jpg_spec_image.specs.Dct.{number_at}
use Rattle.jpg_dct.specs.Multipliers.{scaled}
use Rattle.jpg_dct.specs.Natural.{natural}
use Rattle.jpg_dct.specs.Sums.{IsCorner}
use Rattle.jpg_dct.proofs.Multiplied.{scaled_at}
use Rattle.jpg_dct.proofs.Swizzled.{low, natural_at}
use Rattle.jpg_dct.proofs.Zigzag.{places, place_is}

zero_times : (q : ℕ) → pos 0 *ℤ pos q ≡ pos 0
zero_times q = omega (arith, ints)

-- whether the place of natural index n is at least ten, and where it has to be: if the row or the column isn't among the first four
abbrev late : ℕ → Bool
late n = nat_lt 9 (get_or places n 0)

abbrev late_where_due : ℕ → Bool
late_where_due n = cond (nat_lt n 32) (cond (nat_lt (n % 8) 4) true (late n)) (late n)

are_late : (n : ℕ) → n < 64 → late_where_due n ≡ true
are_late n lt =
    ap late_where_due (sym (at_below 64 n lt))
    ∙ All-get_or (λ m. late_where_due m ≡ true) (below 64) n 0 (omega (arith, lt, length_below 64)) (AllPass-from_list_all late_where_due (below 64) refl)

zero_natural : (quants : List ℕ) (given : List ℤ) → ((k : ℕ) → 10 ≤ k → k < 64 → number_at given k ≡ pos 0) → (n : ℕ) → n < 64 → 10 ≤ get_or places n 0
    → number_at (natural (scaled quants given)) n ≡ pos 0
zero_natural quants given few n lt late =
    let place : ℕ = index_of n zigzag in
    let there : place < 64 = low n lt in
    let ten : 10 ≤ place = omega (arith, place_is n lt, late) in
    natural_at (scaled quants given) n lt ∙ scaled_at quants given place there ∙ ap (λ x. x *ℤ pos (slice_index quants place)) (few place ten there) ∙ zero_times (slice_index quants place)

late_below : (u v : ℕ) → u < 8 → 4 ≤ v → v < 8 → 10 ≤ get_or places (8 * v + u) 0
late_below u v lu four lv =
    let n : ℕ = 8 * v + u in
    let high : nat_lt n 32 ≡ false = le-ltb n 32 (omega (arith, four)) in
    let h : late n ≡ true = sym (ap (λ b. cond b (cond (nat_lt (n % 8) 4) true (late n)) (late n)) high) ∙ are_late n (omega (arith, lu, lv)) in
    omega (arith, ltb-true 9 (get_or places n 0) h)

late_right : (u v : ℕ) → 4 ≤ u → u < 8 → v < 8 → 10 ≤ get_or places (8 * v + u) 0
late_right u v four lu lv =
    let n : ℕ = 8 * v + u in
    let high : nat_lt (n % 8) 4 ≡ false = le-ltb (n % 8) 4 (omega (arith, four, lu)) in
    let h : late n ≡ true =
    sym (either (nat_lt n 32) (late n)) ∙ sym (ap (λ b. cond (nat_lt n 32) (cond b true (late n)) (late n)) high) ∙ are_late n (omega (arith, lu, lv))
    in
    omega (arith, ltb-true 9 (get_or places n 0) h)
  where
    either : (b x : Bool) → cond b x x ≡ x
    either true x = refl
    either false x = refl

pub corner_natural : (quants : List ℕ) (given : List ℤ) → ((k : ℕ) → 10 ≤ k → k < 64 → number_at given k ≡ pos 0) → IsCorner (natural (scaled quants given))
corner_natural quants given few = record {
  below = λ u v lu four lv. zero_natural quants given few (8 * v + u) (omega (arith, lu, lv)) (late_below u v lu four lv);
  right = λ u v four lu lv. zero_natural quants given few (8 * v + u) (omega (arith, lu, lv)) (late_right u v four lu lv);
}
