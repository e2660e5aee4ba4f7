-- The values that aren't 0, by the bits of a word.
use Rattle.std.proofs.Common.{◌≡◌, ℕ, zero, suc, ◌+◌, ◌*◌, ◌/◌, ◌^◌, ◌<◌, Bool, true, false, cond, not, List, [], ◌∷◌, length, drop, get_or, map, sym, ap, ◌∙◌, subst, arith, refl, ℤ, pos}
use Rattle.std.specs.Prelude.{if◌then◌else◌}
use Rattle.std.specs.Int.{bit_at}
use Rattle.std.specs.List.{prefix_len}
use Rattle.std.proofs.lemmas.List.{get_or-map, length-map}
use Rattle.std.proofs.lemmas.Nat.{shr-shr}
use Rattle.std.proofs.lemmas.Nat.Bits.{same_from_bits_below}
use Rattle.std.proofs.lemmas.Simd.{bit_mask_l, mask_l-lt}
use Rattle.jpg_spec.specs.Elements.{is_zero}
use Rattle.jpg_base.specs.Marks.{is_some, marks}

bit_of : (b : Bool) → let n : ℕ = if b then 0 else 1 in n ≡ cond (not b) 1 0
bit_of true = refl
bit_of false = refl

pub marks_are : (values : List ℤ) (word : ℕ) → length values ≡ 64 → word < 2 ^ 64 → ((k : ℕ) → k < 64 → bit_at word k ≡ (if is_zero (get_or values k (pos 0)) then 0 else 1)) → word ≡ marks values
marks_are values word long small bits =
    let l : length (map is_some values) ≡ 64 = length-map values is_some ∙ long in
    same_from_bits_below 64 word (marks values) small (subst (λ n. marks values < 2 ^ n) l (mask_l-lt (map is_some values)))
    (λ k h.
    let some : k < length values = omega (arith, long, h) in
    bits k h ∙ bit_of (is_zero (get_or values k (pos 0))) ∙ ap (λ b. cond b 1 0) (sym (get_or-map is_some values k (pos 0) false some)) ∙ sym (bit_mask_l (map is_some values) k))

half : (b : Bool) (n : ℕ) → (cond b 1 0 + 2 * n) / 2 ≡ n
half true n = omega arith
half false n = omega arith

-- those after the first ones
pub marks_after : (values : List ℤ) (n : ℕ) → marks values / 2 ^ n ≡ marks (drop n values)
marks_after values zero = omega arith
marks_after [] (suc n) = omega arith
marks_after (v ∷ values) (suc n) =
    let more : suc n ≡ 1 + n = omega arith in
    ap (λ m. marks (v ∷ values) / 2 ^ m) more ∙ sym (shr-shr (marks (v ∷ values)) 1 n) ∙ ap (λ m. m / 2 ^ n) (half (is_some v) (marks values)) ∙ marks_after values n

-- the number of zeros before it
abbrev pub zeros_first : List ℤ → ℕ
zeros_first values = prefix_len (λ v. not (is_some v)) values
