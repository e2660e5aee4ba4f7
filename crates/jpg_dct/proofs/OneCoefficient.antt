-- A block whose only coefficient is the first one has equal samples.
use Rattle.std.proofs.Common.{◌≡◌, ℕ, ◌+◌, ◌-◌, ◌*◌, ◌/◌, ◌<◌, ◌≤◌, List, [], ◌∷◌, map, ℤ, pos, negsuc, ◌+ℤ◌, ◌-ℤ◌, ◌*ℤ◌, refl, sym, ap, ◌∙◌, arith, ⊎_elim}
use Rattle.std.specs.Prelude.{replicate, flat_map}
use Rattle.std.specs.Int.{int_shr}
use Rattle.std.proofs.lemmas.Bool.{cases_lt}
use Rattle.std.proofs.lemmas.Int.{ints}
use Rattle.jpg_spec.specs.Lists.{below}
use Rattle.jpg_spec_image.specs.Dct.{even_sums, odd_sums, joined_sums, line_sums, column, columns, sample_of, sample_row, inverse_dct}
use Rattle.jpg_spec_image.proofs.CodedBlocks.{four_times}

plus_zero : (x : ℤ) → x +ℤ pos 0 ≡ x
plus_zero x = omega (arith, ints)

minus_zero : (x : ℤ) → x -ℤ pos 0 ≡ x
minus_zero x = omega (arith, ints)

even_flat : (d : ℤ) → even_sums d (pos 0) (pos 0) (pos 0) ≡ replicate 4 (d *ℤ pos 8192)
unfolding even_sums
even_flat d =
    let e = d *ℤ pos 8192 in
    ap (λ (x : ℤ). (let l : List ℤ = ((x *ℤ pos 8192) +ℤ pos 0) ∷ (((d -ℤ pos 0) *ℤ pos 8192) +ℤ pos 0) ∷ (((d -ℤ pos 0) *ℤ pos 8192) -ℤ pos 0) ∷ ((x *ℤ pos 8192) -ℤ pos 0) ∷ [] in l)) (plus_zero d)
    ∙ ap (λ (x : ℤ). (let l : List ℤ = (e +ℤ pos 0) ∷ ((x *ℤ pos 8192) +ℤ pos 0) ∷ ((x *ℤ pos 8192) -ℤ pos 0) ∷ (e -ℤ pos 0) ∷ [] in l)) (minus_zero d)
    ∙ ap (λ (x : ℤ). (let l : List ℤ = x ∷ x ∷ (e -ℤ pos 0) ∷ (e -ℤ pos 0) ∷ [] in l)) (plus_zero e)
    ∙ ap (λ (x : ℤ). (let l : List ℤ = e ∷ e ∷ x ∷ x ∷ [] in l)) (minus_zero e)

joined_flat : (e : ℤ) → joined_sums (replicate 4 e) (replicate 4 (pos 0)) ≡ replicate 8 e
unfolding joined_sums
joined_flat e =
    ap (λ (x : ℤ). (let l : List ℤ = x ∷ x ∷ x ∷ x ∷ (e -ℤ pos 0) ∷ (e -ℤ pos 0) ∷ (e -ℤ pos 0) ∷ (e -ℤ pos 0) ∷ [] in l)) (plus_zero e)
    ∙ ap (λ (x : ℤ). (let l : List ℤ = e ∷ e ∷ e ∷ e ∷ x ∷ x ∷ x ∷ x ∷ [] in l)) (minus_zero e)

odd_flat : odd_sums (pos 0) (pos 0) (pos 0) (pos 0) ≡ replicate 4 (pos 0)
unfolding odd_sums
odd_flat = refl

line_flat : (d : ℤ) → line_sums d (pos 0) (pos 0) (pos 0) (pos 0) (pos 0) (pos 0) (pos 0) ≡ replicate 8 (d *ℤ pos 8192)
line_flat d = ap (λ o. joined_sums (even_sums d (pos 0) (pos 0) (pos 0)) o) odd_flat ∙ ap (λ b. joined_sums b (replicate 4 (pos 0))) (even_flat d) ∙ joined_flat (d *ℤ pos 8192)

-- an eighth of it, after the rows
then_rounded : (d : ℤ) → int_shr (((d *ℤ pos 4) *ℤ pos 8192) +ℤ pos 131072) 18 ≡ int_shr (d +ℤ pos 4) 3
then_rounded (pos n) = (let e : (n * 4 * 8192 + 131072) / 262144 ≡ (n + 4) / 8 = omega arith in ap pos e)
then_rounded (negsuc n) =
    ⊎_elim
    (λ (a : n < 4). (let x : ((negsuc n *ℤ pos 4) *ℤ pos 8192) +ℤ pos 131072 ≡ pos (32768 * (3 - n)) = omega (arith, ints, a) in
    let y : negsuc n +ℤ pos 4 ≡ pos (3 - n) = omega (arith, ints, a) in
    let e : 32768 * (3 - n) / 262144 ≡ (3 - n) / 8 = omega arith in
    ap (λ z. int_shr z 18) x ∙ ap pos e ∙ sym (ap (λ z. int_shr z 3) y)))
    (λ (b : 4 ≤ n). (let x : ((negsuc n *ℤ pos 4) *ℤ pos 8192) +ℤ pos 131072 ≡ negsuc (32768 * (n - 4) + 32767) = omega (arith, ints, b) in
    let y : negsuc n +ℤ pos 4 ≡ negsuc (n - 4) = omega (arith, ints, b) in
    let e : (32768 * (n - 4) + 32767) / 262144 ≡ (n - 4) / 8 = omega arith in
    ap (λ z. int_shr z 18) x ∙ ap negsuc e ∙ sym (ap (λ z. int_shr z 3) y)))
    (cases_lt n 4)

columns_flat : (d : ℤ) → columns (d ∷ replicate 63 (pos 0)) ≡ replicate 8 (d *ℤ pos 4) ∷ replicate 7 (replicate 8 (pos 0))
unfolding column even_sums odd_sums joined_sums
columns_flat d =
    ap (λ (c : List ℤ). (let l : List (List ℤ) = c ∷ replicate 7 (replicate 8 (pos 0)) in l))
    (ap (map (λ e. int_shr (e +ℤ pos 1024) 11)) (line_flat d) ∙ ap (replicate 8) (four_times d))

rows_flat : (c : ℤ) → flat_map (sample_row (replicate 8 c ∷ replicate 7 (replicate 8 (pos 0)))) (below 8) ≡ replicate 64 (sample_of (int_shr ((c *ℤ pos 8192) +ℤ pos 131072) 18))
unfolding sample_row
rows_flat c =
    ap (λ (row : List ℕ). flat_map (λ (v : ℕ). row) (below 8)) (ap (map (λ e. sample_of (int_shr (e +ℤ pos 131072) 18))) (line_flat c))

pub flat_is : (d : ℤ) → inverse_dct (d ∷ replicate 63 (pos 0)) ≡ replicate 64 (sample_of (int_shr (d +ℤ pos 4) 3))
unfolding inverse_dct
flat_is d =
    ap (λ done. flat_map (sample_row done) (below 8)) (columns_flat d) ∙ rows_flat (d *ℤ pos 4)
    ∙ ap (λ x. replicate 64 (sample_of x)) (then_rounded d)
