-- What is known of a value down to a bit, and the effect of one more bit.
use Rattle.std.proofs.Common.{◌≡◌, ℕ, zero, suc, ◌+◌, ◌*◌, ◌/◌, ◌%◌, ◌^◌, ◌≤◌, Bool, true, false, cond, refl, sym, ap, ◌∙◌, arith, ℤ, pos, negsuc, ◌==◌}
use Rattle.std.specs.Prelude.{nat_abs, neg_ℤ, ◌+ℤ◌, ◌≤ℤ◌}
use Rattle.std.proofs.lemmas.Bool.Decides.{nat_tests}
use Rattle.std.proofs.lemmas.Int.{ints}
use Rattle.jpg_spec.specs.Elements.{scaled}
use Rattle.jpg_spec_write.specs.Sending.{shifted, divided}
use Rattle.jpg_spec.specs.Geometry.{bounds_8, bounds_12, bounds_of}
use Rattle.jpg_spec.specs.declared.frame.Bounds.{Bounds}
use Rattle.jpg_spec.proofs.Headers.Precisions.{of_bounds}
use Rattle.jpg_spec.proofs.Basics.Small.{AreBounds, IsDc}

-- a law for each bit up to 10, and up to 13
eleven : (P : ℕ → Type 0) → P 0 → P 1 → P 2 → P 3 → P 4 → P 5 → P 6 → P 7 → P 8 → P 9 → P 10 → (n : ℕ) → n ≤ 10 → P n
eleven P a b c d e f g h i j k zero s = a
eleven P a b c d e f g h i j k (suc zero) s = b
eleven P a b c d e f g h i j k (suc (suc zero)) s = c
eleven P a b c d e f g h i j k (suc (suc (suc zero))) s = d
eleven P a b c d e f g h i j k (suc (suc (suc (suc zero)))) s = e
eleven P a b c d e f g h i j k (suc (suc (suc (suc (suc zero))))) s = f
eleven P a b c d e f g h i j k (suc (suc (suc (suc (suc (suc zero)))))) s = g
eleven P a b c d e f g h i j k (suc (suc (suc (suc (suc (suc (suc zero))))))) s = h
eleven P a b c d e f g h i j k (suc (suc (suc (suc (suc (suc (suc (suc zero)))))))) s = i
eleven P a b c d e f g h i j k (suc (suc (suc (suc (suc (suc (suc (suc (suc zero))))))))) s = j
eleven P a b c d e f g h i j k (suc (suc (suc (suc (suc (suc (suc (suc (suc (suc zero)))))))))) s = k
eleven P a b c d e f g h i j k (suc (suc (suc (suc (suc (suc (suc (suc (suc (suc (suc q))))))))))) s = absurd (omega (arith, s))

fourteen : (P : ℕ → Type 0) → P 0 → P 1 → P 2 → P 3 → P 4 → P 5 → P 6 → P 7 → P 8 → P 9 → P 10 → P 11 → P 12 → P 13 → (n : ℕ) → n ≤ 13 → P n
fourteen P a b c d e f g h i j k l m o zero s = a
fourteen P a b c d e f g h i j k l m o (suc zero) s = b
fourteen P a b c d e f g h i j k l m o (suc (suc zero)) s = c
fourteen P a b c d e f g h i j k l m o (suc (suc (suc zero))) s = d
fourteen P a b c d e f g h i j k l m o (suc (suc (suc (suc zero)))) s = e
fourteen P a b c d e f g h i j k l m o (suc (suc (suc (suc (suc zero))))) s = f
fourteen P a b c d e f g h i j k l m o (suc (suc (suc (suc (suc (suc zero)))))) s = g
fourteen P a b c d e f g h i j k l m o (suc (suc (suc (suc (suc (suc (suc zero))))))) s = h
fourteen P a b c d e f g h i j k l m o (suc (suc (suc (suc (suc (suc (suc (suc zero)))))))) s = i
fourteen P a b c d e f g h i j k l m o (suc (suc (suc (suc (suc (suc (suc (suc (suc zero))))))))) s = j
fourteen P a b c d e f g h i j k l m o (suc (suc (suc (suc (suc (suc (suc (suc (suc (suc zero)))))))))) s = k
fourteen P a b c d e f g h i j k l m o (suc (suc (suc (suc (suc (suc (suc (suc (suc (suc (suc zero))))))))))) s = l
fourteen P a b c d e f g h i j k l m o (suc (suc (suc (suc (suc (suc (suc (suc (suc (suc (suc (suc zero)))))))))))) s = m
fourteen P a b c d e f g h i j k l m o (suc (suc (suc (suc (suc (suc (suc (suc (suc (suc (suc (suc (suc zero))))))))))))) s = o
fourteen P a b c d e f g h i j k l m o (suc (suc (suc (suc (suc (suc (suc (suc (suc (suc (suc (suc (suc (suc q)))))))))))))) s = absurd (omega (arith, s))

-- DC VALUES

pos_shifted : (b : Bounds) → IsDc b (pos 0) → (al : ℕ) → al ≤ 13 → (n : ℕ) → pos n ≤ℤ b.dc_high → IsDc b (shifted al (pos n))
pos_shifted b z al l =
    fourteen (λ k. (n : ℕ) → pos n ≤ℤ b.dc_high → IsDc b (shifted k (pos n)))
    (λ n h. (let zl = z.low in let zh = z.high in record { low = omega (arith, ints, h, zl, zh); high = omega (arith, ints, h, zl, zh) })) (λ n h. (let zl = z.low in let zh = z.high in record { low = omega (arith, ints, h, zl, zh); high = omega (arith, ints, h, zl, zh) })) (λ n h. (let zl = z.low in let zh = z.high in record { low = omega (arith, ints, h, zl, zh); high = omega (arith, ints, h, zl, zh) })) (λ n h. (let zl = z.low in let zh = z.high in record { low = omega (arith, ints, h, zl, zh); high = omega (arith, ints, h, zl, zh) })) (λ n h. (let zl = z.low in let zh = z.high in record { low = omega (arith, ints, h, zl, zh); high = omega (arith, ints, h, zl, zh) })) (λ n h. (let zl = z.low in let zh = z.high in record { low = omega (arith, ints, h, zl, zh); high = omega (arith, ints, h, zl, zh) })) (λ n h. (let zl = z.low in let zh = z.high in record { low = omega (arith, ints, h, zl, zh); high = omega (arith, ints, h, zl, zh) })) (λ n h. (let zl = z.low in let zh = z.high in record { low = omega (arith, ints, h, zl, zh); high = omega (arith, ints, h, zl, zh) })) (λ n h. (let zl = z.low in let zh = z.high in record { low = omega (arith, ints, h, zl, zh); high = omega (arith, ints, h, zl, zh) })) (λ n h. (let zl = z.low in let zh = z.high in record { low = omega (arith, ints, h, zl, zh); high = omega (arith, ints, h, zl, zh) })) (λ n h. (let zl = z.low in let zh = z.high in record { low = omega (arith, ints, h, zl, zh); high = omega (arith, ints, h, zl, zh) })) (λ n h. (let zl = z.low in let zh = z.high in record { low = omega (arith, ints, h, zl, zh); high = omega (arith, ints, h, zl, zh) })) (λ n h. (let zl = z.low in let zh = z.high in record { low = omega (arith, ints, h, zl, zh); high = omega (arith, ints, h, zl, zh) })) (λ n h. (let zl = z.low in let zh = z.high in record { low = omega (arith, ints, h, zl, zh); high = omega (arith, ints, h, zl, zh) })) al l

neg_shifted : (b : Bounds) → IsDc b (pos 0) → (al : ℕ) → al ≤ 13 → (n : ℕ) → b.dc_low ≤ℤ negsuc n → IsDc b (shifted al (negsuc n))
neg_shifted b z al l =
    fourteen (λ k. (n : ℕ) → b.dc_low ≤ℤ negsuc n → IsDc b (shifted k (negsuc n)))
    (λ n h. (let zl = z.low in let zh = z.high in record { low = omega (arith, ints, h, zl, zh); high = omega (arith, ints, h, zl, zh) })) (λ n h. (let zl = z.low in let zh = z.high in record { low = omega (arith, ints, h, zl, zh); high = omega (arith, ints, h, zl, zh) })) (λ n h. (let zl = z.low in let zh = z.high in record { low = omega (arith, ints, h, zl, zh); high = omega (arith, ints, h, zl, zh) })) (λ n h. (let zl = z.low in let zh = z.high in record { low = omega (arith, ints, h, zl, zh); high = omega (arith, ints, h, zl, zh) })) (λ n h. (let zl = z.low in let zh = z.high in record { low = omega (arith, ints, h, zl, zh); high = omega (arith, ints, h, zl, zh) })) (λ n h. (let zl = z.low in let zh = z.high in record { low = omega (arith, ints, h, zl, zh); high = omega (arith, ints, h, zl, zh) })) (λ n h. (let zl = z.low in let zh = z.high in record { low = omega (arith, ints, h, zl, zh); high = omega (arith, ints, h, zl, zh) })) (λ n h. (let zl = z.low in let zh = z.high in record { low = omega (arith, ints, h, zl, zh); high = omega (arith, ints, h, zl, zh) })) (λ n h. (let zl = z.low in let zh = z.high in record { low = omega (arith, ints, h, zl, zh); high = omega (arith, ints, h, zl, zh) })) (λ n h. (let zl = z.low in let zh = z.high in record { low = omega (arith, ints, h, zl, zh); high = omega (arith, ints, h, zl, zh) })) (λ n h. (let zl = z.low in let zh = z.high in record { low = omega (arith, ints, h, zl, zh); high = omega (arith, ints, h, zl, zh) })) (λ n h. (let zl = z.low in let zh = z.high in record { low = omega (arith, ints, h, zl, zh); high = omega (arith, ints, h, zl, zh) })) (λ n h. (let zl = z.low in let zh = z.high in record { low = omega (arith, ints, h, zl, zh); high = omega (arith, ints, h, zl, zh) })) (λ n h. (let zl = z.low in let zh = z.high in record { low = omega (arith, ints, h, zl, zh); high = omega (arith, ints, h, zl, zh) })) al l

pub dc_shifted : {b : Bounds} → AreBounds b → (al : ℕ) (v : ℤ) → al ≤ b.al → IsDc b v → IsDc b (shifted al v)
dc_shifted {b} are al (pos n) l d = (let few = are.al_few in pos_shifted b are.zero_dc al (omega (arith, l, few)) n d.high)
dc_shifted {b} are al (negsuc n) l d = (let few = are.al_few in neg_shifted b are.zero_dc al (omega (arith, l, few)) n d.low)

-- with 0 for the bits that aren't known
Known : Bounds → Type 0
Known b = (al : ℕ) → al ≤ b.al → (v : ℤ) → IsDc b v → IsDc b (scaled al (shifted al v))

pos_known : (al : ℕ) → al ≤ 13 → (n : ℕ) → pos 0 ≤ℤ scaled al (shifted al (pos n)) × (scaled al (shifted al (pos n)) ≤ℤ pos n)
pos_known al l =
    fourteen (λ k. (n : ℕ) → pos 0 ≤ℤ scaled k (shifted k (pos n)) × (scaled k (shifted k (pos n)) ≤ℤ pos n))
    (λ n. (omega (arith, ints), omega (arith, ints))) (λ n. (omega (arith, ints), omega (arith, ints))) (λ n. (omega (arith, ints), omega (arith, ints))) (λ n. (omega (arith, ints), omega (arith, ints))) (λ n. (omega (arith, ints), omega (arith, ints))) (λ n. (omega (arith, ints), omega (arith, ints))) (λ n. (omega (arith, ints), omega (arith, ints))) (λ n. (omega (arith, ints), omega (arith, ints))) (λ n. (omega (arith, ints), omega (arith, ints))) (λ n. (omega (arith, ints), omega (arith, ints))) (λ n. (omega (arith, ints), omega (arith, ints))) (λ n. (omega (arith, ints), omega (arith, ints))) (λ n. (omega (arith, ints), omega (arith, ints))) (λ n. (omega (arith, ints), omega (arith, ints))) al l

neg_eight : (al : ℕ) → al ≤ 10 → (n : ℕ) → negsuc 1023 ≤ℤ negsuc n → (negsuc 1023 ≤ℤ scaled al (shifted al (negsuc n))) × (scaled al (shifted al (negsuc n)) ≤ℤ pos 0)
neg_eight al l =
    eleven (λ k. (n : ℕ) → negsuc 1023 ≤ℤ negsuc n → (negsuc 1023 ≤ℤ scaled k (shifted k (negsuc n))) × (scaled k (shifted k (negsuc n)) ≤ℤ pos 0))
    (λ n h. (omega (arith, ints, h), omega (arith, ints, h))) (λ n h. (omega (arith, ints, h), omega (arith, ints, h))) (λ n h. (omega (arith, ints, h), omega (arith, ints, h))) (λ n h. (omega (arith, ints, h), omega (arith, ints, h))) (λ n h. (omega (arith, ints, h), omega (arith, ints, h))) (λ n h. (omega (arith, ints, h), omega (arith, ints, h))) (λ n h. (omega (arith, ints, h), omega (arith, ints, h))) (λ n h. (omega (arith, ints, h), omega (arith, ints, h))) (λ n h. (omega (arith, ints, h), omega (arith, ints, h))) (λ n h. (omega (arith, ints, h), omega (arith, ints, h))) (λ n h. (omega (arith, ints, h), omega (arith, ints, h))) al l

neg_twelve : (al : ℕ) → al ≤ 13 → (n : ℕ) → negsuc 16383 ≤ℤ negsuc n → (negsuc 16383 ≤ℤ scaled al (shifted al (negsuc n))) × (scaled al (shifted al (negsuc n)) ≤ℤ pos 0)
neg_twelve al l =
    fourteen (λ k. (n : ℕ) → negsuc 16383 ≤ℤ negsuc n → (negsuc 16383 ≤ℤ scaled k (shifted k (negsuc n))) × (scaled k (shifted k (negsuc n)) ≤ℤ pos 0))
    (λ n h. (omega (arith, ints, h), omega (arith, ints, h))) (λ n h. (omega (arith, ints, h), omega (arith, ints, h))) (λ n h. (omega (arith, ints, h), omega (arith, ints, h))) (λ n h. (omega (arith, ints, h), omega (arith, ints, h))) (λ n h. (omega (arith, ints, h), omega (arith, ints, h))) (λ n h. (omega (arith, ints, h), omega (arith, ints, h))) (λ n h. (omega (arith, ints, h), omega (arith, ints, h))) (λ n h. (omega (arith, ints, h), omega (arith, ints, h))) (λ n h. (omega (arith, ints, h), omega (arith, ints, h))) (λ n h. (omega (arith, ints, h), omega (arith, ints, h))) (λ n h. (omega (arith, ints, h), omega (arith, ints, h))) (λ n h. (omega (arith, ints, h), omega (arith, ints, h))) (λ n h. (omega (arith, ints, h), omega (arith, ints, h))) (λ n h. (omega (arith, ints, h), omega (arith, ints, h))) al l

pub dc_known : (precision al : ℕ) (v : ℤ) → al ≤ (bounds_of precision).al → IsDc (bounds_of precision) v → IsDc (bounds_of precision) (scaled al (shifted al v))
unfolding Known
dc_known precision al v l d = of_bounds Known eight twelve precision al l v d
  where
    eight : (al : ℕ) → al ≤ 10 → (v : ℤ) → IsDc bounds_8 v → IsDc bounds_8 (scaled al (shifted al v))
    eight al l (pos n) d = (let k = pos_known al (omega (arith, l)) n in let h = d.high in let k0 = k.0 in let k1 = k.1 in record { low = omega (arith, ints, k0); high = omega (arith, ints, k1, h) })
    eight al l (negsuc n) d = (let k = neg_eight al l n d.low in let k1 = k.1 in record { low = k.0; high = omega (arith, ints, k1) })

    twelve : (al : ℕ) → al ≤ 13 → (v : ℤ) → IsDc bounds_12 v → IsDc bounds_12 (scaled al (shifted al v))
    twelve al l (pos n) d = (let k = pos_known al l n in let h = d.high in let k0 = k.0 in let k1 = k.1 in record { low = omega (arith, ints, k0); high = omega (arith, ints, k1, h) })
    twelve al l (negsuc n) d = (let k = neg_twelve al l n d.low in let k1 = k.1 in record { low = k.0; high = omega (arith, ints, k1) })

-- one more bit
pos_refined : (al : ℕ) → al ≤ 13 → (n : ℕ) → scaled (al + 1) (shifted (al + 1) (pos n)) +ℤ scaled al (pos (nat_abs (shifted al (pos n)) % 2)) ≡ scaled al (shifted al (pos n))
pos_refined al l =
    fourteen (λ k. (n : ℕ) → scaled (k + 1) (shifted (k + 1) (pos n)) +ℤ scaled k (pos (nat_abs (shifted k (pos n)) % 2)) ≡ scaled k (shifted k (pos n)))
    (λ n. omega (arith, ints)) (λ n. omega (arith, ints)) (λ n. omega (arith, ints)) (λ n. omega (arith, ints)) (λ n. omega (arith, ints)) (λ n. omega (arith, ints)) (λ n. omega (arith, ints)) (λ n. omega (arith, ints)) (λ n. omega (arith, ints)) (λ n. omega (arith, ints)) (λ n. omega (arith, ints)) (λ n. omega (arith, ints)) (λ n. omega (arith, ints)) (λ n. omega (arith, ints)) al l

neg_refined : (al : ℕ) → al ≤ 13 → (n : ℕ) → scaled (al + 1) (shifted (al + 1) (negsuc n)) +ℤ scaled al (pos (nat_abs (shifted al (negsuc n)) % 2)) ≡ scaled al (shifted al (negsuc n))
neg_refined al l =
    fourteen (λ k. (n : ℕ) → scaled (k + 1) (shifted (k + 1) (negsuc n)) +ℤ scaled k (pos (nat_abs (shifted k (negsuc n)) % 2)) ≡ scaled k (shifted k (negsuc n)))
    (λ n. omega (arith, ints)) (λ n. omega (arith, ints)) (λ n. omega (arith, ints)) (λ n. omega (arith, ints)) (λ n. omega (arith, ints)) (λ n. omega (arith, ints)) (λ n. omega (arith, ints)) (λ n. omega (arith, ints)) (λ n. omega (arith, ints)) (λ n. omega (arith, ints)) (λ n. omega (arith, ints)) (λ n. omega (arith, ints)) (λ n. omega (arith, ints)) (λ n. omega (arith, ints)) al l

bit_is : (n : ℕ) → cond (n % 2 == 1) (pos 1) (pos 0) ≡ pos (n % 2)
bit_is n = by (n % 2 == 1) refl
  where
    by : (b : Bool) → (n % 2 == 1) ≡ b → cond b (pos 1) (pos 0) ≡ pos (n % 2)
    by true e = let s : n % 2 ≡ 1 = grind (arith, nat_tests, e) in ap pos (sym s)
    by false e = let s : n % 2 ≡ 0 = (let z : n % 2 ≡ 1 → ⊥ = λ k. other k e in omega (arith, z)) in ap pos (sym s)
      where
        other : n % 2 ≡ 1 → (n % 2 == 1) ≡ false → ⊥
        other k e = grind (arith, nat_tests)

pub dc_refined : (al : ℕ) (v : ℤ) → al ≤ 13 → scaled (al + 1) (shifted (al + 1) v) +ℤ scaled al (cond (nat_abs (shifted al v) % 2 == 1) (pos 1) (pos 0)) ≡ scaled al (shifted al v)
dc_refined al (pos n) l = ap (λ b. scaled (al + 1) (shifted (al + 1) (pos n)) +ℤ scaled al b) (bit_is (nat_abs (shifted al (pos n)))) ∙ pos_refined al l n
dc_refined al (negsuc n) l = ap (λ b. scaled (al + 1) (shifted (al + 1) (negsuc n)) +ℤ scaled al b) (bit_is (nat_abs (shifted al (negsuc n)))) ∙ neg_refined al l n

-- a padding block's value with one more bit
Padded : Bounds → Type 0
Padded b = (al : ℕ) → al + 1 ≤ b.al → (q : ℤ) (n : ℕ) → n ≤ 1 → IsDc b (scaled (al + 1) q) → IsDc b (scaled (al + 1) q +ℤ scaled al (pos n)) × (scaled (al + 1) q +ℤ scaled al (pos n) ≡ scaled al (q +ℤ q +ℤ pos n))

padded_eight : (al : ℕ) → al ≤ 10 → al + 1 ≤ 10 → (q : ℤ) (n : ℕ) → n ≤ 1 → IsDc bounds_8 (scaled (al + 1) q)
    → IsDc bounds_8 (scaled (al + 1) q +ℤ scaled al (pos n)) × (scaled (al + 1) q +ℤ scaled al (pos n) ≡ scaled al (q +ℤ q +ℤ pos n))
padded_eight al l =
    eleven (λ k. k + 1 ≤ 10 → (q : ℤ) (n : ℕ) → n ≤ 1 → IsDc bounds_8 (scaled (k + 1) q) → IsDc bounds_8 (scaled (k + 1) q +ℤ scaled k (pos n)) × (scaled (k + 1) q +ℤ scaled k (pos n) ≡ scaled k (q +ℤ q +ℤ pos n)))
    (λ m q n h d. (let low = d.low in let high = d.high in (record { low = omega (arith, ints, h, m, low); high = omega (arith, ints, h, m, high) }, omega (arith, ints)))) (λ m q n h d. (let low = d.low in let high = d.high in (record { low = omega (arith, ints, h, m, low); high = omega (arith, ints, h, m, high) }, omega (arith, ints)))) (λ m q n h d. (let low = d.low in let high = d.high in (record { low = omega (arith, ints, h, m, low); high = omega (arith, ints, h, m, high) }, omega (arith, ints)))) (λ m q n h d. (let low = d.low in let high = d.high in (record { low = omega (arith, ints, h, m, low); high = omega (arith, ints, h, m, high) }, omega (arith, ints)))) (λ m q n h d. (let low = d.low in let high = d.high in (record { low = omega (arith, ints, h, m, low); high = omega (arith, ints, h, m, high) }, omega (arith, ints)))) (λ m q n h d. (let low = d.low in let high = d.high in (record { low = omega (arith, ints, h, m, low); high = omega (arith, ints, h, m, high) }, omega (arith, ints)))) (λ m q n h d. (let low = d.low in let high = d.high in (record { low = omega (arith, ints, h, m, low); high = omega (arith, ints, h, m, high) }, omega (arith, ints)))) (λ m q n h d. (let low = d.low in let high = d.high in (record { low = omega (arith, ints, h, m, low); high = omega (arith, ints, h, m, high) }, omega (arith, ints)))) (λ m q n h d. (let low = d.low in let high = d.high in (record { low = omega (arith, ints, h, m, low); high = omega (arith, ints, h, m, high) }, omega (arith, ints)))) (λ m q n h d. (let low = d.low in let high = d.high in (record { low = omega (arith, ints, h, m, low); high = omega (arith, ints, h, m, high) }, omega (arith, ints)))) (λ m q n h d. (let low = d.low in let high = d.high in (record { low = omega (arith, ints, h, m, low); high = omega (arith, ints, h, m, high) }, omega (arith, ints)))) al l

padded_twelve : (al : ℕ) → al ≤ 13 → al + 1 ≤ 13 → (q : ℤ) (n : ℕ) → n ≤ 1 → IsDc bounds_12 (scaled (al + 1) q)
    → IsDc bounds_12 (scaled (al + 1) q +ℤ scaled al (pos n)) × (scaled (al + 1) q +ℤ scaled al (pos n) ≡ scaled al (q +ℤ q +ℤ pos n))
padded_twelve al l =
    fourteen (λ k. k + 1 ≤ 13 → (q : ℤ) (n : ℕ) → n ≤ 1 → IsDc bounds_12 (scaled (k + 1) q) → IsDc bounds_12 (scaled (k + 1) q +ℤ scaled k (pos n)) × (scaled (k + 1) q +ℤ scaled k (pos n) ≡ scaled k (q +ℤ q +ℤ pos n)))
    (λ m q n h d. (let low = d.low in let high = d.high in (record { low = omega (arith, ints, h, m, low); high = omega (arith, ints, h, m, high) }, omega (arith, ints)))) (λ m q n h d. (let low = d.low in let high = d.high in (record { low = omega (arith, ints, h, m, low); high = omega (arith, ints, h, m, high) }, omega (arith, ints)))) (λ m q n h d. (let low = d.low in let high = d.high in (record { low = omega (arith, ints, h, m, low); high = omega (arith, ints, h, m, high) }, omega (arith, ints)))) (λ m q n h d. (let low = d.low in let high = d.high in (record { low = omega (arith, ints, h, m, low); high = omega (arith, ints, h, m, high) }, omega (arith, ints)))) (λ m q n h d. (let low = d.low in let high = d.high in (record { low = omega (arith, ints, h, m, low); high = omega (arith, ints, h, m, high) }, omega (arith, ints)))) (λ m q n h d. (let low = d.low in let high = d.high in (record { low = omega (arith, ints, h, m, low); high = omega (arith, ints, h, m, high) }, omega (arith, ints)))) (λ m q n h d. (let low = d.low in let high = d.high in (record { low = omega (arith, ints, h, m, low); high = omega (arith, ints, h, m, high) }, omega (arith, ints)))) (λ m q n h d. (let low = d.low in let high = d.high in (record { low = omega (arith, ints, h, m, low); high = omega (arith, ints, h, m, high) }, omega (arith, ints)))) (λ m q n h d. (let low = d.low in let high = d.high in (record { low = omega (arith, ints, h, m, low); high = omega (arith, ints, h, m, high) }, omega (arith, ints)))) (λ m q n h d. (let low = d.low in let high = d.high in (record { low = omega (arith, ints, h, m, low); high = omega (arith, ints, h, m, high) }, omega (arith, ints)))) (λ m q n h d. (let low = d.low in let high = d.high in (record { low = omega (arith, ints, h, m, low); high = omega (arith, ints, h, m, high) }, omega (arith, ints)))) (λ m q n h d. (let low = d.low in let high = d.high in (record { low = omega (arith, ints, h, m, low); high = omega (arith, ints, h, m, high) }, omega (arith, ints)))) (λ m q n h d. (let low = d.low in let high = d.high in (record { low = omega (arith, ints, h, m, low); high = omega (arith, ints, h, m, high) }, omega (arith, ints)))) (λ m q n h d. (let low = d.low in let high = d.high in (record { low = omega (arith, ints, h, m, low); high = omega (arith, ints, h, m, high) }, omega (arith, ints)))) al l

padded_by : (precision : ℕ) → Padded (bounds_of precision)
unfolding Padded
padded_by precision = of_bounds Padded (λ al m. padded_eight al (omega (arith, m)) m) (λ al m. padded_twelve al (omega (arith, m)) m) precision

pub dc_padded : (precision al : ℕ) (q : ℤ) (b : Bool) → al + 1 ≤ (bounds_of precision).al → IsDc (bounds_of precision) (scaled (al + 1) q)
    → (r : ℤ) × IsDc (bounds_of precision) (scaled (al + 1) q +ℤ scaled al (cond b (pos 1) (pos 0))) × (scaled (al + 1) q +ℤ scaled al (cond b (pos 1) (pos 0)) ≡ scaled al r)
unfolding Padded
dc_padded precision al q true m d = let k = padded_by precision al m q 1 (omega arith) d in (q +ℤ q +ℤ pos 1, k.0, k.1)
dc_padded precision al q false m d = let k = padded_by precision al m q 0 (omega arith) d in (q +ℤ q +ℤ pos 0, k.0, k.1)

-- AC VALUES by sign and magnitude

abbrev pub signed : Bool → ℕ → ℤ
signed false m = pos m
signed true m = neg_ℤ (pos m)

abbrev pub is_below : ℤ → Bool
is_below (pos n) = false
is_below (negsuc n) = true

pub divided_is : (al : ℕ) (v : ℤ) → divided al v ≡ signed (is_below v) (nat_abs v / 2 ^ al)
divided_is al (pos n) = refl
divided_is al (negsuc n) = let e : n + 1 ≡ suc n = omega arith in ap (λ k. neg_ℤ (pos (k / 2 ^ al))) e

pos_scaled : (al : ℕ) → al ≤ 13 → (m : ℕ) → scaled al (pos m) ≡ pos (m * 2 ^ al)
pos_scaled al l =
    fourteen (λ k. (m : ℕ) → scaled k (pos m) ≡ pos (m * 2 ^ k))
    (λ m. omega (arith, ints)) (λ m. omega (arith, ints)) (λ m. omega (arith, ints)) (λ m. omega (arith, ints)) (λ m. omega (arith, ints)) (λ m. omega (arith, ints)) (λ m. omega (arith, ints)) (λ m. omega (arith, ints)) (λ m. omega (arith, ints)) (λ m. omega (arith, ints)) (λ m. omega (arith, ints)) (λ m. omega (arith, ints)) (λ m. omega (arith, ints)) (λ m. omega (arith, ints)) al l

neg_scaled : (al : ℕ) → al ≤ 13 → (m : ℕ) → scaled al (neg_ℤ (pos m)) ≡ neg_ℤ (pos (m * 2 ^ al))
neg_scaled al l =
    fourteen (λ k. (m : ℕ) → scaled k (neg_ℤ (pos m)) ≡ neg_ℤ (pos (m * 2 ^ k)))
    (λ m. omega (arith, ints)) (λ m. omega (arith, ints)) (λ m. omega (arith, ints)) (λ m. omega (arith, ints)) (λ m. omega (arith, ints)) (λ m. omega (arith, ints)) (λ m. omega (arith, ints)) (λ m. omega (arith, ints)) (λ m. omega (arith, ints)) (λ m. omega (arith, ints)) (λ m. omega (arith, ints)) (λ m. omega (arith, ints)) (λ m. omega (arith, ints)) (λ m. omega (arith, ints)) al l

pub scaled_signed : (al : ℕ) (s : Bool) (m : ℕ) → al ≤ 13 → scaled al (signed s m) ≡ signed s (m * 2 ^ al)
scaled_signed al false m l = pos_scaled al l m
scaled_signed al true m l = neg_scaled al l m

pub abs_signed : (s : Bool) (m : ℕ) → nat_abs (signed s m) ≡ m
abs_signed false m = refl
abs_signed true zero = refl
abs_signed true (suc m) = refl

pub shifts_less : (al : ℕ) → al ≤ 13 → (a : ℕ) → (a / 2 ^ al ≤ a) × (a / 2 ^ al * 2 ^ al ≤ a)
shifts_less al l =
    fourteen (λ k. (a : ℕ) → (a / 2 ^ k ≤ a) × (a / 2 ^ k * 2 ^ k ≤ a))
    (λ a. (omega arith, omega arith)) (λ a. (omega arith, omega arith)) (λ a. (omega arith, omega arith)) (λ a. (omega arith, omega arith)) (λ a. (omega arith, omega arith)) (λ a. (omega arith, omega arith)) (λ a. (omega arith, omega arith)) (λ a. (omega arith, omega arith)) (λ a. (omega arith, omega arith)) (λ a. (omega arith, omega arith)) (λ a. (omega arith, omega arith)) (λ a. (omega arith, omega arith)) (λ a. (omega arith, omega arith)) (λ a. (omega arith, omega arith)) al l

pub shifts_bit : (al : ℕ) → al ≤ 13 → (a : ℕ) → a / 2 ^ al * 2 ^ al ≡ a / 2 ^ (al + 1) * 2 ^ (al + 1) + a / 2 ^ al % 2 * 2 ^ al
shifts_bit al l =
    fourteen (λ k. (a : ℕ) → a / 2 ^ k * 2 ^ k ≡ a / 2 ^ (k + 1) * 2 ^ (k + 1) + a / 2 ^ k % 2 * 2 ^ k)
    (λ a. omega arith) (λ a. omega arith) (λ a. omega arith) (λ a. omega arith) (λ a. omega arith) (λ a. omega arith) (λ a. omega arith) (λ a. omega arith) (λ a. omega arith) (λ a. omega arith) (λ a. omega arith) (λ a. omega arith) (λ a. omega arith) (λ a. omega arith) al l

pub shifts_next : (al : ℕ) → al ≤ 13 → (a : ℕ) → a / 2 ^ (al + 1) ≡ a / 2 ^ al / 2
shifts_next al l =
    fourteen (λ k. (a : ℕ) → a / 2 ^ (k + 1) ≡ a / 2 ^ k / 2)
    (λ a. omega arith) (λ a. omega arith) (λ a. omega arith) (λ a. omega arith) (λ a. omega arith) (λ a. omega arith) (λ a. omega arith) (λ a. omega arith) (λ a. omega arith) (λ a. omega arith) (λ a. omega arith) (λ a. omega arith) (λ a. omega arith) (λ a. omega arith) al l

pub power_some : (al : ℕ) → al ≤ 13 → 1 ≤ 2 ^ al
power_some al l =
    fourteen (λ k. 1 ≤ 2 ^ k)
    (omega arith) (omega arith) (omega arith) (omega arith) (omega arith) (omega arith) (omega arith) (omega arith) (omega arith) (omega arith) (omega arith) (omega arith) (omega arith) (omega arith) al l

-- BIT 0 AND UP

pub shifted_none : (v : ℤ) → shifted 0 v ≡ v
shifted_none (pos n) = let e : n / 1 ≡ n = omega arith in ap pos e
shifted_none (negsuc n) = let e : n / 1 ≡ n = omega arith in ap negsuc e

pub divided_none : (v : ℤ) → divided 0 v ≡ v
divided_none (pos n) = let e : n / 1 ≡ n = omega arith in ap pos e
divided_none (negsuc n) = let e : (n + 1) / 1 ≡ suc n = omega arith in ap (λ k. neg_ℤ (pos k)) e
