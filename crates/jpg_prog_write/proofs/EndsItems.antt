-- The number of bands that end, by its digits.
use Rattle.std.proofs.Common.{◌≡◌, ℕ, zero, suc, ◌-◌, ◌*◌, ◌%◌, ◌^◌, ◌<◌, ◌≤◌, List, Bool, ◌++◌, refl, sym, ap, ◌∙◌, subst, arith}
use Rattle.std.proofs.Math.Nat.{mod-lt}
use Rattle.std.proofs.lemmas.Nat.{pow_pos}
use Rattle.jpg_base.proofs.BitsAt.{bits_of-mod}
use Rattle.jpg_spec.specs.Bits.{bits_of}
use Rattle.jpg_spec.specs.Numbers.{digits}
use Rattle.jpg_spec.specs.Elements.{ends}
use Rattle.jpg_spec.proofs.Basics.Facts.{some_digits}
use Rattle.jpg_spec.proofs.Basics.Small.{few_digits}
use Rattle.jpg_prog_write.specs.Items.{IsItem}

pub some_bands : (bands : ℕ) → 1 ≤ bands → 1 ≤ digits bands
some_bands bands some = some_digits bands some

pub few_bands : (bands : ℕ) → bands ≤ 32767 → digits bands ≤ 15
few_bands bands few = few_digits 15 bands (omega (arith, few))

power : (s : ℕ) → s ≤ 14 → 1 * 2 ^ s % 4294967296 ≡ 2 ^ s
power zero h = refl
power (suc zero) h = refl
power (suc (suc zero)) h = refl
power (suc (suc (suc zero))) h = refl
power (suc (suc (suc (suc zero)))) h = refl
power (suc (suc (suc (suc (suc zero))))) h = refl
power (suc (suc (suc (suc (suc (suc zero)))))) h = refl
power (suc (suc (suc (suc (suc (suc (suc zero))))))) h = refl
power (suc (suc (suc (suc (suc (suc (suc (suc zero)))))))) h = refl
power (suc (suc (suc (suc (suc (suc (suc (suc (suc zero))))))))) h = refl
power (suc (suc (suc (suc (suc (suc (suc (suc (suc (suc zero)))))))))) h = refl
power (suc (suc (suc (suc (suc (suc (suc (suc (suc (suc (suc zero))))))))))) h = refl
power (suc (suc (suc (suc (suc (suc (suc (suc (suc (suc (suc (suc zero)))))))))))) h = refl
power (suc (suc (suc (suc (suc (suc (suc (suc (suc (suc (suc (suc (suc zero))))))))))))) h = refl
power (suc (suc (suc (suc (suc (suc (suc (suc (suc (suc (suc (suc (suc (suc zero)))))))))))))) h = refl
power (suc (suc (suc (suc (suc (suc (suc (suc (suc (suc (suc (suc (suc (suc (suc s))))))))))))))) h = absurd (omega (arith, h))

pub ends_are : (bands size extra : ℕ) → 1 ≤ bands → bands ≤ 32767 → size ≡ digits bands → extra ≡ bands → (bits : List Bool)
    → IsItem (ends bands bits) (record { symbol = 16 * (size - 1); extra = extra % (1 * 2 ^ (size - 1) % 4294967296); size = size - 1 }) bits
ends_are bands size extra some few is same bits =
    let s = digits bands - 1 in
    let short : digits bands ≤ 15 = few_bands bands few in
    let count : size - 1 ≡ s = ap (λ n. n - 1) is in
    let low : extra % (1 * 2 ^ (size - 1) % 4294967296) ≡ bands % 2 ^ s =
    ap (λ n. extra % (1 * 2 ^ n % 4294967296)) count ∙ ap (λ m. extra % m) (power s (omega (arith, short))) ∙ ap (λ n. n % 2 ^ s) same in
    record {
      band = refl;
      symbol = ap (λ n. 16 * n) count;
      bits = ap (λ n. bits_of n (extra % (1 * 2 ^ (size - 1) % 4294967296)) ++ bits) count ∙ ap (λ n. bits_of s n ++ bits) low ∙ ap (λ x. x ++ bits) (bits_of-mod s bands);
      small = omega (arith, count, short);
      short = omega (arith, count, short);
      fits = subst (λ m. extra % (1 * 2 ^ (size - 1) % 4294967296) < 2 ^ m) (sym count) (subst (λ n. n < 2 ^ s) (sym low) (mod-lt bands (pow_pos s)));
    }
