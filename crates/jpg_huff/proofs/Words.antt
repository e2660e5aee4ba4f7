-- Words of eight bytes, of which none is FF.
use Rattle.std.proofs.Common.{◌≡◌, ℕ, ◌+◌, ◌-◌, ◌*◌, ◌/◌, ◌%◌, ◌^◌, ◌==◌, Bool, false, cond, not, List, [], ◌∷◌, ◌++◌, length, map, refl, sym, ap, ◌∙◌, subst, arith, ⊎_elim, ◌≢◌}
use Rattle.std.proofs.lemmas.Bool.{cases_eq}
use Rattle.std.proofs.lemmas.Bool.Decides.{nat_tests}
use Rattle.std.proofs.lemmas.List.{append-nil}
use Rattle.std.proofs.lemmas.Simd.{bitmask_splat}
use Rattle.std.specs.Prelude.{replicate}
use Rattle.std.specs.Int.{to_be_bytes}
use Rattle.std.specs.Simd.Lanes.{mask_l, zip2, top}
use mir.Syntax.{w8, w64}
use mir.Val.{hbits, bits}
use Rattle.jpg_spec.specs.Bits.{bits_of, whole_bytes, stuffed, stuffed_byte}
use Rattle.jpg_base.proofs.BitsAt.{bits_of-add}
use Rattle.jpg_huff.proofs.Packed.{whole_bytes-front}
use Rattle.jpg_huff.proofs.Buffers.{stuffed_other}

is_ff : ℕ → Bool
is_ff x = x == 255

plain_byte : (x m : ℕ) → cond (x == 255) 1 0 + 2 * m ≡ 0 → stuffed_byte x ≡ x ∷ []
plain_byte x m h =
    let Q : ℕ → Type 0 = λ b. cond (b == 255) 1 0 + 2 * m ≡ 0 in
    ⊎_elim (λ (e : x ≡ 255). (let one : 1 + 2 * m ≡ 0 = subst Q e h in absurd (omega arith))) (λ (n : x ≢ 255). stuffed_other x n) (cases_eq x 255)

no_marks : (xs : List ℕ) → mask_l (map (λ x. x == 255) xs) ≡ 0 → stuffed xs ≡ xs
no_marks [] h = refl
no_marks (x ∷ xs) h =
    let m = mask_l (map (λ x. x == 255) xs) in
    let rest : m ≡ 0 = omega (arith, h) in
    ap (λ l. l ++ stuffed xs) (plain_byte x m h) ∙ ap (λ l. x ∷ l) (no_marks xs rest)

none_is : (m : ℕ) → not (m == 0) ≡ false → m ≡ 0
none_is m h = grind (arith, nat_tests)

-- where no lane is FF, nothing is stuffed
pub no_ff : (xs : List ℕ) → length xs ≡ 8 → not (mask_l (map (top (hbits w8)) (zip2 (λ a b. cond (a == b) (2 ^ bits w8 - 1) 0) xs (replicate 8 255))) % 2 ^ 64 == 0) ≡ false → stuffed xs ≡ xs
no_ff xs long h = no_marks xs (sym (bitmask_splat w8 (λ a b. a == b) xs 8 255 long (omega arith)) ∙ none_is _ h)

one_more : (k n : ℕ) (bytes : List ℕ) → whole_bytes (bits_of k n) ≡ bytes → whole_bytes (bits_of (8 + k) n) ≡ n / 2 ^ k % 256 ∷ bytes
one_more k n bytes e = ap whole_bytes (bits_of-add 8 k n) ∙ whole_bytes-front (n / 2 ^ k) (bits_of k n) ∙ ap (λ l. n / 2 ^ k % 256 ∷ l) e

last_byte : (n : ℕ) → whole_bytes (bits_of 8 n) ≡ n % 256 ∷ []
unfolding whole_bytes
last_byte n = ap whole_bytes (sym (append-nil (bits_of 8 n))) ∙ whole_bytes-front n []

-- the bytes of 64 bits
pub word_bytes : (n : ℕ) → whole_bytes (bits_of 64 n) ≡ to_be_bytes w64 n
word_bytes n = one_more 56 n _ (one_more 48 n _ (one_more 40 n _ (one_more 32 n _ (one_more 24 n _ (one_more 16 n _ (one_more 8 n _ (last_byte n)))))))
