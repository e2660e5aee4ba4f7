-- Bits of numbers, split into bytes.
use Rattle.std.proofs.Common.{◌≡◌, ℕ, zero, suc, ◌+◌, ◌*◌, ◌/◌, ◌%◌, ◌^◌, ◌<◌, Bool, cond, List, [], ◌∷◌, ◌++◌, length, refl, ap, ◌∙◌, arith, add-one, ◌==◌}
use Rattle.std.proofs.lemmas.Nat.{mod-pow-add}
use Rattle.jpg_spec.specs.Bits.{bits_of, number_from, whole_bytes}
use Rattle.jpg_spec.proofs.Basics.Common.{last_bit}

number_from-push : (a : ℕ) (bits : List Bool) (b : Bool) → number_from a (bits ++ b ∷ []) ≡ 2 * number_from a bits + cond b 1 0
number_from-push a [] b = refl
number_from-push a (x ∷ bits) b = number_from-push (2 * a + cond x 1 0) bits b

number_from-bits_of : (l n : ℕ) → number_from 0 (bits_of l n) ≡ n % 2 ^ l
unfolding bits_of
number_from-bits_of zero n = omega arith
number_from-bits_of (suc l) n =
    let m : n % 2 ^ (l + 1) ≡ n / 2 % 2 ^ l * 2 + n % 2 = mod-pow-add n l 1 in
    let e : n % 2 ^ (l + 1) ≡ n % 2 ^ suc l = ap (λ k. n % 2 ^ k) (add-one l) in
    number_from-push 0 (bits_of l (n / 2)) (n % 2 == 1) ∙ omega (arith, number_from-bits_of l (n / 2), last_bit n)

-- eight bits are a byte
pub whole_bytes-front : (n : ℕ) (rest : List Bool) → whole_bytes (bits_of 8 n ++ rest) ≡ n % 256 ∷ whole_bytes rest
unfolding bits_of whole_bytes
whole_bytes-front n rest = ap (λ b. b ∷ whole_bytes rest) (number_from-bits_of 8 n)

pub whole_bytes-few : (bits : List Bool) → length bits < 8 → whole_bytes bits ≡ []
unfolding whole_bytes
whole_bytes-few [] h = refl
whole_bytes-few (a ∷ []) h = refl
whole_bytes-few (a ∷ b ∷ []) h = refl
whole_bytes-few (a ∷ b ∷ c ∷ []) h = refl
whole_bytes-few (a ∷ b ∷ c ∷ d ∷ []) h = refl
whole_bytes-few (a ∷ b ∷ c ∷ d ∷ e ∷ []) h = refl
whole_bytes-few (a ∷ b ∷ c ∷ d ∷ e ∷ f ∷ []) h = refl
whole_bytes-few (a ∷ b ∷ c ∷ d ∷ e ∷ f ∷ g ∷ []) h = refl
whole_bytes-few (a ∷ b ∷ c ∷ d ∷ e ∷ f ∷ g ∷ i ∷ bits) h = absurd (omega arith)
