-- The data bytes that are written for bits have these bits.
use Rattle.std.proofs.Common.{◌≡◌, ◌≢◌, ℕ, suc, ◌+◌, ◌-◌, ◌*◌, ◌%◌, Bool, true, false, cond, List, [], ◌∷◌, ◌++◌, length, refl, sym, ap, ◌∙◌, arith, add-zero, ⊎_elim, inl, inr, ◌==◌}
use Rattle.std.specs.Prelude.{replicate}
use Rattle.std.proofs.lemmas.Bool.{cases_eq}
use Rattle.std.proofs.lemmas.Bool.Decides.{nat_tests}
use Rattle.std.proofs.lemmas.List.{append_assoc, append-nil, length-append, length-replicate}
use Rattle.jpg_spec.specs.Bits.{bits_of, number_from, whole_bytes, bits_of_bytes, padded, Packs, stuffed_byte, stuffed, SpellsByte, SpellsData}
use Rattle.jpg_spec.proofs.Basics.Strings.{bit_value, bits_of-more}

-- STUFFED BYTES spell the bytes

byte_spelled : (byte : ℕ) → SpellsByte byte (stuffed_byte byte)
byte_spelled byte =
    ⊎_elim
    (λ (e : byte ≡ 255). (let t : (byte == 255) ≡ true = grind (arith, nat_tests) in
    inr (e, (0, ap (λ b. cond b (255 ∷ 0 ∷ []) (byte ∷ [])) t))))
    (λ (e : byte ≢ 255). (let t : (byte == 255) ≡ false = grind (arith, nat_tests) in
    inl (e, ap (λ b. cond b (255 ∷ 0 ∷ []) (byte ∷ [])) t)))
    (cases_eq byte 255)

pub data_spelled : (coded : List ℕ) → SpellsData coded (stuffed coded)
data_spelled [] = refl
data_spelled (byte ∷ later) = (stuffed_byte byte, stuffed later, refl, byte_spelled byte, data_spelled later)

-- BITS IN BYTES

bit_is : (b : Bool) → cond b 1 0 ≡ bit_value b
bit_is true = refl
bit_is false = refl

-- the bits of a number that bits are
bits_from : (l n : ℕ) (bits : List Bool) → bits_of (l + length bits) (number_from n bits) ≡ bits_of l n ++ bits
bits_from l n [] = ap (λ k. bits_of k n) (add-zero l) ∙ sym (append-nil (bits_of l n))
bits_from l n (b ∷ bits) =
    let e : l + suc (length bits) ≡ l + 1 + length bits = omega arith in
    let q : number_from (2 * n + cond b 1 0) bits ≡ number_from (2 * n + bit_value b) bits = ap (λ k. number_from (2 * n + k) bits) (bit_is b) in
    ap (λ k. bits_of k (number_from n (b ∷ bits))) e ∙ ap (λ k. bits_of (l + 1 + length bits) k) q ∙ bits_from (l + 1) (2 * n + bit_value b) bits
    ∙ ap (λ t. t ++ bits) (bits_of-more l n b) ∙ append_assoc (bits_of l n) (b ∷ []) bits

byte_bits : (a b d e f g h i : Bool) → bits_of 8 (number_from 0 (a ∷ b ∷ d ∷ e ∷ f ∷ g ∷ h ∷ i ∷ [])) ≡ a ∷ b ∷ d ∷ e ∷ f ∷ g ∷ h ∷ i ∷ []
unfolding bits_of
byte_bits a b d e f g h i = bits_from 0 0 (a ∷ b ∷ d ∷ e ∷ f ∷ g ∷ h ∷ i ∷ [])

whole_bits : (bits : List Bool) → length bits % 8 ≡ 0 → bits_of_bytes (whole_bytes bits) ≡ bits
unfolding whole_bytes
whole_bits [] z = refl
whole_bits (a ∷ b ∷ d ∷ e ∷ f ∷ g ∷ h ∷ i ∷ bits) z =
    ap (λ t. t ++ bits_of_bytes (whole_bytes bits)) (byte_bits a b d e f g h i) ∙ ap (λ t. a ∷ b ∷ d ∷ e ∷ f ∷ g ∷ h ∷ i ∷ t) (whole_bits bits (omega arith))
whole_bits bits z = let f : ⊥ = omega arith in absurd f

pub packs : (bits : List Bool) → Packs bits (whole_bytes (padded bits))
packs bits =
    let n = (8 - length bits % 8) % 8 in
    let r : length (replicate n true) ≡ n = length-replicate n true in
    let l : length (padded bits) ≡ length bits + n = length-append bits (replicate n true) ∙ ap (λ k. length bits + k) r in
    (replicate n true, omega (arith, r), whole_bits (padded bits) (omega (arith, l)))
