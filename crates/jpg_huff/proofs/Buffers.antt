-- The length of a data byte in a file: at most two bytes, with a stuffed 0.
use Rattle.std.proofs.Common.{◌≡◌, ◌≢◌, ℕ, ◌≤◌, List, [], ◌∷◌, length, sym, subst, arith, ⊎_elim}
use Rattle.std.proofs.lemmas.Bool.{cases_eq}
use Rattle.std.proofs.lemmas.Bool.Decides.{nat_tests}
use Rattle.jpg_spec.specs.Bits.{stuffed_byte}

pub stuffed_other : (byte : ℕ) → byte ≢ 255 → stuffed_byte byte ≡ byte ∷ []
stuffed_other byte n = grind (arith, nat_tests)

pub length-stuffed_byte : (byte : ℕ) → length (stuffed_byte byte) ≤ 2
length-stuffed_byte byte =
    let P : List ℕ → Type 0 = λ l. length l ≤ 2 in
    ⊎_elim
    (λ (e : byte ≡ 255). let Q : ℕ → Type 0 = λ b. length (stuffed_byte b) ≤ 2 in subst Q (sym e) (omega arith))
    (λ (n : byte ≢ 255). subst P (sym (stuffed_other byte n)) (omega arith))
    (cases_eq byte 255)
