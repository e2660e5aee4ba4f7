-- Bits of numbers as strings.
use Rattle.std.proofs.Common.{◌≡◌, ℕ, zero, suc, ◌+◌, ◌*◌, ◌/◌, ◌%◌, ◌^◌, ◌<◌, Bool, true, false, List, [], ◌∷◌, ◌++◌, length, refl, sym, ap, ◌∙◌, arith, add-one, add-zero, add-suc, ◌==◌}
use Rattle.std.proofs.lemmas.List.{append_assoc, length_push, append-nil}
use Rattle.std.proofs.Math.Nat.{div-div-eq-div-mul, pow-succ'}
use Rattle.jpg_spec.specs.Bits.{bits_of}

-- a bit as a number
abbrev pub bit_value : Bool → ℕ
bit_value true = 1
bit_value false = 0

pub length-bits_of : (l n : ℕ) → length (bits_of l n) ≡ l
unfolding bits_of
length-bits_of zero n = refl
length-bits_of (suc l) n = length_push (bits_of l (n / 2)) _ ∙ ap (λ k. k + 1) (length-bits_of l (n / 2)) ∙ omega arith

-- one more bit
pub bits_of-more : (l n : ℕ) (b : Bool) → bits_of (l + 1) (2 * n + bit_value b) ≡ bits_of l n ++ b ∷ []
unfolding bits_of
bits_of-more l n true =
    let q : (2 * n + 1) / 2 ≡ n = omega arith in
    let r : (2 * n + 1) % 2 ≡ 1 = omega arith in
    ap (λ m. bits_of m (2 * n + 1)) (add-one l) ∙ rw (q, r) refl
bits_of-more l n false =
    let q : (2 * n + 0) / 2 ≡ n = omega arith in
    let r : (2 * n + 0) % 2 ≡ 0 = omega arith in
    ap (λ m. bits_of m (2 * n + 0)) (add-one l) ∙ rw (q, r) refl

-- the prefix of a longer string
pub front_of : (l d k : ℕ) → (more : List Bool) × (length more ≡ d) × (bits_of (l + d) k ≡ bits_of l (k / 2 ^ d) ++ more)
unfolding bits_of
front_of l zero k = ([], refl, let z : k / 1 ≡ k = omega arith in rw (add-zero, z, append-nil) refl)
front_of l (suc d) k =
    let h = front_of l d (k / 2) in
    let p : k / 2 / 2 ^ d ≡ k / 2 ^ suc d = div-div-eq-div-mul k 2 (2 ^ d) ∙ ap (λ x. k / x) (sym (pow-succ' 2 d)) in (
      h.0 ++ (k % 2 == 1) ∷ [],
      length_push h.0 _ ∙ ap (λ x. x + 1) h.1 ∙ add-one d,
      ap (λ m. bits_of m k) (add-suc l d) ∙ ap (λ x. x ++ (k % 2 == 1) ∷ []) (h.2 ∙ ap (λ x. bits_of l x ++ h.0) p) ∙ append_assoc (bits_of l (k / 2 ^ suc d)) h.0 _,
    )

no_push : (xs : List Bool) (a : Bool) → [] ≡ xs ++ a ∷ [] → ⊥
no_push [] a e = cc
no_push (x ∷ xs) a e = cc

push_inj : (xs ys : List Bool) (a b : Bool) → xs ++ a ∷ [] ≡ ys ++ b ∷ [] → (xs ≡ ys) × (a ≡ b)
push_inj [] [] a b e = (refl, cc)
push_inj [] (y ∷ ys) a b e = let t : [] ≡ ys ++ b ∷ [] = cc in absurd (no_push ys b t)
push_inj (x ∷ xs) [] a b e = let t : [] ≡ xs ++ a ∷ [] = cc in absurd (no_push xs a t)
push_inj (x ∷ xs) (y ∷ ys) a b e =
    let t : xs ++ a ∷ [] ≡ ys ++ b ∷ [] = cc in
    let h = push_inj xs ys a b t in
    let e1 = h.0 in
    let e2 = h.1 in
    (cc, e2)

odd_same : (m n : ℕ) → (m % 2 == 1) ≡ (n % 2 == 1) → m % 2 ≡ n % 2
odd_same m n e = grind arith

-- strings of numbers that fit distinguish them
pub bits_of_inj : (l m n : ℕ) → m < 2 ^ l → n < 2 ^ l → bits_of l m ≡ bits_of l n → m ≡ n
unfolding bits_of
bits_of_inj zero m n hm hn e = omega arith
bits_of_inj (suc l) m n hm hn e =
    let h = push_inj (bits_of l (m / 2)) (bits_of l (n / 2)) (m % 2 == 1) (n % 2 == 1) e in
    let p = pow-succ' 2 l in
    let hm' : m / 2 < 2 ^ l = omega arith in
    let hn' : n / 2 < 2 ^ l = omega arith in
    let q = bits_of_inj l (m / 2) (n / 2) hm' hn' h.0 in
    let r = odd_same m n h.1 in
    omega arith

-- a string of one more bit is its prefix and its last bit
pub bits_of-split : (l n : ℕ) → bits_of (l + 1) n ≡ bits_of l (n / 2) ++ (n % 2 == 1) ∷ []
unfolding bits_of
bits_of-split l n = ap (λ m. bits_of m n) (add-one l)
