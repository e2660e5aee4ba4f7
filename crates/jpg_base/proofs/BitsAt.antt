-- Bits of numbers, one after another.
use Rattle.std.proofs.Common.{◌≡◌, ℕ, zero, suc, ◌+◌, ◌-◌, ◌*◌, ◌/◌, ◌%◌, ◌^◌, ◌<◌, ◌≤◌, Bool, List, [], ◌∷◌, ◌++◌, length, take, drop, refl, sym, ap, ◌∙◌, arith, add-zero, add-suc, ◌==◌, min, subst, true, false, get_or}
use mir.Val.{bool_byte}
use Rattle.std.specs.Int.Bits.{bit_or}
use Rattle.std.proofs.lemmas.List.{append_assoc, append-nil, drop_more, take_min, drop_min}
use Rattle.std.proofs.lemmas.Nat.{shr_high, pow-add, or_shifted, mod-mul-add, pow_pos, shl_whole}
use Rattle.std.proofs.Math.Nat.{div-lt_iff_lt-mul, div-div-eq-div-mul, pow-succ', mod-lt, mul-lt-mul_of_pos_right, mul_assoc, add-mul}
use Rattle.std.proofs.Math.Seq.{drop-append_seam}
use Rattle.jpg_spec.specs.Bits.{bits_of}
use Rattle.jpg_base.specs.Store.{low_of, IsHigh}
use Rattle.jpg_spec.proofs.Basics.Strings.{length-bits_of}
use Rattle.jpg_spec.proofs.Basics.Common.{take_front}

-- a prefix and the rest of a string
pub bits_of-add : (d t n : ℕ) → bits_of (d + t) n ≡ bits_of d (n / 2 ^ t) ++ bits_of t n
unfolding bits_of
bits_of-add d zero n = let z : n / 1 ≡ n = omega arith in rw (add-zero, z, append-nil) refl
bits_of-add d (suc t) n =
    let p : n / 2 / 2 ^ t ≡ n / 2 ^ suc t = div-div-eq-div-mul n 2 (2 ^ t) ∙ ap (λ x. n / x) (sym (pow-succ' 2 t)) in
    ap (λ m. bits_of m n) (add-suc d t) ∙ ap (λ x. x ++ (n % 2 == 1) ∷ []) (bits_of-add d t (n / 2) ∙ ap (λ x. bits_of d x ++ bits_of t (n / 2)) p)
    ∙ append_assoc (bits_of d (n / 2 ^ suc t)) (bits_of t (n / 2)) ((n % 2 == 1) ∷ [])

-- only the low bits of a number count
pub bits_of-low : (t a b : ℕ) → bits_of t (a * 2 ^ t + b) ≡ bits_of t b
unfolding bits_of
bits_of-low zero a b = refl
bits_of-low (suc t) a b =
    let p : a * 2 ^ suc t ≡ 2 * (a * 2 ^ t) = ap (λ x. a * x) (pow-succ' 2 t) ∙ omega arith in
    let h : (a * 2 ^ suc t + b) / 2 ≡ a * 2 ^ t + b / 2 = omega arith in
    let r : (a * 2 ^ suc t + b) % 2 ≡ b % 2 = omega arith in
    ap (λ x. bits_of t x ++ ((a * 2 ^ suc t + b) % 2 == 1) ∷ []) h ∙ ap (λ x. bits_of t (a * 2 ^ t + b / 2) ++ (x == 1) ∷ []) r
    ∙ ap (λ x. x ++ (b % 2 == 1) ∷ []) (bits_of-low t a (b / 2))

pub bits_of-mod : (t n : ℕ) → bits_of t (n % 2 ^ t) ≡ bits_of t n
bits_of-mod t n =
    let e : n ≡ n / 2 ^ t * 2 ^ t + n % 2 ^ t = search arith in
    sym (bits_of-low t (n / 2 ^ t) (n % 2 ^ t)) ∙ ap (bits_of t) (sym e)

-- numbers next to one another
pub bits_of-beside : (c t a b : ℕ) → b < 2 ^ t → bits_of (c + t) (a * 2 ^ t + b) ≡ bits_of c a ++ bits_of t b
bits_of-beside c t a b h =
    bits_of-add c t (a * 2 ^ t + b) ∙ ap (λ x. bits_of c x ++ bits_of t (a * 2 ^ t + b)) (shr_high a t b h) ∙ ap (λ x. bits_of c a ++ x) (bits_of-low t a b)

drop_front : (n : ℕ) (xs ys : List Bool) → length xs ≡ n → drop n (xs ++ ys) ≡ ys
drop_front n xs ys l = ap (λ k. drop k (xs ++ ys)) (sym l) ∙ drop-append_seam xs ys

-- the bits after the first ones
pub behind : (count n word : ℕ) → n ≤ count → bits_of (count - n) word ≡ drop n (bits_of count word)
behind count n word h =
    let e : count ≡ n + (count - n) = omega arith in
    sym (ap (λ m. drop n (bits_of m word)) e ∙ ap (drop n) (bits_of-add n (count - n) word)
    ∙ drop_front n (bits_of n (word / 2 ^ (count - n))) (bits_of (count - n) word) (length-bits_of n (word / 2 ^ (count - n))))

-- the low bits of a number that was truncated to more bits
pub bits_of-cut : (t m n : ℕ) → t ≤ m → bits_of t (n % 2 ^ m) ≡ bits_of t n
bits_of-cut t m n h =
    let e : n ≡ n / 2 ^ m * 2 ^ m + n % 2 ^ m = search arith in
    let d : m - t + t ≡ m = omega arith in
    let p : 2 ^ m ≡ 2 ^ (m - t) * 2 ^ t = ap (λ k. 2 ^ k) (sym d) ∙ pow-add 2 (m - t) t in
    let q : n / 2 ^ m * 2 ^ m ≡ n / 2 ^ m * 2 ^ (m - t) * 2 ^ t = ap (λ k. n / 2 ^ m * k) p ∙ sym (mul_assoc (n / 2 ^ m) (2 ^ (m - t)) (2 ^ t)) in
    sym (ap (bits_of t) (e ∙ ap (λ k. k + n % 2 ^ m) q) ∙ bits_of-low t (n / 2 ^ m * 2 ^ (m - t)) (n % 2 ^ m))

-- a word of 64 bits that is shifted
shifted : (word n : ℕ) → n ≤ 64 → word * 2 ^ n % 2 ^ 64 ≡ word % 2 ^ (64 - n) * 2 ^ n
shifted word n h =
    let d : 64 - n + n ≡ 64 = omega arith in
    let p : 2 ^ (64 - n) * 2 ^ n ≡ 2 ^ 64 = sym (pow-add 2 (64 - n) n) ∙ ap (λ k. 2 ^ k) d in
    let e : word ≡ word / 2 ^ (64 - n) * 2 ^ (64 - n) + word % 2 ^ (64 - n) = search arith in
    let r : word % 2 ^ (64 - n) < 2 ^ (64 - n) = mod-lt word (pow_pos (64 - n)) in
    let s : word % 2 ^ (64 - n) * 2 ^ n < 2 ^ 64 = subst (λ k. word % 2 ^ (64 - n) * 2 ^ n < k) p (mul-lt-mul_of_pos_right r (pow_pos n)) in
    let m : word * 2 ^ n ≡ word / 2 ^ (64 - n) * 2 ^ 64 + word % 2 ^ (64 - n) * 2 ^ n =
    ap (λ k. k * 2 ^ n) e ∙ add-mul (word / 2 ^ (64 - n) * 2 ^ (64 - n)) (word % 2 ^ (64 - n)) (2 ^ n) ∙ ap (λ k. k + word % 2 ^ (64 - n) * 2 ^ n) (mul_assoc (word / 2 ^ (64 - n)) (2 ^ (64 - n)) (2 ^ n) ∙ ap (λ k. word / 2 ^ (64 - n) * k) p) in
    ap (λ k. k % 2 ^ 64) m ∙ mod-mul-add (word / 2 ^ (64 - n)) (2 ^ 64) (word % 2 ^ (64 - n) * 2 ^ n) s

-- THE HIGH BITS OF A WORD

cancel : (x k : ℕ) → x * 2 ^ k / 2 ^ k ≡ x
cancel x k = ap (λ m. m / 2 ^ k) (sym (add-zero (x * 2 ^ k))) ∙ shr_high x k 0 (pow_pos k)

pub low_from : (word x count : ℕ) → word ≡ x * 2 ^ (64 - count) → low_of count word ≡ x
low_from word x count e = ap (λ m. m / 2 ^ (64 - count)) e ∙ cancel x (64 - count)

pub high_from : (word x count : ℕ) → word ≡ x * 2 ^ (64 - count) → IsHigh count word
high_from word x count e = e ∙ ap (λ m. m * 2 ^ (64 - count)) (sym (low_from word x count e))

-- bits that are appended
pub appended : (word count n number : ℕ) → count + n ≤ 64 → number < 2 ^ n → IsHigh count word → bit_or word (number * 2 ^ (64 - (count + n)) % 2 ^ 64) ≡ (low_of count word * 2 ^ n + number) * 2 ^ (64 - (count + n))
appended word count n number h fits high =
    let k = 64 - (count + n) in
    let low = low_of count word in
    let e : 64 - count ≡ n + k = omega arith in
    let p : 2 ^ (64 - count) ≡ 2 ^ n * 2 ^ k = ap (λ m. 2 ^ m) e ∙ pow-add 2 n k in
    let whole : number * 2 ^ k % 2 ^ 64 ≡ number * 2 ^ k = shl_whole number n k 64 fits (omega arith) in
    let small : number * 2 ^ k < 2 ^ (64 - count) = subst (λ m. number * 2 ^ k < m) (sym p) (mul-lt-mul_of_pos_right fits (pow_pos k)) in
    let sum : low * 2 ^ (64 - count) + number * 2 ^ k ≡ (low * 2 ^ n + number) * 2 ^ k =
    ap (λ m. low * m + number * 2 ^ k) p ∙ ap (λ m. m + number * 2 ^ k) (sym (mul_assoc low (2 ^ n) (2 ^ k))) ∙ sym (add-mul (low * 2 ^ n) number (2 ^ k)) in
    ap (λ m. bit_or word m) whole ∙ ap (λ w. bit_or w (number * 2 ^ k)) high ∙ or_shifted low (64 - count) (number * 2 ^ k) small ∙ sum

-- the string of such a word
pub appended_bits : (word count n number : ℕ) → count + n ≤ 64 → number < 2 ^ n → IsHigh count word → bits_of (count + n) (low_of (count + n) (bit_or word (number * 2 ^ (64 - (count + n)) % 2 ^ 64))) ≡ bits_of count (low_of count word) ++ bits_of n number
appended_bits word count n number h fits high =
    ap (bits_of (count + n)) (low_from (bit_or word (number * 2 ^ (64 - (count + n)) % 2 ^ 64)) (low_of count word * 2 ^ n + number) (count + n) (appended word count n number h fits high))
    ∙ bits_of-beside count n (low_of count word) number fits

-- a word whose first bits are shifted out
pub skipped : (word count n : ℕ) → n ≤ count → count ≤ 64 → IsHigh count word → word * 2 ^ n % 2 ^ 64 ≡ low_of count word % 2 ^ (count - n) * 2 ^ (64 - (count - n))
skipped word count n h most high =
    let low = low_of count word in
    let m = 64 - count + n in
    let w : word * 2 ^ n ≡ low * 2 ^ m = ap (λ x. x * 2 ^ n) high ∙ mul_assoc low (2 ^ (64 - count)) (2 ^ n) ∙ ap (λ p. low * p) (sym (pow-add 2 (64 - count) n)) in
    let d : 64 - m ≡ count - n = omega arith in
    let f : m ≡ 64 - (count - n) = omega arith in
    ap (λ x. x % 2 ^ 64) w ∙ shifted low m (omega arith) ∙ ap (λ k. low % 2 ^ k * 2 ^ m) d ∙ ap (λ k. low % 2 ^ (count - n) * 2 ^ k) f

pub skipped_bits : (word count n : ℕ) → n ≤ count → count ≤ 64 → IsHigh count word → bits_of (count - n) (low_of (count - n) (word * 2 ^ n % 2 ^ 64)) ≡ drop n (bits_of count (low_of count word))
skipped_bits word count n h most high =
    let low = low_of count word in
    ap (bits_of (count - n)) (low_from (word * 2 ^ n % 2 ^ 64) (low % 2 ^ (count - n)) (count - n) (skipped word count n h most high))
    ∙ bits_of-mod (count - n) low ∙ behind count n low h

-- no bits are left
pub emptied : (n count low : ℕ) → n ≤ count → count ≤ n → bits_of (count - n) (low_of (count - n) 0) ≡ drop n (bits_of count low)
unfolding bits_of
emptied n count low h g =
    let z : count - n ≡ 0 = omega arith in
    let a : bits_of (count - n) (low_of (count - n) 0) ≡ [] = ap (λ k. bits_of k (low_of (count - n) 0)) z in
    let b : bits_of (count - n) low ≡ [] = ap (λ k. bits_of k low) z in
    a ∙ sym b ∙ behind count n low h

-- bits in the middle of a word
pub middle_high : (word count before n : ℕ) → before + n ≤ count → count ≤ 64 → IsHigh count word → bits_of n (word * 2 ^ before % 2 ^ 64 / 2 ^ (64 - n)) ≡ take n (drop before (bits_of count (low_of count word)))
middle_high word count before n h most high =
    let low = low_of count word in
    let r = count - before - n in
    let x = low % 2 ^ (count - before) in
    let s = 64 - (count - before) in
    let q : 64 - n ≡ s + r = omega arith in
    let p : 2 ^ (64 - n) ≡ 2 ^ s * 2 ^ r = ap (λ k. 2 ^ k) q ∙ pow-add 2 s r in
    let dv : word * 2 ^ before % 2 ^ 64 / 2 ^ (64 - n) ≡ x / 2 ^ r =
    ap (λ m. m / 2 ^ (64 - n)) (skipped word count before (omega arith) most high) ∙ ap (λ m. x * 2 ^ s / m) p
    ∙ sym (div-div-eq-div-mul (x * 2 ^ s) (2 ^ s) (2 ^ r)) ∙ ap (λ m. m / 2 ^ r) (cancel x s) in
    let e : n + r ≡ count - before = omega arith in
    ap (bits_of n) dv
    ∙ sym (ap (take n) (bits_of-add n r x) ∙ take_front n (bits_of n (x / 2 ^ r)) (bits_of r x) (length-bits_of n (x / 2 ^ r)))
    ∙ ap (λ m. take n (bits_of m x)) e ∙ ap (take n) (bits_of-mod (count - before) low) ∙ ap (take n) (behind count before low (omega arith))

pub high_fits : (x n : ℕ) → n ≤ 64 → x < 2 ^ 64 → x / 2 ^ (64 - n) < 2 ^ n
high_fits x n h less =
    let e : n + (64 - n) ≡ 64 = omega arith in
    let p : 2 ^ 64 ≡ 2 ^ n * 2 ^ (64 - n) = ap (λ k. 2 ^ k) (sym e) ∙ pow-add 2 n (64 - n) in
    (div-lt_iff_lt-mul (pow_pos (64 - n))).1 (subst (λ m. x < m) p less)

pub four_bytes : (a b c d : ℕ) → b < 2 ^ 8 → c < 2 ^ 8 → d < 2 ^ 8 → bits_of 32 (((a * 256 + b) * 256 + c) * 256 + d) ≡ ((bits_of 8 a ++ bits_of 8 b) ++ bits_of 8 c) ++ bits_of 8 d
four_bytes a b c d hb hc hd =
    bits_of-beside 24 8 ((a * 256 + b) * 256 + c) d hd
    ∙ ap (λ x. x ++ bits_of 8 d) (bits_of-beside 16 8 (a * 256 + b) c hc ∙ ap (λ x. x ++ bits_of 8 c) (bits_of-beside 8 8 a b hb))

-- ONE BIT

pub bit_small : (b : Bool) → bool_byte b ≤ 1
bit_small true = omega arith
bit_small false = omega arith

pub bit_bits : (b : Bool) (n : ℕ) → n ≡ bool_byte b → bits_of 1 n ≡ b ∷ []
unfolding bits_of
bit_bits true n e = ap (bits_of 1) e
bit_bits false n e = ap (bits_of 1) e

first_is : (x y : Bool) (xs ys : List Bool) → x ∷ xs ≡ y ∷ ys → x ≡ y
first_is x y xs ys e = ap (λ (l : List Bool). get_or l 0 false) e

odd_is : (n : ℕ) → n < 2 → (n % 2 == 1) ≡ (n == 1)
odd_is n h = ap (λ m. m == 1) (let e : n % 2 ≡ n = omega arith in e)

pub one_bit : (bits : List Bool) (i n : ℕ) → i < length bits → bits_of 1 n ≡ take 1 (drop i bits) → n < 2 ^ 1 → (n == 1) ≡ get_or bits i false
unfolding bits_of
one_bit bits i n h e lt =
    let d : drop i bits ≡ get_or bits i false ∷ drop (i + 1) bits = drop_more bits i false h in
    let t : (n % 2 == 1) ∷ [] ≡ get_or bits i false ∷ [] = e ∙ ap (take 1) d in
    sym (odd_is n (omega (arith, lt))) ∙ first_is (n % 2 == 1) (get_or bits i false) [] [] t

-- 32 bits of a store, or fewer if it has fewer
pub take_some : (xs : List Bool) (n : ℕ) → n ≡ min (length xs) 32 → take n xs ≡ take 32 xs
take_some xs n e = (let m : n ≡ min 32 (length xs) = omega (arith, e) in ap (λ k. take k xs) m ∙ take_min 32 xs)

pub drop_some : (xs : List Bool) (n : ℕ) → n ≡ min (length xs) 32 → drop n xs ≡ drop 32 xs
drop_some xs n e = (let m : n ≡ min 32 (length xs) = omega (arith, e) in ap (λ k. drop k xs) m ∙ drop_min 32 xs)
