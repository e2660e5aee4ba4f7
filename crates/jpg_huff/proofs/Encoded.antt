-- Small values after short runs, kept with their codes.
use Rattle.std.proofs.Common.{◌≡◌, ℕ, suc, ◌+◌, ◌*◌, ◌/◌, ◌%◌, ◌^◌, ◌<◌, ◌≤◌, ◌-◌, List, ◌++◌, refl, sym, ap, ◌∙◌, subst, arith, ℤ, pos, negsuc, ◌≤ℤ◌, ◌<ℤ◌, lit<, get_or, set, length, ⊎_elim}
use Rattle.std.specs.Prelude.{slice_index, ◌+ℤ◌, ◌-ℤ◌}
use Rattle.std.proofs.lemmas.Bool.{cases_lt}
use Rattle.std.proofs.lemmas.Grind.{elements}
use Rattle.std.proofs.lemmas.Int.{ints}
use Rattle.std.proofs.Math.Nat.{pow-le-pow_right}
use Rattle.jpg_spec.specs.Bits.{bits_of}
use Rattle.jpg_spec.specs.Codes.{Code}
use Rattle.jpg_spec.specs.Numbers.{category, digits, extra_bits}
use Rattle.jpg_spec.specs.Codes.{code_of}
use Rattle.std.proofs.lemmas.Nat.{pow_pos}
use Rattle.jpg_spec.proofs.Basics.Facts.{below_digits}
use Rattle.jpg_spec.proofs.Basics.Small.{few_digits}
use Rattle.jpg_huff.proofs.Putting.{all_bits, number_fits}
use Rattle.jpg_huff.specs.Encoder.{AreBases, IsBase, IsValueEntry, AreValueEntries}

small_category : (v : ℤ) → negsuc 31 ≤ℤ v → v ≤ℤ pos 31 → category v ≤ 6
small_category (pos n) low high = few_digits 6 n (omega (arith, ints))
small_category (negsuc n) low high = few_digits 6 (suc n) (omega (arith, ints))

-- that of a value which was stored
pub small_size : (v w : ℤ) (size : ℕ) → w ≡ v → size ≡ category w → negsuc 31 ≤ℤ v → v ≤ℤ pos 31 → (size ≡ category v) × (size ≤ 6)
small_size v w size same is low high = (is ∙ ap category same, omega (arith, is ∙ ap category same, small_category v low high))

-- an entry of these bits
pub entry_is : (codes : List Code) (run : ℕ) (v : ℤ) (l s n : ℕ) → l ≤ 16 → s ≤ 6 → n < 2 ^ (l + s) → s ≡ category v → bits_of (l + s) n ≡ code_of codes (16 * run + s) ++ extra_bits v → IsValueEntry codes run v n (l + s)
entry_is codes run v l s n h k lt c bits = record { bits = bits ∙ ap (λ n. code_of codes (16 * run + n) ++ extra_bits v) c; short = omega (arith, h, k); fits = lt }

pub entry_at : (codes : List Code) (entries counts : List ℕ) (run n : ℕ) (v : ℤ) → AreValueEntries codes entries counts → run < 16 → n < 64 → pos n ≡ v +ℤ pos 32
    → IsValueEntry codes run v (slice_index entries (64 * run + n)) (slice_index counts (64 * run + n))
entry_at codes entries counts run n v all h k e =
    let i = 64 * run + n in
    let d : i / 64 ≡ run = omega (arith, h, k) in
    let m : i % 64 ≡ n = omega (arith, h, k) in
    let b : pos n -ℤ pos 32 ≡ v = omega (arith, ints, e) in
    let entry = slice_index entries i in
    let count = slice_index counts i in
    subst (λ w. IsValueEntry codes run w entry count) (ap (λ m. pos m -ℤ pos 32) m ∙ b) (subst (λ r. IsValueEntry codes r (pos (i % 64) -ℤ pos 32) entry count) d (all i (omega (arith, h, k))))

-- two more entries
pub both_more : (P : ℕ → ℕ → ℕ → Type 0) (xs ys : List ℕ) (i v w : ℕ) → i < length xs → i < length ys → ((n : ℕ) → n < i → P n (get_or xs n 0) (get_or ys n 0)) → P i v w
    → (n : ℕ) → n < i + 1 → P n (get_or (set xs i v) n 0) (get_or (set ys i w) n 0)
both_more P xs ys i v w lx ly so_far here n h =
    ⊎_elim
    (λ (a : n < i). (let e : get_or (set xs i v) n 0 ≡ get_or xs n 0 = grind (arith, elements) in
    let f : get_or (set ys i w) n 0 ≡ get_or ys n 0 = grind (arith, elements) in
    subst (λ x. P n x (get_or (set ys i w) n 0)) (sym e) (subst (P n (get_or xs n 0)) (sym f) (so_far n a))))
    (λ (b : i ≤ n). (let e : i ≡ n = omega arith in
    let x : get_or (set xs i v) i 0 ≡ v = grind (arith, elements) in
    let y : get_or (set ys i w) i 0 ≡ w = grind (arith, elements) in
    subst (λ m. P m (get_or (set xs i v) m 0) (get_or (set ys i w) m 0)) e (subst (λ a. P i a (get_or (set ys i w) i 0)) (sym x) (subst (P i v) (sym y) here))))
    (cases_lt n i)

-- VALUES by the base of their symbol
below_31 : (c a k b : ℕ) → a < 2 ^ c → b < 2 ^ k → c ≤ 16 → k ≤ 15 → a * 2 ^ k + b < 2 ^ 31
below_31 c a k b h l hc hk =
    let f = number_fits a c k b (a * 2 ^ k + b) h l refl in
    let p : 2 ^ (c + k) ≤ 2 ^ 31 = pow-le-pow_right {n = 2} (lit< tt) {i = c + k} {j = 31} (omega (arith, hc, hk)) in
    omega (arith, f, p)

pub record Moves (codes : List Code) (run : ℕ) (v : ℤ) (base length : ℕ) : Type 0 where
  pub small : base < 2 ^ 31
  pub room : pos 0 ≤ℤ (pos base +ℤ v)
  pub long : length ≤ 32
  pub gives : (n : ℕ) → pos n ≡ pos base +ℤ v → (bits_of length n ≡ code_of codes (16 * run + category v) ++ extra_bits v) × (n < 2 ^ length)

-- a base, with the category of a number in place of the symbol
module _ (codes : List Code) (run size : ℕ) (h : run < 16) (k : size ≤ 15) where
  size_of : (16 * run + size) % 16 ≡ size
  size_of = omega (arith, h, k)

  plain : (base length : ℕ) (b : IsBase codes (16 * run + size) 0 base length) → base ≡ b.code * 2 ^ size
  plain base length b =
      let e : base ≡ b.code * 2 ^ size + 0 * (2 ^ size - 1) = b.number ∙ ap (λ s. b.code * 2 ^ s + 0 * (2 ^ s - 1)) size_of in
      omega (arith, e)

  ones : (base length : ℕ) (b : IsBase codes (16 * run + size) 1 base length) → base ≡ b.code * 2 ^ size + (2 ^ size - 1)
  ones base length b =
      let e : base ≡ b.code * 2 ^ size + 1 * (2 ^ size - 1) = b.number ∙ ap (λ s. b.code * 2 ^ s + 1 * (2 ^ s - 1)) size_of in
      omega (arith, e)

  long : (sign base length : ℕ) (b : IsBase codes (16 * run + size) sign base length) → length ≡ b.count + size
  long sign base length b = b.all ∙ ap (λ s. b.count + s) size_of

  spelled : (sign base length n x : ℕ) (b : IsBase codes (16 * run + size) sign base length) → x < 2 ^ size → n ≡ b.code * 2 ^ size + x
      → (bits_of length n ≡ code_of codes (16 * run + size) ++ bits_of size x) × (n < 2 ^ length)
  spelled sign base length n x b l e =
      let q = long sign base length b in (
        ap (λ m. bits_of m n) q ∙ all_bits b.code b.count size x n l e ∙ ap (λ c. c ++ bits_of size x) b.first,
        subst (λ m. n < 2 ^ m) (sym q) (number_fits b.code b.count size x n b.fits l e),
      )

moves_positive : (codes : List Code) (run m base length : ℕ) → run < 16 → category (pos m) ≤ 15 → IsBase codes (16 * run + category (pos m)) 0 base length → Moves codes run (pos m) base length
moves_positive codes run m base length h k b =
    let size = digits m in
    let l : m < 2 ^ size = below_digits m in
    let e = plain codes run size h k base length b in
    let q = long codes run size h k 0 base length b in
    let p = pow_pos size in
    let z : b.code * 2 ^ size + 0 < 2 ^ 31 = below_31 b.count b.code size 0 b.fits p b.short k in
    record {
      small = omega (arith, e, z);
      room = omega (arith, ints);
      long = omega (arith, q, b.short, k);
      gives = λ n f. spelled codes run size h k 0 base length n m b l (let g : n ≡ base + m = omega (arith, ints, f) in omega (arith, g, e));
    }

moves_negative : (codes : List Code) (run m base length : ℕ) → run < 16 → category (negsuc m) ≤ 15 → IsBase codes (16 * run + category (negsuc m)) 1 base length → Moves codes run (negsuc m) base length
moves_negative codes run m base length h k b =
    let size = digits (suc m) in
    let l : suc m < 2 ^ size = below_digits (suc m) in
    let e = ones codes run size h k base length b in
    let q = long codes run size h k 1 base length b in
    let z : b.code * 2 ^ size + (2 ^ size - 1) < 2 ^ 31 = below_31 b.count b.code size (2 ^ size - 1) b.fits (omega (arith, l)) b.short k in
    let s : m + 1 ≡ suc m = omega arith in
    let same : extra_bits (negsuc m) ≡ bits_of size (2 ^ size - 1 - suc m) = ap (λ i. bits_of (digits i) (2 ^ digits i - 1 - i)) s in
    record {
      small = omega (arith, e, z);
      room = omega (arith, ints, e, l);
      long = omega (arith, q, b.short, k);
      gives = λ n f. (let g : n + suc m ≡ base = omega (arith, ints, f) in
          let t = spelled codes run size h k 1 base length n (2 ^ size - 1 - suc m) b (omega (arith, l)) (omega (arith, g, e, l)) in
          (t.0 ∙ ap (λ x. code_of codes (16 * run + size) ++ x) (sym same), t.1));
    }

any_moves : (codes : List Code) (bases lengths : List ℕ) (run place : ℕ) (v : ℤ) → AreBases codes bases lengths → run < 16 → category v ≤ 15 → place < 512 → (v <ℤ pos 0 → place ≡ 256 + (16 * run + category v))
    → (pos 0 ≤ℤ v → place ≡ 16 * run + category v) → Moves codes run v (slice_index bases place) (slice_index lengths place)
any_moves codes bases lengths run place (pos m) all h k few low high =
    let p = high (omega (arith, ints)) in
    let symbol = 16 * run + category (pos m) in
    let base = slice_index bases place in
    let length = slice_index lengths place in
    let d : place / 256 ≡ 0 = omega (arith, p, h, k) in
    let r : place % 256 ≡ symbol = omega (arith, p, h, k) in
    moves_positive codes run m base length h k (subst (λ s. IsBase codes s 0 base length) r (subst (λ q. IsBase codes (place % 256) q base length) d (all place few)))
any_moves codes bases lengths run place (negsuc m) all h k few low high =
    let p = low (omega (arith, ints)) in
    let symbol = 16 * run + category (negsuc m) in
    let base = slice_index bases place in
    let length = slice_index lengths place in
    let d : place / 256 ≡ 1 = omega (arith, p, h, k) in
    let r : place % 256 ≡ symbol = omega (arith, p, h, k) in
    moves_negative codes run m base length h k (subst (λ s. IsBase codes s 1 base length) r (subst (λ q. IsBase codes (place % 256) q base length) d (all place few)))

-- those of a value which was stored, of whose copies one has the size and one the sign
pub moves_stored : (codes : List Code) (bases lengths : List ℕ) (run place size : ℕ) (v w x : ℤ) → AreBases codes bases lengths → run < 16 → category v ≤ 15 → size ≡ category w → w ≡ v → x ≡ v → place < 512
    → (x <ℤ pos 0 → place ≡ 256 + (16 * run + size)) → (pos 0 ≤ℤ x → place ≡ 16 * run + size) → Moves codes run v (slice_index bases place) (slice_index lengths place)
moves_stored codes bases lengths run place size v w x all h k is e f few low high =
    let s : size ≡ category v = is ∙ ap category e in
    any_moves codes bases lengths run place v all h k few (λ l. low (subst (λ y. y <ℤ pos 0) (sym f) l) ∙ ap (λ s. 256 + (16 * run + s)) s) (λ l. high (subst (λ y. pos 0 ≤ℤ y) (sym f) l) ∙ ap (λ s. 16 * run + s) s)
