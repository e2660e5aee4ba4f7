-- How often a coefficient can be sent: each scan that names it makes it known to a lower bit, so that the scans of a
-- script are few.
use Rattle.std.proofs.Common.{◌≡◌, ℕ, zero, suc, ◌+◌, ◌-◌, ◌*◌, ◌<◌, ◌≤◌, Bool, true, false, cond, List, [], ◌∷◌, refl, sym, ap, ◌∙◌, arith, ⊎_elim, Option, Some, None, ◌==◌, ◌&&◌}
use Rattle.std.specs.Prelude.{◌||◌, nat_le}
use Rattle.std.proofs.lemmas.Bool.{cases_lt}
use Rattle.std.proofs.lemmas.Bool.Decides.{nat_tests}
use Rattle.jpg_spec.specs.Lists.{is_among}
use Rattle.jpg_spec.specs.Segments.{ScanHead, head_components}
use Rattle.jpg_spec.specs.History.{has_coefficient, known_to, is_next}
use Rattle.jpg_spec.proofs.Places.Known.{was_known, band_next, known_new, known_old}
use Rattle.jpg_spec.proofs.Basics.Common.{same_of}

-- WHAT IS LEFT of a coefficient: the bits that aren't sent. An interleaved scan of DC has up to ten units for a block
-- of each padded grid.

abbrev pub unsent : Option ℕ → ℕ
unsent None = 14
unsent (Some al) = al

-- DC counts ten times
abbrev pub share : ℕ → ℕ → ℕ
share zero n = 10 * n
share (suc k) n = n

-- of the coefficients below k of a component, and of those of the components below i
abbrev pub left_of_block : List ScanHead → ℕ → ℕ → ℕ
left_of_block heads i zero = 0
left_of_block heads i (suc k) = share k (unsent (known_to heads i k)) + left_of_block heads i k

abbrev pub left_of_all : List ScanHead → ℕ → ℕ
left_of_all heads zero = 0
left_of_all heads (suc i) = left_of_block heads i 64 + left_of_all heads i

-- what a scan sends of the coefficients below k
abbrev pub is_in : ScanHead → ℕ → Bool
is_in head k = nat_le head.ss k && nat_le k head.se

abbrev pub sent_of : ScanHead → ℕ → ℕ
sent_of head zero = 0
sent_of head (suc k) = cond (is_in head k) (share k 1) 0 + sent_of head k

-- AT THE START

block_start : (i k : ℕ) → left_of_block [] i k ≤ 14 * k + 126
block_start i zero = omega arith
block_start i (suc zero) = omega arith
block_start i (suc (suc k)) = let h = block_start i (suc k) in omega (arith, h)

pub all_start : (n : ℕ) → left_of_all [] n ≤ 1022 * n
all_start zero = omega arith
all_start (suc n) = let h = all_start n in omega (arith, h, block_start n 64)

-- A SCAN THAT IS NEXT

pub record Descends (heads : List ScanHead) (head : ScanHead) : Type 0 where
  pub al : head.al ≤ 13
  pub bits : (head.ah == 0 || head.ah == head.al + 1) ≡ true
  pub next : (i : ℕ) → is_among i (head_components head) ≡ true → is_next heads head i ≡ true

was_above : (head : ScanHead) → head.al ≤ 13 → (head.ah == 0 || head.ah == head.al + 1) ≡ true → head.al + 1 ≤ unsent (was_known head)
was_above head al bits = by (head.ah == 0) bits
  where
    by : (b : Bool) → (b || head.ah == head.al + 1) ≡ true → head.al + 1 ≤ unsent (cond b None (Some head.ah))
    by true e = omega (arith, al)
    by false e = omega (arith, same_of head.ah (head.al + 1) e)

new_below : (heads : List ScanHead) (head : ScanHead) (i k : ℕ) → Descends heads head → k < 64 → has_coefficient head i k ≡ true → is_among i (head_components head) ≡ true
    → unsent (known_to (head ∷ heads) i k) + 1 ≤ unsent (known_to heads i k)
new_below heads head i k d h e among =
    let was = ap unsent (band_next heads head i k (d.next i among) e h) in
    let now = ap unsent (known_new heads head i k e) in
    omega (arith, was, now, was_above head d.al d.bits)

share_one : (k a b : ℕ) → a + 1 ≤ b → share k a + share k 1 ≤ share k b
share_one zero a b h = omega (arith, h)
share_one (suc k) a b h = h

-- a component that the scan names has this much less
named_less : (heads : List ScanHead) (head : ScanHead) (i k : ℕ) → Descends heads head → k ≤ 64 → is_among i (head_components head) ≡ true → left_of_block (head ∷ heads) i k + sent_of head k ≤ left_of_block heads i k
named_less heads head i zero d h among = omega arith
named_less heads head i (suc k) d h among = by (is_in head k) refl (named_less heads head i k d (omega (arith, h)) among)
  where
    has_is : has_coefficient head i k ≡ is_in head k
    has_is = ap (λ b. b && is_in head k) among

    by : (b : Bool) → is_in head k ≡ b → left_of_block (head ∷ heads) i k + sent_of head k ≤ left_of_block heads i k
        → left_of_block (head ∷ heads) i (suc k) + (cond b (share k 1) 0 + sent_of head k) ≤ left_of_block heads i (suc k)
    by true e later =
        let one = share_one k (unsent (known_to (head ∷ heads) i k)) (unsent (known_to heads i k)) (new_below heads head i k d (omega (arith, h)) (has_is ∙ e) among) in
        omega (arith, later, one)
    by false e later =
        let same = ap (λ o. share k (unsent o)) (known_old heads head i k (has_is ∙ e)) in
        omega (arith, later, same)

-- and any other keeps what it has
other_same : (heads : List ScanHead) (head : ScanHead) (i k : ℕ) → is_among i (head_components head) ≡ false → left_of_block (head ∷ heads) i k ≡ left_of_block heads i k
other_same heads head i zero none = refl
other_same heads head i (suc k) none =
    let e = ap (λ o. share k (unsent o)) (known_old heads head i k (ap (λ b. b && is_in head k) none)) in
    let later = other_same heads head i k none in
    omega (arith, e, later)

block_less : (heads : List ScanHead) (head : ScanHead) (i : ℕ) → Descends heads head → left_of_block (head ∷ heads) i 64 ≤ left_of_block heads i 64
block_less heads head i d = by (is_among i (head_components head)) refl
  where
    by : (b : Bool) → is_among i (head_components head) ≡ b → left_of_block (head ∷ heads) i 64 ≤ left_of_block heads i 64
    by true e = let h = named_less heads head i 64 d (omega arith) e in omega (arith, h)
    by false e = let h = other_same heads head i 64 e in omega (arith, h)

all_less : (heads : List ScanHead) (head : ScanHead) (n : ℕ) → Descends heads head → left_of_all (head ∷ heads) n ≤ left_of_all heads n
all_less heads head zero d = omega arith
all_less heads head (suc n) d =
    let h = all_less heads head n d in
    let k = block_less heads head n d in
    omega (arith, h, k)

pub all_fewer : (heads : List ScanHead) (head : ScanHead) (n i : ℕ) → Descends heads head → i < n → is_among i (head_components head) ≡ true → left_of_all (head ∷ heads) n + sent_of head 64 ≤ left_of_all heads n
all_fewer heads head zero i d l e = absurd (omega (arith, l))
all_fewer heads head (suc n) i d l e =
    ⊎_elim
    (λ (s : i < n). (let h = all_fewer heads head n i d s e in
    let k = block_less heads head n d in
    omega (arith, h, k)))
    (λ (s : n ≤ i). (let z : i ≡ n = omega (arith, l, s) in
    let h = named_less heads head n 64 d (omega arith) (ap (λ m. is_among m (head_components head)) (sym z) ∙ e) in
    let k = all_less heads head n d in
    omega (arith, h, k)))
    (cases_lt i n)

-- WHAT A SCAN SENDS: ten for DC, and one for each coefficient of a band

sent_more : (head : ScanHead) (k n : ℕ) → sent_of head k ≤ sent_of head (k + n)
sent_more head k zero = let e : k ≡ k + 0 = omega arith in let h = ap (sent_of head) e in omega (arith, h)
sent_more head k (suc n) =
    let e : k + suc n ≡ suc (k + n) = omega arith in
    let h = ap (sent_of head) e in
    let k' = sent_more head k n in
    omega (arith, h, k')

pub dc_sent : (head : ScanHead) → head.ss ≡ 0 → 10 ≤ sent_of head 64
dc_sent head z =
    let low : is_in head 0 ≡ true = ap (λ n. nat_le n 0 && nat_le 0 head.se) z ∙ zero_first head.se in
    let one = ap (λ b. cond b (share 0 1) 0) low in
    let more = sent_more head 1 63 in
    omega (arith, one, more)
  where
    zero_first : (n : ℕ) → nat_le 0 n ≡ true
    zero_first n = grind (arith, nat_tests)

band_sent : (head : ScanHead) (k : ℕ) → 1 ≤ head.ss → k ≤ head.se + 1 → k ≤ sent_of head k + head.ss
band_sent head zero some h = omega arith
band_sent head (suc zero) some h = omega (arith, some)
band_sent head (suc (suc k)) some h =
    let later = band_sent head (suc k) some (omega (arith, h)) in
    ⊎_elim
    (λ (l : suc k < head.ss). omega (arith, l))
    (λ (l : head.ss ≤ suc k). (let a : nat_le head.ss (suc k) ≡ true = grind (arith, nat_tests, l) in
    let b : nat_le (suc k) head.se ≡ true = grind (arith, nat_tests, h) in
    let e = ap (λ t. cond t (share (suc k) 1) 0) (ap (λ t. t && nat_le (suc k) head.se) a ∙ b) in
    omega (arith, later, e)))
    (cases_lt (suc k) head.ss)

pub band_is_sent : (head : ScanHead) → 1 ≤ head.ss → head.se ≤ 63 → head.se + 1 - head.ss ≤ sent_of head 64
band_is_sent head some high =
    let n = 64 - (head.se + 1) in
    let h = band_sent head (head.se + 1) some (omega arith) in
    let more = sent_more head (head.se + 1) n in
    let e : head.se + 1 + n ≡ 64 = omega (arith, high) in
    let whole = ap (sent_of head) e in
    omega (arith, h, more, whole)
