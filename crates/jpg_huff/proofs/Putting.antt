-- What putting bits does.
use Rattle.std.proofs.Common.{◌≡◌, ℕ, zero, suc, ◌+◌, ◌-◌, ◌*◌, ◌/◌, ◌%◌, ◌^◌, ◌<◌, ◌≤◌, Bool, true, List, [], ◌∷◌, ◌++◌, replicate, Result, Ok, Err, refl, sym, ap, ◌∙◌, subst, arith, ◌==◌, ⊎_elim}
use Rattle.std.proofs.lemmas.List.{append-nil, append_assoc}
use Rattle.std.proofs.lemmas.Nat.{shl_whole, one_shl, shr_split, mul-add-lt, pow-add, pow_pos, pow_below}
use Rattle.std.proofs.lemmas.Bool.{cases_lt}
use Rattle.std.proofs.Math.Nat.{pow-succ', div-lt_iff_lt-mul}
use Rattle.jpg_base.specs.Desk.{DeskState}
use Rattle.jpg_spec.specs.Bits.{bits_of, whole_bytes, padded, stuffed, stuffed_byte}
use Rattle.jpg_base.specs.declared.stop.WriteFault.{WriteFault}
use Rattle.jpg_huff.specs.Out.{Emits, OnlyWrites}
use Rattle.jpg_huff.specs.Waiting.{Waiting}
use Rattle.jpg_huff.specs.BitOut.{Puts, Pads}
use Rattle.jpg_spec.proofs.Basics.Strings.{length-bits_of}
use Rattle.jpg_huff.proofs.Emitted.{emits_nothing, OnlyWrites-same}
use Rattle.jpg_base.proofs.BitsAt.{bits_of-add, bits_of-beside, bits_of-low, bits_of-mod}
use Rattle.jpg_huff.proofs.Packed.{whole_bytes-front}

-- a byte of the low `left` bits, and those after it
pub whole_step : (left n : ℕ) → 8 ≤ left → stuffed (whole_bytes (bits_of left n)) ≡ stuffed_byte (n / 2 ^ (left - 8) % 256) ++ stuffed (whole_bytes (bits_of (left - 8) n))
whole_step left n h =
    let e : left ≡ 8 + (left - 8) = omega arith in
    ap stuffed (ap (λ m. whole_bytes (bits_of m n)) e ∙ ap whole_bytes (bits_of-add 8 (left - 8) n) ∙ whole_bytes-front (n / 2 ^ (left - 8)) (bits_of (left - 8) n))

-- the number of all bits
pub number_is : (a c k b v : ℕ) → a < 2 ^ c → c + k ≤ 64 → v ≡ b → (a * 2 ^ k) % 2 ^ 64 + v ≡ a * 2 ^ k + b
number_is a c k b v h1 h2 e = ap (λ x. x + v) (shl_whole a c k 64 h1 h2) ∙ ap (λ x. a * 2 ^ k + x) e

-- that of a code and the bits after it
pub code_number : (a c k b v : ℕ) → c ≤ 16 → a < 2 ^ c → k ≤ 16 → v ≡ a → (v * 2 ^ k) % 2 ^ 32 + b ≡ a * 2 ^ k + b
code_number a c k b v h1 h2 h3 e = ap (λ x. (x * 2 ^ k) % 2 ^ 32 + b) e ∙ ap (λ x. x + b) (shl_whole a c k 32 h2 (omega arith))

pub number_fits : (a c k b n : ℕ) → a < 2 ^ c → b < 2 ^ k → n ≡ a * 2 ^ k + b → n < 2 ^ (c + k)
number_fits a c k b n h1 h4 e =
    let f : a * 2 ^ k + b < 2 ^ k * 2 ^ c = mul-add-lt a (2 ^ k) b (2 ^ c) h1 h4 in
    let p : 2 ^ (k + c) ≡ 2 ^ k * 2 ^ c = pow-add 2 k c in
    let q : c + k ≡ k + c = omega arith in
    let r : 2 ^ (c + k) ≡ 2 ^ (k + c) = ap (λ m. 2 ^ m) q in
    omega arith

pub all_bits : (a c k b n : ℕ) → b < 2 ^ k → n ≡ a * 2 ^ k + b → bits_of (c + k) n ≡ bits_of c a ++ bits_of k b
all_bits a c k b n h e = ap (bits_of (c + k)) e ∙ bits_of-beside c k a b h

-- those that remain
low_bits : (t n : ℕ) → t < 64 → bits_of t (n % ((1 * 2 ^ t) % 2 ^ 64)) ≡ bits_of t n
low_bits t n l =
    let p : (1 * 2 ^ t) % 2 ^ 64 ≡ 2 ^ t = one_shl t 64 l in
    ap (λ m. bits_of t (n % m)) p ∙ sym (bits_of-low t (n / 2 ^ t) (n % 2 ^ t)) ∙ ap (bits_of t) (shr_split n t)

-- a number below a power, over a lower power
pub high_below : (b r t : ℕ) → b < 2 ^ (r + t) → b / 2 ^ t < 2 ^ r
high_below b r t h =
    let p : b < 2 ^ r * 2 ^ t = subst (λ n. b < n) (pow-add 2 r t) h in
    (div-lt_iff_lt-mul (pow_pos t)).1 p

-- 64 bits: those that wait, and the first of those that come, of which t are left
filled_number : (a c r t b v : ℕ) → a < 2 ^ c → c + r ≡ 64 → v ≡ b → (a * 2 ^ r) % 2 ^ 64 + v / 2 ^ t ≡ a * 2 ^ r + b / 2 ^ t
filled_number a c r t b v h s e = number_is a c r (b / 2 ^ t) (v / 2 ^ t) h (omega arith) (ap (λ x. x / 2 ^ t) e)

pub filled_fits : (a c r t b v : ℕ) → a < 2 ^ c → c + r ≡ 64 → b < 2 ^ (r + t) → v ≡ b → (a * 2 ^ r) % 2 ^ 64 + v / 2 ^ t < 2 ^ 64
filled_fits a c r t b v h s below e =
    subst (λ n. (a * 2 ^ r) % 2 ^ 64 + v / 2 ^ t < 2 ^ n) s (number_fits a c r (b / 2 ^ t) _ h (high_below b r t below) (filled_number a c r t b v h s e))

pub filled_bits : (a c r t b v : ℕ) → a < 2 ^ c → c + r ≡ 64 → b < 2 ^ (r + t) → v ≡ b
    → bits_of 64 ((a * 2 ^ r) % 2 ^ 64 + v / 2 ^ t) ++ bits_of t b ≡ bits_of c a ++ bits_of (r + t) b
filled_bits a c r t b v h s below e =
    let n = (a * 2 ^ r) % 2 ^ 64 + v / 2 ^ t in
    let first : bits_of 64 n ≡ bits_of c a ++ bits_of r (b / 2 ^ t) =
    ap (λ m. bits_of m n) (sym s) ∙ all_bits a c r (b / 2 ^ t) n (high_below b r t below) (filled_number a c r t b v h s e) in
    ap (λ x. x ++ bits_of t b) first ∙ append_assoc (bits_of c a) (bits_of r (b / 2 ^ t)) (bits_of t b) ∙ ap (λ x. bits_of c a ++ x) (sym (bits_of-add r t b))

-- a number of bits that wait, the bits that come behind them, and the number of all
pub record JoinedBits : Type 0 where
  pub word : ℕ
  pub count : ℕ
  pub more : ℕ
  pub bits : ℕ
  pub all : ℕ
  pub fits : bits < 2 ^ more
  pub joined : all ≡ word * 2 ^ more + bits

pub puts_held : (s : DeskState) (old : Waiting) (held : List ℕ) (j : JoinedBits) → record { bytes = held; bits = bits_of j.count j.word } ≡ old
    → Puts s old (bits_of j.more j.bits) (Ok tt) (record { bytes = held; bits = bits_of (j.count + j.more) j.all }) s
unfolding whole_bytes
puts_held s old held j view =
    let Q : Waiting → Type 0 = λ w. Puts s w (bits_of j.more j.bits) (Ok tt) (record { bytes = held; bits = bits_of (j.count + j.more) j.all }) s in
    subst Q view (record {
      kept = OnlyWrites-same s;
      front = [];
      rest = bits_of (j.count + j.more) j.all;
      all = sym (all_bits j.word j.count j.more j.bits j.all j.fits j.joined);
      whole = (0, refl);
      bytes = emits_nothing s held;
      behind = refl;
    })

-- bits that wait, the bits that come after them, and the first 64 of them
pub record FilledBits : Type 0 where
  pub word : ℕ
  pub count : ℕ
  pub more : ℕ
  pub bits : ℕ
  pub first : ℕ
  pub enough : 64 ≤ count + more
  pub few : count + more < 128
  pub filled : bits_of 64 first ++ bits_of (count + more - 64) bits ≡ bits_of count word ++ bits_of more bits

-- the bits after the first 64
abbrev over : FilledBits → ℕ
over j = j.count + j.more - 64

pub puts_out : (s0 s1 : DeskState) (old : Waiting) (held new : List ℕ) (j : FilledBits) (v : ℕ) → record { bytes = held; bits = bits_of j.count j.word } ≡ old
    → v ≡ j.bits → OnlyWrites s0 s1 → Emits s0 held (stuffed (whole_bytes (bits_of 64 j.first))) (Ok tt) new s1
    → Puts s0 old (bits_of j.more j.bits) (Ok tt) (record { bytes = new; bits = bits_of (over j) (v % ((1 * 2 ^ over j) % 2 ^ 64)) }) s1
puts_out s0 s1 old held new j v view e kept emits =
    let t : over j < 64 = omega (arith, j.enough, j.few) in
    let Q : Waiting → Type 0 = λ w. Puts s0 w (bits_of j.more j.bits) (Ok tt) (record { bytes = new; bits = bits_of (over j) (v % ((1 * 2 ^ over j) % 2 ^ 64)) }) s1 in
    subst Q view (record {
      kept = kept;
      front = bits_of 64 j.first;
      rest = bits_of (over j) j.bits;
      all = sym j.filled;
      whole = (8, length-bits_of 64 j.first);
      bytes = emits;
      behind = low_bits (over j) v t ∙ ap (bits_of (over j)) e;
    })

pub puts_fault : (s0 s1 : DeskState) (old : Waiting) (held new : List ℕ) (j : FilledBits) (fault : WriteFault)
    → record { bytes = held; bits = bits_of j.count j.word } ≡ old → OnlyWrites s0 s1
    → Emits s0 held (stuffed (whole_bytes (bits_of 64 j.first))) (Err fault) new s1
    → Puts s0 old (bits_of j.more j.bits) (Err fault) (record { bytes = new; bits = [] }) s1
unfolding bits_of
puts_fault s0 s1 old held new j fault view kept emits =
    let Q : Waiting → Type 0 = λ w. Puts s0 w (bits_of j.more j.bits) (Err fault) (record { bytes = new; bits = [] }) s1 in
    subst Q view (record {
      kept = kept;
      front = bits_of 64 j.first;
      rest = bits_of (over j) j.bits;
      all = sym j.filled;
      whole = (8, length-bits_of 64 j.first);
      bytes = emits;
      behind = refl;
    })

-- ones at the end
replicate_push : (f : ℕ) → replicate f true ++ true ∷ [] ≡ true ∷ replicate f true
replicate_push zero = refl
replicate_push (suc f) = ap (λ (l : List Bool). true ∷ l) (replicate_push f)

ones : (f : ℕ) → bits_of f (2 ^ f - 1) ≡ replicate f true
unfolding bits_of
ones zero = refl
ones (suc f) =
    let p : 2 ^ suc f ≡ 2 * 2 ^ f = pow-succ' 2 f in
    let q : 0 < 2 ^ f = pow_pos f in
    let h : (2 ^ suc f - 1) / 2 ≡ 2 ^ f - 1 = omega arith in
    let r : (2 ^ suc f - 1) % 2 ≡ 1 = omega arith in
    ap (λ m. bits_of f m ++ ((2 ^ suc f - 1) % 2 == 1) ∷ []) h ∙ ap (λ m. bits_of f (2 ^ f - 1) ++ (m == 1) ∷ []) r ∙ ap (λ (x : List Bool). x ++ true ∷ []) (ones f) ∙ replicate_push f

pub pad_number : (a c f : ℕ) → a < 2 ^ c → c + f ≤ 64 → f < 8 → (a * 2 ^ f) % 2 ^ 64 + ((1 * 2 ^ f) % 2 ^ 64 - 1) ≡ a * 2 ^ f + (2 ^ f - 1)
pad_number a c f h1 h2 h3 = number_is a c f (2 ^ f - 1) ((1 * 2 ^ f) % 2 ^ 64 - 1) h1 h2 (ap (λ m. m - 1) (one_shl f 64 (omega arith)))

pub pad_fits : (a c f n : ℕ) → a < 2 ^ c → c + f ≤ 64 → n ≡ a * 2 ^ f + (2 ^ f - 1) → n < 2 ^ 64
pad_fits a c f n h s e =
    let q : 0 < 2 ^ f = pow_pos f in
    let fits : n < 2 ^ (c + f) = number_fits a c f (2 ^ f - 1) n h (omega (arith, q)) e in
    ⊎_elim (λ (low : c + f < 64). (let p : 2 ^ (c + f) < 2 ^ 64 = pow_below (c + f) 64 low in omega (arith, fits, p)))
    (λ (high : 64 ≤ c + f). (let same : c + f ≡ 64 = omega (arith, s, high) in subst (λ m. n < 2 ^ m) same fits)) (cases_lt (c + f) 64)

-- the bits of a number with those ones behind them
pad_bits : (a c n : ℕ) → n ≡ a * 2 ^ ((8 - c % 8) % 8) + (2 ^ ((8 - c % 8) % 8) - 1) → bits_of (c + (8 - c % 8) % 8) n ≡ padded (bits_of c a)
pad_bits a c n e =
    let f = (8 - c % 8) % 8 in
    let q : 0 < 2 ^ f = pow_pos f in
    all_bits a c f (2 ^ f - 1) n (omega arith) e ∙ ap (λ x. bits_of c a ++ x) (ones f ∙ ap (λ m. replicate ((8 - m % 8) % 8) true) (sym (length-bits_of c a)))

module _ (s0 s1 : DeskState) (old : Waiting) (held new : List ℕ) where
  pub pads : (r : Result (Unit {0}) WriteFault) (a c n : ℕ) → record { bytes = held; bits = bits_of c a } ≡ old
      → n ≡ a * 2 ^ ((8 - c % 8) % 8) + (2 ^ ((8 - c % 8) % 8) - 1) → OnlyWrites s0 s1
      → Emits s0 held (stuffed (whole_bytes (bits_of (c + (8 - c % 8) % 8) n))) r new s1 → Pads s0 old r (record { bytes = new; bits = [] }) s1
  unfolding bits_of
  pads r a c n view e kept emits =
      let Q : Waiting → Type 0 = λ w. Pads s0 w r (record { bytes = new; bits = [] }) s1 in
      let P : List Bool → Type 0 = λ x. Emits s0 held (stuffed (whole_bytes x)) r new s1 in
      subst Q view (record { kept = kept; bytes = subst P (pad_bits a c n e) emits; none = refl })
