-- The zeros after the last value of a band that isn't 0, found by the bits of a word.
use Rattle.std.proofs.Common.{◌≡◌, ℕ, zero, suc, ◌+◌, ◌-◌, ◌/◌, ◌%◌, ◌==◌, ◌^◌, ◌<◌, ◌≤◌, Bool, true, false, cond, List, [], ◌∷◌, ◌++◌, length, refl, sym, ap, ◌∙◌, arith, ℤ, pos, negsuc, ◌||◌, ⊎_elim}
use Rattle.std.specs.Prelude.{slice_index_or, nat_lt, if◌then◌else◌}
use Rattle.std.specs.Int.{bit_at}
use Rattle.std.specs.Int.{trailing_zeros}
use lib.Count.{count_leading_zeros}
use mir.Syntax.{w64}
use Rattle.std.proofs.Math.Nat.{div-le_self}
use Rattle.std.proofs.lemmas.Bool.{cases_lt}
use Rattle.std.proofs.lemmas.List.{append-nil}
use Rattle.std.proofs.lemmas.Nat.{shr-shr, leading_top}
use Rattle.std.proofs.lemmas.Nat.Bits.{bit_at-suc, bit_at-zero, bit_at_above, bit_at-trailing_zeros}
use Rattle.jpg_spec.specs.Elements.{is_zero}
use Rattle.jpg_spec.specs.Lists.{any_of}
use Rattle.jpg_spec_write.specs.Sending.{Sent, correction, newly_significant, sent, is_new, corrections_of, value_elements}
use Rattle.jpg_prog_write.specs.Bands.{sents, ends_new}
use Rattle.jpg_prog_write.specs.declared.band.Band.{Band}
use Rattle.jpg_prog_write.proofs.Fronts.{sent_at, sents_step, sents_none, ends_tail}
use Rattle.jpg_prog_write.proofs.Values.{zero_next}

-- BITS

shifted_bit : (s n i : ℕ) → bit_at n (s + i) ≡ bit_at (n / 2 ^ s) i
shifted_bit zero n i = (let e : n ≡ n / 2 ^ 0 = omega arith in let k : 0 + i ≡ i = omega arith in ap (bit_at n) k ∙ ap (λ m. bit_at m i) e)
shifted_bit (suc s) n i =
    let k : suc s + i ≡ suc (s + i) = omega arith in
    let more : 1 + s ≡ suc s = omega arith in
    ap (bit_at n) k ∙ bit_at-suc n (s + i) ∙ shifted_bit s (n / 2) i ∙ ap (λ m. bit_at m i) (shr-shr n 1 s ∙ ap (λ m. n / 2 ^ m) more)

div_less : (n d : ℕ) → n / d ≤ n
div_less n d = div-le_self n d

after_top : (n i : ℕ) → n < 2 ^ 64 → 64 - count_leading_zeros 64 n ≤ i → bit_at n i ≡ 0
after_top zero i few h = bit_at-zero i
after_top (suc n) i few h =
    let t = leading_top 64 (suc n) (omega arith) few in
    bit_at_above (suc n) (suc t.0) i t.3 (omega (arith, h, t.1))

pub no_bit : (m start k : ℕ) → m < 2 ^ 64 → start + (64 - count_leading_zeros 64 (m / 2 ^ start)) ≤ k → bit_at m k ≡ 0
no_bit m start k few h =
    let e : start + (k - start) ≡ k = omega (arith, h) in
    ap (bit_at m) (sym e) ∙ shifted_bit start m (k - start) ∙ after_top (m / 2 ^ start) (k - start) (omega (arith, few, div_less m (2 ^ start))) (omega (arith, h))

-- no bit, no value
pub no_value : (v : ℤ) (bit : ℕ) → bit ≡ (if is_zero v then 0 else 1) → bit ≡ 0 → is_zero v ≡ true
no_value v bit is none = by (is_zero v) (sym is ∙ none)
  where
    by : (b : Bool) → (let n : ℕ = if b then 0 else 1 in n) ≡ 0 → b ≡ true
    by true e = refl
    by false e = cc

-- ZEROS aren't newly sent

zero_over : (m : ℕ) → 0 / m ≡ 0
zero_over m = omega arith

zero_sent : (r : Bool) (al : ℕ) → is_new (sent r al (pos 0)) ≡ false
zero_sent false al = ap (λ n. is_new (newly_significant (pos n))) (zero_over (2 ^ al))
zero_sent true al =
    ap (λ n. is_new (cond (nat_lt 1 n) (correction (n % 2 == 1)) (newly_significant (pos n)))) (zero_over (2 ^ al))

is_null : (v : ℤ) → is_zero v ≡ true → v ≡ pos 0
is_null (pos zero) e = refl
is_null (pos (suc n)) e = cc
is_null (negsuc n) e = cc

zeros_back : (band : Band) (n from end : ℕ) (block : List ℤ) → from + n ≡ end → end ≤ length block → ((k : ℕ) → from ≤ k → k < end → is_zero (slice_index_or block k (pos 0)) ≡ true) → any_of is_new (sents band from end block) ≡ false
zeros_back band zero from end block e inside h = ap (any_of is_new) (sents_none band from end block (omega (arith, e)))
zeros_back band (suc n) from end block e inside h =
    let here : is_new (sent_at band block from) ≡ false = ap (λ v. is_new (sent band.refines band.al v)) (is_null (slice_index_or block from (pos 0)) (h from (omega arith) (omega (arith, e)))) ∙ zero_sent band.refines band.al in
    ap (any_of is_new) (sents_step band from end block (omega (arith, e)) inside) ∙ ap (λ b. b || any_of is_new (sents band (from + 1) end block)) here
    ∙ zeros_back band n (from + 1) end block (omega (arith, e)) inside (λ k low high. h k (omega (arith, low)) high)

zero_waits : (r : Bool) (al : ℕ) (later : List Sent) → corrections_of (sent r al (pos 0) ∷ later) ≡ corrections_of later
zero_waits false al later = refl
zero_waits true al later = ap (λ n. (let s : Sent = cond (nat_lt 1 n) (correction (n % 2 == 1)) (newly_significant (pos n)) in corrections_of (s ∷ later))) (zero_over (2 ^ al))

waits_back : (band : Band) (n from end : ℕ) (block : List ℤ) → from + n ≡ end → end ≤ length block → ((k : ℕ) → from ≤ k → k < end → is_zero (slice_index_or block k (pos 0)) ≡ true) → corrections_of (sents band from end block) ≡ []
waits_back band zero from end block e inside h = ap corrections_of (sents_none band from end block (omega (arith, e)))
waits_back band (suc n) from end block e inside h =
    let later = sents band (from + 1) end block in
    ap corrections_of (sents_step band from end block (omega (arith, e)) inside)
    ∙ ap (λ v. corrections_of (sent band.refines band.al v ∷ later)) (is_null (slice_index_or block from (pos 0)) (h from (omega arith) (omega (arith, e))))
    ∙ zero_waits band.refines band.al later ∙ waits_back band n (from + 1) end block (omega (arith, e)) inside (λ k low high. h k (omega (arith, low)) high)

-- no corrections of zeros
pub none_wait : (band : Band) (from end : ℕ) (block : List ℤ) (bits : List Bool) → end ≤ length block → ((k : ℕ) → from ≤ k → k < end → is_zero (slice_index_or block k (pos 0)) ≡ true) → bits ≡ bits ++ corrections_of (sents band from end block)
none_wait band from end block bits inside h =
    sym (append-nil bits) ∙ ap (λ x. bits ++ x) (sym (⊎_elim (λ (f : from < end). waits_back band (end - from) from end block (omega (arith, f)) inside h) (λ (f : end ≤ from). ap corrections_of (sents_none band from end block f)) (cases_lt from end)))

pub none_new : (band : Band) (from end : ℕ) (block : List ℤ) → from ≤ end → end ≤ length block → ((k : ℕ) → from ≤ k → k < end → is_zero (slice_index_or block k (pos 0)) ≡ true) → any_of is_new (sents band from end block) ≡ false
none_new band from end block order inside h = zeros_back band (end - from) from end block (omega (arith, order)) inside h

-- ZEROS that are skipped at once

pub marked_zero : (m at i : ℕ) → m < 2 ^ 64 → i < trailing_zeros w64 (m / 2 ^ at) → bit_at m (at + i) ≡ 0
marked_zero m at i few h = shifted_bit at m i ∙ by (m / 2 ^ at) (omega (arith, few, div_less m (2 ^ at))) h
  where
    by : (n : ℕ) → n < 2 ^ 64 → i < trailing_zeros w64 n → bit_at n i ≡ 0
    by zero l t = bit_at-zero i
    by (suc n) l t = (bit_at-trailing_zeros w64 (suc n) (omega arith) l).2 i t

zero_is_sent : (r : Bool) (al : ℕ) → sent r al (pos 0) ≡ newly_significant (pos 0)
zero_is_sent false al = ap (λ n. newly_significant (pos n)) (zero_over (2 ^ al))
zero_is_sent true al = ap (λ n. (let s : Sent = cond (nat_lt 1 n) (correction (n % 2 == 1)) (newly_significant (pos n)) in s)) (zero_over (2 ^ al))

first_zero : (band : Band) (from : ℕ) (block : List ℤ) → is_zero (slice_index_or block from (pos 0)) ≡ true → sent_at band block from ≡ newly_significant (pos 0)
first_zero band from block e = ap (sent band.refines band.al) (is_null (slice_index_or block from (pos 0)) e) ∙ zero_is_sent band.refines band.al

pub record Passes (band : Band) (from next last : ℕ) (block : List ℤ) (run more : ℕ) (bits : List Bool) : Type 0 where
  pub same : value_elements run bits (sents band from last block) ≡ value_elements more bits (sents band next last block)
  pub front : ends_new (sents band next last block) ≡ true

pub pass_zeros : (band : Band) (n from last : ℕ) (block : List ℤ) (run : ℕ) (bits : List Bool) → from + n < last → last ≤ length block → run + n ≤ 15 → ends_new (sents band from last block) ≡ true
    → ((k : ℕ) → from ≤ k → k < from + n → is_zero (slice_index_or block k (pos 0)) ≡ true) → Passes band from (from + n) last block run (run + n) bits
pass_zeros band zero from last block run bits some inside few front zeros =
    let e : from ≡ from + 0 = omega arith in
    let r : run ≡ run + 0 = omega arith in
    record {
      same = ap (λ k. value_elements k bits (sents band from last block)) r ∙ ap (λ k. value_elements (run + 0) bits (sents band k last block)) e;
      front = ap (λ k. ends_new (sents band k last block)) (sym e) ∙ front;
    }
pass_zeros band (suc n) from last block run bits some inside few front zeros =
    let later = sents band (from + 1) last block in
    let one : sents band from last block ≡ newly_significant (pos 0) ∷ later =
    sents_step band from last block (omega (arith, some)) inside ∙ ap (λ s. s ∷ later) (first_zero band from block (zeros from (omega arith) (omega arith))) in
    let f : ends_new (newly_significant (pos 0) ∷ later) ≡ true = ap ends_new (sym one) ∙ front in
    let ih = pass_zeros band n (from + 1) last block (run + 1) bits (omega (arith, some)) inside (omega (arith, few)) (ends_tail (newly_significant (pos 0)) later f) (λ k low high. zeros k (omega (arith, low)) (omega (arith, high))) in
    let e : from + 1 + n ≡ from + suc n = omega arith in
    let r : run + 1 + n ≡ run + suc n = omega arith in
    record {
      same = ap (value_elements run bits) one ∙ zero_next run bits later (λ (x : run ≡ 15). (omega (arith, x, few))) ∙ ih.same
          ∙ ap (λ k. value_elements k bits (sents band (from + 1 + n) last block)) r ∙ ap (λ k. value_elements (run + suc n) bits (sents band k last block)) e;
      front = ap (λ k. ends_new (sents band k last block)) (sym e) ∙ ih.front;
    }
