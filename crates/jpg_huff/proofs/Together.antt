-- Puts and sends one after another; and puts, and then a pad: the data of all their bits.
use Rattle.std.proofs.Common.{◌≡◌, ℕ, suc, ◌+◌, ◌-◌, ◌*◌, ◌%◌, Bool, true, List, [], ◌∷◌, ◌++◌, length, replicate, Result, Ok, Err, refl, sym, ap, ◌∙◌, subst, arith}
use Rattle.std.proofs.lemmas.List.{append_assoc, append-nil, length-append}
use Rattle.std.proofs.lemmas.List.Concat.{flat_map-append}
use Rattle.jpg_base.specs.Desk.{DeskState}
use Rattle.jpg_spec.specs.Bits.{number_from, whole_bytes, padded, data_of, stuffed, stuffed_byte}
use Rattle.jpg_base.specs.declared.stop.WriteFault.{WriteFault}
use Rattle.jpg_huff.specs.Out.{Emits}
use Rattle.jpg_huff.specs.Waiting.{Waiting}
use Rattle.jpg_huff.specs.BitOut.{FillBytes, Puts, Pads, CanSend, Sends}
use Rattle.jpg_huff.proofs.Emitted.{emits_then, emits_fault, emits_nothing, OnlyWrites-then, OnlyWrites-same}

-- the bytes of complete bytes and more
whole_bytes-append : (front rest : List Bool) (n : ℕ) → length front ≡ 8 * n → whole_bytes (front ++ rest) ≡ whole_bytes front ++ whole_bytes rest
unfolding whole_bytes
whole_bytes-append [] rest n e = refl
whole_bytes-append (a ∷ b ∷ c ∷ d ∷ f ∷ g ∷ h ∷ i ∷ front) rest (suc n) e = ap (λ (l : List ℕ). number_from 0 (a ∷ b ∷ c ∷ d ∷ f ∷ g ∷ h ∷ i ∷ []) ∷ l) (whole_bytes-append front rest n (omega arith))
whole_bytes-append front rest n e = absurd (omega (arith, e))

-- and so the bytes as they are in a file
pub stuffed-append : (front rest : List Bool) → FillBytes front → stuffed (whole_bytes (front ++ rest)) ≡ stuffed (whole_bytes front) ++ stuffed (whole_bytes rest)
stuffed-append front rest w = ap stuffed (whole_bytes-append front rest w.0 w.1) ∙ flat_map-append stuffed_byte (whole_bytes front) (whole_bytes rest)

-- the data of bits are those of complete bytes at their beginning, and of the rest
pub data-append : (front rest : List Bool) → FillBytes front → data_of (front ++ rest) ≡ stuffed (whole_bytes front) ++ data_of rest
data-append front rest w =
    let l : length (front ++ rest) ≡ length front + length rest = length-append front rest in
    let e : (8 - length (front ++ rest) % 8) % 8 ≡ (8 - length rest % 8) % 8 = omega (arith, l, w.1) in
    ap (λ m. stuffed (whole_bytes ((front ++ rest) ++ replicate m true))) e
    ∙ ap (λ bits. stuffed (whole_bytes bits)) (append_assoc front rest (replicate ((8 - length rest % 8) % 8) true))
    ∙ stuffed-append front (padded rest) w

whole-append : (xs ys : List Bool) → FillBytes xs → FillBytes ys → FillBytes (xs ++ ys)
whole-append xs ys v w = (v.0 + w.0, length-append xs ys ∙ omega (arith, v.1, w.1))

-- BITS

-- nothing was put
pub puts_nothing : (s : DeskState) (old : Waiting) → Puts s old [] (Ok tt) old s
unfolding whole_bytes
puts_nothing s old =
    record {
      kept = OnlyWrites-same s;
      front = [];
      rest = old.bits;
      all = append-nil old.bits;
      whole = (0, refl);
      bytes = emits_nothing s old.bytes;
      behind = refl;
    }

module _ (s0 s1 s2 : DeskState) where
  -- bits were put, and then more
  pub puts_then : (old mid new : Waiting) (xs ys : List Bool) (r : Result (Unit {0}) WriteFault) → Puts s0 old xs (Ok tt) mid s1 → Puts s1 mid ys r new s2
      → Puts s0 old (xs ++ ys) r new s2
  puts_then old mid new xs ys r h k =
      let P : List ℕ → Type 0 = λ due. Emits s0 old.bytes due r new.bytes s2 in
      record {
        kept = OnlyWrites-then s0 s1 s2 h.kept k.kept;
        front = h.front ++ k.front;
        rest = k.rest;
        all = sym (append_assoc old.bits xs ys) ∙ ap (λ b. b ++ ys) h.all ∙ append_assoc h.front h.rest ys ∙ ap (λ b. h.front ++ (b ++ ys)) (sym h.behind) ∙ ap (λ b. h.front ++ b) k.all
            ∙ sym (append_assoc h.front k.front k.rest);
        whole = whole-append h.front k.front h.whole k.whole;
        bytes = subst P (sym (stuffed-append h.front k.front h.whole))
            (emits_then s0 s1 s2 old.bytes (stuffed (whole_bytes h.front)) mid.bytes (stuffed (whole_bytes k.front)) new.bytes r h.kept h.bytes k.bytes);
        behind = k.behind;
      }

-- bits that come after a fault are pending too
pub puts_fault : (s0 s1 : DeskState) (old new : Waiting) (xs ys : List Bool) (fault : WriteFault) → Puts s0 old xs (Err fault) new s1 → Puts s0 old (xs ++ ys) (Err fault) new s1
puts_fault s0 s1 old new xs ys fault h =
    record {
      kept = h.kept;
      front = h.front;
      rest = h.rest ++ ys;
      all = sym (append_assoc old.bits xs ys) ∙ ap (λ b. b ++ ys) h.all ∙ append_assoc h.front h.rest ys;
      whole = h.whole;
      bytes = h.bytes;
      behind = h.behind;
    }

-- the same bits in another way
pub puts_same : (s0 s1 : DeskState) (old new : Waiting) (xs ys : List Bool) (r : Result (Unit {0}) WriteFault) → xs ≡ ys → Puts s0 old xs r new s1 → Puts s0 old ys r new s1
puts_same s0 s1 old new xs ys r e h = subst (λ x. Puts s0 old x r new s1) e h

-- bits were put while none waited, and the last byte was filled: their data were sent
pub puts_pad : (s0 s1 s2 : DeskState) (old mid new : Waiting) (xs : List Bool) (r : Result (Unit {0}) WriteFault) → old.bits ≡ [] → Puts s0 old xs (Ok tt) mid s1 → Pads s1 mid r new s2 → Sends s0 old (data_of xs) r new s2
puts_pad s0 s1 s2 old mid new xs r none h k =
    let P : List ℕ → Type 0 = λ due. Emits s0 old.bytes due r new.bytes s2 in
    let e : stuffed (whole_bytes h.front) ++ data_of mid.bits ≡ data_of xs =
    ap (λ b. stuffed (whole_bytes h.front) ++ data_of b) h.behind ∙ sym (data-append h.front h.rest h.whole) ∙ ap data_of (sym h.all) ∙ ap (λ b. data_of (b ++ xs)) none in
    record {
      kept = OnlyWrites-then s0 s1 s2 h.kept k.kept;
      bytes = subst P e (emits_then s0 s1 s2 old.bytes (stuffed (whole_bytes h.front)) mid.bytes (data_of mid.bits) new.bytes r h.kept h.bytes k.bytes);
      none = k.none;
    }

-- a fault came before the last byte was filled
pub puts_unpadded : (s0 s1 : DeskState) (old new : Waiting) (xs : List Bool) (fault : WriteFault) → old.bits ≡ [] → Puts s0 old xs (Err fault) new s1 → Sends s0 old (data_of xs) (Err fault) new s1
puts_unpadded s0 s1 old new xs fault none h =
    let P : List ℕ → Type 0 = λ due. Emits s0 old.bytes due (Err fault) new.bytes s1 in
    let e : stuffed (whole_bytes h.front) ++ data_of h.rest ≡ data_of xs = sym (data-append h.front h.rest h.whole) ∙ ap data_of (sym h.all) ∙ ap (λ b. data_of (b ++ xs)) none in
    record {
      kept = h.kept;
      bytes = subst P e (emits_fault s0 s1 old.bytes (stuffed (whole_bytes h.front)) (data_of h.rest) new.bytes fault h.bytes);
      none = h.behind;
    }

-- BYTES

-- nothing was sent
pub sends_nothing : (s : DeskState) (old : Waiting) → old.bits ≡ [] → Sends s old [] (Ok tt) old s
sends_nothing s old none = record { kept = OnlyWrites-same s; bytes = emits_nothing s old.bytes; none = none }

module _ (s0 s1 s2 : DeskState) where
  -- bytes were sent, and then more
  pub sends_then : (old mid new : Waiting) (xs ys : List ℕ) (r : Result (Unit {0}) WriteFault) → Sends s0 old xs (Ok tt) mid s1 → Sends s1 mid ys r new s2
      → Sends s0 old (xs ++ ys) r new s2
  sends_then old mid new xs ys r h k =
      record { kept = OnlyWrites-then s0 s1 s2 h.kept k.kept; bytes = emits_then s0 s1 s2 old.bytes xs mid.bytes ys new.bytes r h.kept h.bytes k.bytes; none = k.none }

-- bytes that come after a fault are pending too
pub sends_fault : (s0 s1 : DeskState) (old new : Waiting) (xs ys : List ℕ) (fault : WriteFault) → Sends s0 old xs (Err fault) new s1 → Sends s0 old (xs ++ ys) (Err fault) new s1
sends_fault s0 s1 old new xs ys fault h = record { kept = h.kept; bytes = emits_fault s0 s1 old.bytes xs ys new.bytes fault h.bytes; none = h.none }

-- the same bytes in another way
pub sends_same : (s0 s1 : DeskState) (old new : Waiting) (xs ys : List ℕ) (r : Result (Unit {0}) WriteFault) → xs ≡ ys → Sends s0 old xs r new s1 → Sends s0 old ys r new s1
sends_same s0 s1 old new xs ys r e h = subst (λ x. Sends s0 old x r new s1) e h

-- after bytes that were sent, more can be sent
pub can_after : (s0 s1 : DeskState) (old new : Waiting) (xs : List ℕ) → CanSend s0 old → Sends s0 old xs (Ok tt) new s1 → CanSend s1 new
can_after s0 s1 old new xs c h = record { created = h.kept.output_created ∙ c.created; none = h.none }
