use Rattle.std.proofs.Common.{rules, ◌≡◌, ℤ, ◌+◌, ◌*◌, ◌/◌, ◌%◌, length, take, ap, refl, ◌∙◌, subst, arith, inl, inr, ◌⊎◌, ⊎_elim, ◌<◌, ◌≤◌, Contains, w16, to_z-of_z}
use Rattle.jpg_spec.proofs.Basics.Strings.{length-bits_of}
use Rattle.jpg_seq.specs.Values.{BeginsWithShortValue}
use Rattle.jpg_seq.proofs.Takings.{none_symbol, none_part, none_begins}
use Rattle.jpg_seq.proofs.values.entry_by.Goals as goal
use Rattle.jpg_seq.proofs.values.entry_by.Goals.{else-size-gt0-via-then-size-gt0+else-length-size-le10, else-size-gt0-via-else-size-gt0}

pub peek_after-requires-clause-there : goal.peek_after-requires-clause-there
peek_after-requires-clause-there c = omega (arith, ap length c.ten_bits-bits.ensures, length-bits_of 10 c.args.ten, c.if-length-size-le10.true)

pub returns-then-length-size-le10 : goal.returns-then-length-size-le10
returns-then-length-size-le10 c =
    let n = c.in-Symbol.length in let symbol = c.in-Symbol.symbol in let size = symbol % 16 in
    let s = c.in-Symbol.ensures in
    let v : ℤ = c.extend.result in
    let split : symbol ≡ 16 * (symbol / 16) + size = omega arith in
    let found : BeginsWithShortValue c.args.codes.now c.ten_bits-bits.result (record { value = v; run = symbol / 16; length = n + size }) = record {
      code = n;
      size = size;
      some = s.0;
      sized = omega (arith, c.if-size-gt0.true);
      sum = refl;
      few = c.if-length-size-le10.true;
      there = omega (arith, ap length c.ten_bits-bits.ensures, length-bits_of 10 c.args.ten, c.if-length-size-le10.true);
      run = search rules;
      in_codes = subst (λ k. Contains c.args.codes.now (take n c.ten_bits-bits.result, k)) split s.3;
      category = c.extend.ensures.category;
      extra = c.extend.ensures.extra ∙ c.peek_after.ensures.value;
    } in
    rw (to_z-of_z {w = w16} {z = v} (search rules)) (inr (inl (rw c.ten_bits-bits.ensures at found)))

pub returns-else-size-gt0 : goal.returns-else-size-gt0
returns-else-size-gt0 c =
    let n = c.in-Symbol.length in let symbol = c.in-Symbol.symbol in let s = c.in-Symbol.ensures in
    let past : (symbol % 16 ≡ 0) ⊎ (10 < n + symbol % 16) =
    elim c.else-size-gt0.branch [ else-size-gt0-via-then-size-gt0+else-length-size-le10 w ↦ inr (omega (arith, w.if-length-size-le10.false)) | else-size-gt0-via-else-size-gt0 w ↦ inl (omega (arith, w.if-size-gt0.false)) ] in
    let none = none_symbol c.args.codes.now c.ten_bits-bits.result n symbol c.apart.ensures.one s.2 s.3 c.if-symbol-eq0.false (λ h. ⊎_elim (λ (a : symbol % 16 ≡ 0). omega (arith, a, h.0)) (λ (b : 10 < n + symbol % 16). omega (arith, b, h.1)) past) in
    inl (c.no_short_value.ensures, rw c.ten_bits-bits.ensures at none)

pub returns-then-symbol-eq0 : goal.returns-then-symbol-eq0
returns-then-symbol-eq0 c =
    let s = c.in-Symbol.ensures in
    let few : c.in-Symbol.length ≤ 10 = omega (arith, s.2, ap length c.ten_bits-bits.ensures, length-bits_of 10 c.args.ten) in
    inr (inr (record { some = s.0; few = few; there = rw c.ten_bits-bits.ensures at s.2; run = refl; in_codes = rw (c.if-symbol-eq0.true, c.ten_bits-bits.ensures) at s.3 }))

pub returns-in-Part : goal.returns-in-Part
returns-in-Part c = inl (c.no_short_value-in-Part.ensures, rw c.ten_bits-bits.ensures at (none_part c.args.codes.now c.ten_bits-bits.result c.apart.ensures.one c.in-Part.ensures.0))

pub returns-in-NoCode : goal.returns-in-NoCode
returns-in-NoCode c =
    let s = c.in-NoCode.ensures in
    inl (c.no_short_value-in-NoCode.ensures, rw c.ten_bits-bits.ensures at (none_begins c.args.codes.now c.ten_bits-bits.result c.in-NoCode.length c.apart.ensures.one s.0 s.1 s.2 s.3))
